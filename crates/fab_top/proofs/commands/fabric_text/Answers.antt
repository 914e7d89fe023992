use Rattle.fab_top.proofs.Generating.{text_found}
use Rattle.fab_top.proofs.commands.fabric_text.Goals as goal

pub returns : goal.returns
returns c = text_found c.args.fabric.now _ _ c.in_ok-text.ensures.text (c.in_ok-text.ensures.again c.requires) c.done.ensures.answer c.done.ensures.can_be_put

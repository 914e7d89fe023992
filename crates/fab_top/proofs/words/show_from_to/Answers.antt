use Rattle.std.proofs.Common.{sym, ◌∙◌}
use Rattle.fab_top.proofs.Wording.{show_both}
use Rattle.fab_top.proofs.words.show_from_to.Goals as goal

pub returns : goal.returns
returns c = show_both _ _ c.in_ok-from.from c.in_ok-to.to (sym c.in_ok-from.was ∙ c.lid_in.ensures) (sym c.in_ok-to.was ∙ c.lid_in-2.ensures)

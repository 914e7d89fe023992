use Rattle.std.specs.Prelude.{slice_get}
use Rattle.std.proofs.lemmas.Result.{on_ok_weaker}
use Rattle.fab_top.proofs.Appends.{on_last}
use Rattle.fab_top.proofs.Loading.{line_pushed}
use Rattle.fab_top.proofs.report_texts.push_load_line.Goals as goal

pub returns : goal.returns
returns c = on_ok_weaker c.extend_from_slice-2.result
    (λ e. line_pushed c.args.fabric.now c.args.loads.now c.args.c.0 c.of.result (slice_get c.args.fabric.now.channels c.args.c.0) _ _ _ _ _ c.of.ensures
    c.in_ok-push_channel.ensures c.in_ok-extend_from_slice.ensures.items c.in_ok-push_dec.ensures.ok e)
    (on_last c.extend_from_slice-2.result _ _ _ c.extend_from_slice-2.ensures.items)

use Rattle.std.proofs.Common.{sym, ◌∙◌, arith}
use Rattle.std.proofs.lemmas.List.{append-nil}
use Rattle.fab_model.proofs.Cables.{no_channel, unlisted_step}
use Rattle.fab_model.proofs.fabric.without.unlisted.Goals as goal
use Rattle.fab_model.proofs.fabric.without.unlisted.Goals.{then-not-listed-index+in_ok-push, else-not-listed-index}

pub loop-index-preserved : goal.loop-index-preserved
loop-index-preserved c = λ is_listed listed.
    let step = unlisted_step is_listed c.args.rows.now c.loop-index.kept.items c.args.listed.now c.loop-index.index no_channel (omega arith) listed (c.loop-index.invariant is_listed listed) in
    elim c.if-not-listed-index.branch [
      | then-not-listed-index+in_ok-push w ↦
          let pushed = rw w.if-not-listed-index.true at step in
          rw (w.kept-is, w.in_ok-push.ensures.items) pushed
      | else-not-listed-index w ↦
          let same = rw w.if-not-listed-index.false at step in
          rw w.kept-is (sym (append-nil c.loop-index.kept.items) ∙ same)
    ]

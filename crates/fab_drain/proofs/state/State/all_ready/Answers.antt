use Rattle.std.proofs.Common.{◌≡◌, ◌∙◌, ◌+◌, ◌<◌, length, sym, ap, subst, arith, None}
use Rattle.std.specs.Prelude.{slice_index_or}
use Rattle.std.proofs.lemmas.List.{get_or_read}
use Rattle.fab_drain.specs.Loads.{Load}
use Rattle.fab_drain.specs.declared.turns.Turns.{Turns}
use Rattle.fab_drain.proofs.Readying.{AreReady, one_ready, none_there}
use Rattle.fab_drain.proofs.WalkedRings.{is_none}
use Rattle.fab_drain.proofs.state.State.all_ready.Goals as goal
use Rattle.fab_drain.proofs.state.State.all_ready.Goals.{then-is_some+in_ok-insert, else-is_some}

pub loop-number-preserved : goal.loop-number-preserved
loop-number-preserved c =
    let load = c.args.self.now in
    let k = c.loop-number.number in
    let cells = ap (λ (l : Load). l.cells) c.self.view_is in
    let within : k < length c.self.inside.cells.items = omega (arith, c.loop-number-test.true, c.len-count.ensures) in
    let low : k < length load.cells = omega (arith, within, ap length cells) in
    elim c.if-is_some.branch [
      | then-is_some+in_ok-insert w ↦ record {
        ready = subst (λ (turns : Turns). AreReady load turns.ready.keys (k + 1)) (sym w.turns-is)
            (subst (λ ks. AreReady load ks (k + 1)) (sym w.in_ok-insert.ensures.keys) (one_ready load c.loop-number.turns.ready.keys k low c.loop-number.invariant.ready));
        waiting = ap (λ (turns : Turns). turns.waiting) w.turns-is ∙ c.loop-number.invariant.waiting;
      }
      | else-is_some w ↦
          (let read : c.index.result.now ≡ slice_index_or c.self.inside.cells.items k None = get_or_read c.self.inside.cells.items k c.index.result.now within c.index.ensures None in
          let none : slice_index_or load.cells k None ≡ None =
          ap (λ cs. slice_index_or cs k None) (sym cells) ∙ sym read ∙ is_none c.index.result.now (sym c.is_some.ensures ∙ w.if-is_some.false) in
          record {
            ready = subst (λ (turns : Turns). AreReady load turns.ready.keys (k + 1)) (sym w.turns-is) (none_there load c.loop-number.turns.ready.keys k none c.loop-number.invariant.ready);
            waiting = ap (λ (turns : Turns). turns.waiting) w.turns-is ∙ c.loop-number.invariant.waiting;
          })
    ]

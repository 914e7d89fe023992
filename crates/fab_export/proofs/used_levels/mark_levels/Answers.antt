use Rattle.std.proofs.Common.{◌≡◌, ◌<◌, ◌∷◌, ◌++◌, [], List, Bool, length, Some, slice_index_or, slice_set, sym, ◌∙◌, ap, subst, arith, take, true}
use Rattle.fab_model.specs.declared.rows.Lid.{Lid}
use Rattle.fab_model.specs.Topology.{lids_of}
use Rattle.fab_model.proofs.LidsInUse.{one_lid_more}
use Rattle.fab_export.specs.LevelsInUse.{level_to}
use Rattle.fab_export.proofs.MarkedLevels.{AreMarked, not_marked, one_marked}
use Rattle.fab_export.proofs.used_levels.mark_levels.Goals as goal
use Rattle.fab_export.proofs.used_levels.mark_levels.Goals.{in-Some, in_default}

pub loop-lid-preserved : goal.loop-lid-preserved
loop-lid-preserved c =
    let t = c.args.reached.now.fabric in
    let e = c.args.reached.now.entries in
    let l = c.args.lanes.now in
    let s = c.args.source.0 in
    let old = c.args.used.now in
    let now = c.loop-lid.used in
    let k = c.loop-lid.lid-index in
    let lids = c.lids-lid-items.result.now in
    let lid : Lid = slice_index_or lids k (record { 0 = 0 }) in
    let told = c.level_to.ensures.level in
    let more = one_lid_more lids (lids_of t) c.lids-lid-items.ensures.lids k (record { 0 = 0 }) c.loop-lid-test.true in
    subst (AreMarked t e l s old c.match-level_to.used) more
    (elim c.match-level_to.branch [
      | in-Some w ↦
          let at : level_to t e l s lid.0 ≡ Some w.from.result = sym w.in-Some.ensures.level ∙ ap Some (sym w.from.ensures) in
          let within : w.from.result < length now = omega (arith, w.in-Some.ensures.low, w.from.ensures) in
          let is : c.match-level_to.used ≡ slice_set now w.from.result true = w.used-is in
          subst (λ (used : List Bool). AreMarked t e l s old used (take k (lids_of t) ++ lid.0 ∷ [])) (sym is) (one_marked t e l s old now (take k (lids_of t)) lid.0 c.loop-lid.invariant w.from.result at within)
      | in_default w ↦
          subst (λ (used : List Bool). AreMarked t e l s old used (take k (lids_of t) ++ lid.0 ∷ [])) (sym w.used-is) (not_marked t e l s old now (take k (lids_of t)) lid.0 c.loop-lid.invariant (sym w.in_default.ensures.level))
    ])

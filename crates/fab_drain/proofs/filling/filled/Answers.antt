use Rattle.std.proofs.Common.{◌≡◌, ◌+◌, suc, length, subst, arith, slice_index_or}
use Rattle.std.specs.List.Sorted.{IsStrictlyIncreasing}
use Rattle.fab_model.specs.declared.rows.Lid.{Lid}
use Rattle.fab_model.specs.Topology.{Topology, lids_of}
use Rattle.fab_model.proofs.LidsInUse.{as_many, lid_there}
use Rattle.fab_tables.specs.declared.plan.Plan.{Plan}
use Rattle.fab_tables.specs.Fit.{PlanFits}
use Rattle.fab_drain.specs.Offers.{IsFilledBefore, behind_lids}
use Rattle.fab_drain.proofs.FillingOn.{nothing_filled, to_lid, from_lid, whole_filling}
use Rattle.fab_drain.proofs.filling.filled.Goals as goal

abbrev no_lid : Lid
no_lid = record { 0 = 0 }

rise : (t : Topology) (p : Plan) → PlanFits t p → IsStrictlyIncreasing (lids_of t)
rise t p fits = subst IsStrictlyIncreasing fits.tables.in_use fits.tables.whole.ascending

pub loop-lid-init : goal.loop-lid-init
loop-lid-init c = record {
  within = omega arith;
  filled = nothing_filled c.args.fabric.now c.args.plan.now c.in_ok-state.state c.lids_in_use-lid-items.ensures.kept c.in_ok-state.ensures.count c.in_ok-state.ensures.cells;
}

pub offer_to-requires-clause-before : goal.offer_to-requires-clause-before
offer_to-requires-clause-before c =
    let t = c.args.fabric.now in
    let lids = c.lids_in_use-lid-items.result.now in
    let k = c.loop-lid.lid-index in
    to_lid t c.args.plan.now (rise t c.args.plan.now c.requires.fits) k (slice_index_or lids k no_lid).0 (lid_there lids (lids_of t) c.lids_in_use-lid-items.ensures.lids k no_lid c.loop-lid-test.true) c.loop-lid.state c.loop-lid.invariant.filled

pub loop-lid-preserved : goal.loop-lid-preserved
loop-lid-preserved c =
    let t = c.args.fabric.now in
    let p = c.args.plan.now in
    let lids = c.lids_in_use-lid-items.result.now in
    let k = c.loop-lid.lid-index in
    let next : suc k ≡ k + 1 = omega arith in
    record {
      within = omega (arith, c.loop-lid-test.true, as_many lids (lids_of t) c.lids_in_use-lid-items.ensures.lids);
      filled = subst (λ n. IsFilledBefore t p (behind_lids (lids_of t) n) c.offer_to.new.self) next
          (from_lid t p (rise t p c.requires.fits) k (slice_index_or lids k no_lid).0 (lid_there lids (lids_of t) c.lids_in_use-lid-items.ensures.lids k no_lid c.loop-lid-test.true) c.offer_to.new.self c.offer_to.ensures);
    }

pub returns : goal.returns
returns c =
    let t = c.args.fabric.now in
    let p = c.args.plan.now in
    let all : c.loop-lid.lid-index ≡ length (lids_of t) = omega (arith, c.loop-lid-test.false, c.loop-lid.invariant.within, as_many c.lids_in_use-lid-items.result.now (lids_of t) c.lids_in_use-lid-items.ensures.lids) in
    whole_filling t p (rise t p c.requires.fits) c.loop-lid.state (subst (λ n. IsFilledBefore t p (behind_lids (lids_of t) n) c.loop-lid.state) all c.loop-lid.invariant.filled)

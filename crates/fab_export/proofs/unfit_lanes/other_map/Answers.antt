use Rattle.std.proofs.Common.{◌≡◌, ℕ, ◌<◌, true, length, sym, ◌∙◌, ap, arith}
use Rattle.std.specs.Prelude.{not, option_map}
use Rattle.fab_model.specs.Topology.{switch_id}
use Rattle.fab_export.specs.declared.fault.Unfit.TheVariants as unfit
use Rattle.fab_export.specs.Unfits.{has_first_map}
use Rattle.fab_export.proofs.FirstFound.{none_more, none_found, found_here}
use Rattle.fab_export.proofs.unfit_lanes.other_map.Goals as goal

pub returns-then-not-has_first_map : goal.returns-then-not-has_first_map
returns-then-not-has_first_map c t count =
    let l = c.args.lanes.now in
    let k : ℕ = c.loop-number.number in
    let low : k < length t.switches = omega (arith, c.loop-number-test.true, count) in
    let fails : not (has_first_map l k) ≡ true = ap not (sym c.has_first_map.ensures ∙ c.if-not-has_first_map.true) in
    sym (ap (option_map (λ s. unfit.MapDiffers (switch_id s))) (found_here (λ s. not (has_first_map l s)) (length t.switches) k low c.loop-number.invariant fails))

pub loop-number-preserved : goal.loop-number-preserved
loop-number-preserved c =
    let l = c.args.lanes.now in
    none_more (λ s. not (has_first_map l s)) c.loop-number.number c.loop-number.invariant (ap not (sym c.has_first_map.ensures ∙ c.if-not-has_first_map.false))

pub returns : goal.returns
returns c t count =
    let l = c.args.lanes.now in
    sym (ap (option_map (λ s. unfit.MapDiffers (switch_id s))) (none_found (λ s. not (has_first_map l s)) (length t.switches) (λ k low. c.loop-number.invariant k (omega (arith, low, count, c.loop-number-test.false)))))

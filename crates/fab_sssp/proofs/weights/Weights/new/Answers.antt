use Rattle.std.proofs.Common.{◌≡◌, ◌<◌, ◌≤◌, length, replicate, subst, sym, arith}
use Rattle.std.specs.Prelude.{All}
use Rattle.fab_sssp.specs.WeightTables.{start_weight, greatest_weight, AreWeights}
use Rattle.fab_sssp.proofs.Raising.WeightBounds.{start_kept}
use Rattle.fab_sssp.proofs.weights.Weights.new.Goals as goal

pub invariant_of-result : goal.invariant_of-result
invariant_of-result c =
    let t = c.args.fabric.now in
    let kept : AreWeights (record { weights = replicate (length t.channels) (start_weight t); switches = length t.switches; raised = 0 }) = start_kept t c.switches-switches.ensures.kept.rows in
    let items : c.in_ok-vec.field-0.items ≡ replicate (length t.channels) (start_weight t) = cc (c.in_ok-vec.ensures.items_if_clones_equal (λ y e. e)) in (
      record {
        few = omega arith;
        each = subst (λ ns. All (λ n. (0 < n) × (n ≤ greatest_weight 0)) ns) (sym items) kept.each;
      },
      omega (arith, c.in_ok-vec-2.field-0.ok.0, c.in_ok-vec-3.field-0.ok.0, c.in_ok-vec-2.ensures.len, c.in_ok-vec-3.ensures.len),
    )

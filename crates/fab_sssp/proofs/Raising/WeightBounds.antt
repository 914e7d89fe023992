-- Weights stay below their bounds: the start weight, and what a tree adds.
use Rattle.std.proofs.Common.{◌≡◌, ℕ, ◌+◌, ◌*◌, ◌<◌, ◌≤◌, ◌⊎◌, inl, inr, List, length, get_or, slice_get, Some, arith}
use Rattle.std.specs.Prelude.{slice_index}
use Rattle.std.proofs.Math.Nat.{mul-le-mul_right, mul-le-mul_left}
use Rattle.std.proofs.lemmas.List.{get_or_default, get_or_past}
use Rattle.std.proofs.lemmas.List.Elements.{All-replicate}
use Rattle.std.proofs.lemmas.Option.{get_or_from_slice_get}
use Rattle.fab_model.specs.Topology.{Topology, lids_of}
use Rattle.fab_model.specs.Faults.{switch_limit, lid_limit}
use Rattle.fab_model.specs.WellFormed.{IsWellFormed}
use Rattle.fab_model.proofs.Order.{lids_are_counted}
use Rattle.fab_tables.specs.TreeWalks.{terminals_through}
use Rattle.fab_sssp.specs.WeightTables.{WeightTable, weight_of, start_weight, start_weights, greatest_weight, AreWeights}
use Rattle.fab_sssp.specs.Nearing.{weight_limit}
use Rattle.fab_sssp.proofs.Raising.PassingCounts.{through_few}

product_small : (s t l : ℕ) → s ≤ switch_limit → t ≤ lid_limit → l ≤ lid_limit → s * t * l ≤ switch_limit * lid_limit * lid_limit
product_small s t l a b c = omega (arith, mul-le-mul_right l (mul-le-mul_right t a), mul-le-mul_right l (mul-le-mul_left switch_limit b), mul-le-mul_left (switch_limit * lid_limit) c)

lids_few : (t : Topology) → IsWellFormed t → length (lids_of t) ≤ lid_limit
lids_few t good = omega (arith, lids_are_counted t, good.lid_count)

start_small : (t : Topology) → IsWellFormed t → start_weight t ≤ greatest_weight 0
start_small t good = omega (arith, product_small (length t.switches) (length t.terminals) (length (lids_of t)) good.switch_count (omega (arith, good.lid_count)) (lids_few t good))

pub start_kept : (t : Topology) → IsWellFormed t → AreWeights (start_weights t)
start_kept t good = record {
  few = omega arith;
  each = All-replicate (λ n. (0 < n) × (n ≤ greatest_weight 0)) (length t.channels) (start_weight t) (omega arith, start_small t good);
}

-- the weights once a tree has raised them
pub raised_kept : (t : Topology) (tree : _) (w : WeightTable) (raised : List ℕ) (switches : ℕ) → IsWellFormed t → AreWeights w → w.raised < length (lids_of t) → length w.weights ≡ length t.channels → length raised ≡ length t.channels →
    ((c : ℕ) → c < length t.channels → slice_index raised c ≡ weight_of w c + terminals_through t tree c) → AreWeights (record { weights = raised; switches = switches; raised = w.raised + 1 })
raised_kept t tree w raised switches good kept few all_old all_new adds = record {
  few = omega (arith, few, lids_few t good);
  each = λ c d low.
      let at : get_or raised c d ≡ get_or raised c 0 = get_or_default raised c d 0 low in
      let old : (0 < get_or w.weights c 0) × (get_or w.weights c 0 ≤ greatest_weight w.raised) = kept.each c 0 (omega (arith, low, all_old, all_new)) in (
        omega (arith, at, old.0, adds c (omega (arith, low, all_new))),
        omega (arith, at, old.1, adds c (omega (arith, low, all_new)), through_few t tree c, good.lid_count),
      );
}

-- no weight is greater
pub weight_within : (w : WeightTable) → AreWeights w → (c : ℕ) → weight_of w c ≤ weight_limit
weight_within w kept c = go low_or_high
  where
    low_or_high : (c < length w.weights) ⊎ (length w.weights ≤ c)
    low_or_high = grind (arith)

    go : (c < length w.weights) ⊎ (length w.weights ≤ c) → weight_of w c ≤ weight_limit
    go (inl h) = omega (arith, (kept.each c 0 h).1, kept.few)
    go (inr h) = omega (arith, get_or_past w.weights c 0 h)

-- what is read of them
pub weight_read : (w : WeightTable) (c n : ℕ) → slice_get w.weights c ≡ Some n → weight_of w c ≡ n
weight_read w c n read = get_or_from_slice_get w.weights c n 0 read

pub read_within : (w : WeightTable) (c n : ℕ) → AreWeights w → slice_get w.weights c ≡ Some n → n ≤ weight_limit
read_within w c n kept read = omega (arith, weight_within w kept c, weight_read w c n read)

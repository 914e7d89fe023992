-- No more LIDs are kept than there can be.
use Rattle.std.proofs.Common.{◌≡◌, ℕ, zero, suc, ◌+◌, ◌^◌, ◌<◌, ◌≤◌, List, length, Some, ap, inl, inr, arith, Contains}
use Rattle.std.specs.Prelude.{slice_index}
use Rattle.std.specs.List.Sorted.{IsStrictlyIncreasing}
use Rattle.std.proofs.lemmas.Bool.{cases_lt}
use Rattle.std.proofs.lemmas.List.{get_or_default}
use Rattle.std.proofs.lemmas.List.Elements.{All-contains}
use Rattle.fab_model.specs.Topology.{Topology, lids_of}
use Rattle.fab_model.specs.WellFormed.{IsFabric}
use Rattle.fab_tables.specs.declared.plan.Plan.{Plan}
use Rattle.fab_tables.proofs.Joined.Ascending.{lids_fit}
use Rattle.fab_nue.specs.NuePlan.{IsNuePlan}

-- in an ascending list each number is at least its place
at_least : (xs : List ℕ) → IsStrictlyIncreasing xs → (k : ℕ) → k < length xs → k ≤ slice_index xs k
at_least xs rise zero low = omega arith
at_least xs rise (suc k) low =
    let next : k + 1 ≡ suc k = omega arith in
    omega (arith, at_least xs rise k (omega (arith, low)), rise k (omega (arith, low)), ap (λ n. slice_index xs n) next)

few_below : (xs : List ℕ) (n : ℕ) → IsStrictlyIncreasing xs → ((x : ℕ) → Contains xs x → x < n) → length xs ≤ n
few_below xs n rise below = elim (cases_lt n (length xs)) [
  | inl long ↦ absurd (omega (arith, at_least xs rise n long, below (slice_index xs n) (n, long, get_or_default xs n (slice_index xs n) 0 long)))
  | inr few ↦ few
]

pub few_kept : (t : Topology) (lanes : ℕ) (old : Plan) (kept : List ℕ) (p : Plan) → IsFabric t → IsNuePlan t lanes (Some old) kept p → length kept ≤ 65536
few_kept t lanes old kept p fabric x = few_below kept 65536 x.2.keeps.ascending (λ lid has. All-contains (λ m. m < 2 ^ 16) (lids_of t) lid (lids_fit t fabric) (x.2.keeps.in_use lid has))

-- The channels of a pair's dependencies are channels of the fabric.
use Rattle.std.proofs.Common.{◌≡◌, ℕ, suc, ◌<◌, List, length, All, sym, subst, arith}
use Rattle.fab_model.specs.Topology.{Topology}
use Rattle.fab_model.specs.WellFormed.{IsWellFormed}
use Rattle.fab_tables.specs.Entries.{Entries}
use Rattle.fab_tables.proofs.Paths.Routes.{channel_there}
use Rattle.fab_depgraph.specs.declared.dep.Dep.{Dep}
use Rattle.fab_depgraph.specs.Listed.{Dependencies, IsWithin}
use Rattle.fab_lash.specs.Pairs.{own_lid, DependsOnPair}
use Rattle.fab_lash.specs.Followers.{pair_dependencies}
use Rattle.fab_lash.specs.Placing.{channel_counts, FitInto}
use Rattle.fab_lash.proofs.Followers.{lists_pair}
use Rattle.std.specs.Prelude.{slice_index_or}
use Rattle.std.proofs.Common.{inl, inr, refl, zero, ◌∷◌, []}

within_of : (t : Topology) (e : Entries) (low high : ℕ) → IsWellFormed t → (c d : ℕ) → DependsOnPair t e low high c d → (c < length t.channels) × (d < length t.channels)
within_of t e low high good c d (inl f) = (channel_there t e (own_lid t high) good f.0 low c f.1, channel_there t e (own_lid t high) good (suc f.0) low d f.2)
within_of t e low high good c d (inr f) = (channel_there t e (own_lid t low) good f.0 high c f.1, channel_there t e (own_lid t low) good (suc f.0) high d f.2)

at_place : (xs : List Dep) (k : ℕ) (d : Dep) → k < length xs → slice_index_or xs k (slice_index_or xs k d) ≡ slice_index_or xs k d
at_place [] k d low = absurd (omega (arith, low))
at_place (x ∷ xs) zero d low = refl
at_place (x ∷ xs) (suc k) d low = get_or_same xs k (slice_index_or xs k d) d (omega (arith, low))
  where
    get_or_same : (xs : List Dep) (k : ℕ) (a b : Dep) → k < length xs → slice_index_or xs k a ≡ slice_index_or xs k b
    get_or_same [] k a b low = absurd (omega (arith, low))
    get_or_same (x ∷ xs) zero a b low = refl
    get_or_same (x ∷ xs) (suc k) a b low = get_or_same xs k a b (omega (arith, low))

pub pair_within : (t : Topology) (e : Entries) (low high : ℕ) → IsWellFormed t → All (λ d. IsWithin (length t.channels) d) (pair_dependencies t e low high)
pair_within t e low high good k d less =
    let x : Dep = slice_index_or (pair_dependencies t e low high) k d in
    within_of t e low high good x.first.0 x.second.0 ((lists_pair t e low high x.first.0 x.second.0).0 (k, less, at_place (pair_dependencies t e low high) k d less))

pub pair_fits : (t : Topology) (e : Entries) (low high : ℕ) (used : List Dependencies) (deps : List Dep) → IsWellFormed t → All (λ count. count ≡ length t.channels) (channel_counts used) →
    deps ≡ pair_dependencies t e low high → FitInto used deps
pair_fits t e low high used deps good counts is k d less =
    let P : List Dep → Type 0 = λ xs. All (λ x. IsWithin (length t.channels) x) xs in
    let Q : ℕ → Type 0 = λ n. All (λ x. IsWithin n x) deps in
    subst Q (sym (counts k d less)) (subst P (sym is) (pair_within t e low high good))

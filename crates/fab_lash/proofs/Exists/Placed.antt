-- A first lane takes the dependencies of a pair, or none does.
use Rattle.std.proofs.Common.{◌≡◌, ℕ, ◌<◌, ◌⊎◌, inl, inr, List, [], length, refl, sym, ◌∙◌, ap, subst, arith, Some, slice_get, slice_set, slice_index_or}
use Rattle.std.proofs.lemmas.List.{take_all}
use Rattle.std.proofs.lemmas.Option.{slice_get-get_or}
use Rattle.fab_graph.specs.Least.{IsLeast}
use Rattle.fab_graph.specs.Walks.{IsAcyclic, HasClosedWalk}
use Rattle.fab_graph.proofs.Decided.{Decided, both, below_decided, found_below, least_of}
use Rattle.fab_depgraph.specs.declared.dep.Dep.{Dep}
use Rattle.fab_depgraph.specs.Listed.{Dependencies, IsListed}
use Rattle.fab_depgraph.proofs.Listing.ClosedWalks.{closes_or_not, acyclic_decided}
use Rattle.fab_lash.specs.Adding.{with_deps}
use Rattle.fab_lash.specs.Placing.{listed_in, Refuses, IsPlaced, IsNowhere}
use Rattle.fab_lash.proofs.Places.{listed_at, listed_here, listed_elsewhere, counts_set}

abbrev no_arena : Dependencies
no_arena = record { channels = 0; listed = []; spare = 0; numbers = [] }

module _ (old : List Dependencies) (deps : List Dep) where
  -- no walk is closed in the lane with them
  abbrev Fits : ℕ → Type 0
  Fits lane = IsAcyclic (IsListed (with_deps (listed_in old lane) deps))

  fits_decided : (lane : ℕ) → Decided (Fits lane)
  fits_decided lane = acyclic_decided (with_deps (listed_in old lane) deps)

  refuses : (lane : ℕ) → ¬ Fits lane → Refuses (listed_in old lane) deps
  refuses lane none = elim (closes_or_not (with_deps (listed_in old lane) deps)) [
    | inl closed ↦
        (let P : List Dep → Type 0 = λ ds. HasClosedWalk (IsListed (with_deps (listed_in old lane) ds)) in
        (length deps, subst P (sym (take_all (length deps) deps (omega arith))) closed))
    | inr fits ↦ absurd (none fits)
  ]

  -- the lane lists them now
  module _ (lane : ℕ) (low : lane < length old) where
    abbrev arena : Dependencies
    arena = slice_index_or old lane no_arena

    at : slice_get old lane ≡ Some arena
    at = slice_get-get_or old lane no_arena low

    abbrev grown : Dependencies
    grown = record arena { listed = with_deps arena.listed deps }

    listed_now : listed_in (slice_set old lane grown) lane ≡ with_deps (listed_in old lane) deps
    listed_now = listed_here old lane arena grown at ∙ ap (λ (xs : List Dep). with_deps xs deps) (sym (listed_at old lane arena at))

    placed_at : Fits lane → ((other : ℕ) → other < lane → ¬ Fits other) → IsPlaced old (slice_set old lane grown) deps lane
    placed_at fits earlier = record {
      low = low;
      channels = counts_set old lane arena grown at refl;
      others = λ other differ. listed_elsewhere old lane other grown differ;
      taken = let P : List Dep → Type 0 = λ xs. IsAcyclic (IsListed xs) in (listed_now, subst P (sym listed_now) fits);
      refused = λ other less. refuses other (earlier other less);
    }

  abbrev FitsOne : ℕ → Type 0
  FitsOne lane = (lane < length old) × Fits lane

  in_least : (lane : ℕ) × IsLeast FitsOne lane → (lane : ℕ) × (new : List Dependencies) × IsPlaced old new deps lane
  in_least least =
      let one : FitsOne least.0 = least.1.holds in (
        least.0,
        slice_set old least.0 (grown least.0 one.0),
        placed_at least.0 one.0 one.1 (λ other less fits. omega (arith, less, least.1.least other (omega (arith, less, one.0), fits))),
      )

  pub placed_or_nowhere : ((lane : ℕ) × (new : List Dependencies) × IsPlaced old new deps lane) ⊎ IsNowhere old deps
  placed_or_nowhere = elim (found_below Fits fits_decided (length old)) [
    | inl found ↦ inl (in_least (least_of FitsOne (λ lane. both _ _ (below_decided lane (length old)) (fits_decided lane)) found.0 (found.1, found.2)))
    | inr none ↦ inr (λ lane low. refuses lane (none lane low))
  ]

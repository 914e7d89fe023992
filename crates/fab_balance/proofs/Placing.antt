-- The places of the LIDs are written into tables one after the other.
use Rattle.std.proofs.Common.{◌≡◌, ◌≢◌, ℕ, zero, suc, ◌+◌, ◌<◌, ◌≤◌, ◌⊎◌, inl, inr, List, length, Option, Some, None, refl, sym, ◌∙◌, ap, subst, arith, Contains}
use Rattle.std.specs.Prelude.{slice_index, slice_index_or, replicate}
use Rattle.std.proofs.lemmas.Bool.{cases_lt, cases_eq}
use Rattle.std.proofs.lemmas.Option.{same_Some}
use Rattle.std.proofs.lemmas.List.{get_or_default}
use Rattle.fab_model.specs.declared.rows.Place.{Place}
use Rattle.fab_model.specs.Topology.{Topology, place_of, lids_of}
use Rattle.fab_model.specs.Connected.{IsConnectedTo}
use Rattle.fab_model.specs.WellFormed.{IsFabric}
use Rattle.fab_tables.specs.Entries.{Entries, index_of, entry, port_in_column, with_entry, no_entries}
use Rattle.fab_tables.specs.Fit.{EntriesFit}
use Rattle.fab_tables.specs.FixedEntries.{HasFixedEntries}
use Rattle.fab_tables.proofs.Joined.Lids.{lid_in_use}
use Rattle.fab_tables.proofs.Paths.FallingRoutes.{place_below}
use Rattle.fab_tables.proofs.Rows.EntriesSet.{no_entries_fit, fits_kept, entry_set, entry_kept}

-- the LID is one of the first so many in use
abbrev pub IsAmongFirst : Topology → ℕ → ℕ → Type 0
IsAmongFirst t count lid = (j : ℕ) × (j < count) × (j < length (lids_of t)) × (slice_index (lids_of t) j ≡ lid)

-- the first so many LIDs have their own entries, and an entry that isn't 255 is a LID's own
pub record HasPlaced (t : Topology) (e : Entries) (count : ℕ) : Type 0 where
  pub fits : EntriesFit t e
  pub own : (lid : ℕ) (place : Place) → IsAmongFirst t count lid → place_of t lid ≡ Some place → entry e place.switch.0 lid ≡ place.port
  pub others : (s lid : ℕ) → (entry e s lid ≡ 255) ⊎ ((place : Place) × (place_of t lid ≡ Some place) × (place.switch.0 ≡ s))

pub all_alike : (n port i : ℕ) → slice_index_or (replicate n port) i port ≡ port
all_alike zero port i = refl
all_alike (suc n) port zero = refl
all_alike (suc n) port (suc i) = all_alike n port i

no_entry : (count : ℕ) (lids : List ℕ) (s lid : ℕ) → entry (no_entries count lids) s lid ≡ 255
no_entry count lids s lid = go (index_of lid lids)
  where
    go : (place : Option ℕ) → port_in_column (no_entries count lids) s place ≡ 255
    go None = refl
    go (Some i) = grind (arith, all_alike)

pub none_placed : (t : Topology) (e : Entries) → IsFabric t → e ≡ no_entries (length t.switches) (lids_of t) → HasPlaced t e 0
none_placed t e good is = record {
  fits = subst (λ (x : Entries). EntriesFit t x) (sym is) (no_entries_fit t good);
  own = λ lid place among at. absurd (omega (arith, among.1));
  others = λ s lid. inl (ap (λ x. entry x s lid) is ∙ no_entry (length t.switches) (lids_of t) s lid);
}

module _ (t : Topology) (is : IsFabric t) (e : Entries) (count lid : ℕ) (place : Place) (before : HasPlaced t e count) (low : count < length (lids_of t)) (here : slice_index (lids_of t) count ≡ lid)
    (at : place_of t lid ≡ Some place) (small : place.port < 256) where
  in_use : Contains (lids_of t) lid
  in_use = lid_in_use t lid place at

  below : place.switch.0 < length t.switches
  below = place_below t is.rows lid place at

  kept : (s n : ℕ) → (s ≡ place.switch.0 → n ≡ lid → ⊥) → entry (with_entry e place.switch.0 lid place.port) s n ≡ entry e s n
  kept s n other = entry_kept t e place.switch.0 lid place.port before.fits below in_use s n other

  set_here : entry (with_entry e place.switch.0 lid place.port) place.switch.0 lid ≡ place.port
  set_here = entry_set t e place.switch.0 lid place.port before.fits below in_use

  pub one_placed : HasPlaced t (with_entry e place.switch.0 lid place.port) (count + 1)
  one_placed = record {
    fits = fits_kept t e place.switch.0 lid place.port before.fits below in_use small;
    own = λ n p among there. own_more n p among there (cases_eq n lid);
    others = λ s n. others_more s n (cases_eq n lid) (cases_eq s place.switch.0);
  }
    where
      own_more : (n : ℕ) (p : Place) → IsAmongFirst t (count + 1) n → place_of t n ≡ Some p → (n ≡ lid) ⊎ (n ≢ lid) → entry (with_entry e place.switch.0 lid place.port) p.switch.0 n ≡ p.port
      own_more n p among there (inl same) =
          let one : place ≡ p = same_Some place p (sym at ∙ ap (λ m. place_of t m) (sym same) ∙ there) in
          ap (λ m. entry (with_entry e place.switch.0 lid place.port) p.switch.0 m) same
          ∙ ap (λ (q : Place). entry (with_entry e place.switch.0 lid place.port) q.switch.0 lid) (sym one) ∙ set_here ∙ ap (λ (q : Place). q.port) one
      own_more n p among there (inr other) = kept p.switch.0 n (λ a b. other b) ∙ before.own n p (among.0, earlier (cases_lt among.0 count), among.2, among.3) there
        where
          earlier : (among.0 < count) ⊎ (count ≤ among.0) → among.0 < count
          earlier (inl less) = less
          earlier (inr more) =
              let same : among.0 ≡ count = omega (arith, more, among.1) in
              absurd (other (sym among.3 ∙ ap (λ j. slice_index (lids_of t) j) same ∙ here))

      as_before : (s n : ℕ) → entry (with_entry e place.switch.0 lid place.port) s n ≡ entry e s n → (entry e s n ≡ 255) ⊎ ((p : Place) × (place_of t n ≡ Some p) × (p.switch.0 ≡ s)) →
          (entry (with_entry e place.switch.0 lid place.port) s n ≡ 255) ⊎ ((p : Place) × (place_of t n ≡ Some p) × (p.switch.0 ≡ s))
      as_before s n k (inl x) = inl (k ∙ x)
      as_before s n k (inr x) = inr x

      others_more : (s n : ℕ) → (n ≡ lid) ⊎ (n ≢ lid) → (s ≡ place.switch.0) ⊎ (s ≢ place.switch.0) →
          (entry (with_entry e place.switch.0 lid place.port) s n ≡ 255) ⊎ ((p : Place) × (place_of t n ≡ Some p) × (p.switch.0 ≡ s))
      others_more s n (inl same) (inl own) = inr (place, ap (λ m. place_of t m) same ∙ at, sym own)
      others_more s n (inl same) (inr other) = as_before s n (kept s n (λ a b. other a)) (before.others s n)
      others_more s n (inr other) w = as_before s n (kept s n (λ a b. other b)) (before.others s n)

pub all_placed : (t : Topology) (e : Entries) (count : ℕ) → HasPlaced t e count → length (lids_of t) ≤ count → HasFixedEntries t e
all_placed t e count placed end = record {
  fits = placed.fits;
  own = λ lid place at. placed.own lid place (among lid (lid_in_use t lid place at)) at;
  apart = λ s lid no_way. none s lid no_way (placed.others s lid);
}
  where
    among : (lid : ℕ) → Contains (lids_of t) lid → IsAmongFirst t count lid
    among lid has = (has.0, omega (arith, has.1, end), has.1, get_or_default (lids_of t) has.0 0 lid has.1 ∙ has.2)

    none : (s lid : ℕ) → ¬ IsConnectedTo t s lid → (entry e s lid ≡ 255) ⊎ ((place : Place) × (place_of t lid ≡ Some place) × (place.switch.0 ≡ s)) → entry e s lid ≡ 255
    none s lid no_way (inl x) = x
    none s lid no_way (inr own) = absurd (no_way (own.0, own.1, (0, sym own.2)))

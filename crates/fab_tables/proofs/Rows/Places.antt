-- The places of the LIDs in use, as they are written one after the other.
use Rattle.std.proofs.Common.{◌≡◌, ◌≢◌, ℕ, zero, suc, ◌+◌, ◌-◌, ◌<◌, ◌≤◌, List, length, set, Option, Some, None, refl, sym, ◌∙◌, ap, arith, ◌⊎◌, inl, inr, get_or-set_same, get_or-set_other, length-set}
use Rattle.std.specs.Prelude.{All, IfSome, SomeIff, slice_get, slice_index}
use Rattle.std.proofs.lemmas.Bool.{cases_lt, cases_eq}
use Rattle.std.proofs.lemmas.List.Kept.{AllPairs-from_increasing}
use Rattle.std.proofs.lemmas.List.{get_or_default, get_or_past}
use Rattle.std.proofs.lemmas.Option.{get_or_from_slice_get}
use Rattle.fab_tables.specs.Entries.{index_of}
use Rattle.fab_tables.specs.Columns.{place_code, AreLids, HasPlaces}
use Rattle.fab_tables.proofs.Rows.Cells.{index_found, index_there}

-- the places of the first n are written, and nothing else
pub record AreWritten (lids places : List ℕ) (n : ℕ) : Type 0 where
  pub whole : length places ≡ 65536
  pub placed : (i : ℕ) → i < n → slice_index places (slice_index lids i) ≡ i + 1
  pub found : (lid i : ℕ) → slice_index places lid ≡ i + 1 → (i < n) × (slice_index lids i ≡ lid)

pub none_written : (lids places : List ℕ) → length places ≡ 65536 → All (λ place. place ≡ 0) places → AreWritten lids places 0
none_written lids places h zeros = record { whole = h; placed = λ i l. absurd (omega arith); found = λ lid i e. absurd (nothing lid i e (cases_lt lid (length places))) }
  where
    nothing : (lid i : ℕ) → slice_index places lid ≡ i + 1 → (lid < length places) ⊎ (length places ≤ lid) → ⊥
    nothing lid i e (inl l) = omega (arith, zeros lid 0 l)
    nothing lid i e (inr g) = omega (arith, get_or_past places lid 0 g)

module _ (lids places : List ℕ) (n x : ℕ) (are : AreLids lids) (low : n < length lids) (is : x ≡ slice_index lids n) (w : AreWritten lids places n) where
  x_fits : x < 65536
  x_fits = omega (arith, are.fit n 0 low)

  same_place : slice_index (set places x (n + 1)) x ≡ n + 1
  same_place = get_or-set_same places x (n + 1) 0 (omega (arith, x_fits, w.whole))

  other_than : (i : ℕ) → i < n → slice_index lids i ≢ x
  other_than i h e =
      let up : slice_index lids i < slice_index lids n = AllPairs-from_increasing lids are.ascending i n 0 h low in
      omega arith

  placed_more : (i : ℕ) → i < n + 1 → slice_index (set places x (n + 1)) (slice_index lids i) ≡ i + 1
  placed_more i h = go (cases_eq i n)
    where
      go : (i ≡ n) ⊎ (i ≢ n) → slice_index (set places x (n + 1)) (slice_index lids i) ≡ i + 1
      go (inl e) = ap (λ k. slice_index (set places x (n + 1)) k) (ap (λ k. slice_index lids k) e ∙ sym is) ∙ same_place ∙ ap (λ k. k + 1) (sym e)
      go (inr e) =
          let below : i < n = omega arith in
          get_or-set_other places x (slice_index lids i) (n + 1) 0 (other_than i below) ∙ w.placed i below

  found_more : (lid i : ℕ) → slice_index (set places x (n + 1)) lid ≡ i + 1 → (i < n + 1) × (slice_index lids i ≡ lid)
  found_more lid i h = go (cases_eq lid x)
    where
      go : (lid ≡ x) ⊎ (lid ≢ x) → (i < n + 1) × (slice_index lids i ≡ lid)
      go (inl e) =
          let at : i ≡ n = omega (arith, sym h ∙ ap (λ k. slice_index (set places x (n + 1)) k) e ∙ same_place) in
          (omega arith, ap (λ k. slice_index lids k) at ∙ sym is ∙ sym e)
      go (inr e) =
          let before : (i < n) × (slice_index lids i ≡ lid) = w.found lid i (sym (get_or-set_other places x lid (n + 1) 0 e) ∙ h) in
          (omega (arith, before.0), before.1)

  pub one_more_written : AreWritten lids (set places x (n + 1)) (n + 1)
  one_more_written = record { whole = length-set places x (n + 1) ∙ w.whole; placed = placed_more; found = found_more }

pub all_written : (lids places : List ℕ) (n : ℕ) → length lids ≤ n → AreWritten lids places n → n ≤ length lids → HasPlaces lids places
all_written lids places n long w short = record { whole = w.whole; each = λ lid h. at_lid lid (index_of lid lids) refl (slice_index places lid) refl }
  where
    at_lid : (lid : ℕ) (o : Option ℕ) → index_of lid lids ≡ o → (p : ℕ) → slice_index places lid ≡ p → slice_index places lid ≡ place_code (index_of lid lids)
    at_lid lid None x zero e = e ∙ sym (ap place_code x)
    at_lid lid None x (suc i) e =
        let there : (i < n) × (slice_index lids i ≡ lid) = w.found lid i (omega (arith, e)) in
        absurd (index_there lid lids i (omega (arith, there.0)) (get_or_default lids i lid 0 (omega (arith, there.0)) ∙ there.1) x)
    at_lid lid (Some k) x p e =
        let there : (k < length lids) × (slice_get lids k ≡ Some lid) = index_found lid lids k x in
        ap (λ n'. slice_index places n') (sym (get_or_from_slice_get lids k lid 0 there.1)) ∙ w.placed k (omega (arith, there.0)) ∙ sym (ap place_code x)

pub place_within : (n : ℕ) (xs : List ℕ) (o : Option ℕ) → o ≡ index_of n xs → IfSome o (λ place. place < length xs)
place_within n xs None e = tt
place_within n xs (Some i) e = (index_found n xs i (sym e)).0

pub place_read : (lids places : List ℕ) (lid p : ℕ) (r : Option ℕ) → HasPlaces lids places → lid < 65536 → p ≡ slice_index places lid → SomeIff r (1 ≤ p) (p - 1) → r ≡ index_of lid lids
place_read lids places lid p r has h e iff = at (index_of lid lids) r iff (e ∙ has.each lid h)
  where
    at : (o r : Option ℕ) → SomeIff r (1 ≤ p) (p - 1) → p ≡ place_code o → r ≡ o
    at None None i x = refl
    at None (Some k) i x = absurd (omega (arith, i.0))
    at (Some j) None i x = absurd (i (omega arith))
    at (Some j) (Some k) i x = ap Some (omega (arith, i.1))

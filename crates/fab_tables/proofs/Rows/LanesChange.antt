-- A set of a lane of the general map, or of a pair's map, changes no other.
use Rattle.std.proofs.Common.{◌≡◌, ◌≢◌, ℕ, ◌+◌, ◌*◌, ◌<◌, Bool, true, false, List, [], ◌∷◌, ◌++◌, cond, Option, Some, None, refl, sym, ◌∙◌, ap, arith, ◌⊎◌, inl, inr}
use Rattle.std.specs.Prelude.{find, filter, nat_lt, ◌==◌, ◌&&◌, slice_index_or}
use Rattle.std.specs.Option.{option_or}
use Rattle.std.proofs.lemmas.Bool.{cases_order, eq-eqb, ne_eqb, eqb-true, and_from, and_left, and_right, lt-ltb, le-ltb}
use Rattle.std.proofs.lemmas.Bool.Decides.{eqb_tells}
use Rattle.fab_tables.specs.declared.lanes.PairRow.{PairRow}
use Rattle.fab_tables.specs.LaneTables.{lane, lane_at, lane_of_pair, pair_key, with_pair_row, with_pair}
use Rattle.fab_tables.specs.Laws.{OneLaneChanges, OnePairChanges}
use Rattle.fab_tables.proofs.Rows.Cells.{set_cell, chosen, passed}

pub one_lane_changes : OneLaneChanges
one_lane_changes l s of_level new other other_level are low a b = set_cell l.general 16 l.switches s of_level other other_level new 15 are.all_general low a b

-- what is found in the one list, or else in the other
find-append : {X : Type 0} (p : X → Bool) (xs ys : List X) → find p (xs ++ ys) ≡ option_or (find p xs) (find p ys)
find-append p [] ys = refl
find-append {X} p (x ∷ xs) ys = go (p x) (find-append p xs ys)
  where
    go : (b : Bool) → find p (xs ++ ys) ≡ option_or (find p xs) (find p ys) → cond b (Some x) (find p (xs ++ ys)) ≡ option_or (cond b (Some x) (find p xs)) (find p ys)
    go true e = refl
    go false e = e

module _ {X : Type 0} (p q : X → Bool) where
  -- a filter that keeps what is looked for changes nothing, and one that keeps none of it leaves nothing
  find-kept : ((x : X) → p x ≡ true → q x ≡ true) → (xs : List X) → find p (filter q xs) ≡ find p xs
  find-kept keeps [] = refl
  find-kept keeps (x ∷ xs) = go (q x) (p x) refl refl (find-kept keeps xs)
    where
      go : (b a : Bool) → q x ≡ b → p x ≡ a → find p (filter q xs) ≡ find p xs → find p (cond b (x ∷ filter q xs) (filter q xs)) ≡ cond a (Some x) (find p xs)
      go true a x' y e = ap (λ c. cond c (Some x) (find p (filter q xs))) y ∙ ap (λ o. cond a (Some x) o) e
      go false false x' y e = e
      go false true x' y e = absurd (clash (q x) x' (keeps x y))
        where
          clash : (b : Bool) → b ≡ false → b ≡ true → ⊥
          clash b u v = cc

  find-dropped : ((x : X) → p x ≡ true → q x ≡ false) → (xs : List X) → find p (filter q xs) ≡ None
  find-dropped drops [] = refl
  find-dropped drops (x ∷ xs) = go (q x) (p x) refl refl (find-dropped drops xs)
    where
      go : (b a : Bool) → q x ≡ b → p x ≡ a → find p (filter q xs) ≡ None → find p (cond b (x ∷ filter q xs) (filter q xs)) ≡ None
      go false a x' y e = e
      go true false x' y e = ap (λ c. cond c (Some x) (find p (filter q xs))) y ∙ e
      go true true x' y e = absurd (clash (q x) x' (drops x y))
        where
          clash : (b : Bool) → b ≡ true → b ≡ false → ⊥
          clash b u v = cc

-- the rows of a key, with one more row
module _ (rows : List PairRow) (row : PairRow) (n : ℕ) where
  abbrev has_key : PairRow → Bool
  has_key p = pair_key p == n

  abbrev before : PairRow → Bool
  before p = nat_lt (pair_key p) (pair_key row)

  abbrev after : PairRow → Bool
  after p = nat_lt (pair_key row) (pair_key p)

  found_itself : pair_key row ≡ n → find has_key (with_pair_row rows row) ≡ Some row
  found_itself e =
      find-append has_key (filter before rows) (row ∷ filter after rows)
      ∙ ap (λ o. option_or o (find has_key (row ∷ filter after rows))) (find-dropped has_key before (λ p h. le-ltb (pair_key p) (pair_key row) (omega (arith, eqb-true (pair_key p) n h, e))) rows)
      ∙ ap (λ b. cond b (Some row) (find has_key (filter after rows))) (eq-eqb (pair_key row) n e)

  found_other : pair_key row ≢ n → find has_key (with_pair_row rows row) ≡ find has_key rows
  found_other ne = elim (cases_order n (pair_key row)) [ inl e ↦ absurd (ne (sym e)) | inr (inl h) ↦ earlier h | inr (inr h) ↦ later h ]
    where
      none_to_right : (o : Option PairRow) → option_or o None ≡ o
      none_to_right None = refl
      none_to_right (Some x) = refl

      past : find has_key (row ∷ filter after rows) ≡ find has_key (filter after rows)
      past = ap (λ b. cond b (Some row) (find has_key (filter after rows))) (ne_eqb (pair_key row) n ne)

      earlier : n < pair_key row → find has_key (with_pair_row rows row) ≡ find has_key rows
      earlier h =
          find-append has_key (filter before rows) (row ∷ filter after rows)
          ∙ ap (λ o. option_or (find has_key (filter before rows)) o) (past ∙ find-dropped has_key after (λ p x. le-ltb (pair_key row) (pair_key p) (omega (arith, eqb-true (pair_key p) n x))) rows)
          ∙ none_to_right (find has_key (filter before rows))
          ∙ find-kept has_key before (λ p x. lt-ltb (pair_key p) (pair_key row) (omega (arith, eqb-true (pair_key p) n x))) rows

      later : pair_key row < n → find has_key (with_pair_row rows row) ≡ find has_key rows
      later h =
          find-append has_key (filter before rows) (row ∷ filter after rows)
          ∙ ap (λ o. option_or o (find has_key (row ∷ filter after rows))) (find-dropped has_key before (λ p x. le-ltb (pair_key p) (pair_key row) (omega (arith, eqb-true (pair_key p) n x))) rows)
          ∙ past
          ∙ find-kept has_key after (λ p x. lt-ltb (pair_key row) (pair_key p) (omega (arith, eqb-true (pair_key p) n x))) rows

-- keys are one exactly where the ports are
same_ports : (s from to s' from' to' : ℕ) → from < 256 → to < 256 → from' < 256 → to' < 256 → s' * 65536 + from' * 256 + to' ≡ s * 65536 + from * 256 + to → (s ≡ s') × (from ≡ from') × (to ≡ to')
same_ports s from to s' from' to' a b c d e = (omega arith, omega arith, omega arith)

pub one_pair_changes : OnePairChanges
one_pair_changes l row s from to of_level a b c d = go (eqb_tells s row.switch.0) (eqb_tells from row.from_port) (eqb_tells to row.to_port)
  where
    n : ℕ
    n = s * 65536 + from * 256 + to

    others : (pair_key row ≢ n) → lane_at (with_pair l row) s from to of_level ≡ lane_at l s from to of_level
    others ne = ap (λ o. lane_of_pair o of_level (lane l s of_level)) (found_other l.pairs row n ne)

    go : (((s == row.switch.0) ≡ true) × (s ≡ row.switch.0)) ⊎ (((s == row.switch.0) ≡ false) × (s ≢ row.switch.0)) →
        (((from == row.from_port) ≡ true) × (from ≡ row.from_port)) ⊎ (((from == row.from_port) ≡ false) × (from ≢ row.from_port)) →
        (((to == row.to_port) ≡ true) × (to ≡ row.to_port)) ⊎ (((to == row.to_port) ≡ false) × (to ≢ row.to_port)) →
        lane_at (with_pair l row) s from to of_level ≡ cond ((s == row.switch.0) && ((from == row.from_port) && (to == row.to_port))) (slice_index_or row.map of_level 15) (lane_at l s from to of_level)
    go (inl x) (inl y) (inl z) =
        ap (λ o. lane_of_pair o of_level (lane l s of_level)) (found_itself l.pairs row n (omega (arith, x.1, y.1, z.1)))
        ∙ chosen ((s == row.switch.0) && ((from == row.from_port) && (to == row.to_port))) (slice_index_or row.map of_level 15) (lane_at l s from to of_level) (and_from (s == row.switch.0) _ x.0 (and_from (from == row.from_port) _ y.0 z.0))
    go (inr x) y z =
        others (λ e. x.1 (same_ports s from to row.switch.0 row.from_port row.to_port c d a b e).0)
        ∙ passed ((s == row.switch.0) && ((from == row.from_port) && (to == row.to_port))) (slice_index_or row.map of_level 15) (lane_at l s from to of_level) (and_left (s == row.switch.0) _ x.0)
    go (inl x) (inr y) z =
        others (λ e. y.1 (same_ports s from to row.switch.0 row.from_port row.to_port c d a b e).1)
        ∙ passed ((s == row.switch.0) && ((from == row.from_port) && (to == row.to_port))) (slice_index_or row.map of_level 15) (lane_at l s from to of_level) (and_right (s == row.switch.0) _ (and_left (from == row.from_port) _ y.0))
    go (inl x) (inl y) (inr z) =
        others (λ e. z.1 (same_ports s from to row.switch.0 row.from_port row.to_port c d a b e).2)
        ∙ passed ((s == row.switch.0) && ((from == row.from_port) && (to == row.to_port))) (slice_index_or row.map of_level 15) (lane_at l s from to of_level) (and_right (s == row.switch.0) _ (and_right (from == row.from_port) _ z.0))

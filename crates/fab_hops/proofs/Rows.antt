-- The rows of a table, one after the other.
use Rattle.std.proofs.Common.{rules, ◌≡◌, ℕ, ◌+◌, ◌*◌, ◌-◌, ◌<◌, ◌≤◌, ◌^◌, Bool, true, false, List, length, map, cond, refl, sym, ◌∙◌, ap, subst, inl, inr, arith, Some, None, Option, take, drop, get_or}
use Rattle.std.specs.Prelude.{slice_index_or, MatchOption, IfSome, nat_lt}
use Rattle.std.proofs.Math.Nat.{mul-le-mul_left}
use Rattle.std.proofs.lemmas.Bool.{cases_lt, ltb-true}
use Rattle.std.proofs.lemmas.List.{get_or-take, get_or-drop, get_or-map, length-map, length-take, length-drop}
use Rattle.std.proofs.lemmas.List.Elements.{All-map}
use Rattle.std.proofs.lemmas.Slice.{take-put_mid_below, between-put_mid, drop-put_mid, between_is, overwrites}
use borrow.Rule.Slice.PartMut.{put_mid}
use Rattle.fab_model.specs.Topology.{Topology}
use Rattle.fab_model.specs.Connected.{AreConnected}
use Rattle.fab_hops.specs.HopCounts.{IsHopCount, IsHopTable, AreHops}
use Rattle.fab_hops.specs.HopCodes.{count_of_code, code_at}
use Rattle.fab_hops.specs.Searching.{IsHopRow}

-- the row of a switch has its hop counts
abbrev pub IsRowAt : Topology → List ℕ → ℕ → Type 0
IsRowAt t codes from = (to : ℕ) → to < length t.switches → MatchOption (count_of_code (code_at codes (from * length t.switches + to))) (¬ AreConnected t from to) (λ n. IsHopCount t from to n)

-- so many rows have their hop counts, the others have none yet
pub record AreRows (t : Topology) (count : ℕ) (codes : List ℕ) : Type 0 where
  pub whole : length codes ≡ length t.switches * length t.switches
  pub done : (from : ℕ) → from < count → IsRowAt t codes from
  pub none : (k : ℕ) → count * length t.switches ≤ k → code_at codes k ≡ 65535

-- ---- places

-- the row of a number ends before that of a greater one begins
pub row_before : (from start n : ℕ) → from < start → from * n + n ≤ start * n
row_before from start n h =
    let low : from + 1 ≤ start = omega (arith, h) in
    omega (arith, mul-le-mul_left n low)

-- after the write of a part
module _ (start width : ℕ) (codes row : List ℕ) (whole : length row ≡ width) (room : start + width ≤ length codes) where
  abbrev after : List ℕ
  after = put_mid start width codes row

  below : (k : ℕ) → k < start → code_at after k ≡ code_at codes k
  below k h =
      sym (get_or-take start after k 65535 h) ∙ ap (λ (xs : List ℕ). get_or xs k 65535) (take-put_mid_below start width codes row start (omega arith) (omega (arith, room))) ∙ get_or-take start codes k 65535 h

  length-written : length after ≡ length codes
  length-written = search (rules, overwrites)

  within : (i : ℕ) → i < width → code_at after (start + i) ≡ code_at row i
  within i h =
      sym (get_or-take (start + width) after (start + i) 65535 (omega (arith, h))) ∙ sym (get_or-drop start (take (start + width) after) i 65535)
      ∙ ap (λ (xs : List ℕ). get_or xs i 65535) (sym (between_is after start (start + width)) ∙ between-put_mid start width codes row (start + width) (omega (arith, room)) (omega (arith, whole)))

  past : (k : ℕ) → start + width ≤ k → code_at after k ≡ code_at codes k
  past k h =
      let same : k ≡ k + 0 = omega arith in
      ap (λ j. get_or after j 65535) same ∙ sym (get_or-drop k after 0 65535) ∙ ap (λ (xs : List ℕ). get_or xs 0 65535) (drop-put_mid start width codes row k h (omega (arith, room)) whole)
      ∙ get_or-drop k codes 0 65535 ∙ ap (λ j. get_or codes j 65535) (sym same)

module _ (t : Topology) (start : ℕ) (codes : List ℕ) (low : start < length t.switches) (are : AreRows t start codes) where
  room : start * length t.switches + length t.switches ≤ length codes
  room = omega (arith, are.whole, row_before start (length t.switches) (length t.switches) low)

  module _ (row : List ℕ) (whole : length row ≡ length t.switches) (is : IsHopRow t start row) where
    abbrev new : List ℕ
    new = put_mid (start * length t.switches) (length t.switches) codes row

    matches : (from to k : ℕ) → code_at new (from * length t.switches + to) ≡ k → MatchOption (count_of_code k) (¬ AreConnected t from to) (λ n. IsHopCount t from to n) →
        MatchOption (count_of_code (code_at new (from * length t.switches + to))) (¬ AreConnected t from to) (λ n. IsHopCount t from to n)
    matches from to k e m = subst (λ j. MatchOption (count_of_code j) (¬ AreConnected t from to) (λ n. IsHopCount t from to n)) (sym e) m

    next_row : AreRows t (start + 1) new
    next_row = record {
      whole = length-written (start * length t.switches) (length t.switches) codes row whole room ∙ are.whole;
      done = λ from h to within_row. elim (cases_lt from start) [
        | inl less ↦
            matches from to (code_at codes (from * length t.switches + to))
            (below (start * length t.switches) (length t.switches) codes row whole room (from * length t.switches + to) (omega (arith, within_row, row_before from start (length t.switches) less))) (are.done from less to within_row)
        | inr more ↦
            (let here : start ≡ from = omega (arith, h, more) in
            subst (λ x. MatchOption (count_of_code (code_at new (x * length t.switches + to))) (¬ AreConnected t x to) (λ n. IsHopCount t x to n)) here
            (matches start to (code_at row to) (within (start * length t.switches) (length t.switches) codes row whole room to within_row) (is to within_row)))
      ];
      none = λ k h.
          let far : start * length t.switches + length t.switches ≤ k = omega (arith, h) in
          past (start * length t.switches) (length t.switches) codes row whole room k far ∙ are.none k (omega (arith, far));
    }

-- where the width and the list are those of the table under other names
pub row_written : (t : Topology) (start width : ℕ) (codes old row : List ℕ) → width ≡ length t.switches → old ≡ codes → start < length t.switches → AreRows t start codes →
    length row ≡ length (take (start * width + width - start * width) (drop (start * width) old)) → IsHopRow t start row →
    AreRows t (start + 1) (put_mid (start * width) (start * width + width - start * width) old row) × (length (put_mid (start * width) (start * width + width - start * width) old row) ≡ length codes)
row_written t start width codes old row wide same low are long is =
    (subst (λ (xs : List ℕ). AreRows t (start + 1) xs) (sym new) rows, ap (λ (xs : List ℕ). length xs) new ∙ rows.whole ∙ sym are.whole)
  where
    part : start * width + width - start * width ≡ length t.switches
    part = omega (arith, wide)

    long_enough : length row ≡ length t.switches
    long_enough = omega (
      arith,
      long,
      part,
      length-take (start * width + width - start * width) (drop (start * width) old),
      length-drop (start * width) old,
      ap (λ (xs : List ℕ). length xs) same,
      ap (λ w. start * w) wide,
      room t start codes low are,
    )

    rows : AreRows t (start + 1) (put_mid (start * length t.switches) (length t.switches) codes row)
    rows = next_row t start codes low are row long_enough is

    new : put_mid (start * width) (start * width + width - start * width) old row ≡ put_mid (start * length t.switches) (length t.switches) codes row
    new = ap (λ k. put_mid (start * width) k old row) part ∙ ap (λ k. put_mid (start * k) (length t.switches) old row) wide ∙ ap (λ (xs : List ℕ). put_mid (start * length t.switches) (length t.switches) xs row) same

-- ---- the table

-- the numbers of all rows are a table
pub is_table : (switches : ℕ) (codes : List ℕ) → switches < 2 ^ 16 → length codes ≡ switches * switches → IsHopTable (record { switches = switches; counts = map count_of_code codes })
is_table switches codes few whole = record {
  few = few;
  whole = length-map codes count_of_code ∙ whole;
  small = All-map (λ (kept : Option ℕ). IfSome kept (λ n. n < 2 ^ 16)) count_of_code codes (λ k d h. small _);
}
  where
    small : (code : ℕ) → IfSome (count_of_code code) (λ n. n < 2 ^ 16)
    small code = go (nat_lt code 65535) refl
      where
        go : (b : Bool) → nat_lt code 65535 ≡ b → IfSome (cond b (Some code) None) (λ n. n < 2 ^ 16)
        go true e = omega (arith, ltb-true code 65535 e)
        go false e = tt

pub are_hops : (t : Topology) (switches : ℕ) (codes : List ℕ) → switches ≡ length t.switches → AreRows t (length t.switches) codes → AreHops t (record { switches = switches; counts = map count_of_code codes })
are_hops t switches codes same are = record { switches = same; each = each }
  where
    each : (from to : ℕ) → from < length t.switches → to < length t.switches →
        MatchOption (slice_index_or (map count_of_code codes) (from * switches + to) None) (¬ AreConnected t from to) (λ n. IsHopCount t from to n)
    each from to low high =
        let place : from * length t.switches + to < length codes = omega (arith, high, are.whole, row_before from (length t.switches) (length t.switches) low) in
        let read : slice_index_or (map count_of_code codes) (from * switches + to) None ≡ count_of_code (code_at codes (from * length t.switches + to)) =
        ap (λ n. slice_index_or (map count_of_code codes) (from * n + to) None) same ∙ get_or-map count_of_code codes (from * length t.switches + to) 65535 None place in
        subst (λ o. MatchOption o (¬ AreConnected t from to) (λ n. IsHopCount t from to n)) (sym read) (are.done from low to high)

-- The rows of a switch's pairs of ports, which stand in a row.
use Rattle.std.proofs.Common.{◌≡◌, ◌≢◌, ◌<◌, ◌≤◌, ◌+◌, ℕ, Bool, List, [], ◌∷◌, ◌++◌, Option, Some, None, length, get_or, take, drop, map, cond, refl, sym, subst, ap, ◌∙◌, inl, inr, arith, length-drop, get_or-drop}
use Rattle.std.specs.Prelude.{slice_get, filter, All, ◌==◌}
use Rattle.std.specs.List.Sorted.{IsStrictlyIncreasing}
use Rattle.std.proofs.lemmas.Bool.{ne_eqb, eq-eqb}
use Rattle.std.proofs.lemmas.Bool.Decides.{eqb_tells}
use Rattle.std.proofs.lemmas.List.{append-nil, map-append, drop-drop, take-append-drop}
use Rattle.std.proofs.lemmas.List.Elements.{All-get_or, All-head, All-tail, All-more, All-drop, filter-append, filter_more}
use Rattle.std.proofs.lemmas.Option.{slice_get_within, get_or_from_slice_get}
use Rattle.fab_tables.specs.declared.lanes.PairRow.{PairRow}
use Rattle.fab_tables.specs.LaneTables.{LaneTables, AreLaneTables, pair_key, IsPairRow}
use Rattle.fab_tables.proofs.Rows.Cells.{chosen, passed, none_some, unsome}
use Rattle.fab_tables.proofs.Rows.PairRows.{keys_not_fall}
use Rattle.fab_dump.specs.Writing.{is_of_switch, pair_text, pair_rows, lines_text}
use Rattle.fab_dump.specs.BlockValues.{of_switch, BeginAt, AreUpTo}
use Rattle.fab_dump.proofs.Writing.Rows.{Row, some_row, lines_added, one_line}

none_there : (s : ℕ) (some : List PairRow) → All (λ (p : PairRow). p.switch.0 ≢ s) some → filter (is_of_switch s) some ≡ []
none_there s [] h = refl
none_there s (p ∷ rest) h =
    ap (λ (b : Bool). cond b (p ∷ filter (is_of_switch s) rest) (filter (is_of_switch s) rest)) (ne_eqb p.switch.0 s (All-head (λ (p : PairRow). p.switch.0 ≢ s) p rest h))
    ∙ none_there s rest (All-tail (λ (p : PairRow). p.switch.0 ≢ s) p rest h)

pub record IsThere (o : Option PairRow) (s : ℕ) (row : PairRow) : Type 0 where
  pub found : o ≡ Some row
  pub switch : row.switch.0 ≡ s

pub of_this : (s : ℕ) (o : Option PairRow) (row : PairRow) → Some row ≡ of_switch s o → IsThere o s row
of_this s None row e = absurd (none_some row (sym e))
of_this s (Some p) row e = elim (eqb_tells p.switch.0 s) [
  | inl x ↦ let same : p ≡ row = unsome p row (chosen (p.switch.0 == s) (Some p) None x.0 ∙ sym e) in
      record { found = ap (λ (q : PairRow). Some q) same; switch = ap (λ (q : PairRow). q.switch.0) (sym same) ∙ x.1 }
  | inr x ↦ absurd (none_some row (passed (p.switch.0 == s) (Some p) None x.0 ∙ sym e))
]

not_this : (s : ℕ) (o : Option PairRow) (row : PairRow) → o ≡ Some row → None ≡ of_switch s o → row.switch.0 ≢ s
not_this s o row e n same =
    let picked : Some row ≡ of_switch s (Some row) = chosen (row.switch.0 == s) (Some row) None (eq-eqb row.switch.0 s same) in
    none_some row (n ∙ ap (λ (p : Option PairRow). of_switch s p) e ∙ sym picked)

module _ (pairs : List PairRow) (s place : ℕ) where
  pub begun : BeginAt pairs s place → AreUpTo pairs s place
  begun b = record { until = λ k d h. omega (arith, b.before k d h); since = b.from }

  pub none_yet : (text : List ℕ) → BeginAt pairs s place → text ≡ text ++ lines_text (pair_rows (take place pairs) s)
  none_yet text b =
      let none : filter (is_of_switch s) (take place pairs) ≡ [] = none_there s (take place pairs) (λ k d h e. omega (arith, b.before k d h, e)) in
      sym (append-nil text) ∙ ap (λ (rows : List PairRow). text ++ lines_text (map pair_text rows)) (sym none)

  module _ (row : PairRow) (there : IsThere (slice_get pairs place) s row) where
    in_place : (d : PairRow) → get_or pairs place d ≡ row
    in_place d = get_or_from_slice_get pairs place row d there.found

    within : place < length pairs
    within = slice_get_within pairs place row there.found

    pub one_on : AreUpTo pairs s place → AreUpTo pairs s (place + 1)
    one_on so = record {
      until = All-more (λ (p : PairRow). p.switch.0 < s + 1) pairs place row within so.until (omega (arith, ap (λ (p : PairRow). p.switch.0) (in_place row), there.switch));
      since = subst (λ (rest : List PairRow). All (λ (p : PairRow). s ≤ p.switch.0) rest) (drop-drop 1 place pairs) (All-drop (λ (p : PairRow). s ≤ p.switch.0) 1 (drop place pairs) so.since);
    }

    one_row : pair_rows (take (place + 1) pairs) s ≡ pair_rows (take place pairs) s ++ pair_text row ∷ []
    one_row =
        let kept : filter (is_of_switch s) (take (place + 1) pairs) ≡ filter (is_of_switch s) (take place pairs) ++ row ∷ [] =
        filter_more (is_of_switch s) pairs place row within
        ∙ ap (λ (p : PairRow). filter (is_of_switch s) (take place pairs) ++ cond (is_of_switch s p) (p ∷ []) []) (in_place row)
        ∙ ap (λ (b : Bool). filter (is_of_switch s) (take place pairs) ++ cond b (row ∷ []) []) (eq-eqb row.switch.0 s there.switch) in
        ap (λ (rows : List PairRow). map pair_text rows) kept ∙ map-append pair_text (filter (is_of_switch s) (take place pairs)) (row ∷ [])

    pub pair_added : (before old between now : List ℕ) → old ≡ before ++ lines_text (pair_rows (take place pairs) s) → between ≡ old ++ pair_text row → now ≡ between ++ 10 ∷ []
        → now ≡ before ++ lines_text (pair_rows (take (place + 1) pairs) s)
    pair_added before old between now e f g =
        lines_added (pair_rows (take place pairs) s) (pair_text row ∷ []) (pair_rows (take (place + 1) pairs) s) before old now e (one_line (pair_text row) old between now f g) one_row

  pub begin_next : place ≤ length pairs → AreUpTo pairs s place → All (λ (p : PairRow). s + 1 ≤ p.switch.0) (drop place pairs) → BeginAt pairs (s + 1) place
  begin_next h so later = record { within = h; before = so.until; from = later }

  pub pairs_done : (before now : List ℕ) → All (λ (p : PairRow). s + 1 ≤ p.switch.0) (drop place pairs) → now ≡ before ++ lines_text (pair_rows (take place pairs) s) → now ≡ before ++ lines_text (pair_rows pairs s)
  pairs_done before now later e =
      let none : filter (is_of_switch s) (drop place pairs) ≡ [] = none_there s (drop place pairs) (λ k d h same. omega (arith, later k d h, same)) in
      let all : filter (is_of_switch s) pairs ≡ filter (is_of_switch s) (take place pairs) =
      ap (λ (some : List PairRow). filter (is_of_switch s) some) (sym (take-append-drop place pairs)) ∙ filter-append (is_of_switch s) (take place pairs) (drop place pairs)
      ∙ ap (λ (some : List PairRow). filter (is_of_switch s) (take place pairs) ++ some) none ∙ append-nil (filter (is_of_switch s) (take place pairs)) in
      e ∙ ap (λ (rows : List PairRow). before ++ lines_text (map pair_text rows)) (sym all)

  module _ (switches : ℕ) (up : IsStrictlyIncreasing (map pair_key pairs)) (rows : All (IsPairRow switches) pairs) where
    switches_rise : (i j : ℕ) (d : PairRow) → i ≤ j → j < length pairs → (get_or pairs i d).switch.0 ≤ (get_or pairs j d).switch.0
    switches_rise i j d a b =
        let keys : pair_key (get_or pairs i d) ≤ pair_key (get_or pairs j d) = keys_not_fall pair_key pairs up i j d a b in
        omega (arith, keys, (rows j d b).from_port, (rows j d b).to_port)

    -- where the pair at the place is not of this switch, it and those after it are of later ones
    pub others_later : None ≡ of_switch s (slice_get pairs place) → place < length pairs → AreUpTo pairs s place → All (λ (p : PairRow). s + 1 ≤ p.switch.0) (drop place pairs)
    others_later none h so k d r =
        let here : Row pairs place = some_row pairs place h in
        let is : get_or pairs place d ≡ here.row = get_or_from_slice_get pairs place here.row d here.found in
        let other : here.row.switch.0 ≢ s = not_this s (slice_get pairs place) here.row here.found none in
        let first : (get_or (drop place pairs) 0 d).switch.0 ≡ here.row.switch.0 = ap (λ (p : PairRow). p.switch.0) (get_or-drop place pairs 0 d ∙ ap (λ (n : ℕ). get_or pairs n d) (omega arith) ∙ is) in
        let low : s ≤ (get_or (drop place pairs) 0 d).switch.0 = so.since 0 d (omega (arith, r)) in
        let differs : (get_or (drop place pairs) 0 d).switch.0 ≢ s = λ e. other (sym first ∙ e) in
        let rises : (get_or pairs place d).switch.0 ≤ (get_or pairs (place + k) d).switch.0 = switches_rise place (place + k) d (omega arith) (omega (arith, length-drop place pairs)) in
        omega (arith, low, differs, first, rises, ap (λ (p : PairRow). p.switch.0) is, ap (λ (p : PairRow). p.switch.0) (get_or-drop place pairs k d))

-- the map of a pair
pub pair_map : (l : LaneTables) (place : ℕ) (row : PairRow) → AreLaneTables l → slice_get l.pairs place ≡ Some row → All (λ (lane : ℕ). lane < 16) row.map
pair_map l place row are e =
    let kept : IsPairRow l.switches row = subst (λ (p : PairRow). IsPairRow l.switches p) (get_or_from_slice_get l.pairs place row row e) (All-get_or (IsPairRow l.switches) l.pairs place row (slice_get_within l.pairs place row e) are.pairs) in
    kept.lanes

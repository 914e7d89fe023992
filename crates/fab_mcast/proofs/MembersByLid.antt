-- Members by their LIDs: the terminal of a LID, and those of ascending LIDs.
use Rattle.std.proofs.Common.{◌≡◌, ◌≢◌, ℕ, ◌+◌, ◌<◌, ◌≤◌, ◌⊎◌, inl, inr, Bool, true, false, not, List, [], ◌∷◌, ◌++◌, length, map, take, get_or, eqb, Option, Some, None, Contains, All, refl, sym, ◌∙◌, ap, subst, arith}
use Rattle.std.specs.Prelude.{◌==◌, IsPermutation, slice_get, slice_index_or, filter_map, position, find, option_map, is_some}
use Rattle.std.specs.List.{list_any, range_with_len, cons_option, dedup}
use Rattle.std.specs.Option.{option_or}
use Rattle.std.specs.List.Sorted.{IsStrictlyIncreasing, IsSorted}
use Rattle.std.specs.Ordering.{nat_cmp}
use Rattle.std.proofs.Math.Seq.{take-length}
use Rattle.std.proofs.lemmas.Grind.{get_or_default_zero}
use Rattle.std.proofs.lemmas.Bool.{cases_order, eqb-true, eq-eqb, and_from, and_parts}
use Rattle.std.proofs.lemmas.List.{take_more}
use Rattle.std.proofs.lemmas.List.Elements.{filter_map-append}
use Rattle.std.proofs.lemmas.List.Kept.{AllPairs-from_increasing, Contains-dedup_nat, Contains-from_dedup}
use Rattle.std.proofs.lemmas.List.Sorted.{Contains-permutation, IsPermutation-sym}
use Rattle.std.proofs.lemmas.Map.Keys.{IsStrictlyIncreasing-dedup}
use Rattle.std.proofs.lemmas.List.Quantifiers.{position-Some}
use Rattle.std.proofs.lemmas.Option.{same_Some, none-some, slice_get-get_or, slice_get_within, get_or_from_slice_get}
use Rattle.fab_model.specs.declared.rows.Place.{Place}
use Rattle.fab_model.specs.declared.rows.SwitchRow.{SwitchRow}
use Rattle.fab_model.specs.declared.rows.TerminalRow.{TerminalRow}
use Rattle.fab_model.specs.Topology.{Topology, is_cabled_at, terminal_at, switch_id, switch_place, terminal_place, place_of, ports_of}
use Rattle.fab_model.specs.WellFormed.{IsWellFormed, IsPort}
use Rattle.fab_model.proofs.Lids.{is_some_position}
use Rattle.fab_model.proofs.Lists.Members.{In, Pairs, in_from_Contains, Contains_from_in, in_all, pairs_from_AllPairs, pairs_filter_map, from_filter, in_filter, from_filter_map, from_append, list_any_from_in, from_list_any, list_any_false}
use Rattle.fab_model.proofs.Lists.Found.{in_filter_map, find_only, find_none, in_range, place_of_in}
use Rattle.fab_model.proofs.Faultless.Facts.{slice_get_in}
use Rattle.fab_mcast.specs.GroupList.{is_named, terminals_named, has_stranger}
use Rattle.fab_mcast.specs.Reading.{number_of_lid}
use Rattle.fab_mcast.proofs.AllCopies.{increasing, one_ascending}
use Rattle.fab_mcast.proofs.CopyTrees.{IsFound}
use Rattle.fab_mcast.proofs.Planting.{found_at, one_terminal}
use Rattle.fab_mcast.proofs.ReadingGroups.{members_ascend}
use Rattle.fab_mcast.proofs.TreePorts.{false_from}

both : {b : Bool} → b ≡ false → b ≡ true → ⊥
both p q = cc

-- the members of the first of ascending LIDs
pub record AreRead (t : Topology) (ascending : List ℕ) (count : ℕ) (members : List ℕ) : Type 0 where
  pub found : members ≡ filter_map (number_of_lid t) (take count ascending)
  pub known : (lid : ℕ) → In lid (take count ascending) → is_some (number_of_lid t lid) ≡ true

module _ (t : Topology) (good : IsWellFormed t) where
  -- the terminal of a LID
  record HasLid (lid n : ℕ) : Type 0 where
    row : TerminalRow
    at : slice_get t.terminals n ≡ Some row
    is : row.lid.0 ≡ lid

  has_lid : (lid n : ℕ) → number_of_lid t lid ≡ Some n → HasLid lid n
  has_lid lid n e = by t.terminals refl
    where
      by : (rows : List TerminalRow) → t.terminals ≡ rows → HasLid lid n
      by [] same = absurd (none-some n (sym (ap (λ (xs : List TerminalRow). position (λ (row : TerminalRow). row.lid.0 == lid) xs) same) ∙ e))
      by (some ∷ rows) same =
          let found = position-Some (λ (row : TerminalRow). row.lid.0 == lid) t.terminals n some e in
          let r : TerminalRow = slice_index_or t.terminals n some in
          record { row = r; at = slice_get-get_or t.terminals n some found.0; is = eqb-true r.lid.0 lid found.1 }

  -- terminals stand by their LIDs
  rows_rise : (m n : ℕ) (a b : TerminalRow) → slice_get t.terminals m ≡ Some a → slice_get t.terminals n ≡ Some b → m < n → a.lid.0 < b.lid.0
  rows_rise m n a b x y less =
      let up : (slice_index_or t.terminals m a).lid.0 < (slice_index_or t.terminals n a).lid.0 = good.terminal_lids_rise m n a less (slice_get_within t.terminals n b y) in
      omega (arith, up, ap (λ (r : TerminalRow). r.lid.0) (get_or_from_slice_get t.terminals m a a x), ap (λ (r : TerminalRow). r.lid.0) (get_or_from_slice_get t.terminals n b a y))

  -- one terminal has it
  one_lid : (m n : ℕ) (a b : TerminalRow) → slice_get t.terminals m ≡ Some a → slice_get t.terminals n ≡ Some b → a.lid.0 ≡ b.lid.0 → m ≡ n
  one_lid m n a b x y same = elim (cases_order m n) [
    | inl e ↦ e
    | inr (inl less) ↦ absurd (omega (arith, same, rows_rise m n a b x y less))
    | inr (inr more) ↦ absurd (omega (arith, same, rows_rise n m b a y x more))
  ]

  lid_from : (n : ℕ) (row : TerminalRow) → slice_get t.terminals n ≡ Some row → number_of_lid t row.lid.0 ≡ Some n
  lid_from n row at = by (number_of_lid t row.lid.0) refl
    where
      by : (o : Option ℕ) → number_of_lid t row.lid.0 ≡ o → number_of_lid t row.lid.0 ≡ Some n
      by (Some m) e = let has : HasLid row.lid.0 m = has_lid row.lid.0 m e in e ∙ ap (λ k. Some k) (one_lid m n has.row row has.at at has.is)
      by None e = absurd (both (sym (is_some_position (λ (r : TerminalRow). r.lid.0 == row.lid.0) t.terminals) ∙ ap (λ o. is_some o) e)
          (list_any_from_in (λ (r : TerminalRow). r.lid.0 == row.lid.0) t.terminals row (slice_get_in t.terminals n row at) (eq-eqb row.lid.0 row.lid.0 refl)))

  -- where a terminal is cabled it is found
  there_found : (n : ℕ) (row : TerminalRow) → slice_get t.terminals n ≡ Some row → terminal_at t row.switch.0 row.port ≡ Some n
  there_found n row at = by (terminal_at t row.switch.0 row.port) refl
    where
      by : (o : Option ℕ) → terminal_at t row.switch.0 row.port ≡ o → terminal_at t row.switch.0 row.port ≡ Some n
      by (Some m) e = let there : IsFound t row.switch.0 row.port m = found_at t row row.switch.0 row.port m e in e ∙ ap (λ k. Some k) (one_terminal t good m n there.row row there.is_row at there.switch there.at_port)
      by None e = absurd (both (sym (is_some_position (is_cabled_at row.switch.0 row.port) t.terminals) ∙ ap (λ o. is_some o) e)
          (list_any_from_in (is_cabled_at row.switch.0 row.port) t.terminals row (slice_get_in t.terminals n row at)
          (and_from (row.switch.0 == row.switch.0) (row.port == row.port) (eq-eqb row.switch.0 row.switch.0 refl) (eq-eqb row.port row.port refl))))

  -- a terminal's place
  place_found : (n : ℕ) (row : TerminalRow) → slice_get t.terminals n ≡ Some row → place_of t row.lid.0 ≡ Some (record { switch = row.switch; port = row.port })
  place_found n row at =
      ap (λ q. option_or (option_map (λ number. record { switch = switch_id number; port = 0 }) q) (terminal_place t row.lid.0)) no_switch
      ∙ ap (λ q. option_map (λ (r : TerminalRow). record { switch = r.switch; port = r.port }) q)
      (find_only (λ (r : TerminalRow). r.lid.0 == row.lid.0) t.terminals row inside (eq-eqb row.lid.0 row.lid.0 refl) (λ y at_y same.
      let k : (k : ℕ) × (slice_get t.terminals k ≡ Some y) = place_of_in t.terminals y at_y in
      same_Some y row (sym k.1 ∙ ap (λ i. slice_get t.terminals i) (one_lid k.0 n y row k.1 at (eqb-true y.lid.0 row.lid.0 same)) ∙ at)))
    where
      inside : In row t.terminals
      inside = slice_get_in t.terminals n row at

      no_switch : position (λ (r : SwitchRow). r.lid.0 == row.lid.0) t.switches ≡ None
      no_switch = none_of (position (λ (r : SwitchRow). r.lid.0 == row.lid.0) t.switches) refl
        where
          none_of : (o : Option ℕ) → position (λ (r : SwitchRow). r.lid.0 == row.lid.0) t.switches ≡ o → position (λ (r : SwitchRow). r.lid.0 == row.lid.0) t.switches ≡ None
          none_of None e = e
          none_of (Some k) e =
              let some : (s : SwitchRow) × In s t.switches × ((s.lid.0 == row.lid.0) ≡ true) = from_list_any (λ (r : SwitchRow). r.lid.0 == row.lid.0) t.switches (sym (is_some_position (λ (r : SwitchRow). r.lid.0 == row.lid.0) t.switches) ∙ ap (λ o. is_some o) e) in
              absurd (in_all (λ (x : TerminalRow). some.0.lid.0 ≢ x.lid.0) t.terminals (in_all (λ (s : SwitchRow). All (λ (x : TerminalRow). s.lid.0 ≢ x.lid.0) t.terminals) t.switches good.other_lids some.0 some.1) row inside (eqb-true some.0.lid.0 row.lid.0 some.2))

  -- no terminal is at port 0
  none_at_0 : (s : ℕ) → terminal_at t s 0 ≡ None
  none_at_0 s = by (terminal_at t s 0) refl
    where
      by : (o : Option ℕ) → terminal_at t s 0 ≡ o → terminal_at t s 0 ≡ None
      by None e = e
      by (Some n) e =
          let row : (row : TerminalRow) × In row t.terminals × (is_cabled_at s 0 row ≡ true) = from_list_any (is_cabled_at s 0) t.terminals (sym (is_some_position (is_cabled_at s 0) t.terminals) ∙ ap (λ o. is_some o) e) in
          let p : IsPort (ports_of t row.0.switch.0) row.0.port = in_all (λ (x : TerminalRow). IsPort (ports_of t x.switch.0) x.port) t.terminals good.terminal_ports row.0 row.1 in
          absurd (omega (arith, p.0, eqb-true row.0.port 0 (and_parts (row.0.switch.0 == s) (row.0.port == 0) row.2).1))

  -- ---- what the code asks

  pub lid_missing : (lid : ℕ) → place_of t lid ≡ None → number_of_lid t lid ≡ None
  lid_missing lid none = by (number_of_lid t lid) refl
    where
      nothing : (p : Place) → None ≡ Some p → ⊥
      nothing p h = cc

      by : (o : Option ℕ) → number_of_lid t lid ≡ o → number_of_lid t lid ≡ None
      by None e = e
      by (Some n) e = let has : HasLid lid n = has_lid lid n e in absurd (nothing _ (sym none ∙ ap (λ l. place_of t l) (sym has.is) ∙ place_found n has.row has.at))

  pub lid_placed : (lid : ℕ) (place : Place) → place_of t lid ≡ Some place → terminal_at t place.switch.0 place.port ≡ number_of_lid t lid
  lid_placed lid place e = by (number_of_lid t lid) refl
    where
      by_switch : (o : Option ℕ) (rest : Option Place) → rest ≡ None → option_or (option_map (λ number. record { switch = switch_id number; port = 0 }) o) rest ≡ Some place → place.port ≡ 0
      by_switch None rest none h = absurd (nothing place (sym none ∙ h))
        where
          nothing : (p : Place) → None ≡ Some p → ⊥
          nothing p h = cc
      by_switch (Some s) rest none h = ap (λ (p : Place). p.port) (sym (same_Some _ place h))

      by : (o : Option ℕ) → number_of_lid t lid ≡ o → terminal_at t place.switch.0 place.port ≡ number_of_lid t lid
      by (Some n) is =
          let has : HasLid lid n = has_lid lid n is in
          let same : record { switch = has.row.switch; port = has.row.port } ≡ place = same_Some _ place (sym (place_found n has.row has.at) ∙ ap (λ l. place_of t l) has.is ∙ e) in
          subst (λ (p : Place). terminal_at t p.switch.0 p.port ≡ number_of_lid t lid) same (there_found n has.row has.at ∙ sym is)
      by None is =
          let none : list_any (λ (r : TerminalRow). r.lid.0 == lid) t.terminals ≡ false = sym (is_some_position (λ (r : TerminalRow). r.lid.0 == lid) t.terminals) ∙ ap (λ o. is_some o) is in
          let terminal : terminal_place t lid ≡ None = ap (λ o. option_map (λ (r : TerminalRow). record { switch = r.switch; port = r.port }) o) (find_none (λ (r : TerminalRow). r.lid.0 == lid) t.terminals (list_any_false (λ (r : TerminalRow). r.lid.0 == lid) t.terminals none)) in
          let zero_port : place.port ≡ 0 = by_switch (position (λ (r : SwitchRow). r.lid.0 == lid) t.switches) (terminal_place t lid) terminal e in
          ap (λ p. terminal_at t place.switch.0 p) zero_port ∙ none_at_0 place.switch.0 ∙ sym is

  -- ---- members of ascending LIDs

  pub none_read : (ascending : List ℕ) → AreRead t ascending 0 []
  none_read ascending = record { found = refl; known = λ lid z. absurd z }

  pub one_read_more : (ascending : List ℕ) (i lid n : ℕ) (members more : List ℕ) → i < length ascending → lid ≡ get_or ascending i 0 → number_of_lid t lid ≡ Some n → more ≡ members ++ n ∷ [] → AreRead t ascending i members → AreRead t ascending (i + 1) more
  one_read_more ascending i lid n members more low at is pushed read =
      let taken : take (i + 1) ascending ≡ take i ascending ++ lid ∷ [] = take_more ascending i 0 low ∙ ap (λ x. take i ascending ++ x ∷ []) (sym at) in
      record {
        found = pushed ∙ ap (λ (xs : List ℕ). xs ++ n ∷ []) read.found
            ∙ ap (λ o. filter_map (number_of_lid t) (take i ascending) ++ cons_option o []) (sym is)
            ∙ sym (filter_map-append (number_of_lid t) (take i ascending) (lid ∷ [])) ∙ ap (λ (xs : List ℕ). filter_map (number_of_lid t) xs) (sym taken);
        known = λ x at_x. elim (from_append (take i ascending) (lid ∷ []) x (subst (λ xs. In x xs) taken at_x)) [
          | inl before ↦ read.known x before
          | inr last ↦ elim last [ inl same ↦ ap (λ y. is_some (number_of_lid t y)) (sym same) ∙ ap (λ o. is_some o) is | inr z ↦ absurd z ]
        ];
      }

  is_terminals : (lid : ℕ) → list_any (λ (row : TerminalRow). row.lid.0 == lid) t.terminals ≡ is_some (number_of_lid t lid)
  is_terminals lid = sym (is_some_position (λ (row : TerminalRow). row.lid.0 == lid) t.terminals)

  -- one LID is a stranger's
  pub stranger_found : (lids ascending : List ℕ) (i lid : ℕ) → i < length ascending → lid ≡ get_or ascending i 0 → ((x : ℕ) → Contains ascending x → Contains lids x) → number_of_lid t lid ≡ None → has_stranger t lids ≡ true
  stranger_found lids ascending i lid low at same none =
      list_any_from_in (λ x. not (list_any (λ (row : TerminalRow). row.lid.0 == x) t.terminals)) lids lid (in_from_Contains lids lid (same lid (i, low, get_or_default_zero ascending i lid low ∙ sym at)))
      (ap not (is_terminals lid ∙ ap (λ o. is_some o) none))

  -- or all are members'
  pub all_read : (lids ascending : List ℕ) (members : List ℕ) → IsStrictlyIncreasing ascending → ((x : ℕ) → Contains ascending x → Contains lids x) → ((x : ℕ) → Contains lids x → Contains ascending x) →
      AreRead t ascending (length ascending) members → (has_stranger t lids ≡ false) × (members ≡ terminals_named t lids)
  all_read lids ascending members up from to read = (no_stranger, one_ascending members (terminals_named t lids) members_up (members_ascend t lids) into back)
    where
      whole : take (length ascending) ascending ≡ ascending
      whole = take-length ascending

      found : members ≡ filter_map (number_of_lid t) ascending
      found = read.found ∙ ap (λ (xs : List ℕ). filter_map (number_of_lid t) xs) whole

      known : (lid : ℕ) → In lid ascending → is_some (number_of_lid t lid) ≡ true
      known lid at = read.known lid (subst (λ xs. In lid xs) (sym whole) at)

      no_stranger : has_stranger t lids ≡ false
      no_stranger = false_from (has_stranger t lids) (λ e.
          let x : (x : ℕ) × In x lids × (not (list_any (λ (row : TerminalRow). row.lid.0 == x) t.terminals) ≡ true) = from_list_any (λ x. not (list_any (λ (row : TerminalRow). row.lid.0 == x) t.terminals)) lids e in
          wrong (list_any (λ (row : TerminalRow). row.lid.0 == x.0) t.terminals) x.2 (is_terminals x.0 ∙ known x.0 (in_from_Contains ascending x.0 (to x.0 (Contains_from_in lids x.0 x.1)))))
        where
          wrong : (b : Bool) → not b ≡ true → b ≡ true → ⊥
          wrong true p q = cc
          wrong false p q = cc

      rises : (x y m n : ℕ) → number_of_lid t x ≡ Some m → number_of_lid t y ≡ Some n → x < y → m < n
      rises x y m n p q less =
          let a : HasLid x m = has_lid x m p in
          let b : HasLid y n = has_lid y n q in
          elim (cases_order m n) [
            | inl e ↦ absurd (omega (arith, less, a.is, b.is, ap (λ (r : TerminalRow). r.lid.0) (same_Some a.row b.row (sym a.at ∙ ap (λ k. slice_get t.terminals k) e ∙ b.at))))
            | inr (inl low) ↦ low
            | inr (inr more) ↦ absurd (omega (arith, less, a.is, b.is, rows_rise n m b.row a.row b.at a.at more))
          ]

      members_up : IsStrictlyIncreasing members
      members_up = subst IsStrictlyIncreasing (sym found)
          (increasing (filter_map (number_of_lid t) ascending) (pairs_filter_map (λ m n. m < n) (λ m n. m < n) (number_of_lid t) (λ x y m n p q less. rises x y m n p q less) ascending
          (pairs_from_AllPairs (λ m n. m < n) ascending (AllPairs-from_increasing ascending up))))

      into : (n : ℕ) → Contains members n → Contains (terminals_named t lids) n
      into n h =
          let x : (x : ℕ) × In x ascending × (number_of_lid t x ≡ Some n) = from_filter_map (number_of_lid t) ascending n (in_from_Contains (filter_map (number_of_lid t) ascending) n (subst (λ xs. Contains xs n) found h)) in
          let has : HasLid x.0 n = has_lid x.0 n x.2 in
          Contains_from_in (terminals_named t lids) n (in_filter (λ k. is_named lids (slice_get t.terminals k)) (range_with_len 0 (length t.terminals)) n
          (in_range 0 (length t.terminals) n (omega arith) (omega (arith, slice_get_within t.terminals n has.row has.at)))
          (ap (λ o. is_named lids o) has.at ∙ list_any_from_in (λ lid. lid == has.row.lid.0) lids x.0 (in_from_Contains lids x.0 (from x.0 (Contains_from_in ascending x.0 x.1))) (eq-eqb x.0 has.row.lid.0 (sym has.is))))

      back : (n : ℕ) → Contains (terminals_named t lids) n → Contains members n
      back n h = by (slice_get t.terminals n) refl listed.1
        where
          listed : In n (range_with_len 0 (length t.terminals)) × (is_named lids (slice_get t.terminals n) ≡ true)
          listed = from_filter (λ k. is_named lids (slice_get t.terminals k)) (range_with_len 0 (length t.terminals)) n (in_from_Contains (terminals_named t lids) n h)

          by : (o : Option TerminalRow) → slice_get t.terminals n ≡ o → is_named lids o ≡ true → Contains members n
          by None at e = absurd (cc)
          by (Some row) at e =
              let x : (x : ℕ) × In x lids × ((x == row.lid.0) ≡ true) = from_list_any (λ lid. lid == row.lid.0) lids e in
              let there : In row.lid.0 ascending = in_from_Contains ascending row.lid.0 (to row.lid.0 (Contains_from_in lids row.lid.0 (subst (λ k. In k lids) (eqb-true x.0 row.lid.0 x.2) x.1))) in
              subst (λ xs. Contains xs n) (sym found) (Contains_from_in (filter_map (number_of_lid t) ascending) n (in_filter_map (number_of_lid t) ascending row.lid.0 n there (lid_from n row at)))

-- LIDs ascending, each once
pub record AreAscending (lids ascending : List ℕ) : Type 0 where
  pub up : IsStrictlyIncreasing ascending
  pub from : (x : ℕ) → Contains ascending x → Contains lids x
  pub to : (x : ℕ) → Contains lids x → Contains ascending x

pub ascending_lids : (lids sorted ascending : List ℕ) → IsPermutation lids sorted → IsSorted nat_cmp sorted → ascending ≡ dedup eqb sorted → AreAscending lids ascending
ascending_lids lids sorted ascending moved in_order is = record {
  up = subst IsStrictlyIncreasing (sym is) (IsStrictlyIncreasing-dedup sorted in_order);
  from = λ x h. Contains-permutation sorted lids x (IsPermutation-sym lids sorted moved) (Contains-from_dedup eqb sorted x (subst (λ (xs : List ℕ). Contains xs x) is h));
  to = λ x h. subst (λ (xs : List ℕ). Contains xs x) (sym is) (Contains-dedup_nat sorted x (Contains-permutation lids sorted x moved h));
}

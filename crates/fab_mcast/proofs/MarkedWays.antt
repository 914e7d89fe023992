-- Ways that are marked: switch after switch of a way, and way after way of a tree.
use Rattle.std.proofs.Common.{◌≡◌, ℕ, ◌+◌, ◌<◌, ◌⊎◌, inl, inr, Bool, true, false, cond, not, count_by, map, take, get_or, List, [], ◌∷◌, ◌++◌, length, refl, sym, ◌∙◌, ap, subst, arith, Option, Some, None, Contains, slice_set, slice_index_or, unwrap_or, get_or-set_same, get_or-set_other, length-set}
use Rattle.std.specs.Prelude.{slice_get}
use Rattle.std.proofs.lemmas.Bool.{cases_eq, cases_Bool}
use Rattle.std.proofs.lemmas.List.{take_more, get_or-map, length-map, get_or_default}
use Rattle.std.proofs.lemmas.List.Sums.{sum_by-set}
use Rattle.std.proofs.lemmas.Option.{same_Some, none-some}
use Rattle.fab_model.specs.declared.rows.ChannelRow.{ChannelRow}
use Rattle.fab_model.specs.declared.rows.TerminalId.{TerminalId}
use Rattle.fab_model.specs.declared.rows.TerminalRow.{TerminalRow}
use Rattle.fab_model.specs.Topology.{Topology}
use Rattle.fab_model.specs.Connected.{LeadsTo}
use Rattle.fab_model.specs.WellFormed.{IsWellFormed}
use Rattle.fab_model.proofs.Lists.Members.{In, in_from_Contains, Contains_from_in, in_left, in_right, from_append, from_filter_map}
use Rattle.fab_model.proofs.Lists.Found.{in_filter_map}
use Rattle.fab_model.proofs.Faultless.Facts.{slice_get_in}
use Rattle.fab_tables.specs.Route.{tip_of_row, tip}
use Rattle.fab_tables.specs.Trees.{next, LeavesSwitch}
use Rattle.fab_tables.specs.TreeWalks.{IsTree}
use Rattle.fab_tables.proofs.Joined.Walks.{connected_on}
use Rattle.fab_tables.proofs.Paths.TreeWalks.{next_tip_below, walk_of_next}
use Rattle.fab_escape.specs.Forest.{Forest, root_of, escape_next, escape_tree}
use Rattle.fab_escape.specs.Trees.{IsEscapeForest}
use Rattle.fab_escape.proofs.EscapeTrees.{escape_tree_is_tree}
use Rattle.fab_escape.proofs.NextChannels.{next_cases}
use Rattle.fab_escape.proofs.OneRoot.{root_below, roots_tell_components}
use Rattle.fab_escape.proofs.WholeTree.{next_in_tree}
use Rattle.fab_mcast.specs.GroupTrees.{escape_route, member_rows}
use Rattle.fab_mcast.specs.Ways.{is_passed, home_of, HasMarkedWay, IsOnWay, IsHoused, IsHome, IsMarkedTree, FitsForest}
use Rattle.fab_mcast.proofs.PlantedTrees.{terminal_low}

-- ---- marks

set_kept : (passed : List Bool) (at s : ℕ) → at < length passed → is_passed passed s ≡ true → is_passed (slice_set passed at true) s ≡ true
set_kept passed at s low h = elim (cases_eq s at) [
  | inl same ↦ ap (λ x. is_passed (slice_set passed at true) x) same ∙ get_or-set_same passed at true false low
  | inr other ↦ get_or-set_other passed at s true false other ∙ h
]

set_here : (passed : List Bool) (at : ℕ) → at < length passed → is_passed (slice_set passed at true) at ≡ true
set_here passed at low = get_or-set_same passed at true false low

set_before : (passed : List Bool) (at s : ℕ) → is_passed (slice_set passed at true) s ≡ true → (s ≡ at) ⊎ (is_passed passed s ≡ true)
set_before passed at s h = elim (cases_eq s at) [
  | inl same ↦ inl same
  | inr other ↦ inr (sym (get_or-set_other passed at s true false other) ∙ h)
]

-- a way from a switch home, which is marked up to a switch
pub record IsMarking (t : Topology) (f : Forest) (from home : ℕ) (old new : List Bool) (at : ℕ) : Type 0 where
  pub each : length new ≡ length old
  pub kept : (s : ℕ) → is_passed old s ≡ true → is_passed new s ≡ true
  pub start : (is_passed new from ≡ true) ⊎ (at ≡ from)
  pub closed : (s c : ℕ) → is_passed old s ≡ false → is_passed new s ≡ true → escape_next f s home ≡ Some c → (is_passed new (tip t c) ≡ true) ⊎ (tip t c ≡ at)
  pub on_way : (s : ℕ) → is_passed new s ≡ true → (is_passed old s ≡ true) ⊎ ((root_of f s ≡ root_of f home) × ((c : ℕ) → escape_next f s home ≡ Some c → Contains (escape_route t f from home) c))
  pub low : at < length t.switches
  pub root : root_of f at ≡ root_of f home
  pub ahead : (c : ℕ) → Contains (escape_route t f at home) c → Contains (escape_route t f from home) c

module _ (t : Topology) (good : IsWellFormed t) (f : Forest) (forest : IsEscapeForest t 0 f) where
  -- the next channel on the way home, and the rest of the way
  pub record IsStep (s home c : ℕ) : Type 0 where
    pub row : ChannelRow
    pub at : slice_get t.channels c ≡ Some row
    pub tail : row.tail.0 ≡ s
    pub low : tip t c < length t.switches
    pub own : root_of f s ≡ root_of f home
    pub root : root_of f (tip t c) ≡ root_of f home
    pub walk : escape_route t f s home ≡ c ∷ escape_route t f (tip t c) home

  pub step_is : (s home c : ℕ) → s < length t.switches → home < length t.switches → escape_next f s home ≡ Some c → IsStep s home c
  step_is s home c low also e =
      let is : IsTree t (escape_tree f home) = escape_tree_is_tree t 0 f home good forest also in
      let has : next (escape_tree f home) s ≡ Some c = next_in_tree f s home (omega (arith, low, forest.each_link)) ∙ e in
      let leaves : LeavesSwitch t c s = is.leaves s c has in
      let there : tip t c < length t.switches = next_tip_below t good (escape_tree f home) is s c has in
      let own : root_of f s ≡ root_of f home = (next_cases t good 0 f forest s home c e).same in
      let leads : LeadsTo t s (tip t c) = (leaves.0, Contains_from_in t.channels leaves.0 (slice_get_in t.channels c leaves.0 leaves.1), leaves.2, sym (ap tip_of_row leaves.1)) in
      record {
        row = leaves.0;
        at = leaves.1;
        tail = leaves.2;
        low = there;
        own = own;
        root = sym ((roots_tell_components t 0 f s (tip t c) good forest low there).1 (connected_on t s s (tip t c) (0, refl) leads)) ∙ own;
        walk = walk_of_next t (escape_tree f home) s c is has;
      }

  -- ---- one way

  module _ (from home : ℕ) (also : home < length t.switches) (old : List Bool) (each : length old ≡ length t.switches) where
    pub marking_begins : from < length t.switches → root_of f from ≡ root_of f home → IsMarking t f from home old old from
    marking_begins low root = record {
      each = refl;
      kept = λ s h. h;
      start = inr refl;
      closed = λ s c before now e. absurd (both before now);
      on_way = λ s h. inl h;
      low = low;
      root = root;
      ahead = λ c h. h;
    }
      where
        both : {b : Bool} → b ≡ false → b ≡ true → ⊥
        both p q = cc

    pub marking_ends : (new : List Bool) (at : ℕ) → IsMarking t f from home old new at → is_passed new at ≡ true → HasMarkedWay t f from home old new
    marking_ends new at is here = record {
      each = is.each;
      kept = is.kept;
      start = elim is.start [ inl marked ↦ marked | inr same ↦ subst (λ x. is_passed new x ≡ true) same here ];
      closed = λ s c before now e. elim (is.closed s c before now e) [ inl marked ↦ marked | inr same ↦ subst (λ x. is_passed new x ≡ true) (sym same) here ];
      on_way = is.on_way;
    }

    module _ (new : List Bool) (at : ℕ) (is : IsMarking t f from home old new at) where
      within : at < length new
      within = omega (arith, is.each, each, is.low)

      abbrev more : List Bool
      more = slice_set new at true

      whole : length more ≡ length old
      whole = length-set new at true ∙ is.each

      kept : (s : ℕ) → is_passed old s ≡ true → is_passed more s ≡ true
      kept s h = set_kept new at s within (is.kept s h)

      -- a marked switch's next channel leads to a marked one, or from this switch on
      closed : (s c : ℕ) → is_passed old s ≡ false → is_passed more s ≡ true → escape_next f s home ≡ Some c → (is_passed more (tip t c) ≡ true) ⊎ (s ≡ at)
      closed s c before now e = elim (set_before new at s now) [
        | inl same ↦ inr same
        | inr marked ↦ elim (is.closed s c before marked e) [
          | inl there ↦ inl (set_kept new at (tip t c) within there)
          | inr same ↦ inl (subst (λ x. is_passed more x ≡ true) (sym same) (set_here new at within))
        ]
      ]

      begun : is_passed more from ≡ true
      begun = elim is.start [ inl marked ↦ set_kept new at from within marked | inr same ↦ subst (λ x. is_passed more x ≡ true) same (set_here new at within) ]

      pub marking_stops : escape_next f at home ≡ None → HasMarkedWay t f from home old more
      marking_stops none = record {
        each = whole;
        kept = kept;
        start = begun;
        closed = λ s c before now e. elim (closed s c before now e) [
          | inl marked ↦ marked
          | inr same ↦ absurd (none-some c (sym none ∙ ap (λ x. escape_next f x home) (sym same) ∙ e))
        ];
        on_way = λ s now. elim (set_before new at s now) [
          | inl same ↦ inr (ap (λ x. root_of f x) same ∙ is.root, λ c e. absurd (none-some c (sym none ∙ ap (λ x. escape_next f x home) (sym same) ∙ e)))
          | inr marked ↦ is.on_way s marked
        ];
      }

      pub marking_goes : (c : ℕ) → escape_next f at home ≡ Some c → IsMarking t f from home old more (tip t c)
      marking_goes c e =
          let step : IsStep at home c = step_is at home c is.low also e in
          let first : Contains (escape_route t f at home) c = Contains_from_in (escape_route t f at home) c (subst (λ cs. In c cs) (sym step.walk) (inl refl)) in
          record {
            each = whole;
            kept = kept;
            start = inl begun;
            closed = λ s d before now h. elim (closed s d before now h) [
              | inl marked ↦ inl marked
              | inr same ↦ inr (ap (λ x. tip t x) (same_Some d c (sym h ∙ ap (λ x. escape_next f x home) same ∙ e)))
            ];
            on_way = λ s now. elim (set_before new at s now) [
              | inl same ↦ inr (ap (λ x. root_of f x) same ∙ is.root, λ d h. subst (λ x. Contains (escape_route t f from home) x) (same_Some c d (sym e ∙ ap (λ x. escape_next f x home) (sym same) ∙ h)) (is.ahead c first))
              | inr marked ↦ is.on_way s marked
            ];
            low = step.low;
            root = step.root;
            ahead = λ d h. is.ahead d (Contains_from_in (escape_route t f at home) d (subst (λ cs. In d cs) (sym step.walk) (inr (in_from_Contains (escape_route t f (tip t c) home) d h))));
          }

  -- ---- one member more

  module _ (members : List ℕ) (n : ℕ) (row : TerminalRow) (is_row : slice_get t.terminals n ≡ Some row) where
    abbrev all : List ℕ
    all = members ++ n ∷ []

    abbrev there : ℕ
    there = row.switch.0

    old_member : (m : TerminalRow) → Contains (member_rows t members) m → Contains (member_rows t all) m
    old_member m h =
        let from : (k : ℕ) × In k members × (slice_get t.terminals k ≡ Some m) = from_filter_map (λ k. slice_get t.terminals k) members m (in_from_Contains (member_rows t members) m h) in
        Contains_from_in (member_rows t all) m (in_filter_map (λ k. slice_get t.terminals k) all from.0 m (in_left members (n ∷ []) from.0 from.1) from.2)

    new_member : Contains (member_rows t all) row
    new_member = Contains_from_in (member_rows t all) row (in_filter_map (λ k. slice_get t.terminals k) all n row (in_right members (n ∷ []) n (inl refl)) is_row)

    which_member : (m : TerminalRow) → Contains (member_rows t all) m → Contains (member_rows t members) m ⊎ (row ≡ m)
    which_member m h =
        let from : (k : ℕ) × In k all × (slice_get t.terminals k ≡ Some m) = from_filter_map (λ k. slice_get t.terminals k) all m (in_from_Contains (member_rows t all) m h) in
        elim (from_append members (n ∷ []) from.0 from.1) [
          | inl before ↦ inl (Contains_from_in (member_rows t members) m (in_filter_map (λ k. slice_get t.terminals k) members from.0 m before from.2))
          | inr last ↦ elim last [
            | inl same ↦ inr (same_Some row m (sym is_row ∙ ap (λ k. slice_get t.terminals k) same ∙ from.2))
            | inr z ↦ absurd z
          ]
        ]

    module _ (homes : List (Option ℕ)) (passed : List Bool) (is : IsMarkedTree t f members homes passed) where
      abbrev home : ℕ
      home = unwrap_or (home_of f homes there) there

      there_low : there < length t.switches
      there_low = terminal_low t good row (slice_get_in t.terminals n row is_row)

      root_low : root_of f there < length homes
      root_low = omega (arith, is.each_home, root_below t good 0 f forest there there_low)

      -- the component's first member, or this one
      pub home_fits : (home < length t.switches) × (root_of f there ≡ root_of f home)
      home_fits = go (home_of f homes there) refl
        where
          go : (o : Option ℕ) → home_of f homes there ≡ o → (unwrap_or o there < length t.switches) × (root_of f there ≡ root_of f (unwrap_or o there))
          go None e = (there_low, refl)
          go (Some a) e =
              let at : IsHome t f members (root_of f there) a = is.homes_are (root_of f there) a e in
              let from : (k : ℕ) × In k members × (slice_get t.terminals k ≡ Some at.member) = from_filter_map (λ k. slice_get t.terminals k) members at.member (in_from_Contains (member_rows t members) at.member at.is_member) in
              (subst (λ x. x < length t.switches) at.there (terminal_low t good at.member (slice_get_in t.terminals from.0 at.member from.2)), sym at.same)

      abbrev more_homes : List (Option ℕ)
      more_homes = slice_set homes (root_of f there) (Some home)

      -- homes stay
      stays : (s a : ℕ) → home_of f homes s ≡ Some a → home_of f more_homes s ≡ Some a
      stays s a e = elim (cases_eq (root_of f s) (root_of f there)) [
        | inl same ↦
            (let before : home_of f homes there ≡ Some a = ap (λ r. slice_index_or homes r None) (sym same) ∙ e in
            ap (λ r. slice_index_or more_homes r None) same ∙ get_or-set_same homes (root_of f there) (Some home) None root_low ∙ ap (λ o. Some (unwrap_or o there)) before)
        | inr other ↦ get_or-set_other homes (root_of f there) (root_of f s) (Some home) None other ∙ e
      ]

      homes_are : (root a : ℕ) → slice_index_or more_homes root None ≡ Some a → IsHome t f all root a
      homes_are root a e = elim (cases_eq root (root_of f there)) [
        | inl same ↦
            (let is_home : home ≡ a = same_Some home a (sym (get_or-set_same homes (root_of f there) (Some home) None root_low) ∙ ap (λ r. slice_index_or more_homes r None) (sym same) ∙ e) in
            subst (λ x. IsHome t f all x a) (sym same) (go (home_of f homes there) refl is_home))
        | inr other ↦ old root a (is.homes_are root a (sym (get_or-set_other homes (root_of f there) root (Some home) None other) ∙ e))
      ]
        where
          old : (root a : ℕ) → IsHome t f members root a → IsHome t f all root a
          old root a at = record { member = at.member; is_member = old_member at.member at.is_member; there = at.there; same = at.same }

          go : (o : Option ℕ) → home_of f homes there ≡ o → unwrap_or o there ≡ a → IsHome t f all (root_of f there) a
          go None e same = record { member = row; is_member = new_member; there = same; same = ap (λ x. root_of f x) (sym same) }
          go (Some b) e same = old (root_of f there) a (is.homes_are (root_of f there) a (e ∙ ap (λ x. Some x) same))

      module _ (new : List Bool) (way : HasMarkedWay t f there home passed new) where
        home_is : home_of f more_homes there ≡ Some home
        home_is = get_or-set_same homes (root_of f there) (Some home) None root_low

        -- a switch that was marked had a home
        had_home : (s a : ℕ) → is_passed passed s ≡ true → home_of f more_homes s ≡ Some a → home_of f homes s ≡ Some a
        had_home s a marked e =
            let on : IsOnWay t f members homes s = is.on_way s marked in
            on.is_home ∙ ap (λ x. Some x) (same_Some on.home a (sym (stays s on.home on.is_home) ∙ e))

        closed_on : (s a c : ℕ) → is_passed new s ≡ true → home_of f more_homes s ≡ Some a → escape_next f s a ≡ Some c → is_passed new (tip t c) ≡ true
        closed_on s a c now at_home e = by (cases_Bool (is_passed passed s))
          where
            by : (is_passed passed s ≡ true) ⊎ (is_passed passed s ≡ false) → is_passed new (tip t c) ≡ true
            by (inl marked) = way.kept (tip t c) (is.closed s a c marked (had_home s a marked at_home) e)
            by (inr before) = elim (way.on_way s now) [
              | inl marked ↦ way.kept (tip t c) (is.closed s a c marked (had_home s a marked at_home) e)
              | inr fresh ↦
                  (let root : root_of f s ≡ root_of f there = fresh.0 ∙ sym home_fits.1 in
                  let same : a ≡ home = same_Some a home (sym at_home ∙ ap (λ r. slice_index_or more_homes r None) root ∙ home_is) in
                  way.closed s c before now (ap (λ x. escape_next f s x) (sym same) ∙ e))
            ]

        on_way : (s : ℕ) → is_passed new s ≡ true → IsOnWay t f all more_homes s
        on_way s now = elim (way.on_way s now) [
          | inl marked ↦
              (let on : IsOnWay t f members homes s = is.on_way s marked in
              record { member = on.member; home = on.home; is_member = old_member on.member on.is_member; same = on.same; is_home = stays s on.home on.is_home; goes = on.goes })
          | inr fresh ↦
              (let root : root_of f s ≡ root_of f there = fresh.0 ∙ sym home_fits.1 in
              record { member = row; home = home; is_member = new_member; same = root; is_home = ap (λ r. slice_index_or more_homes r None) root ∙ home_is; goes = fresh.1 })
        ]

        housed : (m : TerminalRow) → Contains (member_rows t all) m → IsHoused f more_homes new m
        housed m h = elim (which_member m h) [
          | inl before ↦ (let house : IsHoused f homes passed m = is.housed m before in record { home = house.home; is_home = stays m.switch.0 house.home house.is_home; marked = way.kept m.switch.0 house.marked })
          | inr same ↦ subst (λ r. IsHoused f more_homes new r) same (record { home = home; is_home = home_is; marked = way.start })
        ]

        pub one_more : IsMarkedTree t f all more_homes new
        one_more = record {
          each_home = length-set homes (root_of f there) (Some home) ∙ is.each_home;
          each_passed = way.each ∙ is.each_passed;
          homes_are = homes_are;
          housed = housed;
          closed = closed_on;
          on_way = on_way;
        }

-- no member yet
pub none_marked : (t : Topology) (f : Forest) (homes : List (Option ℕ)) (passed : List Bool) → length homes ≡ length t.switches → length passed ≡ length t.switches →
    ((r : ℕ) → slice_index_or homes r None ≡ None) → ((s : ℕ) → is_passed passed s ≡ false) → IsMarkedTree t f [] homes passed
none_marked t f homes passed each also none unmarked = record {
  each_home = each;
  each_passed = also;
  homes_are = λ r a e. absurd (none-some a (sym (none r) ∙ e));
  housed = λ m h. absurd (in_from_Contains [] m h);
  closed = λ s a c h x y. absurd (both (unmarked s) h);
  on_way = λ s h. absurd (both (unmarked s) h);
}
  where
    both : {b : Bool} → b ≡ false → b ≡ true → ⊥
    both p q = cc

-- one switch fewer is unmarked
pub fewer_unmarked : (passed : List Bool) (at : ℕ) → at < length passed → is_passed passed at ≡ false → count_by not (slice_set passed at true) + 1 ≡ count_by not passed
fewer_unmarked passed at low h = omega (arith, sum_by-set one passed at true false low, ap one h)
  where
    one : Bool → ℕ
    one b = cond (not b) 1 0

-- one member more of a list
pub taken_more : (ids : List TerminalId) (i : ℕ) (id : TerminalId) → i < length ids → id ≡ get_or ids i id → take (i + 1) (map (λ (x : TerminalId). x.0) ids) ≡ take i (map (λ (x : TerminalId). x.0) ids) ++ id.0 ∷ []
taken_more ids i id low e =
    take_more (map (λ (x : TerminalId). x.0) ids) i 0 (omega (arith, low, length-map ids (λ (x : TerminalId). x.0)))
    ∙ ap (λ n. take i (map (λ (x : TerminalId). x.0) ids) ++ n ∷ []) (get_or-map (λ (x : TerminalId). x.0) ids i id 0 low ∙ ap (λ (x : TerminalId). x.0) (sym e))

-- homes are found for each switch
pub tree_fits : (t : Topology) → IsWellFormed t → (f : Forest) → IsEscapeForest t 0 f → (members : List ℕ) (homes : List (Option ℕ)) (passed : List Bool) → IsMarkedTree t f members homes passed → FitsForest f homes passed
tree_fits t good f forest members homes passed is = record {
  roots = λ s low. omega (arith, is.each_home, root_below t good 0 f forest s (omega (arith, low, forest.each_root)));
  homes_low = λ root home e.
      let at : IsHome t f members root home = is.homes_are root home e in
      let from : (k : ℕ) × In k members × (slice_get t.terminals k ≡ Some at.member) = from_filter_map (λ k. slice_get t.terminals k) members at.member (in_from_Contains (member_rows t members) at.member at.is_member) in
      omega (arith, terminal_low t good at.member (slice_get_in t.terminals from.0 at.member from.2), at.there, forest.each_root);
  each = is.each_passed ∙ sym forest.each_root;
}

-- a home that was read
pub home_read : (homes : List (Option ℕ)) (r root : ℕ) (x : Option ℕ) (home : ℕ) → r ≡ root → root < length homes → x ≡ get_or homes r x → x ≡ Some home → slice_index_or homes root None ≡ Some home
home_read homes r root x at same low e is = get_or_default homes root None x low ∙ ap (λ k. get_or homes k x) (sym same) ∙ sym e ∙ is

-- the home that goes with a member: the one that was read, or the member's own switch
pub home_chosen : (f : Forest) (homes : List (Option ℕ)) (there root : ℕ) (x : Option ℕ) → root ≡ root_of f there → root < length homes → x ≡ get_or homes root x → unwrap_or x there ≡ unwrap_or (home_of f homes there) there
home_chosen f homes there root x same low e =
    ap (λ (o : Option ℕ). unwrap_or o there) (e ∙ sym (get_or_default homes root None x low) ∙ ap (λ k. slice_index_or homes k None) same)

-- one member more, whose way is marked
pub one_way_more : (t : Topology) (good : IsWellFormed t) (f : Forest) (forest : IsEscapeForest t 0 f) (ids : List TerminalId) (i : ℕ) (id : TerminalId) (row : TerminalRow) → i < length ids → id ≡ get_or ids i id → slice_get t.terminals id.0 ≡ Some row →
    (homes : List (Option ℕ)) (passed new : List Bool) (root home : ℕ) → IsMarkedTree t f (take i (map (λ (x : TerminalId). x.0) ids)) homes passed → root ≡ root_of f row.switch.0 → home ≡ unwrap_or (home_of f homes row.switch.0) row.switch.0 →
    HasMarkedWay t f row.switch.0 home passed new → IsMarkedTree t f (take (i + 1) (map (λ (x : TerminalId). x.0) ids)) (slice_set homes root (Some home)) new
one_way_more t good f forest ids i id row low e is_row homes passed new root home is root_is home_is way =
    let there : ℕ = row.switch.0 in
    let chosen : ℕ = unwrap_or (home_of f homes there) there in
    let before : List ℕ = take i (map (λ (x : TerminalId). x.0) ids) in
    let whole : IsMarkedTree t f (before ++ id.0 ∷ []) (slice_set homes (root_of f there) (Some chosen)) new =
    one_more t good f forest before id.0 row is_row homes passed is new (subst (λ h. HasMarkedWay t f there h passed new) home_is way) in
    let read : IsMarkedTree t f (before ++ id.0 ∷ []) (slice_set homes root (Some home)) new =
    subst (λ r. IsMarkedTree t f (before ++ id.0 ∷ []) (slice_set homes r (Some home)) new) (sym root_is)
    (subst (λ h. IsMarkedTree t f (before ++ id.0 ∷ []) (slice_set homes (root_of f there) (Some h)) new) (sym home_is) whole) in
    subst (λ ms. IsMarkedTree t f ms (slice_set homes root (Some home)) new) (sym (taken_more ids i id low e)) read

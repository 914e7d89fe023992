-- What is read stays orderly.
use Rattle.std.proofs.Common.{◌≡◌, ◌≢◌, ℕ, ◌<◌, Bool, true, false, List, [], ◌∷◌, ◌++◌, length, Some, None, Option, IfSome, inl, inr, nat_eq, refl, sym, ◌∙◌, ap, subst, arith}
use Rattle.std.specs.Prelude.{All, Contains, ◌&&◌, ◌==◌, is_some, option_map, option_and_then, count_by, if◌then◌else◌, IsFalse}
use Rattle.std.specs.Str.{bytes_eq}
use Rattle.std.proofs.lemmas.Bool.{or_parts, cond_both, eqb-false, false≢true, true≢false}
use Rattle.std.proofs.lemmas.Bool.Decides.{eqb_tells}
use Rattle.std.proofs.lemmas.List.{append_assoc, append-nil}
use Rattle.std.proofs.lemmas.List.Elements.{All-head, All-tail}
use Rattle.fab_text.specs.Fields.{fields, dec}
use Rattle.fab_model.specs.declared.rows.SwitchId.{SwitchId}
use Rattle.fab_model.specs.Topology.{Topology, lids_of, switch_id, switch_of, is_source}
use Rattle.fab_model.specs.WellFormed.{IsFabric}
use Rattle.fab_tables.specs.declared.plan.Plan.{Plan}
use Rattle.fab_tables.specs.declared.lanes.PairRow.{PairRow}
use Rattle.fab_tables.specs.Entries.{index_of}
use Rattle.fab_tables.specs.LaneTables.{LaneTables, IsPairRow, level, with_level}
use Rattle.fab_tables.specs.Fit.{EntriesFit, LanesFit, PlanFits, IsTidy}
use Rattle.fab_dump.specs.declared.fault.PlanFault.{PlanFault}
use Rattle.fab_dump.specs.declared.fault.PlanFault.TheVariants.{BadRow, TwiceBlock, TwiceRow, BadLevelRow, BadLaneRow, TooManyPairs}
use Rattle.fab_dump.specs.declared.form.Block.{Block}
use Rattle.fab_dump.specs.declared.form.Block.TheVariants.{Nothing, Table, Levels, MapRow, Pairs, Numbers}
use Rattle.fab_dump.specs.declared.line_kind.LineKind.{LineKind}
use Rattle.fab_dump.specs.declared.line_kind.LineKind.TheVariants.{Comment, TableHead, Row, LevelsHead, MapHead, CertificateHead, PairLine, EndPlan, Other}
use Rattle.fab_dump.specs.Given.{Given, subject, was_given, plan_with, plan_given, lanes_with, tables_with, said_of, with_lanes}
use Rattle.fab_dump.specs.Given.Given.{TableBlock, Port, LevelBlock, Level, MapBlock, Map, PairMap, Certificate, Number}
use Rattle.fab_dump.specs.Lines.{Form, State, Next, adds, goes, is_dump, says_one_lid, has_pairs, is_in_use, short_table_row, long_table_row, short_row, values_row, strange_row, short_level_row, long_level_row, table_row, level_row, level_field, long_row, row_in, lanes_read, map_row, pair_row, adds_pair, pair_in, is_pair_map, number_row, adds_number, table_of, table_head, table_guid, head_guid, levels_head, map_head, a_source, opens, dump_line, plan_line, waiting_line, line_of_plan, line_says, kind_of}
use Rattle.fab_dump.specs.Lines.Next.{Goes, Fails}
use Rattle.fab_dump.specs.Orderly.{IsOrderly, IsOpened, MayBeOpen, HeadsComeFirst, LanesTell}
use Rattle.fab_dump.proofs.Reading.Marks.{was_given-push, not_of, now_of, same_switch, plan_given-push, same_number}
use Rattle.fab_dump.proofs.Reading.PlansFit.{entries_fit}
use Rattle.fab_dump.proofs.Reading.LaneSteps.{AreGood, good_other, good_level, good_lanes, good_number, good_pair}
use Rattle.fab_dump.proofs.Reading.RowFacts.{level_row_is, port_row_is, long_row_is, level_is_low, lanes_are, named_low, source_low, NumberFits, number_row_is, PairRowFits, pair_row_is}
use Rattle.fab_dump.proofs.Reading.FieldNumbers.{port_is_low}
use Rattle.fab_dump.proofs.Reading.ShortRows.{has_place}

-- the plan that was said
abbrev Tells : Topology → List Given → Plan → Type 0
Tells t given p = EntriesFit t p.tables × IfSome p.lanes (AreGood t given)

three : (t : Topology) (given : List Given) (o : Option LaneTables) → IfSome o (LanesFit t) → IfSome o (λ l. (s lid : ℕ) → IsFalse (is_source t s) → level l s lid ≡ None) → IfSome o (LanesTell given) →
    IfSome o (AreGood t given)
three t given None a b c = tt
three t given (Some l) a b c = record { fits = a; tidy = b; told = c }

apart : (t : Topology) (given : List Given) (o : Option LaneTables) → IfSome o (AreGood t given) →
    IfSome o (LanesFit t) × IfSome o (λ l. (s lid : ℕ) → IsFalse (is_source t s) → level l s lid ≡ None) × IfSome o (LanesTell given)
apart t given None h = (tt, tt, tt)
apart t given (Some l) h = (h.fits, h.tidy, h.told)

tells : (t : Topology) (f : Form) (s : State) → IsOrderly t f s → Tells t s.given (plan_given t f.count s.given)
tells t f s h = (h.plan.tables, three t s.given (plan_given t f.count s.given).lanes h.plan.lanes h.tidy h.told)

-- one statement more, of the lanes
lanes_more : (t : Topology) (given : List Given) (o : Option LaneTables) (new : Given) → ((l : LaneTables) → o ≡ Some l → AreGood t given l → AreGood t (given ++ new ∷ []) (lanes_with l new)) →
    IfSome o (AreGood t given) → IfSome (option_map (λ l. lanes_with l new) o) (AreGood t (given ++ new ∷ []))
lanes_more t given None new step h = tt
lanes_more t given (Some l) new step h = step l refl h

module _ (t : Topology) (f : Form) (b : Block) (given : List Given) (h : IsOrderly t f (record { open_block = b; given = given })) where
  -- one statement more
  more : (new : Given) (now_open : Block) → EntriesFit t (tables_with ((plan_given t f.count given).tables) new) →
      ((l : LaneTables) → (plan_given t f.count given).lanes ≡ Some l → AreGood t given l → AreGood t (given ++ new ∷ []) (lanes_with l new)) →
      MayBeOpen t f.count now_open → IsOpened (given ++ new ∷ []) now_open → HeadsComeFirst TableBlock (λ s lid. Port s lid 0) (given ++ new ∷ []) →
      HeadsComeFirst LevelBlock (λ s lid. Level s lid None) (given ++ new ∷ []) → IsOrderly t f (record { open_block = now_open; given = given ++ new ∷ [] })
  more new now_open entries step may opened tables levels =
      let p : Plan = plan_given t f.count given in
      let q : Plan = plan_with p new in
      let is : plan_given t f.count (given ++ new ∷ []) ≡ q = plan_given-push t f.count given new in
      let good = lanes_more t given p.lanes new step (tells t f (record { open_block = b; given = given }) h).1 in
      let parts = apart t (given ++ new ∷ []) q.lanes good in
      record {
        plan = subst (λ (x : Plan). PlanFits t x) (sym is) (record { tables = entries; lanes = parts.0 });
        tidy = subst (λ (x : Plan). IsTidy t x) (sym is) parts.1;
        block = may;
        opened = opened;
        tables = tables;
        levels = levels;
        told = subst (λ (x : Plan). IfSome x.lanes (LanesTell (given ++ new ∷ []))) (sym is) parts.2;
      }

  -- what the new one doesn't speak of stays
  heads_stay : (head : ℕ → Given) (row : ℕ → ℕ → Given) (new : Given) → ((s : ℕ) → bytes_eq (subject new) (subject (head s)) ≡ false) → ((s lid : ℕ) → bytes_eq (subject new) (subject (row s lid)) ≡ false) →
      HeadsComeFirst head row given → HeadsComeFirst head row (given ++ new ∷ [])
  heads_stay head row new no_head no_row old = λ s lid none. not_of given new (row s lid) (no_row s lid) ∙ old s lid (sym (not_of given new (head s) (no_head s)) ∙ none)

  before : (new other : Given) → was_given (given ++ new ∷ []) other ≡ false → was_given given other ≡ false
  before new other none = (or_parts (was_given given other) (bytes_eq (subject new) (subject other)) (sym (was_given-push given new other) ∙ none)).0

  -- a head of such a block
  heads_more : (head : ℕ → Given) (row : ℕ → ℕ → Given) (switch : ℕ) → ((s lid : ℕ) → bytes_eq (subject (head switch)) (subject (row s lid)) ≡ false) → HeadsComeFirst head row given →
      HeadsComeFirst head row (given ++ head switch ∷ [])
  heads_more head row switch no_row old = λ s lid none. not_of given (head switch) (row s lid) (no_row s lid) ∙ old s lid (before (head switch) (head s) none)

  -- a row of a block that was opened
  rows_more : (head : ℕ → Given) (row : ℕ → ℕ → Given) (new : Given) (switch : ℕ) → was_given given (head switch) ≡ true → ((s : ℕ) → bytes_eq (subject new) (subject (head s)) ≡ false) →
      ((s lid : ℕ) → switch ≢ s → bytes_eq (subject new) (subject (row s lid)) ≡ false) → HeadsComeFirst head row given → HeadsComeFirst head row (given ++ new ∷ [])
  rows_more head row new switch opened no_head other old = λ s lid none.
      let none_before : was_given given (head s) ≡ false = sym (not_of given new (head s) (no_head s)) ∙ none in
      not_of given new (row s lid) (other s lid (λ e. true≢false (sym opened ∙ ap (λ k. was_given given (head k)) e ∙ none_before))) ∙ old s lid none_before

apart_rows : (a b lid other : ℕ) → a ≢ b → (nat_eq a b && (nat_eq lid other && true)) ≡ false
apart_rows a b lid other h = elim (eqb_tells a b) [ inl y ↦ absurd (h y.1) | inr n ↦ ap (λ v. v && (nat_eq lid other && true)) n.0 ]

-- after the head of a table block
orderly_table : (t : Topology) (f : Form) (s : State) (switch : ℕ) → IsOrderly t f s → IsOrderly t f (record { open_block = Table (Some (switch_id switch)); given = s.given ++ TableBlock switch ∷ [] })
orderly_table t f s switch h = more t f s.open_block s.given h (TableBlock switch) (Table (Some (switch_id switch))) h.plan.tables
    (λ l is good. good_other t s.given (TableBlock switch) l (λ c k. refl) (λ row. refl) refl good) tt
    (now_of s.given (TableBlock switch) (TableBlock switch) (same_switch switch switch ∙ same_number switch))
    (heads_more t f s.open_block s.given h TableBlock (λ k lid. Port k lid 0) switch (λ k lid. refl) h.tables)
    (heads_stay t f s.open_block s.given h LevelBlock (λ k lid. Level k lid None) (TableBlock switch) (λ k. refl) (λ k lid. refl) h.levels)

orderly_levels : (t : Topology) (f : Form) (s : State) (switch : ℕ) → is_some f.count ≡ true → switch < length t.switches → is_source t switch ≡ true → IsOrderly t f s →
    IsOrderly t f (record { open_block = Levels (switch_id switch); given = s.given ++ LevelBlock switch ∷ [] })
orderly_levels t f s switch some low source h = more t f s.open_block s.given h (LevelBlock switch) (Levels (switch_id switch)) h.plan.tables
    (λ l is good. good_other t s.given (LevelBlock switch) l (λ c k. refl) (λ row. refl) refl good) (some, low, source)
    (now_of s.given (LevelBlock switch) (LevelBlock switch) (same_switch switch switch ∙ same_number switch))
    (heads_stay t f s.open_block s.given h TableBlock (λ k lid. Port k lid 0) (LevelBlock switch) (λ k. refl) (λ k lid. refl) h.tables)
    (heads_more t f s.open_block s.given h LevelBlock (λ k lid. Level k lid None) switch (λ k lid. refl) h.levels)

orderly_map : (t : Topology) (f : Form) (s : State) (switch : ℕ) → is_some f.count ≡ true → switch < length t.switches → IsOrderly t f s →
    IsOrderly t f (record { open_block = MapRow (switch_id switch); given = s.given ++ MapBlock switch ∷ [] })
orderly_map t f s switch some low h = more t f s.open_block s.given h (MapBlock switch) (MapRow (switch_id switch)) h.plan.tables
    (λ l is good. good_other t s.given (MapBlock switch) l (λ c k. refl) (λ row. refl) refl good) (some, low) tt
    (heads_stay t f s.open_block s.given h TableBlock (λ k lid. Port k lid 0) (MapBlock switch) (λ k. refl) (λ k lid. refl) h.tables)
    (heads_stay t f s.open_block s.given h LevelBlock (λ k lid. Level k lid None) (MapBlock switch) (λ k. refl) (λ k lid. refl) h.levels)

orderly_certificate : (t : Topology) (f : Form) (s : State) → is_some f.count ≡ true → IsOrderly t f s → IsOrderly t f (record { open_block = Numbers; given = s.given ++ Certificate ∷ [] })
orderly_certificate t f s some h = more t f s.open_block s.given h Certificate Numbers h.plan.tables
    (λ l is good. good_other t s.given Certificate l (λ c k. refl) (λ row. refl) refl good) some tt
    (heads_stay t f s.open_block s.given h TableBlock (λ k lid. Port k lid 0) Certificate (λ k. refl) (λ k lid. refl) h.tables)
    (heads_stay t f s.open_block s.given h LevelBlock (λ k lid. Level k lid None) Certificate (λ k. refl) (λ k lid. refl) h.levels)

-- after rows
orderly_port : (t : Topology) (f : Form) (given : List Given) (switch : SwitchId) (lid port : ℕ) → port < 256 → IsOrderly t f (record { open_block = Table (Some switch); given = given }) →
    IsOrderly t f (record { open_block = Table (Some switch); given = given ++ Port switch.0 lid port ∷ [] })
orderly_port t f given switch lid port low h =
    let p : Plan = plan_given t f.count given in
    more t f (Table (Some switch)) given h (Port switch.0 lid port) (Table (Some switch)) (entries_fit t p.tables switch.0 port (index_of lid p.tables.in_use) low h.plan.tables)
    (λ l is good. good_other t given (Port switch.0 lid port) l (λ c k. refl) (λ row. refl) refl good) tt
    (not_of given (Port switch.0 lid port) (TableBlock switch.0) refl ∙ h.opened)
    (rows_more t f (Table (Some switch)) given h TableBlock (λ k other. Port k other 0) (Port switch.0 lid port) switch.0 h.opened (λ k. refl) (λ k other e. apart_rows switch.0 k lid other e) h.tables)
    (heads_stay t f (Table (Some switch)) given h LevelBlock (λ k other. Level k other None) (Port switch.0 lid port) (λ k. refl) (λ k other. refl) h.levels)

orderly_level : (t : Topology) (f : Form) (given : List Given) (switch : SwitchId) (lid : ℕ) (new : Option ℕ) → Contains (lids_of t) lid → IfSome new (λ n. n < 16) →
    IsOrderly t f (record { open_block = Levels switch; given = given }) → IsOrderly t f (record { open_block = Levels switch; given = given ++ Level switch.0 lid new ∷ [] })
orderly_level t f given switch lid new there low h =
    more t f (Levels switch) given h (Level switch.0 lid new) (Levels switch) h.plan.tables
    (λ l is good. good_other t given (Level switch.0 lid new) (with_level l switch.0 lid new) (λ c k. refl) (λ row. refl) refl
    (good_level t given l switch.0 lid new (subst (λ lids. Contains lids lid) (sym good.fits.in_use) there) (omega (arith, good.fits.switches, h.block.1)) h.block.2 low good)) h.block
    (not_of given (Level switch.0 lid new) (LevelBlock switch.0) refl ∙ h.opened)
    (heads_stay t f (Levels switch) given h TableBlock (λ k other. Port k other 0) (Level switch.0 lid new) (λ k. refl) (λ k other. refl) h.tables)
    (rows_more t f (Levels switch) given h LevelBlock (λ k other. Level k other None) (Level switch.0 lid new) switch.0 h.opened (λ k. refl) (λ k other e. apart_rows switch.0 k lid other e) h.levels)

orderly_lanes : (t : Topology) (f : Form) (s : State) (switch : ℕ) (lanes : List ℕ) (now_open : Block) → All (λ n. n < 16) lanes → MayBeOpen t f.count now_open → IsOpened (s.given ++ Map switch lanes ∷ []) now_open →
    IsOrderly t f s → IsOrderly t f (record { open_block = now_open; given = s.given ++ Map switch lanes ∷ [] })
orderly_lanes t f s switch lanes now_open low may opened h = more t f s.open_block s.given h (Map switch lanes) now_open h.plan.tables
    (λ l is good. good_other t s.given (Map switch lanes) (with_lanes l switch 0 lanes) (λ c k. refl) (λ row. refl) refl (good_lanes t s.given l switch 0 lanes low good)) may opened
    (heads_stay t f s.open_block s.given h TableBlock (λ k lid. Port k lid 0) (Map switch lanes) (λ k. refl) (λ k lid. refl) h.tables)
    (heads_stay t f s.open_block s.given h LevelBlock (λ k lid. Level k lid None) (Map switch lanes) (λ k. refl) (λ k lid. refl) h.levels)

orderly_pair : (t : Topology) (f : Form) (s : State) (switch : SwitchId) (row : PairRow) → MayBeOpen t f.count (Pairs switch) → was_given s.given (PairMap row) ≡ false → count_by is_pair_map s.given ≢ 65536 →
    PairRowFits t row → IsOrderly t f s → IsOrderly t f (record { open_block = Pairs switch; given = s.given ++ PairMap row ∷ [] })
orderly_pair t f s switch row may new room fit h = more t f s.open_block s.given h (PairMap row) (Pairs switch) h.plan.tables
    (λ l is good. good_pair t s.given l row new room (subst (λ n. IsPairRow n row) (sym good.fits.switches) fit.0) fit.1 good) may tt
    (heads_stay t f s.open_block s.given h TableBlock (λ k lid. Port k lid 0) (PairMap row) (λ k. refl) (λ k lid. refl) h.tables)
    (heads_stay t f s.open_block s.given h LevelBlock (λ k lid. Level k lid None) (PairMap row) (λ k. refl) (λ k lid. refl) h.levels)

orderly_number : (t : Topology) (f : Form) (s : State) (new : Given) → is_some f.count ≡ true → NumberFits t new → IsOrderly t f s → IsOrderly t f (record { open_block = Numbers; given = s.given ++ new ∷ [] })
orderly_number t f s (Number channel lane number) some fit h = more t f s.open_block s.given h (Number channel lane number) Numbers h.plan.tables
    (λ l is good. good_number t s.given l channel lane number (omega (arith, fit.0, good.fits.channels)) fit.1 fit.2 fit.3 good) some tt
    (heads_stay t f s.open_block s.given h TableBlock (λ k lid. Port k lid 0) (Number channel lane number) (λ k. refl) (λ k lid. refl) h.tables)
    (heads_stay t f s.open_block s.given h LevelBlock (λ k lid. Level k lid None) (Number channel lane number) (λ k. refl) (λ k lid. refl) h.levels)
orderly_number t f s (TableBlock a) some fit h = absurd fit
orderly_number t f s (Port a b c) some fit h = absurd fit
orderly_number t f s (LevelBlock a) some fit h = absurd fit
orderly_number t f s (Level a b c) some fit h = absurd fit
orderly_number t f s (MapBlock a) some fit h = absurd fit
orderly_number t f s (Map a b) some fit h = absurd fit
orderly_number t f s (PairMap a) some fit h = absurd fit
orderly_number t f s Certificate some fit h = absurd fit

-- where the reading goes on, it is orderly
abbrev pub Keeps : Topology → Form → Next → Type 0
Keeps t f (Goes s) = IsOrderly t f s
Keeps t f _ = Unit {0}

-- the same state, with its block spelled out
opened_as : (t : Topology) (f : Form) (s : State) (b : Block) → s.open_block ≡ b → IsOrderly t f s → IsOrderly t f (record { open_block = b; given = s.given })
opened_as t f s b e h = subst (λ (x : Block). IsOrderly t f (record { open_block = x; given = s.given })) e h

module _ (t : Topology) (f : Form) (n : ℕ) (s : State) (h : IsOrderly t f s) where
  keeps_adds : (twice : PlanFault) (now_open : Block) (new : Given) (all : List Given) → IsOrderly t f (record { open_block = now_open; given = s.given ++ new ∷ all }) → Keeps t f (adds twice s now_open (new ∷ all))
  keeps_adds twice now_open new all k = cond_both (was_given s.given new) (Fails twice) (goes s now_open (new ∷ all)) (Keeps t f) (λ e. tt) (λ e. k)

  keeps_rows : (twice : PlanFault) (now_open : Block) (all : List Given) → IsOrderly t f (record { open_block = now_open; given = s.given ++ all }) → Keeps t f (adds twice s now_open all)
  keeps_rows twice now_open [] k = k
  keeps_rows twice now_open (new ∷ all) k = keeps_adds twice now_open new all k

  keeps_strange : (row : Option (ℕ × ℕ)) → Keeps t f (strange_row n s row)
  keeps_strange None = tt
  keeps_strange (Some row) = h

  in_use : (lid : ℕ) → is_in_use t lid ≡ true → Contains (lids_of t) lid
  in_use lid e = go (index_of lid (lids_of t)) refl e
    where
      go : (o : Option ℕ) → index_of lid (lids_of t) ≡ o → is_some o ≡ true → Contains (lids_of t) lid
      go None is some = absurd (false≢true some)
      go (Some place) is some = has_place (lids_of t) lid place is

  -- rows of a block, of which one statement leaves it orderly
  module _ {A : Type 0} (P : A → Type 0) (b : Block) (say : ℕ → A → Given) (is : s.open_block ≡ b)
      (one : (given : List Given) (lid : ℕ) (value : A) → Contains (lids_of t) lid → P value → IsOrderly t f (record { open_block = b; given = given }) →
      IsOrderly t f (record { open_block = b; given = given ++ say lid value ∷ [] })) where
    keeps_short_row : (bad : PlanFault) (unused : Next) (row : Option (ℕ × A)) → Keeps t f unused → IfSome row (λ r. P r.1) → Keeps t f (short_row t bad unused n s b say row)
    keeps_short_row bad unused None k low = tt
    keeps_short_row bad unused (Some row) k low = cond_both (is_in_use t row.0) (adds (TwiceRow n) s b (say row.0 row.1 ∷ [])) unused (Keeps t f)
        (λ e. keeps_adds (TwiceRow n) b (say row.0 row.1) [] (one s.given row.0 row.1 (in_use row.0 e) low (opened_as t f s b is h))) (λ e. k)

    abbrev Good : ℕ × A → Type 0
    Good r = Contains (lids_of t) r.0 × P r.1

    orderly_rows : (given : List Given) (rows : List (ℕ × A)) → All Good rows → IsOrderly t f (record { open_block = b; given = given }) → IsOrderly t f (record { open_block = b; given = given ++ said_of say rows })
    orderly_rows given [] all k = subst (λ (g : List Given). IsOrderly t f (record { open_block = b; given = g })) (sym (append-nil given)) k
    orderly_rows given (row ∷ rows) all k =
        let first : Good row = All-head Good row rows all in
        subst (λ (g : List Given). IsOrderly t f (record { open_block = b; given = g })) (append_assoc given (say row.0 row.1 ∷ []) (said_of say rows))
        (orderly_rows (given ++ say row.0 row.1 ∷ []) rows (All-tail Good row rows all) (one given row.0 row.1 first.0 first.1 k))

    keeps_values_row : (bad : PlanFault) (rows : Option (List (ℕ × A))) → IfSome rows (All Good) → Keeps t f (values_row bad n s b say rows)
    keeps_values_row bad None all = tt
    keeps_values_row bad (Some rows) all = keeps_rows (TwiceRow n) b (said_of say rows) (orderly_rows s.given rows all (opened_as t f s b is h))

  keeps_number : (new : Option Given) → s.open_block ≡ Numbers → IfSome new (NumberFits t) → Keeps t f (adds_number n s new)
  keeps_number None is fit = tt
  keeps_number (Some new) is fit = keeps_adds (TwiceRow n) Numbers new [] (orderly_number t f s new (opened_as t f s Numbers is h).block fit h)

  keeps_row : (line : List ℕ) (b : Block) → s.open_block ≡ b → Keeps t f (row_in t f n s b line)
  keeps_row line Nothing is = tt
  keeps_row line (Table None) is = keeps_strange (table_row (fields line))
  keeps_row line (Table (Some switch)) is =
      let one : (given : List Given) (lid port : ℕ) → Contains (lids_of t) lid → port < 256 → IsOrderly t f (record { open_block = Table (Some switch); given = given }) →
      IsOrderly t f (record { open_block = Table (Some switch); given = given ++ Port switch.0 lid port ∷ [] }) = λ given lid port there low k. orderly_port t f given switch lid port low k in
      cond_both (says_one_lid f.version) (short_table_row t n s switch.0 (table_row (fields line))) (long_table_row n s switch.0 (long_row (lids_of t) (dec 3 255) (fields line))) (Keeps t f)
      (λ e. keeps_short_row (λ k. k < 256) (Table (Some switch)) (Port switch.0) is one (BadRow n) (Goes s) (table_row (fields line)) h (port_row_is (fields line)))
      (λ e. keeps_values_row (λ k. k < 256) (Table (Some switch)) (Port switch.0) is one (BadRow n) (long_row (lids_of t) (dec 3 255) (fields line)) (long_row_is (λ k. k < 256) (lids_of t) (dec 3 255) (fields line) port_is_low))
  keeps_row line (Levels switch) is =
      let P : Option ℕ → Type 0 = λ level. IfSome level (λ k. k < 16) in
      let one : (given : List Given) (lid : ℕ) (level : Option ℕ) → Contains (lids_of t) lid → IfSome level (λ k. k < 16) → IsOrderly t f (record { open_block = Levels switch; given = given }) →
      IsOrderly t f (record { open_block = Levels switch; given = given ++ Level switch.0 lid level ∷ [] }) = λ given lid level there low k. orderly_level t f given switch lid level there low k in
      cond_both (says_one_lid f.version) (short_level_row t n s switch.0 (level_row (fields line))) (long_level_row n s switch.0 (long_row (lids_of t) level_field (fields line))) (Keeps t f)
      (λ e. keeps_short_row P (Levels switch) (Level switch.0) is one (BadLevelRow n) (Fails (BadLevelRow n)) (level_row (fields line)) tt (level_row_is (fields line)))
      (λ e. keeps_values_row P (Levels switch) (Level switch.0) is one (BadLevelRow n) (long_row (lids_of t) level_field (fields line)) (long_row_is P (lids_of t) level_field (fields line) level_is_low))
  keeps_row line (MapRow switch) is = tt
  keeps_row line (Pairs switch) is = tt
  keeps_row line Numbers is = keeps_number (number_row t (fields line)) is (number_row_is t (fields line))

  keeps_table_of : (switch : Option ℕ) → Keeps t f (table_of f n s switch)
  keeps_table_of None = cond_both (says_one_lid f.version) (Goes (record { open_block = Table None; given = s.given })) (Fails (BadRow n)) (Keeps t f)
      (λ e. record { plan = h.plan; tidy = h.tidy; block = tt; opened = tt; tables = h.tables; levels = h.levels; told = h.told }) (λ e. tt)
  keeps_table_of (Some switch) = keeps_adds (TwiceBlock n) (Table (Some (switch_id switch))) (TableBlock switch) [] (orderly_table t f s switch h)

  keeps_table_head : (guid : Option ℕ) → Keeps t f (table_head t f n s guid)
  keeps_table_head None = tt
  keeps_table_head (Some guid) = keeps_table_of (switch_of t guid)

  keeps_levels_head : (o : Option ℕ) → is_some f.count ≡ true → IfSome o (λ k. (k < length t.switches) × (is_source t k ≡ true)) → Keeps t f (opens (BadLevelRow n) (TwiceBlock n) s Levels LevelBlock o)
  keeps_levels_head None some low = tt
  keeps_levels_head (Some switch) some low = keeps_adds (TwiceBlock n) (Levels (switch_id switch)) (LevelBlock switch) [] (orderly_levels t f s switch some low.0 low.1 h)

  keeps_map_head : (o : Option ℕ) → is_some f.count ≡ true → IfSome o (λ k. k < length t.switches) → Keeps t f (opens (BadLaneRow n) (TwiceBlock n) s MapRow MapBlock o)
  keeps_map_head None some low = tt
  keeps_map_head (Some switch) some low = keeps_adds (TwiceBlock n) (MapRow (switch_id switch)) (MapBlock switch) [] (orderly_map t f s switch some low h)

  keeps_pair : IsFabric t → (switch : SwitchId) (row : Option PairRow) → s.open_block ≡ Pairs switch → IfSome row (λ r. (r.switch.0 ≡ switch.0) × PairRowFits t r) → Keeps t f (adds_pair n s switch.0 row)
  keeps_pair fabric switch None is fit = tt
  keeps_pair fabric switch (Some row) is fit =
      cond_both (was_given s.given (PairMap row)) (Fails (TwiceRow n)) (if count_by is_pair_map s.given == 65536 then Fails (TooManyPairs n) else goes s (Pairs (switch_id switch.0)) (PairMap row ∷ [])) (Keeps t f)
      (λ e. tt)
      (λ new. cond_both (count_by is_pair_map s.given == 65536) (Fails (TooManyPairs n)) (goes s (Pairs (switch_id switch.0)) (PairMap row ∷ [])) (Keeps t f) (λ e. tt)
      (λ room. orderly_pair t f s switch row (opened_as t f s (Pairs switch) is h).block new (eqb-false (count_by is_pair_map s.given) 65536 room) fit.1 h))

  keeps_pair_in : IsFabric t → (line : List ℕ) (b : Block) → s.open_block ≡ b → Keeps t f (pair_in t n s b line)
  keeps_pair_in fabric line (Pairs switch) is =
      keeps_pair fabric switch (pair_row t switch.0 (fields line)) is (pair_row_is t switch.0 fabric (opened_as t f s (Pairs switch) is h).block.1 (fields line))
  keeps_pair_in fabric line Nothing is = tt
  keeps_pair_in fabric line (Table a) is = tt
  keeps_pair_in fabric line (Levels a) is = tt
  keeps_pair_in fabric line (MapRow a) is = tt
  keeps_pair_in fabric line Numbers is = tt

  after_map : (switch : SwitchId) (lanes : List ℕ) (pairs : Bool) → s.open_block ≡ MapRow switch → All (λ k. k < 16) lanes →
      IsOrderly t f (record { open_block = if pairs then Pairs (switch_id switch.0) else Nothing; given = s.given ++ Map switch.0 lanes ∷ [] })
  after_map switch lanes true is low = orderly_lanes t f s switch.0 lanes (Pairs (switch_id switch.0)) low (opened_as t f s (MapRow switch) is h).block tt h
  after_map switch lanes false is low = orderly_lanes t f s switch.0 lanes Nothing low tt tt h

  keeps_map_row : (switch : SwitchId) (lanes : Option (List ℕ)) → s.open_block ≡ MapRow switch → IfSome lanes (λ ls. (length ls ≡ 16) × All (λ k. k < 16) ls) → Keeps t f (map_row f n s switch.0 lanes)
  keeps_map_row switch None is low = tt
  keeps_map_row switch (Some lanes) is low = after_map switch lanes (has_pairs f.version) is low.1

  keeps_waiting : (switch : SwitchId) (line : List ℕ) (kind : LineKind) → s.open_block ≡ MapRow switch → Keeps t f (waiting_line f n s switch.0 line kind)
  keeps_waiting switch line Comment is = h
  keeps_waiting switch line TableHead is = keeps_map_row switch (lanes_read (fields line)) is (lanes_are (fields line))
  keeps_waiting switch line Row is = keeps_map_row switch (lanes_read (fields line)) is (lanes_are (fields line))
  keeps_waiting switch line LevelsHead is = keeps_map_row switch (lanes_read (fields line)) is (lanes_are (fields line))
  keeps_waiting switch line MapHead is = keeps_map_row switch (lanes_read (fields line)) is (lanes_are (fields line))
  keeps_waiting switch line CertificateHead is = keeps_map_row switch (lanes_read (fields line)) is (lanes_are (fields line))
  keeps_waiting switch line PairLine is = keeps_map_row switch (lanes_read (fields line)) is (lanes_are (fields line))
  keeps_waiting switch line EndPlan is = keeps_map_row switch (lanes_read (fields line)) is (lanes_are (fields line))
  keeps_waiting switch line Other is = keeps_map_row switch (lanes_read (fields line)) is (lanes_are (fields line))

  keeps_plan_line : IsFabric t → (line : List ℕ) (kind : LineKind) → Keeps t f (plan_line t f n s line kind)
  keeps_plan_line fabric line Comment = h
  keeps_plan_line fabric line TableHead = keeps_table_head (table_guid line)
  keeps_plan_line fabric line Row = keeps_row line s.open_block refl
  keeps_plan_line fabric line LevelsHead =
      cond_both (is_some f.count) (opens (BadLevelRow n) (TwiceBlock n) s Levels LevelBlock (a_source t (option_and_then (switch_of t) (head_guid levels_head line)))) (Fails (BadRow n)) (Keeps t f)
      (λ some. keeps_levels_head (a_source t (option_and_then (switch_of t) (head_guid levels_head line))) some (source_low t (option_and_then (switch_of t) (head_guid levels_head line)) (named_low t (head_guid levels_head line)))) (λ e. tt)
  keeps_plan_line fabric line MapHead =
      cond_both (is_some f.count) (opens (BadLaneRow n) (TwiceBlock n) s MapRow MapBlock (option_and_then (switch_of t) (head_guid map_head line))) (Fails (BadRow n)) (Keeps t f)
      (λ some. keeps_map_head (option_and_then (switch_of t) (head_guid map_head line)) some (named_low t (head_guid map_head line))) (λ e. tt)
  keeps_plan_line fabric line CertificateHead =
      cond_both (is_some f.count) (adds (TwiceBlock n) s Numbers (Certificate ∷ [])) (Fails (BadRow n)) (Keeps t f)
      (λ some. keeps_adds (TwiceBlock n) Numbers Certificate [] (orderly_certificate t f s some h)) (λ e. tt)
  keeps_plan_line fabric line PairLine = keeps_pair_in fabric line s.open_block refl
  keeps_plan_line fabric line EndPlan = tt
  keeps_plan_line fabric line Other = tt

  keeps_dump_line : (line : List ℕ) (kind : LineKind) → Keeps t f (dump_line t f n s line kind)
  keeps_dump_line line Comment = h
  keeps_dump_line line TableHead = keeps_table_head (table_guid line)
  keeps_dump_line line Row = keeps_row line s.open_block refl
  keeps_dump_line line LevelsHead = h
  keeps_dump_line line MapHead = h
  keeps_dump_line line CertificateHead = h
  keeps_dump_line line PairLine = h
  keeps_dump_line line EndPlan = h
  keeps_dump_line line Other = h

  keeps_of_plan : IsFabric t → (line : List ℕ) (b : Block) → s.open_block ≡ b → Keeps t f (line_of_plan t f n s b line)
  keeps_of_plan fabric line (MapRow switch) is = keeps_waiting switch line (kind_of line) is
  keeps_of_plan fabric line Nothing is = keeps_plan_line fabric line (kind_of line)
  keeps_of_plan fabric line (Table a) is = keeps_plan_line fabric line (kind_of line)
  keeps_of_plan fabric line (Levels a) is = keeps_plan_line fabric line (kind_of line)
  keeps_of_plan fabric line (Pairs a) is = keeps_plan_line fabric line (kind_of line)
  keeps_of_plan fabric line Numbers is = keeps_plan_line fabric line (kind_of line)

  pub keeps_line : IsFabric t → (line : List ℕ) → Keeps t f (line_says t f n s line)
  keeps_line fabric line =
      cond_both (is_dump f.version) (dump_line t f n s line (kind_of line)) (line_of_plan t f n s s.open_block line) (Keeps t f)
      (λ e. keeps_dump_line line (kind_of line)) (λ e. keeps_of_plan fabric line s.open_block refl)

pub still_orderly : (t : Topology) (f : Form) (n : ℕ) (s now : State) (line : List ℕ) → IsFabric t → IsOrderly t f s → line_says t f n s line ≡ Goes now → IsOrderly t f now
still_orderly t f n s now line fabric h e = subst (Keeps t f) e (keeps_line t f n s h fabric line)

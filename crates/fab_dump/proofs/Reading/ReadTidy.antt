-- A plan that a text spells fits and is tidy.
use Rattle.std.proofs.Common.{◌≡◌, ℕ, ◌+◌, ◌*◌, ◌<◌, ◌≤◌, Bool, true, false, List, [], ◌∷◌, length, drop, replicate, get_or, Some, None, Option, IfSome, Ok, Err, Result, nat_lt, refl, ap, subst, arith, inl, inr}
use Rattle.std.specs.Prelude.{IfOk, ◌==◌, codes}
use Rattle.std.specs.Str.{bytes_eq}
use Rattle.std.specs.Str.Lines.{lines}
use Rattle.std.proofs.lemmas.Bool.{cond_both, eqb-false, cases_lt}
use Rattle.std.proofs.lemmas.List.{get_or-replicate, get_or_past, length-replicate}
use Rattle.fab_text.specs.Fields.{fields, dec_up_to, only_field}
use Rattle.fab_model.specs.Topology.{Topology, lids_of}
use Rattle.fab_model.specs.WellFormed.{IsFabric}
use Rattle.fab_tables.specs.declared.plan.Plan.{Plan}
use Rattle.fab_tables.specs.Entries.{index_of, cell}
use Rattle.fab_tables.specs.LaneTables.{LaneTables, no_lanes, level, number}
use Rattle.fab_tables.specs.Fit.{LanesFit, PlanFits, IsTidy}
use Rattle.fab_tables.proofs.Joined.Ascending.{lids_are}
use Rattle.fab_tables.proofs.Rows.Cells.{no_level as no_level_at}
use Rattle.fab_tables.proofs.Rows.LaneSets.{new_kept}
use Rattle.fab_dump.specs.declared.fault.PlanFault.{PlanFault}
use Rattle.fab_dump.specs.declared.fault.PlanFault.TheVariants as fault
use Rattle.fab_dump.specs.declared.form.Version.{Version}
use Rattle.fab_dump.specs.declared.form.Version.TheVariants.{Dump}
use Rattle.fab_dump.specs.Given.{plan_given}
use Rattle.fab_dump.specs.Lines.{Form, State, Next, is_dump, begins, line_says}
use Rattle.fab_dump.specs.Lines.Next.{Goes, Ends, Fails}
use Rattle.fab_dump.specs.Reading.{at_text_end, after_line, read_lines, nothing_read, plan_mark, version_named, version_read, some_count, count_field, lanes_mark, lane_count, read_body, read_version, dump_form, read_first}
use Rattle.fab_dump.specs.Orderly.{IsOrderly, LanesTell}
use Rattle.fab_dump.specs.Laws.{ReadIsTidy}
use Rattle.fab_dump.proofs.Reading.Orderly.{Keeps, keeps_line}
use Rattle.fab_dump.proofs.Reading.PlansFit.{no_entries_fit}
use Rattle.fab_dump.proofs.Reading.RowFacts.{up_to}

-- the lane count that a plan may have
abbrev pub IsCount : Option ℕ → Type 0
IsCount count = IfSome count (λ n. (0 < n) × (n ≤ 15))

abbrev blank : ℕ
blank = 0

zero_there : (n i : ℕ) → get_or (replicate n blank) i blank ≡ blank
zero_there n i = elim (cases_lt i n) [ inl low ↦ get_or-replicate n i blank blank low | inr past ↦ get_or_past (replicate n blank) i blank (omega (arith, past, length-replicate n blank)) ]

module _ (t : Topology) (n : ℕ) where
  abbrev fresh : LaneTables
  fresh = no_lanes n (length t.switches) (length t.channels) (lids_of t)

  no_level : (s lid : ℕ) → level fresh s lid ≡ None
  no_level s lid = no_level_at n (length t.switches) (length t.channels) (lids_of t) s (index_of lid (lids_of t))

  no_number : (channel lane : ℕ) → number fresh channel lane ≡ 0
  no_number channel lane =
      cond_both (nat_lt lane 15) (get_or (replicate (length t.channels * 15) 0) (cell 15 channel lane) 0) 0 (λ m. m ≡ 0) (λ e. zero_there (length t.channels * 15) (cell 15 channel lane)) (λ e. refl)

  fresh_fits : IsFabric t → (0 < n) × (n ≤ 15) → LanesFit t fresh
  fresh_fits fabric few = record {
    whole = new_kept n (length t.switches) (length t.channels) (lids_of t) few (lids_are t fabric);
    switches = refl;
    channels = refl;
    in_use = refl;
    pairs = λ k d h. absurd (omega arith);
  }

  fresh_tells : LanesTell [] fresh
  fresh_tells = record {
    numbers = λ channel lane low lane_low. ap (λ m. m == 0) (no_number channel lane);
    pairs = λ row. refl;
    pair_count = refl;
  }

-- before the first line
pub begun_orderly : (t : Topology) (version : Version) (count : Option ℕ) → IsFabric t → IsCount count → IsOrderly t (record { version = version; count = count }) nothing_read
begun_orderly t version None fabric few = record {
  plan = record { tables = no_entries_fit t fabric; lanes = tt };
  tidy = tt;
  block = tt;
  opened = tt;
  tables = λ s lid e. refl;
  levels = λ s lid e. refl;
  told = tt;
}
begun_orderly t version (Some n) fabric few = record {
  plan = record { tables = no_entries_fit t fabric; lanes = fresh_fits t n fabric few };
  tidy = λ s lid none. no_level t n s lid;
  block = tt;
  opened = tt;
  tables = λ s lid e. refl;
  levels = λ s lid e. refl;
  told = fresh_tells t n;
}

abbrev FitsIfOk : Topology → Result Plan PlanFault → Type 0
FitsIfOk t r = IfOk r (λ p. PlanFits t p × IsTidy t p)

at_end_fits : (t : Topology) (f : Form) (s : State) → IsOrderly t f s → FitsIfOk t (at_text_end t f s)
at_end_fits t f s h = cond_both (is_dump f.version) (Ok (plan_given t f.count s.given)) (Err fault.NoEnd) (FitsIfOk t) (λ e. (h.plan, h.tidy)) (λ e. tt)

after_fits : (t : Topology) (f : Form) (s : State) (rest : State → Result Plan PlanFault) (next : Next) → IsOrderly t f s → ((now : State) → IsOrderly t f now → FitsIfOk t (rest now)) → Keeps t f next →
    FitsIfOk t (after_line t f s rest next)
after_fits t f s rest (Goes now) h later k = later now k
after_fits t f s rest Ends h later k = (h.plan, h.tidy)
after_fits t f s rest (Fails why) h later k = tt

lines_fit : (t : Topology) (f : Form) → IsFabric t → (ls : List (List ℕ)) (n : ℕ) (s : State) → IsOrderly t f s → FitsIfOk t (read_lines t f n s ls)
lines_fit t f fabric [] n s h = at_end_fits t f s h
lines_fit t f fabric (line ∷ others) n s h =
    after_fits t f s (λ now. read_lines t f (n + 1) now others) (line_says t f n s line) h (λ now k. lines_fit t f fabric others (n + 1) now k) (keeps_line t f n s h fabric line)

-- the lane counts that line 2 can name
positive_count : (o : Option ℕ) → IfSome o (λ n. n ≤ 15) → IfSome (some_count o) IsCount
positive_count None h = tt
positive_count (Some n) h = cond_both (n == 0) None (Some (Some n)) (λ o. IfSome o IsCount) (λ e. tt) (λ e. (omega (arith, eqb-false n 0 e), h))

field_count : (begun : Bool) (o : Option (List ℕ)) → IfSome (count_field begun o) IsCount
field_count true (Some field) =
    cond_both (bytes_eq field (codes "none")) (Some None) (some_count (dec_up_to 15 field)) (λ o. IfSome o IsCount) (λ e. tt) (λ e. positive_count (dec_up_to 15 field) (up_to 15 field))
field_count true None = tt
field_count false (Some field) = tt
field_count false None = tt

pub count_is : (line : List ℕ) → IfSome (lane_count line) IsCount
count_is line = field_count (begins line lanes_mark) (only_field (fields (drop (length lanes_mark) line)))

body_fits : (t : Topology) (version : Version) (others : List (List ℕ)) (count : Option (Option ℕ)) → IsFabric t → IfSome count IsCount → FitsIfOk t (read_body t version others count)
body_fits t version others None fabric h = tt
body_fits t version others (Some count) fabric h = lines_fit t (record { version = version; count = count }) fabric others 3 nothing_read (begun_orderly t version count fabric h)

version_fits : (t : Topology) (others : List (List ℕ)) (version : Option Version) → IsFabric t → FitsIfOk t (read_version t others version)
version_fits t others None fabric = tt
version_fits t [] (Some version) fabric = tt
version_fits t (second ∷ others) (Some version) fabric = body_fits t version others (lane_count second) fabric (count_is second)

first_fits : (t : Topology) (ls : List (List ℕ)) → IsFabric t → FitsIfOk t (read_first t ls)
first_fits t [] fabric = lines_fit t dump_form fabric [] 1 nothing_read (begun_orderly t Dump None fabric tt)
first_fits t (first ∷ others) fabric =
    cond_both (begins first plan_mark) (read_version t others (version_read t (version_named first))) (read_lines t dump_form 1 nothing_read (first ∷ others)) (FitsIfOk t)
    (λ e. version_fits t others (version_read t (version_named first)) fabric) (λ e. lines_fit t dump_form fabric (first ∷ others) 1 nothing_read (begun_orderly t Dump None fabric tt))

pub read_is_tidy : ReadIsTidy
read_is_tidy t text p fabric e = subst (FitsIfOk t) e (first_fits t (lines text) fabric)

-- The text of a tidy plan that fits spells that plan.
use Rattle.std.proofs.Common.{◌≡◌, ℕ, ◌+◌, ◌<◌, ◌≤◌, List, [], ◌∷◌, ◌++◌, length, codes, refl, sym, ◌∙◌, ap, subst, arith, Option, Some, None, IfSome, Ok}
use Rattle.std.specs.Prelude.{All, flat_map, if◌then◌else◌}
use Rattle.std.specs.List.{enumerate_from}
use Rattle.std.proofs.lemmas.List.{append-nil}
use Rattle.std.proofs.lemmas.List.Elements.{All-nil}
use Rattle.fab_model.specs.Topology.{Topology}
use Rattle.fab_model.specs.WellFormed.{IsFabric}
use Rattle.fab_tables.specs.declared.plan.Plan.{Plan}
use Rattle.fab_tables.specs.LaneTables.{LaneTables}
use Rattle.fab_tables.specs.Fit.{LanesFit, PlanFits}
use Rattle.fab_dump.specs.Given.{Given, plan_given}
use Rattle.fab_dump.specs.Given.Given.{Certificate}
use Rattle.fab_dump.specs.Lines.{Form, State}
use Rattle.fab_dump.specs.Reading.{after_line, read_lines, nothing_read, version_named, version_read, read_body, read_version, read_first, dump_form}
use Rattle.fab_dump.specs.Writing.{plan_lines, version_text, lanes_line, table_block, lane_part, lane_lines, levels_block, map_block, number_lines}
use Rattle.fab_dump.specs.Laws.{WrittenIsRead}
use Rattle.fab_dump.proofs.Round.Lines.{lines_back, plan_lines_are, version_written, mark_stands, version_back, written_long, lanes_back}
use Rattle.fab_dump.proofs.Round.LinesPlaces.{IsLong, WaitsForNone}
use Rattle.fab_dump.proofs.Round.LinesLanes.{end_said}
use Rattle.fab_dump.proofs.Round.Said.{all_tables, all_levels, all_maps, all_numbers, lanes_said, lane_part_said, said}
use Rattle.fab_dump.proofs.Round.Plans.{count_of, plan_back}
use Rattle.fab_dump.proofs.Round.Pairs.{of_none}
use Rattle.fab_dump.proofs.Round.Fresh.{Within, further, no_pair, none_counted}
use Rattle.fab_dump.proofs.Round.Leads.{leads_none, Went, went_then}
use Rattle.fab_dump.proofs.Round.Blocks.{tables_spoken, levels_spoken, HasTables, HasLevels, tables_went, levels_went}
use Rattle.fab_dump.proofs.Round.Maps.{maps_spoken, HasMaps, maps_went}
use Rattle.fab_dump.proofs.Round.Numbers.{HasNumbers, numbers_went}

-- the form of a written text
abbrev form_of : Option LaneTables → Form
form_of lanes = record { version = version_written lanes; count = count_of lanes }

-- nothing waits
abbrev Waits : State → Type 0
Waits s = WaitsForNone s.open_block

module _ (t : Topology) (fabric : IsFabric t) where
  module _ (l : LaneTables) (fit : LanesFit t l) where
    abbrev form : Form
    form = form_of (Some l)

    long : IsLong form.version
    long = written_long (Some l)

    levels_begin : (s : State) → HasTables (0 + length t.switches) s → HasLevels (0 + length t.switches) 0 s
    levels_begin s h = record { within = further (tables_spoken (0 + length t.switches)) (levels_spoken (0 + length t.switches) 0) s.given (record { tables = omega arith; levels = omega arith; maps = omega arith; certificates = omega arith; numbers = omega arith }) h.within; waits = h.waits }

    maps_begin : (s : State) → HasLevels (0 + length t.switches) (0 + length t.switches) s → HasMaps l (length t.switches) 0 s
    maps_begin s h = record {
      within = further (levels_spoken (0 + length t.switches) (0 + length t.switches)) (maps_spoken (length t.switches) 0) s.given (record { tables = omega arith; levels = omega arith; maps = omega arith; certificates = omega arith; numbers = omega arith }) h.within;
      waits = h.waits;
      count = none_counted s.given (no_pair (levels_spoken (0 + length t.switches) (0 + length t.switches)) s.given h.within refl) ∙ sym (ap length (of_none l.pairs));
    }

    numbers_begin : (s : State) → HasMaps l (length t.switches) (0 + length t.switches) s → All (Within (maps_spoken (length t.switches) (length t.switches))) s.given
    numbers_begin s h = further (maps_spoken (length t.switches) (0 + length t.switches)) (maps_spoken (length t.switches) (length t.switches)) s.given (record { tables = omega arith; levels = omega arith; maps = omega arith; certificates = omega arith; numbers = omega arith }) h.within

    lanes_went : (s : State) → HasTables (0 + length t.switches) s → Went t form s (lane_lines t l) (lanes_said t l) Waits
    lanes_went s h =
        went_then t form s (flat_map (levels_block t l) (enumerate_from 0 t.switches) ++ flat_map (map_block l) (enumerate_from 0 t.switches)) (codes "Certificate:" ∷ flat_map (number_lines t l) (enumerate_from 0 t.channels))
        (all_levels t l ++ all_maps t l) (Certificate ∷ all_numbers t l) (HasMaps l (length t.switches) (0 + length t.switches)) Waits
        (went_then t form s (flat_map (levels_block t l) (enumerate_from 0 t.switches)) (flat_map (map_block l) (enumerate_from 0 t.switches)) (all_levels t l) (all_maps t l)
        (HasLevels (0 + length t.switches) (0 + length t.switches)) (HasMaps l (length t.switches) (0 + length t.switches))
        (levels_went t form fabric long refl l (0 + length t.switches) s fit (levels_begin s h))
        (λ mid k. maps_went t form fabric long refl l fit refl mid (maps_begin mid k)))
        (λ mid k. at_end (numbers_went t form fabric long refl l (length t.switches) mid fit (numbers_begin mid k) k.waits))
      where
        at_end : {mid : State} → Went t form mid (codes "Certificate:" ∷ flat_map (number_lines t l) (enumerate_from 0 t.channels)) (Certificate ∷ all_numbers t l) (HasNumbers (length t.switches) (0 + length t.channels)) →
            Went t form mid (codes "Certificate:" ∷ flat_map (number_lines t l) (enumerate_from 0 t.channels)) (Certificate ∷ all_numbers t l) Waits
        at_end w = record { now = w.now; leads = w.leads; given = w.given; holds = subst WaitsForNone (sym w.holds.block) tt }

  part_went : (lanes : Option LaneTables) → IfSome lanes (LanesFit t) → (s : State) → HasTables (0 + length t.switches) s → Went t (form_of lanes) s (lane_part t lanes) (lane_part_said t lanes) Waits
  part_went None fit s h = record { now = s; leads = leads_none t (form_of None) s; given = sym (append-nil s.given); holds = h.waits }
  part_went (Some l) fit s h = lanes_went l fit s h

  -- the lines before the last
  all_went : (p : Plan) → PlanFits t p → Went t (form_of p.lanes) nothing_read (flat_map (table_block t p.tables) (enumerate_from 0 t.switches) ++ lane_part t p.lanes) (said t p) Waits
  all_went p fit = went_then t (form_of p.lanes) nothing_read (flat_map (table_block t p.tables) (enumerate_from 0 t.switches)) (lane_part t p.lanes) (all_tables t p.tables) (lane_part_said t p.lanes) (HasTables (0 + length t.switches)) Waits
      (tables_went t (form_of p.lanes) fabric (written_long p.lanes) p.tables nothing_read fit.tables (record { within = All-nil (Within (tables_spoken 0)); waits = tt }))
      (λ mid h. part_went p.lanes fit.lanes mid h)

  -- all lines behind the first two
  body_read : (p : Plan) → PlanFits t p → read_lines t (form_of p.lanes) 3 nothing_read (flat_map (table_block t p.tables) (enumerate_from 0 t.switches) ++ lane_part t p.lanes ++ codes "end plan" ∷ []) ≡ Ok (plan_given t (count_of p.lanes) (said t p))
  body_read p fit =
      let w : Went t (form_of p.lanes) nothing_read (flat_map (table_block t p.tables) (enumerate_from 0 t.switches) ++ lane_part t p.lanes) (said t p) Waits = all_went p fit in
      let n : ℕ = 3 + length (flat_map (table_block t p.tables) (enumerate_from 0 t.switches) ++ lane_part t p.lanes) in
      w.leads 3 (codes "end plan" ∷ [])
      ∙ ap (after_line t (form_of p.lanes) w.now (λ next. read_lines t (form_of p.lanes) (n + 1) next [])) (end_said t (form_of p.lanes) n w.now (written_long p.lanes) w.holds)
      ∙ ap (λ (g : List Given). Ok (plan_given t (count_of p.lanes) g)) w.given

pub few_lanes : (t : Topology) (lanes : Option LaneTables) → IfSome lanes (LanesFit t) → IfSome lanes (λ l. (0 < l.count) × (l.count ≤ 15))
few_lanes t None fit = tt
few_lanes t (Some l) fit = fit.whole.count

pub written_is_read : WrittenIsRead
written_is_read t p fabric fit tidy =
    let first : List ℕ = version_text p.lanes in
    let body : List (List ℕ) = flat_map (table_block t p.tables) (enumerate_from 0 t.switches) ++ lane_part t p.lanes ++ codes "end plan" ∷ [] in
    let others : List (List ℕ) = lanes_line p.lanes ∷ body in
    ap (read_first t) (lines_back (plan_lines t p) (plan_lines_are t p fabric fit))
    ∙ ap (λ b. if b then read_version t others (version_read t (version_named first)) else read_lines t dump_form 1 nothing_read (first ∷ others)) (mark_stands p.lanes)
    ∙ ap (read_version t others) (version_back t p.lanes)
    ∙ ap (read_body t (version_written p.lanes) body) (lanes_back p.lanes (few_lanes t p.lanes fit.lanes))
    ∙ body_read t fabric p fit
    ∙ ap (λ (q : Plan). Ok q) (plan_back t p fit tidy)

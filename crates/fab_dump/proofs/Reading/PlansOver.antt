-- What is said leaves the switches, LIDs and channels that a plan is over.
use Rattle.std.proofs.Common.{◌≡◌, ℕ, ◌+◌, List, [], ◌∷◌, ◌++◌, length, Some, None, Option, sym, ◌∙◌, ap, subst, IfSome}
use Rattle.std.specs.Prelude.{option_map}
use Rattle.fab_model.specs.Topology.{Topology, lids_of}
use Rattle.fab_tables.specs.Entries.{index_of}
use Rattle.fab_tables.specs.LaneTables.{LaneTables, with_level_in_column, with_lane}
use Rattle.fab_tables.specs.declared.plan.Plan.{Plan}
use Rattle.fab_dump.specs.Given.{Given, plan_with, plan_given, lanes_with, tables_with, with_lanes}
use Rattle.fab_dump.specs.Given.Given.{TableBlock, Port, LevelBlock, Level, MapBlock, Map, PairMap, Certificate, Number}
use Rattle.fab_dump.specs.Standing.{LanesAreOver, PlanIsOver}
use Rattle.fab_dump.proofs.Reading.Marks.{entries_keep, plan_given-push}

level_over : (t : Topology) (l : LaneTables) (s : ℕ) (new : Option ℕ) (place : Option ℕ) → LanesAreOver t l → LanesAreOver t (with_level_in_column l s new place)
level_over t l s new None h = h
level_over t l s new (Some i) h = record { switches = h.switches; channels = h.channels; in_use = h.in_use }

lanes_over : (t : Topology) (l : LaneTables) (s of_level : ℕ) (lanes : List ℕ) → LanesAreOver t l → LanesAreOver t (with_lanes l s of_level lanes)
lanes_over t l s of_level [] h = h
lanes_over t l s of_level (lane ∷ lanes) h = lanes_over t (with_lane l s of_level lane) s (of_level + 1) lanes (record { switches = h.switches; channels = h.channels; in_use = h.in_use })

said_over : (t : Topology) (l : LaneTables) (new : Given) → LanesAreOver t l → LanesAreOver t (lanes_with l new)
said_over t l (TableBlock s) h = h
said_over t l (Port s lid port) h = h
said_over t l (LevelBlock s) h = h
said_over t l (Level s lid level) h = level_over t l s level (index_of lid l.in_use) h
said_over t l (MapBlock s) h = h
said_over t l (Map s lanes) h = lanes_over t l s 0 lanes h
said_over t l (PairMap row) h = record { switches = h.switches; channels = h.channels; in_use = h.in_use }
said_over t l Certificate h = h
said_over t l (Number channel lane number) h = record { switches = h.switches; channels = h.channels; in_use = h.in_use }

some_over : (t : Topology) (o : Option LaneTables) (new : Given) → IfSome o (LanesAreOver t) → IfSome (option_map (λ l. lanes_with l new) o) (LanesAreOver t)
some_over t None new h = tt
some_over t (Some l) new h = said_over t l new h

tables_over : (t : Topology) (p : Plan) (new : Given) → PlanIsOver t p → ((tables_with p.tables new).switches ≡ length t.switches) × ((tables_with p.tables new).in_use ≡ lids_of t)
tables_over t p (TableBlock s) h = (h.switches, h.in_use)
tables_over t p (Port s lid port) h = ((entries_keep p.tables s lid port).0 ∙ h.switches, (entries_keep p.tables s lid port).1 ∙ h.in_use)
tables_over t p (LevelBlock s) h = (h.switches, h.in_use)
tables_over t p (Level s lid level) h = (h.switches, h.in_use)
tables_over t p (MapBlock s) h = (h.switches, h.in_use)
tables_over t p (Map s lanes) h = (h.switches, h.in_use)
tables_over t p (PairMap row) h = (h.switches, h.in_use)
tables_over t p Certificate h = (h.switches, h.in_use)
tables_over t p (Number channel lane number) h = (h.switches, h.in_use)

pub plan_over : (t : Topology) (p q : Plan) (new : Given) → q ≡ plan_with p new → PlanIsOver t p → PlanIsOver t q
plan_over t p q new is h = subst (λ (x : Plan). PlanIsOver t x) (sym is)
    (record { switches = (tables_over t p new h).0; in_use = (tables_over t p new h).1; lanes = some_over t p.lanes new h.lanes })

pub plan_said : (t : Topology) (count : Option ℕ) (given : List Given) (p q : Plan) (new : Given) → p ≡ plan_given t count given → q ≡ plan_with p new → q ≡ plan_given t count (given ++ new ∷ [])
plan_said t count given p q new e is = is ∙ ap (λ (x : Plan). plan_with x new) e ∙ sym (plan_given-push t count given new)

-- All that the text of a tidy plan says makes that plan again.
use Rattle.std.proofs.Common.{◌≡◌, ℕ, List, [], ◌++◌, length, refl, ◌∙◌, ap, arith, Option, Some, None, IfSome}
use Rattle.std.specs.Prelude.{flat_map, fold, option_map, IsFalse}
use Rattle.std.proofs.lemmas.List.{append-nil}
use Rattle.fab_model.specs.Topology.{Topology, lids_of, is_source}
use Rattle.fab_tables.specs.declared.plan.Plan.{Plan}
use Rattle.fab_tables.specs.Entries.{Entries, no_entries}
use Rattle.fab_tables.specs.LaneTables.{LaneTables, level, no_lanes}
use Rattle.fab_tables.specs.Fit.{EntriesFit, LanesFit, PlanFits, IsTidy}
use Rattle.fab_dump.specs.Given.{Given, plan_given, lanes_with, tables_with}
use Rattle.fab_dump.proofs.Round.Said.{all_tables, lanes_said, said}
use Rattle.fab_dump.proofs.Round.Folds.{port_write, level_write, map_write, pair_of, number_write, plan_fold_none, plan_fold_some}
use Rattle.fab_dump.proofs.Round.Stages.{only_tables, only_levels, only_maps, only_numbers}
use Rattle.fab_dump.proofs.Round.Tables.{port_passes, entries_back}
use Rattle.fab_dump.proofs.Round.Lanes.{level_passes, map_passes, pair_passes, number_passes, lanes_back}

-- the lane count of a plan
abbrev pub count_of : Option LaneTables → Option ℕ
count_of lanes = option_map (λ (l : LaneTables). l.count) lanes

abbrev made : Entries → Option LaneTables → Plan
made x y = record { tables = x; lanes = y }

abbrev whole : Topology → Entries → LaneTables → List Given
whole t e l = all_tables t e ++ lanes_said t l

back : (t : Topology) (e : Entries) (o : Option LaneTables) → EntriesFit t e → IfSome o (LanesFit t) → IfSome o (λ l. (s lid : ℕ) → IsFalse (is_source t s) → level l s lid ≡ None) →
    plan_given t (count_of o) (said t (record { tables = e; lanes = o })) ≡ record { tables = e; lanes = o }
back t e None fit lanes tidy =
    plan_fold_none (no_entries (length t.switches) (lids_of t)) (all_tables t e ++ [])
    ∙ ap (λ (x : Entries). made x None) (entries_back t e fit (all_tables t e ++ []) (ap (λ given. flat_map (port_write (length t.switches) (lids_of t)) given) (append-nil (all_tables t e))))
back t e (Some l) fit lanes tidy =
    plan_fold_some (no_entries (length t.switches) (lids_of t)) (no_lanes l.count (length t.switches) (length t.channels) (lids_of t)) (whole t e l)
    ∙ ap (λ (x : Entries). made x (Some (fold lanes_with (no_lanes l.count (length t.switches) (length t.channels) (lids_of t)) (whole t e l)))) tables
    ∙ ap (λ (x : LaneTables). made e (Some x)) all_lanes
  where
    tables : fold tables_with (no_entries (length t.switches) (lids_of t)) (whole t e l) ≡ e
    tables = entries_back t e fit (whole t e l)
        (only_tables (port_write (length t.switches) (lids_of t)) t e l refl (port_passes (length t.switches) (lids_of t) 1 (λ x. omega (arith, x))) (port_passes (length t.switches) (lids_of t) 2 (λ x. omega (arith, x))) (port_passes (length t.switches) (lids_of t) 3 (λ x. omega (arith, x))))

    all_lanes : fold lanes_with (no_lanes l.count (length t.switches) (length t.channels) (lids_of t)) (whole t e l) ≡ l
    all_lanes = lanes_back t l lanes tidy (whole t e l)
        (only_levels (level_write (length t.switches) (lids_of t)) t e l refl (level_passes (length t.switches) (lids_of t) 0 (λ x. omega (arith, x))) (level_passes (length t.switches) (lids_of t) 2 (λ x. omega (arith, x))) (level_passes (length t.switches) (lids_of t) 3 (λ x. omega (arith, x))))
        (only_maps map_write t e l refl (map_passes 0 (λ x. omega (arith, x))) (map_passes 1 (λ x. omega (arith, x))) (map_passes 3 (λ x. omega (arith, x))))
        (only_maps pair_of t e l refl (pair_passes 0 (λ x. omega (arith, x))) (pair_passes 1 (λ x. omega (arith, x))) (pair_passes 3 (λ x. omega (arith, x))))
        (only_numbers number_write t e l refl (number_passes 0 (λ x. omega (arith, x))) (number_passes 1 (λ x. omega (arith, x))) (number_passes 2 (λ x. omega (arith, x))))

pub plan_back : (t : Topology) (p : Plan) → PlanFits t p → IsTidy t p → plan_given t (count_of p.lanes) (said t p) ≡ p
plan_back t p fit tidy = back t p.tables p.lanes fit.tables fit.lanes tidy

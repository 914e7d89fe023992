-- The text of a plan that fits is within what a plan's file may hold.
use Rattle.std.proofs.Common.{ℕ, ◌<◌, ◌≤◌, List, [], ◌∷◌, ◌++◌, length, codes, None, Some, Option, IfSome, ap, arith}
use Rattle.std.specs.Prelude.{All, flat_map, ◌==◌}
use Rattle.std.specs.List.{enumerate_from}
use Rattle.std.proofs.lemmas.Bool.{cond_both}
use Rattle.fab_model.specs.Topology.{Topology}
use Rattle.fab_model.specs.WellFormed.{IsFabric}
use Rattle.fab_tables.specs.declared.plan.Plan.{Plan}
use Rattle.fab_tables.specs.Entries.{Entries}
use Rattle.fab_tables.specs.LaneTables.{LaneTables}
use Rattle.fab_tables.specs.Fit.{LanesFit, PlanFits}
use Rattle.fab_dump.specs.Writing.{plan_lines, version_text, version_of, lanes_line, table_block, levels_block, map_block, number_lines, lane_lines, lane_part}
use Rattle.fab_dump.specs.Laws.{WrittenIsShort}
use Rattle.fab_dump.proofs.Round.Lines.{number_fits}
use Rattle.fab_dump.proofs.Round.Pairs.{of_fabric}
use Rattle.fab_dump.proofs.Round.Texts.{few_lanes}
use Rattle.fab_dump.proofs.Writing.Rows.{few_lids}
use Rattle.fab_dump.proofs.Writing.LineLengths.{size, size_none, size_cons, size_one, size_append, lid_length}
use Rattle.fab_dump.proofs.Writing.BlockLengths.{HasShortHead, HasAllLevels, size_numbered, table_size, levels_size, maps_size, numbers_size}

-- ---- the first two lines

version_is_low : (lanes : Option LaneTables) → version_of lanes ≤ 3
version_is_low None = omega arith
version_is_low (Some l) = cond_both (length l.pairs == 0) 2 3 (λ n. n ≤ 3) (λ e. omega arith) (λ e. omega arith)

version_length : (lanes : Option LaneTables) → length (version_text lanes) ≤ 19
unfolding version_text
version_length lanes = omega (arith, lid_length (version_of lanes) (omega (arith, version_is_low lanes)))

lanes_line_length : (lanes : Option LaneTables) → IfSome lanes (λ l. (0 < l.count) × (l.count ≤ 15)) → length (lanes_line lanes) ≤ 11
unfolding lanes_line
lanes_line_length None few = omega arith
lanes_line_length (Some l) few = omega (arith, lid_length l.count (omega (arith, few.1)))

-- ---- the parts

module _ (t : Topology) (fabric : IsFabric t) where
  short_heads : All HasShortHead t.switches
  short_heads = λ k d h. (omega (arith, (fabric.rows.switch_lids k d h).1), (fabric.types.switch_descriptions k d h).within)

  tables_short : (e : Entries) → size (flat_map (table_block t e) (enumerate_from 0 t.switches)) ≤ 138176512
  tables_short e = omega (arith, fabric.rows.switch_count, size_numbered (table_block t e) HasShortHead 67469 (λ s row short. table_size t (few_lids t fabric) e s row short) 0 t.switches short_heads)

  levels_short : (l : LaneTables) → size (flat_map (levels_block t l) (enumerate_from 0 t.switches)) ≤ 104419328
  levels_short l = omega (arith, fabric.rows.switch_count, size_numbered (levels_block t l) (λ row. Unit {0}) 50986 (λ s row any. levels_size t (few_lids t fabric) l s row) 0 t.switches (λ k d h. tt))

  maps_short : (l : LaneTables) → LanesFit t l → size (flat_map (map_block l) (enumerate_from 0 t.switches)) ≤ 4057088
  maps_short l fit =
      let all : All HasAllLevels l.pairs = λ k d h. (fit.whole.pairs k d h).levels in
      omega (arith, fabric.rows.switch_count, maps_size l all 0 t.switches, ap length (of_fabric t.switches l.switches l.pairs fit.switches fit.whole.in_order fit.whole.pairs), fit.whole.few_pairs)

  numbers_short : (l : LaneTables) → LanesFit t l → size (flat_map (number_lines t l) (enumerate_from 0 t.channels)) ≤ 288706560
  numbers_short l fit =
      omega (arith, fabric.rows.channel_count, size_numbered (number_lines t l) (λ row. Unit {0}) 555 (λ c row any. numbers_size t l (number_fits t fabric l fit.whole.low_numbers) c row) 0 t.channels (λ k d h. tt))

  lanes_short : (l : LaneTables) → LanesFit t l → size (lane_lines t l) ≤ 397182989
  lanes_short l fit =
      let levels : List (List ℕ) = flat_map (levels_block t l) (enumerate_from 0 t.switches) in
      let maps : List (List ℕ) = flat_map (map_block l) (enumerate_from 0 t.switches) in
      let numbers : List (List ℕ) = flat_map (number_lines t l) (enumerate_from 0 t.channels) in
      omega (arith, size_append (levels ++ maps) (codes "Certificate:" ∷ numbers), size_append levels maps, size_cons (codes "Certificate:") numbers, levels_short l, maps_short l fit, numbers_short l fit)

  part_short : (lanes : Option LaneTables) → IfSome lanes (LanesFit t) → size (lane_part t lanes) ≤ 397182989
  part_short None fit = omega (arith, size_none)
  part_short (Some l) fit = lanes_short l fit

lines_short : (t : Topology) (p : Plan) → IsFabric t → PlanFits t p → size (plan_lines t p) ≤ 536870912
lines_short t p fabric fit =
    let tables : List (List ℕ) = flat_map (table_block t p.tables) (enumerate_from 0 t.switches) in
    let body : List (List ℕ) = tables ++ lane_part t p.lanes ++ codes "end plan" ∷ [] in
    omega (
      arith,
      size_cons (version_text p.lanes) (lanes_line p.lanes ∷ body),
      size_cons (lanes_line p.lanes) body,
      size_append (tables ++ lane_part t p.lanes) (codes "end plan" ∷ []),
      size_append tables (lane_part t p.lanes),
      size_one (codes "end plan"),
      version_length p.lanes,
      lanes_line_length p.lanes (few_lanes t p.lanes fit.lanes),
      tables_short t fabric p.tables,
      part_short t fabric p.lanes fit.lanes,
    )

pub written_is_short : WrittenIsShort
unfolding size
written_is_short t p fabric fit = lines_short t p fabric fit

-- The lines by which levels have their lanes.
use Rattle.std.proofs.Common.{◌≡◌, ℕ, ◌<◌, Bool, true, false, List, ◌++◌, All, get_or, length, inl, inr, subst, refl, sym, ◌∙◌, ap, arith}
use Rattle.std.specs.Prelude.{flat_map, if◌then◌else◌}
use Rattle.std.proofs.lemmas.List.Elements.{All-map}
use Rattle.std.proofs.lemmas.List.{get_or_past}
use Rattle.std.proofs.lemmas.Bool.{cases_lt}
use Rattle.fab_model.specs.Topology.{Topology}
use Rattle.fab_tables.specs.Entries.{Entries, cell}
use Rattle.fab_tables.specs.LaneTables.{LaneTables, AreLaneTables, lane}
use Rattle.fab_dump.specs.Writing.{lines_text}
use Rattle.fab_dump.proofs.Writing.Rows.{lines_added}
use Rattle.fab_export.specs.ConfigText.{kind_lines, kinds_of_ports, quality_lines}
use Rattle.fab_export.specs.LevelsInUse.{all_levels, is_in_use, written_lane, written_map, written_count}

lane_low : (l : LaneTables) (v : ℕ) → AreLaneTables l → lane l 0 v < 16
lane_low l v are = low (cell 16 0 v)
  where
    low : (k : ℕ) → get_or l.general k 15 < 16
    low k = elim (cases_lt k (length l.general)) [
      | inl within ↦ are.lanes k 15 within
      | inr past ↦ subst (λ n. n < 16) (sym (get_or_past l.general k 15 past)) (omega arith)
    ]

pub written_low : (t : Topology) (e : Entries) (l : LaneTables) → AreLaneTables l → All (λ n. n < 16) (written_map t e l)
unfolding written_map
written_low t e l are = All-map (λ n. n < 16) (written_lane t e l) all_levels (λ k d within. either (get_or all_levels k d))
  where
    by : (b : Bool) (v : ℕ) → (if b then lane l 0 v else 15) < 16
    by true v = lane_low l v are
    by false v = omega arith

    either : (v : ℕ) → written_lane t e l v < 16
    either v = by (is_in_use t e l v) v

pub lane_lines_pushed : (t : Topology) (e : Entries) (l : LaneTables) (count : ℕ) (lanes : List ℕ) (before quality now : List ℕ) → count ≡ written_count t e l → lanes ≡ written_map t e l →
    quality ≡ before ++ lines_text quality_lines → now ≡ quality ++ lines_text (flat_map (kind_lines count lanes) kinds_of_ports) →
    now ≡ before ++ lines_text (quality_lines ++ flat_map (kind_lines (written_count t e l) (written_map t e l)) kinds_of_ports)
lane_lines_pushed t e l count lanes before quality now counted are first second =
    lines_added quality_lines (flat_map (kind_lines (written_count t e l) (written_map t e l)) kinds_of_ports) (quality_lines ++ flat_map (kind_lines (written_count t e l) (written_map t e l)) kinds_of_ports) before quality now first
    (second ∙ ap (λ n. quality ++ lines_text (flat_map (kind_lines n lanes) kinds_of_ports)) counted ∙ ap (λ ls. quality ++ lines_text (flat_map (kind_lines (written_count t e l) ls) kinds_of_ports)) are) refl

-- Levels and lanes are below 16.
use Rattle.std.proofs.Common.{◌≡◌, ◌<◌, ℕ, List, Option, Some, None, length, get_or, subst, sym, inl, inr, arith}
use Rattle.std.specs.Prelude.{All, IfSome, nat_lt}
use Rattle.std.specs.List.{range_with_len}
use Rattle.std.proofs.lemmas.Bool.{cases_lt, cond_both}
use Rattle.std.proofs.lemmas.List.{get_or_past}
use Rattle.std.proofs.lemmas.List.FromFn.{length-map-range_with_len}
use Rattle.std.proofs.lemmas.List.Elements.{All-get_or, All-map}
use Rattle.fab_tables.specs.Entries.{index_of, cell}
use Rattle.fab_tables.specs.LaneTables.{LaneTables, AreLaneTables, lane, level, level_in_column}
use Rattle.fab_dump.specs.Writing.{general_map}

-- of each level there is a lane
pub general_long : (l : LaneTables) (s : ℕ) → length (general_map l s) ≡ 16
unfolding general_map
general_long l s = length-map-range_with_len (λ of_level. lane l s of_level) 0 16

lane_below : (l : LaneTables) (s of_level : ℕ) → AreLaneTables l → lane l s of_level < 16
lane_below l s of_level are = elim (cases_lt (cell 16 s of_level) (length l.general)) [
  | inl h ↦ All-get_or (λ (lane : ℕ). lane < 16) l.general (cell 16 s of_level) 15 h are.lanes
  | inr h ↦ omega (arith, get_or_past l.general (cell 16 s of_level) 15 h)
]

pub general_lanes : (l : LaneTables) (s : ℕ) (lanes : List ℕ) → AreLaneTables l → lanes ≡ general_map l s → All (λ (lane : ℕ). lane < 16) lanes
unfolding general_map
general_lanes l s lanes are e =
    subst (λ (lanes : List ℕ). All (λ (lane : ℕ). lane < 16) lanes) (sym e) (All-map (λ (lane : ℕ). lane < 16) (λ (of_level : ℕ). lane l s of_level) (range_with_len 0 16) (λ k d h. lane_below l s (get_or (range_with_len 0 16) k d) are))

pub in_column : (l : LaneTables) (s : ℕ) (place : Option ℕ) → AreLaneTables l → IfSome (level_in_column l s place) (λ n. n < 16)
in_column l s None are = tt
in_column l s (Some i) are = cond_both (nat_lt s l.switches) (get_or l.levels (cell l.switches i s) None) None (λ (level : Option ℕ). IfSome level (λ n. n < 16))
    (λ b. elim (cases_lt (cell l.switches i s) (length l.levels)) [
      | inl h ↦ All-get_or (λ (level : Option ℕ). IfSome level (λ n. n < 16)) l.levels (cell l.switches i s) None h are.low_levels
      | inr h ↦ subst (λ (level : Option ℕ). IfSome level (λ n. n < 16)) (sym (get_or_past l.levels (cell l.switches i s) None h)) tt
    ])
    (λ b. tt)

pub level_below : (l : LaneTables) (s lid n : ℕ) → AreLaneTables l → Some n ≡ level l s lid → n < 16
level_below l s lid n are e = subst (λ (level : Option ℕ). IfSome level (λ n. n < 16)) (sym e) (in_column l s (index_of lid l.in_use) are)

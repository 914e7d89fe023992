-- What new lanes and the sets of lanes keep.
use Rattle.std.proofs.Common.{◌≡◌, ℕ, ◌*◌, ◌<◌, ◌≤◌, List, [], length, map, set, replicate, Option, Some, None, ◌∙◌, ap, arith, length-set}
use Rattle.std.specs.Prelude.{All, IfSome}
use Rattle.std.specs.List.Sorted.{IsStrictlyIncreasing}
use Rattle.std.proofs.lemmas.List.{length-replicate}
use Rattle.std.proofs.lemmas.List.Elements.{All-set, All-replicate, All-nil}
use Rattle.fab_tables.specs.declared.lanes.PairRow.{PairRow}
use Rattle.fab_tables.specs.Columns.{AreLids}
use Rattle.fab_tables.specs.Entries.{index_of, cell}
use Rattle.fab_tables.specs.LaneTables.{LaneTables, AreLaneTables, no_lanes, with_level, with_level_in_column, pair_key, IsPairRow}
use Rattle.fab_tables.specs.LevelBytes.{level_of_byte}
use Rattle.fab_tables.proofs.Rows.LevelBytes.{no_levels}

pub made : (count s s' ch ch' : ℕ) (lids lids' levels general numbers : List ℕ) (pairs : List PairRow) → s ≡ s' → ch ≡ ch' → lids ≡ lids' →
    levels ≡ replicate (length lids' * s') 255 → general ≡ replicate (s' * 16) 15 → pairs ≡ [] → numbers ≡ replicate (ch' * 15) 0 →
    record { count = count; switches = s; channels = ch; in_use = lids; levels = map level_of_byte levels; general = general; pairs = pairs; numbers = numbers } ≡ no_lanes count s' ch' lids'
made count s s' ch ch' lids lids' levels general numbers pairs a b c d e f g =
    let none : map level_of_byte levels ≡ replicate (length lids' * s') None = ap (λ xs. map level_of_byte xs) d ∙ no_levels (length lids' * s') in
    cc

pub new_kept : (count s ch : ℕ) (lids : List ℕ) → (0 < count) × (count ≤ 15) → AreLids lids → AreLaneTables (no_lanes count s ch lids)
new_kept count s ch lids few are =
    record {
      count = few;
      ascending = are.ascending;
      all_levels = length-replicate (length lids * s) None;
      low_levels = All-replicate (λ (level : Option ℕ). IfSome level (λ n. n < 16)) (length lids * s) None tt;
      all_general = length-replicate (s * 16) 15;
      lanes = All-replicate (λ lane. lane < 16) (s * 16) 15 (omega arith);
      in_order = λ k h. absurd (omega arith);
      few_pairs = omega arith;
      pairs = All-nil _;
      all_numbers = length-replicate (ch * 15) 0;
      low_numbers = All-replicate (λ n. n < 4294967296) (ch * 15) 0 (omega arith);
    }

module _ (l : LaneTables) (are : AreLaneTables l) where
  pub level_set_kept : (i : ℕ) (new : Option ℕ) → IfSome new (λ n. n < 16) → AreLaneTables (record l { levels = set l.levels i new })
  level_set_kept i new low =
      record {
        count = are.count;
        ascending = are.ascending;
        all_levels = length-set l.levels i new ∙ are.all_levels;
        low_levels = All-set (λ (level : Option ℕ). IfSome level (λ n. n < 16)) l.levels i new low are.low_levels;
        all_general = are.all_general;
        lanes = are.lanes;
        in_order = are.in_order;
        few_pairs = are.few_pairs;
        pairs = are.pairs;
        all_numbers = are.all_numbers;
        low_numbers = are.low_numbers;
      }

  pub pairs_kept : (rows : List PairRow) → IsStrictlyIncreasing (map pair_key rows) → length rows ≤ 65536 →
      All (IsPairRow l.switches) rows → AreLaneTables (record l { pairs = rows })
  pairs_kept rows up few each =
      record {
        count = are.count;
        ascending = are.ascending;
        all_levels = are.all_levels;
        low_levels = are.low_levels;
        all_general = are.all_general;
        lanes = are.lanes;
        in_order = up;
        few_pairs = few;
        pairs = each;
        all_numbers = are.all_numbers;
        low_numbers = are.low_numbers;
      }

pub level_set : (l : LaneTables) (s lid place i : ℕ) (new : Option ℕ) → Some place ≡ index_of lid l.in_use → i ≡ cell l.switches place s → record l { levels = set l.levels i new } ≡ with_level l s lid new
level_set l s lid place i new there at =
    ap (λ k. record l { levels = set l.levels k new }) at ∙ ap (λ o. with_level_in_column l s new o) there

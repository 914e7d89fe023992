use Rattle.std.proofs.Common.{◌≡◌, true, false, rules, tests, arith}
use Rattle.std.specs.Prelude.{nat_lt}
use Rattle.std.specs.List.Sorted.{IsPartitionPoint}
use Rattle.std.proofs.lemmas.Bool.{ltb-true, ltb-false}
use Rattle.std.proofs.lemmas.List.Sorted.{IsPartitionPoint-from_clause, IsPartitionedBy-ltb}
use Rattle.fab_tables.specs.declared.lanes.PairRow.{PairRow}
use Rattle.fab_tables.specs.LaneTables.{pair_key}
use Rattle.fab_tables.proofs.Rows.PairRows.{keys_not_fall}
use Rattle.fab_tables.proofs.pairs.place_in.Goals as goal

pub returns : goal.returns
returns c =
    let rows = c.args.rows.now.items in
    let part : IsPartitionPoint (λ (row : PairRow). nat_lt (pair_key row) c.args.key ≡ true) (λ row. nat_lt (pair_key row) c.args.key ≡ false) rows c.partition_point.result
    = IsPartitionPoint-from_clause (λ row. nat_lt (pair_key row) c.args.key) rows c.partition_point.result c.partition_point.ensures.partitioned
    (IsPartitionedBy-ltb pair_key rows c.args.key (keys_not_fall pair_key rows c.requires)) (λ a r q k. search (rules, tests)) in
    record {
      within = omega (arith, c.partition_point.ensures.bound, c.args.rows.now.ok);
      below = λ k d a b. ltb-true _ _ (part.0 k d a b);
      above = λ k d a b. ltb-false _ _ (part.1 k d a b);
    }

use Rattle.std.proofs.Common.{ltb, rules}
use Rattle.std.proofs.lemmas.List.Sorted.{IsPartitionPoint-from_clause, IsPartitionedBy-ltb}
use Rattle.fab_model.specs.declared.rows.ChannelRow.{ChannelRow}
use Rattle.fab_model.proofs.Tables.{channels_do_not_fall, count_by_partition}
use Rattle.fab_model.proofs.indexes.leaving_below.Goals as goal

pub returns-clause-count : goal.returns-clause-count
returns-clause-count c =
    let rows = c.args.rows.now in
    let below = λ (row : ChannelRow). ltb row.tail.0 c.args.switch in
    let parts = IsPartitionPoint-from_clause below rows c.partition_point.result c.partition_point.ensures.partitioned
    (IsPartitionedBy-ltb (λ (row : ChannelRow). row.tail.0) rows c.args.switch (channels_do_not_fall rows c.requires)) (λ a r f h. search rules) in
    count_by_partition below rows c.partition_point.result c.partition_point.ensures.bound parts.0 parts.1

use Rattle.std.proofs.Common.{◌≡◌, length, arith}
use Rattle.std.proofs.lemmas.List.{length-map}
use Rattle.fab_mcast.specs.GroupList.{Group}
use Rattle.fab_mcast.specs.GroupTrees.{entries_at}
use Rattle.fab_mcast.proofs.TablesOfGroups.{members_by, count_same, entry_count}
use Rattle.fab_tests.proofs.mcast.entries_of.Goals as goal

pub ports-requires-clause-index : goal.ports-requires-clause-index
ports-requires-clause-index g c =
    let same : length c.in_ok-tables.tables ≡ length (members_by c.args.groups.now) = count_same c.args.fabric.now (members_by c.args.groups.now) c.in_ok-tables.tables c.in_ok-tables.ensures.planted in
    let count : length (members_by c.args.groups.now) ≡ length c.args.groups.now = length-map c.args.groups.now (λ (g : Group). g.members) in
    omega (arith, same, count, c.count.ensures.count)

pub ports-requires-clause-switch : goal.ports-requires-clause-switch
ports-requires-clause-switch g c =
    let same : length c.in_ok-tables.tables ≡ length (members_by c.args.groups.now) = count_same c.args.fabric.now (members_by c.args.groups.now) c.in_ok-tables.tables c.in_ok-tables.ensures.planted in
    let count : length (members_by c.args.groups.now) ≡ length c.args.groups.now = length-map c.args.groups.now (λ (g : Group). g.members) in
    let entries : length (entries_at c.in_ok-tables.tables 0) ≡ length c.args.fabric.now.switches =
    entry_count c.in_ok-tables.tables 0 (length c.args.fabric.now.switches) c.in_ok-tables.ensures.each_switch (omega (arith, same, count, c.count.ensures.count)) in
    omega (arith, entries, c.loop-s-test.true, c.switches-s-end.ensures.count)

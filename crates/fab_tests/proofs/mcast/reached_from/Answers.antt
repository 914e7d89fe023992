use Rattle.std.proofs.Common.{◌≡◌, ◌<◌, ℕ, List, length, map, get_or, Contains, sym, subst, arith}
use Rattle.std.proofs.lemmas.List.{length-map, get_or-map}
use Rattle.fab_model.specs.declared.rows.TerminalId.{TerminalId}
use Rattle.fab_mcast.specs.GroupList.{Group}
use Rattle.fab_mcast.specs.GroupTrees.{members_at}
use Rattle.fab_mcast.proofs.TablesOfGroups.{members_by, planted_by_own, known_there, known_by, count_same, listed_members}
use Rattle.fab_tests.proofs.mcast.reached_from.Goals as goal

pub spread-requires-clause-planted : goal.spread-requires-clause-planted
spread-requires-clause-planted g c = planted_by_own c.args.fabric.now (members_by c.args.groups.now) c.in_ok-tables.tables c.in_ok-tables.ensures.planted

pub spread-requires-clause-known : goal.spread-requires-clause-known
spread-requires-clause-known g c = known_there c.args.fabric.now (members_by c.args.groups.now) c.in_ok-tables.tables c.in_ok-tables.ensures.planted (known_by (length c.args.fabric.now.terminals) c.args.groups.now c.requires.known)

pub spread-requires-clause-index : goal.spread-requires-clause-index
spread-requires-clause-index g c =
    let same : length c.in_ok-tables.tables ≡ length (members_by c.args.groups.now) = count_same c.args.fabric.now (members_by c.args.groups.now) c.in_ok-tables.tables c.in_ok-tables.ensures.planted in
    let count : length (members_by c.args.groups.now) ≡ length c.args.groups.now = length-map c.args.groups.now (λ (g : Group). g.members) in
    omega (arith, same, count, c.count.ensures.count)

pub spread-requires-clause-member : goal.spread-requires-clause-member
spread-requires-clause-member g c =
    let rows : List TerminalId = c.members-members.result.now in
    let none : TerminalId = record { 0 = 0 } in
    let members : List ℕ = map (λ (id : TerminalId). id.0) rows in
    let there : members_at c.in_ok-tables.tables 0 ≡ members = listed_members c.args.fabric.now c.args.groups.now c.in_ok-tables.tables 0 members c.in_ok-tables.ensures.planted c.members-members.ensures in
    let low : c.args.place < length rows = omega arith in
    subst (λ (ms : List ℕ). Contains ms (get_or rows c.args.place none).0) (sym there)
    (c.args.place, omega (arith, low, length-map rows (λ (id : TerminalId). id.0)), get_or-map (λ (id : TerminalId). id.0) rows c.args.place none _ low)

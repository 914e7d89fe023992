use Rattle.std.proofs.Common.{◌≡◌, suc, ◌<◌, ◌∙◌, length, sym, ap, subst, Some, true}
use Rattle.std.specs.Prelude.{slice_set}
use Rattle.fab_tables.specs.Entries.{cell}
use Rattle.fab_tables.specs.HopsAhead.{HopsAhead}
use Rattle.fab_tables.specs.Dependencies.{node_of}
use Rattle.fab_certify.specs.Collected.{AddsHop}
use Rattle.fab_certify.proofs.Collected.CollectingHops.{IsCollecting, start_hops, begins, start_low, channel_low, mark_low, level_few, small_node, node_below, next_hop, hop_marked, known_routes, known_behind, known_from_routes, known_grows, has_routes, are_behind}
use Rattle.fab_certify.proofs.collecting.collect_hops.Goals as goal

pub hops-hop-items-requires-clause-switch : goal.hops-hop-items-requires-clause-switch
hops-hop-items-requires-clause-switch c = start_low c.args.fabric.now c.args.tables.now c.args.lanes.now c.args.lid c.args.start c.args.level c.requires.starts c.requires.sound

pub hops-hop-items-requires-clause-level : goal.hops-hop-items-requires-clause-level
hops-hop-items-requires-clause-level c = level_few c.args.fabric.now c.args.tables.now c.args.lanes.now c.args.lid c.args.start c.args.level c.requires.starts c.requires.sound

pub loop-hop-init : goal.loop-hop-init
loop-hop-init c =
    let ahead = c.into_iter-hop-iterator.result in
    let hops : ahead.hops ≡ start_hops c.args.fabric.now c.args.tables.now c.args.lanes.now c.args.lid c.args.start c.args.level = ap (λ (a : HopsAhead). a.hops) c.into_iter-hop-iterator.ensures.into_iter_gives ∙ c.hops-hop-items.ensures in (
      tt,
      tt,
      begins c.args.fabric.now c.args.tables.now c.args.lanes.now c.args.lid c.args.start c.args.level ahead.hops c.args.dependencies.now c.args.marks.now hops c.requires.room c.requires.before c.requires.behind,
    )

pub node_of-node-requires : goal.node_of-node-requires
node_of-node-requires c =
    let on = c.loop-hop.invariant.2 in
    let next = next_hop c.args.fabric.now c.args.tables.now c.args.lanes.now c.args.lid c.args.start c.args.level c.requires.starts c.requires.sound c.loop-hop.hop-iterator.hops c.next.new.self.hops on.passed c.in-Some.hop on.ahead c.in-Some.ensures.steps in
    rw c.count-count.ensures (small_node c.args.fabric.now c.args.tables.now c.args.lanes.now c.args.lid c.args.start c.args.level c.requires.starts c.requires.sound on.passed c.in-Some.hop next.0)

pub add-requires-clause-node : goal.add-requires-clause-node
add-requires-clause-node c =
    let on = c.loop-hop.invariant.2 in
    let next = next_hop c.args.fabric.now c.args.tables.now c.args.lanes.now c.args.lid c.args.start c.args.level c.requires.starts c.requires.sound c.loop-hop.hop-iterator.hops c.next.new.self.hops on.passed c.in-Some.hop on.ahead c.in-Some.ensures.steps in
    let node : c.node_of-node.result ≡ node_of c.args.lanes.now.count c.in-Some.hop = c.node_of-node.ensures ∙ ap (λ n. node_of n c.in-Some.hop) c.count-count.ensures in
    subst (λ n. n < length c.loop-hop.dependencies.used) (sym node) (node_below c.args.fabric.now c.args.tables.now c.args.lanes.now c.args.lid c.args.start c.args.level c.requires.starts c.requires.sound c.loop-hop.dependencies on.passed c.in-Some.hop on.so_far.from_routes next.0)

pub add-requires-clause-before : goal.add-requires-clause-before
add-requires-clause-before c = c.loop-hop.invariant.2.so_far.before_low

pub channel-requires : goal.channel-requires
channel-requires c =
    let on = c.loop-hop.invariant.2 in
    let next = next_hop c.args.fabric.now c.args.tables.now c.args.lanes.now c.args.lid c.args.start c.args.level c.requires.starts c.requires.sound c.loop-hop.hop-iterator.hops c.next.new.self.hops on.passed c.in-Some.hop on.ahead c.in-Some.ensures.steps in
    channel_low c.args.fabric.now c.args.tables.now c.args.lanes.now c.args.lid c.args.start c.args.level c.requires.starts c.requires.sound on.passed c.in-Some.hop next.0

pub is_marked-known-requires : goal.is_marked-known-requires
is_marked-known-requires c = mark_low c.args.fabric.now c.args.tables.now c.args.lanes.now c.args.lid c.args.start c.args.level c.requires.starts c.requires.sound c.in-Some.hop c.channel.result c.loop-hop.marks c.channel.ensures c.loop-hop.invariant.2.so_far.room

pub mark-requires : goal.mark-requires
mark-requires c = mark_low c.args.fabric.now c.args.tables.now c.args.lanes.now c.args.lid c.args.start c.args.level c.requires.starts c.requires.sound c.in-Some.hop c.channel.result c.loop-hop.marks c.channel.ensures c.loop-hop.invariant.2.so_far.room

pub loop-hop-preserved : goal.loop-hop-preserved
loop-hop-preserved c =
    let on = c.loop-hop.invariant.2 in
    let next = next_hop c.args.fabric.now c.args.tables.now c.args.lanes.now c.args.lid c.args.start c.args.level c.requires.starts c.requires.sound c.loop-hop.hop-iterator.hops c.next.new.self.hops on.passed c.in-Some.hop on.ahead c.in-Some.ensures.steps in
    let node : c.node_of-node.result ≡ node_of c.args.lanes.now.count c.in-Some.hop = c.node_of-node.ensures ∙ ap (λ n. node_of n c.in-Some.hop) c.count-count.ensures in
    let adds : AddsHop c.loop-hop.before (node_of c.args.lanes.now.count c.in-Some.hop) c.loop-hop.dependencies c.add.new.self = subst (λ n. AddsHop c.loop-hop.before n c.loop-hop.dependencies c.add.new.self) node c.in_ok-add.ensures in
    let marked : IsCollecting c.args.fabric.now c.args.tables.now c.args.lanes.now c.args.lid c.args.start c.args.level c.args.dependencies.now c.add.new.self (slice_set c.loop-hop.marks (cell 16 c.channel.result.tail.0 c.args.level) true) (suc on.passed) (Some (node_of c.args.lanes.now.count c.in-Some.hop)) c.is_marked-known.result =
    hop_marked c.args.fabric.now c.args.tables.now c.args.lanes.now c.args.lid c.args.start c.args.level c.requires.starts c.requires.sound c.args.dependencies.now c.loop-hop.dependencies c.add.new.self c.loop-hop.marks on.passed c.loop-hop.before c.loop-hop.known c.in-Some.hop on.so_far next.0 adds c.channel.result c.channel.ensures c.is_marked-known.result c.is_marked-known.ensures in (
      tt,
      tt,
      record {
        passed = suc on.passed;
        ahead = next.1;
        so_far = rw c.mark.ensures (subst (λ n. IsCollecting c.args.fabric.now c.args.tables.now c.args.lanes.now c.args.lid c.args.start c.args.level c.args.dependencies.now c.add.new.self (slice_set c.loop-hop.marks (cell 16 c.channel.result.tail.0 c.args.level) true) (suc on.passed) (Some n) c.is_marked-known.result) (sym node) marked);
      },
    )

pub returns-then-known : goal.returns-then-known
returns-then-known c =
    let on = c.loop-hop.invariant.2 in
    let next = next_hop c.args.fabric.now c.args.tables.now c.args.lanes.now c.args.lid c.args.start c.args.level c.requires.starts c.requires.sound c.loop-hop.hop-iterator.hops c.next.new.self.hops on.passed c.in-Some.hop on.ahead c.in-Some.ensures.steps in
    let node : c.node_of-node.result ≡ node_of c.args.lanes.now.count c.in-Some.hop = c.node_of-node.ensures ∙ ap (λ n. node_of n c.in-Some.hop) c.count-count.ensures in
    let adds : AddsHop c.loop-hop.before (node_of c.args.lanes.now.count c.in-Some.hop) c.loop-hop.dependencies c.add.new.self = subst (λ n. AddsHop c.loop-hop.before n c.loop-hop.dependencies c.add.new.self) node c.in_ok-add.ensures in
    record {
      room = c.loop-hop.invariant.2.so_far.room;
      from_routes = known_from_routes c.args.fabric.now c.args.tables.now c.args.lanes.now c.args.lid c.args.start c.args.level c.requires.starts c.requires.sound c.args.dependencies.now c.loop-hop.dependencies c.add.new.self c.loop-hop.marks on.passed c.loop-hop.before c.loop-hop.known c.in-Some.hop on.so_far next.0 adds;
      grows = known_grows c.args.fabric.now c.args.tables.now c.args.lanes.now c.args.lid c.args.start c.args.level c.requires.starts c.requires.sound c.args.dependencies.now c.loop-hop.dependencies c.add.new.self c.loop-hop.marks on.passed c.loop-hop.before c.loop-hop.known c.in-Some.hop on.so_far next.0 adds;
      behind = known_behind c.args.fabric.now c.args.tables.now c.args.lanes.now c.args.lid c.args.start c.args.level c.requires.starts c.requires.sound c.args.dependencies.now c.loop-hop.dependencies c.add.new.self c.loop-hop.marks on.passed c.loop-hop.before c.loop-hop.known c.in-Some.hop on.so_far next.0 adds c.if-known.true;
      has = known_routes c.args.fabric.now c.args.tables.now c.args.lanes.now c.args.lid c.args.start c.args.level c.requires.starts c.requires.sound c.args.dependencies.now c.loop-hop.dependencies c.add.new.self c.loop-hop.marks on.passed c.loop-hop.before c.loop-hop.known c.in-Some.hop on.so_far next.0 adds c.if-known.true;
    }

pub returns : goal.returns
returns c =
    let on = c.loop-hop.invariant.2 in
    record {
      room = on.so_far.room;
      from_routes = on.so_far.from_routes;
      grows = on.so_far.grows;
      behind = are_behind c.args.fabric.now c.args.tables.now c.args.lanes.now c.args.lid c.args.start c.args.level c.requires.starts c.requires.sound c.args.dependencies.now c.loop-hop.dependencies c.loop-hop.marks c.loop-hop.before c.loop-hop.known c.loop-hop.hop-iterator.hops on c.in-None.ensures.steps.0;
      has = has_routes c.args.fabric.now c.args.tables.now c.args.lanes.now c.args.lid c.args.start c.args.level c.requires.starts c.requires.sound c.args.dependencies.now c.loop-hop.dependencies c.loop-hop.marks c.loop-hop.before c.loop-hop.known c.loop-hop.hop-iterator.hops on c.in-None.ensures.steps.0;
    }

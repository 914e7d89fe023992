use Rattle.std.proofs.Common.{◌≡◌, suc, ◌<◌, ◌∙◌, length, sym, ap, subst, arith, Some, slice_get, true}
use Rattle.std.specs.Prelude.{slice_set}
use Rattle.std.proofs.lemmas.Option.{none-some}
use Rattle.fab_model.specs.Topology.{Topology}
use Rattle.fab_tables.specs.Entries.{cell}
use Rattle.fab_tables.specs.HopsAhead.{HopsAhead}
use Rattle.fab_tables.specs.Dependencies.{node_of}
use Rattle.fab_certify.specs.Collected.{AddsHop}
use Rattle.fab_replies.specs.Jointly.{hops_of}
use Rattle.fab_replies.proofs.WayHops.{IsCollecting, begins, channel_low, small_node, mark_low, node_below, bad_found, from_both_now, grows_now, known_done, known_marked, hop_marked, next_hop, all_done, all_marked}
use Rattle.fab_replies.proofs.collecting.collect_hops.Goals as goal

pub loop-hop-init : goal.loop-hop-init
loop-hop-init c =
    let ahead = c.into_iter-hop-iterator.result in
    let hops : ahead.hops ≡ hops_of c.args.reading.now.fabric c.args.reading.now.entries c.args.reading.now.lanes c.args.way = ap (λ (a : HopsAhead). a.hops) c.into_iter-hop-iterator.ensures.into_iter_gives ∙ c.hops-hop-items.ensures in (
      tt,
      tt,
      begins c.args.reading.now.fabric c.args.reading.now.entries c.args.reading.now.lanes c.args.way ahead.hops c.args.dependencies.now c.args.marks.now hops c.requires.from_both c.requires.marked,
    )

pub channel-requires : goal.channel-requires
channel-requires c =
    let on = c.loop-hop.invariant.2 in
    let next = next_hop c.args.reading.now.fabric c.count-count.ensures.kept.fabric c.args.reading.now.entries c.args.reading.now.lanes c.count-count.ensures.kept.lanes c.args.way c.requires.way c.requires.sound c.loop-hop.hop-iterator.hops c.next.new.self.hops on.passed c.in-Some.hop on.ahead c.in-Some.ensures.steps in
    subst (λ (x : Topology). c.in-Some.hop.channel.0 < length x.channels) (sym c.fabric.ensures.fabric) (channel_low c.args.reading.now.fabric c.count-count.ensures.kept.fabric c.args.reading.now.entries c.args.reading.now.lanes c.count-count.ensures.kept.lanes c.args.way c.requires.way c.requires.sound on.passed c.in-Some.hop next.0)

pub node_of-node-requires : goal.node_of-node-requires
node_of-node-requires c =
    let on = c.loop-hop.invariant.2 in
    let next = next_hop c.args.reading.now.fabric c.count-count.ensures.kept.fabric c.args.reading.now.entries c.args.reading.now.lanes c.count-count.ensures.kept.lanes c.args.way c.requires.way c.requires.sound c.loop-hop.hop-iterator.hops c.next.new.self.hops on.passed c.in-Some.hop on.ahead c.in-Some.ensures.steps in
    let low : c.in-Some.hop.lane < c.args.reading.now.lanes.count = omega (arith, c.if-hop-count.false, c.count-count.ensures.count) in
    rw c.count-count.ensures.count (small_node c.args.reading.now.fabric c.count-count.ensures.kept.fabric c.args.reading.now.entries c.args.reading.now.lanes c.count-count.ensures.kept.lanes c.args.way c.requires.way c.requires.sound on.passed c.in-Some.hop next.0 low)

pub add-requires-clause-node : goal.add-requires-clause-node
add-requires-clause-node c =
    let on = c.loop-hop.invariant.2 in
    let next = next_hop c.args.reading.now.fabric c.count-count.ensures.kept.fabric c.args.reading.now.entries c.args.reading.now.lanes c.count-count.ensures.kept.lanes c.args.way c.requires.way c.requires.sound c.loop-hop.hop-iterator.hops c.next.new.self.hops on.passed c.in-Some.hop on.ahead c.in-Some.ensures.steps in
    let low : c.in-Some.hop.lane < c.args.reading.now.lanes.count = omega (arith, c.if-hop-count.false, c.count-count.ensures.count) in
    let node : c.node_of-node.result ≡ node_of c.args.reading.now.lanes.count c.in-Some.hop = c.node_of-node.ensures ∙ ap (λ n. node_of n c.in-Some.hop) c.count-count.ensures.count in
    subst (λ n. n < length c.loop-hop.dependencies.used) (sym node) (node_below c.args.reading.now.fabric c.count-count.ensures.kept.fabric c.args.reading.now.entries c.args.reading.now.lanes c.count-count.ensures.kept.lanes c.args.way c.requires.way c.requires.sound c.loop-hop.dependencies on.passed c.in-Some.hop on.so_far.from_both next.0 low)

pub add-requires-clause-before : goal.add-requires-clause-before
add-requires-clause-before c = c.loop-hop.invariant.2.so_far.before_low

pub is_marked-known-requires : goal.is_marked-known-requires
is_marked-known-requires c =
    let row : slice_get c.args.reading.now.fabric.channels c.in-Some.hop.channel.0 ≡ Some c.channel.result = subst (λ (x : Topology). slice_get x.channels c.in-Some.hop.channel.0 ≡ Some c.channel.result) c.fabric.ensures.fabric c.channel.ensures in
    mark_low c.args.reading.now.fabric c.count-count.ensures.kept.fabric c.args.reading.now.entries c.args.reading.now.lanes c.count-count.ensures.kept.lanes c.args.way c.requires.way c.requires.sound c.in-Some.hop c.channel.result c.loop-hop.marks row c.loop-hop.invariant.2.so_far.room

pub mark-requires : goal.mark-requires
mark-requires c =
    let row : slice_get c.args.reading.now.fabric.channels c.in-Some.hop.channel.0 ≡ Some c.channel.result = subst (λ (x : Topology). slice_get x.channels c.in-Some.hop.channel.0 ≡ Some c.channel.result) c.fabric.ensures.fabric c.channel.ensures in
    mark_low c.args.reading.now.fabric c.count-count.ensures.kept.fabric c.args.reading.now.entries c.args.reading.now.lanes c.count-count.ensures.kept.lanes c.args.way c.requires.way c.requires.sound c.in-Some.hop c.channel.result c.loop-hop.marks row c.loop-hop.invariant.2.so_far.room

pub loop-hop-preserved : goal.loop-hop-preserved
loop-hop-preserved c =
    let on = c.loop-hop.invariant.2 in
    let next = next_hop c.args.reading.now.fabric c.count-count.ensures.kept.fabric c.args.reading.now.entries c.args.reading.now.lanes c.count-count.ensures.kept.lanes c.args.way c.requires.way c.requires.sound c.loop-hop.hop-iterator.hops c.next.new.self.hops on.passed c.in-Some.hop on.ahead c.in-Some.ensures.steps in
    let low : c.in-Some.hop.lane < c.args.reading.now.lanes.count = omega (arith, c.if-hop-count.false, c.count-count.ensures.count) in
    let node : c.node_of-node.result ≡ node_of c.args.reading.now.lanes.count c.in-Some.hop = c.node_of-node.ensures ∙ ap (λ n. node_of n c.in-Some.hop) c.count-count.ensures.count in
    let adds : AddsHop c.loop-hop.before (node_of c.args.reading.now.lanes.count c.in-Some.hop) c.loop-hop.dependencies c.add.new.self = subst (λ n. AddsHop c.loop-hop.before n c.loop-hop.dependencies c.add.new.self) node c.in_ok-add.ensures in
    let row : slice_get c.args.reading.now.fabric.channels c.in-Some.hop.channel.0 ≡ Some c.channel.result = subst (λ (x : Topology). slice_get x.channels c.in-Some.hop.channel.0 ≡ Some c.channel.result) c.fabric.ensures.fabric c.channel.ensures in
    let marked : IsCollecting c.args.reading.now.fabric c.args.reading.now.entries c.args.reading.now.lanes c.args.way c.args.dependencies.now c.add.new.self (slice_set c.loop-hop.marks (cell 16 c.channel.result.tail.0 c.args.way.level) true) (suc on.passed) (Some (node_of c.args.reading.now.lanes.count c.in-Some.hop)) c.is_marked-known.result =
    hop_marked c.args.reading.now.fabric c.count-count.ensures.kept.fabric c.args.reading.now.entries c.args.reading.now.lanes c.count-count.ensures.kept.lanes c.args.way c.requires.way c.requires.sound c.args.dependencies.now c.loop-hop.dependencies c.add.new.self c.loop-hop.marks on.passed c.loop-hop.before c.loop-hop.known c.in-Some.hop on.so_far next.0 low adds c.channel.result row c.is_marked-known.result c.is_marked-known.ensures in (
      tt,
      tt,
      record {
        passed = suc on.passed;
        ahead = next.1;
        so_far = rw c.mark.ensures (subst (λ n. IsCollecting c.args.reading.now.fabric c.args.reading.now.entries c.args.reading.now.lanes c.args.way c.args.dependencies.now c.add.new.self (slice_set c.loop-hop.marks (cell 16 c.channel.result.tail.0 c.args.way.level) true) (suc on.passed) (Some n) c.is_marked-known.result) (sym node) marked);
      },
    )

pub returns-then-hop-count : goal.returns-then-hop-count
returns-then-hop-count c =
    let on = c.loop-hop.invariant.2 in
    let next = next_hop c.args.reading.now.fabric c.count-count.ensures.kept.fabric c.args.reading.now.entries c.args.reading.now.lanes c.count-count.ensures.kept.lanes c.args.way c.requires.way c.requires.sound c.loop-hop.hop-iterator.hops c.next.new.self.hops on.passed c.in-Some.hop on.ahead c.in-Some.ensures.steps in
    let row : slice_get c.args.reading.now.fabric.channels c.in-Some.hop.channel.0 ≡ Some c.channel.result = subst (λ (x : Topology). slice_get x.channels c.in-Some.hop.channel.0 ≡ Some c.channel.result) c.fabric.ensures.fabric c.channel.ensures in
    record {
      from_both = on.so_far.from_both;
      grows = on.so_far.grows;
      marked = λ is. absurd (none-some _ (sym is));
      room = on.so_far.room;
      hops = bad_found c.args.reading.now.fabric c.count-count.ensures.kept.fabric c.args.reading.now.entries c.args.reading.now.lanes c.count-count.ensures.kept.lanes c.args.way c.requires.way c.requires.sound c.args.dependencies.now c.loop-hop.dependencies c.loop-hop.marks on.passed c.loop-hop.before c.loop-hop.known c.in-Some.hop c.channel.result on.so_far next.0 row (omega (arith, c.if-hop-count.true, c.count-count.ensures.count));
    }

pub returns-then-known : goal.returns-then-known
returns-then-known c =
    let on = c.loop-hop.invariant.2 in
    let next = next_hop c.args.reading.now.fabric c.count-count.ensures.kept.fabric c.args.reading.now.entries c.args.reading.now.lanes c.count-count.ensures.kept.lanes c.args.way c.requires.way c.requires.sound c.loop-hop.hop-iterator.hops c.next.new.self.hops on.passed c.in-Some.hop on.ahead c.in-Some.ensures.steps in
    let low : c.in-Some.hop.lane < c.args.reading.now.lanes.count = omega (arith, c.if-hop-count.false, c.count-count.ensures.count) in
    let node : c.node_of-node.result ≡ node_of c.args.reading.now.lanes.count c.in-Some.hop = c.node_of-node.ensures ∙ ap (λ n. node_of n c.in-Some.hop) c.count-count.ensures.count in
    let adds : AddsHop c.loop-hop.before (node_of c.args.reading.now.lanes.count c.in-Some.hop) c.loop-hop.dependencies c.add.new.self = subst (λ n. AddsHop c.loop-hop.before n c.loop-hop.dependencies c.add.new.self) node c.in_ok-add.ensures in
    record {
      from_both = from_both_now c.args.reading.now.fabric c.count-count.ensures.kept.fabric c.args.reading.now.entries c.args.reading.now.lanes c.count-count.ensures.kept.lanes c.args.way c.requires.way c.requires.sound c.args.dependencies.now c.loop-hop.dependencies c.add.new.self c.loop-hop.marks on.passed c.loop-hop.before c.loop-hop.known c.in-Some.hop on.so_far next.0 low adds;
      grows = grows_now c.args.reading.now.fabric c.count-count.ensures.kept.fabric c.args.reading.now.entries c.args.reading.now.lanes c.count-count.ensures.kept.lanes c.args.way c.requires.way c.requires.sound c.args.dependencies.now c.loop-hop.dependencies c.add.new.self c.loop-hop.marks on.passed c.loop-hop.before c.loop-hop.known c.in-Some.hop on.so_far next.0 low adds;
      marked = λ is. known_marked c.args.reading.now.fabric c.count-count.ensures.kept.fabric c.args.reading.now.entries c.args.reading.now.lanes c.count-count.ensures.kept.lanes c.args.way c.requires.way c.requires.sound c.args.dependencies.now c.loop-hop.dependencies c.add.new.self c.loop-hop.marks on.passed c.loop-hop.before c.loop-hop.known c.in-Some.hop on.so_far next.0 low adds c.if-known.true;
      room = on.so_far.room;
      hops = known_done c.args.reading.now.fabric c.count-count.ensures.kept.fabric c.args.reading.now.entries c.args.reading.now.lanes c.count-count.ensures.kept.lanes c.args.way c.requires.way c.requires.sound c.args.dependencies.now c.loop-hop.dependencies c.add.new.self c.loop-hop.marks on.passed c.loop-hop.before c.loop-hop.known c.in-Some.hop on.so_far next.0 low adds c.if-known.true;
    }

pub returns : goal.returns
returns c =
    let on = c.loop-hop.invariant.2 in
    record {
      from_both = on.so_far.from_both;
      grows = on.so_far.grows;
      marked = λ is. all_marked c.args.reading.now.fabric c.count-count.ensures.kept.fabric c.args.reading.now.entries c.args.reading.now.lanes c.count-count.ensures.kept.lanes c.args.way c.requires.way c.requires.sound c.args.dependencies.now c.loop-hop.dependencies c.loop-hop.marks c.loop-hop.before c.loop-hop.known c.loop-hop.hop-iterator.hops on c.in-None.ensures.steps.0;
      room = on.so_far.room;
      hops = all_done c.args.reading.now.fabric c.count-count.ensures.kept.fabric c.args.reading.now.entries c.args.reading.now.lanes c.count-count.ensures.kept.lanes c.args.way c.requires.way c.requires.sound c.args.dependencies.now c.loop-hop.dependencies c.loop-hop.marks c.loop-hop.before c.loop-hop.known c.loop-hop.hop-iterator.hops on c.in-None.ensures.steps.0;
    }

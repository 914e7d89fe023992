use Rattle.std.proofs.Common.{◌≡◌, Some, sym, arith, length-set}
use Rattle.fab_tables.specs.Trees.{next}
use Rattle.fab_sssp.proofs.Raising.TreePassing.{tip_read, channel_there, passes_nothing, read_low, read_left, read_few, read_passes, read_totals, read_within}
use Rattle.fab_sssp.proofs.passing.pass.Goals as goal

pub returns-in_err-channel-clause-passing : goal.returns-in_err-channel-clause-passing
returns-in_err-channel-clause-passing c =
    passes_nothing c.args.fabric.now c.args.tree.now c.requires.tree c.requires.fabric.rows c.args.arrived.now c.args.pending.now c.requires.passing c.args.from.0 c.requires.from c.requires.alone (sym c.in_err-channel.ensures)

pub tip-to-requires : goal.tip-to-requires
tip-to-requires c = channel_there c.args.fabric.now c.args.tree.now c.requires.tree c.args.from.0 c.in_ok-channel.channel.0 (sym c.in_ok-channel.ensures)

pub bounds-weights-channel : goal.bounds-weights-channel
bounds-weights-channel c = omega (arith, c.requires.weights, channel_there c.args.fabric.now c.args.tree.now c.requires.tree c.args.from.0 c.in_ok-channel.channel.0 (sym c.in_ok-channel.ensures))

pub overflow_add-weights : goal.overflow_add-weights
overflow_add-weights c =
    let t = c.args.fabric.now in
    let d = c.in_ok-channel.channel.0 in
    let has : next c.args.tree.now c.args.from.0 ≡ Some d = sym c.in_ok-channel.ensures in
    omega (
      arith,
      c.from.ensures,
      read_within t c.args.tree.now c.requires.tree c.requires.fabric.rows c.args.arrived.now c.args.pending.now c.requires.passing c.args.from.0 c.requires.from c.requires.alone d has
          c.tip-to.result.0 c.take-terminals.new.dest c.take-terminals.result (tip_read t d c.tip-to.result c.tip-to.ensures) c.take-terminals.ensures.after c.take-terminals.ensures.value c.args.weights.now c.requires.fit
          (channel_there t c.args.tree.now c.requires.tree c.args.from.0 d has),
    )

pub bounds-weights-channel-2 : goal.bounds-weights-channel-2
bounds-weights-channel-2 c = omega (arith, c.requires.weights, channel_there c.args.fabric.now c.args.tree.now c.requires.tree c.args.from.0 c.in_ok-channel.channel.0 (sym c.in_ok-channel.ensures))

pub bounds-arrived-to : goal.bounds-arrived-to
bounds-arrived-to c =
    let t = c.args.fabric.now in
    let d = c.in_ok-channel.channel.0 in
    omega (
      arith,
      length-set c.args.arrived.now c.args.from.0 c.take-terminals.new.dest,
      c.requires.passing.arrived_each,
      read_low t c.args.tree.now c.requires.tree c.requires.fabric.rows c.args.arrived.now c.args.pending.now c.requires.passing c.args.from.0 c.requires.from c.requires.alone d (sym c.in_ok-channel.ensures)
          c.tip-to.result.0 c.take-terminals.new.dest c.take-terminals.result (tip_read t d c.tip-to.result c.tip-to.ensures) c.take-terminals.ensures.after c.take-terminals.ensures.value,
    )

pub overflow_add-arrived : goal.overflow_add-arrived
overflow_add-arrived c =
    let t = c.args.fabric.now in
    let d = c.in_ok-channel.channel.0 in
    omega (
      arith,
      c.requires.fabric.rows.lid_count,
      read_few t c.args.tree.now c.requires.tree c.requires.fabric.rows c.args.arrived.now c.args.pending.now c.requires.passing c.args.from.0 c.requires.from c.requires.alone d (sym c.in_ok-channel.ensures)
          c.tip-to.result.0 c.take-terminals.new.dest c.take-terminals.result (tip_read t d c.tip-to.result c.tip-to.ensures) c.take-terminals.ensures.after c.take-terminals.ensures.value,
    )

pub bounds-arrived-to-2 : goal.bounds-arrived-to-2
bounds-arrived-to-2 c =
    let t = c.args.fabric.now in
    let d = c.in_ok-channel.channel.0 in
    omega (
      arith,
      length-set c.args.arrived.now c.args.from.0 c.take-terminals.new.dest,
      c.requires.passing.arrived_each,
      read_low t c.args.tree.now c.requires.tree c.requires.fabric.rows c.args.arrived.now c.args.pending.now c.requires.passing c.args.from.0 c.requires.from c.requires.alone d (sym c.in_ok-channel.ensures)
          c.tip-to.result.0 c.take-terminals.new.dest c.take-terminals.result (tip_read t d c.tip-to.result c.tip-to.ensures) c.take-terminals.ensures.after c.take-terminals.ensures.value,
    )

pub bounds-pending-to : goal.bounds-pending-to
bounds-pending-to c =
    let t = c.args.fabric.now in
    let d = c.in_ok-channel.channel.0 in
    omega (
      arith,
      length-set c.args.pending.now c.args.from.0 0,
      c.requires.passing.pending_each,
      read_low t c.args.tree.now c.requires.tree c.requires.fabric.rows c.args.arrived.now c.args.pending.now c.requires.passing c.args.from.0 c.requires.from c.requires.alone d (sym c.in_ok-channel.ensures)
          c.tip-to.result.0 c.take-terminals.new.dest c.take-terminals.result (tip_read t d c.tip-to.result c.tip-to.ensures) c.take-terminals.ensures.after c.take-terminals.ensures.value,
    )

pub overflow_sub-pending : goal.overflow_sub-pending
overflow_sub-pending c =
    let t = c.args.fabric.now in
    let d = c.in_ok-channel.channel.0 in
    read_left t c.args.tree.now c.requires.tree c.requires.fabric.rows c.args.arrived.now c.args.pending.now c.requires.passing c.args.from.0 c.requires.from c.requires.alone d (sym c.in_ok-channel.ensures)
    c.tip-to.result.0 c.take-terminals.new.dest c.take-terminals.result (tip_read t d c.tip-to.result c.tip-to.ensures) c.take-terminals.ensures.after c.take-terminals.ensures.value

pub bounds-pending-to-2 : goal.bounds-pending-to-2
bounds-pending-to-2 c =
    let t = c.args.fabric.now in
    let d = c.in_ok-channel.channel.0 in
    omega (
      arith,
      length-set c.args.pending.now c.args.from.0 0,
      c.requires.passing.pending_each,
      read_low t c.args.tree.now c.requires.tree c.requires.fabric.rows c.args.arrived.now c.args.pending.now c.requires.passing c.args.from.0 c.requires.from c.requires.alone d (sym c.in_ok-channel.ensures)
          c.tip-to.result.0 c.take-terminals.new.dest c.take-terminals.result (tip_read t d c.tip-to.result c.tip-to.ensures) c.take-terminals.ensures.after c.take-terminals.ensures.value,
    )

pub returns-clause-to : goal.returns-clause-to
returns-clause-to c =
    let t = c.args.fabric.now in
    let d = c.in_ok-channel.channel.0 in
    read_low t c.args.tree.now c.requires.tree c.requires.fabric.rows c.args.arrived.now c.args.pending.now c.requires.passing c.args.from.0 c.requires.from c.requires.alone d (sym c.in_ok-channel.ensures)
    c.tip-to.result.0 c.take-terminals.new.dest c.take-terminals.result (tip_read t d c.tip-to.result c.tip-to.ensures) c.take-terminals.ensures.after c.take-terminals.ensures.value

pub returns-clause-passing : goal.returns-clause-passing
returns-clause-passing c =
    let t = c.args.fabric.now in
    let d = c.in_ok-channel.channel.0 in
    read_passes t c.args.tree.now c.requires.tree c.requires.fabric.rows c.args.arrived.now c.args.pending.now c.requires.passing c.args.from.0 c.requires.from c.requires.alone d (sym c.in_ok-channel.ensures)
    c.tip-to.result.0 c.take-terminals.new.dest c.take-terminals.result (tip_read t d c.tip-to.result c.tip-to.ensures) c.take-terminals.ensures.after c.take-terminals.ensures.value

pub returns-clause-totals : goal.returns-clause-totals
returns-clause-totals c =
    let t = c.args.fabric.now in
    let d = c.in_ok-channel.channel.0 in
    let has : next c.args.tree.now c.args.from.0 ≡ Some d = sym c.in_ok-channel.ensures in
    rw c.from.ensures (read_totals t c.args.tree.now c.requires.tree c.requires.fabric.rows c.args.arrived.now c.args.pending.now c.requires.passing c.args.from.0 c.requires.from c.requires.alone d has
    c.tip-to.result.0 c.take-terminals.new.dest c.take-terminals.result (tip_read t d c.tip-to.result c.tip-to.ensures) c.take-terminals.ensures.after c.take-terminals.ensures.value c.args.weights.now
    (omega (arith, c.requires.weights, channel_there t c.args.tree.now c.requires.tree c.args.from.0 d has)))

use Rattle.std.proofs.Common.{◌≡◌, ◌+◌, ◌≤◌, length, [], ◌∙◌, arith}
use Rattle.std.proofs.lemmas.List.{get_or_read}
use Rattle.fab_model.specs.Topology.{first_channel}
use Rattle.fab_model.specs.Indexed.{only}
use Rattle.fab_model.proofs.Finds.{first_channel-le, first_channel-le-length}
use Rattle.fab_model.proofs.fabric.Fabric.leaves.Goals as goal

pub returns-clause-ordered : goal.returns-clause-ordered
returns-clause-ordered c =
    let low = rw (← c.self.view_is) at c.requires in
    let numbers = c.self.invariant.1.first_channels in
    let fabric = only [] c.self.inside.channels.items [] in
    let switch = c.args.s.0 in
    let first : c.index.result.now ≡ first_channel fabric switch = get_or_read c.self.inside.indexes.first_channels.items switch _ (omega (arith, numbers.count)) c.index.ensures 0 ∙ numbers.each switch (omega arith) in
    let past : c.index-2.result.now ≡ first_channel fabric (switch + 1) = get_or_read c.self.inside.indexes.first_channels.items (switch + 1) _ (omega (arith, numbers.count)) c.index-2.ensures 0 ∙ numbers.each (switch + 1) (omega arith) in
    omega (arith, first, past, first_channel-le fabric switch)

pub returns-clause-within : goal.returns-clause-within
returns-clause-within c =
    let low = rw (← c.self.view_is) at c.requires in
    let numbers = c.self.invariant.1.first_channels in
    let fabric = only [] c.self.inside.channels.items [] in
    let switch = c.args.s.0 in
    let past : c.index-2.result.now ≡ first_channel fabric (switch + 1) = get_or_read c.self.inside.indexes.first_channels.items (switch + 1) _ (omega (arith, numbers.count)) c.index-2.ensures 0 ∙ numbers.each (switch + 1) (omega arith) in
    let within : c.index-2.result.now ≤ length c.self.inside.channels.items = omega (arith, past, first_channel-le-length fabric (switch + 1)) in
    rw (← c.self.view_is) within

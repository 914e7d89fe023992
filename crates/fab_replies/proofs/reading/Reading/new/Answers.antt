use Rattle.std.proofs.Common.{◌≡◌, ◌*◌, length, refl}
use Rattle.fab_replies.proofs.reading.Reading.new.Goals as goal

pub invariant_of-result : goal.invariant_of-result
invariant_of-result c =
    let virtual_channels : c.channels.result * c.from.result ≡ length c.args.fabric.now.channels * c.args.lanes.now.count = rw (c.channels.ensures.count, c.from.ensures, c.count.ensures) refl in
    (record { fabric = c.channels.ensures.kept; entries = c.requires.tables; lanes = c.requires.lanes }, c.requires.components, virtual_channels)

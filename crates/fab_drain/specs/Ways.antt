-- What is still to come on the way of a packet.
use Rattle.std.specs.Prelude.{map, []}
use Rattle.fab_tables.specs.HopsAhead.{HopsAhead}
use Rattle.fab_tables.specs.VirtualChannels.{virtual_channel}
use Rattle.fab_drain.specs.declared.packet_hops.Way.{Way}
use Rattle.fab_drain.specs.declared.packet_hops.Way.TheVariants.{OneLane, Lanes, NoLevel}

abbrev pub hops_on : Way → HopsAhead
hops_on (OneLane following) = record { hops = map (λ c. virtual_channel c 0) following.channels }
hops_on (Lanes hops) = hops
hops_on NoLevel = record { hops = [] }

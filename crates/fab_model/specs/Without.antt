-- A fabric without some of its cables.
use Rattle.std.specs.Prelude.{ℕ, Bool, true, false, ◌&&◌, ◌||◌, not, List, map, filter, position, Option, None, Some, Result, Ok, Err, ◌==◌}
use Rattle.std.specs.List.{list_any}
use Rattle.fab_model.specs.declared.rows.ChannelRow.{ChannelRow}
use Rattle.fab_model.specs.declared.rows.Cable.{Cable}
use Rattle.fab_model.specs.declared.fault.WithoutFault.{WithoutFault}
use Rattle.fab_model.specs.declared.fault.WithoutFault.TheVariants.{UnknownCable, Memory}
use Rattle.fab_model.specs.Topology.{Topology, guid_of, reversed}

-- the channel leaves the named switch by the named port
abbrev pub leaves_named : Topology → ChannelRow → Cable → Bool
leaves_named fabric row cable = guid_of fabric row.tail.0 == cable.guid && row.port == cable.port

-- a listed cable names an end of the channel's cable
abbrev pub is_listed : Topology → List Cable → ChannelRow → Bool
is_listed fabric cables row = list_any (λ cable. leaves_named fabric row cable || leaves_named fabric (reversed row) cable) cables

abbrev pub without_cables : Topology → List Cable → Topology
without_cables fabric cables = record fabric { channels = filter (λ row. not (is_listed fabric cables row)) fabric.channels }

abbrev pub is_unknown : Topology → Cable → Bool
is_unknown fabric cable = not (list_any (λ row. leaves_named fabric row cable) fabric.channels)

-- the channel that leaves the named switch by the named port
abbrev pub named_channel : Topology → Cable → Option ℕ
named_channel fabric cable = position (λ row. leaves_named fabric row cable) fabric.channels

-- what is made without the cables, or the first one that isn't in the fabric
abbrev pub unless_unknown : {X : Type 0} → Option ℕ → X → Result X WithoutFault
unless_unknown None made = Ok made
unless_unknown (Some index) made = Err (UnknownCable index)

-- by channel, whether its cable is listed
abbrev pub listed_rows : Topology → List Cable → Result (List Bool) WithoutFault
listed_rows fabric cables = unless_unknown (position (is_unknown fabric) cables) (map (is_listed fabric cables) fabric.channels)

abbrev pub taken_out : Topology → List Cable → Result Topology WithoutFault
taken_out fabric cables = unless_unknown (position (is_unknown fabric) cables) (without_cables fabric cables)

-- whether the fault is want of memory
abbrev pub wants_memory : WithoutFault → Bool
wants_memory (Memory refused) = true
wants_memory fault = false

-- The texts of answers. Each ends with a line feed. GUIDs have sixteen hexadecimal digits, LIDs four, ports
-- three decimal digits, lanes two; other numbers are decimal.
use Rattle.std.specs.Prelude.{ℕ, ◌<◌, ◌/◌, ◌%◌, List, [], ◌++◌, length, flat_map, Option, None, Some, slice_get, codes, decimal}
use Rattle.fab_model.specs.declared.rows.ChannelRow.{ChannelRow}
use Rattle.fab_model.specs.Topology.{Topology, guid_of}
use Rattle.fab_tables.specs.declared.end.End.{End}
use Rattle.fab_tables.specs.declared.end.End.TheVariants.{Delivered, NoEntry, DeadPort, Astray, Loop}
use Rattle.fab_tables.specs.declared.verdict.Verdict.{Verdict}
use Rattle.fab_tables.specs.declared.verdict.Verdict.TheVariants.{Routes, Lanes, Unreached, NoLevel, BadLane, NoNumber, NotRising}
use Rattle.fab_tables.specs.declared.verdict.VirtualChannel.{VirtualChannel}
use Rattle.fab_dump.specs.Writing.{hex4, hex16, port3, two}

-- a switch's GUID; a port with its switch; a channel by the port from which it leaves; a virtual channel with its lane
abbrev pub guid_text : Topology → ℕ → List ℕ
guid_text t s = hex16 (guid_of t s)

abbrev pub port_text : Topology → ℕ → ℕ → List ℕ
port_text t s port = guid_text t s ++ codes " " ++ port3 port

abbrev pub channel_row_text : Topology → Option ChannelRow → List ℕ
channel_row_text t None = []
channel_row_text t (Some row) = port_text t row.tail.0 row.port

abbrev pub channel_text : Topology → ℕ → List ℕ
channel_text t c = channel_row_text t (slice_get t.channels c)

abbrev pub on_lane_text : Topology → ℕ → ℕ → List ℕ
on_lane_text t c lane = channel_text t c ++ codes " " ++ two lane

abbrev pub virtual_text : Topology → VirtualChannel → List ℕ
virtual_text t v = on_lane_text t v.channel.0 v.lane

-- ---- verdicts

abbrev pub ok_routes : List ℕ
ok_routes = codes "ok: routes\n"

abbrev pub ok_lanes : List ℕ
ok_lanes = codes "ok: routes and lanes\n"

abbrev pub end_text : End → List ℕ
end_text Delivered = codes "delivered"
end_text NoEntry = codes "no entry"
end_text DeadPort = codes "dead port"
end_text Astray = codes "astray"
end_text Loop = codes "loop"

-- what goes before the words for a fault on the way to a LID, with words before the switch
abbrev pub lid_front : Topology → ℕ → List ℕ → ℕ → List ℕ
lid_front t lid before s = codes "no: lid " ++ hex4 lid ++ before ++ guid_text t s ++ codes ": "

-- what is wrong on the way from a switch to a LID, and at a switch on the way
abbrev pub from_text : Topology → ℕ → ℕ → List ℕ → List ℕ
from_text t lid s what = lid_front t lid (codes " from switch ") s ++ what ++ codes "\n"

abbrev pub at_text : Topology → ℕ → ℕ → List ℕ → List ℕ
at_text t lid s what = lid_front t lid (codes " at switch ") s ++ what ++ codes "\n"

abbrev pub numbered_text : Topology → VirtualChannel → ℕ → List ℕ
numbered_text t v n = virtual_text t v ++ codes " number " ++ decimal n

-- what is wrong
abbrev pub fault_text : Topology → Verdict → List ℕ
fault_text t Routes = []
fault_text t Lanes = []
fault_text t (Unreached lid s end) = end_text end
fault_text t (NoLevel lid source) = codes "no level"
fault_text t (BadLane lid source at) = codes "bad lane at switch " ++ guid_text t at.0
fault_text t (NoNumber lid source at) = codes "no number at " ++ virtual_text t at
fault_text t (NotRising lid source first second first_number second_number) =
    numbered_text t first first_number ++ codes " is not below " ++ numbered_text t second second_number

abbrev pub verdict_text : Topology → Verdict → List ℕ
verdict_text t Routes = ok_routes
verdict_text t Lanes = ok_lanes
verdict_text t (Unreached lid s end) = from_text t lid.0 s.0 (end_text end)
verdict_text t (NoLevel lid source) = from_text t lid.0 source.0 (fault_text t (NoLevel lid source))
verdict_text t (BadLane lid source at) = from_text t lid.0 source.0 (fault_text t (BadLane lid source at))
verdict_text t (NoNumber lid source at) = from_text t lid.0 source.0 (fault_text t (NoNumber lid source at))
verdict_text t (NotRising lid source first second first_number second_number) =
    from_text t lid.0 source.0 (fault_text t (NotRising lid source first second first_number second_number))

-- the lanes that it names have at most two digits
abbrev pub HasShortLanes : Verdict → Type 0
HasShortLanes (NoNumber lid source at) = at.lane < 100
HasShortLanes (NotRising lid source first second first_number second_number) = (first.lane < 100) × (second.lane < 100)
HasShortLanes _ = Unit {0}

-- ---- the refusals of engines

abbrev pub no_legal_route_text : Topology → ℕ → ℕ → List ℕ
no_legal_route_text t from to = codes "no: no legal route from switch " ++ guid_text t from ++ codes " to switch " ++ guid_text t to ++ codes "\n"

abbrev pub lane_for_pair_text : Topology → ℕ → ℕ → List ℕ
lane_for_pair_text t low high = codes "no: another lane is needed for switches " ++ guid_text t low ++ codes " and " ++ guid_text t high ++ codes "\n"

-- ---- rings

-- the line of a channel on a lane
abbrev pub on_lane_line : Topology → ℕ → ℕ → List ℕ
on_lane_line t lane c = on_lane_text t c lane ++ codes "\n"

-- what is said of a ring, with its length
abbrev pub ring_front : List ℕ → List ℕ → List ℕ
ring_front what ring = what ++ decimal (length ring) ++ codes "\n"

-- the lines of a ring of virtual channels, whose numbers are channel times lane count plus lane
abbrev pub ring_line : Topology → ℕ → ℕ → List ℕ
ring_line t count node = on_lane_line t (node % count) (node / count)

abbrev pub ring_text : Topology → ℕ → List ℕ → List ℕ
ring_text t count ring = ring_front (codes "no: ring of ") ring ++ flat_map (ring_line t count) ring

-- a ring of channels on one lane, which needs another
abbrev pub lane_for_ring_text : Topology → ℕ → List ℕ → List ℕ
lane_for_ring_text t lane ring = ring_front (codes "no: another lane is needed for a ring of ") ring ++ flat_map (on_lane_line t lane) ring

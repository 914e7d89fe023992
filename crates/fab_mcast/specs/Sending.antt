-- What a copy gives by one port, and the marks of terminals that are reached.
use Rattle.std.specs.Prelude.{ℕ, Bool, false, ◌==◌, List, Option, None, map, slice_index_or, if◌then◌else◌}
use Rattle.fab_model.specs.Topology.{Topology, channel_at, terminal_at}
use Rattle.fab_mcast.specs.declared.copies.PacketCopy.{PacketCopy}
use Rattle.fab_mcast.specs.Copies.{Copy, copy_along}

-- a copy by its numbers alone
abbrev pub seen_copy : PacketCopy → Copy
seen_copy copy = record { at = copy.at.0; from = copy.from }

abbrev pub seen_copies : List PacketCopy → List Copy
seen_copies copies = map seen_copy copies

-- the copy, or the terminal, by a port; none by the one by which the copy came
abbrev pub copy_by : Topology → Copy → ℕ → Option Copy
copy_by t copy port = if port == copy.from then None else copy_along t (channel_at t copy.at port)

abbrev pub terminal_by : Topology → Copy → ℕ → Option ℕ
terminal_by t copy port = if port == copy.from then None else terminal_at t copy.at port

-- whether a terminal is marked
abbrev pub is_marked : List Bool → ℕ → Bool
is_marked marks n = slice_index_or marks n false

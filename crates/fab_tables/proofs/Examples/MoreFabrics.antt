-- Further fabrics. PAIR: two switches joined by two cables, with two terminals at the second. RING5: five switches in a ring, each with a terminal.
-- REAL: two leaf switches under one core switch, the second by two cables.
use Rattle.std.proofs.Common.{[], ◌∷◌}
use Rattle.fab_model.specs.Topology.{Topology}
use Rattle.fab_tables.specs.Entries.{Entries}
use Rattle.fab_tables.proofs.Examples.Fabrics.{switch, channel, terminal}

abbrev pub pair : Topology
pair = record {
  switches = switch 0x10 1 4 ∷ switch 0x11 2 4 ∷ [];
  adapters = [];
  channels = channel 0 1 1 1 ∷ channel 0 2 1 2 ∷ channel 1 1 0 1 ∷ channel 1 2 0 2 ∷ [];
  terminals = terminal 3 1 3 ∷ terminal 4 1 4 ∷ [];
}

-- Min Hop on PAIR
abbrev pub pair_balanced : Entries
pair_balanced = record { switches = 2; in_use = 1 ∷ 2 ∷ 3 ∷ 4 ∷ []; ports = 0 ∷ 1 ∷ 1 ∷ 0 ∷ 1 ∷ 3 ∷ 2 ∷ 4 ∷ [] }

abbrev pub ring5 : Topology
ring5 = record {
  switches = switch 0x10000 1 3 ∷ switch 0x10001 2 3 ∷ switch 0x10002 3 3 ∷ switch 0x10003 4 3 ∷ switch 0x10004 5 3 ∷ [];
  adapters = [];
  channels = channel 0 1 1 2 ∷ channel 0 2 4 1 ∷ channel 1 1 2 2 ∷ channel 1 2 0 1 ∷ channel 2 1 3 2 ∷ channel 2 2 1 1
      ∷ channel 3 1 4 2 ∷ channel 3 2 2 1 ∷ channel 4 1 0 2 ∷ channel 4 2 3 1 ∷ [];
  terminals = terminal 6 0 3 ∷ terminal 7 1 3 ∷ terminal 8 2 3 ∷ terminal 9 3 3 ∷ terminal 10 4 3 ∷ [];
}

-- DOR on RING5, and SSSP too
abbrev pub ring5_entries : Entries
ring5_entries = record {
  switches = 5;
  in_use = 1 ∷ 2 ∷ 3 ∷ 4 ∷ 5 ∷ 6 ∷ 7 ∷ 8 ∷ 9 ∷ 10 ∷ [];
  ports = 0 ∷ 2 ∷ 2 ∷ 1 ∷ 1 ∷ 1 ∷ 0 ∷ 2 ∷ 2 ∷ 1 ∷ 1 ∷ 1 ∷ 0 ∷ 2 ∷ 2 ∷ 2 ∷ 1 ∷ 1 ∷ 0 ∷ 2 ∷ 2 ∷ 2 ∷ 1 ∷ 1 ∷ 0 ∷ 3 ∷ 2 ∷ 2 ∷ 1 ∷ 1 ∷ 1 ∷ 3 ∷ 2 ∷ 2 ∷ 1 ∷ 1 ∷ 1 ∷ 3 ∷ 2 ∷ 2 ∷ 2 ∷ 1 ∷ 1 ∷ 3 ∷ 2 ∷ 2 ∷ 2 ∷ 1 ∷ 1 ∷ 3 ∷ [];
}

abbrev pub real : Topology
real = record {
  switches = switch 0xc42a10300aa0010 1 40 ∷ switch 0xc42a10300aa0011 2 40 ∷ switch 0xc42a10300aa0012 3 40 ∷ [];
  adapters = [];
  channels = channel 0 21 2 1 ∷ channel 1 21 2 2 ∷ channel 1 22 2 3 ∷ channel 2 1 0 21 ∷ channel 2 2 1 21 ∷ channel 2 3 1 22 ∷ [];
  terminals = terminal 4 0 1 ∷ terminal 5 1 1 ∷ terminal 6 1 2 ∷ [];
}

-- SSSP on REAL
abbrev pub real_entries : Entries
real_entries = record {
  switches = 3;
  in_use = 1 ∷ 2 ∷ 3 ∷ 4 ∷ 5 ∷ 6 ∷ [];
  ports = 0 ∷ 21 ∷ 1 ∷ 21 ∷ 0 ∷ 2 ∷ 21 ∷ 22 ∷ 0 ∷ 1 ∷ 21 ∷ 1 ∷ 21 ∷ 1 ∷ 3 ∷ 21 ∷ 2 ∷ 2 ∷ [];
}

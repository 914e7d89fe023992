-- Up/down tables: a route goes up while no down walk leads to its destination, and then down.
use Rattle.std.specs.Prelude.{◌≡◌, ℕ, suc, ◌<◌, length, ◌⊎◌, List, Option, Some, slice_get}
use Rattle.fab_model.specs.declared.rows.ChannelRow.{ChannelRow}
use Rattle.fab_model.specs.Topology.{Topology, channel_at}
use Rattle.fab_tables.specs.Entries.{Entries}
use Rattle.fab_tables.specs.FixedEntries.{HasChosenEntries}
use Rattle.fab_balance.specs.Loads.{IsBalancedChoice}
use Rattle.fab_updn.specs.Ranks.{GoesUp, GoesDown}
use Rattle.fab_updn.specs.Costs.{IsDown, LeadsDown, AreCosts}

-- the channel that leaves a switch by a port
abbrev pub IsAt : Topology → ℕ → ℕ → ChannelRow → Type 0
IsAt t s port row = (c : ℕ) × (channel_at t s port ≡ Some c) × (slice_get t.channels c ≡ Some row)

-- where a down walk leads there: the port goes down to a switch with a down walk shorter by one
abbrev pub IsDownPort : Topology → List ℕ → ℕ → ℕ → ℕ → Type 0
IsDownPort t ranks to s port =
    (row : ChannelRow) × (n : ℕ) × IsAt t s port row × GoesDown ranks row × IsDown t ranks to s (suc n) × IsDown t ranks to row.tip.0 n

-- where none does: the port goes up to a switch of a cost less by one
abbrev pub IsUpPort : Topology → List ℕ → (ℕ → Option ℕ) → ℕ → ℕ → ℕ → Type 0
IsUpPort t ranks cost to s port =
    (row : ChannelRow) × (n : ℕ) × IsAt t s port row × GoesUp ranks row × ¬ LeadsDown t ranks to s × (cost s ≡ Some (suc n)) × (cost row.tip.0 ≡ Some n)

abbrev pub IsLegalPort : Topology → List ℕ → (ℕ → Option ℕ) → ℕ → ℕ → ℕ → Type 0
IsLegalPort t ranks cost to s port = IsDownPort t ranks to s port ⊎ IsUpPort t ranks cost to s port

-- every entry that is chosen is the eligible port with the least (load, port), counted in this table; the costs are those on the way to each switch
abbrev pub IsUpDownChoice : Topology → List ℕ → (ℕ → ℕ → Option ℕ) → Entries → ℕ → ℕ → ℕ → ℕ → Type 0
IsUpDownChoice t ranks cost e s lid to port = IsBalancedChoice t e s lid (λ p. IsLegalPort t ranks (cost to) to s p) port

pub record AreUpDownTables (t : Topology) (ranks : List ℕ) (e : Entries) : Type 0 where
  pub cost : ℕ → ℕ → Option ℕ
  pub costs : (to : ℕ) → to < length t.switches → AreCosts t ranks to (cost to)
  pub entries : HasChosenEntries t e (IsUpDownChoice t ranks cost e)

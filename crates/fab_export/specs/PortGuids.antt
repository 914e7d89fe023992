-- Port GUIDs: that of a LID, and those of a source's ports.
use Rattle.std.specs.Prelude.{ℕ, Bool, ◌==◌, nat_lt, List, ◌∷◌, map, filter, find, Option, option_map, unwrap_or}
use Rattle.std.specs.Option.{option_or, option_to_list}
use Rattle.fab_model.specs.declared.rows.TerminalRow.{TerminalRow}
use Rattle.fab_model.specs.InOrder.{in_order}
use Rattle.fab_model.specs.Topology.{Topology, guid_of, is_cabled_at}

-- the GUID of the switch or the terminal that has a LID
abbrev pub switch_guid : Topology → ℕ → Option ℕ
switch_guid t lid = option_map (λ row. row.guid) (find (λ row. row.lid.0 == lid) t.switches)

abbrev pub terminal_guid : Topology → ℕ → Option ℕ
terminal_guid t lid = option_map (λ row. row.port_guid) (find (λ row. row.lid.0 == lid) t.terminals)

-- the port GUID of a LID: the switch's GUID, or that of the terminal's port; 0 where none is known
abbrev pub port_guid : Topology → ℕ → ℕ
port_guid t lid = unwrap_or (option_or (switch_guid t lid) (terminal_guid t lid)) 0

-- the terminals of a switch, by port
abbrev pub by_port : TerminalRow → TerminalRow → Bool
by_port first second = nat_lt first.port second.port

abbrev pub terminals_at : Topology → ℕ → List TerminalRow
terminals_at t s = in_order by_port (filter (λ row. row.switch.0 == s) t.terminals)

abbrev pub terminal_guids : Topology → ℕ → List ℕ
terminal_guids t s = map (λ (row : TerminalRow). row.port_guid) (terminals_at t s)

-- the port GUIDs of a source: its own, and then those of its terminals
abbrev pub source_guids : Topology → ℕ → List ℕ
source_guids t s = guid_of t s ∷ terminal_guids t s

-- the terminal that is cabled to a port of a switch, if there is one, and its port GUID
abbrev pub cabled_at : Topology → ℕ → ℕ → List TerminalRow
cabled_at t s port = option_to_list (find (is_cabled_at s port) t.terminals)

abbrev pub guids_at : Topology → ℕ → ℕ → List ℕ
guids_at t s port = map (λ (row : TerminalRow). row.port_guid) (cabled_at t s port)

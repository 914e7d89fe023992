-- The texts of groups. Each ends with a line feed.
use Rattle.std.specs.Prelude.{ℕ, List, [], ◌++◌, flat_map, length, Option, None, Some, slice_get, ◌==◌, if◌then◌else◌, codes}
use Rattle.std.specs.List.{enumerate_from}
use Rattle.fab_model.specs.declared.rows.TerminalRow.{TerminalRow}
use Rattle.fab_model.specs.Topology.{Topology}
use Rattle.fab_dump.specs.Writing.{hex4, port3}
use Rattle.fab_mcast.specs.GroupList.{Group}
use Rattle.fab_mcast.specs.GroupTrees.{Planted, entries_at}
use Rattle.fab_top.specs.Texts.{guid_text}

-- ---- mcast

-- a port of an entry
abbrev pub port_word : ℕ → List ℕ
port_word port = codes " " ++ port3 port

-- the entry of a switch; a switch without ports has none
abbrev pub entry_text : Topology → ℕ → List ℕ → List ℕ
entry_text t s ports = if length ports == 0 then [] else guid_text t s ++ flat_map port_word ports ++ codes "\n"

abbrev pub entry_row : Topology → ℕ × List ℕ → List ℕ
entry_row t numbered = entry_text t numbered.0 numbered.1

-- a group by its number, and its entries by switch
abbrev pub group_text : Topology → ℕ → List (List ℕ) → List ℕ
group_text t number entries = codes "Group " ++ hex4 number ++ codes ":\n" ++ flat_map (entry_row t) (enumerate_from 0 entries)

abbrev pub group_row : Topology → List Planted → ℕ × Group → List ℕ
group_row t tables numbered = group_text t numbered.1.number (entries_at tables numbered.0)

-- groups in the order of their list, with their tables
abbrev pub groups_text : Topology → List Group → List Planted → List ℕ
groups_text t groups tables = codes "fabroute groups 1\n" ++ flat_map (group_row t tables) (enumerate_from 0 groups) ++ codes "end groups\n"

-- ---- spread

abbrev pub lid_text : ℕ → List ℕ
lid_text lid = hex4 lid ++ codes "\n"

-- the LIDs of terminals, by their numbers
abbrev pub lid_line : Option TerminalRow → List ℕ
lid_line None = []
lid_line (Some row) = lid_text row.lid.0

abbrev pub lid_row : Topology → ℕ → List ℕ
lid_row t n = lid_line (slice_get t.terminals n)

abbrev pub spread_text : Topology → List ℕ → List ℕ
spread_text t found = flat_map (lid_row t) found

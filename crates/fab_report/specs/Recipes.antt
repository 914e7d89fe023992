-- Recipes, and the fabric that each one stands for. A cable is given as the row of one of its two channels.
use Rattle.std.specs.Prelude.{ℕ, ◌+◌, ◌-◌, ◌*◌, ◌/◌, ◌%◌, Bool, ◌&&◌, nat_le, nat_lt, List, [], ◌∷◌, ◌++◌, length, map, flat_map, codes, decimal, if◌then◌else◌}
use Rattle.std.specs.List.{range_with_len, enumerate_from}
use Rattle.fab_model.specs.declared.rows.SwitchRow.{SwitchRow}
use Rattle.fab_model.specs.declared.rows.AdapterRow.{AdapterRow}
use Rattle.fab_model.specs.declared.rows.TerminalRow.{TerminalRow}
use Rattle.fab_model.specs.declared.rows.ChannelRow.{ChannelRow}
use Rattle.fab_model.specs.InOrder.{in_order}
use Rattle.fab_model.specs.Topology.{Topology, switch_id, lid_id, reversed}
use Rattle.fab_model.specs.Built.{by_tail}
use Rattle.fab_report.specs.declared.recipe.Kind.{Kind}
use Rattle.fab_report.specs.declared.recipe.Kind.TheVariants.{Ring, Torus, Tree, Random}
use Rattle.fab_report.specs.declared.recipe.Recipe.{Recipe}
use Rattle.fab_report.specs.Cabling.{cable, random_cables}

-- ---- which recipes fit

-- the number lies between the two
abbrev pub is_between : ℕ → ℕ → ℕ → Bool
is_between least greatest n = nat_le least n && nat_le n greatest

-- the greatest number of LIDs of a generated fabric
abbrev pub lid_limit : ℕ
lid_limit = 4096

-- the ranges of each kind; each switch and each terminal has a LID
abbrev pub fits_kind : Kind → ℕ → ℕ → Bool
fits_kind Ring a b = is_between 3 512 a && nat_le b 252 && nat_le (a + a * b) lid_limit
fits_kind Torus a b = nat_le 3 a && nat_le 3 b && nat_le (a * b) 512 && nat_le (2 * (a * b)) lid_limit
fits_kind Tree a b = is_between 1 254 a && is_between 1 127 b && nat_le (a + b) 512 && nat_le (a + b + a * b) lid_limit
fits_kind Random a b = is_between 1 512 a && nat_le b 4096 && nat_le (2 * a) lid_limit

abbrev pub fits : Recipe → Bool
fits recipe = fits_kind recipe.kind recipe.a recipe.b

-- ---- switches

abbrev pub switch_count : Kind → ℕ → ℕ → ℕ
switch_count Ring a b = a
switch_count Torus a b = a * b
switch_count Tree a b = a + b
switch_count Random a b = a

-- how many ports a switch has; of a tree, the leaf switches come first
abbrev pub port_count : Kind → ℕ → ℕ → ℕ → ℕ
port_count Ring a b s = 2 + b
port_count Torus a b s = 5
port_count Tree a b s = if nat_lt s a then 2 * b else a
port_count Random a b s = 254

abbrev pub switch_row : Recipe → ℕ → SwitchRow
switch_row r s = record { guid = 0x10000 + s; lid = lid_id (s + 1); ports = port_count r.kind r.a r.b s; desc = codes "switch " ++ decimal s }

abbrev pub all_switches : Recipe → List ℕ
all_switches r = range_with_len 0 (switch_count r.kind r.a r.b)

-- ---- terminals

-- the ports of a switch on which terminals are
abbrev pub terminal_ports : Kind → ℕ → ℕ → ℕ → List ℕ
terminal_ports Ring a b s = range_with_len 3 b
terminal_ports Torus a b s = 5 ∷ []
terminal_ports Tree a b s = if nat_lt s a then range_with_len (b + 1) b else []
terminal_ports Random a b s = 1 ∷ []

-- the terminals' places, by switch and port
abbrev pub terminal_places : Recipe → List (ℕ × ℕ)
terminal_places r = flat_map (λ s. map (λ port. (s, port)) (terminal_ports r.kind r.a r.b s)) (all_switches r)

-- a terminal of this number at a place, where there are so many switches. It is the one port of an adapter of the same number, and its LID comes after those of the switches.
abbrev pub terminal_at : ℕ → ℕ × (ℕ × ℕ) → TerminalRow
terminal_at switches numbered = record {
  lid = lid_id (switches + 1 + numbered.0);
  switch = switch_id numbered.1.0;
  port = numbered.1.1;
  adapter = numbered.0;
  adapter_port = 1;
  port_guid = 0x20000 + numbered.0;
}

abbrev pub terminal_row : Recipe → ℕ × (ℕ × ℕ) → TerminalRow
terminal_row r = terminal_at (switch_count r.kind r.a r.b)

abbrev pub adapter_row : ℕ → AdapterRow
adapter_row j = record { guid = 0x20000 + j; ports = 1; desc = codes "node " ++ decimal j }

-- ---- cables

-- a switch of a torus, by its column and its row
abbrev pub at_grid : ℕ → ℕ → ℕ → ℕ
at_grid a x y = y * a + x

abbrev pub torus_cables_of : ℕ → ℕ → ℕ → List ChannelRow
torus_cables_of a b s =
    let x = s % a in let y = s / a in
    cable s 1 (at_grid a ((x + 1) % a) y) 2 ∷ cable s 3 (at_grid a x ((y + 1) % b)) 4 ∷ []

-- the cables of a leaf switch of a tree
abbrev pub leaf_cables : ℕ → ℕ → ℕ → List ChannelRow
leaf_cables a b leaf = map (λ port. cable leaf port (a + port - 1) (leaf + 1)) (range_with_len 1 b)

abbrev pub cables : Kind → ℕ → ℕ → ℕ → List ChannelRow
cables Ring a b seed = map (λ s. cable s 1 ((s + 1) % a) 2) (range_with_len 0 a)
cables Torus a b seed = flat_map (torus_cables_of a b) (range_with_len 0 (a * b))
cables Tree a b seed = flat_map (leaf_cables a b) (range_with_len 0 a)
cables Random a b seed = random_cables a b seed

-- both channels of each cable, by switch and port
abbrev pub channels_of : List ChannelRow → List ChannelRow
channels_of rows = in_order by_tail (flat_map (λ row. row ∷ reversed row ∷ []) rows)

-- ---- the fabric

abbrev pub generated : Recipe → Topology
generated r = record {
  switches = map (switch_row r) (all_switches r);
  adapters = map adapter_row (range_with_len 0 (length (terminal_places r)));
  channels = channels_of (cables r.kind r.a r.b r.seed);
  terminals = map (terminal_row r) (enumerate_from 0 (terminal_places r));
}

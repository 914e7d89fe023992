-- The terminals of a fabric, found by adapter and port.
use Rattle.std.specs.Prelude.{◌≡◌, ℕ, Bool, ◌&&◌, List, find, nat_eq}
use Rattle.std.specs.HashMap.{HashMap, get}
use Rattle.fab_model.specs.declared.rows.TerminalRow.{TerminalRow}
use Rattle.fab_model.specs.Written.{is_on_adapter}

abbrev pub same_port : ℕ × ℕ → ℕ × ℕ → Bool
same_port first second = nat_eq first.0 second.0 && nat_eq first.1 second.1

-- the map finds the terminals of these rows
abbrev pub FindsAmong : {S : Type 0} → List TerminalRow → HashMap (ℕ × ℕ) TerminalRow S → Type 0
FindsAmong rows map = (adapter port : ℕ) → get same_port map (adapter, port) ≡ find (is_on_adapter adapter port) rows

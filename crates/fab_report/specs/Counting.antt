-- Counting loads LID by LID, and the terminals of each switch.
use Rattle.std.specs.Prelude.{◌≡◌, ℕ, ◌<◌, ◌==◌, List, length, count_by, slice_index}
use Rattle.fab_model.specs.Topology.{Topology}
use Rattle.fab_tables.specs.Entries.{Entries}
use Rattle.fab_tables.specs.Route.{route}
use Rattle.fab_report.specs.Loads.{is_loaded_by}

-- how many terminals a switch has
abbrev pub terminals_on : Topology → ℕ → ℕ
terminals_on t s = count_by (λ p. p.switch.0 == s) t.terminals

-- how many terminals have a delivered route to the LID that contains the channel
abbrev pub load_to : Topology → Entries → ℕ → ℕ → ℕ
load_to t e channel lid = count_by (λ p. is_loaded_by channel (route t e p.switch.0 lid)) t.terminals

-- so many counts, each by its number
pub record AreCounts (count : ℕ → ℕ) (n : ℕ) (counts : List ℕ) : Type 0 where
  pub whole : length counts ≡ n
  pub each : (k : ℕ) → k < n → slice_index counts k ≡ count k

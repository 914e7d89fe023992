-- Where the packets of the terminals start.
use Rattle.std.specs.Prelude.{◌≡◌, ℕ, ◌<◌, ◌≤◌, ◌⊎◌, List, [], Some, All, Contains, length, slice_index_or}
use Rattle.fab_model.specs.declared.rows.TerminalRow.{TerminalRow}
use Rattle.fab_model.specs.Topology.{Topology}
use Rattle.fab_model.specs.Connected.{IsConnectedTo}
use Rattle.fab_tables.specs.declared.starts.Start.{Start}
use Rattle.fab_tables.specs.Entries.{Entries}
use Rattle.fab_tables.specs.Fit.{LanesFit}
use Rattle.fab_tables.specs.LaneTables.{LaneTables, level}
use Rattle.fab_tables.specs.Reaching.{IsToward}

abbrev pub start_of : TerminalRow → Start
start_of row = record { switch = row.switch; port = row.port }

-- by switch and then by port, the one start comes before the other or is the same
abbrev pub StartsNotAfter : Start → Start → Type 0
StartsNotAfter a b = (a.switch.0 < b.switch.0) ⊎ ((a.switch.0 ≡ b.switch.0) × (a.port ≤ b.port))

abbrev pub IsInOrder : List Start → Type 0
IsInOrder starts = (i j : ℕ) (d : Start) → i ≤ j → j < length starts → StartsNotAfter (slice_index_or starts i d) (slice_index_or starts j d)

-- some terminal of the fabric starts there
abbrev pub IsOfTerminal : Topology → Start → Type 0
IsOfTerminal t start = (row : TerminalRow) × Contains t.terminals row × (start_of row ≡ start)

-- those of all terminals of a fabric in order, and no more: terminals have ports of their own, so each stands there once
pub record AreStarts (t : Topology) (starts : List Start) : Type 0 where
  pub in_order : IsInOrder starts
  pub as_many : length starts ≡ length t.terminals
  pub terminals : All (IsOfTerminal t) starts
  pub all : All (λ row. Contains starts (start_of row)) t.terminals

-- there is one at the same switch, at a port that isn't higher
abbrev pub HasFirst : List Start → Start → Type 0
HasFirst firsts start = (first : Start) × Contains firsts first × (first.switch.0 ≡ start.switch.0) × (first.port ≤ start.port)

-- of starts in order the first at each switch
pub record AreFirsts (starts firsts : List Start) : Type 0 where
  pub in_order : IsInOrder firsts
  pub among : All (λ first. Contains starts first) firsts
  pub stand : All (λ start. HasFirst firsts start) starts

pub record StartLists : Type 0 where
  pub all : List Start  -- those of all terminals
  pub firsts : List Start  -- the first of each source

pub record AreAllStarts (t : Topology) (lists : StartLists) : Type 0 where
  pub starts : AreStarts t lists.all
  pub firsts : AreFirsts lists.all lists.firsts

-- A start stands for the terminal: it is the terminal's own, or where no pair of ports has a map, one of its switch at a port that isn't higher.
pub record StandsFor (l : LaneTables) (start : Start) (row : TerminalRow) : Type 0 where
  pub switch : start.switch.0 ≡ row.switch.0
  pub port : start.port ≤ row.port
  pub alike : (start.port ≡ row.port) ⊎ (l.pairs ≡ [])

-- in order, and one for each terminal; packets of all terminals are like those that start there
pub record AreStartsFor (t : Topology) (l : LaneTables) (starts : List Start) : Type 0 where
  pub in_order : IsInOrder starts
  pub terminals : All (IsOfTerminal t) starts
  pub all : All (λ row. (start : Start) × Contains starts start × StandsFor l start row) t.terminals

-- packets to a LID start there, and have this level
pub record StartsAt (t : Topology) (e : Entries) (l : LaneTables) (lid : ℕ) (start : Start) (of_level : ℕ) : Type 0 where
  pub toward : IsToward t e lid
  pub lanes : LanesFit t l
  pub terminal : IsOfTerminal t start
  pub connected : IsConnectedTo t start.switch.0 lid
  pub has_level : level l start.switch.0 lid ≡ Some of_level

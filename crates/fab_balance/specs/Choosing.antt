-- Tables whose entries are chosen switch by switch.
use Rattle.std.specs.Prelude.{◌≡◌, ◌≢◌, ℕ}
use Rattle.fab_model.specs.Topology.{Topology}
use Rattle.fab_tables.specs.Entries.{Entries, entry}
use Rattle.fab_tables.specs.FixedEntries.{IsChosen}

-- at this switch all entries that an engine chooses meet the rule
abbrev pub AreChosenAt : Topology → Entries → (ℕ → ℕ → ℕ → ℕ → Type 0) → ℕ → Type 0
AreChosenAt t e Rule s = (lid to : ℕ) → IsChosen t s lid to → Rule s lid to (entry e s lid)

-- the entries of the other switches are as they were
abbrev pub KeepsOtherSwitches : ℕ → Entries → Entries → Type 0
KeepsOtherSwitches s old new = (other lid : ℕ) → other ≢ s → entry new other lid ≡ entry old other lid

-- The levels of a source in a row, one for each LID in use.
use Rattle.std.specs.Prelude.{ℕ, nat_eq, Bool, false, slice_index_or, List, [], ◌∷◌, map, Option, Some, if◌then◌else◌}
use Rattle.std.specs.List.{list_any}
use Rattle.std.specs.Option.{option_eq}
use Rattle.fab_model.specs.Topology.{Topology, lids_of}
use Rattle.fab_tables.specs.Entries.{Entries}
use Rattle.fab_tables.specs.LaneTables.{LaneTables}
use Rattle.fab_export.specs.LevelsInUse.{level_to}
use Rattle.fab_export.specs.PortGuids.{port_guid}
use Rattle.fab_export.specs.Policies.{PortGroup, class_level_name}

abbrev pub levels_of : Topology → Entries → LaneTables → ℕ → List (Option ℕ)
levels_of t e l s = map (level_to t e l s) (lids_of t)

abbrev pub is_level : ℕ → Option ℕ → Bool
is_level of_level found = option_eq nat_eq found (Some of_level)

-- the level stands in the row
abbrev pub row_has : List (Option ℕ) → ℕ → Bool
row_has row of_level = list_any (is_level of_level) row

-- the LIDs at which the row has the level
abbrev pub lids_with : ℕ → List (Option ℕ) → List ℕ → List ℕ
lids_with of_level [] lids = []
lids_with of_level (found ∷ row) [] = []
lids_with of_level (found ∷ row) (lid ∷ lids) = if is_level of_level found then lid ∷ lids_with of_level row lids else lids_with of_level row lids

-- the ports to which the sources of a class, given by its number and its levels, have a level
abbrev pub row_group : Topology → ℕ → List (Option ℕ) → ℕ → PortGroup
row_group t number row of_level = record { name = class_level_name number of_level; guids = map (port_guid t) (lids_with of_level row (lids_of t)) }

-- the level is set among the 16
abbrev pub is_set : List Bool → ℕ → Bool
is_set used of_level = slice_index_or used of_level false

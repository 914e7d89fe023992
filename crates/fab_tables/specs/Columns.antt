-- The LIDs in use as the columns of tables, with a place for each LID.
use Rattle.std.specs.Prelude.{◌≡◌, ℕ, ◌+◌, ◌^◌, ◌<◌, All, List, length, Option, Some, None, slice_index}
use Rattle.std.specs.List.Sorted.{IsStrictlyIncreasing}
use Rattle.fab_tables.specs.Entries.{index_of}

-- one more than a place, or 0 for none
abbrev pub place_code : Option ℕ → ℕ
place_code None = 0
place_code (Some i) = i + 1

-- what tables ask of the LIDs in use
pub record AreLids (lids : List ℕ) : Type 0 where
  pub ascending : IsStrictlyIncreasing lids
  pub fit : All (λ lid. lid < 2 ^ 16) lids
  pub few : length lids < 2 ^ 16

-- at each of all 65,536 LIDs its place
pub record HasPlaces (lids places : List ℕ) : Type 0 where
  pub whole : length places ≡ 65536
  pub each : (lid : ℕ) → lid < 65536 → slice_index places lid ≡ place_code (index_of lid lids)

-- what the type `Columns` keeps
pub record AreColumns (lids places : List ℕ) : Type 0 where
  pub lids_kept : AreLids lids
  pub places_kept : HasPlaces lids places

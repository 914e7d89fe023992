-- The virtual channels and levels that are found for a LID.
use Rattle.std.specs.Prelude.{◌≡◌, ℕ, ◌+◌, ◌*◌, ◌^◌, ◌<◌, ◌≤◌, ◌⊎◌, List, length, Bool, true, false, not, count_by, Contains, slice_get, slice_index_or}
use Rattle.fab_tables.specs.Entries.{cell}
use Rattle.fab_tables.specs.Dependencies.{node_of}
use Rattle.fab_transit.specs.declared.found.Taken.{Taken}
use Rattle.fab_transit.specs.MixedWalks.{bound as lane_bound}
use Rattle.fab_transit.specs.Changing.{Changing}

pub record Findings : Type 0 where
  pub channels : ℕ
  pub bound : ℕ  -- lanes are below it
  pub taken : List Taken

-- its numbers are within their ranges
pub record IsTakenIn (channels bound : ℕ) (x : Taken) : Type 0 where
  pub channel : x.hop.channel.0 < channels
  pub lane : x.hop.lane < bound
  pub level : x.level < 16

-- where its mark stands
abbrev pub mark_of : ℕ → Taken → ℕ
mark_of bound x = cell 16 (node_of bound x.hop) x.level

-- what is marked is found, and there are no more of these than marks
pub record AreFindings (channels bound : ℕ) (marks : List Bool) (taken : List Taken) : Type 0 where
  pub room : length marks ≡ channels * bound * 16
  pub small : channels * bound < 2 ^ 28
  pub marked : (x : Taken) → IsTakenIn channels bound x → slice_index_or marks (mark_of bound x) false ≡ true → Contains taken x
  pub counted : count_by not marks + length taken ≡ length marks

-- there is room for the virtual channels of a change
pub record AreRooms (g : Changing) (f : Findings) : Type 0 where
  pub channels : f.channels ≡ length g.fabric.channels
  pub bound : f.bound ≡ lane_bound g.change

-- nothing is taken away
pub record FindsMore (old new : Findings) : Type 0 where
  pub channels : new.channels ≡ old.channels
  pub bound : new.bound ≡ old.bound
  pub longer : length old.taken ≤ length new.taken
  pub kept : (k : ℕ) → k < length old.taken → slice_get new.taken k ≡ slice_get old.taken k
  pub has : (x : Taken) → Contains old.taken x → Contains new.taken x

-- one is there, and besides nothing new
pub record FindsOneMore (old : Findings) (x : Taken) (new : Findings) : Type 0 where
  pub more : FindsMore old new
  pub there : Contains new.taken x
  pub only : (y : Taken) → Contains new.taken y → Contains old.taken y ⊎ (y ≡ x)

-- The numbers of a certificate are set virtual channel by virtual channel.
use Rattle.std.specs.Prelude.{◌≡◌, ℕ, ◌<◌, ◌⊎◌, List, false, nat_lt, if◌then◌else◌, slice_index_or}
use Rattle.fab_tables.specs.declared.verdict.VirtualChannel.{VirtualChannel}
use Rattle.fab_tables.specs.LaneTables.{LaneTables, AreLaneTables}
use Rattle.fab_tables.specs.Dependencies.{node_of}
use Rattle.fab_tables.specs.Certified.{number_of}
use Rattle.fab_certify.specs.Collected.{Collected}

-- the level of a virtual channel that is used, and 0 for any other
abbrev pub number_given : ℕ → Collected → List ℕ → VirtualChannel → ℕ
number_given count c levels v =
    if nat_lt v.lane count then (if slice_index_or c.used (node_of count v) false then slice_index_or levels (node_of count v) 0 else 0) else 0

-- the virtual channels before this one are numbered
pub record IsNumbering (c : Collected) (levels : List ℕ) (old now : LaneTables) (channel lane : ℕ) : Type 0 where
  pub whole : AreLaneTables now
  pub same : now ≡ record old { numbers = now.numbers }
  pub numbers : (v : VirtualChannel) → (v.channel.0 < channel) ⊎ ((v.channel.0 ≡ channel) × (v.lane < lane)) → v.lane < 15 → number_of now v ≡ number_given old.count c levels v

-- all are
pub record HasNumbers (c : Collected) (levels : List ℕ) (old new : LaneTables) : Type 0 where
  pub whole : AreLaneTables new
  pub same : new ≡ record old { numbers = new.numbers }
  pub numbers : (v : VirtualChannel) → v.channel.0 < old.channels → v.lane < 15 → number_of new v ≡ number_given old.count c levels v

-- The engines' maps are set switch by switch, and level by level.
use Rattle.std.specs.Prelude.{◌≡◌, ℕ, ◌<◌, ◌==◌, nat_lt, if◌then◌else◌, [], None}
use Rattle.fab_model.specs.Topology.{Topology}
use Rattle.fab_tables.specs.declared.verdict.VirtualChannel.{VirtualChannel}
use Rattle.fab_tables.specs.Fit.{LanesFit}
use Rattle.fab_tables.specs.LaneTables.{LaneTables, lane_of_level, level, lane}
use Rattle.fab_tables.specs.Certified.{number_of}

-- the lane of a level, where the switches below one have their maps, and so has that one for the levels below this
abbrev pub lane_so_far : ℕ → ℕ → ℕ → ℕ → ℕ → ℕ
lane_so_far count switch below s of_level =
    if nat_lt s switch then lane_of_level count of_level else if s == switch then lane_of_level below of_level else 15

pub record IsMapping (t : Topology) (count : ℕ) (l : LaneTables) (switch below : ℕ) : Type 0 where
  pub fits : LanesFit t l
  pub lane_count : l.count ≡ count
  pub no_pair : l.pairs ≡ []
  pub no_level : (s lid : ℕ) → level l s lid ≡ None
  pub no_number : (v : VirtualChannel) → number_of l v ≡ 0
  pub general : (s of_level : ℕ) → s < l.switches → of_level < 16 → lane l s of_level ≡ lane_so_far count switch below s of_level

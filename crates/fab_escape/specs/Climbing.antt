-- The way up from a switch, and what lets it be climbed in few steps.
use Rattle.std.specs.Prelude.{◌≡◌, ℕ, zero, suc, ◌<◌, ◌≤◌, ◌-◌, List, length, All, Some, None, slice_index_or}
use Rattle.fab_escape.specs.declared.links.Link.{Link}
use Rattle.fab_escape.specs.Forest.{Forest, link_of}

-- so many links lead up from one switch to another
abbrev pub Climbs : Forest → ℕ → ℕ → ℕ → Type 0
Climbs f zero s x = s ≡ x
Climbs f (suc n) s x = (link : Link) × (link_of f s ≡ Some link) × Climbs f n link.parent x

abbrev pub depth_at : List ℕ → ℕ → ℕ
depth_at depths s = slice_index_or depths s 0

-- by switch, how many links lead up from it to its root
pub record AreDepths (f : Forest) (depths : List ℕ) : Type 0 where
  pub each : length depths ≡ length f.links
  pub small : (s : ℕ) → s < length f.links → depth_at depths s < length f.links
  pub roots : (s : ℕ) → s < length f.links → link_of f s ≡ None → depth_at depths s ≡ 0
  pub others : (s : ℕ) (link : Link) → s < length f.links → link_of f s ≡ Some link → (link.parent < length f.links) × (depth_at depths s ≡ suc (depth_at depths link.parent))

-- by switch, a switch above it on its way up; at a root any
pub record AreJumps (f : Forest) (jumps : List ℕ) : Type 0 where
  pub each : length jumps ≡ length f.links
  pub within : All (λ jump. jump < length f.links) jumps
  pub above : (s : ℕ) (link : Link) → s < length f.links → link_of f s ≡ Some link → (n : ℕ) × Climbs f (suc n) s (slice_index_or jumps s 0)

-- by depth, a lower number, and 0 for 0
abbrev pub AreLandings : List ℕ → Type 0
AreLandings landings = (depth : ℕ) → slice_index_or landings depth 0 ≤ depth - 1

-- Swaps that are tried one after the other, beside the dependencies in use when the search began.
use Rattle.std.specs.Prelude.{◌≡◌, ◌≢◌, ℕ, ◌<◌, List, length, Option}
use Rattle.fab_model.specs.Topology.{Topology}
use Rattle.fab_tables.specs.Route.{tip}
use Rattle.fab_depgraph.specs.Listed.{Dependencies, IsListed}
use Rattle.fab_nue.specs.Search.{tail, swapped, IsSettled, Passes, IsAllowed}
use Rattle.fab_nue.specs.Added.{AddsTree}

-- the channel leads from an unsettled switch to a settled one
abbrev pub Crosses : Topology → ℕ → List (Option ℕ) → ℕ → Type 0
Crosses t to tree c = (¬ IsSettled to tree (tail t c)) × IsSettled to tree (tip t c)

-- it leads to a settled switch whose way doesn't pass the other
abbrev pub LeadsPast : Topology → ℕ → List (Option ℕ) → ℕ → ℕ → Type 0
LeadsPast t to tree c other = IsSettled to tree (tip t c) × (¬ Passes t tree (tip t c) other)

-- the pair is allowed, if its swap closes no walk
pub record MayTurn (t : Topology) (to : ℕ) (tree : List (Option ℕ)) (added turned : ℕ) : Type 0 where
  pub channel : added < length t.channels
  pub other_channel : turned < length t.channels
  pub from : ¬ IsSettled to tree (tail t added)
  pub into : IsSettled to tree (tip t added)
  pub not_destination : tip t added ≢ to
  pub there : tail t turned ≡ tip t added
  pub further : IsSettled to tree (tip t turned)
  pub apart : ¬ Passes t tree (tip t turned) (tip t added)

-- An allowed pair was swapped, and the dependencies of the new tree were added to those in use.
pub record IsSwapped (t : Topology) (to : ℕ) (old new : List (Option ℕ)) (before now : Dependencies) (added turned : ℕ) : Type 0 where
  pub allowed : IsAllowed t (IsListed before.listed) to old added turned
  pub changed : new ≡ swapped t old added turned
  pub adds : AddsTree t new before now

-- A heap of choices, each a channel with a weight: its room, and the choices that stand in it, in no fixed order.
use Rattle.std.specs.Prelude.{◌≡◌, ℕ, ◌<◌, ◌≤◌, ◌⊎◌, List, ◌∷◌, map, length, All, IsPermutation}
use Rattle.std.specs.BinaryHeap.{IsHeap}
use Rattle.std.specs.Ordering.{nat_cmp, ordering_then}
use Rattle.std.specs.declared.cmp.Ordering.{Ordering}
use Rattle.std.specs.declared.cmp.Reverse.{Reverse}
use Rattle.fab_nue.specs.declared.choices.Choice.{Choice}

pub record Held : Type 0 where
  pub room : ℕ
  pub entries : List Choice

-- by (weight, channel), the first comes before the second or is equal
abbrev pub IsNotAfterChoice : Choice → Choice → Type 0
IsNotAfterChoice a b = (a.weight < b.weight) ⊎ ((a.weight ≡ b.weight) × (a.channel.0 ≤ b.channel.0))

-- the same choices and one more, each as often as before
pub record GainsChoice (old new : Held) (choice : Choice) : Type 0 where
  pub room : new.room ≡ old.room
  pub entries : IsPermutation new.entries (choice ∷ old.entries)

-- one entry of the least choice was taken out
pub record LosesLeast (old new : Held) (choice : Choice) : Type 0 where
  pub room : new.room ≡ old.room
  pub entries : IsPermutation old.entries (choice ∷ new.entries)
  pub least : All (λ other. IsNotAfterChoice choice other) old.entries

-- ---- within the type `Choices`

-- std's heap gives the greatest first, so it holds the choices reversed
abbrev pub choices_of : List (Reverse Choice) → List Choice
choices_of items = map (λ (item : Reverse Choice). item.0) items

-- the order of std's heap
abbrev pub least_last : Reverse Choice → Reverse Choice → Ordering
least_last x y = ordering_then (nat_cmp y.0.weight x.0.weight) (nat_cmp y.0.channel.0 x.0.channel.0)

-- what the type keeps: no more than its room, for which memory is there, in the order of a heap
pub record IsHeldIn (room capacity : ℕ) (items : List (Reverse Choice)) : Type 0 where
  pub within : length items ≤ room
  pub taken : room ≤ capacity
  pub ordered : IsHeap least_last items

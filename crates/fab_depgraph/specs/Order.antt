-- Channels in an order: each has a number, and each number has its channel.
use Rattle.std.specs.Prelude.{◌≡◌, ◌⊎◌, ℕ, ◌+◌, ◌<◌, ◌≤◌, Bool, true, false, if◌then◌else◌, List, length, slice_index, slice_index_or, All}

-- the number of each channel, and the channel of each number
pub record IsOrder (numbers channels : List ℕ) : Type 0 where
  pub each : length channels ≡ length numbers
  pub there : (n : ℕ) → n < length numbers → (slice_index channels n < length numbers) × (slice_index numbers (slice_index channels n) ≡ n)
  pub back : (c : ℕ) → c < length numbers → (slice_index numbers c < length numbers) × (slice_index channels (slice_index numbers c) ≡ c)

-- the numbers from 0 on, in some order
pub record AreNumbers (numbers : List ℕ) : Type 0 where
  pub below : All (λ n. n < length numbers) numbers
  pub differ : (c d : ℕ) → c < length numbers → d < length numbers → slice_index numbers c ≡ slice_index numbers d → c ≡ d

-- whether a channel was reached
abbrev pub is_reached : List Bool → ℕ → Bool
is_reached reached c = slice_index_or reached c false

abbrev pub is_unreached : List Bool → ℕ → Bool
is_unreached reached c = if is_reached reached c then false else true

abbrev pub IsBetween : ℕ → ℕ → ℕ → Type 0
IsBetween low high n = (low ≤ n) × (n ≤ high)

-- the channels with numbers from low to high have other numbers from low to high: those that were not reached come
-- first, then those that were, both in the order in which they were
pub record IsMovedBehind (old new : List ℕ) (low high : ℕ) (reached : List Bool) : Type 0 where
  pub each : length new ≡ length old
  pub outside : (c : ℕ) → c < length old → (slice_index old c < low) ⊎ (high < slice_index old c) → slice_index new c ≡ slice_index old c
  pub inside : (c : ℕ) → c < length old → IsBetween low high (slice_index old c) → IsBetween low high (slice_index new c)
  pub behind : (c d : ℕ) → c < length old → d < length old → IsBetween low high (slice_index old c) → IsBetween low high (slice_index old d) → is_reached reached c ≡ false → is_reached reached d ≡ true → slice_index new c < slice_index new d
  pub keeps : (c d : ℕ) → c < length old → d < length old → IsBetween low high (slice_index old c) → IsBetween low high (slice_index old d) → is_reached reached c ≡ is_reached reached d → slice_index old c < slice_index old d → slice_index new c < slice_index new d

-- these channels got numbers in their order, the first one this number, and no other channel got one
pub record AreNumberedFrom (first : ℕ) (channels old new : List ℕ) : Type 0 where
  pub each : length new ≡ length old
  pub there : (k : ℕ) → k < length channels → slice_index new (slice_index channels k) ≡ first + k
  pub others : (c : ℕ) → ((k : ℕ) → k < length channels → slice_index channels k ≡ c → ⊥) → slice_index new c ≡ slice_index old c

-- Numbers of nodes that say how near they are to the first one of a ring, kept while edges go.
use Rattle.std.specs.Prelude.{◌≡◌, ℕ, ◌+◌, ◌<◌, List}
use Rattle.fab_graph.specs.Walks.{Walk}
use Rattle.fab_rings.specs.Nearness.{near_of}

-- no closed walk through the node is shorter
abbrev pub HasNoShorter : (ℕ → ℕ → Type 0) → ℕ → ℕ → Type 0
HasNoShorter R first around = (n : ℕ) → 0 < n → n < around → ¬ Walk R n first first

-- each other node on a closed walk of this length has the count of edges that lead on from it
abbrev pub NumbersRings : (ℕ → ℕ → Type 0) → ℕ → ℕ → List ℕ → Type 0
NumbersRings R first around near = (a k m : ℕ) → 0 < k → 0 < m → k + m ≡ around → Walk R m first a → Walk R k a first → near_of near a ≡ k

-- No closed walk through the first node is shorter than its number says, and those of this length are numbered. Both stay so where edges go.
pub record AreKeptNear (R : ℕ → ℕ → Type 0) (first : ℕ) (near : List ℕ) : Type 0 where
  pub no_shorter : HasNoShorter R first (near_of near first)
  pub numbers : NumbersRings R first (near_of near first) near

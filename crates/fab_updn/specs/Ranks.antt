-- Roots, ranks and keys, and the channels that go up.
use Rattle.std.specs.Prelude.{◌≡◌, ℕ, ◌<◌, ◌⊎◌, List, length, Contains, slice_index}
use Rattle.fab_graph.specs.Least.{IsLeast}
use Rattle.fab_model.specs.declared.rows.ChannelRow.{ChannelRow}
use Rattle.fab_model.specs.Topology.{Topology}
use Rattle.fab_model.specs.Connected.{AreConnected}
use Rattle.fab_hops.specs.HopCounts.{IsHopCount}
use Rattle.fab_hops.specs.Centres.{IsCentre}

-- none of the named roots is in the component of s
abbrev pub NamesNone : Topology → List ℕ → ℕ → Type 0
NamesNone t named s = (root : ℕ) → Contains named root → ¬ AreConnected t s root

-- a root of the component of s: a named root in it, or where it has none its centre
abbrev pub IsRoot : Topology → List ℕ → ℕ → ℕ → Type 0
IsRoot t named s root = (Contains named root × AreConnected t s root) ⊎ (NamesNone t named s × IsCentre t s root)

-- the component of s has no second root
abbrev pub HasOneRoot : Topology → List ℕ → ℕ → Type 0
HasOneRoot t named s = (root other : ℕ) → IsRoot t named s root → IsRoot t named s other → root ≡ other

-- the hop count to a root of its component
abbrev pub IsAtRoot : Topology → List ℕ → ℕ → ℕ → Type 0
IsAtRoot t named s n = (root : ℕ) × IsRoot t named s root × IsHopCount t s root n

-- the rank of a switch is the least of these
abbrev pub IsRank : Topology → List ℕ → ℕ → ℕ → Type 0
IsRank t named s n = IsLeast (λ m. IsAtRoot t named s m) n

-- the ranks of all switches of a fabric, in their order
pub record AreRanks (t : Topology) (named ranks : List ℕ) : Type 0 where
  pub whole : length ranks ≡ length t.switches
  pub each : (s : ℕ) → s < length t.switches → IsRank t named s (slice_index ranks s)

-- the key (rank, index) of the first switch is smaller than that of the second
abbrev pub HasSmallerKey : List ℕ → ℕ → ℕ → Type 0
HasSmallerKey ranks first second = (slice_index ranks first < slice_index ranks second) ⊎ ((slice_index ranks first ≡ slice_index ranks second) × (first < second))

-- a channel goes up where it leads to a smaller key, otherwise down
abbrev pub GoesUp : List ℕ → ChannelRow → Type 0
GoesUp ranks row = HasSmallerKey ranks row.tip.0 row.tail.0

abbrev pub GoesDown : List ℕ → ChannelRow → Type 0
GoesDown ranks row = ¬ GoesUp ranks row

-- a channel from a switch goes up to the next one, or down to it
abbrev pub StepsUp : Topology → List ℕ → ℕ → ℕ → Type 0
StepsUp t ranks s next = (row : ChannelRow) × Contains t.channels row × (row.tail.0 ≡ s) × (row.tip.0 ≡ next) × GoesUp ranks row

abbrev pub StepsDown : Topology → List ℕ → ℕ → ℕ → Type 0
StepsDown t ranks s next = (row : ChannelRow) × Contains t.channels row × (row.tail.0 ≡ s) × (row.tip.0 ≡ next) × GoesDown ranks row

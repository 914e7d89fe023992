-- A ring is built step by step.
use Rattle.std.proofs.Common.{◌≡◌, ℕ, suc, ◌+◌, ◌<◌, ◌≤◌, List, [], ◌∷◌, ◌++◌, sym, ◌∙◌, ap, subst, refl, inl, inr, arith, append_assoc}
use Rattle.std.proofs.lemmas.Bool.{cases_lt}
use Rattle.std.proofs.lemmas.List.{get_or_past}
use Rattle.fab_graph.specs.Walks.{Walk, IsEdge, IsOnClosedWalk}
use Rattle.fab_graph.specs.Least.{IsLeast}
use Rattle.fab_graph.specs.Rings.{Returns, IsNearness, IsNearer, ReturnsByLeast, IsFirstRing}
use Rattle.fab_graph.proofs.Graphs
use Rattle.fab_rings.specs.EdgeList.{EdgeList, IsGraph}
use Rattle.fab_rings.specs.Neighbours.{successors_of}
use Rattle.fab_rings.specs.Nearness.{near_of, AreNear, StandsAtDistance, IsRingSoFar}
use Rattle.fab_rings.proofs.EdgesOf.{successor_edge, successor_there, ends_low}

module _ (g : EdgeList) (first : ℕ) (near : List ℕ) (are : AreNear g first near) where
  abbrev R : ℕ → ℕ → Type 0
  R = IsEdge g.edges

  pub near_low : (a : ℕ) → 0 < near_of near a → a < g.nodes
  near_low a has = elim (cases_lt a g.nodes) [ inl low ↦ low | inr past ↦ absurd (omega (arith, has, get_or_past {X = ℕ} near a 0 (omega (arith, are.each)))) ]

  -- a node from which a walk leads to the first has a number
  has_number : (a n : ℕ) → Returns R first a n → 0 < near_of near a
  has_number a n w = elim (cases_lt 0 (near_of near a)) [ inl has ↦ has | inr none ↦ absurd (are.others a n (omega arith) w) ]

  -- which is its nearness
  number_is : (a n : ℕ) → IsNearness R first a n → near_of near a ≡ n
  number_is a n nearest = Graphs.one_least (Returns R first a) (near_of near a) n (are.right a (has_number a n nearest.holds)) nearest

  pub ring_begins : 0 < near_of near first → IsRingSoFar g.edges first near (first ∷ []) first (near_of near first)
  ring_begins closed = record { at = refl; some = closed; front = []; is = refl; returns = λ rest r. r; begins = ([], refl) }

  module _ (node distance : ℕ) (at : near_of near node ≡ suc distance) (some : 0 < distance) where
    nearest_node : IsNearness R first node (suc distance)
    nearest_node = subst (λ n. IsNearness R first node n) at (are.right node (omega (arith, at)))

    -- a successor is one nearer
    pub some_nearer : (a : ℕ) × StandsAtDistance (successors_of g.edges node) near distance a
    some_nearer =
        let walk : (c : ℕ) × R node c × Walk R distance c first = nearest_node.holds.1 in
        let has : 0 < near_of near walk.0 = has_number walk.0 distance (some, walk.2) in
        let nearest : IsNearness R first walk.0 (near_of near walk.0) = are.right walk.0 has in (
          walk.0,
          (
            successor_there g.edges node walk.0 walk.1,
            omega (arith, nearest.least distance (some, walk.2), nearest_node.least (suc (near_of near walk.0)) (omega arith, (walk.0, walk.1, nearest.holds.1))),
          ),
        )

    least_nearer : (b : ℕ) → IsLeast (StandsAtDistance (successors_of g.edges node) near distance) b → IsLeast (IsNearer R first node distance) b
    least_nearer b x = record {
      holds = (successor_edge g.edges node b x.holds.0, subst (λ n. IsNearness R first b n) x.holds.1 (are.right b (omega (arith, x.holds.1, some))));
      least = λ m nearer. x.least m (successor_there g.edges node m nearer.0, number_is m distance nearer.1);
    }

    pub ring_goes_on : (ring : List ℕ) (b : ℕ) → IsRingSoFar g.edges first near ring node (suc distance) → IsLeast (StandsAtDistance (successors_of g.edges node) near distance) b → IsRingSoFar g.edges first near (ring ++ b ∷ []) b distance
    ring_goes_on ring b so_far x = record {
      at = x.holds.1;
      some = some;
      front = ring;
      is = refl;
      returns = λ rest r. subst (λ (ns : List ℕ). ReturnsByLeast R first ns) (joined rest) (so_far.returns (b ∷ rest) (distance, some, nearest_node, least_nearer b x, r));
      begins = (so_far.begins.0 ++ b ∷ [], ap (λ (ns : List ℕ). ns ++ b ∷ []) so_far.begins.1);
    }
      where
        joined : (rest : List ℕ) → so_far.front ++ node ∷ b ∷ rest ≡ ring ++ b ∷ rest
        joined rest = sym (append_assoc so_far.front (node ∷ []) (b ∷ rest)) ∙ ap (λ (ns : List ℕ). ns ++ b ∷ rest) (sym so_far.is)

  -- from a node of nearness 1 an edge leads back
  pub ring_ends : (ring : List ℕ) (node distance : ℕ) → IsRingSoFar g.edges first near ring node distance → distance ≤ 1 → (rest : List ℕ) × (ring ≡ first ∷ rest) × ReturnsByLeast R first (first ∷ rest)
  ring_ends ring node distance so_far low =
      let one : near_of near node ≡ 1 = omega (arith, so_far.at, so_far.some) in
      let last : IsNearness R first node 1 = subst (λ n. IsNearness R first node n) one (are.right node (omega (arith, one))) in
      let all : ReturnsByLeast R first (so_far.front ++ node ∷ []) = so_far.returns [] last in
      (so_far.begins.0, so_far.begins.1, subst (λ (ns : List ℕ). ReturnsByLeast R first ns) (sym so_far.is ∙ so_far.begins.1) all)

  -- a node on a closed walk has a number of its own
  pub near_itself : IsOnClosedWalk R first → 0 < near_of near first
  near_itself closed = has_number first (suc closed.0) (omega arith, closed.1)

-- the first ring, where no smaller node is on a closed walk
pub ring_is_first : (g : EdgeList) (first : ℕ) (ring : List ℕ) → IsOnClosedWalk (IsEdge g.edges) first → ((a : ℕ) → a < first → ¬ IsOnClosedWalk (IsEdge g.edges) a) →
    (rest : List ℕ) × (ring ≡ first ∷ rest) × ReturnsByLeast (IsEdge g.edges) first (first ∷ rest) → IsFirstRing (IsEdge g.edges) ring
ring_is_first g first ring closed none x =
    let is : IsFirstRing (IsEdge g.edges) (first ∷ x.0) = (record { holds = closed; least = not_before }, x.2) in
    subst (λ (ns : List ℕ). IsFirstRing (IsEdge g.edges) ns) (sym x.1) is
  where
    not_before : (a : ℕ) → IsOnClosedWalk (IsEdge g.edges) a → first ≤ a
    not_before a c = elim (cases_lt a first) [ inl less ↦ absurd (none a less c) | inr not ↦ not ]

pub one_more_off : (g : EdgeList) (node : ℕ) → ((a : ℕ) → a < node → ¬ IsOnClosedWalk (IsEdge g.edges) a) → ¬ IsOnClosedWalk (IsEdge g.edges) node →
    (a : ℕ) → a < node + 1 → ¬ IsOnClosedWalk (IsEdge g.edges) a
one_more_off g node below here a low closed = elim (cases_lt a node) [
  | inl less ↦ below a less closed
  | inr not ↦ (let same : a ≡ node = omega arith in here (subst (λ b. IsOnClosedWalk (IsEdge g.edges) b) same closed))
]

-- a closed walk goes through nodes alone
pub closed_low : (g : EdgeList) → IsGraph g → (a : ℕ) → IsOnClosedWalk (IsEdge g.edges) a → a < g.nodes
closed_low g kept a closed = (ends_low g kept a closed.1.0 closed.1.1).0

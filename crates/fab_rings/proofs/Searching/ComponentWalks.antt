-- A node is on a closed walk exactly where one of its successors is in its component.
use Rattle.std.proofs.Common.{◌≡◌, ◌≢◌, ℕ, zero, suc, ◌<◌, ◌≤◌, List, ◌∙◌, sym, ap, arith}
use Rattle.std.specs.Prelude.{Contains, slice_index_or}
use Rattle.std.proofs.lemmas.List.{get_or_read}
use Rattle.fab_graph.specs.Walks.{Walk, IsEdge, IsOnClosedWalk}
use Rattle.fab_rings.specs.EdgeList.{EdgeList, IsGraph}
use Rattle.fab_rings.specs.Neighbours.{successors_of}
use Rattle.fab_rings.specs.StrongComponents.{Comes, value_of, AreStrongComponents}
use Rattle.fab_rings.proofs.Times.{counts_there, stands_there}
use Rattle.fab_rings.proofs.EdgesOf.{successor_edge, successor_there, ends_low}

module _ (g : EdgeList) (kept : IsGraph g) (components : List ℕ) (are : AreStrongComponents g components) where
  abbrev R : ℕ → ℕ → Type 0
  R = IsEdge g.edges

  walk_falls : (n a b : ℕ) → Walk R n a b → value_of components b ≤ value_of components a
  walk_falls zero a b w = omega (arith, ap (value_of components) w)
  walk_falls (suc n) a b w = omega (arith, are.falls a w.0 w.1, walk_falls n w.0 b w.2)

  -- the successor on a closed walk is in the component
  pub goes_round : (a : ℕ) → IsOnClosedWalk R a → (b : ℕ) × R a b × (value_of components b ≡ value_of components a)
  goes_round a w = (w.1.0, w.1.1, omega (arith, are.falls a w.1.0 w.1.1, walk_falls w.0 w.1.0 a w.1.2))

  pub comes_round : (a b : ℕ) → R a b → value_of components b ≡ value_of components a → IsOnClosedWalk R a
  comes_round a b edge same =
      let back : Comes R b a = are.together b a (are.some b (ends_low g kept a b edge).1) same in
      (back.0, (b, edge, back.1))

  pub on_read : (a component : ℕ) → a < g.nodes → component ≡ slice_index_or components a component → component ≡ value_of components a
  on_read a component low read = get_or_read components a component (omega (arith, low, are.each)) read 0

  pub leads_on : (a component : ℕ) → component ≡ value_of components a → (b : ℕ) × Contains (successors_of g.edges a) b × (value_of components b ≡ component) → IsOnClosedWalk R a
  leads_on a component is x = comes_round a x.0 (successor_edge g.edges a x.0 (counts_there x.0 (successors_of g.edges a) x.1)) (x.2 ∙ is)

  pub leads_off : (a component : ℕ) → component ≡ value_of components a → ((b : ℕ) → Contains (successors_of g.edges a) b → value_of components b ≢ component) → ¬ IsOnClosedWalk R a
  leads_off a component is none closed =
      let on : (b : ℕ) × R a b × (value_of components b ≡ value_of components a) = goes_round a closed in
      none on.0 (stands_there on.0 (successors_of g.edges a) (successor_there g.edges a on.0 on.1)) (on.2 ∙ sym is)

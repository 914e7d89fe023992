-- Closed walks of the dependencies in a list.
use Rattle.std.proofs.Common.{◌≡◌, ◌⊎◌, ℕ, zero, suc, ◌+◌, List, [], ◌∷◌, ◌++◌, map, sym, ap, subst, inl, inr, arith}
use Rattle.std.proofs.lemmas.List.Elements.{Contains-append_cases}
use Rattle.fab_graph.specs.Walks.{Walk, IsAcyclic, HasClosedWalk, IsEdge, SameGraph}
use Rattle.fab_graph.specs.Rings.{IsFirstRing}
use Rattle.fab_graph.proofs.Decided.{Decided}
use Rattle.fab_graph.proofs.FirstRings.{ring_or_acyclic}
use Rattle.fab_graph.proofs.Members.{first_or_later}
use Rattle.fab_graph.proofs.Parts.{part_acyclic}
use Rattle.fab_graph.proofs.Same.{same_acyclic, same_closed}
use Rattle.fab_graph.proofs.Walks.{walk_through}
use Rattle.fab_depgraph.specs.declared.dep.Dep.{Dep}
use Rattle.fab_depgraph.specs.Listed.{dep_of, IsListed}
use Rattle.fab_depgraph.specs.Laws.{SubsetsAreAcyclic, ClosesByWalk, ClosesOrNot}
use Rattle.fab_depgraph.proofs.Listing.Kept.{closes}

pub subsets_are_acyclic : SubsetsAreAcyclic
subsets_are_acyclic all some part = part_acyclic (IsListed some) (IsListed all) (λ a b listed. part (dep_of a b) listed)

-- a walk along the dependencies of a list and one more: it goes without that one, or comes to it and goes on behind it
module _ (listed : List Dep) (d : Dep) where
  abbrev More : ℕ → ℕ → Type 0
  More = IsListed (listed ++ d ∷ [])

  abbrev Parted : ℕ → ℕ → Type 0
  Parted a b = ((n : ℕ) × Walk (IsListed listed) n a d.first.0) × ((n : ℕ) × Walk (IsListed listed) n d.second.0 b)

  which : (a b : ℕ) → More a b → IsListed listed a b ⊎ (d ≡ dep_of a b)
  which a b more = elim (Contains-append_cases listed (d ∷ []) (dep_of a b) more) [
    | inl old ↦ inl old
    | inr new ↦ elim (first_or_later d [] (dep_of a b) new) [
      | inl same ↦ inr same
      | inr none ↦ absurd (omega (arith, none.1))
    ]
  ]

  part : (n a b : ℕ) → Walk More n a b → Walk (IsListed listed) n a b ⊎ Parted a b
  part zero a b walk = inl walk
  part (suc n) a b (c, edge, rest) = elim (which a c edge) [
    | inl old ↦ elim (part n c b rest) [
      | inl without ↦ inl (c, old, without)
      | inr parted ↦ inr ((suc parted.0.0, (c, old, parted.0.1)), parted.1)
    ]
    | inr same ↦
        let from : d.first.0 ≡ a = ap (λ (e : Dep). e.first.0) same in
        let to : d.second.0 ≡ c = ap (λ (e : Dep). e.second.0) same in
        elim (part n c b rest) [
          | inl without ↦ inr ((0, sym from), (n, subst (λ x. Walk (IsListed listed) n x b) (sym to) without))
          | inr parted ↦ inr ((0, sym from), parted.1)
        ]
  ]

pub closes_by_walk : ClosesByWalk
closes_by_walk listed d acyclic = (
  λ closed. elim (part listed d (suc closed.1.0) closed.0 closed.0 closed.1.1) [
    | inl without ↦ absurd (acyclic closed.0 (closed.1.0, without))
    | inr parted ↦ (parted.1.0 + parted.0.0, walk_through (IsListed listed) parted.1.0 parted.0.0 d.second.0 closed.0 d.first.0 parted.1.1 parted.0.1)
  ],
  λ walk. closes listed d walk.0 walk.1,
)

abbrev edges_of : List Dep → List (ℕ × ℕ)
edges_of listed = map (λ (d : Dep). (d.first.0, d.second.0)) listed

edge_listed : (listed : List Dep) (a b : ℕ) → IsEdge (edges_of listed) a b → IsListed listed a b
edge_listed [] a b c = absurd (omega (arith, c.1))
edge_listed (d ∷ ds) a b (zero, h, is) = (0, omega arith, ap (λ (p : ℕ × ℕ). dep_of p.0 p.1) is)
edge_listed (d ∷ ds) a b (suc k, h, is) = let r : IsListed ds a b = edge_listed ds a b (k, omega (arith, h), is) in (suc r.0, omega (arith, r.1), r.2)

listed_edge : (listed : List Dep) (a b : ℕ) → IsListed listed a b → IsEdge (edges_of listed) a b
listed_edge [] a b c = absurd (omega (arith, c.1))
listed_edge (d ∷ ds) a b (zero, h, is) = (0, omega arith, ap (λ (e : Dep). (e.first.0, e.second.0)) is)
listed_edge (d ∷ ds) a b (suc k, h, is) = let r : IsEdge (edges_of ds) a b = listed_edge ds a b (k, omega (arith, h), is) in (suc r.0, omega (arith, r.1), r.2)

pub same_edges : (listed : List Dep) → SameGraph (IsEdge (edges_of listed)) (IsListed listed)
same_edges listed a b = (edge_listed listed a b, listed_edge listed a b)

closed_ring : (listed : List Dep) (ring : List ℕ) → IsFirstRing (IsEdge (edges_of listed)) ring → HasClosedWalk (IsListed listed)
closed_ring listed [] is = absurd is
closed_ring listed (node ∷ rest) is = (node, same_closed (IsEdge (edges_of listed)) (IsListed listed) (same_edges listed) node is.0.holds)

pub closes_or_not : ClosesOrNot
closes_or_not listed = elim (ring_or_acyclic (edges_of listed)) [
  | inl ring ↦ inl (closed_ring listed ring.0 ring.1)
  | inr none ↦ inr (same_acyclic (IsEdge (edges_of listed)) (IsListed listed) (same_edges listed) none)
]

pub acyclic_decided : (listed : List Dep) → Decided (IsAcyclic (IsListed listed))
acyclic_decided listed = elim (closes_or_not listed) [
  | inl closed ↦ inr (λ none. none closed.0 closed.1)
  | inr none ↦ inl none
]

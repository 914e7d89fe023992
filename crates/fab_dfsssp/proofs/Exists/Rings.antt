-- A lane has a first ring, or none; a ring has a weakest edge.
use Rattle.std.proofs.Common.{◌≡◌, ℕ, zero, suc, ◌+◌, ◌<◌, ◌⊎◌, inl, inr, List, [], ◌∷◌, length, refl, sym, subst, arith, Contains, Some}
use Rattle.std.specs.Prelude.{slice_get}
use Rattle.std.proofs.lemmas.Bool.{cases_lt}
use Rattle.fab_graph.specs.Walks.{IsEdge, SameGraph, IsAcyclic}
use Rattle.fab_graph.specs.Rings.{IsFirstRing}
use Rattle.fab_graph.proofs.Decided.{both, equal}
use Rattle.fab_graph.proofs.FirstRings.{ring_or_acyclic}
use Rattle.fab_graph.proofs.Same.{same_acyclic, same_first_ring}
use Rattle.fab_model.specs.declared.rows.TerminalRow.{TerminalRow}
use Rattle.fab_model.specs.Topology.{Topology, lids_of}
use Rattle.fab_model.specs.Connected.{IsConnectedTo}
use Rattle.fab_tables.specs.Entries.{Entries}
use Rattle.fab_tables.specs.Route.{route}
use Rattle.fab_tables.proofs.Joined.ConnectedDecided.{connected_to_decided}
use Rattle.fab_tables.proofs.Joined.Lids.{connected_in_use}
use Rattle.fab_tables.proofs.Verdicts.PlainLaws.{source_of, terminal_of}
use Rattle.fab_certify.proofs.Exists.Listed.{Listed, same_listed, where_listed, some_listed, FollowAs, follow_listed}
use Rattle.fab_dfsssp.specs.Assignments.{IsEdgeOfLane}
use Rattle.fab_dfsssp.specs.Breaking.{IsFirstLeast, ring_edges}
use Rattle.fab_dfsssp.proofs.Exists.Releveled.{element_at}
use Rattle.fab_dfsssp.proofs.PathCounts.{ring_edges-length}
use Rattle.fab_dfsssp.proofs.Weakest.{IsFirstLeastOf, first_least_one, first_least_smaller, first_least_stays, first_least_all}

-- ---- the edges of a lane are finitely many

module _ (t : Topology) (e : Entries) (lane_of : ℕ → ℕ → ℕ) (lane : ℕ) where
  abbrev OnPath : ℕ → ℕ → ℕ × ℕ → Type 0
  OnPath s lid x = (IsConnectedTo t s lid × (lane_of s lid ≡ lane)) × FollowAs (λ (c : ℕ). c) (route t e s lid).channels x

  abbrev FromTerminal : TerminalRow → ℕ × ℕ → Type 0
  FromTerminal p x = (lid : ℕ) × Contains (lids_of t) lid × OnPath p.switch.0 lid x

  abbrev IsOfLane : ℕ × ℕ → Type 0
  IsOfLane x = IsEdgeOfLane t e lane_of lane x.0 x.1

  path_listed : (s lid : ℕ) → Listed (OnPath s lid)
  path_listed s lid =
      where_listed (IsConnectedTo t s lid × (lane_of s lid ≡ lane)) (FollowAs (λ (c : ℕ). c) (route t e s lid).channels)
      (both (IsConnectedTo t s lid) (lane_of s lid ≡ lane) (connected_to_decided t s lid) (equal (lane_of s lid) lane)) (follow_listed (λ (c : ℕ). c) (route t e s lid).channels)

  terminals_listed : Listed (λ x. (p : TerminalRow) × Contains t.terminals p × FromTerminal p x)
  terminals_listed = some_listed FromTerminal (λ p. some_listed (λ lid. OnPath p.switch.0 lid) (λ lid. path_listed p.switch.0 lid) (lids_of t)) t.terminals

  of_terminal : (x : ℕ × ℕ) → (p : TerminalRow) × Contains t.terminals p × FromTerminal p x → IsOfLane x
  of_terminal x s =
      let f : FollowAs (λ (c : ℕ). c) (route t e s.0.switch.0 s.2.0).channels x = s.2.2.1 in (
        s.0.switch.0,
        s.2.0,
        source_of t.terminals s.0 s.1.0 s.1.1 s.1.2,
        s.2.2.0.0,
        s.2.2.0.1,
        (f.2.0, subst (λ c. slice_get (route t e s.0.switch.0 s.2.0).channels f.2.0 ≡ Some c) f.3 f.2.1, subst (λ c. slice_get (route t e s.0.switch.0 s.2.0).channels (suc f.2.0) ≡ Some c) f.4 f.2.2),
      )

  by_terminal : (x : ℕ × ℕ) → IsOfLane x → (p : TerminalRow) × Contains t.terminals p × FromTerminal p x
  by_terminal x s =
      let q : (p : TerminalRow) × Contains t.terminals p × (p.switch.0 ≡ s.0) = terminal_of t.terminals s.0 s.2 in
      (q.0, q.1, (s.1, connected_in_use t s.0 s.1 s.3, subst (λ n. OnPath n s.1 x) (sym q.2) ((s.3, s.4), (x.0, x.1, s.5, refl, refl))))

  edges_listed : Listed IsOfLane
  edges_listed = same_listed (λ x. (p : TerminalRow) × Contains t.terminals p × FromTerminal p x) IsOfLane of_terminal by_terminal terminals_listed

  same_edges : SameGraph (IsEdge edges_listed.list) (λ (c d : ℕ). IsEdgeOfLane t e lane_of lane c d)
  same_edges c d = (λ h. edges_listed.only (c, d) h, λ h. edges_listed.all (c, d) h)

  pub lane_ring_or_acyclic : ((ring : List ℕ) × IsFirstRing (λ c d. IsEdgeOfLane t e lane_of lane c d) ring) ⊎ IsAcyclic (λ (c d : ℕ). IsEdgeOfLane t e lane_of lane c d)
  lane_ring_or_acyclic = elim (ring_or_acyclic edges_listed.list) [
    | inl found ↦ inl (found.0, same_first_ring (IsEdge edges_listed.list) (λ c d. IsEdgeOfLane t e lane_of lane c d) same_edges found.0 found.1)
    | inr none ↦ inr (same_acyclic (IsEdge edges_listed.list) (λ (c d : ℕ). IsEdgeOfLane t e lane_of lane c d) same_edges none)
  ]

-- ---- a weakest edge

module _ {X : Type 0} (count : X → ℕ) (xs : List X) where
  least_of_first : (k : ℕ) → k < length xs → (x : X) × IsFirstLeastOf count xs (suc k) x
  least_of_first zero h = let x : (x : X) × (slice_get xs 0 ≡ Some x) = element_at xs 0 h in (x.0, first_least_one count xs x.0 x.1)
  least_of_first (suc k) h = go (least_of_first k (omega (arith, h))) (element_at xs (suc k) h)
    where
      next : suc k + 1 ≡ suc (suc k)
      next = omega arith

      go : (x : X) × IsFirstLeastOf count xs (suc k) x → (z : X) × (slice_get xs (suc k) ≡ Some z) → (x : X) × IsFirstLeastOf count xs (suc (suc k)) x
      go x z = elim (cases_lt (count z.0) (count x.0)) [
        | inl less ↦ (z.0, subst (λ n. IsFirstLeastOf count xs n z.0) next (first_least_smaller count xs (suc k) x.0 z.0 x.1 z.1 less))
        | inr no_less ↦ (x.0, subst (λ n. IsFirstLeastOf count xs n x.0) next (first_least_stays count xs (suc k) x.0 z.0 x.1 z.1 no_less))
      ]

  first_least_exists : (n : ℕ) → length xs ≡ suc n → (x : X) × IsFirstLeast count xs x
  first_least_exists n all =
      let x : (x : X) × IsFirstLeastOf count xs (suc n) x = least_of_first n (omega (arith, all)) in
      (x.0, first_least_all count xs x.0 (subst (λ k. IsFirstLeastOf count xs k x.0) (sym all) x.1))

pub weakest_exists : (R : ℕ → ℕ → Type 0) (count : ℕ × ℕ → ℕ) (ring : List ℕ) → IsFirstRing R ring → (edge : ℕ × ℕ) × IsFirstLeast count (ring_edges ring) edge
weakest_exists R count [] first = absurd first
weakest_exists R count (f ∷ rest) first = first_least_exists count (ring_edges (f ∷ rest)) (length rest) (ring_edges-length (f ∷ rest))

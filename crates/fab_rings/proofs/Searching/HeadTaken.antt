-- A search that has taken a head which is not looked at yet.
use Rattle.std.proofs.Common.{◌≡◌, ℕ, zero, suc, ◌<◌, ◌≤◌, [], ◌∷◌, ◌++◌, length, sym, subst, refl, inl, inr, ◌⊎◌, arith}
use Rattle.std.specs.Prelude.{Contains}
use Rattle.std.proofs.lemmas.Bool.{cases_lt}
use Rattle.fab_graph.specs.Walks.{Walk, IsEdge}
use Rattle.fab_rings.specs.declared.strong_components.Group.{Group}
use Rattle.fab_rings.specs.StrongComponents.{Comes, value_of}
use Rattle.fab_rings.specs.PathSearch.{PathSearched, HasAt, IsLookedAt, IsHeadFrom, IsPathSearch, HasTaken, with_head}
use Rattle.fab_rings.proofs.Searching.Places.{at_front, at_end, from_push, in_pushed, all_front}

-- walks one after the other
pub walks_on : (R : ℕ → ℕ → Type 0) (n a b c m : ℕ) → Walk R n a b → Walk R m b c → Comes R a c
walks_on R zero a b c m w v = (m, subst (λ (x : ℕ). Walk R m x c) (sym w) v)
walks_on R (suc n) a b c m w v = let rest : Comes R w.0 c = walks_on R n w.0 b c m w.2 v in (suc rest.0, (w.0, w.1, rest.1))

pub comes_on : (R : ℕ → ℕ → Type 0) (a b c : ℕ) → Comes R a b → Comes R b c → Comes R a c
comes_on R a b c x y = walks_on R x.0 a b c y.0 x.1 y.1

pub comes_by : (R : ℕ → ℕ → Type 0) (a b c : ℕ) → Comes R a b → R b c → Comes R a c
comes_by R a b c x edge = comes_on R a b c x (1, (c, edge, refl))

module _ (s : PathSearched) (head : ℕ) (has_taken : HasTaken s head) where
  abbrev before : IsPathSearch (with_head s head)
  before = has_taken.before

  pub looked_front : (p b : ℕ) → IsLookedAt (with_head s head) p b → IsLookedAt s p b ⊎ (head ≡ b)
  looked_front p b (inl closed) = inl (inl closed)
  looked_front p b (inr (inl x)) = inl (inr (inl x))
  looked_front p b (inr (inr x)) = elim (from_push s.heads head x.0 b x.1) [ inl front ↦ inl (inr (inr (x.0, front, x.2))) | inr back ↦ inr back.1 ]

  pub leaves_front : (b t : ℕ) (y : Group) → HasAt s.heads t b → Contains s.groups y → y.below ≤ t → IsHeadFrom s t b
  leaves_front b t y at has low = before.leaves b t y (at_front s.heads (head ∷ []) t b at) has low

  pub waiting_front : (a : ℕ) → a < s.graph.nodes → (0 < value_of s.places a) ⊎ Contains s.heads a ⊎ (head ≡ a)
  waiting_front a low = elim (before.waiting a low) [
    | inl placed ↦ inl placed
    | inr has ↦ elim (in_pushed s.heads head a has) [ inl front ↦ inr (inl front) | inr same ↦ inr (inr same) ]
  ]

  pub head_low : head < s.graph.nodes
  head_low = let at : HasAt (s.heads ++ head ∷ []) (length s.heads) head = at_end s.heads head in subst (λ (b : ℕ). b < s.graph.nodes) at.1 (before.heads_low (length s.heads) head at.0)

  -- an edge leads to the head from a node of the last group
  pub tail : (y : Group) → Contains s.groups y → (a : ℕ) × (p : ℕ) × HasAt s.opened p a × IsEdge s.graph.edges a head × ((x : Group) → Contains s.groups x → x.first ≤ p)
  tail y has =
      let from : IsHeadFrom (with_head s head) (length s.heads) head = before.leaves head (length s.heads) y (at_end s.heads head) has (has_taken.below y has) in
      (from.0, from.1, from.2, from.3, λ x within. (from.4 x within).0 (has_taken.below x within))

  -- so it comes from each open node
  pub comes_to_head : (a p : ℕ) → HasAt s.opened p a → Comes (IsEdge s.graph.edges) a head
  comes_to_head a p at =
      let x : (x : Group) × Contains s.groups x × (x.first ≤ p) = before.grouped p at.0 in
      let end : (a : ℕ) × (p : ℕ) × HasAt s.opened p a × IsEdge s.graph.edges a head × ((x : Group) → Contains s.groups x → x.first ≤ p) = tail x.0 x.1 in
      comes_by (IsEdge s.graph.edges) a end.0 head (before.reaches a end.0 p end.1 at end.2 (λ z has h. end.4 z has)) end.3

  -- the head of an edge to a closed node is done with
  pub skipped : 0 < value_of s.components head → IsPathSearch s
  skipped closed = record {
    graph = before.graph;
    each_place = before.each_place;
    each_component = before.each_component;
    heads_low = all_front (λ (b : ℕ). b < s.graph.nodes) s.heads (head ∷ []) before.heads_low;
    placed = before.placed;
    is_open = before.is_open;
    is_new = before.is_new;
    low = before.low;
    few = before.few;
    reaches = before.reaches;
    looked = λ a b p at edge. elim (looked_front p b (before.looked a b p at edge)) [ inl looked ↦ looked | inr same ↦ inl (subst (λ (x : ℕ). 0 < value_of s.components x) same closed) ];
    leaves = leaves_front;
    falls = before.falls;
    together = before.together;
    grouped = before.grouped;
    ordered = before.ordered;
    within = λ x has. ((before.within x has).0, has_taken.below x has);
    waiting = waiting;
  }
    where
      placed_head : 0 < value_of s.places head
      placed_head = elim (cases_lt 0 (value_of s.places head)) [ inl some ↦ some | inr none ↦ absurd (omega (arith, closed, before.is_new head (omega (arith, none)))) ]

      waiting : (a : ℕ) → a < s.graph.nodes → (0 < value_of s.places a) ⊎ Contains s.heads a
      waiting a low = elim (waiting_front a low) [
        | inl placed ↦ inl placed
        | inr x ↦ elim x [ inl has ↦ inr has | inr same ↦ inl (subst (λ (b : ℕ). 0 < value_of s.places b) same placed_head) ]
      ]

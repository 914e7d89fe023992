-- An edge leads to an open node: the groups from there on are one.
use Rattle.std.proofs.Common.{◌≡◌, ◌≢◌, ℕ, ◌-◌, ◌<◌, ◌≤◌, List, [], ◌∷◌, ◌++◌, length, ◌∙◌, sym, ap, subst, inl, inr, ◌⊎◌, arith, Option, Some, append_assoc}
use Rattle.std.specs.Prelude.{Contains}
use Rattle.std.specs.Option.{option_to_list}
use Rattle.std.proofs.lemmas.Bool.{cases_lt}
use Rattle.std.proofs.lemmas.List.{length-append}
use Rattle.fab_graph.specs.Walks.{IsEdge}
use Rattle.fab_rings.specs.declared.strong_components.Group.{Group}
use Rattle.fab_rings.specs.StrongComponents.{Comes, value_of}
use Rattle.fab_rings.specs.PathSearch.{PathSearched, HasAt, IsNoEarlier, IsLookedAt, IsPathSearch, HasTaken, IsLast, AreJoined, with_head}
use Rattle.fab_rings.proofs.Searching.Places.{at_front, at_end, in_front, in_either, only_one, some_last, all_front}
use Rattle.fab_rings.proofs.Searching.HeadTaken.{comes_on, looked_front, leaves_front, waiting_front, comes_to_head}

module _ (s : PathSearched) (head : ℕ) (has_taken : HasTaken s head) (q : ℕ) (at_q : HasAt s.opened q head) (new : List Group) (joins : AreJoined s.groups new q) where
  abbrev before : IsPathSearch (with_head s head)
  before = has_taken.before

  at_old : (i : ℕ) (x : Group) → HasAt new i x → HasAt s.groups i x
  at_old i x at = subst (λ (gs : List Group). HasAt gs i x) (sym joins.is) (at_front new joins.rest i x at)

  in_old : (x : Group) → Contains new x → Contains s.groups x
  in_old x has = subst (λ (gs : List Group). Contains gs x) (sym joins.is) (in_front new joins.rest x has)

  in_new_or_later : (x : Group) → Contains s.groups x → Contains new x ⊎ (q < x.first)
  in_new_or_later x has = elim (in_either new joins.rest x (subst (λ (gs : List Group). Contains gs x) joins.is has)) [ inl front ↦ inl front | inr back ↦ inr (joins.later x back) ]

  in_new : (x : Group) → Contains s.groups x → x.first ≤ q → Contains new x
  in_new x has low = elim (in_new_or_later x has) [ inl front ↦ front | inr later ↦ absurd (omega (arith, low, later)) ]

  begins_low : (x : Group) → Contains new x → x.first ≤ q
  begins_low x has =
      let last : (y : Group) × IsLast new y = some_last new (omega (arith, has.1)) in
      let at_last : HasAt new (length last.1.0) last.0 = subst (λ (gs : List Group). HasAt gs (length last.1.0) last.0) (sym last.1.1) (at_end last.1.0 last.0) in
      let low : has.0 ≤ length last.1.0 = omega (arith, has.1, ap (λ (gs : List Group). length gs) last.1.1, length-append last.1.0 (last.0 ∷ [])) in
      omega (arith, (before.ordered has.0 (length last.1.0) x last.0 (at_old has.0 x (has.1, has.2)) (at_old (length last.1.0) last.0 at_last) low).0, joins.last last.0 last.1)

  reaches : (a b p r : ℕ) → HasAt s.opened p a → HasAt s.opened r b → IsNoEarlier new p r → Comes (IsEdge s.graph.edges) a b
  reaches a b p r at_p at_r not_earlier = elim (cases_lt q p) [
    | inl past ↦ comes_on (IsEdge s.graph.edges) a head b (comes_to_head s head has_taken a p at_p)
        (before.reaches head b q r at_q at_r (λ x has h. not_earlier x (in_new x has h) (omega (arith, h, past))))
    | inr low ↦ before.reaches a b p r at_p at_r (λ x has h. not_earlier x (in_new x has (omega (arith, h, low))) h)
  ]

  looked : (a b p : ℕ) → IsLookedAt s p b ⊎ (head ≡ b) → IsLookedAt (record s { groups = new }) p b
  looked a b p (inl (inl closed)) = inl closed
  looked a b p (inl (inr (inl x))) = inr (inl (x.0, x.1, λ z has. x.2 z (in_old z has)))
  looked a b p (inl (inr (inr x))) = inr (inr (x.0, x.1, λ z has. x.2 z (in_old z has)))
  looked a b p (inr same) = inr (inl (q, subst (λ (x : ℕ). HasAt s.opened q x) same at_q, λ z has h. begins_low z has))

  grouped : (p : ℕ) → p < length s.opened → (x : Group) × Contains new x × (x.first ≤ p)
  grouped p low =
      let x : (x : Group) × Contains s.groups x × (x.first ≤ p) = before.grouped p low in
      let y : (x : Group) × Contains s.groups x × (x.first ≤ q) = before.grouped q at_q.0 in
      elim (in_new_or_later x.0 x.1) [
        | inl front ↦ (x.0, front, x.2)
        | inr later ↦ (y.0, in_new y.0 y.1 y.2, omega (arith, later, x.2, y.2))
      ]

  waiting : (a : ℕ) → a < s.graph.nodes → (0 < value_of s.places a) ⊎ Contains s.heads a
  waiting a low = elim (waiting_front s head has_taken a low) [
    | inl placed ↦ inl placed
    | inr x ↦ elim x [ inl has ↦ inr has | inr same ↦ inl (subst (λ (b : ℕ). 0 < value_of s.places b) same (omega (arith, (before.placed head q at_q).0))) ]
  ]

  pub joined : IsPathSearch (record s { groups = new })
  joined = record {
    graph = before.graph;
    each_place = before.each_place;
    each_component = before.each_component;
    heads_low = all_front (λ (b : ℕ). b < s.graph.nodes) s.heads (head ∷ []) before.heads_low;
    placed = before.placed;
    is_open = before.is_open;
    is_new = before.is_new;
    low = before.low;
    few = omega (arith, before.few, ap (λ (gs : List Group). length gs) joins.is, length-append new joins.rest);
    reaches = reaches;
    looked = λ a b p at edge. looked a b p (looked_front s head has_taken p b (before.looked a b p at edge));
    leaves = λ b t y at has low. let from = leaves_front s head has_taken b t y at (in_old y has) low in (from.0, from.1, from.2, from.3, λ x within. from.4 x (in_old x within));
    falls = before.falls;
    together = before.together;
    grouped = grouped;
    ordered = λ i j x y at also. before.ordered i j x y (at_old i x at) (at_old j y also);
    within = λ x has. ((before.within x (in_old x has)).0, has_taken.below x (in_old x has));
    waiting = waiting;
  }

-- where the place of the head is known
pub joined_at : (s : PathSearched) (head : ℕ) → HasTaken s head → (place : ℕ) → value_of s.places head ≡ place → place ≢ 0 → value_of s.components head ≡ 0 → (new : List Group) → AreJoined s.groups new (place - 1) → IsPathSearch (record s { groups = new })
joined_at s head has_taken place is some not new joins =
    let open_at : (p : ℕ) × HasAt s.opened p head = has_taken.before.is_open head (omega (arith, is, some)) not in
    let same : open_at.0 ≡ place - 1 = omega (arith, (has_taken.before.placed head open_at.0 open_at.1).0, is) in
    joined s head has_taken (place - 1) (subst (λ (p : ℕ). HasAt s.opened p head) same open_at.1) new joins

-- one more group is gone
pub one_more_gone : (initial groups new rest : List Group) (r : Option Group) (last : Group) (place : ℕ) → r ≡ Some last → groups ≡ new ++ option_to_list r → place < last.first → initial ≡ groups ++ rest → ((x : Group) → Contains rest x → place < x.first) →
    (rest : List Group) × (initial ≡ new ++ rest) × ((x : Group) → Contains rest x → place < x.first)
one_more_gone initial groups new rest r last place r_is popped low is later =
    (last ∷ rest, is ∙ ap (λ (gs : List Group). gs ++ rest) (popped ∙ ap (λ o. new ++ option_to_list o) r_is) ∙ append_assoc new (last ∷ []) rest, all_later)
  where
    all_later : (x : Group) → Contains (last ∷ rest) x → place < x.first
    all_later x has = elim (in_either (last ∷ []) rest x has) [
      | inl front ↦ subst (λ (g : Group). place < g.first) (only_one last x front.0 (front.1, front.2)).1 low
      | inr back ↦ later x back
    ]

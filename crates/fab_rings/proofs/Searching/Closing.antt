-- All edges that leave the last group were looked at: its nodes are a component.
use Rattle.std.proofs.Common.{◌≡◌, ℕ, ◌+◌, ◌<◌, ◌≤◌, List, [], ◌∷◌, ◌++◌, length, drop, ◌∙◌, sym, ap, subst, inl, inr, ◌⊎◌, arith}
use Rattle.std.specs.Prelude.{All, Contains, slice_index_or}
use Rattle.std.proofs.lemmas.Bool.{cases_lt}
use Rattle.std.proofs.lemmas.List.{length-take, length_push, get_or_default, get_or_past}
use Rattle.std.proofs.lemmas.List.Elements.{All-drop}
use Rattle.fab_graph.specs.Walks.{IsEdge}
use Rattle.fab_rings.specs.declared.strong_components.Group.{Group}
use Rattle.fab_rings.specs.StrongComponents.{Comes, value_of}
use Rattle.fab_rings.specs.PathSearch.{PathSearched, HasAt, IsNoEarlier, IsLookedAt, IsHeadFrom, IsPathSearch, AreNumbered, with_closed}
use Rattle.fab_rings.proofs.Searching.Places.{at_front, at_end, in_front, in_pushed, end_there, from_taken, taken, from_dropped, dropped}

module _ (s : PathSearched) (before : IsPathSearch s) (front : List Group) (y : Group) (is : s.groups ≡ front ++ y ∷ []) (done : y.below ≡ length s.heads) (new : List ℕ)
    (numbered : AreNumbered (drop y.first s.opened) (s.closed + 1) s.components new) where
  abbrev after : PathSearched
  after = with_closed s front y new

  abbrev R : ℕ → ℕ → Type 0
  R = IsEdge s.graph.edges

  at_old : (i : ℕ) (x : Group) → HasAt front i x → HasAt s.groups i x
  at_old i x at = subst (λ (gs : List Group). HasAt gs i x) (sym is) (at_front front (y ∷ []) i x at)

  in_old : (x : Group) → Contains front x → Contains s.groups x
  in_old x has = subst (λ (gs : List Group). Contains gs x) (sym is) (in_front front (y ∷ []) x has)

  old_or_last : (x : Group) → Contains s.groups x → Contains front x ⊎ (y ≡ x)
  old_or_last x has = in_pushed front y x (subst (λ (gs : List Group). Contains gs x) is has)

  has_last : Contains s.groups y
  has_last = subst (λ (gs : List Group). Contains gs y) (sym is) (end_there front y)

  at_last : HasAt s.groups (length front) y
  at_last = subst (λ (gs : List Group). HasAt gs (length front) y) (sym is) (at_end front y)

  count : length s.groups ≡ length front + 1
  count = ap (λ (gs : List Group). length gs) is ∙ length_push front y

  begins_low : (x : Group) → Contains s.groups x → x.first ≤ y.first
  begins_low x has = (before.ordered has.0 (length front) x y (has.1, has.2) at_last (omega (arith, has.1, count))).0

  -- one that begins at or before an earlier place is another than the last
  is_front : (x : Group) (p : ℕ) → p < y.first → Contains s.groups x → x.first ≤ p → Contains front x
  is_front x p low has begins = elim (old_or_last x has) [ inl old ↦ old | inr same ↦ absurd (omega (arith, ap (λ (g : Group). g.first) same, low, begins)) ]

  abbrev IsInner : ℕ → Type 0
  IsInner a = (p : ℕ) × (y.first ≤ p) × HasAt s.opened p a

  given : (a : ℕ) → IsInner a → value_of new a ≡ s.closed + 1
  given a x = numbered.given a (dropped y.first s.opened x.0 a x.1 x.2)

  others : (a : ℕ) → (value_of new a ≡ value_of s.components a) ⊎ IsInner a
  others a = elim (numbered.others a) [ inl same ↦ inl same | inr has ↦ inr (from_dropped y.first s.opened a has) ]

  kept : (a : ℕ) → 0 < value_of s.components a → value_of new a ≡ value_of s.components a
  kept a closed = elim (others a) [ inl same ↦ same | inr x ↦ absurd (omega (arith, closed, (before.placed a x.0 x.2).1)) ]

  still_open : (a p : ℕ) → p < y.first → HasAt s.opened p a → value_of new a ≡ 0
  still_open a p low at = elim (others a) [
    | inl same ↦ same ∙ (before.placed a p at).1
    | inr x ↦ absurd (omega (arith, (before.placed a p at).0, (before.placed a x.0 x.2).0, low, x.1))
  ]

  placed : (a p : ℕ) → HasAt after.opened p a → (value_of s.places a ≡ p + 1) × (value_of new a ≡ 0)
  placed a p at = let was : (p < y.first) × HasAt s.opened p a = from_taken y.first s.opened p a at in ((before.placed a p was.1).0, still_open a p was.0 was.1)

  is_open : (a : ℕ) → 0 < value_of s.places a → value_of new a ≡ 0 → (p : ℕ) × HasAt after.opened p a
  is_open a has not = elim (others a) [
    | inl same ↦
        (let was : (p : ℕ) × HasAt s.opened p a = before.is_open a has (sym same ∙ not) in
        elim (cases_lt was.0 y.first) [ inl low ↦ (was.0, taken y.first s.opened was.0 a low was.1) | inr past ↦ absurd (omega (arith, given a (was.0, past, was.1), not)) ])
    | inr x ↦ absurd (omega (arith, given a x, not))
  ]

  is_new : (a : ℕ) → value_of s.places a ≡ 0 → value_of new a ≡ 0
  is_new a none = elim (others a) [ inl same ↦ same ∙ before.is_new a none | inr x ↦ absurd (omega (arith, (before.placed a x.0 x.2).0, none)) ]

  low : (a : ℕ) → value_of new a ≤ s.closed + 1
  low a = elim (others a) [ inl same ↦ omega (arith, same, before.low a) | inr x ↦ omega (arith, given a x) ]

  reaches : (a b p q : ℕ) → HasAt after.opened p a → HasAt after.opened q b → IsNoEarlier front p q → Comes R a b
  reaches a b p q at_p at_q not_earlier =
      let was : (p < y.first) × HasAt s.opened p a = from_taken y.first s.opened p a at_p in
      before.reaches a b p q was.1 (from_taken y.first s.opened q b at_q).1 (λ x has h. not_earlier x (is_front x p was.0 has h) h)

  looked_before : (b p : ℕ) → IsLookedAt s p b → IsLookedAt after p b
  looked_before b p (inl closed) = inl (omega (arith, closed, kept b closed))
  looked_before b p (inr (inl x)) = elim (cases_lt x.0 y.first) [
    | inl low ↦ inr (inl (x.0, taken y.first s.opened x.0 b low x.1, λ z has. x.2 z (in_old z has)))
    | inr past ↦ inl (omega (arith, given b (x.0, past, x.1)))
  ]
  looked_before b p (inr (inr x)) = inr (inr (x.0, x.1, λ z has. x.2 z (in_old z has)))

  leaves : (b t : ℕ) (z : Group) → HasAt s.heads t b → Contains front z → z.below ≤ t → IsHeadFrom after t b
  leaves b t z at has below =
      let from : IsHeadFrom s t b = before.leaves b t z at (in_old z has) below in
      elim (cases_lt from.1 y.first) [
        | inl low ↦ (from.0, from.1, taken y.first s.opened from.1 from.0 low from.2, from.3, λ x within. from.4 x (in_old x within))
        | inr past ↦ absurd (omega (arith, (from.4 y has_last).1 past, done, at.0))
      ]

  -- an edge from the group leads into it or to a closed node
  leads_in : (b p : ℕ) → y.first ≤ p → IsLookedAt s p b → (0 < value_of s.components b) ⊎ IsInner b
  leads_in b p past (inl closed) = inl closed
  leads_in b p past (inr (inl x)) = inr (x.0, x.2 y has_last past, x.1)
  leads_in b p past (inr (inr x)) = absurd (omega (arith, x.2 y has_last past, done, x.1.0))

  falls : (a b : ℕ) → 0 < value_of new a → R a b → (0 < value_of new b) × (value_of new b ≤ value_of new a)
  falls a b closed edge = elim (others a) [
    | inl same ↦
        (let was : (0 < value_of s.components b) × (value_of s.components b ≤ value_of s.components a) = before.falls a b (omega (arith, closed, same)) edge in
        (omega (arith, was.0, kept b was.0), omega (arith, was.1, kept b was.0, same)))
    | inr x ↦ elim (leads_in b x.0 x.1 (before.looked a b x.0 x.2 edge)) [
      | inl was ↦ (omega (arith, was, kept b was), omega (arith, given a x, low b))
      | inr inner ↦ (omega (arith, given b inner), omega (arith, given a x, low b))
    ]
  ]

  together : (a b : ℕ) → 0 < value_of new a → value_of new a ≡ value_of new b → Comes R a b
  together a b closed same = elim (others a) [
    | inl at_a ↦ elim (others b) [
      | inl at_b ↦ before.together a b (omega (arith, closed, at_a)) (sym at_a ∙ same ∙ at_b)
      | inr x ↦ absurd (omega (arith, given b x, same, at_a, before.low a))
    ]
    | inr x ↦ elim (others b) [
      | inl at_b ↦ absurd (omega (arith, given a x, same, at_b, before.low b))
      | inr z ↦ before.reaches a b x.0 z.0 x.2 z.2 (λ w has h. omega (arith, begins_low w has, z.1))
    ]
  ]

  short : length after.opened ≡ y.first
  short = omega (arith, length-take y.first s.opened, (before.within y has_last).0)

  grouped : (p : ℕ) → p < length after.opened → (x : Group) × Contains front x × (x.first ≤ p)
  grouped p within =
      let x : (x : Group) × Contains s.groups x × (x.first ≤ p) = before.grouped p (omega (arith, within, short, (before.within y has_last).0)) in
      (x.0, is_front x.0 p (omega (arith, within, short)) x.1 x.2, x.2)

  pub closed : IsPathSearch after
  closed = record {
    graph = before.graph;
    each_place = before.each_place;
    each_component = numbered.each ∙ before.each_component;
    heads_low = before.heads_low;
    placed = placed;
    is_open = is_open;
    is_new = is_new;
    low = low;
    few = omega (arith, before.few, count);
    reaches = reaches;
    looked = λ a b p at edge. looked_before b p (before.looked a b p (from_taken y.first s.opened p a at).1 edge);
    leaves = leaves;
    falls = falls;
    together = together;
    grouped = grouped;
    ordered = λ i j x z at also. before.ordered i j x z (at_old i x at) (at_old j z also);
    within = λ x has. (omega (arith, begins_low x (in_old x has), short), (before.within x (in_old x has)).1);
    waiting = before.waiting;
  }

-- open nodes are nodes
pub opened_low : (s : PathSearched) → IsPathSearch s → (n : ℕ) → All (λ (a : ℕ). a < length s.components) (drop n s.opened)
opened_low s searched n = All-drop (λ (a : ℕ). a < length s.components) n s.opened all_low
  where
    all_low : All (λ (a : ℕ). a < length s.components) s.opened
    all_low = λ k d within.
        let a = slice_index_or s.opened k d in
        let place : value_of s.places a ≡ k + 1 = (searched.placed a k (within, get_or_default s.opened k a d within)).0 in
        elim (cases_lt a (length s.places)) [
          | inl less ↦ omega (arith, less, searched.each_place, searched.each_component)
          | inr past ↦ absurd (omega (arith, place, get_or_past {X = ℕ} s.places a 0 past))
        ]

-- the last group begins among the open nodes
pub last_begins : (s : PathSearched) (searched : IsPathSearch s) (front : List Group) (y : Group) → s.groups ≡ front ++ y ∷ [] → y.first ≤ length s.opened
last_begins s searched front y is = (searched.within y (subst (λ (gs : List Group). Contains gs y) (sym is) (end_there front y))).0

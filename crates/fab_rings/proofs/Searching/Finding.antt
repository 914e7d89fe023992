-- An edge leads to a new node: it is open, in a group of its own.
use Rattle.std.proofs.Common.{◌≡◌, ◌≢◌, ℕ, ◌+◌, ◌*◌, ◌<◌, ◌≤◌, List, [], ◌∷◌, length, ◌∙◌, sym, ap, subst, inl, inr, ◌⊎◌, arith, get_or-set_same, get_or-set_other}
use Rattle.std.specs.Prelude.{◌==◌, Contains}
use Rattle.std.proofs.lemmas.Bool.{cases_lt, cases_eq}
use Rattle.std.proofs.lemmas.List.{length-append, length-set, length-map, length_push}
use Rattle.std.proofs.lemmas.List.Elements.{All-append}
use Rattle.std.proofs.lemmas.List.Sums.{sum_by-set, length-filter, count_by-le-length}
use Rattle.fab_graph.specs.Walks.{IsEdge}
use Rattle.fab_rings.specs.declared.strong_components.Group.{Group}
use Rattle.fab_rings.specs.Neighbours.{successors_of}
use Rattle.fab_rings.specs.Layers.{times}
use Rattle.fab_rings.specs.StrongComponents.{Comes, value_of}
use Rattle.fab_rings.specs.PathSearch.{PathSearched, HasAt, IsNoEarlier, IsLookedAt, IsHeadFrom, IsPathSearch, HasTaken, with_head, with_found, work_left}
use Rattle.fab_rings.proofs.Times.{one_if, one_if_same, none_if_other, stands_there, counts_there}
use Rattle.fab_rings.proofs.EdgesOf.{leaving, successor_edge, successor_there, successors_low}
use Rattle.fab_rings.proofs.Searching.Places.{at_front, at_back, at_end, from_append, from_push, in_front, in_pushed, end_there, all_front}
use Rattle.fab_rings.proofs.Searching.HeadTaken.{looked_front, leaves_front, waiting_front, comes_to_head, head_low}

module _ (s : PathSearched) (head : ℕ) (has_taken : HasTaken s head) (none : value_of s.places head ≡ 0) where
  abbrev before : IsPathSearch (with_head s head)
  before = has_taken.before

  abbrev place : ℕ
  place = length s.opened

  abbrev group : Group
  group = record { first = length s.opened; below = length s.heads }

  abbrev after : PathSearched
  after = with_found s head

  abbrev R : ℕ → ℕ → Type 0
  R = IsEdge s.graph.edges

  abbrev heads : List ℕ
  heads = successors_of s.graph.edges head

  within_places : head < length s.places
  within_places = omega (arith, head_low s head has_taken, before.each_place)

  place_here : value_of after.places head ≡ place + 1
  place_here = get_or-set_same s.places head (place + 1) 0 within_places

  place_else : (a : ℕ) → a ≢ head → value_of after.places a ≡ value_of s.places a
  place_else a ne = get_or-set_other s.places head a (place + 1) 0 ne

  not_closed : value_of s.components head ≡ 0
  not_closed = before.is_new head none

  -- the new group is the only one that begins at the new place
  first_is : (x : Group) → group ≡ x → x.first ≡ length s.opened
  first_is x same = sym (ap (λ (g : Group). g.first) same)

  below_is : (x : Group) → group ≡ x → x.below ≡ length s.heads
  below_is x same = sym (ap (λ (g : Group). g.below) same)

  begins_low : (x : Group) → Contains after.groups x → x.first ≤ length s.opened
  begins_low x has = elim (in_pushed s.groups group x has) [ inl old ↦ (before.within x old).0 | inr same ↦ omega (arith, first_is x same) ]

  below_low : (x : Group) → Contains after.groups x → x.below ≤ length s.heads
  below_low x has = elim (in_pushed s.groups group x has) [ inl old ↦ has_taken.below x old | inr same ↦ omega (arith, below_is x same) ]

  -- one that begins at or before an earlier place is old
  is_old : (x : Group) (p : ℕ) → p < length s.opened → Contains after.groups x → x.first ≤ p → Contains s.groups x
  is_old x p low has begins = elim (in_pushed s.groups group x has) [ inl old ↦ old | inr same ↦ absurd (omega (arith, first_is x same, low, begins)) ]

  placed : (a p : ℕ) → HasAt after.opened p a → (value_of after.places a ≡ p + 1) × (value_of s.components a ≡ 0)
  placed a p at = elim (from_push s.opened head p a at) [
    | inl old ↦
        (let was : (value_of s.places a ≡ p + 1) × (value_of s.components a ≡ 0) = before.placed a p old in
        let ne : a ≢ head = λ same. absurd (omega (arith, was.0, ap (λ (b : ℕ). value_of s.places b) same, none)) in
        (place_else a ne ∙ was.0, was.1))
    | inr now ↦ (omega (arith, place_here, ap (λ (b : ℕ). value_of after.places b) now.1, now.0), subst (λ (b : ℕ). value_of s.components b ≡ 0) now.1 not_closed)
  ]

  is_open : (a : ℕ) → 0 < value_of after.places a → value_of s.components a ≡ 0 → (p : ℕ) × HasAt after.opened p a
  is_open a has not = elim (cases_eq a head) [
    | inl same ↦ (place, subst (λ (b : ℕ). HasAt after.opened place b) (sym same) (at_end s.opened head))
    | inr ne ↦ (let was : (p : ℕ) × HasAt s.opened p a = before.is_open a (omega (arith, has, place_else a ne)) not in (was.0, at_front s.opened (head ∷ []) was.0 a was.1))
  ]

  is_new : (a : ℕ) → value_of after.places a ≡ 0 → value_of s.components a ≡ 0
  is_new a without = elim (cases_eq a head) [
    | inl same ↦ absurd (omega (arith, without, ap (λ (b : ℕ). value_of after.places b) same, place_here))
    | inr ne ↦ before.is_new a (omega (arith, without, place_else a ne))
  ]

  pub fewer_new : times 0 after.places + 1 ≡ times 0 s.places
  fewer_new = omega (arith, sum_by-set (λ n. one_if (n == 0)) s.places head (place + 1) 0 within_places, one_if_same (value_of s.places head) 0 none, none_if_other (place + 1) 0 (λ e. absurd (omega (arith, e))))

  reaches : (a b p q : ℕ) → HasAt after.opened p a → HasAt after.opened q b → IsNoEarlier after.groups p q → Comes R a b
  reaches a b p q at_p at_q not_earlier = elim (from_push s.opened head p a at_p) [
    | inl old ↦ elim (from_push s.opened head q b at_q) [
      | inl also ↦ before.reaches a b p q old also (λ x has h. not_earlier x (in_front s.groups (group ∷ []) x has) h)
      | inr now ↦ subst (λ (c : ℕ). Comes R a c) now.1 (comes_to_head s head has_taken a p old)
    ]
    | inr now ↦ elim (from_push s.opened head q b at_q) [
      | inl old ↦ absurd (omega (arith, not_earlier group (end_there s.groups group) (omega (arith, now.0)), old.0))
      | inr also ↦ (0, sym now.1 ∙ also.1)
    ]
  ]

  looked_before : (b p : ℕ) → p < length s.opened → IsLookedAt s p b ⊎ (head ≡ b) → IsLookedAt after p b
  looked_before b p low (inl (inl closed)) = inl closed
  looked_before b p low (inl (inr (inl x))) = inr (inl (x.0, at_front s.opened (head ∷ []) x.0 b x.1, λ z has h. x.2 z (is_old z p low has h) h))
  looked_before b p low (inl (inr (inr x))) = inr (inr (x.0, at_front s.heads heads x.0 b x.1, λ z has h. x.2 z (is_old z p low has h) h))
  looked_before b p low (inr same) = inr (inl (place, subst (λ (c : ℕ). HasAt after.opened place c) same (at_end s.opened head), λ z has h. omega (arith, h, low)))

  head_there : (b : ℕ) → R head b → Contains heads b
  head_there b edge = stands_there b heads (successor_there s.graph.edges head b edge)

  looked : (a b p : ℕ) → HasAt after.opened p a → R a b → IsLookedAt after p b
  looked a b p at edge = elim (from_push s.opened head p a at) [
    | inl old ↦ looked_before b p old.0 (looked_front s head has_taken p b (before.looked a b p old edge))
    | inr now ↦
        (let has : Contains heads b = head_there b (subst (λ (c : ℕ). R c b) (sym now.1) edge) in
        inr (inr (length s.heads + has.0, at_back s.heads heads has.0 b (has.1, has.2), λ z in_groups h. omega (arith, below_low z in_groups))))
  ]

  leaves : (b t : ℕ) (y : Group) → HasAt after.heads t b → Contains after.groups y → y.below ≤ t → IsHeadFrom after t b
  leaves b t y at has low = elim (from_append s.heads heads t b at) [
    | inl old ↦ elim (in_pushed s.groups group y has) [
      | inl was ↦
          (let from : IsHeadFrom s t b = leaves_front s head has_taken b t y old was low in
          (from.0, from.1, at_front s.opened (head ∷ []) from.1 from.0 from.2, from.3, both_ways t old.0 from.1 from.2.0 from.4))
      | inr same ↦ absurd (omega (arith, below_is y same, low, old.0))
    ]
    | inr now ↦ (
      head,
      place,
      at_end s.opened head,
      successor_edge s.graph.edges head b (counts_there b heads (now.0, now.2.0, now.2.1)),
      λ x within. ((λ h. begins_low x within), (λ h. omega (arith, below_low x within, now.1))),
    )
  ]
    where
      both_ways : (t : ℕ) → t < length s.heads → (p : ℕ) → p < length s.opened → ((x : Group) → Contains s.groups x → (x.below ≤ t → x.first ≤ p) × (x.first ≤ p → x.below ≤ t)) →
          (x : Group) → Contains after.groups x → (x.below ≤ t → x.first ≤ p) × (x.first ≤ p → x.below ≤ t)
      both_ways t low_t p low_p ways x has = elim (in_pushed s.groups group x has) [
        | inl old ↦ ways x old
        | inr same ↦ ((λ h. absurd (omega (arith, below_is x same, h, low_t))), (λ h. absurd (omega (arith, first_is x same, h, low_p))))
      ]

  grouped : (p : ℕ) → p < length after.opened → (x : Group) × Contains after.groups x × (x.first ≤ p)
  grouped p low = elim (cases_lt p (length s.opened)) [
    | inl old ↦ (let x : (x : Group) × Contains s.groups x × (x.first ≤ p) = before.grouped p old in (x.0, in_front s.groups (group ∷ []) x.0 x.1, x.2))
    | inr now ↦ (group, end_there s.groups group, now)
  ]

  ordered : (i j : ℕ) (x y : Group) → HasAt after.groups i x → HasAt after.groups j y → i ≤ j → (x.first ≤ y.first) × (x.below ≤ y.below)
  ordered i j x y at also low = elim (from_push s.groups group j y also) [
    | inl old ↦ elim (from_push s.groups group i x at) [ inl was ↦ before.ordered i j x y was old low | inr now ↦ absurd (omega (arith, old.0, now.0, low)) ]
    | inr now ↦
        (let has : Contains after.groups x = (i, at.0, at.1) in
        (omega (arith, begins_low x has, first_is y now.1), omega (arith, below_low x has, below_is y now.1)))
  ]

  waiting : (a : ℕ) → a < s.graph.nodes → (0 < value_of after.places a) ⊎ Contains after.heads a
  waiting a low = elim (cases_eq a head) [
    | inl same ↦ inl (omega (arith, ap (λ (b : ℕ). value_of after.places b) same, place_here))
    | inr ne ↦ elim (waiting_front s head has_taken a low) [
      | inl was ↦ inl (omega (arith, was, place_else a ne))
      | inr x ↦ elim x [ inl has ↦ inr (in_front s.heads heads a has) | inr same ↦ absurd (ne (sym same)) ]
    ]
  ]

  pub found : IsPathSearch after
  found = record {
    graph = before.graph;
    each_place = length-set s.places head (place + 1) ∙ before.each_place;
    each_component = before.each_component;
    heads_low = All-append (λ (b : ℕ). b < s.graph.nodes) s.heads heads (all_front (λ (b : ℕ). b < s.graph.nodes) s.heads (head ∷ []) before.heads_low) (successors_low s.graph before.graph head);
    placed = placed;
    is_open = is_open;
    is_new = is_new;
    low = before.low;
    few = omega (arith, before.few, fewer_new, length_push s.groups group);
    reaches = reaches;
    looked = looked;
    leaves = leaves;
    falls = before.falls;
    together = before.together;
    grouped = grouped;
    ordered = ordered;
    within = λ x has. (omega (arith, begins_low x has, length_push s.opened head), omega (arith, below_low x has, length-append s.heads heads));
    waiting = waiting;
  }

  fewer_heads : length heads ≤ length s.graph.edges
  fewer_heads = omega (
    arith,
    length-map (leaving head s.graph.edges) (λ (e : ℕ × ℕ). e.1),
    length-filter (λ (e : ℕ × ℕ). e.0 == head) s.graph.edges,
    count_by-le-length (λ (e : ℕ × ℕ). e.0 == head) s.graph.edges,
  )

  pub no_more_work : work_left after ≤ work_left s
  no_more_work = omega (arith, ap (λ n. n * (length s.graph.edges + 2)) fewer_new, fewer_heads, length_push s.groups group, length-append s.heads heads)

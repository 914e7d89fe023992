-- Edges whose counts are raised and lowered keep their lists.
use Rattle.std.proofs.Common.{◌≡◌, ◌≢◌, ℕ, zero, suc, ◌+◌, ◌<◌, ◌++◌, ◌⊎◌, inl, inr, true, false, cond, List, [], ◌∷◌, length, filter, replicate, refl, sym, ◌∙◌, ap, subst, arith, Some, Contains, get_or-set_same, get_or-set_other}
use Rattle.std.specs.Prelude.{slice_index_or, slice_set, not, ◌==◌, nat_eq}
use Rattle.std.specs.HashMap.{get}
use Rattle.std.specs.Option.{unwrap_or}
use Rattle.std.proofs.lemmas.Bool.{cases_lt, cases_eq, cases_Bool, eqb-true, eq-eqb, ne_eqb, and_parts, and_from, both_ways, cond-true, cond-false}
use Rattle.std.proofs.lemmas.List.{length-set, get_or_past, get_or-replicate, length-replicate}
use Rattle.std.proofs.lemmas.List.Elements.{Contains-get_or}
use Rattle.fab_graph.specs.Walks.{IsEdge}
use Rattle.fab_rings.specs.EdgeList.{EdgeList, IsGraph}
use Rattle.fab_rings.specs.Layers.{times}
use Rattle.fab_rings.proofs.Times.{one_if_same, none_if_other, times_front, times_push, stands_there, counts_there}
use Rattle.fab_certify.proofs.Exists.Listed.{Listed, same_listed, either_listed, one_listed, none_listed, some_listed, images_listed}
use Rattle.fab_dfsssp.specs.declared.counted_edges.CountedEdges.{CountedEdges}
use Rattle.fab_dfsssp.specs.CountedEdges.{same_edge, times_of, one_at, IsCounted, HasNoEdge, list_at, AreListed, IsWhole, IsListing}
use Rattle.fab_dfsssp.proofs.RoutesOnce.{one_if}

-- ---- one edge

pair_is : (x y : ℕ × ℕ) → x.0 ≡ y.0 → x.1 ≡ y.1 → x ≡ y
pair_is x y p q = ap (λ (n : ℕ). (n, x.1)) p ∙ ap (λ (n : ℕ). (y.0, n)) q

pub is_same : (edge other : ℕ × ℕ) → edge ≡ other → same_edge edge other ≡ true
is_same edge other is = and_from (nat_eq edge.0 other.0) (nat_eq edge.1 other.1) (eq-eqb edge.0 other.0 (ap (λ (x : ℕ × ℕ). x.0) is)) (eq-eqb edge.1 other.1 (ap (λ (x : ℕ × ℕ). x.1) is))

-- another edge is this one, or isn't
pub at_edge : (edge other : ℕ × ℕ) → ((one_at edge other ≡ 1) × (edge ≡ other)) ⊎ ((one_at edge other ≡ 0) × ¬ (edge ≡ other))
at_edge edge other = elim (cases_Bool (same_edge edge other)) [
  | inl is ↦
      (let parts = and_parts (nat_eq edge.0 other.0) (nat_eq edge.1 other.1) is in
      inl (ap one_if is, pair_is edge other (eqb-true edge.0 other.0 parts.0) (eqb-true edge.1 other.1 parts.1)))
  | inr not ↦ inr (ap one_if not, λ e. both_ways (same_edge edge other) not (is_same edge other e))
]

pub is_other : (edge other : ℕ × ℕ) → one_at edge other ≡ 0 → same_edge edge other ≡ false
is_other edge other off = differs (cases_Bool (same_edge edge other))
  where
    differs : (same_edge edge other ≡ true) ⊎ (same_edge edge other ≡ false) → same_edge edge other ≡ false
    differs (inl is) = absurd (omega (arith, off, ap one_if is))
    differs (inr not) = not

pub one_there : (edge : ℕ × ℕ) → one_at edge edge ≡ 1
one_there edge = elim (at_edge edge edge) [ inl here ↦ here.0 | inr off ↦ absurd (off.1 refl) ]

-- ---- lists

times_kept : (b y : ℕ) → y ≢ b → (xs : List ℕ) → times y (filter (λ other. not (other == b)) xs) ≡ times y xs
times_kept b y ne [] = refl
times_kept b y ne (x ∷ xs) = elim (cases_eq x b) [
  | inl same ↦
      (let gone : filter (λ other. not (other == b)) (x ∷ xs) ≡ filter (λ other. not (other == b)) xs = ap (λ t. cond (not t) (x ∷ filter (λ other. not (other == b)) xs) (filter (λ other. not (other == b)) xs)) (eq-eqb x b same) in
      omega (arith, ap (times y) gone, times_kept b y ne xs, times_front y x xs, none_if_other x y (λ e. ne (sym e ∙ same))))
  | inr off ↦
      (let stays : filter (λ other. not (other == b)) (x ∷ xs) ≡ x ∷ filter (λ other. not (other == b)) xs = ap (λ t. cond (not t) (x ∷ filter (λ other. not (other == b)) xs) (filter (λ other. not (other == b)) xs)) (ne_eqb x b off) in
      omega (arith, ap (times y) stays, times_kept b y ne xs, times_front y x xs, times_front y x (filter (λ other. not (other == b)) xs)))
]

times_gone : (b : ℕ) (xs : List ℕ) → times b (filter (λ other. not (other == b)) xs) ≡ 0
times_gone b [] = refl
times_gone b (x ∷ xs) = elim (cases_eq x b) [
  | inl same ↦
      (let gone : filter (λ other. not (other == b)) (x ∷ xs) ≡ filter (λ other. not (other == b)) xs = ap (λ t. cond (not t) (x ∷ filter (λ other. not (other == b)) xs) (filter (λ other. not (other == b)) xs)) (eq-eqb x b same) in
      omega (arith, ap (times b) gone, times_gone b xs))
  | inr off ↦
      (let stays : filter (λ other. not (other == b)) (x ∷ xs) ≡ x ∷ filter (λ other. not (other == b)) xs = ap (λ t. cond (not t) (x ∷ filter (λ other. not (other == b)) xs) (filter (λ other. not (other == b)) xs)) (ne_eqb x b off) in
      omega (arith, ap (times b) stays, times_gone b xs, times_front b x (filter (λ other. not (other == b)) xs), none_if_other x b off))
]

module _ (lists : List (List ℕ)) (nodes : ℕ) (R S : ℕ → ℕ → Type 0) (listed : AreListed lists nodes R) where
  pub listed_same : ((a b : ℕ) → R a b → S a b) → ((a b : ℕ) → S a b → R a b) → AreListed lists nodes S
  listed_same to from = record { each = listed.each; there = λ a b s. listed.there a b (from a b s); only = λ a b h. to a b (listed.only a b h) }

  module _ (a b : ℕ) (low : a < nodes) where
    set_here : (ys : List ℕ) → list_at (slice_set lists a ys) a ≡ ys
    set_here ys = get_or-set_same lists a ys [] (omega (arith, listed.each, low))

    set_elsewhere : (ys : List ℕ) (x : ℕ) → x ≢ a → list_at (slice_set lists a ys) x ≡ list_at lists x
    set_elsewhere ys x ne = get_or-set_other lists a x ys [] ne

    -- a new neighbour
    pub listed_added : ((x y : ℕ) → S x y → R x y ⊎ ((x ≡ a) × (y ≡ b))) → ((x y : ℕ) → R x y → S x y) → S a b → AreListed (slice_set lists a (list_at lists a ++ b ∷ [])) nodes S
    listed_added from to new = record { each = length-set lists a ys ∙ listed.each; there = there; only = only }
      where
        ys : List ℕ
        ys = list_at lists a ++ b ∷ []

        there_here : (y : ℕ) → R a y ⊎ ((a ≡ a) × (y ≡ b)) → 0 < times y ys
        there_here y (inl r) = omega (arith, times_push y b (list_at lists a), listed.there a y r)
        there_here y (inr is) = omega (arith, times_push y b (list_at lists a), one_if_same b y (sym is.1))

        there_elsewhere : (x y : ℕ) → x ≢ a → R x y ⊎ ((x ≡ a) × (y ≡ b)) → 0 < times y (list_at lists x)
        there_elsewhere x y ne (inl r) = listed.there x y r
        there_elsewhere x y ne (inr is) = absurd (ne is.0)

        there : (x y : ℕ) → S x y → 0 < times y (list_at (slice_set lists a ys) x)
        there x y s = elim (cases_eq x a) [
          | inl same ↦ subst (λ zs. 0 < times y zs) (sym (ap (list_at (slice_set lists a ys)) same ∙ set_here ys)) (there_here y (from a y (subst (λ n. S n y) same s)))
          | inr ne ↦ subst (λ zs. 0 < times y zs) (sym (set_elsewhere ys x ne)) (there_elsewhere x y ne (from x y s))
        ]

        only : (x y : ℕ) → 0 < times y (list_at (slice_set lists a ys) x) → S x y
        only x y h = elim (cases_eq x a) [
          | inl same ↦ subst (λ n. S n y) (sym same) (here y (subst (λ zs. 0 < times y zs) (ap (list_at (slice_set lists a ys)) same ∙ set_here ys) h))
          | inr ne ↦ to x y (listed.only x y (subst (λ zs. 0 < times y zs) (set_elsewhere ys x ne) h))
        ]
          where
            here : (y : ℕ) → 0 < times y ys → S a y
            here y has = elim (cases_eq y b) [
              | inl is ↦ subst (λ n. S a n) (sym is) new
              | inr off ↦ to a y (listed.only a y (omega (arith, has, times_push y b (list_at lists a), none_if_other b y (λ e. off (sym e)))))
            ]

    -- a neighbour that goes
    pub listed_removed : ((x y : ℕ) → S x y → R x y × ¬ ((x ≡ a) × (y ≡ b))) → ((x y : ℕ) → R x y → ¬ ((x ≡ a) × (y ≡ b)) → S x y) →
        AreListed (slice_set lists a (filter (λ other. not (other == b)) (list_at lists a))) nodes S
    listed_removed from to = record { each = length-set lists a ys ∙ listed.each; there = there; only = only }
      where
        ys : List ℕ
        ys = filter (λ other. not (other == b)) (list_at lists a)

        there_here : (y : ℕ) → R a y × ¬ ((a ≡ a) × (y ≡ b)) → 0 < times y ys
        there_here y s = elim (cases_eq y b) [
          | inl is ↦ absurd (s.1 (refl, is))
          | inr ne ↦ omega (arith, times_kept b y ne (list_at lists a), listed.there a y s.0)
        ]

        there : (x y : ℕ) → S x y → 0 < times y (list_at (slice_set lists a ys) x)
        there x y s = elim (cases_eq x a) [
          | inl same ↦ subst (λ zs. 0 < times y zs) (sym (ap (list_at (slice_set lists a ys)) same ∙ set_here ys)) (there_here y (from a y (subst (λ n. S n y) same s)))
          | inr ne ↦ subst (λ zs. 0 < times y zs) (sym (set_elsewhere ys x ne)) (listed.there x y (from x y s).0)
        ]

        here : (y : ℕ) → 0 < times y ys → S a y
        here y has = elim (cases_eq y b) [
          | inl is ↦ absurd (omega (arith, has, ap (λ n. times n ys) is, times_gone b (list_at lists a)))
          | inr off ↦ to a y (listed.only a y (omega (arith, has, times_kept b y off (list_at lists a)))) (λ both. off both.1)
        ]

        only : (x y : ℕ) → 0 < times y (list_at (slice_set lists a ys) x) → S x y
        only x y h = elim (cases_eq x a) [
          | inl same ↦ subst (λ n. S n y) (sym same) (here y (subst (λ zs. 0 < times y zs) (ap (list_at (slice_set lists a ys)) same ∙ set_here ys) h))
          | inr ne ↦ to x y (listed.only x y (subst (λ zs. 0 < times y zs) (set_elsewhere ys x ne) h)) (λ both. ne both.0)
        ]

-- ---- counts

module _ (old new : CountedEdges) (edge : ℕ × ℕ) (v : ℕ) (put : (q : ℕ × ℕ) → get same_edge new.times q ≡ cond (same_edge edge q) (Some v) (get same_edge old.times q)) where
  pub put_there : (other : ℕ × ℕ) → edge ≡ other → times_of new other ≡ v
  put_there other is = ap (λ o. unwrap_or o 0) (put other ∙ cond-true (same_edge edge other) (Some v) (get same_edge old.times other) (is_same edge other is))

  pub put_elsewhere : (other : ℕ × ℕ) → one_at edge other ≡ 0 → times_of new other ≡ times_of old other
  put_elsewhere other off = ap (λ o. unwrap_or o 0) (put other ∙ cond-false (same_edge edge other) (Some v) (get same_edge old.times other) (is_other edge other off))

  pub times_raised : v ≡ times_of old edge + 1 → (other : ℕ × ℕ) → times_of new other ≡ times_of old other + one_at edge other
  times_raised is other = elim (at_edge edge other) [
    | inl here ↦ omega (arith, put_there other here.1, is, ap (times_of old) here.1, here.0)
    | inr off ↦ omega (arith, put_elsewhere other off.0, off.0)
  ]

  pub times_lowered : v + 1 ≡ times_of old edge → (other : ℕ × ℕ) → times_of new other + one_at edge other ≡ times_of old other
  times_lowered is other = elim (at_edge edge other) [
    | inl here ↦ omega (arith, put_there other here.1, is, ap (times_of old) here.1, here.0)
    | inr off ↦ omega (arith, put_elsewhere other off.0, off.0)
  ]

-- ---- the whole

module _ (old new : CountedEdges) (edge : ℕ × ℕ) (whole : IsWhole old) where
  ends_of : (a b : ℕ) → (edge ≡ (a, b)) → edge.0 < length old.heads → edge.1 < length old.heads → (a < length old.heads) × (b < length old.heads)
  ends_of a b is p q = subst (λ (x : ℕ × ℕ). (x.0 < length old.heads) × (x.1 < length old.heads)) is (p, q)

  module _ (raised : (other : ℕ × ℕ) → times_of new other ≡ times_of old other + one_at edge other) where
    was : (a b : ℕ) → IsCounted new a b → IsCounted old a b ⊎ (edge ≡ (a, b))
    was a b some = elim (at_edge edge (a, b)) [ inl here ↦ inr here.1 | inr off ↦ inl (omega (arith, some, raised (a, b), off.0)) ]

    still : (a b : ℕ) → IsCounted old a b → IsCounted new a b
    still a b some = omega (arith, some, raised (a, b))

    there : IsCounted new edge.0 edge.1
    there = omega (arith, raised (edge.0, edge.1), one_there edge)

    -- an edge that was there
    pub raised_there : 0 < times_of old edge → new.heads ≡ old.heads → new.tails ≡ old.tails → IsWhole new
    raised_there some heads tails = record {
      ends = λ a b is. subst (λ (n : ℕ). (a < n) × (b < n)) (sym (ap (λ (xs : List (List ℕ)). length xs) heads)) (whole.ends a b (before a b is));
      heads = subst (λ (xs : List (List ℕ)). AreListed xs (length xs) (λ a b. IsCounted new a b)) (sym heads)
          (listed_same old.heads (length old.heads) (λ a b. IsCounted old a b) (λ a b. IsCounted new a b) whole.heads still before);
      tails = subst (λ (n : ℕ). AreListed new.tails n (λ b a. IsCounted new a b)) (sym (ap (λ (xs : List (List ℕ)). length xs) heads))
          (subst (λ (xs : List (List ℕ)). AreListed xs (length old.heads) (λ b a. IsCounted new a b)) (sym tails)
          (listed_same old.tails (length old.heads) (λ b a. IsCounted old a b) (λ b a. IsCounted new a b) whole.tails (λ b a x. still a b x) (λ b a x. before a b x)));
    }
      where
        before : (a b : ℕ) → IsCounted new a b → IsCounted old a b
        before a b is = elim (was a b is) [ inl x ↦ x | inr same ↦ subst (λ (x : ℕ × ℕ). 0 < times_of old x) same some ]

    -- one that comes
    pub raised_new : edge.0 < length old.heads → edge.1 < length old.heads → new.heads ≡ slice_set old.heads edge.0 (list_at old.heads edge.0 ++ edge.1 ∷ []) →
        new.tails ≡ slice_set old.tails edge.1 (list_at old.tails edge.1 ++ edge.0 ∷ []) → IsWhole new
    raised_new p q heads tails = record {
      ends = λ a b is. subst (λ (n : ℕ). (a < n) × (b < n)) (sym many) (elim (was a b is) [ inl x ↦ whole.ends a b x | inr same ↦ ends_of a b same p q ]);
      heads = subst (λ (n : ℕ). AreListed new.heads n (λ a b. IsCounted new a b)) (sym many) (subst (λ (xs : List (List ℕ)). AreListed xs (length old.heads) (λ a b. IsCounted new a b)) (sym heads)
          (listed_added old.heads (length old.heads) (λ a b. IsCounted old a b) (λ a b. IsCounted new a b) whole.heads edge.0 edge.1 p (λ a b is. elim (was a b is) [
            | inl x ↦ inl x
            | inr same ↦ inr (ap (λ (x : ℕ × ℕ). x.0) (sym same), ap (λ (x : ℕ × ℕ). x.1) (sym same))
          ]) still there));
      tails = subst (λ (n : ℕ). AreListed new.tails n (λ b a. IsCounted new a b)) (sym many) (subst (λ (xs : List (List ℕ)). AreListed xs (length old.heads) (λ b a. IsCounted new a b)) (sym tails)
          (listed_added old.tails (length old.heads) (λ b a. IsCounted old a b) (λ b a. IsCounted new a b) whole.tails edge.1 edge.0 q (λ b a is. elim (was a b is) [
            | inl x ↦ inl x
            | inr same ↦ inr (ap (λ (x : ℕ × ℕ). x.1) (sym same), ap (λ (x : ℕ × ℕ). x.0) (sym same))
          ]) (λ b a x. still a b x) there));
    }
      where
        many : length new.heads ≡ length old.heads
        many = ap (λ (xs : List (List ℕ)). length xs) heads ∙ length-set old.heads edge.0 (list_at old.heads edge.0 ++ edge.1 ∷ [])

  module _ (lowered : (other : ℕ × ℕ) → times_of new other + one_at edge other ≡ times_of old other) where
    had : (a b : ℕ) → IsCounted new a b → IsCounted old a b
    had a b some = omega (arith, some, lowered (a, b))

    -- an edge that stays
    pub lowered_there : 0 < times_of new edge → new.heads ≡ old.heads → new.tails ≡ old.tails → IsWhole new
    lowered_there some heads tails = record {
      ends = λ a b is. subst (λ (n : ℕ). (a < n) × (b < n)) (sym (ap (λ (xs : List (List ℕ)). length xs) heads)) (whole.ends a b (had a b is));
      heads = subst (λ (xs : List (List ℕ)). AreListed xs (length xs) (λ a b. IsCounted new a b)) (sym heads)
          (listed_same old.heads (length old.heads) (λ a b. IsCounted old a b) (λ a b. IsCounted new a b) whole.heads after had);
      tails = subst (λ (n : ℕ). AreListed new.tails n (λ b a. IsCounted new a b)) (sym (ap (λ (xs : List (List ℕ)). length xs) heads))
          (subst (λ (xs : List (List ℕ)). AreListed xs (length old.heads) (λ b a. IsCounted new a b)) (sym tails)
          (listed_same old.tails (length old.heads) (λ b a. IsCounted old a b) (λ b a. IsCounted new a b) whole.tails (λ b a x. after a b x) (λ b a x. had a b x)));
    }
      where
        after : (a b : ℕ) → IsCounted old a b → IsCounted new a b
        after a b is = elim (at_edge edge (a, b)) [ inl here ↦ subst (λ (x : ℕ × ℕ). 0 < times_of new x) here.1 some | inr off ↦ omega (arith, is, lowered (a, b), off.0) ]

    -- one that goes
    pub lowered_last : times_of new edge ≡ 0 → edge.0 < length old.heads → edge.1 < length old.heads → new.heads ≡ slice_set old.heads edge.0 (filter (λ other. not (other == edge.1)) (list_at old.heads edge.0)) →
        new.tails ≡ slice_set old.tails edge.1 (filter (λ other. not (other == edge.0)) (list_at old.tails edge.1)) → IsWhole new
    lowered_last none p q heads tails = record {
      ends = λ a b is. subst (λ (n : ℕ). (a < n) × (b < n)) (sym many) (whole.ends a b (had a b is));
      heads = subst (λ (n : ℕ). AreListed new.heads n (λ a b. IsCounted new a b)) (sym many) (subst (λ (xs : List (List ℕ)). AreListed xs (length old.heads) (λ a b. IsCounted new a b)) (sym heads)
          (listed_removed old.heads (length old.heads) (λ a b. IsCounted old a b) (λ a b. IsCounted new a b) whole.heads edge.0 edge.1 p
          (λ a b is. (had a b is, λ x. gone a b is x.0 x.1)) (λ a b is off. after a b is (λ same. off (ap (λ (x : ℕ × ℕ). x.0) (sym same), ap (λ (x : ℕ × ℕ). x.1) (sym same))))));
      tails = subst (λ (n : ℕ). AreListed new.tails n (λ b a. IsCounted new a b)) (sym many) (subst (λ (xs : List (List ℕ)). AreListed xs (length old.heads) (λ b a. IsCounted new a b)) (sym tails)
          (listed_removed old.tails (length old.heads) (λ b a. IsCounted old a b) (λ b a. IsCounted new a b) whole.tails edge.1 edge.0 q
          (λ b a is. (had a b is, λ x. gone a b is x.1 x.0)) (λ b a is off. after a b is (λ same. off (ap (λ (x : ℕ × ℕ). x.1) (sym same), ap (λ (x : ℕ × ℕ). x.0) (sym same))))));
    }
      where
        many : length new.heads ≡ length old.heads
        many = ap (λ (xs : List (List ℕ)). length xs) heads ∙ length-set old.heads edge.0 (filter (λ other. not (other == edge.1)) (list_at old.heads edge.0))

        gone : (a b : ℕ) → IsCounted new a b → a ≡ edge.0 → b ≡ edge.1 → ⊥
        gone a b is x y = let same : (a, b) ≡ edge = pair_is (a, b) edge x y in omega (arith, is, ap (times_of new) same, none)

        after : (a b : ℕ) → IsCounted old a b → ¬ (edge ≡ (a, b)) → IsCounted new a b
        after a b is off = elim (at_edge edge (a, b)) [ inl here ↦ absurd (off here.1) | inr other ↦ omega (arith, is, lowered (a, b), other.0) ]

-- no edge at first
pub none_whole : (e : CountedEdges) (nodes : ℕ) → HasNoEdge e → e.heads ≡ replicate nodes [] → e.tails ≡ replicate nodes [] → IsWhole e
none_whole e nodes none heads tails = record {
  ends = λ a b is. absurd (omega (arith, is, none (a, b)));
  heads = record { each = refl; there = λ a b is. absurd (omega (arith, is, none (a, b))); only = λ a b h. absurd (omega (arith, h, ap (λ xs. times b (list_at xs a)) heads, nothing a b)) };
  tails = record {
    each = ap (λ (xs : List (List ℕ)). length xs) tails ∙ sym (ap (λ (xs : List (List ℕ)). length xs) heads);
    there = λ b a is. absurd (omega (arith, is, none (a, b)));
    only = λ b a h. absurd (omega (arith, h, ap (λ xs. times a (list_at xs b)) tails, nothing b a));
  };
}
  where
    nothing : (a b : ℕ) → times b (list_at (replicate nodes []) a) ≡ 0
    nothing a b = elim (cases_lt a nodes) [
      | inl low ↦ ap (times b) (get_or-replicate nodes a [] [] low)
      | inr past ↦ ap (times b) (get_or_past (replicate nodes []) a [] (omega (arith, length-replicate {A = List ℕ} nodes [], past)))
    ]

-- ---- the edges as a list

numbers_below : (n : ℕ) → Listed (λ (a : ℕ). a < n)
numbers_below zero = none_listed (λ (a : ℕ). a < 0) (λ a low. omega (arith, low))
numbers_below (suc n) = same_listed (λ (a : ℕ). (a < n) ⊎ (n ≡ a)) (λ (a : ℕ). a < suc n) to from (either_listed (λ (a : ℕ). a < n) (λ (a : ℕ). n ≡ a) (numbers_below n) (one_listed n))
  where
    to : (a : ℕ) → (a < n) ⊎ (n ≡ a) → a < suc n
    to a (inl low) = omega (arith, low)
    to a (inr is) = omega (arith, is)

    from : (a : ℕ) → a < suc n → (a < n) ⊎ (n ≡ a)
    from a low = elim (cases_lt a n) [ inl less ↦ inl less | inr past ↦ inr (omega (arith, low, past)) ]

module _ (e : CountedEdges) (whole : IsWhole e) where
  abbrev Leaves : ℕ → ℕ × ℕ → Type 0
  Leaves a x = (b : ℕ) × Contains (list_at e.heads a) b × ((a, b) ≡ x)

  all_edges : Listed (λ (x : ℕ × ℕ). (a : ℕ) × Contains (numbers_below (length e.heads)).list a × Leaves a x)
  all_edges = some_listed Leaves (λ a. images_listed (λ (b : ℕ). (a, b)) (list_at e.heads a)) (numbers_below (length e.heads)).list

  listing : EdgeList
  listing = record { nodes = length e.heads; edges = all_edges.list }

  counted : (a b : ℕ) → IsEdge all_edges.list a b → IsCounted e a b
  counted a b has =
      let x : (c : ℕ) × Contains (numbers_below (length e.heads)).list c × Leaves c (a, b) = all_edges.only (a, b) has in
      subst (λ (y : ℕ × ℕ). IsCounted e y.0 y.1) x.2.2 (whole.heads.only x.0 x.2.0 (counts_there x.2.0 (list_at e.heads x.0) x.2.1))

  in_list : (a b : ℕ) → IsCounted e a b → IsEdge all_edges.list a b
  in_list a b is = all_edges.all (a, b) (a, (numbers_below (length e.heads)).all a (whole.ends a b is).0, (b, stands_there b (list_at e.heads a) (whole.heads.there a b is), refl))

  pub listing_exists : (g : EdgeList) × IsListing g e × IsGraph g
  unfolding listing
  listing_exists = (
    listing,
    record { nodes = refl; same = λ a b. (counted a b, in_list a b) },
    λ k d low.
        let x : ℕ × ℕ = slice_index_or all_edges.list k d in whole.ends x.0 x.1 (counted x.0 x.1 (Contains-get_or all_edges.list k d low)),
  )

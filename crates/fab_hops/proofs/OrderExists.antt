-- A component has a centre order: its switches are put in one after the other.
use Rattle.std.proofs.Common.{◌≡◌, ℕ, zero, suc, ◌<◌, ◌≤◌, ◌⊎◌, inl, inr, List, [], ◌∷◌, length, Option, Some, None, refl, sym, ◌∙◌, subst, arith}
use Rattle.std.proofs.lemmas.Bool.{cases_lt}
use Rattle.std.proofs.lemmas.Option.{none-some}
use Rattle.fab_model.proofs.Lists.Members.{In, Pairs, AllPairs_from_pairs, Contains_from_in, in_from_Contains}
use Rattle.fab_model.specs.Topology.{Topology}
use Rattle.fab_model.specs.Connected.{AreConnected}
use Rattle.fab_model.specs.WellFormed.{IsWellFormed}
use Rattle.fab_hops.specs.HopCounts.{IsHopCount, HopTable, IsHopTable, AreHops, hop_count}
use Rattle.fab_hops.specs.Centres.{IsEccentricity, IsNearerCentre, IsCentreOrder}
use Rattle.fab_hops.specs.Laws.{CentreOrderExists}
use Rattle.fab_hops.proofs.HopLaws.{one_eccentricity}
use Rattle.fab_hops.proofs.HopWalks.{connected_within, connected_have_count}
use Rattle.fab_hops.proofs.Kept.{count_told, count_kept}
use Rattle.fab_hops.proofs.TableExists.{eccentricity_exists, hop_table_exists}

-- ---- an element is put into a list in order

-- in order, with the elements of the other list
record InOrder {A : Type 0} (R : A → A → Type 0) (xs : List A) : Type 0 where
  list : List A
  ordered : Pairs R list
  to : (a : A) → In a list → In a xs
  from : (a : A) → In a xs → In a list

module _ {A : Type 0} (R : A → A → Type 0) (through : (a b c : A) → R a b → R b c → R a c) where
  put : (x : A) (xs : List A) → Pairs R xs → ((y : A) → In y xs → R x y ⊎ R y x) → InOrder R (x ∷ xs)
  put x [] pairs either = record { list = x ∷ []; ordered = (λ y h. absurd h, tt); to = λ a h. h; from = λ a h. h }
  put x (z ∷ zs) pairs either = go (either z (inl refl)) (put x zs pairs.1 (λ y has. either y (inr has)))
    where
      after : R x z → (y : A) → In y (z ∷ zs) → R x y
      after r y (inl e) = subst (λ w. R x w) e r
      after r y (inr has) = through x z y r (pairs.0 y has)

      before : R z x → (y : A) → In y (x ∷ zs) → R z y
      before r y (inl e) = subst (λ w. R z w) e r
      before r y (inr has) = pairs.0 y has

      swap : (a : A) → In a (z ∷ x ∷ zs) → In a (x ∷ z ∷ zs)
      swap a (inl e) = inr (inl e)
      swap a (inr (inl e)) = inl e
      swap a (inr (inr has)) = inr (inr has)

      back : (a : A) → In a (x ∷ z ∷ zs) → In a (z ∷ x ∷ zs)
      back a (inl e) = inr (inl e)
      back a (inr (inl e)) = inl e
      back a (inr (inr has)) = inr (inr has)

      under : (xs ys : List A) → ((a : A) → In a xs → In a ys) → (a : A) → In a (z ∷ xs) → In a (z ∷ ys)
      under xs ys step a (inl e) = inl e
      under xs ys step a (inr has) = inr (step a has)

      go : R x z ⊎ R z x → InOrder R (x ∷ zs) → InOrder R (x ∷ z ∷ zs)
      go (inl r) rest = record { list = x ∷ z ∷ zs; ordered = (after r, pairs); to = λ a h. h; from = λ a h. h }
      go (inr r) rest = record {
        list = z ∷ rest.list;
        ordered = (λ y has. before r y (rest.to y has), rest.ordered);
        to = λ a has. swap a (under rest.list (x ∷ zs) rest.to a has);
        from = λ a has. under (x ∷ zs) rest.list rest.from a (back a has);
      }

-- ---- the order

module _ (t : Topology) (good : IsWellFormed t) where
  compared : (m n k a b c : ℕ) → (m < n) ⊎ ((m ≡ n) × (a < b)) → (n < k) ⊎ ((n ≡ k) × (b < c)) → (m < k) ⊎ ((m ≡ k) × (a < c))
  compared m n k a b c (inl x) (inl y) = inl (omega (arith, x, y))
  compared m n k a b c (inl x) (inr y) = inl (omega (arith, x, y.0))
  compared m n k a b c (inr x) (inl y) = inl (omega (arith, x.0, y))
  compared m n k a b c (inr x) (inr y) = inr (x.0 ∙ y.0, omega (arith, x.1, y.1))

  nearer_through : (a b c : ℕ) → IsNearerCentre t a b → IsNearerCentre t b c → IsNearerCentre t a c
  nearer_through a b c x y =
      let same : x.far ≡ y.near = one_eccentricity t b x.far y.near x.second_has y.first_has in
      record {
        near = x.near;
        far = y.far;
        first_has = x.first_has;
        second_has = y.second_has;
        before = compared x.near y.near y.far a b c (subst (λ n. (x.near < n) ⊎ ((x.near ≡ n) × (a < b))) same x.before) y.before;
      }

  nearer_or_farther : (a b : ℕ) → b < a → a < length t.switches → IsNearerCentre t a b ⊎ IsNearerCentre t b a
  nearer_or_farther a b less low = go (eccentricity_exists t a good low) (eccentricity_exists t b good (omega (arith, less, low)))
    where
      go : (n : ℕ) × IsEccentricity t a n → (n : ℕ) × IsEccentricity t b n → IsNearerCentre t a b ⊎ IsNearerCentre t b a
      go x y = elim (cases_lt x.0 y.0) [
        | inl nearer ↦ inl (record { near = x.0; far = y.0; first_has = x.1; second_has = y.1; before = inl nearer })
        | inr more ↦
            elim (cases_lt y.0 x.0) [
              | inl farther ↦ inr (record { near = y.0; far = x.0; first_has = y.1; second_has = x.1; before = inl farther })
              | inr most ↦ (let same : y.0 ≡ x.0 = omega (arith, more, most) in inr (record { near = y.0; far = x.0; first_has = y.1; second_has = x.1; before = inr (same, less) }))
            ]
      ]

  module _ (s : ℕ) (low : s < length t.switches) (h : HopTable) (hops : AreHops t h) where
    -- those of the component that are below a number
    record OrderBelow (count : ℕ) : Type 0 where
      order : List ℕ
      ordered : Pairs (IsNearerCentre t) order
      to : (v : ℕ) → In v order → (v < count) × AreConnected t s v
      from : (v : ℕ) → v < count → AreConnected t s v → In v order

    order_more : (count : ℕ) → count < length t.switches → OrderBelow count → (kept : Option ℕ) → hop_count h s count ≡ kept → OrderBelow (suc count)
    order_more count high is None e = record {
      order = is.order;
      ordered = is.ordered;
      to = λ v has. (omega (arith, (is.to v has).0), (is.to v has).1);
      from = λ v below joined. elim (cases_lt v count) [
        | inl less ↦ is.from v less joined
        | inr last ↦
            (let same : v ≡ count = omega (arith, below, last) in
            let count_of : (n : ℕ) × IsHopCount t s count n = connected_have_count t s count (subst (λ x. AreConnected t s x) same joined) in
            absurd (none-some count_of.0 (sym e ∙ count_kept t h hops s count count_of.0 low high count_of.1)))
      ];
    }
    order_more count high is (Some n) e = go (put (IsNearerCentre t) nearer_through count is.order is.ordered (λ y has. nearer_or_farther count y (is.to y has).0 high))
      where
        joined_here : AreConnected t s count
        joined_here = (n, (count_told t h hops s count n low high e).holds)

        told : (v : ℕ) → In v (count ∷ is.order) → (v < suc count) × AreConnected t s v
        told v (inl same) = (omega (arith, same), subst (λ x. AreConnected t s x) same joined_here)
        told v (inr has) = (omega (arith, (is.to v has).0), (is.to v has).1)

        go : InOrder (IsNearerCentre t) (count ∷ is.order) → OrderBelow (suc count)
        go more = record {
          order = more.list;
          ordered = more.ordered;
          to = λ v has. told v (more.to v has);
          from = λ v below joined. more.from v (elim (cases_lt v count) [
            | inl less ↦ inr (is.from v less joined)
            | inr last ↦ inl (omega (arith, below, last))
          ]);
        }

    order_below : (count : ℕ) → count ≤ length t.switches → OrderBelow count
    order_below zero few = record { order = []; ordered = tt; to = λ v has. absurd has; from = λ v below joined. absurd (omega (arith, below)) }
    order_below (suc count) few = order_more count (omega (arith, few)) (order_below count (omega (arith, few))) (hop_count h s count) refl

    whole_order : OrderBelow (length t.switches) → (order : List ℕ) × IsCentreOrder t s order
    whole_order is = (
      is.order,
      record {
        component = λ other. (λ has. (is.to other (in_from_Contains is.order other has)).1, λ joined. Contains_from_in is.order other (is.from other (connected_within t good s other joined low) joined));
        ordered = AllPairs_from_pairs (IsNearerCentre t) is.order is.ordered;
      },
    )

pub centre_order_exists : CentreOrderExists
centre_order_exists t s good low = go (hop_table_exists t good)
  where
    go : (h : HopTable) × IsHopTable h × AreHops t h → (order : List ℕ) × IsCentreOrder t s order
    go h = whole_order t good s low h.0 h.2 (order_below t good s low h.0 h.2 (length t.switches) (omega arith))

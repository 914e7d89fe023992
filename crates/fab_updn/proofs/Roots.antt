-- The roots of the switches so far, and the ranks by them.
use Rattle.std.proofs.Common.{◌≡◌, ℕ, ◌+◌, ◌<◌, ◌⊎◌, inl, inr, List, [], ◌∷◌, ◌++◌, length, map, refl, sym, ◌∙◌, ap, subst, arith, All, Contains, Option, Some, None}
use Rattle.std.specs.Prelude.{slice_index, slice_index_or, IsSome}
use Rattle.std.proofs.lemmas.Bool.{cases_lt}
use Rattle.std.proofs.lemmas.List.{length-map, get_or_append_left, get_or_push}
use Rattle.std.proofs.lemmas.List.Elements.{All-push, All-contains, Contains-append_left, Contains-push, Contains-push_cases}
use Rattle.std.proofs.lemmas.Option.{none-some}
use Rattle.fab_graph.specs.Least.{IsLeast}
use Rattle.fab_model.specs.declared.rows.SwitchId.{SwitchId}
use Rattle.fab_model.specs.Topology.{Topology}
use Rattle.fab_model.specs.Connected.{AreConnected}
use Rattle.fab_model.specs.WellFormed.{IsWellFormed}
use Rattle.fab_tables.proofs.Joined.Walks.{connected_back, connected_through}
use Rattle.fab_tables.proofs.Joined.ConnectedDecided.{image_has, image_of}
use Rattle.fab_hops.specs.HopCounts.{HopTable, AreHops, hop_count, IsHopCount}
use Rattle.fab_hops.specs.Centres.{IsCentreOrder, IsCentre}
use Rattle.fab_hops.proofs.HopWalks.{connected_have_count, connected_within}
use Rattle.fab_hops.proofs.Kept.{count_told, count_kept}
use Rattle.fab_hops.proofs.CentreOrders.{one_centre_order, order_of_component}
use Rattle.fab_updn.specs.Ranks.{NamesNone, IsRoot, IsRank}
use Rattle.fab_updn.specs.Found.{IsCountToListed, AreRoots}
use Rattle.fab_updn.proofs.Nearest.{IsNearestOf}

abbrev pub numbers : List SwitchId → List ℕ
numbers named = map (λ (root : SwitchId). root.0) named

-- ---- roots of a component

heads : (a b : ℕ) (xs ys : List ℕ) → a ∷ xs ≡ b ∷ ys → a ≡ b
heads a b xs ys e = cc

-- it has one centre
pub one_centre : (t : Topology) (s a b : ℕ) → IsCentre t s a → IsCentre t s b → a ≡ b
one_centre t s a b x y = heads a b x.0 y.0 (one_centre_order t s (a ∷ x.0) (b ∷ y.0) x.1 y.1)

-- connected switches have the same roots
pub root_of_other : (t : Topology) → IsWellFormed t → (named : List ℕ) (s u root : ℕ) → AreConnected t s u → IsRoot t named s root → IsRoot t named u root
root_of_other t good named s u root joined (inl x) = inl (x.0, connected_through t u s root (connected_back t good s u joined) x.1)
root_of_other t good named s u root joined (inr x) = inr (λ r is_named on. x.0 r is_named (connected_through t s u r joined on), (x.1.0, order_of_component t good s u (root ∷ x.1.0) joined x.1.1))

-- ---- roots that are listed

-- the named ones are listed, every other listed one is the centre of a component in which none is named, and each switch below this number has one of them in its component
pub record AreRootsBelow (t : Topology) (named : List SwitchId) (count : ℕ) (roots : List SwitchId) : Type 0 where
  pub within : All (λ root. root.0 < length t.switches) roots
  pub has_named : (root : SwitchId) → Contains named root → Contains roots root
  pub others : (root : SwitchId) → Contains roots root → Contains named root ⊎ ((s : ℕ) × NamesNone t (numbers named) s × IsCentre t s root.0)
  pub some : (s : ℕ) → s < count → (root : SwitchId) × Contains roots root × AreConnected t s root.0

-- ---- one switch more

module _ (t : Topology) (good : IsWellFormed t) (h : HopTable) (hops : AreHops t h) (named : List SwitchId) where
  told : (s root : ℕ) → s < length t.switches → root < length t.switches → (o : Option ℕ) → hop_count h s root ≡ o → o ≡ None → ¬ AreConnected t s root
  told s root low high o e none joined =
      let count : (n : ℕ) × IsHopCount t s root n = connected_have_count t s root joined in
      none-some count.0 (sym (e ∙ none) ∙ count_kept t h hops s root count.0 low high count.1)

  module _ (index : ℕ) (roots : List SwitchId) (low : index < length t.switches) (before : AreRootsBelow t named index roots) where
    -- one of the roots is in its component
    pub has_root : (n : ℕ) → IsCountToListed h roots index n → AreRootsBelow t named (index + 1) roots
    has_root n c = record {
      within = before.within;
      has_named = before.has_named;
      others = before.others;
      some = λ s below. elim (cases_lt s index) [
        | inl less ↦ before.some s less
        | inr last ↦
            (let same : index ≡ s = omega (arith, below, last) in
            (c.0, c.1, subst (λ x. AreConnected t x c.0.0) same (n, (count_told t h hops index c.0.0 n low (All-contains (λ (root : SwitchId). root.0 < length t.switches) roots c.0 before.within c.1) c.2).holds)))
      ];
    }

    -- none is, so its centre is the root
    module _ (none : All (λ (root : SwitchId). hop_count h index root.0 ≡ None) roots) (order : List SwitchId) (is : IsCentreOrder t index (numbers order)) where
      pub some_member : 0 < length order
      some_member = let has : Contains (numbers order) index = (is.component index).1 (0, refl) in omega (arith, has.1, length-map order (λ (root : SwitchId). root.0))

      names_none : NamesNone t (numbers named) index
      names_none root has joined =
          let found : (id : SwitchId) × Contains named id × (id.0 ≡ root) = image_of (λ (x : SwitchId). x.0) named root has in
          let listed : Contains roots found.0 = before.has_named found.0 found.1 in
          told index found.0.0 low (All-contains (λ (x : SwitchId). x.0 < length t.switches) roots found.0 before.within listed) (hop_count h index found.0.0) refl
          (All-contains (λ (x : SwitchId). hop_count h index x.0 ≡ None) roots found.0 none listed) (subst (λ x. AreConnected t index x) (sym found.2) joined)

      first_is_centre : (xs : List SwitchId) (d : SwitchId) → 0 < length xs → IsCentreOrder t index (numbers xs) → IsCentre t index (slice_index_or xs 0 d).0
      first_is_centre [] d some order_is = absurd (omega (arith, some))
      first_is_centre (x ∷ xs) d some order_is = (numbers xs, order_is)

      pub has_centre : (centre : SwitchId) → centre ≡ slice_index_or order 0 centre → AreRootsBelow t named (index + 1) (roots ++ centre ∷ [])
      has_centre centre at = record {
        within = All-push (λ (root : SwitchId). root.0 < length t.switches) roots centre before.within (connected_within t good index centre.0 joined low);
        has_named = λ root has. Contains-append_left roots (centre ∷ []) root (before.has_named root has);
        others = λ root has. elim (Contains-push_cases roots centre root has) [
          | inl old ↦ before.others root old
          | inr e ↦ inr (index, names_none, subst (λ (x : SwitchId). IsCentre t index x.0) e is_centre)
        ];
        some = λ s below. elim (cases_lt s index) [
          | inl less ↦ (let old : (root : SwitchId) × Contains roots root × AreConnected t s root.0 = before.some s less in (old.0, Contains-append_left roots (centre ∷ []) old.0 old.1, old.2))
          | inr last ↦ (let same : index ≡ s = omega (arith, below, last) in (centre, Contains-push roots centre, subst (λ x. AreConnected t x centre.0) same joined))
        ];
      }
        where
          is_centre : IsCentre t index centre.0
          is_centre = subst (λ (x : SwitchId). IsCentre t index x.0) (sym at) (first_is_centre order centre some_member is)

          joined : AreConnected t index centre.0
          joined = (is_centre.1.component centre.0).0 (0, omega arith, refl)

  -- ---- all of them

  module _ (roots : List SwitchId) (done : AreRootsBelow t named (length t.switches) roots) where
    right : (s : ℕ) (root : SwitchId) → s < length t.switches → Contains roots root → AreConnected t s root.0 → IsRoot t (numbers named) s root.0
    right s root low has joined = elim (done.others root has) [
      | inl is_named ↦ inl (image_has (λ (x : SwitchId). x.0) named root is_named, joined)
      | inr centre ↦
          (let there : AreConnected t centre.0 root.0 = (centre.2.1.component root.0).0 (0, omega arith, refl) in
          root_of_other t good (numbers named) centre.0 s root.0 (connected_through t centre.0 root.0 s there (connected_back t good s root.0 joined)) (inr (centre.1, centre.2)))
    ]

    all : (s root : ℕ) → s < length t.switches → IsRoot t (numbers named) s root → (id : SwitchId) × Contains roots id × (id.0 ≡ root)
    all s root low (inl x) = let found : (id : SwitchId) × Contains named id × (id.0 ≡ root) = image_of (λ (x : SwitchId). x.0) named root x.0 in (found.0, done.has_named found.0 found.1, found.2)
    all s root low (inr x) = go (done.some s low)
      where
        go : (id : SwitchId) × Contains roots id × AreConnected t s id.0 → (id : SwitchId) × Contains roots id × (id.0 ≡ root)
        go r = (r.0, r.1, same (right s r.0 low r.1 r.2))
          where
            same : IsRoot t (numbers named) s r.0.0 → r.0.0 ≡ root
            same (inl y) = absurd (x.0 r.0.0 y.0 r.2)
            same (inr y) = one_centre t s r.0.0 root y.1 x.1

    pub are_roots : AreRoots t (numbers named) roots
    are_roots = record { within = done.within; right = right; some = done.some; all = all }

-- ---- ranks

module _ (t : Topology) (good : IsWellFormed t) (h : HopTable) (hops : AreHops t h) (named : List ℕ) (roots : List SwitchId) (are : AreRoots t named roots) (s : ℕ) (low : s < length t.switches) where
  pub is_rank : (n : ℕ) → IsLeast (IsCountToListed h roots s) n → IsRank t named s n
  is_rank n x = record {
    holds =
        (let root : SwitchId = x.holds.0 in
        let count : IsHopCount t s root.0 n = count_told t h hops s root.0 n low (All-contains (λ (r : SwitchId). r.0 < length t.switches) roots root are.within x.holds.1) x.holds.2 in
        (root.0, are.right s root low x.holds.1 (n, count.holds), count));
    least = λ m y.
        let id : (r : SwitchId) × Contains roots r × (r.0 ≡ y.0) = are.all s y.0 low y.1 in
        x.least m (id.0, id.1, count_kept t h hops s id.0.0 m low (All-contains (λ (r : SwitchId). r.0 < length t.switches) roots id.0 are.within id.1) (subst (λ z. IsHopCount t s z m) (sym id.2) y.2));
  }

  pub some_nearest : (o : Option ℕ) → IsNearestOf h s roots o → IsSome o
  some_nearest (Some n) is = refl
  some_nearest None none =
      let r : (root : SwitchId) × Contains roots root × AreConnected t s root.0 = are.some s low in
      absurd (told t good h hops [] s r.0.0 low (All-contains (λ (x : SwitchId). x.0 < length t.switches) roots r.0 are.within r.1) (hop_count h s r.0.0) refl (All-contains (λ (x : SwitchId). hop_count h s x.0 ≡ None) roots r.0 none r.1) r.2)

  pub rank_found : (o : Option ℕ) (n : ℕ) → IsNearestOf h s roots o → o ≡ Some n → IsRank t named s n
  rank_found o n is e = is_rank n (subst (λ p. IsNearestOf h s roots p) e is)

pub one_rank_more : (t : Topology) (named ranks : List ℕ) (index n : ℕ) → length ranks ≡ index → ((s : ℕ) → s < index → IsRank t named s (slice_index ranks s)) → IsRank t named index n →
    (s : ℕ) → s < index + 1 → IsRank t named s (slice_index (ranks ++ n ∷ []) s)
one_rank_more t named ranks index n whole before rank s low = elim (cases_lt s index) [
  | inl less ↦ subst (λ m. IsRank t named s m) (sym (get_or_append_left ranks (n ∷ []) 0 s (omega (arith, less, whole)))) (before s less)
  | inr last ↦
      (let same : index ≡ s = omega (arith, low, last) in
      let at : slice_index (ranks ++ n ∷ []) s ≡ n = ap (λ k. slice_index (ranks ++ n ∷ []) k) (sym same ∙ sym whole) ∙ get_or_push ranks n 0 (length ranks) refl in
      subst (λ m. IsRank t named s m) (sym at) (subst (λ k. IsRank t named k n) same rank))
]

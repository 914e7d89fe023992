-- The switches of a fabric have ranks: the roots are found switch by switch, and of the hop counts to them there is a least.
use Rattle.std.proofs.Common.{◌≡◌, ℕ, zero, suc, ◌+◌, ◌<◌, ◌≤◌, ◌⊎◌, inl, inr, List, [], ◌∷◌, ◌++◌, length, map, refl, sym, ap, subst, arith, All, Option, Some, None, add-one}
use Rattle.std.specs.Prelude.{slice_index, slice_index_or}
use Rattle.std.proofs.lemmas.List.{length_push}
use Rattle.std.proofs.lemmas.List.Elements.{All-map, All-cons, All-contains}
use Rattle.fab_graph.specs.Least.{IsLeast}
use Rattle.fab_graph.proofs.Decided.{Decided, least_of}
use Rattle.fab_model.specs.declared.rows.SwitchId.{SwitchId}
use Rattle.fab_model.specs.Topology.{Topology, switch_id}
use Rattle.fab_model.specs.WellFormed.{IsWellFormed}
use Rattle.fab_model.proofs.Lists.Members.{In, All_from_in, Contains_from_in}
use Rattle.fab_hops.specs.HopCounts.{HopTable, IsHopTable, AreHops, hop_count, IsHopCount}
use Rattle.fab_hops.specs.Centres.{IsCentreOrder}
use Rattle.fab_hops.proofs.HopWalks.{connected_have_count}
use Rattle.fab_hops.proofs.Kept.{count_kept}
use Rattle.fab_hops.proofs.OrderExists.{centre_order_exists}
use Rattle.fab_hops.proofs.TableExists.{hop_table_exists}
use Rattle.fab_updn.specs.Ranks.{IsRank, AreRanks}
use Rattle.fab_updn.specs.Found.{IsCountToListed, AreRoots}
use Rattle.fab_updn.proofs.Roots.{numbers, AreRootsBelow, has_root, has_centre, are_roots, is_rank, one_rank_more}
use Rattle.fab_updn.proofs.Exists.Costs.{some_element, is_number}

-- ---- the numbers of switches

abbrev switches_of : List ℕ → List SwitchId
switches_of xs = map (λ (n : ℕ). switch_id n) xs

same_numbers : (xs : List ℕ) → numbers (switches_of xs) ≡ xs
same_numbers [] = refl
same_numbers (x ∷ xs) = ap (λ ys. x ∷ ys) (same_numbers xs)

-- ---- roots

-- a listed root has a kept count, or none has
search : (h : HopTable) (s : ℕ) (roots : List SwitchId) → ((n : ℕ) × IsCountToListed h roots s n) ⊎ All (λ (root : SwitchId). hop_count h s root.0 ≡ None) roots
search h s roots = go roots (λ root has. has)
  where
    -- of the roots of a part
    go : (part : List SwitchId) → ((root : SwitchId) → In root part → In root roots) → ((n : ℕ) × IsCountToListed h roots s n) ⊎ All (λ (root : SwitchId). hop_count h s root.0 ≡ None) part
    go [] within = inr (All_from_in (λ (root : SwitchId). hop_count h s root.0 ≡ None) [] (λ root has. absurd has))
    go (x ∷ xs) within = next (hop_count h s x.0) refl (go xs (λ root has. within root (inr has)))
      where
        next : (o : Option ℕ) → hop_count h s x.0 ≡ o → ((n : ℕ) × IsCountToListed h roots s n) ⊎ All (λ (root : SwitchId). hop_count h s root.0 ≡ None) xs →
            ((n : ℕ) × IsCountToListed h roots s n) ⊎ All (λ (root : SwitchId). hop_count h s root.0 ≡ None) (x ∷ xs)
        next (Some n) e rest = inl (n, (x, Contains_from_in roots x (within x (inl refl)), e))
        next None e (inl found) = inl found
        next None e (inr none) = inr (All-cons (λ (root : SwitchId). hop_count h s root.0 ≡ None) x xs e none)

module _ (t : Topology) (good : IsWellFormed t) (h : HopTable) (hops : AreHops t h) (named : List SwitchId) (within : All (λ (root : SwitchId). root.0 < length t.switches) named) where
  one_more : (index : ℕ) → index < length t.switches → (roots : List SwitchId) → AreRootsBelow t named index roots → (roots : List SwitchId) × AreRootsBelow t named (index + 1) roots
  one_more index low roots before = elim (search h index roots) [
    | inl found ↦ (roots, has_root t good h hops named index roots low before found.0 found.1)
    | inr none ↦ by_order none (centre_order_exists t index good low)
  ]
    where
      first_of : (xs : List SwitchId) → (centre : SwitchId) × (centre ≡ slice_index_or xs 0 centre)
      first_of [] = (switch_id 0, refl)
      first_of (x ∷ xs) = (x, refl)

      by_order : All (λ (root : SwitchId). hop_count h index root.0 ≡ None) roots → (order : List ℕ) × IsCentreOrder t index order → (roots : List SwitchId) × AreRootsBelow t named (index + 1) roots
      by_order none order =
          let centre : (centre : SwitchId) × (centre ≡ slice_index_or (switches_of order.0) 0 centre) = first_of (switches_of order.0) in
          (roots ++ centre.0 ∷ [], has_centre t good h hops named index roots low before none (switches_of order.0) (subst (λ xs. IsCentreOrder t index xs) (sym (same_numbers order.0)) order.1) centre.0 centre.1)

  roots_below : (count : ℕ) → count ≤ length t.switches → (roots : List SwitchId) × AreRootsBelow t named count roots
  roots_below zero few = (named, record { within = within; has_named = λ root has. has; others = λ root has. inl has; some = λ s low. absurd (omega (arith, low)) })
  roots_below (suc count) few = go (roots_below count (omega (arith, few)))
    where
      go : (roots : List SwitchId) × AreRootsBelow t named count roots → (roots : List SwitchId) × AreRootsBelow t named (suc count) roots
      go before = subst (λ n. (roots : List SwitchId) × AreRootsBelow t named n roots) (add-one count) (one_more count (omega (arith, few)) before.0 before.1)

  roots_exist : (roots : List SwitchId) × AreRoots t (numbers named) roots
  roots_exist = let found : (roots : List SwitchId) × AreRootsBelow t named (length t.switches) roots = roots_below (length t.switches) (omega arith) in (found.0, are_roots t good h hops named found.0 found.1)

-- ---- ranks

module _ (t : Topology) (good : IsWellFormed t) (h : HopTable) (hops : AreHops t h) (named : List ℕ) (roots : List SwitchId) (are : AreRoots t named roots) where
  listed_decided : (s n : ℕ) → Decided (IsCountToListed h roots s n)
  listed_decided s n = some_element (λ (root : SwitchId). hop_count h s root.0 ≡ Some n) (λ root. is_number (hop_count h s root.0) n) roots

  rank_exists : (s : ℕ) → s < length t.switches → (n : ℕ) × IsRank t named s n
  rank_exists s low =
      let root = are.some s low in
      let count : (n : ℕ) × IsHopCount t s root.0.0 n = connected_have_count t s root.0.0 root.2 in
      let high : root.0.0 < length t.switches = All-contains (λ (r : SwitchId). r.0 < length t.switches) roots root.0 are.within root.1 in
      let least : (m : ℕ) × IsLeast (λ n. IsCountToListed h roots s n) m = least_of (λ n. IsCountToListed h roots s n) (listed_decided s) count.0 (root.0, root.1, count_kept t h hops s root.0.0 count.0 low high count.1) in
      (least.0, is_rank t good h hops named roots are s low least.0 least.1)

  -- the ranks of the switches below a number
  record RanksBelow (count : ℕ) : Type 0 where
    ranks : List ℕ
    whole : length ranks ≡ count
    each : (s : ℕ) → s < count → IsRank t named s (slice_index ranks s)

  ranks_below : (count : ℕ) → count ≤ length t.switches → RanksBelow count
  ranks_below zero few = record { ranks = []; whole = refl; each = λ s low. absurd (omega (arith, low)) }
  ranks_below (suc count) few = go (ranks_below count (omega (arith, few))) (rank_exists count (omega (arith, few)))
    where
      go : RanksBelow count → (n : ℕ) × IsRank t named count n → RanksBelow (suc count)
      go before rank = record {
        ranks = before.ranks ++ rank.0 ∷ [];
        whole = omega (arith, length_push before.ranks rank.0, before.whole);
        each = λ s low. one_rank_more t named before.ranks count rank.0 before.whole before.each rank.1 s (omega (arith, low));
      }

  ranks_by_roots : (ranks : List ℕ) × AreRanks t named ranks
  ranks_by_roots = let all : RanksBelow (length t.switches) = ranks_below (length t.switches) (omega arith) in (all.ranks, record { whole = all.whole; each = all.each })

pub ranks_exist : (t : Topology) → IsWellFormed t → (named : List ℕ) → All (λ root. root < length t.switches) named → (ranks : List ℕ) × AreRanks t named ranks
ranks_exist t good named within = go (hop_table_exists t good)
  where
    go : (h : HopTable) × IsHopTable h × AreHops t h → (ranks : List ℕ) × AreRanks t named ranks
    go h =
        let roots : (roots : List SwitchId) × AreRoots t (numbers (switches_of named)) roots =
        roots_exist t good h.0 h.2 (switches_of named) (All-map (λ (root : SwitchId). root.0 < length t.switches) (λ (n : ℕ). switch_id n) named within) in
        ranks_by_roots t good h.0 h.2 named roots.0 (subst (λ xs. AreRoots t xs roots.0) (same_numbers named) roots.1)

-- Roots, links and depths, one switch after the other.
use Rattle.std.proofs.Common.{◌≡◌, ◌≢◌, ℕ, ◌+◌, ◌%◌, ◌<◌, List, [], ◌∷◌, ◌++◌, length, refl, sym, ◌∙◌, ap, subst, inl, inr, arith, Some, None, Option}
use Rattle.std.specs.Prelude.{slice_index_or, MatchOption}
use Rattle.std.proofs.lemmas.Bool.{cases_lt}
use Rattle.std.proofs.lemmas.List.{get_or_default, get_or_append_left, length_push}
use Rattle.std.proofs.Math.Seq.{get_or-append_seam}
use Rattle.fab_model.specs.Topology.{Topology}
use Rattle.fab_model.specs.Connected.{AreConnected}
use Rattle.fab_model.specs.WellFormed.{IsWellFormed}
use Rattle.fab_model.proofs.Channels.{contains_read}
use Rattle.fab_hops.specs.HopCounts.{IsHopCount, HopTable, AreHops, hop_count}
use Rattle.fab_hops.proofs.HopWalks.{connected_back, connected_within}
use Rattle.fab_hops.proofs.CentreOrders.{order_of_component}
use Rattle.fab_hops.proofs.Kept.{count_told}
use Rattle.fab_escape.specs.declared.links.Link.{Link}
use Rattle.fab_escape.specs.Trees.{IsRoot, IsLinked, AreRoots, AreLinks, AreHopsToRoots, AreRooted}

-- what holds of each element by its place holds with one more
pub each_pushed : {X : Type 0} (P : ℕ → X → Type 0) (d : ℕ → X) (xs : List X) (x : X) (n : ℕ) → length xs ≡ n → ((k : ℕ) → k < n → P k (slice_index_or xs k (d k))) → P n x →
    (k : ℕ) → k < n + 1 → P k (slice_index_or (xs ++ x ∷ []) k (d k))
each_pushed P d xs x n long each here k low = elim (cases_lt k n) [
  | inl less ↦ subst (λ y. P k y) (sym (get_or_append_left xs (x ∷ []) (d k) k (omega (arith, less, long)))) (each k less)
  | inr last ↦
      (let same : length xs ≡ k = omega (arith, long, low, last) in
      let at : n ≡ k = omega (arith, low, last) in
      subst (λ y. P k y) (sym (ap (λ j. slice_index_or (xs ++ x ∷ []) j (d k)) (sym same) ∙ get_or-append_seam xs x [] (d k))) (subst (λ j. P j x) at here))
]

module _ (t : Topology) where
  pub root_pushed : (lane n root : ℕ) (roots : List ℕ) → AreRoots t lane n roots → IsRoot t lane n root → AreRoots t lane (n + 1) (roots ++ root ∷ [])
  root_pushed lane n root roots are is = record {
    each = omega (arith, are.each, length_push roots root);
    right = each_pushed (λ s r. IsRoot t lane s r) (λ s. s) roots root n are.each are.right is;
  }

  pub link_pushed : (n : ℕ) (roots : List ℕ) (link : Option Link) (links : List (Option Link)) → n < length roots → AreLinks t n roots links → IsLinked t (slice_index_or roots n 0) n link → AreLinks t (n + 1) roots (links ++ link ∷ [])
  link_pushed n roots link links low are is = record {
    each = omega (arith, are.each, length_push links link);
    right = each_pushed (λ s own. IsLinked t (slice_index_or roots s s) s own) (λ s. None) links link n are.each are.right (subst (λ r. IsLinked t r n link) (get_or_default roots n 0 n low) is);
  }

  pub depth_pushed : (n depth : ℕ) (roots depths : List ℕ) → n < length roots → AreHopsToRoots t n roots depths → IsHopCount t n (slice_index_or roots n 0) depth → AreHopsToRoots t (n + 1) roots (depths ++ depth ∷ [])
  depth_pushed n depth roots depths low are is = record {
    each = omega (arith, are.each, length_push depths depth);
    right = each_pushed (λ s d. IsHopCount t s (slice_index_or roots s s) d) (λ s. 0) depths depth n are.each are.right (subst (λ r. IsHopCount t n r depth) (get_or_default roots n 0 n low) is);
  }

  -- the root of a connected switch is the root
  pub root_of_connected : IsWellFormed t → (lane s other root : ℕ) → AreConnected t s other → IsRoot t lane other root → IsRoot t lane s root
  root_of_connected good lane s other root joined is = (is.0, order_of_component t good other s is.0 (connected_back t good s other joined) is.1, is.2)

  pub rooted : (lane : ℕ) (roots : List ℕ) → AreRoots t lane (length t.switches) roots → AreRooted t roots
  rooted lane roots are = record {
    each = are.each;
    joined = λ s low. (let is : IsRoot t lane s (slice_index_or roots s s) = are.right s low in (is.1.component (slice_index_or roots s s)).0 (contains_read is.0 (lane % length is.0) (slice_index_or roots s s) is.2));
  }

  pub root_joined : (roots : List ℕ) (s : ℕ) → AreRooted t roots → s < length t.switches → AreConnected t s (slice_index_or roots s 0)
  root_joined roots s are low = subst (λ r. AreConnected t s r) (get_or_default roots s s 0 (omega (arith, are.each, low))) (are.joined s low)

  pub root_within : IsWellFormed t → (roots : List ℕ) (s : ℕ) → AreRooted t roots → s < length t.switches → slice_index_or roots s 0 < length t.switches
  root_within good roots s are low = connected_within t good s (slice_index_or roots s 0) (root_joined roots s are low) low

  module _ (h : HopTable) (hops : AreHops t h) where
    pub joined_by_count : (s other : ℕ) → s < length t.switches → other < length t.switches → hop_count h s other ≢ None → AreConnected t s other
    joined_by_count s other low also some = go (hop_count h s other) refl
      where
        go : (o : Option ℕ) → hop_count h s other ≡ o → AreConnected t s other
        go None e = absurd (some e)
        go (Some n) e = (n, (count_told t h hops s other n low also e).holds)

    pub count_by_joined : (s other : ℕ) → s < length t.switches → other < length t.switches → AreConnected t s other → hop_count h s other ≢ None
    count_by_joined s other low also joined e = (subst (λ o. MatchOption o (¬ AreConnected t s other) (λ n. IsHopCount t s other n)) e (hops.each s other low also)) joined

-- A switch's depth in its tree is its hop count to the root.
use Rattle.std.proofs.Common.{◌≡◌, ℕ, zero, suc, ◌+◌, ◌<◌, ◌≤◌, length, refl, sym, ◌∙◌, ap, subst, inl, inr, ◌⊎◌, arith, Some, None, Option}
use Rattle.std.specs.Prelude.{slice_get}
use Rattle.fab_model.specs.declared.rows.ChannelRow.{ChannelRow}
use Rattle.fab_model.specs.Topology.{Topology}
use Rattle.fab_model.specs.Connected.{LeadsTo}
use Rattle.fab_model.specs.WellFormed.{IsWellFormed}
use Rattle.fab_tables.specs.Route.{tip_of_row}
use Rattle.fab_hops.specs.HopCounts.{IsHopCount}
use Rattle.fab_hops.proofs.HopLaws.{one_hop_count, hops_small}
use Rattle.fab_escape.specs.declared.links.Link.{Link}
use Rattle.fab_escape.specs.Forest.{Forest, root_of, link_of, links_within, and_on}
use Rattle.fab_escape.specs.Trees.{LeadsUp, IsLink, IsLinked, IsEscapeForest}
use Rattle.fab_escape.specs.EscapeSet.{depth_of}
use Rattle.fab_escape.specs.Climbing.{Climbs}
use Rattle.fab_hops.proofs.HopWalks.{leads_below, no_hops}
use Rattle.fab_model.proofs.Channels.{contains_read}
use Rattle.fab_escape.proofs.OneRoot.{one_root}

-- the step from a switch by its link to the parent
pub record Ascends (t : Topology) (f : Forest) (s : ℕ) (link : Link) : Type 0 where
  pub is : IsLink t (root_of f s) s link
  pub row : ChannelRow
  pub hops : ℕ
  pub there : slice_get t.channels link.channel ≡ Some row
  pub leaves : row.tail.0 ≡ s
  pub comes : row.tip.0 ≡ link.parent
  pub below : link.parent < length t.switches
  pub same : root_of f link.parent ≡ root_of f s
  pub far : IsHopCount t s (root_of f s) (suc hops)
  pub near : IsHopCount t link.parent (root_of f link.parent) hops

-- a switch is a root, or its link leads up
abbrev pub IsPlaced : Topology → Forest → ℕ → Type 0
IsPlaced t f s = ((link_of f s ≡ None) × (s ≡ root_of f s)) ⊎ ((link : Link) × (link_of f s ≡ Some link) × Ascends t f s link)

module _ (t : Topology) (good : IsWellFormed t) (lane : ℕ) (f : Forest) (forest : IsEscapeForest t lane f) where
  pub ascends : (s : ℕ) (link : Link) → s < length t.switches → link_of f s ≡ Some link → Ascends t f s link
  ascends s link low has = record {
    is = is;
    row = up.0;
    hops = up.1;
    there = up.2;
    leaves = up.3;
    comes = comes;
    below = below;
    same = same;
    far = up.4;
    near = subst (λ r. IsHopCount t link.parent r up.1) (sym same) (subst (λ p. IsHopCount t p (root_of f s) up.1) comes up.5);
  }
    where
      is : IsLink t (root_of f s) s link
      is = subst (λ own. IsLinked t (root_of f s) s own) has (forest.links s low)

      up : LeadsUp t (root_of f s) s link.channel
      up = is.upward.holds

      comes : up.0.tip.0 ≡ link.parent
      comes = sym (ap tip_of_row up.2) ∙ is.leads

      leads : LeadsTo t s link.parent
      leads = (up.0, contains_read t.channels link.channel up.0 up.2, up.3, comes)

      below : link.parent < length t.switches
      below = leads_below t good s link.parent leads

      same : root_of f link.parent ≡ root_of f s
      same = sym (one_root t good lane f forest s link.parent low below (1, (link.parent, leads, refl)))

  pub placed : (s : ℕ) → s < length t.switches → IsPlaced t f s
  placed s low = go (link_of f s) refl
    where
      go : (own : Option Link) → link_of f s ≡ own → IsPlaced t f s
      go None none = inl (none, subst (λ own. IsLinked t (root_of f s) s own) none (forest.links s low))
      go (Some link) has = inr (link, has, ascends s link low has)

  -- of a root, no link is counted
  none_counted : (fuel s : ℕ) → link_of f s ≡ None → length (links_within f fuel s) ≡ 0
  none_counted zero s none = refl
  none_counted (suc fuel) s none =
      let P : Option Link → Type 0 = λ own. length (and_on (λ parent. links_within f fuel parent) own) ≡ 0 in
      subst P (sym none) refl

  one_counted : (fuel n s : ℕ) (link : Link) → link_of f s ≡ Some link → length (links_within f fuel link.parent) ≡ n → length (links_within f (suc fuel) s) ≡ suc n
  one_counted fuel n s link has rest =
      let P : Option Link → Type 0 = λ own. length (and_on (λ parent. links_within f fuel parent) own) ≡ suc n in
      subst P (sym has) (ap (λ k. suc k) rest)

  hops_counted : (fuel n s : ℕ) → s < length t.switches → IsHopCount t s (root_of f s) n → n ≤ fuel → length (links_within f fuel s) ≡ n
  hops_counted fuel zero s low h enough = elim (placed s low) [
    | inl root ↦ none_counted fuel s root.0
    | inr up ↦ absurd (omega (arith, one_hop_count t s (root_of f s) 0 (suc up.2.hops) h up.2.far))
  ]
  hops_counted zero (suc n) s low h enough = absurd (omega (arith, enough))
  hops_counted (suc fuel) (suc n) s low h enough = elim (placed s low) [
    | inl root ↦ absurd (omega (arith, one_hop_count t s (root_of f s) (suc n) 0 h (no_hops t s (root_of f s) root.1)))
    | inr up ↦
        (let same : up.2.hops ≡ n = omega (arith, one_hop_count t s (root_of f s) (suc n) (suc up.2.hops) h up.2.far) in
        one_counted fuel n s up.0 up.1 (hops_counted fuel n up.0.parent up.2.below (subst (λ k. IsHopCount t up.0.parent (root_of f up.0.parent) k) same up.2.near) (omega (arith, enough))))
  ]

  depth_counts : (s n : ℕ) → s < length t.switches → IsHopCount t s (root_of f s) n → depth_of f s ≡ n
  depth_counts s n low h = hops_counted (length f.links) n s low h (omega (arith, forest.each_link, hops_small t s (root_of f s) n good low h))

  pub depth_is_hop : (s : ℕ) → s < length t.switches → IsHopCount t s (root_of f s) (depth_of f s)
  depth_is_hop s low = elim (placed s low) [
    | inl root ↦ (let h : IsHopCount t s (root_of f s) 0 = no_hops t s (root_of f s) root.1 in subst (λ n. IsHopCount t s (root_of f s) n) (sym (depth_counts s 0 low h)) h)
    | inr up ↦ subst (λ n. IsHopCount t s (root_of f s) n) (sym (depth_counts s (suc up.2.hops) low up.2.far)) up.2.far
  ]

  pub depth_small : (s : ℕ) → s < length t.switches → depth_of f s < length t.switches
  depth_small s low = hops_small t s (root_of f s) (depth_of f s) good low (depth_is_hop s low)

  pub depth_of_root : (s : ℕ) → s < length t.switches → s ≡ root_of f s → depth_of f s ≡ 0
  depth_of_root s low root = depth_counts s 0 low (no_hops t s (root_of f s) root)

  pub depth_below : (s : ℕ) (link : Link) → s < length t.switches → link_of f s ≡ Some link → depth_of f s ≡ suc (depth_of f link.parent)
  depth_below s link low has =
      let up : Ascends t f s link = ascends s link low has in
      depth_counts s (suc up.hops) low up.far ∙ ap (λ k. suc k) (sym (depth_counts link.parent up.hops up.below up.near))

  -- the way up leads to the root
  pub climbs_to_root : (n s : ℕ) → s < length t.switches → depth_of f s ≡ n → Climbs f n s (root_of f s)
  climbs_to_root zero s low deep = elim (placed s low) [
    | inl root ↦ root.1
    | inr up ↦ absurd (omega (arith, deep, depth_below s up.0 low up.1))
  ]
  climbs_to_root (suc n) s low deep = elim (placed s low) [
    | inl root ↦ absurd (omega (arith, deep, depth_of_root s low root.1))
    | inr up ↦
        (up.0, up.1, subst (λ r. Climbs f n up.0.parent r) up.2.same (climbs_to_root n up.0.parent up.2.below (omega (arith, deep, depth_below s up.0 low up.1))))
  ]

  -- and each switch on it is of the fabric
  pub climbs_below : (n s x : ℕ) → Climbs f n s x → s < length t.switches → x < length t.switches
  climbs_below zero s x w low = omega (arith, w, low)
  climbs_below (suc n) s x w low = climbs_below n w.0.parent x w.2 (ascends s w.0 low w.1).below

  pub climbs_depth : (n s x : ℕ) → Climbs f n s x → s < length t.switches → depth_of f s ≡ n + depth_of f x
  climbs_depth zero s x w low = ap (λ y. depth_of f y) w ∙ omega arith
  climbs_depth (suc n) s x w low = omega (arith, depth_below s w.0 low w.1, climbs_depth n w.0.parent x w.2 (ascends s w.0 low w.1).below)

  pub climbs_root : (n s x : ℕ) → Climbs f n s x → s < length t.switches → root_of f x ≡ root_of f s
  climbs_root zero s x w low = ap (λ y. root_of f y) (sym w)
  climbs_root (suc n) s x w low = climbs_root n w.0.parent x w.2 (ascends s w.0 low w.1).below ∙ (ascends s w.0 low w.1).same

-- A lane of a fabric has a forest.
use Rattle.std.proofs.Common.{◌≡◌, ℕ, zero, suc, ◌+◌, ◌-◌, ◌%◌, ◌<◌, ◌≤◌, List, [], ◌∷◌, ◌++◌, length, refl, sym, ◌∙◌, ap, subst, inl, inr, ◌⊎◌, arith, Some, None, Option, Contains}
use Rattle.std.specs.Prelude.{slice_index_or, slice_get, option_map, IfSome}
use Rattle.std.proofs.lemmas.Nat.{mod_below}
use Rattle.std.proofs.lemmas.List.Elements.{All-get_or}
use Rattle.std.proofs.lemmas.Option.{slice_get-get_or, slice_get_cases, slice_get_within, get_or_from_slice_get}
use Rattle.fab_graph.specs.Walks.{Walk}
use Rattle.fab_model.specs.declared.rows.ChannelRow.{ChannelRow}
use Rattle.fab_model.specs.Topology.{Topology, first_channel, IsReverse, reversed}
use Rattle.fab_model.specs.Connected.{LeadsTo, AreConnected}
use Rattle.fab_model.specs.WellFormed.{IsWellFormed}
use Rattle.fab_model.proofs.Finds.{first_channel-le, first_channel-le-length}
use Rattle.fab_hops.specs.HopCounts.{IsHopCount}
use Rattle.fab_hops.specs.Centres.{IsCentreOrder}
use Rattle.fab_hops.proofs.HopWalks.{connected_have_count, walk_decided}
use Rattle.fab_hops.proofs.OrderExists.{centre_order_exists}
use Rattle.fab_escape.specs.declared.links.Link.{Link}
use Rattle.fab_escape.specs.Trees.{IsRoot, IsLink, IsLinked, AreRoots, AreLinks, AreRooted}
use Rattle.fab_escape.specs.Laws.{ForestExists}
use Rattle.fab_escape.proofs.Making.{root_pushed, link_pushed, rooted, root_joined}
use Rattle.fab_escape.proofs.ParentChannels.{NoneLeadsUp, leads, is_link, none_further, some_leads_up}
use Rattle.fab_escape.proofs.Kept.{forest_of, is_escape_forest}

module _ (t : Topology) (good : IsWellFormed t) where
  root_there : (lane s : ℕ) → s < length t.switches → (root : ℕ) × IsRoot t lane s root
  root_there lane s low =
      let o : (order : List ℕ) × IsCentreOrder t s order = centre_order_exists t s good low in
      let has : Contains o.0 s = (o.1.component s).1 (0, refl) in
      let within : lane % length o.0 < length o.0 = mod_below lane (length o.0) (omega (arith, has.1)) in
      (slice_index_or o.0 (lane % length o.0) 0, (o.0, o.1, slice_get-get_or o.0 (lane % length o.0) 0 within))

  roots_there : (lane n : ℕ) → n ≤ length t.switches → (roots : List ℕ) × AreRoots t lane n roots
  roots_there lane zero low = ([], record { each = refl; right = λ s less. absurd (omega (arith, less)) })
  roots_there lane (suc n) low =
      let before : (roots : List ℕ) × AreRoots t lane n roots = roots_there lane n (omega (arith, low)) in
      let root : (root : ℕ) × IsRoot t lane n root = root_there lane n (omega (arith, low)) in
      let next : n + 1 ≡ suc n = omega arith in
      (before.0 ++ root.0 ∷ [], subst (λ k. AreRoots t lane k (before.0 ++ root.0 ∷ [])) next (root_pushed t lane n root.0 before.0 before.1 root.1))

  -- each channel has a reverse
  reverse_there : (c : ℕ) (row : ChannelRow) → slice_get t.channels c ≡ Some row → (r : ℕ) × IsReverse t c r
  reverse_there c row there =
      let same : slice_index_or t.channels c row ≡ row = get_or_from_slice_get t.channels c row row there in
      let has : Contains t.channels (reversed row) =
      subst (λ x. Contains t.channels (reversed x)) same (All-get_or (λ x. Contains t.channels (reversed x)) t.channels c row (slice_get_within t.channels c row there) good.reverses) in
      let back : slice_get t.channels has.0 ≡ Some (reversed row) = slice_get-get_or t.channels has.0 (reversed row) has.1 ∙ ap Some has.2 in
      (has.0, subst (λ o. IfSome o (λ (w : ChannelRow). slice_get t.channels has.0 ≡ Some (reversed w))) (sym there) back)

  row_within : (c : ℕ) → c < length t.channels → (row : ChannelRow) × (slice_get t.channels c ≡ Some row)
  row_within c low = elim (slice_get_cases t.channels c).1 [
    | inl is ↦ (is.0, is.2)
    | inr past ↦ absurd (omega (arith, past.0, low))
  ]

  module _ (s root n : ℕ) (far : IsHopCount t s root (suc n)) where
    found : (k c : ℕ) → first_channel t s ≤ c → c + k ≡ first_channel t (s + 1) → NoneLeadsUp t root s c → (link : Link) × IsLink t root s link
    found zero c from ends none =
        let last : c ≡ first_channel t (s + 1) = omega (arith, ends) in
        absurd (some_leads_up t good s root n far (subst (λ p. NoneLeadsUp t root s p) last none))
    found (suc k) c from ends none =
        this_or_later (λ more. found k (c + 1) (omega (arith, from)) (omega (arith, ends)) more) past row (reverse_there c row.0 row.1) (walk_decided t n row.0.tip.0 root)
      where
        past : c < first_channel t (s + 1)
        past = omega (arith, ends)

        row : (row : ChannelRow) × (slice_get t.channels c ≡ Some row)
        row = row_within c (omega (arith, past, first_channel-le-length t (s + 1)))

        this_or_later : (NoneLeadsUp t root s (c + 1) → (link : Link) × IsLink t root s link) → c < first_channel t (s + 1) → (row : (row : ChannelRow) × (slice_get t.channels c ≡ Some row)) → (back : (r : ℕ) × IsReverse t c r) →
            Walk (LeadsTo t) n row.0.tip.0 root ⊎ ¬ Walk (LeadsTo t) n row.0.tip.0 root → (link : Link) × IsLink t root s link
        this_or_later later past row back (inl walk) =
            let tip_is = ap (λ o. option_map (λ (r : ChannelRow). r.tip) o) row.1 in
            let over : LeadsTo t s row.0.tip.0 = leads t good s root n far c row.0.tip from past tip_is in
            let near : IsHopCount t row.0.tip.0 root n = record { holds = walk; least = λ m w. omega (arith, far.least (suc m) (row.0.tip.0, over, w)) } in
            (record { channel = c; reverse = back.0; parent = row.0.tip.0 }, is_link t good s root n far c row.0.tip from past tip_is back.0 back.1 near none)
        this_or_later later past row back (inr apart) =
            let tip_is = ap (λ o. option_map (λ (r : ChannelRow). r.tip) o) row.1 in
            later (none_further t good s root n far c row.0.tip from past tip_is none (λ near. apart near.holds))

  link_there : (s root : ℕ) → AreConnected t s root → (own : Option Link) × IsLinked t root s own
  link_there s root joined = by_count (connected_have_count t s root joined).0 (connected_have_count t s root joined).1
    where
      by_count : (n : ℕ) → IsHopCount t s root n → (own : Option Link) × IsLinked t root s own
      by_count zero here = (None, here.holds)
      by_count (suc n) far =
          let ordered : first_channel t s ≤ first_channel t (s + 1) = first_channel-le t s in
          let link : (link : Link) × IsLink t root s link = found s root n far (first_channel t (s + 1) - first_channel t s) (first_channel t s) (omega arith) (omega (arith, ordered)) (λ d from less. absurd (omega (arith, from, less))) in
          (Some link.0, link.1)

  links_there : (roots : List ℕ) → AreRooted t roots → (n : ℕ) → n ≤ length t.switches → (links : List (Option Link)) × AreLinks t n roots links
  links_there roots are zero low = ([], record { each = refl; right = λ s less. absurd (omega (arith, less)) })
  links_there roots are (suc n) low =
      let before : (links : List (Option Link)) × AreLinks t n roots links = links_there roots are n (omega (arith, low)) in
      let own : (own : Option Link) × IsLinked t (slice_index_or roots n 0) n own = link_there n (slice_index_or roots n 0) (root_joined t roots n are (omega (arith, low))) in
      let next : n + 1 ≡ suc n = omega arith in
      (before.0 ++ own.0 ∷ [], subst (λ k. AreLinks t k roots (before.0 ++ own.0 ∷ [])) next (link_pushed t n roots own.0 before.0 (omega (arith, are.each, low)) before.1 own.1))

pub forest_exists : ForestExists
forest_exists t lane good =
    let roots : (roots : List ℕ) × AreRoots t lane (length t.switches) roots = roots_there t good lane (length t.switches) (omega arith) in
    let links : (links : List (Option Link)) × AreLinks t (length t.switches) roots.0 links = links_there t good roots.0 (rooted t lane roots.0 roots.1) (length t.switches) (omega arith) in
    (forest_of roots.0 links.0, is_escape_forest t lane roots.0 links.0 roots.1 links.1)

-- A lane of a fabric has one forest.
use Rattle.std.proofs.Common.{◌≡◌, ℕ, ◌<◌, List, length, refl, sym, ◌∙◌, ap, subst, arith, Some, None, Option}
use Rattle.std.specs.Prelude.{slice_get, IfSome}
use Rattle.std.proofs.lemmas.List.{same_lists, get_or_default}
use Rattle.fab_graph.proofs.Graphs.{one_least}
use Rattle.fab_model.specs.declared.rows.ChannelRow.{ChannelRow}
use Rattle.fab_model.specs.Topology.{Topology, reversed, IsReverse}
use Rattle.fab_model.specs.WellFormed.{IsWellFormed}
use Rattle.fab_tables.specs.Route.{tip}
use Rattle.fab_escape.specs.declared.links.Link.{Link}
use Rattle.fab_escape.specs.Forest.{Forest, root_of, link_of}
use Rattle.fab_escape.specs.Trees.{LeadsUp, IsLink, IsLinked, IsEscapeForest}
use Rattle.fab_escape.specs.Laws.{OneForest}
use Rattle.fab_model.proofs.Channels.{channel_once}
use Rattle.fab_escape.proofs.OneRoot.{root_is_one}

one_reverse : (t : Topology) → IsWellFormed t → (c r q : ℕ) (row : ChannelRow) → slice_get t.channels c ≡ Some row → IsReverse t c r → IsReverse t c q → r ≡ q
one_reverse t good c r q row there x y =
    channel_once t good r q (reversed row) (subst (λ o. IfSome o (λ (w : ChannelRow). slice_get t.channels r ≡ Some (reversed w))) there x)
    (subst (λ o. IfSome o (λ (w : ChannelRow). slice_get t.channels q ≡ Some (reversed w))) there y)

abbrev link_made : ℕ → ℕ → ℕ → Link
link_made c d s = record { channel = c; reverse = d; parent = s }

same_link : (x y : Link) → x.channel ≡ y.channel → x.reverse ≡ y.reverse → x.parent ≡ y.parent → x ≡ y
same_link x y p q r = ap (λ c. link_made c x.reverse x.parent) p ∙ ap (λ d. link_made y.channel d x.parent) q ∙ ap (λ s. link_made y.channel y.reverse s) r

one_link : (t : Topology) → IsWellFormed t → (root s : ℕ) (x y : Link) → IsLink t root s x → IsLink t root s y → x ≡ y
one_link t good root s x y p q =
    let channel : x.channel ≡ y.channel = one_least (λ d. LeadsUp t root s d) x.channel y.channel p.upward q.upward in
    let up : LeadsUp t root s y.channel = q.upward.holds in
    same_link x y channel
    (one_reverse t good y.channel x.reverse y.reverse up.0 up.2 (subst (λ c. IsReverse t c x.reverse) channel p.downward) q.downward)
    (sym p.leads ∙ subst (λ c. tip t c ≡ y.parent) (sym channel) q.leads)

one_linked : (t : Topology) → IsWellFormed t → (root s : ℕ) (x y : Option Link) → IsLinked t root s x → IsLinked t root s y → x ≡ y
one_linked t good root s None None p q = refl
one_linked t good root s None (Some y) p q = absurd (q.below p)
one_linked t good root s (Some x) None p q = absurd (p.below q)
one_linked t good root s (Some x) (Some y) p q = ap Some (one_link t good root s x y p q)

module _ (t : Topology) (good : IsWellFormed t) (lane : ℕ) (f g : Forest) (p : IsEscapeForest t lane f) (q : IsEscapeForest t lane g) where
  same_root : (s : ℕ) → s < length t.switches → root_of f s ≡ root_of g s
  same_root s low = root_is_one t good lane s s (root_of f s) (root_of g s) (0, refl) (p.roots s low) (q.roots s low)

  same_roots : f.roots ≡ g.roots
  same_roots = same_lists f.roots g.roots (p.each_root ∙ sym q.each_root) (λ k d low.
      get_or_default f.roots k d k low ∙ same_root k (omega (arith, low, p.each_root)) ∙ sym (get_or_default g.roots k d k (omega (arith, low, p.each_root, q.each_root))))

  same_links : f.links ≡ g.links
  same_links = same_lists f.links g.links (p.each_link ∙ sym q.each_link) (λ k d low.
      let below : k < length t.switches = omega (arith, low, p.each_link) in
      get_or_default f.links k d None low
      ∙ one_linked t good (root_of g k) k (link_of f k) (link_of g k) (subst (λ r. IsLinked t r k (link_of f k)) (same_root k below) (p.links k below)) (q.links k below)
      ∙ sym (get_or_default g.links k d None (omega (arith, below, q.each_link))))

abbrev forest_made : List ℕ → List (Option Link) → Forest
forest_made xs ys = record { roots = xs; links = ys }

same_forest : (f g : Forest) → f.roots ≡ g.roots → f.links ≡ g.links → f ≡ g
same_forest f g p q = ap (λ xs. forest_made xs f.links) p ∙ ap (λ ys. forest_made g.roots ys) q

pub one_forest : OneForest
one_forest t lane f g good p q = same_forest f g (same_roots t good lane f g p q) (same_links t good lane f g p q)

-- What a forest that was made keeps.
use Rattle.std.proofs.Common.{◌≡◌, ℕ, suc, ◌<◌, List, length, refl, sym, ◌∙◌, ap, subst, arith, Some, None, Option}
use Rattle.std.specs.Prelude.{IfSome, slice_index_or}
use Rattle.std.proofs.lemmas.List.{get_or_default}
use Rattle.std.proofs.lemmas.List.Elements.{All-from_get_or}
use Rattle.fab_model.specs.Topology.{Topology}
use Rattle.fab_model.specs.WellFormed.{IsWellFormed}
use Rattle.fab_hops.proofs.HopLaws.{one_hop_count, hops_small}
use Rattle.fab_hops.proofs.HopWalks.{no_hops}
use Rattle.fab_escape.specs.declared.links.Link.{Link}
use Rattle.fab_escape.specs.Forest.{Forest, root_of, link_of}
use Rattle.fab_escape.specs.Climbing.{AreDepths}
use Rattle.fab_escape.specs.Trees.{IsLinked, IsEscapeForest, IsForest, AreRoots, AreLinks, AreHopsToRoots}
use Rattle.fab_escape.proofs.OneRoot.{root_below}
use Rattle.fab_escape.proofs.Depths.{Ascends, ascends}

abbrev pub forest_of : List ℕ → List (Option Link) → Forest
forest_of roots links = record { roots = roots; links = links }

module _ (t : Topology) (good : IsWellFormed t) (lane : ℕ) (f : Forest) (forest : IsEscapeForest t lane f) where
  pub is_forest : IsForest f
  is_forest = record {
    each = forest.each_link ∙ sym forest.each_root;
    roots = All-from_get_or (λ root. root < length f.roots) f.roots 0 (λ s low.
        let below : root_of f s < length t.switches = root_below t good lane f forest s (omega (arith, low, forest.each_root)) in
        omega (arith, below, get_or_default f.roots s s 0 low, forest.each_root));
    parents = All-from_get_or (λ own. IfSome own (λ (link : Link). link.parent < length f.roots)) f.links None (λ s low. parent s (omega (arith, low, forest.each_link)) (link_of f s) refl);
  }
    where
      parent : (s : ℕ) → s < length t.switches → (own : Option Link) → link_of f s ≡ own → IfSome own (λ (link : Link). link.parent < length f.roots)
      parent s low None e = tt
      parent s low (Some link) e = omega (arith, (ascends t good lane f forest s link low e).below, forest.each_root)

  module _ (depths : List ℕ) (hops : AreHopsToRoots t (length t.switches) f.roots depths) where
    low_in : (s : ℕ) → s < length f.links → s < length t.switches
    low_in s low = omega (arith, low, forest.each_link)

    pub are_depths : AreDepths f depths
    are_depths = record {
      each = omega (arith, hops.each, forest.each_link);
      small = λ s low. omega (arith, hops_small t s (root_of f s) (slice_index_or depths s 0) good (low_in s low) (hops.right s (low_in s low)), forest.each_link);
      roots = λ s low none.
          let root : s ≡ root_of f s = subst (λ own. IsLinked t (root_of f s) s own) none (forest.links s (low_in s low)) in
          one_hop_count t s (root_of f s) (slice_index_or depths s 0) 0 (hops.right s (low_in s low)) (no_hops t s (root_of f s) root);
      others = λ s link low has.
          let up : Ascends t f s link = ascends t good lane f forest s link (low_in s low) has in (
            omega (arith, up.below, forest.each_link),
            one_hop_count t s (root_of f s) (slice_index_or depths s 0) (suc up.hops) (hops.right s (low_in s low)) up.far
                ∙ ap (λ n. suc n) (one_hop_count t link.parent (root_of f link.parent) up.hops (slice_index_or depths link.parent 0) up.near (hops.right link.parent up.below)),
          );
    }

pub is_escape_forest : (t : Topology) (lane : ℕ) (roots : List ℕ) (links : List (Option Link)) → AreRoots t lane (length t.switches) roots → AreLinks t (length t.switches) roots links → IsEscapeForest t lane (forest_of roots links)
is_escape_forest t lane roots links are linked = record { each_root = are.each; each_link = linked.each; roots = are.right; links = linked.right }

-- depths are those of the links
pub other_roots : (f : Forest) (roots depths : List ℕ) (links : List (Option Link)) → f.links ≡ links → AreDepths (forest_of roots links) depths → AreDepths f depths
other_roots f roots depths links same are = subst (λ xs. AreDepths (forest_of f.roots xs) depths) (sym same) (record { each = are.each; small = are.small; roots = are.roots; others = are.others })

use Rattle.std.proofs.Common.{◌∙◌, None, length, sym, subst, ap, refl}
use Rattle.std.specs.Prelude.{IsSome}
use Rattle.std.proofs.lemmas.List.{length-replicate}
use Rattle.fab_tables.proofs.Paths.FallingRoutes.{place_below}
use Rattle.fab_depgraph.specs.Listed.{IsListed}
use Rattle.fab_sssp.specs.WeightTables.{weight_of}
use Rattle.fab_nue.specs.Searching.{IsEndWith}
use Rattle.fab_nue.proofs.Laying.LidPlaces.{has_place}
use Rattle.fab_nue.proofs.Heaps.Beginning.{nothing_held_once, nothing_elsewhere, begins}
use Rattle.fab_nue.proofs.Heaps.Ends.{each_switch, completed, got_stuck}
use Rattle.fab_nue.proofs.Heaps.Swapped.{mark_within, cut_listed, cut_spare}
use Rattle.fab_nue.proofs.guarded_search.search.Goals as goal
use Rattle.fab_nue.proofs.guarded_search.search.Goals.{in-Complete, in-Impasse}

pub unwrap-requires : goal.unwrap-requires
unwrap-requires g c = subst (λ o. IsSome o) (sym (c.place_of.ensures ∙ (has_place c.args.fabric.now c.args.lid.0 c.requires.in_use).1)) refl

pub offer-requires-clause-tree : goal.offer-requires-clause-tree
offer-requires-clause-tree g c = ap length c.unsettle_all.ensures.empty ∙ length-replicate (length c.args.fabric.now.switches) None

pub offer-requires-clause-settled : goal.offer-requires-clause-settled
offer-requires-clause-settled g c = place_below c.args.fabric.now c.unsettle_all.ensures.kept.rows c.args.lid.0 c.unwrap.result (sym c.place_of.ensures ∙ c.unwrap.ensures)

pub offer-requires-clause-holds : goal.offer-requires-clause-holds
offer-requires-clause-holds g c = nothing_held_once c.args.fabric.now c.clear.new.self.entries c.clear.ensures.empty

pub offer-requires-clause-elsewhere : goal.offer-requires-clause-elsewhere
offer-requires-clause-elsewhere g c = nothing_elsewhere c.args.fabric.now c.unwrap.result.switch.0 c.clear.new.self.entries c.clear.ensures.empty

pub take_steps-requires-clause-under_way : goal.take_steps-requires-clause-under_way
take_steps-requires-clause-under_way g c = (
  c.args.used.now,
  c.mark-start.ensures.length,
  begins c.args.fabric.now (λ k. weight_of c.args.weights.now k) c.unwrap.result.switch.0 c.unsettle_all.new.tree c.clear.new.self.entries c.offer.new.choices.entries c.unsettle_all.ensures.empty
      c.clear.ensures.empty c.offer.ensures.offered c.args.used.now c.mark-start.ensures.acyclic c.requires.spare,
)

pub undo_to-requires : goal.undo_to-requires
undo_to-requires g c =
    let start = c.args.used.now in
    let begun = begins c.args.fabric.now (λ k. weight_of c.args.weights.now k) c.unwrap.result.switch.0 c.unsettle_all.new.tree c.clear.new.self.entries c.offer.new.choices.entries c.unsettle_all.ensures.empty
    c.clear.ensures.empty c.offer.ensures.offered start c.mark-start.ensures.acyclic c.requires.spare in
    mark_within _ _ _ _ _ _ c.unsettle_all.ensures.kept.rows _ _ c.mark-start.ensures.length (c.take_steps.ensures.under_way start c.mark-start.ensures.length begun)

pub unsettle_all-requires-in-Impasse : goal.unsettle_all-requires-in-Impasse
unsettle_all-requires-in-Impasse g c =
    let start = c.args.used.now in
    let begun = begins c.args.fabric.now (λ k. weight_of c.args.weights.now k) c.unwrap.result.switch.0 c.unsettle_all.new.tree c.clear.new.self.entries c.offer.new.choices.entries c.unsettle_all.ensures.empty
    c.clear.ensures.empty c.offer.ensures.offered start c.mark-start.ensures.acyclic c.requires.spare in
    each_switch _ _ _ _ _ _ _ (c.take_steps.ensures.under_way start c.mark-start.ensures.length begun) c.unsettle_all.ensures.kept.rows

pub returns-clause-exact : goal.returns-clause-exact
returns-clause-exact g c =
    let t = c.args.fabric.now in
    let to = c.unwrap.result.switch.0 in
    let start = c.args.used.now in
    let begun = begins t (λ k. weight_of c.args.weights.now k) to c.unsettle_all.new.tree c.clear.new.self.entries c.offer.new.choices.entries c.unsettle_all.ensures.empty c.clear.ensures.empty c.offer.ensures.offered
    start c.mark-start.ensures.acyclic c.requires.spare in
    let good = c.unsettle_all.ensures.kept.rows in
    let now = c.take_steps.ensures.under_way start c.mark-start.ensures.length begun in
    let end : IsEndWith t (IsListed start.listed) to c.take_steps.new.tree c.take_steps.result = c.take_steps.ensures.end start c.mark-start.ensures.length begun in (
      c.unwrap.result,
      sym c.place_of.ensures ∙ c.unwrap.ensures,
      elim c.match-take_steps.branch [
        | in-Complete w ↦ rw (w.used-is, w.tree-is, w.result-is) (completed _ _ _ _ _ _ _ now (subst (IsEndWith t (IsListed start.listed) to c.take_steps.new.tree) w.in-Complete.is end), now.adds)
        | in-Impasse w ↦ rw (w.used-is, w.tree-is, w.result-is) (
          got_stuck _ _ _ _ _ _ _ now (subst (IsEndWith t (IsListed start.listed) to c.take_steps.new.tree) w.in-Impasse.is end),
          cut_listed _ _ _ _ _ _ good _ _ c.mark-start.ensures.length now w.undo_to.new.self w.undo_to.ensures.listed w.undo_to.ensures.spare,
          cut_spare _ _ _ _ _ _ good _ _ c.mark-start.ensures.length now w.undo_to.new.self w.undo_to.ensures.listed w.undo_to.ensures.spare,
          w.unsettle_all-in-Impasse.ensures.empty,
        )
      ],
    )

pub returns-clause-each_switch : goal.returns-clause-each_switch
returns-clause-each_switch g c =
    let start = c.args.used.now in
    let begun = begins c.args.fabric.now (λ k. weight_of c.args.weights.now k) c.unwrap.result.switch.0 c.unsettle_all.new.tree c.clear.new.self.entries c.offer.new.choices.entries c.unsettle_all.ensures.empty
    c.clear.ensures.empty c.offer.ensures.offered start c.mark-start.ensures.acyclic c.requires.spare in
    elim c.match-take_steps.branch [
      | in-Complete w ↦ rw w.tree-is (each_switch _ _ _ _ _ _ _ (c.take_steps.ensures.under_way start c.mark-start.ensures.length begun) c.unsettle_all.ensures.kept.rows)
      | in-Impasse w ↦ rw w.tree-is (ap length w.unsettle_all-in-Impasse.ensures.empty ∙ length-replicate (length c.args.fabric.now.switches) None)
    ]

use Rattle.std.proofs.Common.{◌≡◌, ◌∙◌, inl, inr, Some, length, refl, sym, ap, subst, arith}
use Rattle.std.specs.Prelude.{IsSome, MatchBool}
use Rattle.std.proofs.lemmas.Bool.{both_ways}
use Rattle.fab_model.specs.Topology.{Topology, place_of, is_source}
use Rattle.fab_model.specs.Connected.{AreConnected, IsConnectedTo}
use Rattle.fab_tables.specs.Fit.{IsSource}
use Rattle.fab_tables.proofs.Paths.FallingRoutes.{place_below, connected_below}
use Rattle.fab_tables.proofs.Faults.RouteFaults.{apart_by}
use Rattle.fab_nue.specs.Kept.{KeepsLevel}
use Rattle.fab_nue.specs.OldRoutes.{KeepsLevelAlong}
use Rattle.fab_nue.proofs.Searching.Growing.{same_or_other}
use Rattle.fab_nue.proofs.Laying.LidPlaces.{has_place}
use Rattle.fab_nue.proofs.Keeping.OldLevels.{along_route, route_along}
use Rattle.fab_nue.proofs.Keeping.RouteTrees.{route_tree}
use Rattle.fab_nue.proofs.old_levels.keep_levels.Goals as goal
use Rattle.fab_nue.proofs.old_levels.keep_levels.Goals.{else-has_terminal-via-then-has_terminal+then-are_connected+else-not-keeps_level, else-has_terminal-via-then-has_terminal+else-are_connected, else-has_terminal-via-else-has_terminal}

pub unwrap-requires : goal.unwrap-requires
unwrap-requires c = subst (λ o. IsSome o) (sym (c.place_of.ensures ∙ (has_place c.args.fabric.now c.args.lid.0 c.requires.in_use).1)) refl

pub are_connected-requires-clause-second : goal.are_connected-requires-clause-second
are_connected-requires-clause-second c =
    let t = c.args.fabric.now in
    omega (
      arith,
      ap (λ (x : Topology). length x.switches) c.requires.components,
      place_below t c.requires.fabric.rows c.args.lid.0 c.unwrap.result (sym c.place_of.ensures ∙ c.unwrap.ensures),
    )

pub keeps_level-requires-clause-tree : goal.keeps_level-requires-clause-tree
keeps_level-requires-clause-tree c = route_tree c.args.fabric.now c.args.old.now.tables c.args.lid.0 c.args.tree.now c.requires.fabric.rows c.requires.tree

pub loop-s-preserved : goal.loop-s-preserved
loop-s-preserved c =
    let t = c.args.fabric.now in
    let old = c.args.old.now in
    let lid = c.args.lid.0 in
    let s = c.loop-s.s in
    let place = c.unwrap.result in
    let home : place_of t lid ≡ Some place = sym c.place_of.ensures ∙ c.unwrap.ensures in
    λ x below source connected. elim (same_or_other x s) [
      | inr other ↦ c.loop-s.invariant x (omega (arith, below, other)) source connected
      | inl same ↦
          (let source_here : IsSource t s = subst (λ k. IsSource t k) same source in
          let connected_here : IsConnectedTo t s lid = subst (λ k. IsConnectedTo t k lid) same connected in
          subst (λ k. KeepsLevel t c.args.lanes old k lid) (sym same) (elim c.else-has_terminal.branch [
            | else-has_terminal-via-then-has_terminal+then-are_connected+else-not-keeps_level w ↦
                along_route t c.args.lanes old lid c.args.tree.now c.requires.fabric.rows c.requires.tree s connected_here
                (subst (λ b. MatchBool b (KeepsLevelAlong t c.args.lanes old c.args.tree.now s lid) (¬ KeepsLevelAlong t c.args.lanes old c.args.tree.now s lid)) w.if-not-keeps_level.false w.keeps_level.ensures)
            | else-has_terminal-via-then-has_terminal+else-are_connected w ↦ absurd (apart_by t lid place s home
                (λ joined. both_ways w.are_connected.result w.if-are_connected.false (w.are_connected.ensures.1 (subst (λ y. AreConnected y s place.switch.0) (sym c.requires.components) joined)))
                connected_here)
            | else-has_terminal-via-else-has_terminal w ↦ absurd (both_ways (is_source t s) (sym c.has_terminal.ensures ∙ w.if-has_terminal.false) source_here)
          ]))
    ]

pub returns-then-not-keeps_level : goal.returns-then-not-keeps_level
returns-then-not-keeps_level c keep =
    let t = c.args.fabric.now in
    let old = c.args.old.now in
    let lid = c.args.lid.0 in
    let s = c.loop-s.s in
    let place = c.unwrap.result in
    let home : place_of t lid ≡ Some place = sym c.place_of.ensures ∙ c.unwrap.ensures in
    let joined : AreConnected t s place.switch.0 = subst (λ y. AreConnected y s place.switch.0) c.requires.components (c.are_connected.ensures.0 c.if-are_connected.true) in
    let connected : IsConnectedTo t s lid = (place, home, joined) in
    let Along : Type 0 = KeepsLevelAlong t c.args.lanes old c.args.tree.now s lid in
    let not_along : ¬ Along = subst (λ b. MatchBool b Along (¬ Along)) c.if-not-keeps_level.true c.keeps_level.ensures in
    not_along (route_along t c.args.lanes old lid c.args.tree.now c.requires.fabric.rows c.requires.tree s connected (keep s (sym c.has_terminal.ensures ∙ c.if-has_terminal.true) connected))

pub returns : goal.returns
returns c = λ s source connected. c.loop-s.invariant s (omega (arith, c.loop-s-test.false, c.switches-s-end.ensures.count, connected_below c.args.fabric.now c.requires.fabric.rows s c.args.lid.0 connected)) source connected

use Rattle.std.proofs.Common.{rules, ◌≡◌, ◌∙◌, ◌<◌, ◌⊎◌, inl, inr, ℕ, length, length-set, Option, refl, sym, ap, subst, arith}
use Rattle.std.specs.Prelude.{IsSome, IfSome, IsTrue, slice_get, option_map}
use Rattle.fab_model.specs.declared.rows.ChannelId.{ChannelId}
use Rattle.fab_model.specs.declared.rows.Place.{Place}
use Rattle.fab_model.specs.Topology.{Topology, place_of}
use Rattle.fab_model.specs.Connected.{AreConnected, IsConnectedTo}
use Rattle.fab_tables.specs.declared.end.End.TheVariants.{Delivered}
use Rattle.fab_tables.specs.Trees.{LeavesSwitch}
use Rattle.fab_tables.proofs.Paths.FallingRoutes.{place_below}
use Rattle.fab_nue.proofs.Laying.LidPlaces.{has_place}
use Rattle.fab_nue.proofs.Keeping.RouteTrees.{read_leaves, routed_more, is_connected, are_joined, IsFirst}
use Rattle.fab_nue.proofs.old_routes.write_route_tree.Goals as goal
use Rattle.fab_nue.proofs.old_routes.write_route_tree.Goals.{then-are_connected+else-ne, else-are_connected}

pub unwrap-requires : goal.unwrap-requires
unwrap-requires c = subst (λ o. IsSome o) (sym (c.place_of.ensures ∙ (has_place c.args.fabric.now c.args.lid.0 c.requires.toward.in_use).1)) refl

pub are_connected-requires-clause-second : goal.are_connected-requires-clause-second
are_connected-requires-clause-second c = subst (λ (t : Topology). c.unwrap.result.switch.0 < length t.switches) (sym c.requires.components)
    (place_below c.args.fabric.now c.requires.toward.fabric.rows c.args.lid.0 c.unwrap.result (sym c.place_of.ensures ∙ c.unwrap.ensures))

pub set-requires-clause-leaves : goal.set-requires-clause-leaves
set-requires-clause-leaves c = elim c.if-are_connected.branch [
  | then-are_connected+else-ne w ↦
      subst (λ (o : Option ChannelId). IfSome o (λ (d : ChannelId). LeavesSwitch c.args.fabric.now d.0 c.loop-s.s)) (sym w.first-is)
      (read_leaves c.args.fabric.now c.args.tables.now c.args.lid.0 c.loop-s.s c.requires.toward.fabric.rows w.ends_of_route-channel.result.0 w.ends_of_route-channel.ensures.first)
  | else-are_connected w ↦ subst (λ (o : Option ChannelId). IfSome o (λ (d : ChannelId). LeavesSwitch c.args.fabric.now d.0 c.loop-s.s)) (sym w.first-is) (record {})
]

pub loop-s-preserved : goal.loop-s-preserved
loop-s-preserved c =
    let t = c.args.fabric.now in
    let e = c.args.tables.now in
    let lid = c.args.lid.0 in
    let s = c.loop-s.s in
    let place = c.unwrap.result in
    let at : place_of t lid ≡ _ = sym c.place_of.ensures ∙ c.unwrap.ensures in
    let first : IsFirst t e lid s (option_map (λ (d : ChannelId). d.0) c.if-are_connected.first) = elim c.if-are_connected.branch [
      | then-are_connected+else-ne w ↦ inl (
        is_connected t c.args.components.now lid s place c.are_connected.result c.requires.components at c.are_connected.ensures w.if-are_connected.true,
        (let end : w.ends_of_route-channel.result.1 ≡ Delivered = search rules in sym w.ends_of_route-channel.ensures.end ∙ end),
        ap (λ o. option_map (λ (d : ChannelId). d.0) o) w.first-is ∙ w.ends_of_route-channel.ensures.first,
      )
      | else-are_connected w ↦ inr (
        (λ joined. are_joined t c.args.components.now lid s place c.are_connected.result c.requires.components at c.are_connected.ensures w.if-are_connected.false joined),
        ap (λ o. option_map (λ (d : ChannelId). d.0) o) w.first-is,
      )
    ] in
    rw c.set.ensures (record {
      each_switch = length-set c.loop-s.tree s _ ∙ c.loop-s.invariant.each_switch;
      each = routed_more t e lid c.loop-s.tree s (option_map (λ (d : ChannelId). d.0) c.if-are_connected.first) (omega (arith, c.loop-s.invariant.each_switch, c.loop-s-test.true, c.switches-s-end.ensures.count)) first c.loop-s.invariant.each;
    })

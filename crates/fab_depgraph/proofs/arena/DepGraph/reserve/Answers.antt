use Rattle.std.proofs.Common.{◌≡◌, ◌<◌, ◌+◌, ◌^◌, List, length, ◌∙◌, ap, sym, subst, arith}
use Rattle.fab_depgraph.specs.declared.dep.Dep.{Dep}
use Rattle.fab_depgraph.specs.Listed.{Dependencies, AreDependencies}
use Rattle.fab_depgraph.specs.Arena.{rows_of}
use Rattle.fab_depgraph.proofs.Listing.Kept.{respared}
use Rattle.fab_depgraph.proofs.arena.DepGraph.reserve.Goals as goal

pub invariant_of-self-2 : goal.invariant_of-self-2
invariant_of-self-2 c =
    let inside = c.self.inside in
    let kept = c.self.invariant in
    let g : Dependencies = record { channels = length inside.order; listed = inside.trail.items; spare = inside.room; numbers = inside.order } in
    let room = c.max-room.result in
    let same : c.reserve-2.new.self.items ≡ inside.trail.items = c.reserve-2.ensures.items in
    let long : length c.reserve-2.new.self.items ≡ length inside.trail.items = ap (length {A = Dep}) same in
    let few : length inside.trail.items + c.args.more < 2 ^ 32 = omega (arith, c.requires, ap (λ (g : Dependencies). length g.listed) c.self.view_is) in
    let fits : length inside.trail.items + room < 2 ^ 32 = omega (arith, few, kept.dependencies.short, c.max-room.ensures) in
    record {
      dependencies = subst (λ (ds : List Dep). AreDependencies (record { channels = length inside.order; listed = ds; spare = room; numbers = inside.order })) (sym same) (respared g kept.dependencies room fits);
      rows = c.reserve.ensures.rows ∙ (kept.rows ∙ ap (rows_of (length inside.order)) (sym same));
      marks = kept.marks;
      edge_room = omega (arith, c.in_ok-reserve.ensures.ok, long, c.len.ensures, inside.trail.ok.0);
      trail_room = omega (arith, c.in_ok-reserve-2.ensures.ok, long, inside.trail.ok.0);
    }

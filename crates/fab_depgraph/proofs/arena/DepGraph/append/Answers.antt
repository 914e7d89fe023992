use Rattle.std.proofs.Common.{◌≡◌, ◌<◌, ◌+◌, ◌-◌, ◌++◌, ◌∷◌, [], List, length, slice_index, vec_capacity, sym, ap, subst, arith}
use Rattle.std.proofs.lemmas.List.Sums.{count_by-le-length}
use Rattle.fab_depgraph.specs.declared.dep.Dep.{Dep}
use Rattle.fab_depgraph.specs.Edges.{Row, row_at, edge_count, times_in}
use Rattle.fab_depgraph.specs.Listed.{Dependencies, same_dep, IsWithin, number}
use Rattle.fab_depgraph.specs.Arena.{IsArena}
use Rattle.fab_depgraph.proofs.Listing.Added.{length_of, edges_of}
use Rattle.fab_depgraph.proofs.Listing.Kept.{added_arena, times_all}
use Rattle.fab_depgraph.proofs.arena.DepGraph.append.Goals as goal

pub raise-requires-clause-within : goal.raise-requires-clause-within
raise-requires-clause-within c =
    let inside = c.self.inside in
    omega (arith, c.requires.within.0, ap (λ (g : Dependencies). g.channels) c.self.view_is, ap (length {A = Row}) c.self.invariant.rows, length_of (length inside.order) inside.trail.items)

pub raise-requires-clause-room : goal.raise-requires-clause-room
raise-requires-clause-room c =
    let inside = c.self.inside in
    omega (arith, c.requires.spare, ap (λ (g : Dependencies). g.spare) c.self.view_is, ap edge_count c.self.invariant.rows, edges_of (length inside.order) inside.trail.items, c.self.invariant.edge_room)

pub raise-requires-clause-fits : goal.raise-requires-clause-fits
raise-requires-clause-fits c =
    let inside = c.self.inside in
    let g : Dependencies = record { channels = length inside.order; listed = inside.trail.items; spare = inside.room; numbers = inside.order } in
    omega (
      arith,
      c.requires.spare,
      ap (λ (g : Dependencies). g.spare) c.self.view_is,
      c.self.invariant.dependencies.short,
      ap (λ (rows : List Row). times_in (row_at rows c.args.dep.first.0) c.args.dep.second.0) c.self.invariant.rows,
      times_all g c.self.invariant.dependencies c.args.dep,
      count_by-le-length (λ e. same_dep e c.args.dep) inside.trail.items,
    )

pub invariant_of-self : goal.invariant_of-self
invariant_of-self c =
    let inside = c.self.inside in
    let within : IsWithin (length inside.order) c.args.dep = subst (λ (g : Dependencies). IsWithin g.channels c.args.dep) (sym c.self.view_is) c.requires.within in
    let less : slice_index inside.order c.args.dep.first.0 < slice_index inside.order c.args.dep.second.0 = subst (λ (g : Dependencies). number g c.args.dep.first.0 < number g c.args.dep.second.0) (sym c.self.view_is) c.requires.rises in
    let one : inside.room ≡ inside.room - 1 + 1 = omega (arith, c.requires.spare, ap (λ (g : Dependencies). g.spare) c.self.view_is) in
    let arena = added_arena inside.edges c.raise.new.self inside.order inside.search inside.trail.items c.args.dep (vec_capacity inside.trail) c.raise.ensures.capacity inside.room (inside.room - 1) c.self.invariant within less one c.raise.ensures.rows in
    subst (λ (ds : List Dep). IsArena c.raise.new.self inside.order inside.search ds (inside.room - 1) (vec_capacity c.push_reserved.new.self)) (sym c.push_reserved.ensures.items)
    (subst (λ n. IsArena c.raise.new.self inside.order inside.search (inside.trail.items ++ c.args.dep ∷ []) (inside.room - 1) n) (sym c.push_reserved.ensures.capacity) arena)

pub returns-clause-acyclic : goal.returns-clause-acyclic
returns-clause-acyclic c = (invariant_of-self c).dependencies.acyclic

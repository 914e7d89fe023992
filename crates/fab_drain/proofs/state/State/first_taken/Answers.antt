use Rattle.std.proofs.Common.{◌<◌, length, sym, subst, arith, None}
use Rattle.std.specs.Prelude.{IsSome}
use Rattle.std.proofs.lemmas.List.{get_or_read}
use Rattle.fab_graph.specs.Least.{IsLeast}
use Rattle.fab_drain.specs.Loads.{Load, packet_count}
use Rattle.fab_drain.specs.Drains.{IsTakenNumber}
use Rattle.fab_drain.proofs.WalkedRings.{some_left, first_one}
use Rattle.fab_drain.proofs.state.State.first_taken.Goals as goal

pub index-requires : goal.index-requires
index-requires c =
    let load : Load = record { count = c.self.inside.lanes; cells = c.self.inside.cells.items } in
    omega (arith, some_left load c.loop-self.number (subst (λ (l : Load). 0 < packet_count l) (sym c.self.view_is) c.requires) c.loop-self.invariant)

pub overflow_add-number : goal.overflow_add-number
overflow_add-number c =
    let load : Load = record { count = c.self.inside.lanes; cells = c.self.inside.cells.items } in
    omega (arith, c.self.invariant.few_cells, some_left load c.loop-self.number (subst (λ (l : Load). 0 < packet_count l) (sym c.self.view_is) c.requires) c.loop-self.invariant)

pub loop-self-smaller : goal.loop-self-smaller
loop-self-smaller c =
    let load : Load = record { count = c.self.inside.lanes; cells = c.self.inside.cells.items } in
    omega (arith, some_left load c.loop-self.number (subst (λ (l : Load). 0 < packet_count l) (sym c.self.view_is) c.requires) c.loop-self.invariant)

pub returns : goal.returns
returns c =
    let load : Load = record { count = c.self.inside.lanes; cells = c.self.inside.cells.items } in
    let low : c.loop-self.number < length load.cells = some_left load c.loop-self.number (subst (λ (l : Load). 0 < packet_count l) (sym c.self.view_is) c.requires) c.loop-self.invariant in
    let read = get_or_read c.self.inside.cells.items c.loop-self.number c.index.result.now low c.index.ensures None in
    subst (λ (l : Load). IsLeast (IsTakenNumber l) c.loop-self.number) c.self.view_is
    (first_one load c.loop-self.number c.self.invariant.some_lane c.loop-self.invariant low (subst (λ o. IsSome o) read c.loop-self-test.ensures))

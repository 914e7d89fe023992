use Rattle.std.proofs.Common.{◌≡◌, ◌<◌, ◌≤◌, ◌++◌, ◌∷◌, [], Bool, List, length, sym, ◌∙◌, ap, subst, inl, inr, arith}
use Rattle.std.proofs.lemmas.Bool.{eqb-true, eqb-false, cases_lt}
use Rattle.fab_graph.specs.Walks.{Walk, HasClosedWalk}
use Rattle.fab_depgraph.specs.Edges.{Row}
use Rattle.fab_depgraph.specs.Order.{IsMovedBehind}
use Rattle.fab_depgraph.specs.Search.{Precedes, AreRising, IsClosed, IsShort}
use Rattle.fab_depgraph.specs.Listed.{Dependencies, AreDependencies, IsListed, IsWithin, number}
use Rattle.fab_depgraph.specs.Bound.{present_between}
use Rattle.fab_depgraph.specs.Arena.{rows_of}
use Rattle.fab_depgraph.proofs.Listing.Bound.{steps_bound}
use Rattle.fab_depgraph.proofs.Listing.Kept.{closes, walk_listed, edges_rise, moved_kept}
use Rattle.fab_depgraph.proofs.arena.DepGraph.make_rise.Goals as goal

pub returns-then-eq-clause-closes : goal.returns-then-eq-clause-closes
returns-then-eq-clause-closes g c =
    let same : c.args.dep.second.0 ≡ c.args.dep.first.0 = sym (eqb-true c.args.dep.first.0 c.args.dep.second.0 (sym c.if-eq.ensures)) in
    λ is_false. closes c.args.self.now.listed c.args.dep 0 same

pub meets-first_met-requires-clause-rising : goal.meets-first_met-requires-clause-rising
meets-first_met-requires-clause-rising g c =
    let inside = c.self.inside in
    let arena : Dependencies = record { channels = length inside.order; listed = inside.trail.items; spare = inside.room; numbers = inside.order } in
    let kept : AreDependencies arena = c.self.invariant.dependencies in
    subst (λ (rows : List Row). AreRising rows inside.order) (sym c.self.invariant.rows) (edges_rise arena kept)

pub returns-then-first_met-clause-closes : goal.returns-then-first_met-clause-closes
returns-then-first_met-clause-closes g c =
    let inside = c.self.inside in
    let arena : Dependencies = record { channels = length inside.order; listed = inside.trail.items; spare = inside.room; numbers = inside.order } in
    let kept : AreDependencies arena = c.self.invariant.dependencies in
    let s = c.meets-first_met.new.self in
    let second = c.args.dep.second.0 in
    let first = c.args.dep.first.0 in
    let met = c.meets-first_met.ensures.meets c.if-first_met.true in
    let walk : Walk (IsListed inside.trail.items) met.0 second first = walk_listed (length inside.order) inside.trail.items met.0 second first (subst (λ (rows : List Row). Walk (Precedes rows) met.0 second first) c.self.invariant.rows met.1) in
    λ is_false. subst (λ (g : Dependencies). HasClosedWalk (IsListed (g.listed ++ c.args.dep ∷ []))) c.self.view_is (closes inside.trail.items c.args.dep met.0 walk)

pub returns-then-first_met-clause-few_steps : goal.returns-then-first_met-clause-few_steps
returns-then-first_met-clause-few_steps g c =
    let inside = c.self.inside in
    let arena : Dependencies = record { channels = length inside.order; listed = inside.trail.items; spare = inside.room; numbers = inside.order } in
    let kept : AreDependencies arena = c.self.invariant.dependencies in
    let s = c.meets-first_met.new.self in
    let second = c.args.dep.second.0 in
    let first = c.args.dep.first.0 in
    let taken = c.meets-first_met.ensures.steps in
    let short : IsShort (rows_of arena.channels arena.listed) arena.numbers second first s taken.0 = subst (λ (rows : List Row). IsShort rows inside.order second first s taken.0) c.self.invariant.rows taken.2 in
    let bound : taken.0 ≤ present_between c.args.self.now c.args.dep = subst (λ (g : Dependencies). taken.0 ≤ present_between g c.args.dep) c.self.view_is (steps_bound arena c.args.dep s taken.0 short) in
    omega (arith, taken.1, bound)

pub returns-clause-few_steps : goal.returns-clause-few_steps
returns-clause-few_steps g c =
    let inside = c.self.inside in
    let arena : Dependencies = record { channels = length inside.order; listed = inside.trail.items; spare = inside.room; numbers = inside.order } in
    let kept : AreDependencies arena = c.self.invariant.dependencies in
    let s = c.meets-first_met.new.self in
    let second = c.args.dep.second.0 in
    let first = c.args.dep.first.0 in
    let taken = c.meets-first_met.ensures.steps in
    let short : IsShort (rows_of arena.channels arena.listed) arena.numbers second first s taken.0 = subst (λ (rows : List Row). IsShort rows inside.order second first s taken.0) c.self.invariant.rows taken.2 in
    let bound : taken.0 ≤ present_between c.args.self.now c.args.dep = subst (λ (g : Dependencies). taken.0 ≤ present_between g c.args.dep) c.self.view_is (steps_bound arena c.args.dep s taken.0 short) in
    omega (arith, taken.1, bound)

pub invariant_of-self-2 : goal.invariant_of-self-2
invariant_of-self-2 g c =
    let inside = c.self.inside in
    let arena : Dependencies = record { channels = length inside.order; listed = inside.trail.items; spare = inside.room; numbers = inside.order } in
    let kept : AreDependencies arena = c.self.invariant.dependencies in
    let s = c.meets-first_met.new.self in
    let second = c.args.dep.second.0 in
    let first = c.args.dep.first.0 in
    let new = c.move_behind.new.self in
    let closed : IsClosed (rows_of arena.channels arena.listed) arena.numbers second first s = subst (λ (rows : List Row). IsClosed rows inside.order second first s) c.self.invariant.rows (c.meets-first_met.ensures.closed c.if-first_met.false) in
    let moved : IsMovedBehind arena.numbers new (number arena second) (number arena first) s.marks =
    subst (λ n. IsMovedBehind inside.order new n (number arena first) s.marks) c.number-low.ensures
    (subst (λ n. IsMovedBehind inside.order new c.number-low.result n s.marks) c.number-high.ensures
    (subst (λ (marks : List Bool). IsMovedBehind inside.order new c.number-low.result c.number-high.result marks) c.marks.ensures c.move_behind.ensures.moved)) in
    let within : IsWithin arena.channels c.args.dep = subst (λ (g : Dependencies). IsWithin g.channels c.args.dep) (sym c.self.view_is) c.requires.within in
    let order : number arena second < number arena first = elim (cases_lt (number arena second) (number arena first)) [
      | inl less ↦ less
      | inr not_less ↦
          let same : number arena first ≡ number arena second = omega (arith, not_less, c.number-low.ensures, c.number-high.ensures, c.if-high-low.false) in
          absurd (eqb-false first second (sym c.if-eq.ensures) (kept.differ first second within.0 within.1 same))
    ] in
    let count : length new ≡ length inside.order = moved.each in
    let after : AreDependencies (record arena { numbers = new }) = moved_kept arena kept c.args.dep within s closed new moved c.move_behind.ensures.numbers order in
    record {
      dependencies = subst (λ n. AreDependencies (record { channels = n; listed = inside.trail.items; spare = inside.room; numbers = new })) (sym count) after;
      rows = c.self.invariant.rows ∙ ap (λ n. rows_of n inside.trail.items) (sym count);
      marks = c.meets-first_met.ensures.each ∙ sym count;
      edge_room = c.self.invariant.edge_room;
      trail_room = c.self.invariant.trail_room;
    }

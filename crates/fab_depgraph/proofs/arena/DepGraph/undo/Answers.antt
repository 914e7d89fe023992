use Rattle.std.proofs.Common.{◌≡◌, ◌+◌, ◌++◌, ◌∷◌, [], vec_capacity, sym, ◌∙◌, ap, subst}
use Rattle.fab_depgraph.specs.Arena.{IsArena}
use Rattle.fab_depgraph.proofs.Listing.Kept.{undone_arena, last_is_within}
use Rattle.fab_depgraph.proofs.arena.DepGraph.undo.Goals as goal
use Rattle.std.specs.Option.{option_to_list}

pub lower-requires-clause-within : goal.lower-requires-clause-within
lower-requires-clause-within c =
    let inside = c.self.inside in
    let last : inside.trail.items ≡ c.pop.new.self.items ++ c.unwrap-dep.result ∷ [] = c.pop.ensures.items ∙ ap (λ o. c.pop.new.self.items ++ option_to_list o) c.unwrap-dep.ensures in
    (last_is_within inside.order inside.edges inside.search inside.trail.items c.pop.new.self.items c.unwrap-dep.result inside.room (vec_capacity inside.trail) c.self.invariant last).0

pub lower-requires-clause-newest : goal.lower-requires-clause-newest
lower-requires-clause-newest c =
    let inside = c.self.inside in
    let last : inside.trail.items ≡ c.pop.new.self.items ++ c.unwrap-dep.result ∷ [] = c.pop.ensures.items ∙ ap (λ o. c.pop.new.self.items ++ option_to_list o) c.unwrap-dep.ensures in
    (last_is_within inside.order inside.edges inside.search inside.trail.items c.pop.new.self.items c.unwrap-dep.result inside.room (vec_capacity inside.trail) c.self.invariant last).1

pub invariant_of-self : goal.invariant_of-self
invariant_of-self c =
    let inside = c.self.inside in
    let last : inside.trail.items ≡ c.pop.new.self.items ++ c.unwrap-dep.result ∷ [] = c.pop.ensures.items ∙ ap (λ o. c.pop.new.self.items ++ option_to_list o) c.unwrap-dep.ensures in
    let arena = undone_arena inside.edges c.lower.new.self inside.order inside.search c.pop.new.self.items c.unwrap-dep.result (vec_capacity inside.trail) c.lower.ensures.capacity inside.room inside.trail.items c.self.invariant last c.lower.ensures.rows in
    subst (λ n. IsArena c.lower.new.self inside.order inside.search c.pop.new.self.items (inside.room + 1) n) (sym c.pop.ensures.capacity) arena

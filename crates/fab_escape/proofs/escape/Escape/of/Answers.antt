use Rattle.std.proofs.Common.{◌∙◌, length, sym, subst}
use Rattle.fab_escape.specs.Trees.{AreRooted, AreLinks, AreHopsToRoots}
use Rattle.fab_escape.specs.Climbing.{AreDepths}
use Rattle.fab_escape.proofs.Making.{rooted}
use Rattle.fab_escape.proofs.Kept.{forest_of, is_forest, are_depths, is_escape_forest, other_roots}
use Rattle.fab_escape.proofs.EscapeTrees.{escape_tree_is_tree, escape_routes_lead}
use Rattle.fab_escape.proofs.EndsOfRoutes.{no_next_channel, routes_stay_in_tree}
use Rattle.fab_escape.proofs.Numbers.{escape_numbers_rise, escape_is_acyclic}
use Rattle.fab_escape.proofs.NoRepeats.{escape_routes_repeat_no_switch}
use Rattle.fab_escape.proofs.escape.Escape.of.Goals as goal

pub links_of-requires-clause-roots : goal.links_of-requires-clause-roots
links_of-requires-clause-roots c = subst (λ xs. AreRooted c.args.fabric.now xs) (sym c.deref.ensures.value) (rooted c.args.fabric.now c.args.lane c.in_ok-roots.roots.items c.in_ok-roots.ensures.roots)

pub depths_of-requires-clause-roots : goal.depths_of-requires-clause-roots
depths_of-requires-clause-roots c = subst (λ xs. AreRooted c.args.fabric.now xs) (sym c.deref-2.ensures.value) (rooted c.args.fabric.now c.args.lane c.in_ok-roots.roots.items c.in_ok-roots.ensures.roots)

pub jumps_of-requires-clause-depths : goal.jumps_of-requires-clause-depths
jumps_of-requires-clause-depths c = λ f same.
    let t = c.args.fabric.now in
    let roots = c.in_ok-roots.roots.items in
    let links = c.in_ok-links.links.items in
    let depths = c.in_ok-depths.depths.items in
    let forest = is_escape_forest t c.args.lane roots links c.in_ok-roots.ensures.roots (subst (λ xs. AreLinks t (length t.switches) xs links) c.deref.ensures.value c.in_ok-links.ensures) in
    let hops = subst (λ xs. AreHopsToRoots t (length t.switches) xs depths) c.deref-2.ensures.value c.in_ok-depths.ensures in
    subst (λ xs. AreDepths f xs) (sym c.deref-4.ensures.value)
    (other_roots f roots depths links (same ∙ c.deref-3.ensures.value) (are_depths t c.in_ok-roots.ensures.kept.rows c.args.lane (forest_of roots links) forest depths hops))

pub invariant_of-result : goal.invariant_of-result
invariant_of-result c =
    let t = c.args.fabric.now in
    let good = c.in_ok-roots.ensures.kept.rows in
    let roots = c.in_ok-roots.roots.items in
    let links = c.in_ok-links.links.items in
    let depths = c.in_ok-depths.depths.items in
    let forest = is_escape_forest t c.args.lane roots links c.in_ok-roots.ensures.roots (subst (λ xs. AreLinks t (length t.switches) xs links) c.deref.ensures.value c.in_ok-links.ensures) in
    let hops = subst (λ xs. AreHopsToRoots t (length t.switches) xs depths) c.deref-2.ensures.value c.in_ok-depths.ensures in (
      is_forest t good c.args.lane (forest_of roots links) forest,
      are_depths t good c.args.lane (forest_of roots links) forest depths hops,
      c.in_ok-jumps.ensures (forest_of roots links) (sym c.deref-3.ensures.value),
    )

pub returns-clause-routes : goal.returns-clause-routes
returns-clause-routes c = λ to low.
    let t = c.args.fabric.now in
    let roots = c.in_ok-roots.roots.items in
    let links = c.in_ok-links.links.items in
    let forest = is_escape_forest t c.args.lane roots links c.in_ok-roots.ensures.roots (subst (λ xs. AreLinks t (length t.switches) xs links) c.deref.ensures.value c.in_ok-links.ensures) in
    escape_tree_is_tree t c.args.lane (forest_of roots links) to c.in_ok-roots.ensures.kept.rows forest low

pub returns-clause-lead : goal.returns-clause-lead
returns-clause-lead c =
    let t = c.args.fabric.now in
    let roots = c.in_ok-roots.roots.items in
    let links = c.in_ok-links.links.items in
    let forest = is_escape_forest t c.args.lane roots links c.in_ok-roots.ensures.roots (subst (λ xs. AreLinks t (length t.switches) xs links) c.deref.ensures.value c.in_ok-links.ensures) in
    escape_routes_lead t c.args.lane (forest_of roots links) c.in_ok-roots.ensures.kept.rows forest

pub returns-clause-none : goal.returns-clause-none
returns-clause-none c =
    let t = c.args.fabric.now in
    let roots = c.in_ok-roots.roots.items in
    let links = c.in_ok-links.links.items in
    let forest = is_escape_forest t c.args.lane roots links c.in_ok-roots.ensures.roots (subst (λ xs. AreLinks t (length t.switches) xs links) c.deref.ensures.value c.in_ok-links.ensures) in
    no_next_channel t c.args.lane (forest_of roots links) c.in_ok-roots.ensures.kept.rows forest

pub returns-clause-acyclic : goal.returns-clause-acyclic
returns-clause-acyclic c =
    let t = c.args.fabric.now in
    let roots = c.in_ok-roots.roots.items in
    let links = c.in_ok-links.links.items in
    let forest = is_escape_forest t c.args.lane roots links c.in_ok-roots.ensures.roots (subst (λ xs. AreLinks t (length t.switches) xs links) c.deref.ensures.value c.in_ok-links.ensures) in
    escape_is_acyclic t c.args.lane (forest_of roots links) c.in_ok-roots.ensures.kept.rows forest

pub returns-clause-once : goal.returns-clause-once
returns-clause-once c =
    let t = c.args.fabric.now in
    let roots = c.in_ok-roots.roots.items in
    let links = c.in_ok-links.links.items in
    let forest = is_escape_forest t c.args.lane roots links c.in_ok-roots.ensures.roots (subst (λ xs. AreLinks t (length t.switches) xs links) c.deref.ensures.value c.in_ok-links.ensures) in
    escape_routes_repeat_no_switch t c.args.lane (forest_of roots links) c.in_ok-roots.ensures.kept.rows forest

pub returns-clause-stay : goal.returns-clause-stay
returns-clause-stay c =
    let t = c.args.fabric.now in
    let roots = c.in_ok-roots.roots.items in
    let links = c.in_ok-links.links.items in
    let forest = is_escape_forest t c.args.lane roots links c.in_ok-roots.ensures.roots (subst (λ xs. AreLinks t (length t.switches) xs links) c.deref.ensures.value c.in_ok-links.ensures) in
    routes_stay_in_tree t c.args.lane (forest_of roots links) c.in_ok-roots.ensures.kept.rows forest

pub returns-clause-rise : goal.returns-clause-rise
returns-clause-rise c =
    let t = c.args.fabric.now in
    let roots = c.in_ok-roots.roots.items in
    let links = c.in_ok-links.links.items in
    let forest = is_escape_forest t c.args.lane roots links c.in_ok-roots.ensures.roots (subst (λ xs. AreLinks t (length t.switches) xs links) c.deref.ensures.value c.in_ok-links.ensures) in
    (λ lanes. escape_numbers_rise t lanes c.args.lane (forest_of roots links) c.in_ok-roots.ensures.kept.rows forest)

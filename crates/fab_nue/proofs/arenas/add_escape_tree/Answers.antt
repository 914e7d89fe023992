use Rattle.std.proofs.Common.{◌≡◌, ◌∙◌, ◌<◌, ◌+◌, ◌*◌, ◌%◌, ℕ, List, Option, length, sym, ap, subst, arith}
use Rattle.fab_tables.specs.TreeWalks.{IsTree}
use Rattle.fab_depgraph.specs.Listed.{IsListed}
use Rattle.fab_escape.specs.Forest.{Forest, escape_tree}
use Rattle.fab_escape.specs.Trees.{IsEscapeForest}
use Rattle.fab_nue.specs.Search.{ClosesNone}
use Rattle.fab_nue.specs.Forests.{forest_in}
use Rattle.fab_nue.specs.Arenas.{listed_in, ListsTree, AreShort}
use Rattle.fab_nue.proofs.Lanes.LaneLists.{still_short}
use Rattle.fab_nue.proofs.Lanes.Forests.{forest_read, written_tree}
use Rattle.fab_nue.proofs.Lanes.EscapeSets.{one_more_towards, escape_closes_none}
use Rattle.fab_nue.proofs.arenas.add_escape_tree.Goals as goal

pub write_escape_tree-requires-clause-forest : goal.write_escape_tree-requires-clause-forest
write_escape_tree-requires-clause-forest g c =
    let lane : ℕ = c.args.to.0 % c.from.result in
    let low : lane < length c.args.used.now = omega (arith, c.requires.lanes.0, c.lanes.ensures) in
    let at : forest_in c.args.forests.now lane ≡ c.index-forests-lane.result = forest_read c.args.forests.now lane c.index-forests-lane.result (omega (arith, low, c.requires.forests.each_lane)) c.index-forests-lane.is in
    subst (λ f. IsEscapeForest c.args.fabric.now lane f) at (c.requires.forests.right lane low)

pub try_tree-requires-clause-tree : goal.try_tree-requires-clause-tree
try_tree-requires-clause-tree g c =
    let lane : ℕ = c.args.to.0 % c.from.result in
    let low : lane < length c.args.used.now = omega (arith, c.requires.lanes.0, c.lanes.ensures) in
    let at : forest_in c.args.forests.now lane ≡ c.index-forests-lane.result = forest_read c.args.forests.now lane c.index-forests-lane.result (omega (arith, low, c.requires.forests.each_lane)) c.index-forests-lane.is in
    written_tree c.args.fabric.now lane c.index-forests-lane.result c.args.to.0 c.write_escape_tree.new.tree c.requires.fabric.rows (subst (λ f. IsEscapeForest c.args.fabric.now lane f) at (c.requires.forests.right lane low)) c.requires.to
    c.write_escape_tree.ensures

pub returns-in_err-try_tree-clause-tree : goal.returns-in_err-try_tree-clause-tree
returns-in_err-try_tree-clause-tree g c =
    let lane : ℕ = c.args.to.0 % c.from.result in
    let low : lane < length c.args.used.now = omega (arith, c.requires.lanes.0, c.lanes.ensures) in
    let at : forest_in c.args.forests.now lane ≡ c.index-forests-lane.result = forest_read c.args.forests.now lane c.index-forests-lane.result (omega (arith, low, c.requires.forests.each_lane)) c.index-forests-lane.is in
    (written_tree c.args.fabric.now lane c.index-forests-lane.result c.args.to.0 c.write_escape_tree.new.tree c.requires.fabric.rows (subst (λ f. IsEscapeForest c.args.fabric.now lane f) at (c.requires.forests.right lane low)) c.requires.to
    c.write_escape_tree.ensures).each_switch

pub unreachable-requires : goal.unreachable-requires
unreachable-requires g c =
    let t = c.args.fabric.now in
    let lane : ℕ = c.args.to.0 % c.from.result in
    let low : lane < length c.args.used.now = omega (arith, c.requires.lanes.0, c.lanes.ensures) in
    let at : forest_in c.args.forests.now lane ≡ c.index-forests-lane.result = forest_read c.args.forests.now lane c.index-forests-lane.result (omega (arith, low, c.requires.forests.each_lane)) c.index-forests-lane.is in
    let written : escape_tree (forest_in c.args.forests.now lane) c.args.to.0 ≡ c.write_escape_tree.new.tree = ap (λ f. escape_tree f c.args.to.0) at ∙ sym c.write_escape_tree.ensures in
    let none : ClosesNone t (IsListed (listed_in c.args.used.now lane)) (escape_tree (forest_in c.args.forests.now lane) c.args.to.0)
    = escape_closes_none t (length c.args.used.now) c.args.to.0 lane c.args.forests.now c.args.used.now c.requires.fabric.rows c.requires.forests c.requires.to (ap (λ k. c.args.to.0 % k) {x = length c.args.used.now} {y = c.from.result} (omega (arith, c.lanes.ensures, c.from.ensures))) low c.requires.before in
    (c.in_ok-try_tree.ensures.refused c.in-WouldClose.is).1 (subst (λ x. ClosesNone t (IsListed (listed_in c.args.used.now lane)) x) written none)

pub returns-clause-after : goal.returns-clause-after
returns-clause-after g c =
    let t = c.args.fabric.now in
    let lane : ℕ = c.args.to.0 % c.from.result in
    let low : lane < length c.args.used.now = omega (arith, c.requires.lanes.0, c.lanes.ensures) in
    let at : forest_in c.args.forests.now lane ≡ c.index-forests-lane.result = forest_read c.args.forests.now lane c.index-forests-lane.result (omega (arith, low, c.requires.forests.each_lane)) c.index-forests-lane.is in
    let written : c.write_escape_tree.new.tree ≡ escape_tree (forest_in c.args.forests.now lane) c.args.to.0 = c.write_escape_tree.ensures ∙ ap (λ f. escape_tree f c.args.to.0) (sym at) in
    one_more_towards t (length c.args.used.now) (λ k. forest_in c.args.forests.now k) c.requires.fabric.rows c.args.to.0 lane c.args.used.now c.try_tree.new.used (ap (λ k. c.args.to.0 % k) {x = length c.args.used.now} {y = c.from.result} (omega (arith, c.lanes.ensures, c.from.ensures))) low c.requires.before
    c.in_ok-try_tree.ensures.changes
    (subst (λ x. ListsTree t x (listed_in c.args.used.now lane) (listed_in c.try_tree.new.used lane)) written (c.in_ok-try_tree.ensures.added c.in-Yes.is))

pub returns-clause-tree : goal.returns-clause-tree
returns-clause-tree g c =
    let lane : ℕ = c.args.to.0 % c.from.result in
    let low : lane < length c.args.used.now = omega (arith, c.requires.lanes.0, c.lanes.ensures) in
    let at : forest_in c.args.forests.now lane ≡ c.index-forests-lane.result = forest_read c.args.forests.now lane c.index-forests-lane.result (omega (arith, low, c.requires.forests.each_lane)) c.index-forests-lane.is in
    (written_tree c.args.fabric.now lane c.index-forests-lane.result c.args.to.0 c.write_escape_tree.new.tree c.requires.fabric.rows (subst (λ f. IsEscapeForest c.args.fabric.now lane f) at (c.requires.forests.right lane low)) c.requires.to
    c.write_escape_tree.ensures).each_switch

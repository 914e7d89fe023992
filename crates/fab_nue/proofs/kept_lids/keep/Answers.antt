use Rattle.std.proofs.Common.{sym, subst}
use Rattle.std.specs.Prelude.{MatchBool}
use Rattle.std.proofs.lemmas.Result.{IfOk-weaker}
use Rattle.fab_nue.specs.OldRoutes.{AreAllDelivered, IsRouteTree, KeepLevels, IsJoined, IsKeptOrNot}
use Rattle.fab_nue.proofs.Keeping.RouteTrees.{all_delivered}
use Rattle.fab_nue.proofs.Keeping.Joining.{not_kept_here, kept_by_lanes}
use Rattle.fab_nue.proofs.kept_lids.keep.Goals as goal

pub write_route_tree-requires-clause-toward : goal.write_route_tree-requires-clause-toward
write_route_tree-requires-clause-toward g c = record { fabric = c.requires.fabric; fits = c.requires.old.tables; in_use = c.requires.in_use }

pub keep_levels-requires-clause-tree : goal.keep_levels-requires-clause-tree
keep_levels-requires-clause-tree g c =
    let Routes : Type 0 = IsRouteTree c.args.fabric.now c.args.old.now.tables c.args.lid.0 c.write_route_tree.new.tree in
    subst (λ b. MatchBool b Routes (¬ AreAllDelivered c.args.fabric.now c.args.old.now.tables c.args.lid.0)) c.if-not-write_route_tree.false c.write_route_tree.ensures.delivered

pub join_from-requires-clause-whole : goal.join_from-requires-clause-whole
join_from-requires-clause-whole g c =
    let Routes : Type 0 = IsRouteTree c.args.fabric.now c.args.old.now.tables c.args.lid.0 c.write_route_tree.new.tree in
    subst (λ b. MatchBool b Routes (¬ AreAllDelivered c.args.fabric.now c.args.old.now.tables c.args.lid.0)) c.if-not-write_route_tree.false c.write_route_tree.ensures.delivered

pub returns-then-not-write_route_tree-clause-kept : goal.returns-then-not-write_route_tree-clause-kept
returns-then-not-write_route_tree-clause-kept g c =
    let t = c.args.fabric.now in
    let old = c.args.old.now in
    let lid = c.args.lid.0 in
    let whole = c.write_route_tree.new.tree in
    let not_delivered : ¬ AreAllDelivered t old.tables lid
    = subst (λ b. MatchBool b (IsRouteTree t old.tables lid whole) (¬ AreAllDelivered t old.tables lid)) c.if-not-write_route_tree.true c.write_route_tree.ensures.delivered in
    not_kept_here t old lid c.args.used.now whole c.write_route_tree.ensures.tree (λ can. not_delivered can.delivered)

pub returns-then-not-keep_levels-clause-kept : goal.returns-then-not-keep_levels-clause-kept
returns-then-not-keep_levels-clause-kept g c =
    let t = c.args.fabric.now in
    let old = c.args.old.now in
    let lid = c.args.lid.0 in
    let lanes = c.lanes.result in
    let none : ¬ KeepLevels t lanes old lid = subst (λ b. MatchBool b (KeepLevels t lanes old lid) (¬ KeepLevels t lanes old lid)) c.if-not-keep_levels.true c.keep_levels.ensures in
    not_kept_here t old lid c.args.used.now c.write_route_tree.new.tree c.write_route_tree.ensures.tree (λ can. none (subst (λ k. KeepLevels t k old lid) (sym c.lanes.ensures) can.levels))

pub returns-clause-kept : goal.returns-clause-kept
returns-clause-kept g c =
    let t = c.args.fabric.now in
    let old = c.args.old.now in
    let lid = c.args.lid.0 in
    let lanes = c.lanes.result in
    let used = c.args.used.now in
    let after = c.join_from.new.used in
    let whole = c.write_route_tree.new.tree in
    let routes : IsRouteTree t old.tables lid whole
    = subst (λ b. MatchBool b (IsRouteTree t old.tables lid whole) (¬ AreAllDelivered t old.tables lid)) c.if-not-write_route_tree.false c.write_route_tree.ensures.delivered in
    let levels : KeepLevels t lanes old lid = subst (λ b. MatchBool b (KeepLevels t lanes old lid) (¬ KeepLevels t lanes old lid)) c.if-not-keep_levels.false c.keep_levels.ensures in
    IfOk-weaker c.join_from.result (λ answer. IsJoined t old lid 0 used after answer) (λ answer. IsKeptOrNot t old lid used after whole answer)
    (λ answer x. kept_by_lanes t old lid used after whole answer routes (all_delivered t old.tables lid whole c.requires.fabric.rows routes) (subst (λ k. KeepLevels t k old lid) c.lanes.ensures levels) x)
    c.join_from.ensures.joined

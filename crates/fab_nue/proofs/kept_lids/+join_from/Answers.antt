use Rattle.std.proofs.Common.{◌≡◌, ◌∙◌, ◌<◌, ◌≤◌, ◌+◌, ◌^◌, ℕ, List, length, take, true, false, sym, ap, subst, arith}
use Rattle.fab_depgraph.specs.declared.dep.Dep.{Dep}
use Rattle.fab_depgraph.specs.declared.dep.Added.{Added}
use Rattle.fab_depgraph.specs.declared.dep.Added.TheVariants.{Yes, WouldClose}
use Rattle.fab_nue.specs.Arenas.{listed_in, IsTried}
use Rattle.fab_nue.specs.OldRoutes.{IsOnWayOf, IsJoined}
use Rattle.fab_nue.proofs.Lanes.LaneLists.{same_length, still_have, listed_at}
use Rattle.fab_nue.proofs.Keeping.RouteTrees.{route_tree}
use Rattle.fab_nue.proofs.Keeping.Parts.{part_tree, part_depends}
use Rattle.fab_nue.proofs.Keeping.Joining.{refused_here, joined_all, taken_back_all}
use Rattle.fab_nue.proofs.kept_lids.+join_from.Goals as goal

pub write_part-requires-clause-whole : goal.write_part-requires-clause-whole
write_part-requires-clause-whole g n c = route_tree c.args.fabric.now c.args.old.now.tables c.args.lid.0 c.args.whole.now c.requires.fabric.rows c.requires.whole

pub try_tree-requires-clause-tree : goal.try_tree-requires-clause-tree
try_tree-requires-clause-tree g n c =
    let t = c.args.fabric.now in
    part_tree t (IsOnWayOf t c.args.old.now c.args.lid.0 c.args.whole.now c.args.lane (length t.switches)) c.args.whole.now c.write_part.new.part
    (route_tree t c.args.old.now.tables c.args.lid.0 c.args.whole.now c.requires.fabric.rows c.requires.whole) c.write_part.ensures

pub returns-in-WouldClose-clause-joined : goal.returns-in-WouldClose-clause-joined
returns-in-WouldClose-clause-joined g n c =
    let t = c.args.fabric.now in
    let old = c.args.old.now in
    let lid = c.args.lid.0 in
    let lane = c.args.lane in
    let used = c.args.used.now in
    let mid = c.try_tree.new.used in
    let part = c.write_part.new.part in
    let low : lane < length used = omega arith in
    let depends = part_depends t old lid lane c.args.whole.now part c.requires.fabric.rows c.requires.whole c.write_part.ensures in
    let tried : IsTried t part lane used mid WouldClose = subst (λ (a : Added). IsTried t part lane used mid a) c.in-WouldClose.is c.in_ok-try_tree.ensures in
    refused_here t old lid lane part used mid low depends tried

pub join_from-requires : goal.join_from-requires
join_from-requires g n c κs within =
    let t = c.args.fabric.now in
    let lane = c.args.lane in
    let used = c.args.used.now in
    let mid = c.try_tree.new.used in
    let tried = c.in_ok-try_tree.ensures in
    let each : length mid ≡ length used = same_length used mid tried.changes.channels in
    let low : lane + 1 ≤ length mid = omega arith in
    let short : (on_lane : ℕ) → lane + 1 ≤ on_lane → length (listed_in mid on_lane) ≤ 2 ^ 31 = (
    λ on_lane least. omega (arith, c.requires.short on_lane (omega arith), ap (λ (xs : List Dep). length xs) (tried.changes.listed on_lane (λ e. omega (arith, e, least))))
    ) in (
      omega (arith, c.decreases, each),
      (
        within,
        (
          c.requires.fabric,
          (
            c.requires.old,
            (
              c.requires.in_use,
              (
                c.requires.whole,
                (
                  low,
                  (
                    still_have t used mid tried.changes.channels c.requires.channels,
                    (
                      short,
                      c.write_part.ensures.each_switch ∙ c.requires.whole.each_switch,
                    ),
                  ),
                ),
              ),
            ),
          ),
        ),
      ),
    )

pub returns-then-branch-clause-joined : goal.returns-then-branch-clause-joined
returns-then-branch-clause-joined g n c =
    let t = c.args.fabric.now in
    let old = c.args.old.now in
    let lid = c.args.lid.0 in
    let lane = c.args.lane in
    let used = c.args.used.now in
    let mid = c.try_tree.new.used in
    let after = c.join_from.new.used in
    let part = c.write_part.new.part in
    let low : lane < length used = omega arith in
    let depends = part_depends t old lid lane c.args.whole.now part c.requires.fabric.rows c.requires.whole c.write_part.ensures in
    let tried : IsTried t part lane used mid Yes = subst (λ (a : Added). IsTried t part lane used mid a) c.in-Yes.is c.in_ok-try_tree.ensures in
    let later : IsJoined t old lid (lane + 1) mid after true = subst (λ b. IsJoined t old lid (lane + 1) mid after b) c.if-branch.true c.in_ok-join_from.ensures.joined in
    joined_all t old lid lane part used mid low depends tried after later

pub returns-clause-joined : goal.returns-clause-joined
returns-clause-joined g n c =
    let t = c.args.fabric.now in
    let old = c.args.old.now in
    let lid = c.args.lid.0 in
    let lane = c.args.lane in
    let used = c.args.used.now in
    let mid = c.try_tree.new.used in
    let after = c.join_from.new.used in
    let part = c.write_part.new.part in
    let low : lane < length used = omega arith in
    let depends = part_depends t old lid lane c.args.whole.now part c.requires.fabric.rows c.requires.whole c.write_part.ensures in
    let tried : IsTried t part lane used mid Yes = subst (λ (a : Added). IsTried t part lane used mid a) c.in-Yes.is c.in_ok-try_tree.ensures in
    let later : IsJoined t old lid (lane + 1) mid after false = subst (λ b. IsJoined t old lid (lane + 1) mid after b) c.if-branch.false c.in_ok-join_from.ensures.joined in
    let g = c.lane_mut.result.now in
    let count : c.mark-mark.result.0 ≡ length (listed_in used lane) = c.mark-mark.ensures.length ∙ ap (λ (xs : List Dep). length xs) (sym (listed_at used lane c.lane.result.now c.lane.ensures)) in
    taken_back_all t old lid lane part used mid low depends tried after later g c.undo_to.new.self c.lane_mut.ensures.value c.undo_to.ensures.channels (c.undo_to.ensures.listed ∙ ap (λ k. take k g.listed) count)

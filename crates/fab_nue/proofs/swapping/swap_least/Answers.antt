use Rattle.std.proofs.Common.{ℕ}
use Rattle.fab_sssp.specs.WeightTables.{weight_of}
use Rattle.fab_nue.proofs.Heaps.Swapped.{mark_within, cut_room, cut_tree, grown_tree, one_settled, swapped_on_way, same_tree, mid_room, added_again, none_allowed}
use Rattle.fab_nue.proofs.swapping.swap_least.Goals as goal

pub undo_to-requires : goal.undo_to-requires
undo_to-requires g c =
    let u = c.requires.under_way in
    mark_within c.args.fabric.now (λ k. weight_of c.args.weights.now k) c.args.to.0 u.0 c.args.used.now c.args.tree.now c.requires.fabric.rows c.args.choices.now.entries c.args.start.0 u.1 u.2

pub swap_first-requires-clause-tree : goal.swap_first-requires-clause-tree
swap_first-requires-clause-tree g c =
    let u = c.requires.under_way in
    cut_tree c.args.fabric.now (λ k. weight_of c.args.weights.now k) c.args.to.0 u.0 c.args.used.now c.args.tree.now c.requires.fabric.rows c.args.choices.now.entries c.args.start.0 u.1 u.2
    c.undo_to.new.self c.undo_to.ensures.listed c.undo_to.ensures.spare

pub swap_first-requires-clause-spare : goal.swap_first-requires-clause-spare
swap_first-requires-clause-spare g c =
    let u = c.requires.under_way in
    cut_room c.args.fabric.now (λ k. weight_of c.args.weights.now k) c.args.to.0 u.0 c.args.used.now c.args.tree.now c.requires.fabric.rows c.args.choices.now.entries c.args.start.0 u.1 u.2
    c.undo_to.new.self c.undo_to.ensures.listed c.undo_to.ensures.spare

pub weigh_anew-requires-clause-tree : goal.weigh_anew-requires-clause-tree
weigh_anew-requires-clause-tree g c =
    let u = c.requires.under_way in
    let swap = c.swap_first.ensures.swapped c.if-swap_first.true in
    grown_tree c.args.fabric.now (λ k. weight_of c.args.weights.now k) c.args.to.0 u.0 c.args.used.now c.args.tree.now c.requires.fabric.rows c.args.choices.now.entries c.args.start.0 u.1 u.2
    c.undo_to.new.self c.undo_to.ensures.listed c.undo_to.ensures.spare c.swap_first.new.used c.swap_first.new.tree swap.0 swap.1 swap.2 swap.3 c.requires.empty

pub returns-then-swap_first-clause-swapped : goal.returns-then-swap_first-clause-swapped
returns-then-swap_first-clause-swapped g c = λ e before at u.
    let t = c.args.fabric.now in
    let W : ℕ → ℕ = λ k. weight_of c.args.weights.now k in
    let swap = c.swap_first.ensures.swapped c.if-swap_first.true in (
      swapped_on_way t W c.args.to.0 before c.args.used.now c.args.tree.now c.requires.fabric.rows c.args.choices.now.entries c.args.start.0 at u c.undo_to.new.self c.undo_to.ensures.listed
          c.undo_to.ensures.spare c.swap_first.new.used c.swap_first.new.tree swap.0 swap.1 swap.2 swap.3 c.requires.empty c.weigh_anew.new.choices.entries
          (c.weigh_anew.ensures.candidates before.listed) c.weigh_anew.ensures.once,
      one_settled t W c.args.to.0 before c.args.used.now c.args.tree.now c.requires.fabric.rows c.args.choices.now.entries c.args.start.0 at u c.undo_to.new.self c.undo_to.ensures.listed
          c.undo_to.ensures.spare c.swap_first.new.used c.swap_first.new.tree swap.0 swap.1 swap.2 swap.3 c.requires.empty,
    )

pub add_tree-requires-clause-tree : goal.add_tree-requires-clause-tree
add_tree-requires-clause-tree g c =
    let u = c.requires.under_way in
    let e = c.if-swap_first.false in
    same_tree c.args.fabric.now (λ k. weight_of c.args.weights.now k) c.args.to.0 u.0 c.args.used.now c.args.tree.now c.requires.fabric.rows c.args.choices.now.entries c.args.start.0 u.1 u.2
    c.undo_to.new.self c.undo_to.ensures.listed c.undo_to.ensures.spare c.swap_first.new.used c.swap_first.new.used c.swap_first.new.tree (c.swap_first.ensures.stays e) (c.swap_first.ensures.listed e)
    (c.swap_first.ensures.spare e)

pub add_tree-requires-clause-spare : goal.add_tree-requires-clause-spare
add_tree-requires-clause-spare g c =
    let u = c.requires.under_way in
    let e = c.if-swap_first.false in
    mid_room c.args.fabric.now (λ k. weight_of c.args.weights.now k) c.args.to.0 u.0 c.args.used.now c.args.tree.now c.requires.fabric.rows c.args.choices.now.entries c.args.start.0 u.1 u.2
    c.undo_to.new.self c.undo_to.ensures.listed c.undo_to.ensures.spare c.swap_first.new.used c.swap_first.new.used c.swap_first.new.tree (c.swap_first.ensures.stays e) (c.swap_first.ensures.listed e)
    (c.swap_first.ensures.spare e)

pub returns-clause-none : goal.returns-clause-none
returns-clause-none g c = λ _ before at u.
    let t = c.args.fabric.now in
    let W : ℕ → ℕ = λ k. weight_of c.args.weights.now k in
    let e = c.if-swap_first.false in (
      none_allowed t W c.args.to.0 before c.args.used.now c.args.tree.now c.requires.fabric.rows c.args.choices.now.entries c.args.start.0 at u c.undo_to.new.self c.undo_to.ensures.listed
          c.undo_to.ensures.spare c.swap_first.new.used c.add_tree.new.used c.swap_first.new.tree (c.swap_first.ensures.stays e) (c.swap_first.ensures.listed e) (c.swap_first.ensures.spare e)
          (c.swap_first.ensures.none e),
      c.swap_first.ensures.stays e,
      added_again t W c.args.to.0 before c.args.used.now c.args.tree.now c.requires.fabric.rows c.args.choices.now.entries c.args.start.0 at u c.undo_to.new.self c.undo_to.ensures.listed
          c.undo_to.ensures.spare c.swap_first.new.used c.add_tree.new.used c.swap_first.new.tree (c.swap_first.ensures.stays e) (c.swap_first.ensures.listed e) (c.swap_first.ensures.spare e)
          c.add_tree.result c.add_tree.ensures.closes c.add_tree.ensures.added,
      c.requires.empty,
    )

use Rattle.std.proofs.lemmas.Bool.{MatchBool-at_true, MatchBool-at_false}
use Rattle.fab_depgraph.specs.Listed.{IsListed}
use Rattle.fab_sssp.proofs.Raising.TreePassing.{tip_read}
use Rattle.fab_nue.specs.Turns.{LeadsPast, MayTurn}
use Rattle.fab_nue.proofs.Searching.SearchTrees.{unsettled_none}
use Rattle.fab_nue.proofs.Searching.Trying.{may_be, not_past, swap_is_tree}
use Rattle.fab_nue.proofs.Searching.Turning.{allowed_if}
use Rattle.fab_nue.proofs.swapping.swap_pair.Goals as goal

pub leads_past-requires-clause-tree : goal.leads_past-requires-clause-tree
leads_past-requires-clause-tree g c = c.requires.tree.is_tree

pub returns-then-not-leads_past-clause-refused : goal.returns-then-not-leads_past-clause-refused
returns-then-not-leads_past-clause-refused g c = λ e.
    let t = c.args.fabric.now in
    let tree = c.args.tree.now in
    let at = c.tip-at.result.0 in
    let P = LeadsPast t c.args.to.0 tree c.args.turned.0 at in
    not_past t c.args.to.0 tree c.args.added.0 c.args.turned.0 at (tip_read t c.args.added.0 c.tip-at.result c.tip-at.ensures) (IsListed c.args.used.now.listed)
    (MatchBool-at_false P (¬ P) c.if-not-leads_past.true c.leads_past.ensures)

pub try_swap-requires-clause-tree : goal.try_swap-requires-clause-tree
try_swap-requires-clause-tree g c = c.requires.tree.is_tree

pub try_swap-requires-clause-new_tree : goal.try_swap-requires-clause-new_tree
try_swap-requires-clause-new_tree g c =
    let t = c.args.fabric.now in
    let to = c.args.to.0 in
    let tree = c.args.tree.now in
    let at = c.tip-at.result.0 in
    let P = LeadsPast t to tree c.args.turned.0 at in
    let past : P = MatchBool-at_true P (¬ P) c.if-not-leads_past.false c.leads_past.ensures in
    let may : MayTurn t to tree c.args.added.0 c.args.turned.0
    = may_be t to tree c.args.added.0 c.args.turned.0 at (tip_read t c.args.added.0 c.tip-at.result c.tip-at.ensures) c.requires.added c.requires.turned c.requires.crosses c.requires.elsewhere c.requires.there past in
    swap_is_tree t c.args.used.now.listed to tree c.args.added.0 c.args.turned.0 c.requires.fabric.rows c.requires.tree may

pub try_swap-requires-clause-unsettled : goal.try_swap-requires-clause-unsettled
try_swap-requires-clause-unsettled g c = unsettled_none c.args.to.0 c.args.tree.now _ c.requires.crosses.0

pub returns-clause-swapped : goal.returns-clause-swapped
returns-clause-swapped g c = λ e.
    let t = c.args.fabric.now in
    let to = c.args.to.0 in
    let tree = c.args.tree.now in
    let at = c.tip-at.result.0 in
    let P = LeadsPast t to tree c.args.turned.0 at in
    let past : P = MatchBool-at_true P (¬ P) c.if-not-leads_past.false c.leads_past.ensures in
    let may : MayTurn t to tree c.args.added.0 c.args.turned.0
    = may_be t to tree c.args.added.0 c.args.turned.0 at (tip_read t c.args.added.0 c.tip-at.result c.tip-at.ensures) c.requires.added c.requires.turned c.requires.crosses c.requires.elsewhere c.requires.there past in
    record {
      allowed = allowed_if t (IsListed c.args.used.now.listed) to tree c.args.added.0 c.args.turned.0 may (c.try_swap.ensures.closes_none e);
      changed = c.try_swap.ensures.changed e;
      adds = c.try_swap.ensures.adds e;
    }

pub returns-clause-refused : goal.returns-clause-refused
returns-clause-refused g c = λ e x. c.try_swap.ensures.closes e x.closes_none

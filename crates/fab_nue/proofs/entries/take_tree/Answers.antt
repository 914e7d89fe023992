use Rattle.std.proofs.Common.{◌≡◌, arith}
use Rattle.fab_nue.proofs.Laying.TreeTables.{tree_carries}
use Rattle.fab_nue.proofs.entries.take_tree.Goals as goal

pub raise-requires-clause-tree : goal.raise-requires-clause-tree
raise-requires-clause-tree c = c.requires.tree.is_tree

pub returns-clause-weights : goal.returns-clause-weights
returns-clause-weights c = record {
  made_for = c.raise.ensures.made_for;
  raised = c.raise.ensures.raised;
  weights = λ d low. omega (
    arith,
    c.raise.ensures.weights d low,
    tree_carries c.args.fabric.now c.args.lid.0 c.args.tree.now c.requires.tree c.set_entries.new.tables c.requires.fabric.rows c.set_entries.ensures.fixed c.set_entries.ensures.ports d,
  );
}

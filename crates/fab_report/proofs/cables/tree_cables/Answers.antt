use Rattle.fab_report.specs.Recipes.{leaf_cables}
use Rattle.fab_report.proofs.Cabling.Growing.{grows}
use Rattle.fab_report.proofs.cables.tree_cables.Goals as goal

pub loop-leaf-preserved : goal.loop-leaf-preserved
loop-leaf-preserved c = grows (leaf_cables c.args.leaves c.args.tops) c.loop-leaf.leaf c.loop-leaf.rows.items c.push_leaf_cables.new.rows.items c.loop-leaf.invariant c.in_ok-push_leaf_cables.ensures

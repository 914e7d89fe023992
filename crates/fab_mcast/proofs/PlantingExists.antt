-- Groups have tables, since a fabric has a forest.
use Rattle.std.proofs.Common.{List, refl}
use Rattle.std.specs.Prelude.{map}
use Rattle.fab_escape.specs.Forest.{Forest}
use Rattle.fab_escape.specs.Trees.{IsEscapeForest}
use Rattle.fab_escape.proofs.ForestExists.{forest_exists}
use Rattle.fab_mcast.specs.GroupTrees.{Planted, planted, ArePlanted}
use Rattle.fab_mcast.specs.Laws.{PlantingExists}

pub planting_exists : PlantingExists
planting_exists t groups is = of (forest_exists t 0 is.rows)
  where
    of : (f : Forest) × IsEscapeForest t 0 f → (tables : List Planted) × ArePlanted t groups tables
    of forest = (map (planted t forest.0) groups, (forest.0, forest.1, refl))

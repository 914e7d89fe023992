use Rattle.std.proofs.Common.{ℕ, length, List, sym, subst}
use Rattle.fab_lash.specs.Layerings.{AreLayers}
use Rattle.fab_lash.specs.PairLayers.{layer_at}
use Rattle.fab_lash.proofs.LayeredPlans.{layers_below}
use Rattle.fab_lash.proofs.LayerLevels.{are_layered_lanes}
use Rattle.fab_lash.proofs.layered_plan.lash_on.Goals as goal

pub layer_lanes-requires-clause-below : goal.layer_lanes-requires-clause-below
layer_lanes-requires-clause-below g c =
    let t = c.args.fabric.now in
    let P : List ℕ → Type 0 = λ xs. AreLayers t c.in_ok-tables.tables c.args.lanes (layer_at (length t.switches) xs) in
    let Q : ℕ → Type 0 = λ n. AreLayers t c.in_ok-tables.tables n (layer_at (length t.switches) c.in_ok-layers.layers.items) in
    layers_below t c.channels.ensures.kept.rows c.in_ok-tables.tables c.args.lanes (layer_at (length t.switches) c.deref.result.now) c.requires.lanes.0
    (subst P (sym c.deref.ensures.value) (subst Q c.in_ok-used.ensures.lanes c.in_ok-layers.ensures.layers))

pub numbered_plan-requires-clause-lanes : goal.numbered_plan-requires-clause-lanes
numbered_plan-requires-clause-lanes g c =
    are_layered_lanes c.args.fabric.now c.in_ok-tables.tables c.in_ok-lanes.lanes c.place_pairs.new.used (length c.in_ok-used.used) c.args.lanes c.in_ok-layers.layers.items c.deref.result.now c.deref.ensures.value c.in_ok-used.ensures.lanes
    c.in_ok-lanes.ensures.count c.in_ok-layers.ensures.layers c.in_ok-layers.ensures.lists c.in_ok-lanes.ensures.fits c.in_ok-lanes.ensures.maps c.in_ok-lanes.ensures.levels

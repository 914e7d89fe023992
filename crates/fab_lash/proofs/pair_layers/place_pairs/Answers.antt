use Rattle.std.proofs.Common.{◌≡◌, ℕ, ◌+◌, ◌++◌, ◌∷◌, [], List, length-append, ◌∙◌, length, sym, ap, subst, arith}
use Rattle.fab_lash.specs.PairLayers.{layer_at, HasNoLayers}
use Rattle.fab_lash.proofs.LaneStates.{AreLayersBefore}
use Rattle.fab_lash.proofs.PairAfterPair.{all_have_layers, all_are_used}
use Rattle.fab_lash.proofs.PairsInOrder.{counts_are, one_more_layer, no_layers_then, row_ends, cells_of_row, counts_stay, came_off, fault_goes_on}
use Rattle.fab_lash.proofs.pair_layers.place_pairs.Goals as goal

pub place_pair-requires-clause-channels : goal.place_pair-requires-clause-channels
place_pair-requires-clause-channels g c = counts_are (length c.args.fabric.now.channels) c.args.used.now c.loop-high.used c.requires.channels c.loop-high.invariant.channels

pub place_pair-requires-clause-listed : goal.place_pair-requires-clause-listed
place_pair-requires-clause-listed g c lane =
    let was = c.loop-high.invariant.layers in
    record { once = was.once lane; of_pairs = λ first second listed. let x = (was.lists lane first second).0 listed in (x.0, x.1, x.2, x.5) }

pub returns-in_err-lane-clause-refusal : goal.returns-in_err-lane-clause-refusal
returns-in_err-lane-clause-refusal g c =
    let t = c.args.fabric.now in
    let count = length c.args.used.now in
    let none = no_layers_then t c.args.tables.now count (layer_at (length t.switches) c.loop-high.layers.items) c.loop-high.used c.loop-low.low c.loop-high.high c.loop-high.invariant.layers c.in_err-lane.field-0.0 c.in_err-lane.ensures.refusal in
    fault_goes_on (λ f. HasNoLayers t c.args.tables.now count f) c.from_residual.result c.in_err-lane.field-0.0 c.from_residual.ensures.1 none

pub loop-high-preserved : goal.loop-high-preserved
loop-high-preserved g c =
    let t = c.args.fabric.now in
    let was = c.loop-high.invariant in
    let P : List ℕ → Type 0 = λ xs. AreLayersBefore t c.args.tables.now (length c.args.used.now) (layer_at (length t.switches) xs) c.place_pair.new.used c.loop-low.low (c.loop-high.high + 1) in
    let grown : c.push.new.self.items ≡ c.loop-high.layers.items ++ c.in_ok-lane.lane ∷ [] = came_off c.push.result c.map_err.result c.in_ok-map_err.field-0 c.push.new.self.items (c.loop-high.layers.items ++ c.in_ok-lane.lane ∷ []) c.loop-high.layers.items c.map_err.ensures.variant c.in_ok-map_err.was c.push.ensures.items in
    record {
      layers = subst P (sym grown) (one_more_layer t c.args.tables.now (length c.args.used.now) c.loop-high.layers.items c.loop-high.used c.place_pair.new.used c.loop-low.low c.loop-high.high c.in_ok-lane.lane c.requires.fabric.rows was.as_many was.layers
          c.in_ok-lane.ensures.placed);
      as_many = omega (arith, ap (λ (xs : List ℕ). length xs) grown, length-append c.loop-high.layers.items (c.in_ok-lane.lane ∷ []), was.as_many);
      channels = counts_stay t c.args.tables.now c.loop-low.low c.loop-high.high c.loop-high.used c.place_pair.new.used c.in_ok-lane.lane c.in_ok-lane.ensures.placed ∙ was.channels;
    }

pub loop-low-preserved : goal.loop-low-preserved
loop-low-preserved g c =
    let t = c.args.fabric.now in
    let was = c.loop-high.invariant in
    let end : c.loop-high.high ≡ length t.switches = omega (arith, c.loop-high-test.false, c.loop-high.auto.high-end, c.switches-high-end.ensures.count) in
    record {
      layers = row_ends t c.args.tables.now (length c.args.used.now) c.loop-high.layers.items c.loop-high.used c.loop-low.low c.loop-high.high c.requires.fabric.rows end was.layers;
      as_many = was.as_many ∙ cells_of_row (length t.switches) c.loop-low.low c.loop-high.high end;
      channels = was.channels;
    }

pub returns-clause-layers : goal.returns-clause-layers
returns-clause-layers g c =
    let t = c.args.fabric.now in
    let was = c.loop-low.invariant in
    let end : c.loop-low.low ≡ length t.switches = omega (arith, c.loop-low-test.false, c.loop-low.auto.low-end, c.switches-low-end.ensures.count) in
    let P : ℕ → Type 0 = λ low. AreLayersBefore t c.args.tables.now (length c.args.used.now) (layer_at (length t.switches) c.loop-low.layers.items) c.loop-low.used low 0 in
    all_have_layers t c.args.tables.now (length c.args.used.now) (layer_at (length t.switches) c.loop-low.layers.items) c.loop-low.used c.requires.fabric.rows (subst P end was.layers)

pub returns-clause-lists : goal.returns-clause-lists
returns-clause-lists g c =
    let t = c.args.fabric.now in
    let was = c.loop-low.invariant in
    let end : c.loop-low.low ≡ length t.switches = omega (arith, c.loop-low-test.false, c.loop-low.auto.low-end, c.switches-low-end.ensures.count) in
    let P : ℕ → Type 0 = λ low. AreLayersBefore t c.args.tables.now (length c.args.used.now) (layer_at (length t.switches) c.loop-low.layers.items) c.loop-low.used low 0 in
    all_are_used t c.args.tables.now (length c.args.used.now) (layer_at (length t.switches) c.loop-low.layers.items) c.loop-low.used c.requires.fabric.rows (subst P end was.layers)
    (counts_are (length t.channels) c.args.used.now c.loop-low.used c.requires.channels was.channels)

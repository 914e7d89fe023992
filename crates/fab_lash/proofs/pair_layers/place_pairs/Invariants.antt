use Rattle.std.proofs.Common.{◌≡◌, length}
use Rattle.fab_tables.specs.Entries.{cell}
use Rattle.fab_lash.specs.Placing.{channel_counts}
use Rattle.fab_lash.specs.PairLayers.{layer_at}
use Rattle.fab_lash.proofs.LaneStates.{AreLayersBefore}
use Rattle.fab_lash.proofs.pair_layers.place_pairs.Given as goal

abbrev pub invariant-loop-low : goal.invariant-loop-low
invariant-loop-low g l = record {
  layers : AreLayersBefore l.fabric l.tables (length l.fn.used) (layer_at (length l.fabric.switches) l.layers.items) l.used l.low 0;
  as_many : length l.layers.items ≡ cell (length l.fabric.switches) l.low 0;
  channels : channel_counts l.used ≡ channel_counts l.fn.used;
}

abbrev pub invariant-loop-high : goal.invariant-loop-high
invariant-loop-high g l = record {
  layers : AreLayersBefore l.fabric l.tables (length l.fn.used) (layer_at (length l.fabric.switches) l.layers.items) l.used l.low l.high;
  as_many : length l.layers.items ≡ cell (length l.fabric.switches) l.low l.high;
  channels : channel_counts l.used ≡ channel_counts l.fn.used;
}

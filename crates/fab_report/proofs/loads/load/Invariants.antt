use Rattle.std.proofs.Common.{◌≡◌, take, length}
use Rattle.std.specs.Prelude.{sum_by}
use Rattle.fab_model.specs.Topology.{lids_of}
use Rattle.fab_report.specs.Counting.{AreCounts, load_to}
use Rattle.fab_report.proofs.loads.load.Given as goal

abbrev pub invariant-loop-lid : goal.invariant-loop-lid
invariant-loop-lid l = record {
  counts : AreCounts (λ channel. sum_by (load_to l.fabric l.tables channel) (take l.lid-index (lids_of l.fabric))) (length l.fabric.channels) l.counts.items;
  amounts : length l.amounts.items ≡ length l.fabric.switches;
  marks : length l.order.marks.items ≡ length l.fabric.switches;
}

use Rattle.std.proofs.Common.{◌≡◌, ◌≤◌, ◌*◌, take}
use Rattle.std.specs.Prelude.{sum_by}
use Rattle.fab_model.specs.Topology.{lids_of}
use Rattle.fab_tables.specs.Route.{route}
use Rattle.fab_report.specs.Summary.{sources, hops_if_delivered}
use Rattle.fab_report.proofs.rows.hops_in_all.Given as goal

abbrev pub invariant-loop-lid : goal.invariant-loop-lid
invariant-loop-lid l = record {
  sum : l.hops ≡ sum_by (λ lid. sum_by (λ s. hops_if_delivered (route l.fabric l.tables s lid)) (sources l.fabric)) (take l.lid-index (lids_of l.fabric));
  small : l.hops ≤ l.lid-index * 4194304;
}

use Rattle.std.proofs.Common.{◌≡◌, ◌<◌, ℕ, None, get_or, nat_eq, take}
use Rattle.std.specs.Prelude.{◌==◌}
use Rattle.std.specs.HashSet.{contains}
use Rattle.std.specs.List.{list_any}
use Rattle.fab_model.specs.Topology.{lids_of}
use Rattle.fab_export.specs.PortGuids.{port_guid}
use Rattle.fab_export.specs.Unfits.{port_guid_fault}
use Rattle.fab_export.proofs.unfit_guids.bad_port_guid.Given as goal

abbrev pub invariant-loop-lid : goal.invariant-loop-lid
invariant-loop-lid l = record {
  none : (i d : ℕ) → i < l.lid-index → port_guid_fault l.fabric (get_or (lids_of l.fabric) i d) ≡ None;
  guids : (guid : ℕ) → contains nat_eq l.guids guid ≡ list_any (λ lid. port_guid l.fabric lid == guid) (take l.lid-index (lids_of l.fabric));
}

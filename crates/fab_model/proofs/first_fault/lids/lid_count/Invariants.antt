use Rattle.std.proofs.Common.{◌≡◌, ◌≤◌, take}
use Rattle.fab_model.proofs.FirstFault.Lids.{port_count}
use Rattle.fab_model.proofs.first_fault.lids.lid_count.Given as goal

abbrev pub invariant-loop-link : goal.invariant-loop-link
invariant-loop-link l = record {
  counted : l.ports ≡ port_count l.nodes (take l.link-index l.links);
  within : l.ports ≤ l.link-index;
}

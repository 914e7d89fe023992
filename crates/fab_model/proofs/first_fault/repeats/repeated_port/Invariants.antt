use Rattle.std.proofs.Common.{◌≡◌, ℕ, nat_eq, take, drop}
use Rattle.std.specs.Prelude.{◌&&◌, find, option_map}
use Rattle.std.specs.List.{list_any}
use Rattle.std.specs.HashSet.{contains}
use Rattle.fab_model.specs.Faults.{least, link_lines, repeats_port}
use Rattle.fab_model.proofs.FirstFault.Repeats.{repeats_link}
use Rattle.fab_model.proofs.first_fault.repeats.repeated_port.Given as goal

abbrev pub invariant-loop-link : goal.invariant-loop-link
invariant-loop-link l = record {
  seen : (node port : ℕ) → contains (λ first second. nat_eq first.0 second.0 && nat_eq first.1 second.1) l.seen (node, port) ≡ list_any (λ other. nat_eq other.node node && nat_eq other.port port) (take l.link-index l.links);
  told : least (link_lines (repeats_port l.raw) l.raw) ≡ option_map (λ link. link.line) (find (repeats_link l.raw) (drop l.link-index l.links));
}

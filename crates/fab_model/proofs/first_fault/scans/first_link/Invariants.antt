use Rattle.std.proofs.Common.{◌≡◌, ◌<◌, Bool, length}
use Rattle.std.specs.Prelude.{All, find, option_map}
use Rattle.fab_model.specs.Records.{Stated, stated}
use Rattle.fab_model.specs.Faults.{least, link_lines}
use Rattle.fab_model.specs.FirstFault.{TestsLinks}
use Rattle.fab_model.proofs.first_fault.scans.first_link.Given as goal

abbrev pub invariant-loop-rest : goal.invariant-loop-rest
invariant-loop-rest g l = record {
  under : All (λ link. link.node < length l.nodes) l.rest;
  told : (test : Stated → Bool) → TestsLinks g.F.Fn l.passes test → least (link_lines test l.fn.raw) ≡ option_map (λ one. one.link.line) (find test (stated (record { nodes = l.nodes; links = l.rest })));
}

abbrev pub decreases-loop-rest : goal.decreases-loop-rest
decreases-loop-rest g l = length l.rest

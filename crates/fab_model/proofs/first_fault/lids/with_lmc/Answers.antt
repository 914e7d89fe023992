use Rattle.std.proofs.Common.{rules}
use Rattle.fab_model.specs.Faults.{has_lmc}
use Rattle.fab_model.proofs.FirstFault.Lines.{least_claim_lines}
use Rattle.fab_model.proofs.first_fault.lids.with_lmc.Goals as goal

pub returns : goal.returns
returns c = rw (least_claim_lines has_lmc c.args.raw.now) (search rules)

use Rattle.std.proofs.Common.{rules}
use Rattle.fab_model.specs.Faults.{is_bad_lid}
use Rattle.fab_model.proofs.FirstFault.Lines.{least_claim_lines}
use Rattle.fab_model.proofs.first_fault.lids.with_bad_lid.Goals as goal

pub returns : goal.returns
returns c = rw (least_claim_lines is_bad_lid c.args.raw.now) (search rules)

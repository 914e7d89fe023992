use Rattle.std.proofs.Common.{rules}
use Rattle.fab_model.proofs.FirstFault.Lines.{link_lines_found}
use Rattle.fab_model.proofs.first_fault.scans.first_link.Goals as goal

pub loop-rest-init : goal.loop-rest-init
loop-rest-init g c = search (rules, link_lines_found)

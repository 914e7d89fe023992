use Rattle.std.proofs.Common.{rules}
use Rattle.fab_model.specs.Records.{stated}
use Rattle.fab_model.specs.Faults.{is_one_sided}
use Rattle.fab_model.specs.FirstFault.{ends_of}
use Rattle.fab_model.proofs.FirstFault.Ends.{any_other_side}
use Rattle.fab_model.proofs.first_fault.ends.one_sided.Goals as goal

pub returns : goal.returns
returns c = c.first_link.ensures (is_one_sided c.args.raw.now) (λ node link answer told.
    let ends = ends_of (record { node = node.now; link = link.now }) in
    let known = any_other_side (record { node = node.now; link = link.now }) (stated c.args.raw.now) in
    let named = c.in_ok-sides.ensures (ends.1, ends.0) in
    rw (← known, ← named) (search rules))

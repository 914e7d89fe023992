use Rattle.std.proofs.Common.{rules}
use Rattle.fab_model.specs.Faults.{has_unknown_end}
use Rattle.fab_model.proofs.first_fault.ends.unknown_end.Goals as goal

pub returns : goal.returns
returns c = c.first_link.ensures (has_unknown_end c.args.raw.now) (λ node link answer told.
    let known = c.requires.kinds link.now.far_kind link.now.far_guid in
    rw (← known) (search rules))

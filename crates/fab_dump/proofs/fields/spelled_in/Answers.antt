use Rattle.std.proofs.Common.{arith}
use Rattle.fab_dump.proofs.Reading.FieldNumbers.{digit_refused}
use Rattle.fab_dump.proofs.fields.spelled_in.Goals as goal

pub returns-in-None : goal.returns-in-None
returns-in-None c =
    digit_refused c.args.base c.loop-rest.number c.args.field.now c.requires c.loop-rest.rest.now (omega (arith, c.in-len1-up.len_at_least)) c.loop-rest.invariant.told c.loop-rest.invariant.all c.in-None.ensures.none

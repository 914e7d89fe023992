use Rattle.std.proofs.Common.{◌∙◌, sym, subst, Some, None}
use Rattle.std.specs.Prelude.{IfOk}
use Rattle.fab_model.specs.Topology.{Topology}
use Rattle.fab_model.specs.WellFormed.{IsFabric}
use Rattle.fab_dump.specs.Reading.{nothing_read}
use Rattle.fab_dump.proofs.Reading.FirstLines.{body_is, gives_same}
use Rattle.fab_dump.proofs.Reading.ReadTidy.{begun_orderly}
use Rattle.fab_dump.proofs.read.read_body.Goals as goal

pub returns-in_default-count_in-clause-exact : goal.returns-in_default-count_in-clause-exact
returns-in_default-count_in-clause-exact c =
    body_is c.args.fabric.now c.args.text.now c.args.first.next c.in-Some.version _ c.in-Some-next_line.second None c.in-Some.ensures c.in-Some-next_line.ensures.line (sym c.in_default-count_in.is ∙ c.count_in.ensures.count)

pub read_lines-requires-clause-read : goal.read_lines-requires-clause-read
read_lines-requires-clause-read c =
    let stands = c.in-Ok.ensures.stands in
    (c.args.fabric.now, record { version = c.in-Some.version; count = c.in-Some-count_in.count }, nothing_read, stands, begun_orderly c.args.fabric.now c.in-Some.version c.in-Some-count_in.count (subst IsFabric stands.same stands.fits.fabric) c.in-Some-count_in.ensures.within)

pub returns-in-Ok-clause-exact : goal.returns-in-Ok-clause-exact
returns-in-Ok-clause-exact c =
    let stands = c.in-Ok.ensures.stands in
    gives_same c.read_lines.result _ _
    (body_is c.args.fabric.now c.args.text.now c.args.first.next c.in-Some.version _ c.in-Some-next_line.second (Some c.in-Some-count_in.count) c.in-Some.ensures c.in-Some-next_line.ensures.line c.in-Some-count_in.ensures.count)
    (c.read_lines.ensures.exact c.args.fabric.now (record { version = c.in-Some.version; count = c.in-Some-count_in.count }) nothing_read stands
    (begun_orderly c.args.fabric.now c.in-Some.version c.in-Some-count_in.count (subst IsFabric stands.same stands.fits.fabric) c.in-Some-count_in.ensures.within))

pub returns-in-Ok-clause-kept : goal.returns-in-Ok-clause-kept
returns-in-Ok-clause-kept c = subst (λ (t : Topology). IfOk c.read_lines.result (λ plan. IsFabric t)) c.in-Ok.ensures.stands.same c.read_lines.ensures.kept

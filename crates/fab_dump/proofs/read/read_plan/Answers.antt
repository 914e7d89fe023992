use Rattle.std.proofs.Common.{◌≡◌, ◌∙◌, sym, subst, None}
use Rattle.std.specs.Prelude.{IfOk}
use Rattle.fab_model.specs.Topology.{Topology}
use Rattle.fab_model.specs.WellFormed.{IsFabric}
use Rattle.std.specs.Str.Lines.{lines}
use Rattle.fab_dump.specs.declared.form.Version.TheVariants.{Dump}
use Rattle.fab_dump.specs.Reading.{nothing_read, dump_form, read_lines, plan_of}
use Rattle.fab_dump.proofs.Reading.FirstLines.{plan_is, dump_is, nothing_is, gives_same, read_fits, read_tidy}
use Rattle.fab_dump.proofs.Reading.ReadTidy.{begun_orderly}
use Rattle.fab_dump.proofs.read.read_plan.Goals as goal
use Rattle.fab_dump.proofs.read.read_plan.Goals.{in_default-via-in-Some+else-starts_with, in_default-via-in_default}

pub returns-in-Some-clause-exact : goal.returns-in-Some-clause-exact
returns-in-Some-clause-exact c =
    gives_same c.read_body.result _ _ (plan_is c.args.fabric.now c.args.text.now c.in-Some.first c.in-Some.ensures.line (sym c.starts_with.ensures.value ∙ c.if-starts_with.true)) c.read_body.ensures.exact

pub returns-in-Some-clause-fits : goal.returns-in-Some-clause-fits
returns-in-Some-clause-fits c = read_fits c.args.fabric.now c.args.text.now c.read_body.result c.read_body.ensures.kept (returns-in-Some-clause-exact c)

pub returns-in-Some-clause-tidy : goal.returns-in-Some-clause-tidy
returns-in-Some-clause-tidy c = read_tidy c.args.fabric.now c.args.text.now c.read_body.result c.read_body.ensures.kept (returns-in-Some-clause-exact c)

pub returns-in-Ok-clause-exact : goal.returns-in-Ok-clause-exact
returns-in-Ok-clause-exact c =
    let t = c.args.fabric.now in
    let text = c.args.text.now in
    let stands = c.in-Ok.ensures.stands in
    let is : plan_of t text ≡ read_lines t dump_form 1 nothing_read (lines text) = elim c.in_default.branch [
      | in_default-via-in-Some+else-starts_with w ↦ dump_is t text w.in-Some.first w.in-Some.ensures.line (sym w.starts_with.ensures.value ∙ w.if-starts_with.false)
      | in_default-via-in_default w ↦ nothing_is t text (sym w.in_default.is ∙ c.next_line.ensures.line)
    ] in
    gives_same c.read_lines.result _ _ is (c.read_lines.ensures.exact t dump_form nothing_read stands (begun_orderly t Dump None (subst IsFabric stands.same stands.fits.fabric) tt))

pub returns-in-Ok-clause-fits : goal.returns-in-Ok-clause-fits
returns-in-Ok-clause-fits c = read_fits c.args.fabric.now c.args.text.now c.read_lines.result (subst (λ (t : Topology). IfOk c.read_lines.result (λ plan. IsFabric t)) c.in-Ok.ensures.stands.same c.read_lines.ensures.kept) (returns-in-Ok-clause-exact c)

pub returns-in-Ok-clause-tidy : goal.returns-in-Ok-clause-tidy
returns-in-Ok-clause-tidy c = read_tidy c.args.fabric.now c.args.text.now c.read_lines.result (subst (λ (t : Topology). IfOk c.read_lines.result (λ plan. IsFabric t)) c.in-Ok.ensures.stands.same c.read_lines.ensures.kept) (returns-in-Ok-clause-exact c)

pub read_lines-requires-clause-read : goal.read_lines-requires-clause-read
read_lines-requires-clause-read c =
    let stands = c.in-Ok.ensures.stands in
    (c.args.fabric.now, dump_form, nothing_read, stands, begun_orderly c.args.fabric.now Dump None (subst IsFabric stands.same stands.fits.fabric) tt)

use Rattle.std.proofs.Common.{sym, ap, ◌∙◌, subst, min, ◌-◌}
use Rattle.fab_dump.specs.FieldsLeft.{AreRowLids}
use Rattle.fab_dump.specs.Lines.{row_lids}
use Rattle.fab_dump.proofs.Reading.LongRows.{row_found}
use Rattle.fab_dump.proofs.reader.PlanReader.row_at.Goals as goal

pub returns-clause-row : goal.returns-clause-row
returns-clause-row c =
    let lids = c.args.self.now.lids in
    subst (λ fs. AreRowLids lids (c.in_ok-first.first, c.min.result) (row_lids lids fs)) (sym c.in_ok-next.ensures)
    (row_found lids c.in_ok-next.field-0.now c.next.new.self c.in_ok-lid.lid c.in_ok-first.first c.min.result c.in_ok-lid.ensures c.in_ok-first.ensures.place c.if-first-ne0.false (c.min.ensures ∙ ap (λ n. min (n - c.in_ok-first.first) 64) c.len.ensures.count) c.in_ok-first.ensures.within)

use Rattle.std.proofs.Common.{refl, inl, inr}
use Rattle.fab_updn.proofs.Roots.{numbers}
use Rattle.fab_updn.proofs.Plans.{no_refusal, no_ring, numbers_are}
use Rattle.fab_updn.proofs.up_down.updn.Goals as goal

pub unreachable-requires : goal.unreachable-requires
unreachable-requires c =
    let t = c.args.fabric.now in
    let good = c.in_ok-tables.ensures.fabric.rows in
    let named = numbers c.args.roots.now in
    elim c.in-Refused.is [
      | inl x ↦ no_refusal t good named (record { tables = c.in_ok-tables.tables; lanes = _ }) c.in_ok-tables.ensures.tables refl c.in_ok-numbered.field-0 (c.in_ok-numbered.ensures.plain tt) x.0 x.1
      | inr x ↦ no_ring t good named (record { tables = c.in_ok-tables.tables; lanes = _ }) c.in_ok-tables.ensures.tables refl c.in_ok-numbered.field-0 c.in_ok-numbered.ensures.answer x.0 x.1
    ]

pub returns-clause-plan : goal.returns-clause-plan
returns-clause-plan c =
    let t = c.args.fabric.now in
    let good = c.in_ok-tables.ensures.fabric.rows in
    let named = numbers c.args.roots.now in
    numbers_are t good named (record { tables = c.in_ok-tables.tables; lanes = _ }) c.in_ok-tables.ensures.tables refl c.in_ok-numbered.field-0 (c.in_ok-numbered.ensures.plain tt) c.in-Numbers.numbered c.in-Numbers.is
    (c.in_ok-numbered.ensures.fits c.in-Numbers.numbered c.in-Numbers.is)

use Rattle.std.proofs.Common.{◌≡◌, List, Option, ℕ, sym, ap, subst, arith}
use Rattle.std.specs.Prelude.{OnOk}
use Rattle.fab_model.specs.declared.rows.ChannelRow.{ChannelRow}
use Rattle.fab_report.specs.Cabling.{has_free_port, with_cable_to}
use Rattle.fab_report.proofs.Cabling.Drawing.{found_below}
use Rattle.fab_report.proofs.Cabling.LeastFree.{laid_cables}
use Rattle.fab_report.proofs.random.Laid.join.Goals as goal

pub lay-requires-clause-other : goal.lay-requires-clause-other
lay-requires-clause-other c = omega (arith, c.requires.switch, found_below (has_free_port c.args.self.now.cables) c.args.word c.args.s c.in-Some.other c.requires.some (sym c.in-Some.ensures))

pub lay-requires-clause-differ : goal.lay-requires-clause-differ
lay-requires-clause-differ c same = omega (arith, same, found_below (has_free_port c.args.self.now.cables) c.args.word c.args.s c.in-Some.other c.requires.some (sym c.in-Some.ensures))

pub returns-in-Some : goal.returns-in-Some
returns-in-Some c =
    subst (λ (xs : List ChannelRow). OnOk c.lay.result (c.lay.new.self ≡ laid_cables c.args.self.now.switches xs)) (ap (λ (o : Option ℕ). with_cable_to c.args.self.now.cables c.args.s o) c.in-Some.ensures) c.lay.ensures

use Rattle.std.proofs.Common.{◌+◌, sym, ◌∙◌}
use Rattle.std.specs.Prelude.{◌%◌}
use Rattle.fab_report.specs.Cabling.{has_free_port}
use Rattle.fab_report.proofs.Cabling.Drawing.{find_next, find_here}
use Rattle.fab_report.proofs.random.Laid.first_free.Goals as goal

pub returns-then-has_free_port : goal.returns-then-has_free_port
returns-then-has_free_port c =
    sym (find_here (has_free_port c.args.self.now.cables) (λ k. (c.args.word % c.args.s + k) % c.args.s) c.loop-k.k c.args.s c.loop-k-test.true (sym c.has_free_port.ensures ∙ c.if-has_free_port.true)) ∙ c.loop-k.invariant

pub loop-k-preserved : goal.loop-k-preserved
loop-k-preserved c =
    find_next (has_free_port c.args.self.now.cables) (λ k. (c.args.word % c.args.s + k) % c.args.s) c.loop-k.k c.args.s c.loop-k-test.true (sym c.has_free_port.ensures ∙ c.if-has_free_port.false) ∙ c.loop-k.invariant

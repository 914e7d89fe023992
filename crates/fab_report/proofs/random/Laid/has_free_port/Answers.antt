use Rattle.std.proofs.Common.{◌≡◌, ◌<◌, ℕ, length, ap, ◌∙◌, arith}
use Rattle.std.specs.Prelude.{nat_lt, slice_index}
use Rattle.std.proofs.lemmas.List.{get_or_read}
use Rattle.fab_report.specs.Cabling.{has_free_port}
use Rattle.fab_report.specs.Laying.{LaidCables}
use Rattle.fab_report.proofs.Cabling.LeastFree.{has_free_is}
use Rattle.fab_report.proofs.random.Laid.has_free_port.Goals as goal

pub returns : goal.returns
returns c =
    let ports = c.self.inside.free_ports.items in
    let low : c.args.s < length ports = omega (arith, c.requires, ap (λ (l : LaidCables). l.switches) c.self.view_is) in
    let port : c.index.result.now ≡ slice_index ports c.args.s = get_or_read ports _ _ low c.index.ensures 0 in
    ap (λ (n : ℕ). nat_lt n 255) port ∙ has_free_is c.self.inside.cables.items c.args.s (slice_index ports c.args.s) (c.self.invariant c.args.s low)
    ∙ ap (λ (l : LaidCables). has_free_port l.cables c.args.s) c.self.view_is

use Rattle.std.proofs.Common.{◌≡◌, Bool, List, sym, ap, subst}
use Rattle.std.specs.Prelude.{OnOk, ◌%◌}
use Rattle.std.proofs.lemmas.Bool.{ne_eqb}
use Rattle.fab_model.specs.declared.rows.ChannelRow.{ChannelRow}
use Rattle.fab_report.specs.Cabling.{unless_same}
use Rattle.fab_report.proofs.Cabling.LeastFree.{laid_cables}
use Rattle.fab_report.proofs.random.Laid.cross.Goals as goal

pub returns : goal.returns
returns c =
    let s = c.args.first % c.args.switches in
    let other = c.args.second % c.args.switches in
    subst (λ (xs : List ChannelRow). OnOk c.lay.result (c.lay.new.self ≡ laid_cables c.args.self.now.switches xs))
    (sym (ap (λ (same : Bool). unless_same same c.args.self.now.cables s other) (ne_eqb s other c.if-s-other.false))) c.lay.ensures

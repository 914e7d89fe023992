use Rattle.std.proofs.Common.{◌≡◌, Some, slice_get, subst}
use Rattle.std.proofs.lemmas.Option.{slice_get_within, get_or_from_slice_get}
use Rattle.fab_model.specs.Topology.{Topology}
use Rattle.fab_tables.proofs.Paths.Steps.{row_within}
use Rattle.fab_transit.proofs.walks.packet_on.Goals as goal

pub returns-clause-switch : goal.returns-clause-switch
returns-clause-switch c =
    let t = c.args.plans.now.fabric in
    let n = c.args.taken.hop.channel.0 in
    let row = c.channel-row.result in
    let at : slice_get t.channels n ≡ Some row = subst (λ (f : Topology). slice_get f.channels n ≡ Some row) c.fabric.ensures.fabric c.channel-row.ensures in
    row_within t c.fabric.ensures.kept.fabric row (n, slice_get_within t.channels n row at, get_or_from_slice_get t.channels n row row at)

use Rattle.std.proofs.Common.{◌≡◌, Some, subst, true, slice_set}
use Rattle.std.specs.Prelude.{slice_get}
use Rattle.std.proofs.lemmas.Option.{slice_get_within}
use Rattle.fab_escape.specs.Forest.{escape_next}
use Rattle.fab_mcast.proofs.MarkedWays.{IsStep, step_is, IsMarking, marking_stops, marking_goes}
use Rattle.fab_mcast.proofs.TreePorts.{channel_told, no_channel_told, tip_told}
use Rattle.fab_mcast.proofs.ways.mark_way.Goals as goal

pub tip-at-requires : goal.tip-at-requires
tip-at-requires c =
    let t = c.args.fabric.now in
    let f = c.args.escape.now in
    let e : escape_next f c.loop-passed.at.0 c.args.home.0 ≡ Some c.in-Some.channel.0 = channel_told (escape_next f c.loop-passed.at.0 c.args.home.0) c.next.result c.in-Some.channel c.next.ensures c.in-Some.is in
    let step : IsStep t c.requires.fabric.rows f c.requires.forest c.loop-passed.at.0 c.args.home.0 c.in-Some.channel.0 = step_is t c.requires.fabric.rows f c.requires.forest c.loop-passed.at.0 c.args.home.0 c.in-Some.channel.0 c.loop-passed.invariant.low c.requires.home e in
    slice_get_within t.channels c.in-Some.channel.0 step.row step.at

pub loop-passed-preserved : goal.loop-passed-preserved
loop-passed-preserved c =
    let t = c.args.fabric.now in
    let f = c.args.escape.now in
    let e : escape_next f c.loop-passed.at.0 c.args.home.0 ≡ Some c.in-Some.channel.0 = channel_told (escape_next f c.loop-passed.at.0 c.args.home.0) c.next.result c.in-Some.channel c.next.ensures c.in-Some.is in
    subst (λ x. IsMarking t f c.args.from.0 c.args.home.0 c.args.passed.now (slice_set c.loop-passed.passed c.loop-passed.at.0 true) x)
    (tip_told (slice_get t.channels c.in-Some.channel.0) c.tip-at.result c.tip-at.ensures)
    (marking_goes t c.requires.fabric.rows f c.requires.forest c.args.from.0 c.args.home.0 c.requires.home c.args.passed.now c.requires.each c.loop-passed.passed c.loop-passed.at.0 c.loop-passed.invariant c.in-Some.channel.0 e)

pub returns-in-None : goal.returns-in-None
returns-in-None c =
    let t = c.args.fabric.now in
    let f = c.args.escape.now in
    marking_stops t c.requires.fabric.rows f c.requires.forest c.args.from.0 c.args.home.0 c.requires.home c.args.passed.now c.requires.each c.loop-passed.passed c.loop-passed.at.0 c.loop-passed.invariant
    (no_channel_told (escape_next f c.loop-passed.at.0 c.args.home.0) c.next.result c.next.ensures c.in-None.is)

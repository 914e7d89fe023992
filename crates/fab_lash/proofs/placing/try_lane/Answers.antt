use Rattle.std.proofs.Common.{refl}
use Rattle.fab_lash.proofs.Places.{fit_lane, tried}
use Rattle.fab_lash.proofs.placing.try_lane.Goals as goal

pub takes-requires-clause-within : goal.takes-requires-clause-within
takes-requires-clause-within g c =
    fit_lane c.args.used.now c.args.dependencies.now c.args.lane c.lane_mut-arena.result.now c.reserve.new.self.channels c.requires.within c.lane_mut-arena.ensures.value c.reserve.ensures.channels

pub returns : goal.returns
returns g c =
    tried c.args.lane c.args.used.now _ c.lane_mut-arena.result.now c.reserve.new.self c.takes.new.graph c.args.dependencies.now c.takes.result c.lane_mut-arena.ensures.value refl
    c.reserve.ensures.listed c.reserve.ensures.channels c.takes.ensures.channels c.takes.ensures.taken c.takes.ensures.refused

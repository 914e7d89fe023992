use Rattle.std.proofs.Common.{◌≡◌, ◌+◌, suc, sym, ap, subst, arith}
use Rattle.std.specs.Prelude.{MatchBool}
use Rattle.fab_drain.specs.Loads.{IsLoad, hops_left}
use Rattle.fab_drain.specs.Drains.{Drains, IsStill}
use Rattle.fab_drain.specs.Turns.{IsMoveByRule}
use Rattle.fab_drain.proofs.Endings.{drains_more, drains_take}
use Rattle.fab_drain.proofs.HopCounts.{hops_few}
use Rattle.fab_drain.proofs.Moving.{moves_keep_loads, moves_take_one_hop}
use Rattle.fab_drain.proofs.DrainEnds.{load_small}
use Rattle.fab_drain.proofs.state.State.move_all.Goals as goal

pub overflow_add-moves : goal.overflow_add-moves
overflow_add-moves c =
    let t = c.args.fabric.now in
    let p = c.args.plan.now in
    let old = c.args.self.now in
    let is = c.requires.load.fabric in
    omega (arith, drains_take t p is c.requires.fits c.requires.admitted c.loop-turns.moves old c.loop-turns.self c.requires.load c.loop-turns.invariant.moves, hops_few t p old c.requires.load, load_small t p old c.requires.fits c.requires.load)

pub loop-turns-smaller : goal.loop-turns-smaller
loop-turns-smaller c =
    let t = c.args.fabric.now in
    let p = c.args.plan.now in
    let mid = c.loop-turns.self in
    let moved : IsMoveByRule t p mid c.move_next.new.self =
    subst (λ b. MatchBool b (IsMoveByRule t p mid c.move_next.new.self) (IsStill t p mid × (c.move_next.new.self ≡ mid))) c.if-branch.true c.in_ok-move_next.ensures.moved in
    omega (arith, moves_take_one_hop t p mid moved.0 c.requires.load.fabric c.requires.fits c.requires.admitted c.loop-turns.invariant.load moved.1.moves, ap hops_left moved.2)

pub loop-turns-preserved : goal.loop-turns-preserved
loop-turns-preserved c =
    let t = c.args.fabric.now in
    let p = c.args.plan.now in
    let old = c.args.self.now in
    let mid = c.loop-turns.self in
    let n = c.loop-turns.moves in
    let moved : IsMoveByRule t p mid c.move_next.new.self =
    subst (λ b. MatchBool b (IsMoveByRule t p mid c.move_next.new.self) (IsStill t p mid × (c.move_next.new.self ≡ mid))) c.if-branch.true c.in_ok-move_next.ensures.moved in
    let next : suc n ≡ n + 1 = omega arith in
    record {
      load = subst (λ l. IsLoad t p l) (sym moved.2) (moves_keep_loads t p mid moved.0 c.requires.load.fabric c.requires.fits c.requires.admitted c.loop-turns.invariant.load);
      moves = subst (λ k. Drains t p k old c.move_next.new.self) next (subst (λ l. Drains t p (suc n) old l) (sym moved.2) (drains_more t p n old mid moved.0 c.loop-turns.invariant.moves moved.1));
      turns = c.in_ok-move_next.ensures.turns;
    }

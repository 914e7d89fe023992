use Rattle.std.proofs.Common.{◌≡◌, ◌+◌, sym, subst}
use Rattle.fab_drain.specs.declared.packet.Moved.{Moved}
use Rattle.fab_drain.specs.Loads.{Load, IsLoad, hops_left}
use Rattle.fab_drain.specs.Moves.{IsMove}
use Rattle.fab_drain.proofs.Moving.{moves_keep_loads, moves_take_one_hop}
use Rattle.fab_drain.proofs.state.State.advance.Goals as goal

pub returns-clause-hop : goal.returns-clause-hop
returns-clause-hop c = λ moves.
    let old = c.args.self.now in
    let is = c.advance_to.ensures.moved in
    subst (λ (r : Moved × Load). hops_left r.1 + 1 ≡ hops_left old) (sym is)
    (moves_take_one_hop c.args.fabric.now c.args.plan.now old c.args.at c.requires.load.fabric c.requires.fits c.requires.admitted c.requires.load (subst (λ (r : Moved × Load). IsMove r.0) is moves))

pub returns-clause-load : goal.returns-clause-load
returns-clause-load c =
    subst (λ (r : Moved × Load). IsLoad c.args.fabric.now c.args.plan.now r.1) (sym c.advance_to.ensures.moved)
    (moves_keep_loads c.args.fabric.now c.args.plan.now c.args.self.now c.args.at c.requires.load.fabric c.requires.fits c.requires.admitted c.requires.load)

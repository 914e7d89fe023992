use Rattle.std.proofs.Common.{◌∙◌, sym, subst}
use Rattle.fab_drain.specs.Drains.{Drains}
use Rattle.fab_drain.proofs.DrainEnds.{IsEnd, keeps, ends_empty, ends_waiting}
use Rattle.fab_drain.proofs.state.State.drain.Goals as goal
use Rattle.fab_drain.proofs.state.State.drain.Goals.{then-packets-eq0, else-packets-eq0+in_ok-ring}

pub waiting_ring-requires-clause-load : goal.waiting_ring-requires-clause-load
waiting_ring-requires-clause-load c =
    let t = c.args.fabric.now in
    let p = c.args.plan.now in
    let old = c.args.self.now in
    let new = c.move_all.new.self in
    let moves : Drains t p c.in_ok-moves.moves old new = subst (λ load. Drains t p c.in_ok-moves.moves load new) c.in_ok-state.ensures c.in_ok-moves.ensures.moves in
    keeps t p old new c.requires.fits c.requires.admitted c.requires.load c.in_ok-moves.moves moves

pub returns-clause-hops : goal.returns-clause-hops
returns-clause-hops c =
    let t = c.args.fabric.now in
    let p = c.args.plan.now in
    let old = c.args.self.now in
    let new = c.move_all.new.self in
    let moves : Drains t p c.in_ok-moves.moves old new = subst (λ load. Drains t p c.in_ok-moves.moves load new) c.in_ok-state.ensures c.in_ok-moves.ensures.moves in
    let end : IsEnd t p old new c.if-packets-eq0.drained = elim c.if-packets-eq0.branch [
      | then-packets-eq0 w ↦
          subst (λ answer. IsEnd t p old new answer) (sym w.drained-is)
          (ends_empty t p old new c.requires.fits c.requires.admitted c.requires.load c.in_ok-moves.moves moves c.in_ok-moves.ensures.still (sym c.packets.ensures ∙ w.if-packets-eq0.true))
      | else-packets-eq0+in_ok-ring w ↦
          subst (λ answer. IsEnd t p old new answer) (sym w.drained-is)
          (ends_waiting t p old new c.requires.fits c.requires.admitted c.requires.load c.in_ok-moves.moves w.in_ok-ring.ring moves c.in_ok-moves.ensures.still (λ none. w.if-packets-eq0.false (c.packets.ensures ∙ none)) w.in_ok-ring.ensures)
    ] in
    end.hops

pub returns-clause-certified : goal.returns-clause-certified
returns-clause-certified c =
    let t = c.args.fabric.now in
    let p = c.args.plan.now in
    let old = c.args.self.now in
    let new = c.move_all.new.self in
    let moves : Drains t p c.in_ok-moves.moves old new = subst (λ load. Drains t p c.in_ok-moves.moves load new) c.in_ok-state.ensures c.in_ok-moves.ensures.moves in
    let end : IsEnd t p old new c.if-packets-eq0.drained = elim c.if-packets-eq0.branch [
      | then-packets-eq0 w ↦
          subst (λ answer. IsEnd t p old new answer) (sym w.drained-is)
          (ends_empty t p old new c.requires.fits c.requires.admitted c.requires.load c.in_ok-moves.moves moves c.in_ok-moves.ensures.still (sym c.packets.ensures ∙ w.if-packets-eq0.true))
      | else-packets-eq0+in_ok-ring w ↦
          subst (λ answer. IsEnd t p old new answer) (sym w.drained-is)
          (ends_waiting t p old new c.requires.fits c.requires.admitted c.requires.load c.in_ok-moves.moves w.in_ok-ring.ring moves c.in_ok-moves.ensures.still (λ none. w.if-packets-eq0.false (c.packets.ensures ∙ none)) w.in_ok-ring.ensures)
    ] in
    end.certified

pub returns-clause-load : goal.returns-clause-load
returns-clause-load c =
    let t = c.args.fabric.now in
    let p = c.args.plan.now in
    let old = c.args.self.now in
    let new = c.move_all.new.self in
    let moves : Drains t p c.in_ok-moves.moves old new = subst (λ load. Drains t p c.in_ok-moves.moves load new) c.in_ok-state.ensures c.in_ok-moves.ensures.moves in
    keeps t p old new c.requires.fits c.requires.admitted c.requires.load c.in_ok-moves.moves moves

use Rattle.std.proofs.Common.{◌<◌, length, arith}
use Rattle.std.proofs.lemmas.Bool.{MatchBool-at_true}
use Rattle.fab_tables.specs.Route.{tip}
use Rattle.fab_nue.specs.Search.{tail}
use Rattle.fab_nue.specs.Turns.{Crosses}
use Rattle.fab_nue.proofs.Searching.Runs.{tail_joined}
use Rattle.fab_nue.proofs.Searching.Ending.{no_crossing}
use Rattle.fab_nue.proofs.completing.is_complete.Goals as goal

pub returns-then-crosses-clause-left : goal.returns-then-crosses-clause-left
returns-then-crosses-clause-left c = λ e.
    let t = c.args.fabric.now in
    let n = c.loop-number.number in
    let low : n < length t.channels = omega (arith, c.loop-number-test.true, c.channels-number-end.ensures.count) in
    let open_in : Crosses t c.args.to.0 c.args.tree.now n =
    MatchBool-at_true (Crosses t c.args.to.0 c.args.tree.now n) (¬ Crosses t c.args.to.0 c.args.tree.now n) c.if-crosses.true c.crosses.ensures in
    (tail t n, tail_joined t n c.args.to.0 low (c.requires.connected (tip t n) open_in.1), open_in.0)

pub returns-clause-complete : goal.returns-clause-complete
returns-clause-complete c = λ e.
    no_crossing c.args.fabric.now c.args.to.0 c.args.tree.now
    (λ k low open_tail settled. c.loop-number.invariant k (omega (arith, low, c.loop-number-test.false, c.channels-number-end.ensures.count)) (open_tail, settled))

-- The packets on so many virtual channels are ready.
use Rattle.std.proofs.Common.{◌≡◌, [], length, replicate}
use Rattle.fab_drain.proofs.Readying.{AreReady}
use Rattle.fab_drain.proofs.state.State.all_ready.Given as goal

abbrev pub invariant-loop-number : goal.invariant-loop-number
invariant-loop-number l = record {
  ready : AreReady l.self l.turns.ready.keys l.number;
  waiting : l.turns.waiting ≡ replicate (length l.self.cells) [];
}

use Rattle.std.proofs.Common.{◌≡◌, ◌+◌, ◌≤◌, length, take}
use Rattle.fab_depgraph.proofs.arena.DepGraph.undo_to.Given as goal

abbrev pub invariant-loop-mark : goal.invariant-loop-mark
invariant-loop-mark g l = record {
  back : l.mark.0 ≤ length l.self.listed;
  few : length l.self.listed ≤ length l.initial.self.listed;
  listed : l.self.listed ≡ take (length l.self.listed) l.initial.self.listed;
  spare : l.self.spare + length l.self.listed ≡ l.initial.self.spare + length l.initial.self.listed;
  channels : l.self.channels ≡ l.initial.self.channels;
  numbers : l.self.numbers ≡ l.initial.self.numbers;
  steps : l.steps + length l.self.listed ≡ l.initial.steps + length l.initial.self.listed;
}

abbrev pub decreases-loop-mark : goal.decreases-loop-mark
decreases-loop-mark g l = length l.self.listed

-- No channel so far leads up.
use Rattle.std.proofs.Common.{ℕ, ◌≤◌, ◌<◌}
use Rattle.fab_model.specs.Topology.{first_channel}
use Rattle.fab_escape.specs.Trees.{LeadsUp}
use Rattle.fab_escape.proofs.links.link_up.Given as goal

abbrev pub invariant-loop-number : goal.invariant-loop-number
invariant-loop-number l = (d : ℕ) → first_channel l.fabric l.fn.s.0 ≤ d → d < l.number → ¬ LeadsUp l.fabric l.root.0 l.fn.s.0 d

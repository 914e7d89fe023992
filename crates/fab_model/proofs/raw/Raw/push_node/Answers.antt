use Rattle.std.proofs.Common.{arith}
use Rattle.fab_model.proofs.Pushed.{are_records_push_node}
use Rattle.fab_model.proofs.raw.Raw.push_node.Goals as goal

pub invariant_of-self-2 : goal.invariant_of-self-2
invariant_of-self-2 c =
    let below = rw (← c.self.view_is) at c.requires in
    rw c.in_ok-push.ensures.items (are_records_push_node _ c.args.node c.self.invariant below (omega arith) (omega arith) c.bytes.ensures.limits)

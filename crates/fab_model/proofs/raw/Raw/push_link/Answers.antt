use Rattle.std.proofs.Common.{arith}
use Rattle.fab_model.proofs.Pushed.{are_records_push_link}
use Rattle.fab_model.proofs.raw.Raw.push_link.Goals as goal

pub invariant_of-self-2 : goal.invariant_of-self-2
invariant_of-self-2 c =
    let below = rw (← c.self.view_is) at c.requires.line in
    let under = rw (← c.self.view_is) at c.requires.node in
    rw c.in_ok-push.ensures.items (are_records_push_link _ c.args.link c.self.invariant below under (omega arith) (omega arith) (omega arith))

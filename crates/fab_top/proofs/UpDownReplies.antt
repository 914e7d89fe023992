-- Up/down plans: from every switch, what follows on a route is a legal turn, and legal turns close no walk.
use Rattle.std.proofs.Common.{◌≡◌, arith}
use Rattle.fab_updn.specs.Laws.{IsLegalTurn}
use Rattle.fab_updn.proofs.NoUpAfterDown.{follow_legally}
use Rattle.fab_updn.proofs.Reaching.{up_down_reaches}
use Rattle.fab_updn.proofs.Turns.{legal_turns_are_acyclic}
use Rattle.fab_replies.proofs.EngineReplies.{engine_numbered, reply_connected}
use Rattle.fab_top.specs.EngineReplies.{UpDownRepliesAreNumbered}

pub up_down_replies_are_numbered : UpDownRepliesAreNumbered
up_down_replies_are_numbered t named p fabric plan answer is =
    engine_numbered t 1 (λ s lid n. n ≡ 0) p fabric plan.lanes (λ n c d. IsLegalTurn t plan.tables.ranks c d) answer
    (up_down_reaches t plan.tables.ranks p.tables fabric.rows plan.tables.tables)
    (λ s lid n source connected given. omega (arith, given))
    (λ s lid n c d source connected given f. follow_legally t plan.tables.ranks p.tables s lid c d fabric.rows plan.tables.tables connected f)
    (λ q lid from n c d reply given f. follow_legally t plan.tables.ranks p.tables from.switch.0 q.lid.0 c d fabric.rows plan.tables.tables (reply_connected t q lid from fabric reply) f)
    (λ n. legal_turns_are_acyclic t plan.tables.ranks) is

-- Engines whose plans have numbers for their packets and the replies to them.
use Rattle.std.specs.Prelude.{ℕ, List, [], None}
use Rattle.fab_model.specs.Topology.{Topology}
use Rattle.fab_model.specs.WellFormed.{IsFabric}
use Rattle.fab_tables.specs.declared.plan.Plan.{Plan}
use Rattle.fab_depgraph.specs.Listed.{Dependencies}
use Rattle.fab_updn.specs.UpDownPlans.{IsUpDownPlan}
use Rattle.fab_lash.specs.Layered.{IsLayeredPlan}
use Rattle.fab_nue.specs.NuePlan.{IsNuePlan}
use Rattle.fab_replies.specs.declared.replied.Replied.{Replied}
use Rattle.fab_replies.specs.Answers.{IsAnswerTo}
use Rattle.fab_replies.specs.Turning.{IsNumbers}

-- the plan's replies are answered by numbers
abbrev pub HasNumberedReplies : Topology → Plan → Type 0
HasNumberedReplies t p = (answer : Replied) → IsAnswerTo t p answer → IsNumbers answer

abbrev pub UpDownRepliesAreNumbered : Type 0
UpDownRepliesAreNumbered = (t : Topology) (named : List ℕ) (p : Plan) → IsFabric t → IsUpDownPlan t named p → HasNumberedReplies t p

abbrev pub LayeredRepliesAreNumbered : Type 0
LayeredRepliesAreNumbered = (t : Topology) (count : ℕ) (p : Plan) (used : List Dependencies) → IsFabric t → IsLayeredPlan t count p used → HasNumberedReplies t p

-- on one lane, with no old plan to keep anything of
abbrev pub NueRepliesAreNumbered : Type 0
NueRepliesAreNumbered = (t : Topology) (p : Plan) → IsFabric t → IsNuePlan t 1 None [] p → HasNumberedReplies t p

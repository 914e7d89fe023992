-- Plans of Nue on one lane: the trees of all LIDs are in use, and what is in use closes no walk.
use Rattle.std.proofs.Common.{◌≡◌, ℕ, ◌<◌, ◌≤◌, inr, List, [], None, Option, arith}
use Rattle.fab_graph.specs.Walks.{IsAcyclic}
use Rattle.fab_graph.proofs.Graphs.{rising_is_acyclic}
use Rattle.fab_model.specs.Topology.{Topology}
use Rattle.fab_model.specs.Connected.{IsConnectedTo}
use Rattle.fab_model.specs.WellFormed.{IsWellFormed}
use Rattle.fab_tables.specs.declared.plan.Plan.{Plan}
use Rattle.fab_tables.specs.Route.{route}
use Rattle.fab_tables.specs.VirtualChannels.{Follow}
use Rattle.fab_tables.proofs.Joined.Lids.{lid_in_use}
use Rattle.fab_escape.specs.Forest.{Forest}
use Rattle.fab_escape.specs.EscapeSet.{home, escape_number}
use Rattle.fab_escape.proofs.Numbers.{escape_numbers_rise}
use Rattle.fab_nue.specs.NuePlan.{DependsToEscapeIn, IsLaid, IsInUse, IsLaying, IsNueLevel}
use Rattle.fab_nue.specs.Laying.{AreLaid}
use Rattle.fab_nue.proofs.Laying.InUse.{all_acyclic, laid_out}
use Rattle.fab_nue.proofs.Laying.LaidRoutes.{laid_depends}
use Rattle.fab_nue.proofs.Laying.Reaching.{home_below}
use Rattle.fab_nue.proofs.Plans.CertifiedPlan.{nue_level_below}
use Rattle.fab_nue.proofs.Plans.OverEscape.{nue_is_certified, trees}
use Rattle.fab_replies.proofs.EngineReplies.{engine_numbered, reply_connected}
use Rattle.fab_top.specs.EngineReplies.{NueRepliesAreNumbered}

some : 0 < 1
some = omega arith

few : 1 ≤ 15
few = omega arith

module _ (t : Topology) (good : IsWellFormed t) (forest : ℕ → Forest) (laid : ℕ → List (Option ℕ)) (p : Plan) (laying : IsLaying t 1 None [] forest laid p) where
  abbrev InUse : ℕ → ℕ → Type 0
  InUse c d = IsInUse t 1 None [] forest laid (λ other. Unit {0}) 0 c d

  out : AreLaid t 1 None [] forest laid p.tables
  out = laid_out t 1 None [] forest laid p laying

  is_laid : (s lid : ℕ) → IsConnectedTo t s lid → IsLaid t [] lid
  is_laid s lid connected = (lid_in_use t lid connected.0 connected.1, λ none. absurd (omega (arith, none.1)))

  at_home : (s lid : ℕ) → IsConnectedTo t s lid → home t lid 1 ≡ 0
  at_home s lid connected = omega (arith, home_below t lid 1 connected.0 some connected.1)

  -- from every switch, what follows on a route is in use
  in_use : (s lid c d : ℕ) → IsConnectedTo t s lid → Follow (route t p.tables s lid).channels c d → InUse c d
  in_use s lid c d connected follow = inr (inr (
    lid,
    is_laid s lid connected,
    tt,
    at_home s lid connected,
    laid_depends t 1 None [] forest laid p.tables good some out (trees t 1 None [] forest laid p good some laying) lid (is_laid s lid connected) s c d connected follow,
  ))

  closes_none : IsAcyclic InUse
  closes_none = all_acyclic t 1 None [] forest laid p.tables good out 0 some
      (rising_is_acyclic (λ (c d : ℕ). DependsToEscapeIn t 1 forest 0 c d) (escape_number t (forest 0)) (escape_numbers_rise t 1 0 (forest 0) good (laying.forests 0 some)))

pub nue_replies_are_numbered : NueRepliesAreNumbered
nue_replies_are_numbered t p fabric plan answer is =
    engine_numbered t 1 (λ s lid n. IsNueLevel t 1 None [] s lid n) p fabric plan.2.plan (λ n c d. InUse t fabric.rows plan.0 plan.1 p plan.2 c d) answer
    (nue_is_certified t 1 None [] p fabric.rows some few plan).2
    (nue_level_below t 1 None [] plan.0 plan.1 p.tables some (laid_out t 1 None [] plan.0 plan.1 p plan.2))
    (λ s lid n c d source connected given f. in_use t fabric.rows plan.0 plan.1 p plan.2 s lid c d connected f)
    (λ q lid from n c d reply given f. in_use t fabric.rows plan.0 plan.1 p plan.2 from.switch.0 q.lid.0 c d (reply_connected t q lid from fabric reply) f)
    (λ n. closes_none t fabric.rows plan.0 plan.1 p plan.2) is

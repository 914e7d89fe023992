-- The replies of plans that routing engines write: what an engine has to show of its levels and routes.
use Rattle.std.proofs.Common.{◌≡◌, ℕ, ◌<◌, ◌⊎◌, inl, inr, sym, ◌∙◌, subst, arith, Some}
use Rattle.std.proofs.lemmas.Option.{same_Some}
use Rattle.fab_graph.specs.Walks.{IsAcyclic}
use Rattle.fab_graph.proofs.Parts.{part_acyclic}
use Rattle.fab_model.specs.declared.rows.Place.{Place}
use Rattle.fab_model.specs.declared.rows.TerminalRow.{TerminalRow}
use Rattle.fab_model.specs.Topology.{Topology}
use Rattle.fab_model.specs.Connected.{AreConnected, IsConnectedTo}
use Rattle.fab_model.specs.WellFormed.{IsFabric}
use Rattle.fab_tables.specs.declared.plan.Plan.{Plan}
use Rattle.fab_tables.specs.Certified.{Reaches}
use Rattle.fab_tables.specs.Dependencies.{IsPath}
use Rattle.fab_tables.specs.Fit.{IsSource}
use Rattle.fab_tables.specs.LaneTables.{level}
use Rattle.fab_tables.specs.Route.{route}
use Rattle.fab_tables.specs.VirtualChannels.{Follow}
use Rattle.fab_tables.proofs.Joined.Walks.{connected_back}
use Rattle.fab_tables.proofs.Verdicts.PlainLaws.{source_of}
use Rattle.fab_certify.specs.EnginePlans.{IsEnginePlan}
use Rattle.fab_certify.proofs.Engines.EngineLanes.{engine_certified}
use Rattle.fab_replies.specs.declared.replied.Replied.{Replied}
use Rattle.fab_replies.specs.Replies.{IsReply}
use Rattle.fab_replies.specs.Answers.{IsAnswerTo}
use Rattle.fab_replies.specs.Turning.{IsNumbers, TurnsOfPackets, TurnsOfReplies, IsAcyclicByLevel}
use Rattle.fab_replies.proofs.TerminalPlaces.{place_of_terminal}
use Rattle.fab_replies.proofs.TurningLanes.{acyclic_by_level_is_numbered}

-- where a reply begins is connected to the terminal to which it goes
pub reply_joined : (t : Topology) (p : TerminalRow) (lid : ℕ) (from : Place) → IsReply t p lid from → AreConnected t p.switch.0 from.switch.0
reply_joined t p lid from reply =
    subst (λ (q : Place). AreConnected t p.switch.0 q.switch.0) (same_Some reply.path.connected.0 from (sym reply.path.connected.1 ∙ reply.place)) reply.path.connected.2

pub reply_connected : (t : Topology) (p : TerminalRow) (lid : ℕ) (from : Place) → IsFabric t → IsReply t p lid from → IsConnectedTo t from.switch.0 p.lid.0
reply_connected t p lid from fabric reply =
    (record { switch = p.switch; port = p.port }, place_of_terminal t fabric p reply.path.terminal, connected_back t fabric.rows p.switch.0 from.switch.0 (reply_joined t p lid from reply))

module _ (t : Topology) (count : ℕ) (Given : ℕ → ℕ → ℕ → Type 0) (p : Plan) (fabric : IsFabric t) (plan : IsEnginePlan t count Given p) where
  source : (q : TerminalRow) (lid : ℕ) → IsPath t q lid → IsSource t q.switch.0
  source q lid path = source_of t.terminals q path.terminal.0 path.terminal.1 path.terminal.2

  -- a level that stands there was given
  given : (q : TerminalRow) (lid n : ℕ) → IsPath t q lid → level plan.lanes q.switch.0 lid ≡ Some n → Given q.switch.0 lid n
  given q lid n path is =
      let g : (m : ℕ) × Given q.switch.0 lid m × (level plan.lanes q.switch.0 lid ≡ Some m) = plan.levels.levels q.switch.0 lid (source q lid path) path.connected in
      subst (λ m. Given q.switch.0 lid m) (same_Some g.0 n (sym g.2 ∙ is)) g.1

  -- The levels that are given are below the count. What follows on a route to a LID is a turn of the level that is given there, and so is what follows on the
  -- route back. The turns of no level close a walk. Then the answer is numbers.
  pub engine_numbered : (Turns : ℕ → ℕ → ℕ → Type 0) (answer : Replied) → Reaches t p.tables →
      ((s lid n : ℕ) → IsSource t s → IsConnectedTo t s lid → Given s lid n → n < count) →
      ((s lid n c d : ℕ) → IsSource t s → IsConnectedTo t s lid → Given s lid n → Follow (route t p.tables s lid).channels c d → Turns n c d) →
      ((q : TerminalRow) (lid : ℕ) (from : Place) (n c d : ℕ) → IsReply t q lid from → Given q.switch.0 lid n → Follow (route t p.tables from.switch.0 q.lid.0).channels c d → Turns n c d) →
      ((n : ℕ) → IsAcyclic (λ (c d : ℕ). Turns n c d)) → IsAnswerTo t p answer → IsNumbers answer
  engine_numbered Turns answer reaches low there back acyclic is =
      acyclic_by_level_is_numbered t p plan.lanes answer fabric.rows (engine_certified t count Given p fabric.rows reaches low plan) plan.has_lanes plan.fits plan.maps by_level is
    where
      turn : (n c d : ℕ) → TurnsOfPackets t p.tables plan.lanes n c d ⊎ TurnsOfReplies t p.tables plan.lanes n c d → Turns n c d
      turn n c d (inl x) = there x.0.switch.0 x.1 n c d (source x.0 x.1 x.2) x.2.connected (given x.0 x.1 n x.2 x.3) x.4
      turn n c d (inr x) = back x.0 x.1 x.2 n c d x.3 (given x.0 x.1 n x.3.path x.4) x.5

      by_level : IsAcyclicByLevel t p.tables plan.lanes
      by_level = record {
        low = λ q lid n path at. omega (arith, plan.lane_count, low q.switch.0 lid n (source q lid path) path.connected (given q lid n path at));
        acyclic = λ n. part_acyclic (λ (c d : ℕ). TurnsOfPackets t p.tables plan.lanes n c d ⊎ TurnsOfReplies t p.tables plan.lanes n c d) (λ (c d : ℕ). Turns n c d) (λ c d. turn n c d) (acyclic n);
      }

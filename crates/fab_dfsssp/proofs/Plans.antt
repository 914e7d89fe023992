-- Plans without rings are certified, and one.
use Rattle.std.proofs.Common.{◌≡◌, ℕ, ◌<◌, sym, ◌∙◌, subst, arith}
use Rattle.fab_graph.specs.Walks.{IsAcyclic}
use Rattle.fab_graph.proofs.Parts.{part_acyclic}
use Rattle.fab_model.specs.Topology.{Topology}
use Rattle.fab_model.specs.Connected.{IsConnectedTo}
use Rattle.fab_model.specs.WellFormed.{IsWellFormed}
use Rattle.fab_tables.specs.Entries.{Entries}
use Rattle.fab_tables.specs.Fit.{LanesFit, IsSource}
use Rattle.fab_tables.specs.LaneTables.{LaneTables, HasLanePerLevel}
use Rattle.fab_tables.specs.Plain.{DependsPlainly}
use Rattle.fab_certify.specs.EnginePlans.{HasLevels}
use Rattle.fab_sssp.proofs.Tables.OneTable.{one_least_weight_tables}
use Rattle.fab_sssp.proofs.Tables.RoutesLeast.{least_weight_reaches}
use Rattle.fab_dfsssp.specs.Assignments.{IsEdgeOfLane}
use Rattle.fab_dfsssp.specs.Breaking.{IsBroken}
use Rattle.fab_dfsssp.specs.Laws.{DfssspIsCertified, OneDfssspPlan}
use Rattle.fab_certify.proofs.Engines.EngineLanes.{FollowsAtLevel, levelwise_acyclic, engine_certified}
use Rattle.fab_certify.proofs.Engines.OneEnginePlan.{one_engine_plan}
use Rattle.fab_dfsssp.proofs.Steps.{lanes_stay_below, one_broken}

pub dfsssp_is_certified : DfssspIsCertified
dfsssp_is_certified t count p good x =
    engine_certified t count (λ s lid n. n ≡ x.lane_of s lid) p good (least_weight_reaches t p.tables good x.tables)
    (λ s lid n source connected given. omega (arith, given, lanes_stay_below t p.tables count x.broken.steps x.lane_of (omega (arith, x.lanes.fits.whole.count, x.lanes.lane_count)) x.broken.after s lid))
    x.lanes

pub one_dfsssp_plan : OneDfssspPlan
one_dfsssp_plan t count p q good x y = one_engine_plan t count (λ s lid n. n ≡ x.lane_of s lid) (λ s lid n. n ≡ y.lane_of s lid) p q tables alike x.lanes y.lanes
  where
    tables : p.tables ≡ q.tables
    tables = one_least_weight_tables t p.tables q.tables good x.tables y.tables

    alike : (s lid m n : ℕ) → IsSource t s → IsConnectedTo t s lid → m ≡ x.lane_of s lid → n ≡ y.lane_of s lid → m ≡ n
    alike s lid m n source connected a b = a ∙ one_broken t q.tables count x.lane_of y.lane_of (subst (λ e. IsBroken t e count x.lane_of) tables x.broken) y.broken s lid ∙ sym b

-- where no lane has a ring, the dependencies of lanes with these levels close no walk, so the plan has numbers
pub broken_acyclic : (t : Topology) (e : Entries) (lane_of : ℕ → ℕ → ℕ) (l : LaneTables) → IsWellFormed t → ((lane : ℕ) → IsAcyclic (λ (c d : ℕ). IsEdgeOfLane t e lane_of lane c d)) →
    LanesFit t l → HasLanePerLevel l → HasLevels t l (λ s lid n. n ≡ lane_of s lid) → ((s lid : ℕ) → lane_of s lid < l.count) → IsAcyclic (DependsPlainly t e l)
broken_acyclic t e lane_of l good acyclic fits maps levels low =
    levelwise_acyclic t e l (λ s lid n. n ≡ lane_of s lid) good fits maps levels (λ s lid n source connected given. omega (arith, given, low s lid)) (λ s lid m n source connected a b. a ∙ sym b)
    (λ lane. part_acyclic (λ (c d : ℕ). FollowsAtLevel t e (λ s lid n. n ≡ lane_of s lid) lane c d) (λ (c d : ℕ). IsEdgeOfLane t e lane_of lane c d)
    (λ c d x. (x.0, x.1, x.2, x.3, sym x.4, x.5)) (acyclic lane))

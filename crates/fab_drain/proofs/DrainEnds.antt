-- What draining promises, from the moves that were made.
use Rattle.std.proofs.Common.{◌≡◌, ℕ, ◌*◌, ◌≤◌, List, length, subst, arith, Option, Some, None}
use Rattle.std.specs.Prelude.{IfSome}
use Rattle.std.proofs.Math.Nat.{mul-le-mul_left, mul_comm}
use Rattle.fab_model.specs.Topology.{Topology}
use Rattle.fab_model.specs.Faults.{switch_limit, port_limit}
use Rattle.fab_tables.specs.declared.plan.Plan.{Plan}
use Rattle.fab_tables.specs.Fit.{LanesFit, PlanFits}
use Rattle.fab_tables.specs.LaneTables.{LaneTables}
use Rattle.fab_tables.specs.Reading.{count_read}
use Rattle.fab_drain.specs.declared.state.Drained.{Drained}
use Rattle.fab_drain.specs.declared.state.Drained.TheVariants.{Empty, Waiting}
use Rattle.fab_certify.specs.Certificate.{IsSoundPlan}
use Rattle.fab_drain.specs.Loads.{Load, IsLoad, hops_left}
use Rattle.fab_drain.specs.Drains.{Drains, IsStill, IsEmpty, IsWaitingRing, EndsAs}
use Rattle.fab_drain.specs.Laws.{CertifiedDrains}
use Rattle.fab_drain.proofs.Endings.{drains_keep, empty_moves_all_hops, certified_loads_drain}

-- all that draining ensures of an answer
pub record IsEnd (t : Topology) (p : Plan) (old new : Load) (answer : Drained) : Type 0 where
  pub ends : EndsAs t p old new answer
  pub hops : (moves : ℕ) → answer ≡ Empty moves → moves ≡ hops_left old
  pub certified : CertifiedDrains t p old answer
  pub load : IsLoad t p new

module _ (t : Topology) (p : Plan) (old new : Load) (fits : PlanFits t p) (admitted : IsSoundPlan t p) (good : IsLoad t p old) where
  pub keeps : (moves : ℕ) → Drains t p moves old new → IsLoad t p new
  keeps moves d = drains_keep t p good.fabric fits admitted moves old new good d

  pub ends_empty : (moves : ℕ) → Drains t p moves old new → IsStill t p new → IsEmpty new → IsEnd t p old new (Empty moves)
  ends_empty moves d still none = record {
    ends = (d, still, none);
    hops = λ n e. empty_moves_all_hops t p old new n good.fabric fits admitted good (subst (λ a. EndsAs t p old new a) e (d, still, none));
    certified = certified_loads_drain t p old new (Empty moves) good.fabric fits good (d, still, none);
    load = keeps moves d;
  }

  pub ends_waiting : (moves : ℕ) (ring : List ℕ) → Drains t p moves old new → IsStill t p new → ¬ IsEmpty new → IsWaitingRing t p new ring → IsEnd t p old new (Waiting moves ring)
  ends_waiting moves ring d still some around = record {
    ends = (d, still, some, around);
    hops = λ n e. empty_moves_all_hops t p old new n good.fabric fits admitted good (subst (λ a. EndsAs t p old new a) e (d, still, some, around));
    certified = certified_loads_drain t p old new (Waiting moves ring) good.fabric fits good (d, still, some, around);
    load = keeps moves d;
  }

-- a load has few cells
few_lanes : (t : Topology) (lanes : Option LaneTables) → IfSome lanes (LanesFit t) → count_read lanes ≤ 15
few_lanes t None fits = omega arith
few_lanes t (Some l) fits = fits.whole.count.1

pub load_small : (t : Topology) (p : Plan) (load : Load) → PlanFits t p → IsLoad t p load → length load.cells ≤ switch_limit * port_limit * 15
load_small t p load fits good =
    let count : load.count ≤ 15 = omega (arith, few_lanes t p.lanes fits.lanes, good.count) in
    omega (arith, good.each, good.fabric.rows.channel_count, mul-le-mul_left load.count good.fabric.rows.channel_count, mul-le-mul_left (switch_limit * port_limit) count, mul_comm load.count (switch_limit * port_limit))

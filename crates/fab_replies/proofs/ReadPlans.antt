-- What is said of a plan as it is read is said of the plan.
use Rattle.std.proofs.Common.{◌≡◌, subst, sym, Result, Ok, Err, Some, None, Option}
use Rattle.std.specs.Prelude.{IfOk, IfSome}
use Rattle.fab_model.specs.Topology.{Topology}
use Rattle.fab_tables.specs.declared.plan.Plan.{Plan}
use Rattle.fab_tables.specs.Dependencies.{AreReadLanes}
use Rattle.fab_tables.specs.Entries.{Entries}
use Rattle.fab_tables.specs.First.{IsFirst}
use Rattle.fab_tables.specs.Fit.{LanesFit, PlanFits}
use Rattle.fab_tables.specs.LaneTables.{LaneTables}
use Rattle.fab_certify.specs.Numbered.{IsSound}
use Rattle.fab_certify.proofs.ReadAlike.{sound_alike}
use Rattle.fab_replies.specs.declared.replied.Replied.{Replied}
use Rattle.fab_replies.specs.declared.replied.Replied.TheVariants.{Numbers, Refused, BadLane, RingReplies}
use Rattle.fab_replies.specs.Answers.{IsFaultAt, IsAnswerBy, IsAnswerTo}
use Rattle.fab_certify.specs.Certificate.{IsSoundPlan}
use Rattle.fab_replies.specs.Read.{Read}

read_fits : (t : Topology) (o : Option LaneTables) (l : LaneTables) → IfSome o (LanesFit t) → AreReadLanes t o l → LanesFit t l
read_fits t None l fits read = read.fits
read_fits t (Some kept) l fits read = subst (LanesFit t) read fits

-- a first fault answers a sound plan
fault_answers : (t : Topology) (e : Entries) (l : LaneTables) (fault : Replied) → IsSound t e l → IsFirst (IsFaultAt t e l) fault → IsAnswerBy t e l fault
fault_answers t e l (Numbers n) sound first = absurd first.1
fault_answers t e l (Refused n) sound first = absurd first.1
fault_answers t e l (RingReplies n) sound first = absurd first.1
fault_answers t e l (BadLane lid from at) sound first = (sound, first)

-- a plan that is read with these lanes
module _ (t : Topology) (p q : Plan) (same : q ≡ p) (l : LaneTables) (read : AreReadLanes t q.lanes l) where
  read_by : AreReadLanes t p.lanes l
  read_by = subst (λ (o : Plan). AreReadLanes t o.lanes l) same read

  pub lanes_fit : PlanFits t p → LanesFit t l
  lanes_fit fits = read_fits t p.lanes l fits.lanes read_by

  sound_read : IsSoundPlan t p → IsSound t q.tables l
  sound_read sound = subst (λ (o : Plan). IsSound t o.tables l) (sym same) (sound_alike t p.tables p.lanes sound.0 l sound.1 read_by sound.2)

  module _ (r : Read) (is : r ≡ record { fabric = t; entries = q.tables; lanes = l }) where
    pub sound_there : IsSoundPlan t p → IsSound r.fabric r.entries r.lanes
    sound_there sound = subst (λ (s : Read). IsSound s.fabric s.entries s.lanes) (sym is) (sound_read sound)

    answer_to : (answer : Replied) → IsAnswerBy r.fabric r.entries r.lanes answer → IsAnswerTo t p answer
    answer_to answer by = (l, read_by, subst (λ (o : Plan). IsAnswerBy t o.tables l answer) same (subst (λ (s : Read). IsAnswerBy s.fabric s.entries s.lanes answer) is by))

    pub answered_by : {E : Type 0} (result : Result Replied E) → IfOk result (IsAnswerBy r.fabric r.entries r.lanes) → IfOk result (IsAnswerTo t p)
    answered_by (Ok answer) by = answer_to answer by
    answered_by (Err e) by = tt

    pub fault_to : (fault : Replied) → IsSoundPlan t p → IsFirst (IsFaultAt r.fabric r.entries r.lanes) fault → IsAnswerTo t p fault
    fault_to fault sound first = answer_to fault (fault_answers r.fabric r.entries r.lanes fault (sound_there sound) first)

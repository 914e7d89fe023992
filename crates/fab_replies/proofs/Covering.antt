-- Numbers of packets and replies cover both; and where levels are the same both ways, replies are packets.
use Rattle.std.proofs.Common.{◌≡◌, ◌<◌, inl, refl, subst, arith, Result, Ok, Err}
use Rattle.std.specs.Prelude.{IfOk}
use Rattle.fab_graph.specs.Walks.{Rises}
use Rattle.fab_model.specs.Topology.{Topology}
use Rattle.fab_tables.specs.declared.plan.Plan.{Plan}
use Rattle.fab_tables.specs.declared.verdict.VirtualChannel.{VirtualChannel}
use Rattle.fab_tables.specs.Entries.{Entries}
use Rattle.fab_tables.specs.LaneTables.{LaneTables}
use Rattle.fab_tables.specs.VirtualChannels.{virtual_channels}
use Rattle.fab_tables.specs.Dependencies.{IsUsed, Depends}
use Rattle.fab_tables.specs.Certified.{HasRisingNumbers, number_of}
use Rattle.fab_tables.specs.Fit.{PlanFits}
use Rattle.fab_certify.specs.Numbered.{IsNumberedBy, IsSound}
use Rattle.fab_certify.proofs.ReadAlike.{renumbered, used_back, same_depends}
use Rattle.fab_replies.specs.declared.replied.Replied.{Replied}
use Rattle.fab_replies.specs.declared.replied.Replied.TheVariants.{Numbers}
use Rattle.fab_replies.specs.Replies.{IsUsedJointly, DependsJointly}
use Rattle.fab_replies.specs.Answers.{HasGoodReplies, IsAnswerTo, bare_lanes}
use Rattle.fab_replies.specs.Covered.{CoversBy, Covers}
use Rattle.fab_replies.specs.Laws.{NumbersCover}
use Rattle.fab_replies.proofs.SentHops.{lane_sent, first_sent, second_sent}
use Rattle.fab_replies.proofs.Waits.{joint_free}

module _ (t : Topology) (e : Entries) (l new : LaneTables) (sound : IsSound t e l) (good : HasGoodReplies t e l)
    (numbered : IsNumberedBy (IsUsedJointly t e l) (DependsJointly t e l) (bare_lanes t l.count) new) where
  number : (v : VirtualChannel) → IsUsedJointly t e l v → 0 < number_of new v
  number v u = omega (arith, numbered.levels.positive v, numbered.numbers v u)

  rises : Rises (number_of new) (DependsJointly t e l)
  rises v w d = omega (arith, numbered.levels.above v w d, numbered.numbers v (first_sent t e l v w d), numbered.numbers w (second_sent t e l v w d))

  -- a packet's virtual channels and dependencies, with whatever numbers
  used : (v : VirtualChannel) → IsUsed t e (renumbered l new.numbers) v → IsUsedJointly t e l v
  used v u = let w : IsUsed t e l v = used_back t e l new.numbers v u in (virtual_channels t e l w.0 w.1, inl (w.0, w.1, w.2, refl), w.3)

  depends : (v w : VirtualChannel) → Depends t e (renumbered l new.numbers) v w → DependsJointly t e l v w
  depends v w d = let old : Depends t e l v w = (same_depends t e l new.numbers v w).1 d in (virtual_channels t e l old.0 old.1, inl (old.0, old.1, old.2, refl), old.3)

  rising : HasRisingNumbers t e (renumbered l new.numbers)
  rising = record {
    level = sound.level;
    lane = λ v u. lane_sent t e l sound good v (used v u);
    number = λ v u. number v (used v u);
    rises = λ v w d. rises v w (depends v w d);
  }

  pub covers : CoversBy t e l new
  covers = record {
    lane = lane_sent t e l sound good;
    number = number;
    rises = rises;
    free = joint_free t e l (number_of new) rises;
    certified = (renumbered l new.numbers, refl, sound.reaches, rising);
  }

pub numbers_cover : NumbersCover
numbers_cover t p new fits answer = (answer.0, answer.1, covers t p.tables answer.0 new answer.2.0 answer.2.1 answer.2.2)

-- an answer that is numbers covers
pub covered_by : (t : Topology) (p : Plan) → PlanFits t p → (x : Replied) → IsAnswerTo t p x → (new : LaneTables) → x ≡ Numbers new → Covers t p new
covered_by t p fits x answer new is = numbers_cover t p new fits (subst (IsAnswerTo t p) is answer)

-- so does an answer
pub covered_answer : {E : Type 0} (t : Topology) (p : Plan) → PlanFits t p → (r : Result Replied E) → IfOk r (IsAnswerTo t p) → IfOk r (λ answer. (new : LaneTables) → answer ≡ Numbers new → Covers t p new)
covered_answer t p fits (Ok x) answer = covered_by t p fits x answer
covered_answer t p fits (Err e) answer = tt

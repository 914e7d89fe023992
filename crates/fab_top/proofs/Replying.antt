-- What is said of a plan's replies, as an answer.
use Rattle.std.proofs.Common.{◌≡◌, ℕ, ◌≤◌, List, refl, sym, ◌∙◌, ap, subst, arith}
use Rattle.fab_graph.specs.Walks.{IsAcyclic}
use Rattle.fab_graph.proofs.Graphs
use Rattle.fab_graph.proofs.Same
use Rattle.fab_model.specs.declared.rows.Lid.{Lid}
use Rattle.fab_model.specs.declared.rows.SwitchId.{SwitchId}
use Rattle.fab_model.specs.Topology.{Topology}
use Rattle.fab_tables.specs.declared.plan.Plan.{Plan}
use Rattle.fab_tables.specs.declared.verdict.VirtualChannel.{VirtualChannel}
use Rattle.fab_tables.specs.Entries.{Entries}
use Rattle.fab_tables.specs.First.{IsFirst}
use Rattle.fab_tables.specs.Fit.{PlanFits}
use Rattle.fab_tables.specs.LaneTables.{LaneTables}
use Rattle.fab_tables.specs.Dependencies.{AreReadLanes}
use Rattle.fab_tables.proofs.Verdicts.CertifiedLaws.{contains_of}
use Rattle.fab_certify.specs.Numbered.{IsSound}
use Rattle.fab_certify.proofs.Plainly.{refusal_is_unsound}
use Rattle.fab_certify.proofs.ReadAlike.{renumbered, sound_alike}
use Rattle.fab_certify.proofs.SameLanes.{same_lanes}
use Rattle.fab_replies.specs.declared.replied.Replied.{Replied}
use Rattle.fab_replies.specs.declared.replied.Replied.TheVariants.{Numbers, Refused, BadLane, RingReplies}
use Rattle.fab_replies.specs.Replies.{reply_hops, DependsJointly}
use Rattle.fab_replies.specs.Answers as replying
use Rattle.fab_replies.proofs.AnswersExist.{answer_exists}
use Rattle.fab_replies.proofs.Covering.{numbers_cover}
use Rattle.fab_replies.proofs.OneReplied.{one_answer}
use Rattle.fab_replies.proofs.SentHops.{good_aside, same_joint, joint_ring_is_cyclic}
use Rattle.fab_top.specs.declared.outcome.Outcome.{Outcome}
use Rattle.fab_top.specs.Answer.{Answer, done, no}
use Rattle.fab_top.specs.Answers.{IsRepliesAnswer, told_replies, replies_answer, lane_count}
use Rattle.fab_top.specs.Headline.{CanBeCovered, RepliesTruly}
use Rattle.fab_top.specs.Outcomes.{IsRightOutcome, CanBePut, answer_of}
use Rattle.fab_top.specs.ReplyTexts.{CanBeTold, replied_text}
use Rattle.fab_top.proofs.Certifying.{not_done, is_done, status_of_no, status_of_done, short_refusal}
use Rattle.fab_top.proofs.Steps.AfterFiles.{HasRightAnswer, IsReadPlan}
use Rattle.fab_top.proofs.Steps.Concluding.{found_at_most_1}

-- ---- what is needed of the texts

pub can_be_told : (t : Topology) (p : Plan) (told : Replied) → replying.IsAnswerTo t p told → CanBeTold t told
can_be_told t p (Numbers new) is = ap (λ (l : LaneTables). l.channels) is.2.2.same
can_be_told t p (Refused fault) is = short_refusal t p fault is
can_be_told t p (BadLane lid from at) is = tt
can_be_told t p (RingReplies ring) is = tt

-- ---- when packets and replies can't be covered

bad_reply_is_not_good : (t : Topology) (e : Entries) (l : LaneTables) (lid from : Lid) (at : SwitchId) → IsFirst (replying.IsFaultAt t e l) (BadLane lid from at) → ¬ replying.HasGoodReplies t e l
bad_reply_is_not_good t e l lid from at first good =
    let bad : replying.IsBadAt t e l first.0 lid from at = first.1 in
    let hops : List VirtualChannel = reply_hops t e l bad.terminal from.0 bad.source in
    omega (arith, bad.bad, good hops bad.taken (bad.terminal, from.0, bad.source, bad.reply, refl) (contains_of hops bad.hop bad.taken bad.at_hop))

-- whichever lanes the plan is read with
module _ (t : Topology) (p : Plan) (can : CanBeCovered t p) (l : LaneTables) (read : AreReadLanes t p.lanes l) where
  same : l ≡ renumbered can.0 l.numbers
  same = same_lanes t p.lanes can.0 l can.1 read

  sound_there : IsSound t p.tables l
  sound_there = sound_alike t p.tables p.lanes can.0 l can.1 read can.2

  good_there : replying.HasGoodReplies t p.tables l
  good_there = subst (replying.HasGoodReplies t p.tables) (sym same) (good_aside t p.tables can.0 l.numbers can.3)

  acyclic_there : IsAcyclic (DependsJointly t p.tables l)
  acyclic_there =
      subst (λ k. IsAcyclic (DependsJointly t p.tables k)) (sym same)
      (Same.same_acyclic (DependsJointly t p.tables can.0) (DependsJointly t p.tables (renumbered can.0 l.numbers)) (same_joint t p.tables can.0 l.numbers) can.4)

-- ---- the answer

-- a no keeps what is promised where packets and replies can't be covered
no_keeps : (t : Topology) (p : Plan) (text : List ℕ) (a : Answer) → ¬ CanBeCovered t p → a ≡ no text → RepliesTruly t p a
no_keeps t p text a can_not answer = record {
  done = (λ all. absurd (not_done text a answer all), λ can. absurd (can_not can));
  covered = λ all. absurd (not_done text a answer all);
  nothing = λ not. ap (λ (b : Answer). b.out) answer;
}

told_keeps : (t : Topology) (p : Plan) (told : Replied) (a : Answer) → PlanFits t p → replying.IsAnswerTo t p told → a ≡ replies_answer t p told → RepliesTruly t p a
told_keeps t p (Numbers new) a fits is answer = record {
  done = (λ all. (is.0, is.1, is.2.0, is.2.1, Graphs.levels_rise (DependsJointly t p.tables is.0) is.2.2.level is.2.2.levels), λ can. is_done _ a answer);
  covered = λ all. (new, numbers_cover t p new fits is, ap (λ (b : Answer). b.out) answer);
  nothing = λ not. absurd (not (is_done _ a answer));
}
told_keeps t p (Refused fault) a fits is answer =
    no_keeps t p _ a (λ can. refusal_is_unsound t p.tables is.0 fault is.2 (sound_there t p can is.0 is.1)) answer
told_keeps t p (BadLane lid from at) a fits is answer =
    no_keeps t p _ a (λ can. bad_reply_is_not_good t p.tables is.0 lid from at is.2.1 (good_there t p can is.0 is.1)) answer
told_keeps t p (RingReplies ring) a fits is answer =
    no_keeps t p _ a (λ can. joint_ring_is_cyclic t p.tables is.0 ring is.2.0 is.2.1 is.2.2 (acyclic_there t p can is.0 is.1)) answer

pub replies_keep : (t : Topology) (p : Plan) (a : Answer) → IsReadPlan t p → IsRepliesAnswer t p a → RepliesTruly t p a
replies_keep t p a read is = told_keeps t p is.0 a read.fits is.1 is.2

-- ---- the laws

told_is_small : (told : Replied) (text : List ℕ) (a : Answer) → a ≡ told_replies told text → a.status ≤ 1
told_is_small (Numbers new) text a is = status_of_done text a is
told_is_small (Refused fault) text a is = status_of_no text a is
told_is_small (BadLane lid from at) text a is = status_of_no text a is
told_is_small (RingReplies ring) text a is = status_of_no text a is

pub replies_is_small : (t : Topology) (p : Plan) (a : Answer) → IsRepliesAnswer t p a → a.status ≤ 1
replies_is_small t p a is = told_is_small is.0 (replied_text t (lane_count p.lanes) is.0) a is.2

pub one_replies : (t : Topology) (p : Plan) (a b : Answer) → IsReadPlan t p → IsRepliesAnswer t p a → IsRepliesAnswer t p b → a ≡ b
one_replies t p a b read x y = x.2 ∙ ap (replies_answer t p) (one_answer t p x.0 y.0 read.fabric read.fits x.1 y.1) ∙ sym y.2

pub replies_exist : (t : Topology) (p : Plan) → IsReadPlan t p → HasRightAnswer (IsRepliesAnswer t p)
replies_exist t p read =
    let told : (x : Replied) × replying.IsAnswerTo t p x = answer_exists t p read.fabric read.fits in (replies_answer t p told.0, (told.0, told.1, refl))

-- ---- as an outcome

pub replies_found : (t : Topology) (p : Plan) (told : Replied) (count : ℕ) (text : List ℕ) (outcome : Outcome) → PlanFits t p → replying.IsAnswerTo t p told → count ≡ lane_count p.lanes →
    text ≡ replied_text t count told → answer_of outcome ≡ told_replies told text → CanBePut outcome → IsRightOutcome (IsRepliesAnswer t p) (RepliesTruly t p) outcome
replies_found t p told count text outcome fits are counted is answer put =
    let right : answer_of outcome ≡ replies_answer t p told = answer ∙ ap (told_replies told) (is ∙ ap (λ n. replied_text t n told) counted) in
    record {
      is = (told, are, right);
      headline = told_keeps t p told (answer_of outcome) fits are right;
      status = found_at_most_1 (answer_of outcome).status (told_is_small told text (answer_of outcome) answer);
      can_be_put = put;
    }

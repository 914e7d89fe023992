-- What is said of a change of tables, as an answer.
use Rattle.std.proofs.Common.{◌≡◌, ℕ, ◌<◌, ◌≤◌, List, Option, None, Some, refl, sym, ◌∙◌, ap, subst, arith}
use Rattle.std.specs.Prelude.{max}
use Rattle.fab_model.specs.Topology.{Topology}
use Rattle.fab_model.specs.WellFormed.{IsFabric}
use Rattle.fab_tables.specs.declared.plan.Plan.{Plan}
use Rattle.fab_tables.specs.First.{IsFirst}
use Rattle.fab_tables.specs.Fit.{PlanFits}
use Rattle.fab_tables.specs.LaneTables.{LaneTables}
use Rattle.fab_tables.specs.Reading.{count_read}
use Rattle.fab_transit.specs.declared.mixed.Mixed.{Mixed}
use Rattle.fab_transit.specs.declared.mixed.Mixed.TheVariants.{Numbers, NoLevel, Lost, BadLane, RingMixed}
use Rattle.fab_transit.specs.Answers as change
use Rattle.fab_transit.specs.MixedWalks.{bound}
use Rattle.fab_transit.proofs.MixedExists.{mixed_exists}
use Rattle.fab_transit.proofs.MixedRings.{numbers_acyclic, numbers_of_channels, ring_is_mixed}
use Rattle.fab_transit.proofs.OneMixed.{one_mixed}
use Rattle.fab_transit.proofs.Safety.{numbers_safe}
use Rattle.fab_top.specs.declared.outcome.Outcome.{Outcome}
use Rattle.fab_top.specs.Answer.{Answer, done, no}
use Rattle.fab_top.specs.Answers.{IsTransitAnswer, told_change, change_answer, change_of, lane_count}
use Rattle.fab_top.specs.ChangeTexts.{HasNumbersOf, transit_text, mixed_text}
use Rattle.fab_top.specs.Headline.{Done, TransitsTruly}
use Rattle.fab_top.specs.Outcomes.{IsRightOutcome, CanBePut, answer_of}
use Rattle.fab_top.specs.Seen.{Seen, WithPlan, WithBoth}
use Rattle.fab_top.proofs.Certifying.{not_done, is_done, status_of_no, status_of_done, few_lanes}
use Rattle.fab_top.proofs.Steps.AfterFiles.{IsTold, HasRightAnswer, IsReadPlan, fabric_weaker, fabric_one, fabric_small, fabric_exists, plan_weaker, plan_one, plan_small, plan_exists}
use Rattle.fab_top.proofs.Steps.Concluding.{found_at_most_1}

-- ---- what is needed of the texts

pub read_alike : (o : Option LaneTables) → lane_count o ≡ count_read o
read_alike None = refl
read_alike (Some l) = refl

pub bound_in_range : (t : Topology) (old new : Plan) (count : ℕ) → PlanFits t old → PlanFits t new → count ≡ bound (change_of old new) → (0 < count) × (count < 16)
bound_in_range t old new count first second is =
    let a : (0 < lane_count old.lanes) × (lane_count old.lanes < 16) = few_lanes t old (lane_count old.lanes) first refl in
    let b : (0 < lane_count new.lanes) × (lane_count new.lanes < 16) = few_lanes t new (lane_count new.lanes) second refl in
    (omega (arith, is, a.0, b.0, read_alike old.lanes, read_alike new.lanes), omega (arith, is, a.1, b.1, read_alike old.lanes, read_alike new.lanes))

pub bound_is : (old new : Plan) (a b c : ℕ) → a ≡ lane_count old.lanes → b ≡ lane_count new.lanes → c ≡ max a b → c ≡ bound (change_of old new)
bound_is old new a b c first second is =
    is ∙ ap (λ n. max n b) (first ∙ read_alike old.lanes) ∙ ap (λ n. max (count_read old.lanes) n) (second ∙ read_alike new.lanes)

pub has_numbers : (t : Topology) (old new : Plan) (told : Mixed) → change.IsAnswerTo t (change_of old new) told → HasNumbersOf t told
has_numbers t old new (Numbers l) is = numbers_of_channels t (change_of old new) l is.1
has_numbers t old new (NoLevel lid s side) is = tt
has_numbers t old new (Lost lid s side end) is = tt
has_numbers t old new (BadLane lid s side) is = tt
has_numbers t old new (RingMixed ring) is = tt

-- ---- the answer

faulty_keeps : (t : Topology) (old new : Plan) (told : Mixed) (text : List ℕ) (a : Answer) → IsFirst (change.IsFaultAt t (change_of old new)) told → a ≡ no text → TransitsTruly t old new a
faulty_keeps t old new told text a is answer = record {
  done = (λ all. absurd (not_done text a answer all), λ can. absurd (can.0 is.0 told is.1));
  safe = λ all. absurd (not_done text a answer all);
}

pub change_keeps : (t : Topology) (old new : Plan) (told : Mixed) (a : Answer) → change.IsAnswerTo t (change_of old new) told → a ≡ change_answer t (bound (change_of old new)) told → TransitsTruly t old new a
change_keeps t old new (Numbers l) a is answer = record {
  done = (λ all. (is.0, numbers_acyclic t (change_of old new) l is.1), λ can. is_done _ a answer);
  safe = λ all. (l, numbers_safe t (change_of old new) l is, ap (λ (b : Answer). b.out) answer);
}
change_keeps t old new (NoLevel lid s side) a is answer = faulty_keeps t old new (NoLevel lid s side) _ a is answer
change_keeps t old new (Lost lid s side end) a is answer = faulty_keeps t old new (Lost lid s side end) _ a is answer
change_keeps t old new (BadLane lid s side) a is answer = faulty_keeps t old new (BadLane lid s side) _ a is answer
change_keeps t old new (RingMixed ring) a is answer = record {
  done = (λ all. absurd (not_done _ a answer all), λ can. absurd (ring_is_mixed t (change_of old new) ring is.1 can.1));
  safe = λ all. absurd (not_done _ a answer all);
}

told_is_small : (told : Mixed) (text : List ℕ) (a : Answer) → a ≡ told_change told text → a.status ≤ 1
told_is_small (Numbers l) text a is = status_of_done text a is
told_is_small (NoLevel lid s side) text a is = status_of_no text a is
told_is_small (Lost lid s side end) text a is = status_of_no text a is
told_is_small (BadLane lid s side) text a is = status_of_no text a is
told_is_small (RingMixed ring) text a is = status_of_no text a is

change_is_small : (t : Topology) (old new : Plan) (a : Answer) → IsTransitAnswer t old new a → a.status ≤ 3
change_is_small t old new a is = omega (arith, told_is_small is.0 (mixed_text t (bound (change_of old new)) is.0) a is.2)

one_change : (t : Topology) (old new : Plan) (a b : Answer) → IsTransitAnswer t old new a → IsTransitAnswer t old new b → a ≡ b
one_change t old new a b x y = x.2 ∙ ap (change_answer t (bound (change_of old new))) (one_mixed t (change_of old new) x.0 y.0 x.1 y.1) ∙ sym y.2

-- as an outcome
pub change_found : (t : Topology) (old new : Plan) (told : Mixed) (count : ℕ) (text : List ℕ) (outcome : Outcome) → change.IsAnswerTo t (change_of old new) told → count ≡ bound (change_of old new) →
    text ≡ mixed_text t count told → answer_of outcome ≡ told_change told text → CanBePut outcome → IsRightOutcome (IsTransitAnswer t old new) (TransitsTruly t old new) outcome
change_found t old new told count text outcome are counted is answer put =
    let right : answer_of outcome ≡ change_answer t (bound (change_of old new)) told = answer ∙ ap (told_change told) (is ∙ ap (λ n. mixed_text t n told) counted) in
    record {
      is = (told, are, right);
      headline = change_keeps t old new told (answer_of outcome) are right;
      status = found_at_most_1 (answer_of outcome).status (told_is_small told text (answer_of outcome) answer);
      can_be_put = put;
    }

-- ---- by files

module _ (w : Seen) (fabric old new : ℕ) where
  abbrev pub IsTransitTo : Answer → Type 0
  IsTransitTo a = WithBoth w fabric old (λ t p. WithPlan w t new (IsTransitAnswer t p)) a

  abbrev OnOld : Topology → Answer → Type 0
  OnOld t a = WithPlan w t old (λ p. WithPlan w t new (IsTransitAnswer t p)) a

  abbrev KeptOnOld : Topology → Answer → Type 0
  KeptOnOld t a = WithPlan w t old (λ p. WithPlan w t new (TransitsTruly t p)) a

  pub transit_kept : (a : Answer) → IsTransitTo a → WithBoth w fabric old (λ t p. WithPlan w t new (TransitsTruly t p)) a
  transit_kept a is =
      fabric_weaker w fabric OnOld KeptOnOld a
      (λ t made. plan_weaker w t old (λ p. WithPlan w t new (IsTransitAnswer t p)) (λ p. WithPlan w t new (TransitsTruly t p)) a made
      (λ p read. plan_weaker w t new (IsTransitAnswer t p) (TransitsTruly t p) a made (λ q also x. change_keeps t p q x.0 a x.1 x.2))) is

  module _ (told : IsTold (w.content fabric)) (before : IsTold (w.content old)) (after : IsTold (w.content new)) where
    pub one_transit : (a b : Answer) → IsTransitTo a → IsTransitTo b → a ≡ b
    one_transit a b first second =
        fabric_one w fabric OnOld a b told
        (λ t made. plan_one w t old (λ p. WithPlan w t new (IsTransitAnswer t p)) a b made before
        (λ p read. plan_one w t new (IsTransitAnswer t p) a b made after (λ q also. one_change t p q a b))) first second

    pub transit_is_small : (a : Answer) → IsTransitTo a → a.status ≤ 3
    transit_is_small a is =
        fabric_small w fabric OnOld a told
        (λ t. plan_small w t old (λ p. WithPlan w t new (IsTransitAnswer t p)) a before
        (λ p. plan_small w t new (IsTransitAnswer t p) a after (λ q. change_is_small t p q a))) is

    pub transit_exists : HasRightAnswer IsTransitTo
    transit_exists =
        fabric_exists w fabric OnOld told
        (λ t made. plan_exists w t old (λ p. WithPlan w t new (IsTransitAnswer t p)) made before
        (λ p read. plan_exists w t new (IsTransitAnswer t p) made after (λ q also. answered t p q read also)))
      where
        answered : (t : Topology) (p q : Plan) → IsReadPlan t p → IsReadPlan t q → HasRightAnswer (IsTransitAnswer t p q)
        answered t p q read also =
            let x : (told : Mixed) × change.IsAnswerTo t (change_of p q) told = mixed_exists t (change_of p q) read.fabric read.fits also.fits in
            (change_answer t (bound (change_of p q)) x.0, (x.0, x.1, refl))

-- How packets drain, as an answer.
use Rattle.std.proofs.Common.{◌≡◌, ℕ, ◌≤◌, List, refl, sym, ◌∙◌, ap, subst}
use Rattle.fab_model.specs.Topology.{Topology}
use Rattle.fab_model.specs.WellFormed.{IsFabric}
use Rattle.fab_tables.specs.declared.plan.Plan.{Plan}
use Rattle.fab_tables.specs.declared.verdict.Verdict.{Verdict}
use Rattle.fab_tables.specs.Fit.{PlanFits}
use Rattle.fab_certify.specs.declared.certified.Certified.TheVariants as certified
use Rattle.fab_certify.specs.Certificate.{IsCertificate, IsSoundPlan}
use Rattle.fab_certify.proofs.Plainly.{refusal_is_unsound}
use Rattle.fab_certify.proofs.ReadAlike.{sound_alike}
use Rattle.fab_drain.specs.declared.state.Drained.{Drained}
use Rattle.fab_drain.specs.declared.state.Drained.TheVariants.{Empty, Waiting}
use Rattle.fab_drain.specs.declared.state.Filled.{Filled}
use Rattle.fab_drain.specs.declared.state.Filled.TheVariants as filled
use Rattle.fab_drain.specs.Loads.{Load as Packets, packet_count, hops_left, IsLoad}
use Rattle.fab_drain.specs.Fills.{IsFilling, IsFilled}
use Rattle.fab_drain.specs.Drains.{EndsAs}
use Rattle.fab_drain.proofs.Endings.{one_draining, empty_moves_all_hops, certified_loads_drain, loads_end}
use Rattle.fab_drain.proofs.FillingExists.{filling_exists}
use Rattle.fab_drain.proofs.OneFilling.{one_filling}
use Rattle.fab_drain.proofs.PacketHops.{certified_admitted}
use Rattle.fab_top.specs.declared.outcome.Outcome.{Outcome}
use Rattle.fab_top.specs.Answer.{Answer, done, no}
use Rattle.fab_top.specs.Answers.{IsDrainAnswer, IsDrained, IsDrainedFrom, drained_answer, lane_count}
use Rattle.fab_top.specs.DrainTexts.{drained_text, waiting_text}
use Rattle.fab_top.specs.Headline.{DrainsTruly}
use Rattle.fab_top.specs.Outcomes.{IsRightOutcome, CanBePut, answer_of}
use Rattle.fab_top.specs.Texts.{HasShortLanes, verdict_text}
use Rattle.fab_top.proofs.Certifying.{not_done, is_done, status_of_no, status_of_done, short_refusal}
use Rattle.fab_top.proofs.Steps.AfterFiles.{HasRightAnswer, IsReadPlan}
use Rattle.fab_top.proofs.Steps.Concluding.{found_at_most_1}
use Rattle.fab_top.proofs.Transiting.{read_alike}

-- ---- what an answer keeps

refused_keeps : (t : Topology) (p : Plan) (fault : Verdict) (text : List ℕ) (a : Answer) → IsCertificate t p (certified.Refused fault) → a ≡ no text → DrainsTruly t p a
refused_keeps t p fault text a is answer = record {
  emptied = λ all. absurd (not_done text a answer all);
  certified = λ good.
      let admitted : IsSoundPlan t p = certified_admitted t p good in
      absurd (refusal_is_unsound t p.tables is.0 fault is.2 (sound_alike t p.tables p.lanes admitted.0 is.0 admitted.1 is.1 admitted.2));
  nothing = λ not. ap (λ (b : Answer). b.out) answer;
}

drained_keeps : (t : Topology) (p : Plan) (old new : Packets) (drained : Drained) (a : Answer) → IsFabric t → PlanFits t p → IsSoundPlan t p → IsFilling t p old → EndsAs t p old new drained →
    a ≡ drained_answer t old new drained → DrainsTruly t p a
drained_keeps t p old new (Empty moves) a fabric fits admitted filling ends is = record {
  emptied = λ all. (old, filling, ap (λ (b : Answer). b.out) is ∙ ap (λ (n : ℕ). drained_text (packet_count old) n) (empty_moves_all_hops t p old new moves fabric fits admitted filling.is_load ends));
  certified = λ good. is_done _ a is;
  nothing = λ not. absurd (not (is_done _ a is));
}
drained_keeps t p old new (Waiting moves ring) a fabric fits admitted filling ends is = record {
  emptied = λ all. absurd (not_done _ a is all);
  certified = λ good. let same : Waiting moves ring ≡ Empty (hops_left old) = certified_loads_drain t p old new (Waiting moves ring) fabric fits filling.is_load ends good in cc;
  nothing = λ not. ap (λ (b : Answer). b.out) is;
}

keeps_by : (t : Topology) (p : Plan) (load : Filled) (a : Answer) → IsFabric t → PlanFits t p → IsFilled t p load → IsDrained t p load a → DrainsTruly t p a
keeps_by t p (filled.Refused fault) a fabric fits fill is = refused_keeps t p fault _ a fill is
keeps_by t p (filled.Full old) a fabric fits fill is = drained_keeps t p old is.0 is.1 a fabric fits fill.0 fill.1 is.2 is.3

pub drain_keeps : (t : Topology) (p : Plan) (a : Answer) → IsReadPlan t p → IsDrainAnswer t p a → DrainsTruly t p a
drain_keeps t p a read is = keeps_by t p is.0 a read.fabric read.fits is.1 is.2

-- ---- the laws

drained_is_small : (t : Topology) (old new : Packets) (drained : Drained) (a : Answer) → a ≡ drained_answer t old new drained → a.status ≤ 1
drained_is_small t old new (Empty moves) a is = status_of_done _ a is
drained_is_small t old new (Waiting moves ring) a is = status_of_no _ a is

small_by : (t : Topology) (p : Plan) (load : Filled) (a : Answer) → IsDrained t p load a → a.status ≤ 1
small_by t p (filled.Refused fault) a is = status_of_no _ a is
small_by t p (filled.Full old) a is = drained_is_small t old is.0 is.1 a is.3

pub drain_is_small : (t : Topology) (p : Plan) (a : Answer) → IsDrainAnswer t p a → a.status ≤ 1
drain_is_small t p a is = small_by t p is.0 a is.2

one_drained : (t : Topology) (p : Plan) (old : Packets) (a b : Answer) → IsFabric t → PlanFits t p → IsSoundPlan t p → IsLoad t p old → IsDrainedFrom t p old a → IsDrainedFrom t p old b → a ≡ b
one_drained t p old a b fabric fits admitted load x y =
    let same : (x.0 ≡ y.0) × (x.1 ≡ y.1) = one_draining t p old x.0 y.0 x.1 y.1 fabric fits admitted load x.2 y.2 in
    x.3 ∙ ap (λ (new : Packets). drained_answer t old new x.1) same.0 ∙ ap (drained_answer t old y.0) same.1 ∙ sym y.3

one_by : (t : Topology) (p : Plan) (load : Filled) (a b : Answer) → IsFabric t → PlanFits t p → IsFilled t p load → IsDrained t p load a → IsDrained t p load b → a ≡ b
one_by t p (filled.Refused fault) a b fabric fits fill x y = x ∙ sym y
one_by t p (filled.Full old) a b fabric fits fill x y = one_drained t p old a b fabric fits fill.0 fill.1.is_load x y

pub one_drain : (t : Topology) (p : Plan) (a b : Answer) → IsReadPlan t p → IsDrainAnswer t p a → IsDrainAnswer t p b → a ≡ b
one_drain t p a b read x y =
    let same : y.0 ≡ x.0 = one_filling t p y.0 x.0 read.fabric read.fits y.1 x.1 in
    one_by t p x.0 a b read.fabric read.fits x.1 x.2 (subst (λ (load : Filled). IsDrained t p load b) same y.2)

exists_by : (t : Topology) (p : Plan) (load : Filled) → IsFabric t → PlanFits t p → IsFilled t p load → HasRightAnswer (IsDrained t p load)
exists_by t p (filled.Refused fault) fabric fits fill = (no (verdict_text t fault), refl)
exists_by t p (filled.Full old) fabric fits fill =
    let ends : (answer : Drained) × (new : Packets) × EndsAs t p old new answer = loads_end t p old fabric fits fill.0 fill.1.is_load in
    (drained_answer t old ends.1 ends.0, (ends.1, ends.0, ends.2, refl))

pub drain_exists : (t : Topology) (p : Plan) → IsReadPlan t p → HasRightAnswer (IsDrainAnswer t p)
drain_exists t p read =
    let load : (x : Filled) × IsFilled t p x = filling_exists t p read.fabric read.fits in
    let found : HasRightAnswer (IsDrained t p load.0) = exists_by t p load.0 read.fabric read.fits load.1 in
    (found.0, (load.0, load.1, found.1))

-- ---- as outcomes

-- what is known of a load, or of a fault, by its case
pub full_admitted : (t : Topology) (p : Plan) (load : Filled) (old : Packets) → IsFilled t p load → load ≡ filled.Full old → IsSoundPlan t p
full_admitted t p load old fill same = let of : IsFilled t p (filled.Full old) = subst (IsFilled t p) same fill in of.0

pub full_filling : (t : Topology) (p : Plan) (load : Filled) (old : Packets) → IsFilled t p load → load ≡ filled.Full old → IsFilling t p old
full_filling t p load old fill same = let of : IsFilled t p (filled.Full old) = subst (IsFilled t p) same fill in of.1

pub fault_is_short : (t : Topology) (p : Plan) (load : Filled) (fault : Verdict) → IsFilled t p load → load ≡ filled.Refused fault → HasShortLanes fault
fault_is_short t p load fault fill same = short_refusal t p fault (subst (IsFilled t p) same fill)

pub refused_found : (t : Topology) (p : Plan) (fault : Verdict) (load : Filled) (text : List ℕ) (outcome : Outcome) → IsFilled t p load → load ≡ filled.Refused fault → text ≡ verdict_text t fault →
    answer_of outcome ≡ no text → CanBePut outcome → IsRightOutcome (IsDrainAnswer t p) (DrainsTruly t p) outcome
refused_found t p fault load text outcome fill same is answer put =
    let of : IsFilled t p (filled.Refused fault) = subst (IsFilled t p) same fill in
    record {
      is = (filled.Refused fault, of, answer ∙ ap no is);
      headline = refused_keeps t p fault text (answer_of outcome) of answer;
      status = found_at_most_1 _ (status_of_no text _ answer);
      can_be_put = put;
    }

drained_found : (t : Topology) (p : Plan) (old new : Packets) (drained : Drained) (outcome : Outcome) → IsFabric t → PlanFits t p → IsSoundPlan t p → IsFilling t p old → EndsAs t p old new drained →
    answer_of outcome ≡ drained_answer t old new drained → CanBePut outcome → IsRightOutcome (IsDrainAnswer t p) (DrainsTruly t p) outcome
drained_found t p old new drained outcome fabric fits admitted filling ends answer put = record {
  is = (filled.Full old, (admitted, filling), (new, drained, ends, answer));
  headline = drained_keeps t p old new drained (answer_of outcome) fabric fits admitted filling ends answer;
  status = found_at_most_1 _ (drained_is_small t old new drained (answer_of outcome) answer);
  can_be_put = put;
}

pub empty_found : (t : Topology) (p : Plan) (old new : Packets) (drained : Drained) (packets moves : ℕ) (text : List ℕ) (outcome : Outcome) → IsFabric t → PlanFits t p → IsSoundPlan t p → IsFilling t p old →
    EndsAs t p old new drained → drained ≡ Empty moves → packets ≡ packet_count old → text ≡ drained_text packets moves → answer_of outcome ≡ done text → CanBePut outcome →
    IsRightOutcome (IsDrainAnswer t p) (DrainsTruly t p) outcome
empty_found t p old new drained packets moves text outcome fabric fits admitted filling ends same counted is answer put =
    drained_found t p old new drained outcome fabric fits admitted filling ends
    (answer ∙ ap done (is ∙ ap (λ (n : ℕ). drained_text n moves) counted) ∙ ap (drained_answer t old new) (sym same)) put

pub waiting_found : (t : Topology) (p : Plan) (old new : Packets) (drained : Drained) (count packets moves : ℕ) (ring text : List ℕ) (outcome : Outcome) → IsFabric t → PlanFits t p → IsSoundPlan t p → IsFilling t p old →
    IsLoad t p new → EndsAs t p old new drained → drained ≡ Waiting moves ring → count ≡ lane_count p.lanes → packets ≡ packet_count new → text ≡ waiting_text t count packets moves ring →
    answer_of outcome ≡ no text → CanBePut outcome → IsRightOutcome (IsDrainAnswer t p) (DrainsTruly t p) outcome
waiting_found t p old new drained count packets moves ring text outcome fabric fits admitted filling load ends same lanes counted is answer put =
    let as_counted : count ≡ new.count = lanes ∙ read_alike p.lanes ∙ sym load.count in
    drained_found t p old new drained outcome fabric fits admitted filling ends
    (answer ∙ ap no (is ∙ ap (λ (n : ℕ). waiting_text t count n moves ring) counted ∙ ap (λ (n : ℕ). waiting_text t n (packet_count new) moves ring) as_counted) ∙ ap (drained_answer t old new) (sym same)) put

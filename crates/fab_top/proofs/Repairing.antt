-- Repaired plans as answers.
use Rattle.std.proofs.Common.{◌≡◌, ℕ, ◌≤◌, ◌++◌, List, [], ◌∷◌, length, map, flat_map, Some, Result, Ok, Err, refl, sym, ◌∙◌, ap, subst, arith, codes}
use Rattle.std.specs.Prelude.{IsErrAnd}
use Rattle.std.proofs.lemmas.List.{length-map}
use Rattle.fab_model.specs.declared.rows.Cable.{Cable}
use Rattle.fab_model.specs.declared.rows.Lid.{Lid}
use Rattle.fab_model.specs.Topology.{Topology, lids_of}
use Rattle.fab_model.specs.WellFormed.{IsFabric}
use Rattle.fab_tables.specs.declared.plan.Plan.{Plan}
use Rattle.fab_nue.specs.NuePlan.{IsNuePlan}
use Rattle.fab_nue.proofs.Plans.CertifiedPlan.{nue_fits, nue_is_tidy}
use Rattle.fab_nue.proofs.Plans.OverEscape.{nue_is_certified, one_nue_plan, nue_keeps_itself}
use Rattle.fab_repair.specs.declared.repaired.Repaired.{Repaired}
use Rattle.fab_repair.proofs.RepairExists as mended
use Rattle.fab_top.specs.declared.outcome.Outcome.{Outcome}
use Rattle.fab_top.specs.declared.outcome.Stop.{Stop}
use Rattle.fab_top.specs.Answer.{Answer}
use Rattle.fab_top.specs.Answers.{IsRepairAnswer, repaired}
use Rattle.fab_top.specs.Engines.{IsLaneCount}
use Rattle.fab_top.specs.Files.{without_failed}
use Rattle.fab_top.specs.Headline.{RepairsTruly, IsReadAgain}
use Rattle.fab_top.specs.Outcomes.{FindsRightly, IsRightOutcome, CanBePut, answer_of}
use Rattle.fab_top.specs.ReportTexts.{kept_front, kept_lid, kept_text}
use Rattle.fab_top.specs.Seen.{Seen, After, WithPlan, WithBoth, WithoutFailed, word_at}
use Rattle.fab_top.specs.Taking.{IsTaken, viewed}
use Rattle.fab_top.proofs.Laying.EnginePlans.{nue_lane_count}
use Rattle.fab_top.proofs.ReadFits.{written_in, left_fits, left_taken_out}
use Rattle.fab_top.proofs.Steps.AfterFiles.{IsTold, HasRightAnswer, IsReadPlan, fabric_weaker, fabric_one, fabric_small, fabric_exists, plan_weaker, plan_one, plan_small, plan_exists, without_known, without_one, without_small, without_leaves}
use Rattle.fab_top.proofs.Steps.Concluding.{name_taken, name_stops, found_at_most_1}

-- ---- the text of what is kept

of_numbers : (lids : List Lid) → flat_map (λ (lid : Lid). kept_lid lid.0) lids ≡ flat_map kept_lid (map (λ (lid : Lid). lid.0) lids)
of_numbers [] = refl
of_numbers (lid ∷ lids) = ap (λ (xs : List ℕ). kept_lid lid.0 ++ xs) (of_numbers lids)

pub kept_told : (t : Topology) (kept : List ℕ) (lids : List Lid) (count : ℕ) (front more all : List ℕ) → map (λ (lid : Lid). lid.0) lids ≡ kept → count ≡ length (lids_of t) →
    front ≡ kept_front (length lids) count → more ≡ front ++ flat_map (λ (lid : Lid). kept_lid lid.0) lids → all ≡ more ++ codes "\n" → all ≡ kept_text t kept
kept_told t kept lids count front more all are counted first second third =
    let as_many : length lids ≡ length kept = sym (length-map lids (λ (lid : Lid). lid.0)) ∙ ap (λ (xs : List ℕ). length xs) are in
    third ∙ ap (λ (xs : List ℕ). xs ++ codes "\n") (second ∙ ap (λ (xs : List ℕ). xs ++ flat_map (λ (lid : Lid). kept_lid lid.0) lids) first)
    ∙ ap (λ (xs : List ℕ). kept_front (length lids) count ++ xs ++ codes "\n") (of_numbers lids ∙ ap (λ (xs : List ℕ). flat_map kept_lid xs) are)
    ∙ ap (λ (n : ℕ). kept_front n count ++ flat_map kept_lid kept ++ codes "\n") as_many
    ∙ ap (λ (n : ℕ). kept_front (length kept) n ++ flat_map kept_lid kept ++ codes "\n") counted

-- ---- one repair

pub repair_keeps : (lanes : ℕ) (old : Plan) (t : Topology) (a : Answer) → IsFabric t → IsRepairAnswer lanes old t a → RepairsTruly lanes old t a
repair_keeps lanes old t a fabric x =
    let count : IsLaneCount lanes = nue_lane_count t lanes (Some old) x.1 x.0 x.2 in
    let P : Answer → Type 0 = λ b. IsReadAgain t x.0 b.out in
    let again : IsReadAgain t x.0 a.out = subst P (sym x.3) (λ name. written_in t x.0 name fabric (nue_fits t lanes (Some old) x.1 x.0 x.2) (nue_is_tidy t lanes (Some old) x.1 x.0 x.2)) in
    record {
      done = ap (λ (b : Answer). b.status) x.3;
      certified = (x.0, again, nue_is_certified t lanes (Some old) x.1 x.0 fabric.rows count.0 count.1 x.2);
      laid = (x.0, x.1, x.2, again);
      itself = λ older before is.
          let same : (x.1 ≡ lids_of t) × (x.0 ≡ old) = nue_keeps_itself t lanes (Some old) x.1 x.0 fabric.rows count.0 count.1 x.2 older before is in
          x.3 ∙ ap (λ (k : List ℕ). repaired t x.0 k) same.0 ∙ ap (λ (q : Plan). repaired t q (lids_of t)) same.1;
    }

one_repaired : (lanes : ℕ) (old : Plan) (t : Topology) (a b : Answer) → IsFabric t → IsRepairAnswer lanes old t a → IsRepairAnswer lanes old t b → a ≡ b
one_repaired lanes old t a b fabric x y =
    let count : IsLaneCount lanes = nue_lane_count t lanes (Some old) x.1 x.0 x.2 in
    let same : (x.1 ≡ y.1) × (x.0 ≡ y.0) = one_nue_plan t lanes (Some old) x.1 y.1 x.0 y.0 fabric.rows count.0 x.2 y.2 in
    x.3 ∙ ap (λ (k : List ℕ). repaired t x.0 k) same.0 ∙ ap (λ (q : Plan). repaired t q y.1) same.1 ∙ sym y.3

repaired_is_small : (lanes : ℕ) (old : Plan) (t : Topology) (a : Answer) → IsRepairAnswer lanes old t a → a.status ≤ 1
repaired_is_small lanes old t a x = let none : a.status ≡ 0 = ap (λ (b : Answer). b.status) x.3 in omega (arith, none)

-- ---- as outcomes

-- the refusal of a cable that isn't in the fabric
pub repair_stops : (name : List ℕ) (t : Topology) (old : Plan) (cables : List Cable) (lanes : ℕ) (stop : Stop) (result : Result Outcome Stop) →
    IsTaken (viewed (λ (made : Repaired). made.fabric) (Err stop)) (without_failed name t cables) → IsErrAnd result (λ handed. handed ≡ stop) →
    FindsRightly (After (without_failed name t cables) (IsRepairAnswer lanes old)) (After (without_failed name t cables) (RepairsTruly lanes old)) result
repair_stops name t old cables lanes stop result taken hands = name_stops (without_failed name t cables) (IsRepairAnswer lanes old) (RepairsTruly lanes old) stop result taken hands

right_repair : (lanes : ℕ) (old : Plan) (t : Topology) (outcome : Outcome) → IsFabric t → IsRepairAnswer lanes old t (answer_of outcome) → CanBePut outcome →
    IsRightOutcome (IsRepairAnswer lanes old t) (RepairsTruly lanes old t) outcome
right_repair lanes old t outcome fabric is put = record {
  is = is;
  headline = repair_keeps lanes old t (answer_of outcome) fabric is;
  status = found_at_most_1 (answer_of outcome).status (repaired_is_small lanes old t (answer_of outcome) is);
  can_be_put = put;
}

pub repair_found : (name : List ℕ) (t : Topology) (old : Plan) (cables : List Cable) (lanes : ℕ) (made : Repaired) (outcome : Outcome) → IsFabric t → without_failed name t cables ≡ Ok made.fabric →
    IsNuePlan made.fabric lanes (Some old) made.kept made.plan → CanBePut outcome → answer_of outcome ≡ repaired made.fabric made.plan made.kept →
    FindsRightly (After (without_failed name t cables) (IsRepairAnswer lanes old)) (After (without_failed name t cables) (RepairsTruly lanes old)) (Ok outcome)
repair_found name t old cables lanes made outcome fabric taken plan put told =
    name_taken (without_failed name t cables) (IsRepairAnswer lanes old) (RepairsTruly lanes old) made.fabric (Ok outcome) taken
    (right_repair lanes old made.fabric outcome (left_fits name t made.fabric cables fabric taken) (made.plan, made.kept, plan, told) put)

-- ---- by files

module _ (w : Seen) (fabric plan failed lanes : ℕ) where
  abbrev pub IsRepairTo : Answer → Type 0
  IsRepairTo a = WithBoth w fabric plan (λ t p. WithoutFailed w t failed (IsRepairAnswer lanes p)) a

  abbrev OnPlan : Topology → Answer → Type 0
  OnPlan t a = WithPlan w t plan (λ p. WithoutFailed w t failed (IsRepairAnswer lanes p)) a

  abbrev KeptOnPlan : Topology → Answer → Type 0
  KeptOnPlan t a = WithPlan w t plan (λ p. WithoutFailed w t failed (RepairsTruly lanes p)) a

  pub repair_kept : (a : Answer) → IsRepairTo a → WithBoth w fabric plan (λ t p. WithoutFailed w t failed (RepairsTruly lanes p)) a
  repair_kept a is =
      fabric_weaker w fabric OnPlan KeptOnPlan a
      (λ t made. plan_weaker w t plan (λ p. WithoutFailed w t failed (IsRepairAnswer lanes p)) (λ p. WithoutFailed w t failed (RepairsTruly lanes p)) a made
      (λ p read. without_known w t failed (IsRepairAnswer lanes p) (RepairsTruly lanes p) a (λ cables left known. repair_keeps lanes p left a (left_fits _ t left cables made known)))) is

  module _ (told : IsTold (w.content fabric)) (planned : IsTold (w.content plan)) (listed : IsTold (w.content failed)) where
    pub one_repair : (a b : Answer) → IsRepairTo a → IsRepairTo b → a ≡ b
    one_repair a b first second =
        fabric_one w fabric OnPlan a b told
        (λ t made. plan_one w t plan (λ p. WithoutFailed w t failed (IsRepairAnswer lanes p)) a b made planned
        (λ p read. without_one w t failed (IsRepairAnswer lanes p) a b made listed (λ left fits. one_repaired lanes p left a b fits))) first second

    pub repair_is_small : (a : Answer) → IsRepairTo a → a.status ≤ 3
    repair_is_small a is =
        fabric_small w fabric OnPlan a told
        (λ t. plan_small w t plan (λ p. WithoutFailed w t failed (IsRepairAnswer lanes p)) a planned
        (λ p. without_small w t failed (IsRepairAnswer lanes p) a listed (λ left x. omega (arith, repaired_is_small lanes p left a x)))) is

    pub repair_exists : IsLaneCount lanes → HasRightAnswer IsRepairTo
    repair_exists count =
        fabric_exists w fabric OnPlan told
        (λ t made. plan_exists w t plan (λ p. WithoutFailed w t failed (IsRepairAnswer lanes p)) made planned
        (λ p read. without_leaves w t failed (IsRepairAnswer lanes p) listed (λ cables left known. on_left t p cables left made read known)))
      where
        on_left : (t : Topology) (p : Plan) (cables : List Cable) (left : Topology) → IsFabric t → IsReadPlan t p → without_failed (word_at w.words failed) t cables ≡ Ok left → HasRightAnswer (IsRepairAnswer lanes p left)
        on_left t p cables left made read known =
            let nue : (kept : List ℕ) × (q : Plan) × IsNuePlan left lanes (Some p) kept q =
            mended.repair_exists t left p cables lanes made read.fits count.0 count.1 (left_taken_out (word_at w.words failed) t left cables known) in
            (repaired left nue.1 nue.0, (nue.1, nue.0, nue.2, refl))

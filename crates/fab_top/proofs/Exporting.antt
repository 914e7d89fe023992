-- A part of a plan as a subnet manager loads it, or the first reason against it, as an answer.
use Rattle.std.proofs.Common.{◌≡◌, ℕ, ◌≤◌, List, [], refl, sym, ◌∙◌, ap, subst, arith, Option, Some, None, IfSome, Result, Ok, Err}
use Rattle.std.specs.Prelude.{option_map}
use Rattle.std.specs.Option.{option_map_or}
use Rattle.std.specs.declared.alloc.AllocError.{AllocError}
use Rattle.fab_model.specs.Topology.{Topology}
use Rattle.fab_model.specs.WellFormed.{IsFabric}
use Rattle.fab_tables.specs.declared.plan.Plan.{Plan}
use Rattle.fab_tables.specs.declared.verdict.Verdict.{Verdict}
use Rattle.fab_tables.specs.Fit.{PlanFits}
use Rattle.fab_tables.specs.LaneTables.{LaneTables}
use Rattle.fab_tables.specs.Verdicts.{IsVerdict}
use Rattle.fab_tables.proofs.Verdicts.VerdictExists.{verdict_exists}
use Rattle.fab_export.specs.declared.part.Part.{Part}
use Rattle.fab_export.specs.declared.part.Part.TheVariants as part
use Rattle.fab_export.specs.declared.fault.Unfit.{Unfit}
use Rattle.fab_export.specs.declared.fault.Unfit.TheVariants as unfit
use Rattle.fab_export.specs.LevelsText.{levels_text}
use Rattle.fab_export.specs.Parts.{part_text}
use Rattle.fab_export.specs.SaidPlan.{lanes_said, plan_said}
use Rattle.fab_export.specs.Unfits.{IsFirstUnfit, IsFit, FindsUnfit, no_lanes, unfit_after}
use Rattle.fab_export.proofs.FirstMatches.{policy_gives_levels}
use Rattle.fab_export.proofs.LoadedTables.{tables_can_be_loaded}
use Rattle.fab_export.proofs.NoRows.{rows_of_fit, one_unfit, fit_is_good}
use Rattle.fab_export.proofs.ReadTables.{tables_are_read}
use Rattle.fab_export.proofs.SaidCertified.{said_is_certified}
use Rattle.fab_export.proofs.SaidEntries.{entries_are_said}
use Rattle.fab_export.proofs.SameTables.{said_reaches}
use Rattle.fab_export.proofs.WrittenMaps.{map_is_of_plan}
use Rattle.fab_top.specs.declared.outcome.Outcome.{Outcome}
use Rattle.fab_top.specs.declared.outcome.Outcome.TheVariants.{Exported}
use Rattle.fab_top.specs.Answer.{Answer, done, no}
use Rattle.fab_top.specs.Answers.{export_answer, IsExportAnswer}
use Rattle.fab_top.specs.ExportTexts.{unfit_text, CanBeTold}
use Rattle.fab_top.specs.Headline.{Done, IsSafe, TellsTruly, ExportsTruly}
use Rattle.fab_top.specs.Outcomes.{IsRightOutcome, CanBePut, answer_of}
use Rattle.fab_top.proofs.Certifying.{status_of_no, status_of_done}
use Rattle.fab_top.proofs.Judging.{follows_well, is_safe}
use Rattle.fab_top.proofs.Steps.AfterFiles.{HasRightAnswer, IsReadPlan}
use Rattle.fab_top.proofs.Steps.Concluding.{found_at_most_1}
use Rattle.fab_top.proofs.UnfitTexts.{reason_told}

-- ---- what is promised

-- a text of levels is that of lanes
with_lanes : (lanes : Option LaneTables) → no_lanes part.Levels lanes ≡ None → (l : LaneTables) × (lanes ≡ Some l)
with_lanes None is = absurd (cc)
with_lanes (Some l) is = (l, refl)

module _ (t : Topology) (p : Plan) (fabric : IsFabric t) (fits : PlanFits t p) (of_part : Part) (fit : IsFit t p of_part) where
  -- what the texts say is safe
  said_safe : (lanes : Option LaneTables) → p.lanes ≡ lanes → IsSafe t (plan_said t p)
  said_safe None is = record {
    follows = follows_well t (plan_said t p) fabric (said_reaches t p.tables fabric fits.tables (fit_is_good t p of_part fit).0);
    rises = λ l some. absurd (none_there l some);
    free = λ l packets some. absurd (none_there l some);
  }
    where
      none_there : (l : LaneTables) → (plan_said t p).lanes ≡ Some l → ⊥
      none_there l some = let no_plan : None ≡ Some l = sym (ap (option_map (lanes_said t p.tables)) is) ∙ some in cc
  said_safe (Some l) is = is_safe t (plan_said t p) fabric (said_is_certified t p l of_part fabric fits is fit).0

tells : (t : Topology) (p : Plan) → IsFabric t → PlanFits t p → (of_part : Part) → IsFit t p of_part → TellsTruly of_part t p (export_answer of_part t p None).out
tells t p fabric fits part.Tables fit =
    (tables_can_be_loaded t p part.Tables fabric fits fit, entries_are_said t p.tables fabric fits.tables (fit_is_good t p part.Tables fit).0, tables_are_read t p.tables fabric fits.tables)
tells t p fabric fits part.Levels fit =
    let some = with_lanes p.lanes (rows_of_fit t p part.Levels fit.0 fit.2).lanes in
    (some.0, some.1, policy_gives_levels t p some.0 part.Levels fabric fits some.1 fit, ap (λ o. option_map_or (levels_text t p.tables) o []) some.1)
tells t p fabric fits part.Config fit = λ l some. map_is_of_plan t p l part.Config fabric fits some fit

pub export_keeps : (of_part : Part) (t : Topology) (p : Plan) (a : Answer) → IsFabric t → PlanFits t p → IsExportAnswer of_part t p a → ExportsTruly of_part t p a
export_keeps of_part t p a fabric fits given = subst (ExportsTruly of_part t p) (sym given.2) (go given.0 given.1)
  where
    go : (found : Option Unfit) → IsFirstUnfit t p of_part found → ExportsTruly of_part t p (export_answer of_part t p found)
    go None fit = record {
      done = (λ is. fit, λ is. refl);
      told = λ is. tells t p fabric fits of_part fit;
      safe = λ is. said_safe t p fabric fits of_part fit p.lanes refl;
      certified = λ is l some. (said_is_certified t p l of_part fabric fits some fit).0;
    }
    go (Some reason) first = record {
      done = (λ is. absurd (not_done is), λ fit. absurd (one fit));
      told = λ is. absurd (not_done is);
      safe = λ is. absurd (not_done is);
      certified = λ is. absurd (not_done is);
    }
      where
        not_done : Done (export_answer of_part t p (Some reason)) → ⊥
        not_done is = omega (arith, is)

        one : IsFit t p of_part → ⊥
        one fit = let same : None ≡ Some reason = one_unfit t p of_part None (Some reason) fit first in cc

-- ---- the laws

answer_is_small : (of_part : Part) (t : Topology) (p : Plan) (found : Option Unfit) (a : Answer) → a ≡ export_answer of_part t p found → a.status ≤ 1
answer_is_small of_part t p None a is = status_of_done (part_text of_part t p) a is
answer_is_small of_part t p (Some reason) a is = status_of_no (unfit_text t reason) a is

pub export_is_small : (of_part : Part) (t : Topology) (p : Plan) (a : Answer) → IsExportAnswer of_part t p a → a.status ≤ 1
export_is_small of_part t p a is = answer_is_small of_part t p is.0 a is.2

pub one_export : (of_part : Part) (t : Topology) (p : Plan) (a b : Answer) → IsExportAnswer of_part t p a → IsExportAnswer of_part t p b → a ≡ b
one_export of_part t p a b x y = x.2 ∙ ap (export_answer of_part t p) (one_unfit t p of_part x.0 y.0 x.1 y.1) ∙ sym y.2

pub export_exists : (of_part : Part) (t : Topology) (p : Plan) → IsReadPlan t p → HasRightAnswer (IsExportAnswer of_part t p)
export_exists of_part t p read =
    let v : (v : Verdict) × IsVerdict t p.tables p.lanes v = verdict_exists t p.tables p.lanes read.fabric in
    let found : Option Unfit = unfit_after v.0 t p of_part in
    (export_answer of_part t p found, (found, (v.0, v.1, refl), refl))

-- ---- as an outcome

answer_found : (of_part : Part) (t : Topology) (p : Plan) (found : Option Unfit) (outcome : Outcome) → IsFabric t → PlanFits t p → IsFirstUnfit t p of_part found →
    answer_of outcome ≡ export_answer of_part t p found → CanBePut outcome → IsRightOutcome (IsExportAnswer of_part t p) (ExportsTruly of_part t p) outcome
answer_found of_part t p found outcome fabric fits first is put = record {
  is = (found, first, is);
  headline = export_keeps of_part t p (answer_of outcome) fabric fits (found, first, is);
  status = found_at_most_1 (answer_of outcome).status (answer_is_small of_part t p found (answer_of outcome) is);
  can_be_put = put;
}

pub part_found : (of_part : Part) (t : Topology) (p : Plan) (outcome : Outcome) → IsFabric t → PlanFits t p → IsFit t p of_part → outcome ≡ Exported t p of_part →
    IsRightOutcome (IsExportAnswer of_part t p) (ExportsTruly of_part t p) outcome
part_found of_part t p outcome fabric fits fit is = answer_found of_part t p None outcome fabric fits fit (ap answer_of is) (subst CanBePut (sym is) (fits, fit))

pub unfit_found : (of_part : Part) (t : Topology) (p : Plan) (reason : Unfit) (text : List ℕ) (outcome : Outcome) → IsFabric t → PlanFits t p → IsFirstUnfit t p of_part (Some reason) →
    text ≡ unfit_text t reason → answer_of outcome ≡ no text → CanBePut outcome → IsRightOutcome (IsExportAnswer of_part t p) (ExportsTruly of_part t p) outcome
unfit_found of_part t p reason text outcome fabric fits first is_text is put = answer_found of_part t p (Some reason) outcome fabric fits first (is ∙ ap no is_text) put

-- ---- what a judgement tells

pub fit_of : (t : Topology) (p : Plan) (of_part : Part) (result : Result (Unit {0}) Unfit) (fit : Unit {0}) → FindsUnfit t p of_part result → result ≡ Ok fit → IsFit t p of_part
fit_of t p of_part (Ok x) fit found is = found
fit_of t p of_part (Err reason) fit found is = absurd (cc)

pub reason_of : (t : Topology) (p : Plan) (of_part : Part) (reason : Unfit) → FindsUnfit t p of_part (Err reason) → ((lack : AllocError) → reason ≡ unfit.Memory lack → ⊥) → IsFirstUnfit t p of_part (Some reason)
reason_of t p of_part (unfit.Memory lack) found other = absurd (other lack refl)
reason_of t p of_part _ found other = found

-- it can be told
pub can_be_told : (t : Topology) (p : Plan) (of_part : Part) (reason : Unfit) → PlanFits t p → IsFirstUnfit t p of_part (Some reason) → CanBeTold reason
can_be_told t p of_part reason fits first =
    let P : Option Unfit → Type 0 = λ o. IfSome o CanBeTold in subst P (sym first.2) (reason_told t p of_part first.0 fits first.1)

-- A fabric has a plan on so many lanes, or a ring of the last lane that refuses it.
use Rattle.std.proofs.Common.{ℕ, ◌⊎◌, inl, inr, List, refl, sym, subst, Some}
use Rattle.fab_model.specs.Topology.{Topology}
use Rattle.fab_model.specs.WellFormed.{IsFabric}
use Rattle.fab_tables.specs.declared.plan.Plan.{Plan}
use Rattle.fab_tables.specs.Entries.{Entries}
use Rattle.fab_tables.specs.Fit.{PlanFits}
use Rattle.fab_tables.specs.LaneTables.{LaneTables}
use Rattle.fab_certify.specs.declared.certified.Certified.{Certified}
use Rattle.fab_certify.specs.declared.certified.Certified.TheVariants.{Numbers, Refused, RingUsed}
use Rattle.fab_certify.specs.Certificate.{IsCertificate, IsPlainCertificate}
use Rattle.fab_certify.proofs.Exists.Certificates.{certificate_exists}
use Rattle.fab_certify.proofs.Plainly.{plain_certificate}
use Rattle.fab_sssp.specs.LeastWeightTables.{AreLeastWeightTables}
use Rattle.fab_sssp.proofs.Tables.TablesExist.{least_weight_tables_exist}
use Rattle.fab_dfsssp.specs.Breaking.{NeedsLane}
use Rattle.fab_dfsssp.specs.BrokenLanes.{AreBrokenLanes}
use Rattle.fab_dfsssp.specs.declared.breaking.BreakFault.TheVariants as variants
use Rattle.fab_dfsssp.specs.DfssspPlans.{IsDfssspPlan, IsDfssspFault}
use Rattle.fab_dfsssp.specs.Laws.{DfssspPlanOrRefusalExists}
use Rattle.fab_dfsssp.proofs.Exists.Steps.{broken_or_refused_exists}
use Rattle.fab_dfsssp.proofs.PlanNumbers.{only_numbers, numbers_make_plan}

module _ (t : Topology) (fabric : IsFabric t) (e : Entries) (tables : AreLeastWeightTables t e) (l : LaneTables) (broken : AreBrokenLanes t e l.count l) where
  abbrev plain : Plan
  plain = record { tables = e; lanes = Some l }

  fits : PlanFits t plain
  fits = record { tables = tables.fixed.fits; lanes = broken.fits }

  by_answer : (answer : Certified) → IsPlainCertificate t plain answer → (p : Plan) × IsDfssspPlan t l.count p
  by_answer (Numbers p) x = (p, numbers_make_plan t e l fabric.rows tables broken (Numbers p) p x refl)
  by_answer (Refused fault) x = absurd (only_numbers t e l fabric.rows tables broken (Refused fault) x (inl (fault, refl)))
  by_answer (RingUsed ring) x = absurd (only_numbers t e l fabric.rows tables broken (RingUsed ring) x (inr (ring, refl)))

  plan_exists : (p : Plan) × IsDfssspPlan t l.count p
  plan_exists =
      let found : (answer : Certified) × IsCertificate t plain answer = certificate_exists t plain fabric fits in
      by_answer found.0 (plain_certificate t plain found.0 broken.maps.no_pair found.1)

pub dfsssp_plan_or_refusal_exists : DfssspPlanOrRefusalExists
dfsssp_plan_or_refusal_exists t count fabric few = by_end (broken_or_refused_exists t fabric laid.0 count few)
  where
    laid : (e : Entries) × AreLeastWeightTables t e
    laid = least_weight_tables_exist t fabric

    refusal : (ring : List ℕ) → NeedsLane t laid.0 count ring → IsDfssspFault t count (variants.NeedsLane ring)
    refusal ring needs = (laid.0, laid.1, needs)

    by_end : ((l : LaneTables) × AreBrokenLanes t laid.0 count l) ⊎ ((ring : List ℕ) × NeedsLane t laid.0 count ring) →
        ((p : Plan) × IsDfssspPlan t count p) ⊎ ((ring : List ℕ) × IsDfssspFault t count (variants.NeedsLane ring))
    by_end (inr refused) = inr (refused.0, refusal refused.0 refused.1)
    by_end (inl l) =
        let plan : (p : Plan) × IsDfssspPlan t l.0.count p = plan_exists t fabric laid.0 laid.1 l.0 (subst (λ n. AreBrokenLanes t laid.0 n l.0) (sym l.1.lane_count) l.1) in
        inl (plan.0, subst (λ n. IsDfssspPlan t n plan.0) l.1.lane_count plan.1)

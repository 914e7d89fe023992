-- Sound tables and lanes of an engine whose dependencies close no walk make a numbered plan.
use Rattle.std.proofs.Common.{◌≡◌, ℕ, Some, sym, ◌∙◌, ap, subst}
use Rattle.fab_graph.specs.Walks.{IsAcyclic, SameGraph}
use Rattle.fab_graph.proofs.Parts.{part_acyclic}
use Rattle.fab_model.specs.Topology.{Topology}
use Rattle.fab_model.specs.WellFormed.{IsFabric}
use Rattle.fab_tables.specs.declared.plan.Plan.{Plan}
use Rattle.fab_tables.specs.Entries.{Entries}
use Rattle.fab_tables.specs.LaneTables.{LaneTables, AreLaneTables, HasLanePerLevel}
use Rattle.fab_tables.specs.Fit.{EntriesFit, LanesFit}
use Rattle.fab_tables.specs.Dependencies.{Depends}
use Rattle.fab_tables.specs.Plain.{IsPlainlyUsed, DependsPlainly}
use Rattle.fab_tables.proofs.Verdicts.PlainLaws.{plain_agrees}
use Rattle.fab_certify.specs.declared.certified.Certified.{Certified}
use Rattle.fab_certify.specs.declared.certified.Certified.TheVariants.{Numbers, Refused, RingUsed}
use Rattle.fab_certify.specs.Certificate.{IsCertificate, IsCertificateBy, IsPlainCertificate, IsPlainCertificateBy}
use Rattle.fab_certify.specs.EnginePlans.{HasLevels, IsEnginePlan}
use Rattle.fab_certify.specs.Numbered.{IsNumberedBy, IsNumberedPlan, IsSound, IsPlainlySound}
use Rattle.fab_certify.proofs.Exists.Certificates.{certificate_exists}
use Rattle.fab_certify.proofs.Plainly.{plain_certificate, plainly_sound, refusal_is_unsound}
use Rattle.fab_certify.proofs.ReadAlike.{ring_is_cyclic}

module _ (t : Topology) (fabric : IsFabric t) (count : ℕ) (Given : ℕ → ℕ → ℕ → Type 0) (e : Entries) (entries : EntriesFit t e) (l : LaneTables) (fits : LanesFit t l) (lane_count : l.count ≡ count)
    (maps : HasLanePerLevel l) (levels : HasLevels t l Given) (plainly : IsPlainlySound t e l) (acyclic : IsAcyclic (DependsPlainly t e l)) where
  plain : Plan
  plain = record { tables = e; lanes = Some l }

  sound : IsSound t e l
  sound = plainly_sound t e l maps.no_pair plainly

  all_acyclic : IsAcyclic (Depends t e l)
  all_acyclic =
      let same : SameGraph (Depends t e l) (DependsPlainly t e l) = (plain_agrees t e l maps.no_pair).2 in
      part_acyclic (Depends t e l) (DependsPlainly t e l) (λ v w d. (same v w).0 d) acyclic

  numbered_plan : (new : Plan) → IsNumberedPlan (IsPlainlyUsed t e l) (DependsPlainly t e l) e l new → IsEnginePlan t count Given new
  numbered_plan new x = record {
    lanes = x.lanes;
    has_lanes = x.has_lanes;
    fits = subst (LanesFit t) (sym x.numbered.same) renumbered_fits;
    lane_count = ap (λ (m : LaneTables). m.count) x.numbered.same ∙ lane_count;
    maps = subst HasLanePerLevel (sym x.numbered.same) (record { general = maps.general; no_pair = maps.no_pair });
    levels = subst (λ m. HasLevels t m Given) (sym x.numbered.same) (record { levels = levels.levels; no_other = levels.no_other });
    numbered = subst (λ f. IsNumberedBy (IsPlainlyUsed t f x.lanes) (DependsPlainly t f x.lanes) x.lanes x.lanes) (sym x.tables) numbered;
  }
    where
      renumbered : LaneTables
      renumbered = record l { numbers = x.lanes.numbers }

      renumbered_fits : LanesFit t (record l { numbers = x.lanes.numbers })
      renumbered_fits = record { whole = subst AreLaneTables x.numbered.same x.numbered.whole; switches = fits.switches; channels = fits.channels; in_use = fits.in_use; pairs = fits.pairs }

      numbered_as_such : IsNumberedBy (IsPlainlyUsed t e (record l { numbers = x.lanes.numbers })) (DependsPlainly t e (record l { numbers = x.lanes.numbers })) (record l { numbers = x.lanes.numbers }) x.lanes
      numbered_as_such = record {
        whole = x.numbered.whole;
        same = x.numbered.same;
        level = x.numbered.level;
        levels = x.numbered.levels;
        numbers = x.numbered.numbers;
        others = x.numbered.others;
      }

      numbered : IsNumberedBy (IsPlainlyUsed t e x.lanes) (DependsPlainly t e x.lanes) x.lanes x.lanes
      numbered = subst (λ m. IsNumberedBy (IsPlainlyUsed t e m) (DependsPlainly t e m) m x.lanes) (sym x.numbered.same) numbered_as_such

  by_answer : (answer : Certified) → IsCertificateBy t e l answer → IsPlainCertificateBy t e l answer → (p : Plan) × (p.tables ≡ e) × IsEnginePlan t count Given p
  by_answer (Numbers new) x y = (new, y.1.tables, numbered_plan new y.1)
  by_answer (Refused fault) x y = absurd (refusal_is_unsound t e l fault x sound)
  by_answer (RingUsed ring) x y = absurd (ring_is_cyclic t e l ring x.1 sound all_acyclic)

  pub engine_plan_exists : (p : Plan) × (p.tables ≡ e) × IsEnginePlan t count Given p
  unfolding plain
  engine_plan_exists = go (certificate_exists t plain fabric (record { tables = entries; lanes = fits }))
    where
      go : (answer : Certified) × IsCertificate t (record { tables = e; lanes = Some l }) answer → (p : Plan) × (p.tables ≡ e) × IsEnginePlan t count Given p
      go found =
          let told : IsPlainCertificate t (record { tables = e; lanes = Some l }) found.0 = plain_certificate t (record { tables = e; lanes = Some l }) found.0 maps.no_pair found.1 in
          by_answer found.0 (subst (λ m. IsCertificateBy t e m found.0) (sym found.1.1) found.1.2) (subst (λ m. IsPlainCertificateBy t e m found.0) (sym told.1) told.2)

-- What a certificate says of the numbered plan.
use Rattle.std.proofs.Common.{◌≡◌, ℕ, Bool, List, refl, sym, ◌∙◌, ap, subst, Some, None, Option, Result}
use Rattle.std.specs.Prelude.{All, IfSome, IfOk, IsTrue, IsFalse}
use Rattle.std.proofs.lemmas.Result.{IfOk-weaker}
use Rattle.fab_model.specs.Topology.{Topology, is_source}
use Rattle.fab_tables.specs.declared.plan.Plan.{Plan}
use Rattle.fab_tables.specs.Entries.{Entries, index_of}
use Rattle.fab_tables.specs.LaneTables.{LaneTables, level, level_in_column}
use Rattle.fab_tables.specs.Fit.{EntriesFit, LanesFit, PairFits, PlanFits, IsTidy}
use Rattle.fab_tables.specs.Dependencies.{AreReadLanes, IsUsed, Depends}
use Rattle.fab_tables.specs.Certified.{IsCertified}
use Rattle.fab_certify.specs.declared.certified.Certified.{Certified}
use Rattle.fab_certify.specs.declared.certified.Certified.TheVariants.{Numbers}
use Rattle.fab_certify.specs.Numbered.{IsNumberedPlan}
use Rattle.fab_certify.specs.Certificate.{IsCertificate, IsCertificateBy}
use Rattle.fab_certify.proofs.Numbered.Numbering.{numbered_is_certified}

-- the lanes with which a plan that fits is read fit
pub read_fit : (t : Topology) (o : Option LaneTables) (l : LaneTables) → IfSome o (LanesFit t) → AreReadLanes t o l → LanesFit t l
read_fit t None l fits read = read.fits
read_fit t (Some kept) l fits read = subst (LanesFit t) read fits

-- what is said of the lanes with which a plan is read makes the certificate
pub certificate_by : {E : Type 0} (t : Topology) (p : Plan) (e : Entries) (o : Option LaneTables) (l : LaneTables) (r : Result Certified E) → e ≡ p.tables → o ≡ p.lanes → AreReadLanes t o l → IfOk r (IsCertificateBy t e l) → IfOk r (IsCertificate t p)
certificate_by {E} t p e o l r tables lanes read by =
    IfOk-weaker r (IsCertificateBy t e l) (IsCertificate t p)
    (λ answer x. (l, subst (λ k. AreReadLanes t k l) lanes read, subst (λ f. IsCertificateBy t f l answer) tables x)) by

-- the numbers don't touch the levels
level_aside : (l : LaneTables) (ns : List ℕ) (s : ℕ) (o : Option ℕ) → level_in_column (record l { numbers = ns }) s o ≡ level_in_column l s o
level_aside l ns s None = refl
level_aside l ns s (Some i) = refl

true_and_false : (b : Bool) → IsTrue b → IsFalse b → ⊥
true_and_false b is other = cc

module _ (t : Topology) (p : Plan) (new : Plan) (certificate : IsCertificate t p (Numbers new)) where
  abbrev read : LaneTables
  read = certificate.0

  abbrev plan : IsNumberedPlan (IsUsed t p.tables read) (Depends t p.tables read) p.tables read new
  plan = certificate.2.1

  pub certificate_certified : IsCertified t new
  certificate_certified = numbered_is_certified t p.tables read new certificate.2.0 plan

  numbered_fit : LanesFit t read → LanesFit t plan.lanes
  numbered_fit fits = record {
    whole = plan.numbered.whole;
    switches = ap (λ (m : LaneTables). m.switches) plan.numbered.same ∙ fits.switches;
    channels = ap (λ (m : LaneTables). m.channels) plan.numbered.same ∙ fits.channels;
    in_use = ap (λ (m : LaneTables). m.in_use) plan.numbered.same ∙ fits.in_use;
    pairs = subst (λ (m : LaneTables). All (PairFits t) m.pairs) (sym plan.numbered.same) fits.pairs;
  }

  pub certificate_fits : PlanFits t p → PlanFits t new
  certificate_fits fits = record {
    tables = subst (EntriesFit t) (sym plan.tables) fits.tables;
    lanes = subst (λ o. IfSome o (LanesFit t)) (sym plan.has_lanes) (numbered_fit (read_fit t p.lanes read fits.lanes certificate.1));
  }

  abbrev HasTidyLevels : LaneTables → Type 0
  HasTidyLevels l = (s lid : ℕ) → IsFalse (is_source t s) → level l s lid ≡ None

  tidy_read : (o : Option LaneTables) (l : LaneTables) → AreReadLanes t o l → IfSome o HasTidyLevels → HasTidyLevels l
  tidy_read None l are tidy = λ s lid other. are.no_level s lid (λ both. true_and_false (is_source t s) both.0 other)
  tidy_read (Some kept) l are tidy = subst HasTidyLevels are tidy

  pub certificate_tidy : IsTidy t p → IsTidy t new
  certificate_tidy tidy = subst (λ o. IfSome o HasTidyLevels) (sym plan.has_lanes) (λ s lid not.
      ap (λ (m : LaneTables). level m s lid) plan.numbered.same
      ∙ level_aside read plan.lanes.numbers s (index_of lid read.in_use)
      ∙ tidy_read p.lanes read certificate.1 tidy s lid not)

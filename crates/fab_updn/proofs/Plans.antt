-- What certifying up/down tables answers: the numbered plan.
use Rattle.std.proofs.Common.{◌≡◌, ℕ, ◌<◌, List, refl, sym, ◌∙◌, ap, subst, arith, None}
use Rattle.std.specs.Prelude.{IfSome}
use Rattle.fab_graph.specs.Walks.{IsAcyclic, SameGraph}
use Rattle.fab_graph.proofs.Parts.{part_acyclic}
use Rattle.fab_model.specs.Topology.{Topology}
use Rattle.fab_model.specs.Connected.{IsConnectedTo}
use Rattle.fab_model.specs.WellFormed.{IsWellFormed}
use Rattle.fab_tables.specs.declared.plan.Plan.{Plan}
use Rattle.fab_tables.specs.declared.verdict.Verdict.{Verdict}
use Rattle.fab_tables.specs.Entries.{Entries}
use Rattle.fab_tables.specs.LaneTables.{LaneTables, HasLanePerLevel}
use Rattle.fab_tables.specs.Fit.{IsSource, LanesFit, PlanFits}
use Rattle.fab_tables.specs.Dependencies.{IsOneLane, AreReadLanes, Depends}
use Rattle.fab_tables.specs.Plain.{IsPlainlyUsed, DependsPlainly}
use Rattle.fab_tables.proofs.Verdicts.PlainLaws.{plain_agrees}
use Rattle.fab_certify.specs.declared.certified.Certified.{Certified}
use Rattle.fab_certify.specs.declared.certified.Certified.TheVariants.{Numbers, Refused, RingUsed}
use Rattle.fab_certify.specs.Certificate.{IsCertificate, IsPlainCertificate}
use Rattle.fab_certify.specs.EnginePlans.{HasLevels, IsEnginePlan}
use Rattle.fab_certify.specs.Numbered.{IsNumberedBy, IsNumberedPlan, IsPlainlySound}
use Rattle.fab_certify.proofs.Engines.EngineLanes.{FollowsAtLevel, engine_sound, levelwise_acyclic}
use Rattle.fab_certify.proofs.Plainly.{plain_refusal_is_unsound}
use Rattle.fab_updn.specs.UpDown.{AreUpDownTables}
use Rattle.fab_updn.specs.UpDownPlans.{AreLegalTables, IsUpDownPlan}
use Rattle.fab_updn.specs.Laws.{IsLegalTurn}
use Rattle.fab_updn.proofs.Turns.{legal_turns_are_acyclic}
use Rattle.fab_updn.proofs.Reaching.{up_down_reaches}
use Rattle.fab_updn.proofs.NoUpAfterDown.{follow_legally}
use Rattle.fab_certify.proofs.ReadAlike.{ring_is_cyclic}

-- each level is 0
abbrev pub IsLevel0 : ℕ → ℕ → ℕ → Type 0
IsLevel0 s lid n = n ≡ 0

module _ (t : Topology) (good : IsWellFormed t) (ranks : List ℕ) (e : Entries) (tables : AreUpDownTables t ranks e) (l : LaneTables) (one : IsOneLane t l) where
  levels : HasLevels t l IsLevel0
  levels = record { levels = λ s lid source joined. (0, refl, one.level_0 s lid source joined); no_other = one.no_level }

  low : (s lid n : ℕ) → IsSource t s → IsConnectedTo t s lid → IsLevel0 s lid n → n < l.count
  low s lid n source joined zero = omega (arith, one.count, zero)

  pub sound : IsPlainlySound t e l
  sound = engine_sound t e l IsLevel0 good one.fits one.maps levels low (up_down_reaches t ranks e good tables)

  pub acyclic : IsAcyclic (DependsPlainly t e l)
  acyclic = levelwise_acyclic t e l IsLevel0 good one.fits one.maps levels low (λ s lid m n source joined a b. a ∙ sym b)
      (λ lane. part_acyclic (λ (c d : ℕ). FollowsAtLevel t e IsLevel0 lane c d) (IsLegalTurn t ranks) (λ c d x. follow_legally t ranks e x.0 x.1 c d good tables x.3 x.5) (legal_turns_are_acyclic t ranks))

  -- the numbered plan is the engine's
  module _ (new : Plan) (is : IsNumberedPlan (IsPlainlyUsed t e l) (DependsPlainly t e l) e l new) (fits : PlanFits t new) where
    renumbered : LaneTables
    renumbered = record l { numbers = is.lanes.numbers }

    pub engine_plan : IsEnginePlan t 1 IsLevel0 new
    engine_plan = record {
      lanes = is.lanes;
      has_lanes = is.has_lanes;
      fits = lanes_fit;
      lane_count = ap (λ (k : LaneTables). k.count) is.numbered.same ∙ one.count;
      maps = subst (λ k. HasLanePerLevel k) (sym is.numbered.same) (record { general = one.maps.general; no_pair = one.maps.no_pair });
      levels = subst (λ k. HasLevels t k IsLevel0) (sym is.numbered.same) (record { levels = levels.levels; no_other = levels.no_other });
      numbered = subst (λ f. IsNumberedBy (IsPlainlyUsed t f is.lanes) (DependsPlainly t f is.lanes) is.lanes is.lanes) (sym is.tables)
          (subst (λ k. IsNumberedBy (IsPlainlyUsed t e k) (DependsPlainly t e k) is.lanes is.lanes) (sym is.numbered.same)
          (record { whole = is.numbered.whole; same = refl; level = is.numbered.level; levels = is.numbered.levels; numbers = is.numbered.numbers; others = is.numbered.others }));
    }
      where
        lanes_fit : LanesFit t is.lanes
        lanes_fit = subst (λ o. IfSome o (LanesFit t)) is.has_lanes fits.lanes

-- ---- the other answers don't come

pub no_refusal : (t : Topology) → IsWellFormed t → (named : List ℕ) (p : Plan) → AreLegalTables t named p.tables → p.lanes ≡ None → (answer : Certified) → IsPlainCertificate t p answer → (fault : Verdict) → answer ≡ Refused fault → ⊥
no_refusal t good named p legal none answer plain fault e =
    let x : IsPlainCertificate t p (Refused fault) = subst (λ a. IsPlainCertificate t p a) e plain in
    let one : IsOneLane t x.0 = subst (λ o. AreReadLanes t o x.0) none x.1 in
    plain_refusal_is_unsound t p.tables x.0 fault one.maps.no_pair x.2 (sound t good legal.ranks p.tables legal.tables x.0 one)

pub no_ring : (t : Topology) → IsWellFormed t → (named : List ℕ) (p : Plan) → AreLegalTables t named p.tables → p.lanes ≡ None → (answer : Certified) → IsCertificate t p answer → (ring : List ℕ) → answer ≡ RingUsed ring → ⊥
no_ring t good named p legal none answer all ring e =
    let x : IsCertificate t p (RingUsed ring) = subst (λ a. IsCertificate t p a) e all in
    let one : IsOneLane t x.0 = subst (λ o. AreReadLanes t o x.0) none x.1 in
    let same : SameGraph (Depends t p.tables x.0) (DependsPlainly t p.tables x.0) = (plain_agrees t p.tables x.0 one.maps.no_pair).2 in
    ring_is_cyclic t p.tables x.0 ring x.2.1 x.2.0
    (part_acyclic (Depends t p.tables x.0) (DependsPlainly t p.tables x.0) (λ v w d. (same v w).0 d) (acyclic t good legal.ranks p.tables legal.tables x.0 one))

pub numbers_are : (t : Topology) → IsWellFormed t → (named : List ℕ) (p : Plan) → AreLegalTables t named p.tables → p.lanes ≡ None → (answer : Certified) → IsPlainCertificate t p answer → (new : Plan) → answer ≡ Numbers new → PlanFits t new → IsUpDownPlan t named new
numbers_are t good named p legal none answer plain new e fits =
    let x : IsPlainCertificate t p (Numbers new) = subst (λ a. IsPlainCertificate t p a) e plain in
    let one : IsOneLane t x.0 = subst (λ o. AreReadLanes t o x.0) none x.1 in
    record {
      tables = subst (λ f. AreLegalTables t named f) (sym x.2.1.tables) legal;
      lanes = engine_plan t good legal.ranks p.tables legal.tables x.0 one new x.2.1 fits;
    }

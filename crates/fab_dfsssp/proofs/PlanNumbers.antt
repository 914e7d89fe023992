-- The plan of lanes without rings is numbered: it isn't refused, and its dependencies close no ring.
use Rattle.std.proofs.Common.{◌≡◌, ℕ, ◌<◌, ◌⊎◌, inl, inr, List, sym, ap, subst, arith, Some, None}
use Rattle.std.specs.Prelude.{IfSome, IsFalse}
use Rattle.std.proofs.lemmas.Bool.{both_ways}
use Rattle.fab_graph.specs.Walks.{HasClosedWalk, IsAcyclic}
use Rattle.fab_graph.specs.Rings.{IsFirstRing}
use Rattle.fab_graph.proofs.Graphs.{ring_is_cyclic}
use Rattle.fab_model.specs.Topology.{Topology, is_source}
use Rattle.fab_model.specs.WellFormed.{IsWellFormed}
use Rattle.fab_tables.specs.declared.plan.Plan.{Plan}
use Rattle.fab_tables.specs.declared.verdict.Verdict.{Verdict}
use Rattle.fab_tables.specs.declared.verdict.VirtualChannel.{VirtualChannel}
use Rattle.fab_tables.specs.Entries.{Entries}
use Rattle.fab_tables.specs.LaneTables.{LaneTables, AreLaneTables, HasLanePerLevel, level}
use Rattle.fab_tables.specs.Fit.{LanesFit, IsTidy}
use Rattle.fab_tables.specs.Dependencies.{node_of}
use Rattle.fab_tables.specs.Plain.{IsPlainlyUsed, DependsPlainly, DependsPlainlyByNode}
use Rattle.fab_tables.specs.PlainVerdicts.{IsPlainRefusal}
use Rattle.fab_certify.specs.declared.certified.Certified.{Certified}
use Rattle.fab_certify.specs.declared.certified.Certified.TheVariants.{Numbers, Refused, RingUsed}
use Rattle.fab_certify.specs.Certificate.{IsPlainCertificate, IsPlainCertificateBy}
use Rattle.fab_certify.specs.EnginePlans.{HasLevels}
use Rattle.fab_certify.specs.Numbered.{IsNumberedBy, IsNumberedPlan, IsPlainlySound}
use Rattle.fab_certify.proofs.Engines.EngineLanes.{engine_sound, plain_first_used, plain_second_used}
use Rattle.fab_certify.proofs.ImageWalks.{closed_of_image}
use Rattle.fab_certify.proofs.Numbered.NumberedPlan.{one_node}
use Rattle.fab_certify.proofs.Plainly.{plain_refusal_is_unsound}
use Rattle.fab_sssp.specs.LeastWeightTables.{AreLeastWeightTables}
use Rattle.fab_sssp.proofs.Tables.RoutesLeast.{least_weight_reaches}
use Rattle.fab_dfsssp.specs.BrokenLanes.{AreBrokenLanes}
use Rattle.fab_dfsssp.specs.Breaking.{IsBroken}
use Rattle.fab_dfsssp.specs.DfssspPlans.{IsDfssspPlan}
use Rattle.fab_dfsssp.proofs.Plans.{broken_acyclic}
use Rattle.fab_dfsssp.proofs.Steps.{lanes_stay_below}

module _ (t : Topology) (e : Entries) (l : LaneTables) (good : IsWellFormed t) (tables : AreLeastWeightTables t e) (broken : AreBrokenLanes t e l.count l) where
  low : (s lid : ℕ) → broken.lane_of s lid < l.count
  low s lid = lanes_stay_below t e l.count broken.broken.steps broken.lane_of (omega (arith, broken.fits.whole.count)) broken.broken.after s lid

  sound : IsPlainlySound t e l
  sound =
      engine_sound t e l (λ s lid n. n ≡ broken.lane_of s lid) good broken.fits broken.maps broken.levels (λ s lid n source connected given. omega (arith, given, low s lid))
      (least_weight_reaches t e good tables)

  pub not_refused : (fault : Verdict) → ¬ IsPlainRefusal t e l fault
  not_refused fault refused = plain_refusal_is_unsound t e l fault broken.maps.no_pair refused sound

  acyclic : IsAcyclic (DependsPlainly t e l)
  acyclic = broken_acyclic t e broken.lane_of l good broken.broken.acyclic broken.fits broken.maps broken.levels low

  apart : (a b c d : VirtualChannel) → DependsPlainly t e l a b → DependsPlainly t e l c d → node_of l.count b ≡ node_of l.count c → b ≡ c
  apart a b c d x y same = one_node l.count b c (sound.lane b (plain_second_used t e l a b x)) (sound.lane c (plain_first_used t e l c d y)) same

  acyclic_by_node : IsAcyclic (DependsPlainlyByNode t e l)
  acyclic_by_node m closed = let walk : HasClosedWalk (DependsPlainly t e l) = closed_of_image (DependsPlainly t e l) (node_of l.count) apart m closed in acyclic walk.0 walk.1

  pub no_ring : (ring : List ℕ) → ¬ IsFirstRing (DependsPlainlyByNode t e l) ring
  no_ring ring first = ring_is_cyclic (DependsPlainlyByNode t e l) ring first acyclic_by_node

  pub is_plan : (p : Plan) → IsNumberedPlan (IsPlainlyUsed t e l) (DependsPlainly t e l) e l p → IsDfssspPlan t l.count p
  is_plan p x = record {
    lane_of = broken.lane_of;
    tables = subst (AreLeastWeightTables t) (sym x.tables) tables;
    broken = subst (λ f. IsBroken t f l.count broken.lane_of) (sym x.tables) broken.broken;
    lanes = record {
      lanes = x.lanes;
      has_lanes = x.has_lanes;
      fits = subst (LanesFit t) (sym x.numbered.same) fits;
      lane_count = ap (λ (m : LaneTables). m.count) x.numbered.same;
      maps = subst HasLanePerLevel (sym x.numbered.same) (record { general = broken.maps.general; no_pair = broken.maps.no_pair });
      levels = subst (λ m. HasLevels t m (λ s lid n. n ≡ broken.lane_of s lid)) (sym x.numbered.same) (record { levels = broken.levels.levels; no_other = broken.levels.no_other });
      numbered = subst (λ f. IsNumberedBy (IsPlainlyUsed t f x.lanes) (DependsPlainly t f x.lanes) x.lanes x.lanes) (sym x.tables) numbered;
    };
  }
    where
      renumbered : LaneTables
      renumbered = record l { numbers = x.lanes.numbers }

      fits : LanesFit t renumbered
      fits = record { whole = subst AreLaneTables x.numbered.same x.numbered.whole; switches = broken.fits.switches; channels = broken.fits.channels; in_use = broken.fits.in_use; pairs = broken.fits.pairs }

      numbered_as_such : IsNumberedBy (IsPlainlyUsed t e renumbered) (DependsPlainly t e renumbered) renumbered x.lanes
      numbered_as_such = record {
        whole = x.numbered.whole;
        same = x.numbered.same;
        level = x.numbered.level;
        levels = x.numbered.levels;
        numbers = x.numbered.numbers;
        others = x.numbered.others;
      }

      numbered : IsNumberedBy (IsPlainlyUsed t e x.lanes) (DependsPlainly t e x.lanes) x.lanes x.lanes
      numbered = subst (λ m. IsNumberedBy (IsPlainlyUsed t e m) (DependsPlainly t e m) m x.lanes) (sym x.numbered.same) numbered_as_such

  -- what certifying answers
  abbrev ReadHere : Certified → Type 0
  ReadHere answer = IsPlainCertificate t (record { tables = e; lanes = Some l }) answer

  read_here : (answer : Certified) → ReadHere answer → IsPlainCertificateBy t e l answer
  read_here answer x = subst (λ m. IsPlainCertificateBy t e m answer) (sym x.1) x.2

  pub only_numbers : (answer : Certified) → ReadHere answer → ((fault : Verdict) × (answer ≡ Refused fault)) ⊎ ((ring : List ℕ) × (answer ≡ RingUsed ring)) → ⊥
  only_numbers answer x (inl refused) = not_refused refused.0 (subst (IsPlainCertificateBy t e l) refused.1 (read_here answer x))
  only_numbers answer x (inr closed) = no_ring closed.0 (subst (IsPlainCertificateBy t e l) closed.1 (read_here answer x)).1

  pub numbers_make_plan : (answer : Certified) (p : Plan) → ReadHere answer → answer ≡ Numbers p → IsDfssspPlan t l.count p
  numbers_make_plan answer p x is = is_plan p (subst (IsPlainCertificateBy t e l) is (read_here answer x)).1

-- no level stands at a switch that isn't a source
pub plan_is_tidy : (t : Topology) (count : ℕ) (p : Plan) → IsDfssspPlan t count p → IsTidy t p
plan_is_tidy t count p x = subst (λ o. IfSome o (λ l. (s lid : ℕ) → IsFalse (is_source t s) → level l s lid ≡ None)) (sym x.lanes.has_lanes)
    (λ s lid none. x.lanes.levels.no_other s lid (λ both. both_ways (is_source t s) none both.0))

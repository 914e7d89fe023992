-- The plan of layers is numbered: it isn't refused, and its dependencies close no ring.
use Rattle.std.proofs.Common.{◌≡◌, ℕ, ◌<◌, ◌⊎◌, inl, inr, List, refl, sym, ap, subst, arith, Some, None}
use Rattle.std.specs.Prelude.{IfSome, IsFalse}
use Rattle.std.proofs.lemmas.Bool.{both_ways}
use Rattle.fab_graph.specs.Walks.{HasClosedWalk, IsAcyclic}
use Rattle.fab_graph.specs.Rings.{IsFirstRing}
use Rattle.fab_graph.proofs.Graphs.{ring_is_cyclic}
use Rattle.fab_model.specs.Topology.{Topology, is_source}
use Rattle.fab_model.specs.WellFormed.{IsWellFormed}
use Rattle.fab_tables.specs.declared.plan.Plan.{Plan}
use Rattle.fab_tables.specs.declared.verdict.Verdict.{Verdict}
use Rattle.fab_tables.specs.declared.verdict.VirtualChannel.{VirtualChannel}
use Rattle.fab_tables.specs.Entries.{Entries}
use Rattle.fab_tables.specs.LaneTables.{LaneTables, AreLaneTables, HasLanePerLevel, level}
use Rattle.fab_tables.specs.Fit.{LanesFit, IsTidy}
use Rattle.fab_tables.specs.Dependencies.{node_of}
use Rattle.fab_tables.specs.Plain.{IsPlainlyUsed, DependsPlainly, DependsPlainlyByNode}
use Rattle.fab_tables.specs.PlainVerdicts.{IsPlainRefusal}
use Rattle.fab_certify.specs.declared.certified.Certified.{Certified}
use Rattle.fab_certify.specs.declared.certified.Certified.TheVariants.{Numbers, Refused, RingUsed}
use Rattle.fab_certify.specs.Certificate.{IsPlainCertificate, IsPlainCertificateBy}
use Rattle.fab_certify.specs.EnginePlans.{HasLevels}
use Rattle.fab_certify.specs.Numbered.{IsNumberedBy, IsNumberedPlan, IsPlainlySound}
use Rattle.fab_certify.proofs.Engines.EngineLanes.{engine_sound, plain_first_used, plain_second_used}
use Rattle.fab_certify.proofs.ImageWalks.{closed_of_image}
use Rattle.fab_certify.proofs.Numbered.NumberedPlan.{one_node}
use Rattle.fab_certify.proofs.Plainly.{plain_refusal_is_unsound}
use Rattle.fab_model.specs.Connected.{IsConnectedTo}
use Rattle.fab_tables.specs.Fit.{IsSource}
use Rattle.fab_balance.specs.MinHop.{AreDorTables}
use Rattle.fab_depgraph.specs.Listed.{Dependencies}
use Rattle.fab_lash.specs.Layerings.{AreLayers}
use Rattle.fab_lash.specs.Layered.{IsLayerLevel, AreUsed, IsLayeredPlan}
use Rattle.fab_lash.specs.LayeredLanes.{AreLayeredLanes}
use Rattle.fab_lash.proofs.LayeredPlans.{dor_reaches, connected_place, layers_below}
use Rattle.fab_lash.proofs.LayersAcyclic.{layered_acyclic}

module _ (t : Topology) (e : Entries) (l : LaneTables) (used : List Dependencies) (good : IsWellFormed t) (tables : AreDorTables t e) (layered : AreLayeredLanes t e l used) where
  abbrev Given : ℕ → ℕ → ℕ → Type 0
  Given s lid n = IsLayerLevel t layered.layer s lid n

  low : (s lid n : ℕ) → IsSource t s → IsConnectedTo t s lid → Given s lid n → n < l.count
  low s lid n source connected given =
      omega (arith, given.2, layers_below t good e l.count layered.layer (omega (arith, layered.fits.whole.count)) layered.layers s given.0.switch.0 (connected_place t good s lid given.0 connected given.1))

  sound : IsPlainlySound t e l
  sound = engine_sound t e l (λ s lid n. Given s lid n) good layered.fits layered.maps layered.levels low (dor_reaches t e good tables)

  pub not_refused : (fault : Verdict) → ¬ IsPlainRefusal t e l fault
  not_refused fault refused = plain_refusal_is_unsound t e l fault layered.maps.no_pair refused sound

  acyclic : IsAcyclic (DependsPlainly t e l)
  acyclic = layered_acyclic t e l.count layered.layer l good tables layered.layers layered.fits refl layered.maps layered.levels

  apart : (a b c d : VirtualChannel) → DependsPlainly t e l a b → DependsPlainly t e l c d → node_of l.count b ≡ node_of l.count c → b ≡ c
  apart a b c d x y same = one_node l.count b c (sound.lane b (plain_second_used t e l a b x)) (sound.lane c (plain_first_used t e l c d y)) same

  acyclic_by_node : IsAcyclic (DependsPlainlyByNode t e l)
  acyclic_by_node m closed = let walk : HasClosedWalk (DependsPlainly t e l) = closed_of_image (DependsPlainly t e l) (node_of l.count) apart m closed in acyclic walk.0 walk.1

  pub no_ring : (ring : List ℕ) → ¬ IsFirstRing (DependsPlainlyByNode t e l) ring
  no_ring ring first = ring_is_cyclic (DependsPlainlyByNode t e l) ring first acyclic_by_node

  pub is_plan : (p : Plan) → IsNumberedPlan (IsPlainlyUsed t e l) (DependsPlainly t e l) e l p → IsLayeredPlan t l.count p used
  is_plan p x = record {
    layer = layered.layer;
    tables = subst (AreDorTables t) (sym x.tables) tables;
    layers = subst (λ f. AreLayers t f l.count layered.layer) (sym x.tables) layered.layers;
    lists = subst (λ f. AreUsed t f l.count layered.layer used) (sym x.tables) layered.lists;
    lanes = record {
      lanes = x.lanes;
      has_lanes = x.has_lanes;
      fits = subst (LanesFit t) (sym x.numbered.same) fits;
      lane_count = ap (λ (m : LaneTables). m.count) x.numbered.same;
      maps = subst HasLanePerLevel (sym x.numbered.same) (record { general = layered.maps.general; no_pair = layered.maps.no_pair });
      levels = subst (λ m. HasLevels t m (λ s lid n. Given s lid n)) (sym x.numbered.same) (record { levels = layered.levels.levels; no_other = layered.levels.no_other });
      numbered = subst (λ f. IsNumberedBy (IsPlainlyUsed t f x.lanes) (DependsPlainly t f x.lanes) x.lanes x.lanes) (sym x.tables) numbered;
    };
  }
    where
      renumbered : LaneTables
      renumbered = record l { numbers = x.lanes.numbers }

      fits : LanesFit t renumbered
      fits = record { whole = subst AreLaneTables x.numbered.same x.numbered.whole; switches = layered.fits.switches; channels = layered.fits.channels; in_use = layered.fits.in_use; pairs = layered.fits.pairs }

      numbered_as_such : IsNumberedBy (IsPlainlyUsed t e renumbered) (DependsPlainly t e renumbered) renumbered x.lanes
      numbered_as_such = record {
        whole = x.numbered.whole;
        same = x.numbered.same;
        level = x.numbered.level;
        levels = x.numbered.levels;
        numbers = x.numbered.numbers;
        others = x.numbered.others;
      }

      numbered : IsNumberedBy (IsPlainlyUsed t e x.lanes) (DependsPlainly t e x.lanes) x.lanes x.lanes
      numbered = subst (λ m. IsNumberedBy (IsPlainlyUsed t e m) (DependsPlainly t e m) m x.lanes) (sym x.numbered.same) numbered_as_such

  -- what certifying answers
  abbrev ReadHere : Certified → Type 0
  ReadHere answer = IsPlainCertificate t (record { tables = e; lanes = Some l }) answer

  read_here : (answer : Certified) → ReadHere answer → IsPlainCertificateBy t e l answer
  read_here answer x = subst (λ m. IsPlainCertificateBy t e m answer) (sym x.1) x.2

  pub only_numbers : (answer : Certified) → ReadHere answer → ((fault : Verdict) × (answer ≡ Refused fault)) ⊎ ((ring : List ℕ) × (answer ≡ RingUsed ring)) → ⊥
  only_numbers answer x (inl refused) = not_refused refused.0 (subst (IsPlainCertificateBy t e l) refused.1 (read_here answer x))
  only_numbers answer x (inr closed) = no_ring closed.0 (subst (IsPlainCertificateBy t e l) closed.1 (read_here answer x)).1

  pub numbers_make_plan : (answer : Certified) (p : Plan) → ReadHere answer → answer ≡ Numbers p → IsLayeredPlan t l.count p used
  numbers_make_plan answer p x is = is_plan p (subst (IsPlainCertificateBy t e l) is (read_here answer x)).1

-- no level stands at a switch that isn't a source
pub plan_is_tidy : (t : Topology) (count : ℕ) (p : Plan) (used : List Dependencies) → IsLayeredPlan t count p used → IsTidy t p
plan_is_tidy t count p used x = subst (λ o. IfSome o (λ l. (s lid : ℕ) → IsFalse (is_source t s) → level l s lid ≡ None)) (sym x.lanes.has_lanes)
    (λ s lid none. x.lanes.levels.no_other s lid (λ both. both_ways (is_source t s) none both.0))

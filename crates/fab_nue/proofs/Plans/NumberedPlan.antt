-- Tables and levels of Nue are numbered: they aren't refused, and their dependencies close no ring.
use Rattle.std.proofs.Common.{◌≡◌, ℕ, ◌<◌, ◌≤◌, ◌⊎◌, inl, inr, List, Option, refl, sym, ◌∙◌, ap, subst, arith, Some, None}
use Rattle.std.specs.Prelude.{Contains, IfSome}
use Rattle.std.proofs.lemmas.Bool.{cases_lt}
use Rattle.fab_graph.specs.Walks.{HasClosedWalk, IsAcyclic}
use Rattle.fab_graph.specs.Rings.{IsFirstRing}
use Rattle.fab_graph.proofs.Graphs.{ring_is_cyclic, rising_is_acyclic}
use Rattle.fab_graph.proofs.Parts.{part_acyclic}
use Rattle.fab_model.specs.Topology.{Topology}
use Rattle.fab_model.specs.Connected.{IsConnectedTo}
use Rattle.fab_model.specs.WellFormed.{IsWellFormed}
use Rattle.fab_tables.specs.declared.plan.Plan.{Plan}
use Rattle.fab_tables.specs.declared.verdict.Verdict.{Verdict}
use Rattle.fab_tables.specs.declared.verdict.VirtualChannel.{VirtualChannel}
use Rattle.fab_tables.specs.Entries.{Entries}
use Rattle.fab_tables.specs.LaneTables.{LaneTables, AreLaneTables, HasLanePerLevel}
use Rattle.fab_tables.specs.Fit.{LanesFit, IsSource}
use Rattle.fab_tables.specs.Dependencies.{node_of}
use Rattle.fab_tables.specs.Plain.{IsPlainlyUsed, DependsPlainly, DependsPlainlyByNode}
use Rattle.fab_tables.specs.PlainVerdicts.{IsPlainRefusal}
use Rattle.fab_tables.specs.Route.{Route, route}
use Rattle.fab_tables.specs.VirtualChannels.{Follow}
use Rattle.fab_tables.proofs.Joined.Lids.{connected_in_use}
use Rattle.fab_certify.specs.declared.certified.Certified.{Certified}
use Rattle.fab_certify.specs.declared.certified.Certified.TheVariants.{Numbers, Refused, RingUsed}
use Rattle.fab_certify.specs.Certificate.{IsPlainCertificate, IsPlainCertificateBy}
use Rattle.fab_certify.specs.EnginePlans.{HasLevels, IsEnginePlan}
use Rattle.fab_certify.specs.Numbered.{IsNumberedBy, IsNumberedPlan, IsPlainlySound}
use Rattle.fab_certify.proofs.Engines.EngineLanes.{FollowsAtLevel, engine_sound, levelwise_acyclic, plain_first_used, plain_second_used}
use Rattle.fab_certify.proofs.ImageWalks.{closed_of_image}
use Rattle.fab_certify.proofs.Numbered.NumberedPlan.{one_node}
use Rattle.fab_certify.proofs.Plainly.{plain_refusal_is_unsound}
use Rattle.fab_escape.specs.Forest.{Forest}
use Rattle.fab_escape.specs.EscapeSet.{escape_number}
use Rattle.fab_escape.proofs.EscapeTrees.{escape_tree_is_tree}
use Rattle.fab_escape.proofs.Numbers.{escape_numbers_rise}
use Rattle.fab_nue.specs.Kept.{old_level, CanStay, DependsOnKept}
use Rattle.fab_nue.specs.NuePlan.{DependsToEscapeIn, DependsOnOld, IsInUse, IsNueLevel, IsLaying}
use Rattle.fab_nue.specs.Laying.{AreLaid}
use Rattle.fab_nue.proofs.Searching.Choosing.{contains_decided}
use Rattle.fab_nue.proofs.Laying.InUse.{all_acyclic}
use Rattle.fab_nue.proofs.Laying.LaidRoutes.{laid_depends}
use Rattle.fab_nue.proofs.Laying.Reaching.{EscapeTreesAre, kept_stays, kept_route, laying_reaches}
use Rattle.fab_nue.proofs.Plans.CertifiedPlan.{nue_level_below, one_nue_level}

module _ (t : Topology) (lanes : ℕ) (old : Option Plan) (kept : List ℕ) (forest : ℕ → Forest) (laid : ℕ → List (Option ℕ)) (e : Entries) (l : LaneTables) (good : IsWellFormed t) (some : 0 < lanes)
    (laying : AreLaid t lanes old kept forest laid e) (fits : LanesFit t l) (lane_count : l.count ≡ lanes) (maps : HasLanePerLevel l) (levels : HasLevels t l (λ s lid n. IsNueLevel t lanes old kept s lid n)) where
  abbrev Given : ℕ → ℕ → ℕ → Type 0
  Given s lid n = IsNueLevel t lanes old kept s lid n

  trees : EscapeTreesAre t lanes forest
  trees on_lane to below low = escape_tree_is_tree t on_lane (forest on_lane) to good (laying.forests on_lane below) low

  low : (s lid n : ℕ) → IsSource t s → IsConnectedTo t s lid → Given s lid n → n < l.count
  low s lid n source connected given = omega (arith, lane_count, nue_level_below t lanes old kept forest laid e some laying s lid n source connected given)

  sound : IsPlainlySound t e l
  sound = engine_sound t e l (λ s lid n. Given s lid n) good fits maps levels low (laying_reaches t lanes old kept forest laid e good some laying trees)

  -- what follows on a route of a level is in use on its lane
  follows_in_use : (lane c d : ℕ) → FollowsAtLevel t e (λ s lid n. Given s lid n) lane c d → IsInUse t lanes old kept forest laid (λ other. Unit {0}) lane c d
  follows_in_use lane c d x = by_kind x.4
    where
      by_kind : Given x.0 x.1 lane → IsInUse t lanes old kept forest laid (λ other. Unit {0}) lane c d
      by_kind (inr own) = inr (inr (x.1, (connected_in_use t x.0 x.1 x.3, own.0), tt, sym own.1, laid_depends t lanes old kept forest laid e good some laying trees x.1 (connected_in_use t x.0 x.1 x.3, own.0) x.0 c d x.3 x.5))
      by_kind (inl own) =
          let k : (q : Plan) × (before : List ℕ) × (old ≡ Some q) × CanStay t lanes (λ on_lane a b. DependsToEscapeIn t lanes forest on_lane a b) q before x.1
          = kept_stays t lanes (λ on_lane a b. DependsToEscapeIn t lanes forest on_lane a b) old kept x.1 laying.keeps own.0 in
          let at : old_level k.0.lanes x.0 x.1 ≡ Some lane = subst (λ p. IfSome p (λ z. old_level z.lanes x.0 x.1 ≡ Some lane)) k.2 own.1 in
          let follow : Follow (route t k.0.tables x.0 x.1).channels c d
          = subst (λ (z : Route). Follow z.channels c d) (kept_route t lanes old kept forest laid e good some laying trees k.0 x.1 x.0 k.2 own.0 x.3) x.5 in
          let depends : DependsOnKept t k.0 kept lane c d = (x.1, own.0, (x.0, x.2, x.3, at, follow)) in
          inr (inl (subst (λ p. DependsOnOld t p kept lane c d) (sym k.2) depends))

  acyclic_at : (lane : ℕ) → IsAcyclic (λ (c d : ℕ). FollowsAtLevel t e (λ s lid n. Given s lid n) lane c d)
  acyclic_at lane = elim (cases_lt lane lanes) [
    | inl below ↦ part_acyclic (λ (c d : ℕ). FollowsAtLevel t e (λ s lid n. Given s lid n) lane c d) (λ (c d : ℕ). IsInUse t lanes old kept forest laid (λ other. Unit {0}) lane c d) (λ c d x. follows_in_use lane c d x)
        (all_acyclic t lanes old kept forest laid e good laying lane below
        (rising_is_acyclic (λ (c d : ℕ). DependsToEscapeIn t lanes forest lane c d) (escape_number t (forest lane)) (escape_numbers_rise t lanes lane (forest lane) good (laying.forests lane below))))
    | inr past ↦ (λ a w. let x : FollowsAtLevel t e (λ s lid n. Given s lid n) lane a w.1.0 = w.1.1 in absurd (omega (arith, past, lane_count, low x.0 x.1 lane x.2 x.3 x.4)))
  ]

  acyclic : IsAcyclic (DependsPlainly t e l)
  acyclic = levelwise_acyclic t e l (λ s lid n. Given s lid n) good fits maps levels low (λ s lid m n source connected a b. one_nue_level t lanes old kept forest laid e laying s lid m n a b) acyclic_at

  not_refused : (fault : Verdict) → ¬ IsPlainRefusal t e l fault
  not_refused fault refused = plain_refusal_is_unsound t e l fault maps.no_pair refused sound

  apart : (a b c d : VirtualChannel) → DependsPlainly t e l a b → DependsPlainly t e l c d → node_of l.count b ≡ node_of l.count c → b ≡ c
  apart a b c d x y same = one_node l.count b c (sound.lane b (plain_second_used t e l a b x)) (sound.lane c (plain_first_used t e l c d y)) same

  acyclic_by_node : IsAcyclic (DependsPlainlyByNode t e l)
  acyclic_by_node m closed = let walk : HasClosedWalk (DependsPlainly t e l) = closed_of_image (DependsPlainly t e l) (node_of l.count) apart m closed in acyclic walk.0 walk.1

  no_ring : (ring : List ℕ) → ¬ IsFirstRing (DependsPlainlyByNode t e l) ring
  no_ring ring first = ring_is_cyclic (DependsPlainlyByNode t e l) ring first acyclic_by_node

  is_plan : (p : Plan) → IsNumberedPlan (IsPlainlyUsed t e l) (DependsPlainly t e l) e l p → IsLaying t lanes old kept forest laid p
  is_plan p x = record {
    forests = laying.forests;
    keeps = laying.keeps;
    trees = tables.trees;
    tables = tables.tables;
    plan = record {
      lanes = x.lanes;
      has_lanes = x.has_lanes;
      fits = subst (LanesFit t) (sym x.numbered.same) fits_now;
      lane_count = ap (λ (m : LaneTables). m.count) x.numbered.same ∙ lane_count;
      maps = subst HasLanePerLevel (sym x.numbered.same) (record { general = maps.general; no_pair = maps.no_pair });
      levels = subst (λ m. HasLevels t m (λ s lid n. Given s lid n)) (sym x.numbered.same) (record { levels = levels.levels; no_other = levels.no_other });
      numbered = subst (λ f. IsNumberedBy (IsPlainlyUsed t f x.lanes) (DependsPlainly t f x.lanes) x.lanes x.lanes) (sym x.tables) numbered;
    };
  }
    where
      tables : AreLaid t lanes old kept forest laid p.tables
      tables = subst (AreLaid t lanes old kept forest laid) (sym x.tables) laying

      renumbered : LaneTables
      renumbered = record l { numbers = x.lanes.numbers }

      fits_now : LanesFit t renumbered
      fits_now = record { whole = subst AreLaneTables x.numbered.same x.numbered.whole; switches = fits.switches; channels = fits.channels; in_use = fits.in_use; pairs = fits.pairs }

      numbered_as_such : IsNumberedBy (IsPlainlyUsed t e renumbered) (DependsPlainly t e renumbered) renumbered x.lanes
      numbered_as_such = record {
        whole = x.numbered.whole;
        same = x.numbered.same;
        level = x.numbered.level;
        levels = x.numbered.levels;
        numbers = x.numbered.numbers;
        others = x.numbered.others;
      }

      numbered : IsNumberedBy (IsPlainlyUsed t e x.lanes) (DependsPlainly t e x.lanes) x.lanes x.lanes
      numbered = subst (λ m. IsNumberedBy (IsPlainlyUsed t e m) (DependsPlainly t e m) m x.lanes) (sym x.numbered.same) numbered_as_such

  -- what certifying answers
  abbrev ReadHere : Certified → Type 0
  ReadHere answer = IsPlainCertificate t (record { tables = e; lanes = Some l }) answer

  read_here : (answer : Certified) → ReadHere answer → IsPlainCertificateBy t e l answer
  read_here answer x = subst (λ m. IsPlainCertificateBy t e m answer) (sym x.1) x.2

  pub only_numbers : (answer : Certified) → ReadHere answer → ((fault : Verdict) × (answer ≡ Refused fault)) ⊎ ((ring : List ℕ) × (answer ≡ RingUsed ring)) → ⊥
  only_numbers answer x (inl refused) = not_refused refused.0 (subst (IsPlainCertificateBy t e l) refused.1 (read_here answer x))
  only_numbers answer x (inr closed) = no_ring closed.0 (subst (IsPlainCertificateBy t e l) closed.1 (read_here answer x)).1

  pub numbers_make_plan : (answer : Certified) (p : Plan) → ReadHere answer → answer ≡ Numbers p → IsLaying t lanes old kept forest laid p
  numbers_make_plan answer p x is = is_plan p (subst (IsPlainCertificateBy t e l) is (read_here answer x)).1

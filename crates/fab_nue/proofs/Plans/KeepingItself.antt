-- A plan of Nue that is handed back as the old plan is kept as a whole.
use Rattle.std.proofs.Common.{◌≡◌, ℕ, suc, ◌<◌, ◌≤◌, ◌⊎◌, inl, inr, List, [], ◌∷◌, length, map, Some, None, Option, refl, sym, ◌∙◌, ap, subst, arith}
use Rattle.std.specs.Prelude.{Contains, IfSome, slice_index_or}
use Rattle.std.specs.List.Sorted.{IsStrictlyIncreasing}
use Rattle.std.proofs.lemmas.Bool.{cases_eq}
use Rattle.std.proofs.lemmas.List.{get_or_default}
use Rattle.std.proofs.lemmas.Option.{same_Some, slice_get-get_or}
use Rattle.fab_graph.specs.Walks.{IsAcyclic}
use Rattle.fab_graph.proofs.Graphs.{rising_is_acyclic}
use Rattle.fab_graph.proofs.Parts.{part_acyclic}
use Rattle.fab_model.specs.declared.rows.ChannelRow.{ChannelRow}
use Rattle.fab_model.specs.Topology.{Topology, lids_of}
use Rattle.fab_model.specs.Connected.{IsConnectedTo}
use Rattle.fab_model.specs.WellFormed.{IsWellFormed}
use Rattle.fab_model.proofs.Finds.{has_reverse}
use Rattle.fab_tables.specs.declared.plan.Plan.{Plan}
use Rattle.fab_tables.specs.Entries.{entry}
use Rattle.fab_tables.specs.LaneTables.{level}
use Rattle.fab_tables.specs.Fit.{IsSource}
use Rattle.fab_tables.specs.Route.{Route, route, tip, tip_of_row, visited}
use Rattle.fab_tables.specs.VirtualChannels.{Follow}
use Rattle.fab_tables.proofs.Verdicts.CertifiedLaws.{route_there}
use Rattle.fab_tables.proofs.Paths.FallingRoutes.{connected_below}
use Rattle.fab_tables.proofs.Joined.Lids.{connected_in_use}
use Rattle.fab_tables.proofs.Rows.SameTables.{entries_same}
use Rattle.fab_certify.proofs.Engines.OneEnginePlan.{one_engine_plan}
use Rattle.fab_escape.specs.Forest.{Forest}
use Rattle.fab_escape.specs.Trees.{IsEscapeForest}
use Rattle.fab_escape.specs.EscapeSet.{DependsToEscape, escape_number}
use Rattle.fab_escape.specs.Laws.{OneForest, EscapeTreeIsTree, EscapeNumbersRise}
use Rattle.fab_nue.specs.Kept.{old_level, old_lane, DependsOnOldRoute, DependsOnKept, KeepsLevel, CanStay, smaller}
use Rattle.fab_nue.specs.NuePlan.{DependsToEscapeIn, DependsOnOld, IsInUse, IsNueLevel, IsLaying}
use Rattle.fab_nue.specs.Laws.{NueKeepsItself}
use Rattle.fab_nue.proofs.Searching.Choosing.{contains_decided}
use Rattle.fab_nue.proofs.Laying.Members.{first_or_later, same_members}
use Rattle.fab_nue.proofs.Laying.KeptLists.{from_smaller}
use Rattle.fab_nue.proofs.Laying.InUse.{all_acyclic, laid_out}
use Rattle.fab_nue.proofs.Laying.Reaching.{EscapeTreesAre, kept_stays, kept_route, laying_reaches}
use Rattle.fab_nue.proofs.Laying.LaidRoutes.{laid_depends}
use Rattle.fab_nue.proofs.Plans.CertifiedPlan.{level_of_count, nue_level_below, one_nue_level}

-- ---- switches of a route

tip_below : (t : Topology) (c : ℕ) → IsWellFormed t → c < length t.channels → tip t c < length t.switches
tip_below t c good low =
    let d : ChannelRow = record { tail = record { 0 = 0 }; port = 0; tip = record { 0 = 0 }; tip_port = 0 } in
    let same : tip t c ≡ (slice_index_or t.channels c d).tip.0 = ap tip_of_row (slice_get-get_or t.channels c d low) in
    omega (arith, same, (has_reverse t c (slice_index_or t.channels c d) good low (get_or_default t.channels c d (slice_index_or t.channels c d) low)).tip)

tips_below : (t : Topology) (cs : List ℕ) (at : ℕ) → IsWellFormed t → ((c : ℕ) → Contains cs c → c < length t.channels) → Contains (map (tip t) cs) at → at < length t.switches
tips_below t [] at good all has = absurd (omega (arith, has.1))
tips_below t (c ∷ cs) at good all has = elim (first_or_later (tip t c) at (map (tip t) cs) has) [
  | inl e ↦ subst (λ x. x < length t.switches) e (tip_below t c good (all c (0, omega arith, refl)))
  | inr rest ↦ tips_below t cs at good (λ d h. all d (suc h.0, omega (arith, h.1), h.2)) rest
]

visited_below : (t : Topology) (s : ℕ) (cs : List ℕ) (at : ℕ) → IsWellFormed t → s < length t.switches → ((c : ℕ) → Contains cs c → c < length t.channels) → Contains (visited t s cs) at → at < length t.switches
visited_below t s cs at good low all has = elim (first_or_later s at (map (tip t) cs) has) [
  | inl e ↦ subst (λ x. x < length t.switches) e low
  | inr rest ↦ tips_below t cs at good all rest
]

module _ (t : Topology) (lanes : ℕ) (older : Option Plan) (before : List ℕ) (forest : ℕ → Forest) (laid : ℕ → List (Option ℕ)) (o : Plan) (good : IsWellFormed t) (some : 0 < lanes)
    (x : IsLaying t lanes older before forest laid o) (trees : EscapeTreesAre t lanes forest) where
  -- the old plan's levels are those of its lanes
  level_is : (s lid : ℕ) → old_level o.lanes s lid ≡ level x.plan.lanes s lid
  level_is s lid = ap (λ l. old_level l s lid) x.plan.has_lanes

  given_at : (s lid n : ℕ) → IsSource t s → IsConnectedTo t s lid → old_level o.lanes s lid ≡ Some n → IsNueLevel t lanes older before s lid n
  given_at s lid n source connected is =
      let given : (m : ℕ) × IsNueLevel t lanes older before s lid m × (level x.plan.lanes s lid ≡ Some m) = x.plan.levels.levels s lid source connected in
      subst (IsNueLevel t lanes older before s lid) (same_Some given.0 n (sym given.2 ∙ sym (level_is s lid) ∙ is)) given.1

  -- a dependency of an old route on a lane is in use there
  old_in_use : (lid on_lane c d : ℕ) → Contains (lids_of t) lid → DependsOnOldRoute t o lid on_lane c d → IsInUse t lanes older before forest laid (λ other. Unit {0}) on_lane c d
  old_in_use lid on_lane c d used r = go (contains_decided before lid) (given_at r.0 lid on_lane r.1 r.2 r.3)
    where
      go : Contains before lid ⊎ (¬ Contains before lid) → IsNueLevel t lanes older before r.0 lid on_lane → IsInUse t lanes older before forest laid (λ other. Unit {0}) on_lane c d
      go (inl has) (inr own) = absurd (own.0 has)
      go (inr not) (inl own) = absurd (not own.0)
      go (inr not) (inr own) = inr (inr (lid, (used, not), tt, sym own.1, laid_depends t lanes older before forest laid o.tables good some (laid_out t lanes older before forest laid o x) trees lid (used, not) r.0 c d r.2 r.4))
      go (inl has) (inl own) =
          let k : (q : Plan) × (bs : List ℕ) × (older ≡ Some q) × CanStay t lanes (λ lane a b. DependsToEscapeIn t lanes forest lane a b) q bs lid
          = kept_stays t lanes (λ lane a b. DependsToEscapeIn t lanes forest lane a b) older before lid x.keeps has in
          let at : old_level k.0.lanes r.0 lid ≡ Some on_lane = subst (λ p. IfSome p (λ z. old_level z.lanes r.0 lid ≡ Some on_lane)) k.2 own.1 in
          let follow : Follow (route t k.0.tables r.0 lid).channels c d
          = subst (λ (z : Route). Follow z.channels c d) (kept_route t lanes older before forest laid o.tables good some (laid_out t lanes older before forest laid o x) trees k.0 lid r.0 k.2 has r.2) r.4 in
          let depends : DependsOnKept t k.0 before on_lane c d = (lid, has, (r.0, r.1, r.2, at, follow)) in
          inr (inl (subst (λ p. DependsOnOld t p before on_lane c d) (sym k.2) depends))

  channels_there : (s lid c : ℕ) → Contains (route t o.tables s lid).channels c → c < length t.channels
  channels_there s lid c has = route_there t o.tables lid (length t.switches) s has.0 c (slice_get-get_or (route t o.tables s lid).channels has.0 c has.1 ∙ ap Some has.2)

  keeps_level : lanes ≤ 15 → (s lid : ℕ) → IsSource t s → IsConnectedTo t s lid → KeepsLevel t lanes o s lid
  keeps_level few s lid source connected =
      let given : (m : ℕ) × IsNueLevel t lanes older before s lid m × (level x.plan.lanes s lid ≡ Some m) = x.plan.levels.levels s lid source connected in
      let below : given.0 < lanes = nue_level_below t lanes older before forest laid o.tables some (laid_out t lanes older before forest laid o x) s lid given.0 source connected given.1 in
      record {
        level = given.0;
        is = level_is s lid ∙ given.2;
        below = below;
        same_lane = λ at has.
            ap (λ l. old_lane l at given.0) x.plan.has_lanes
            ∙ x.plan.maps.general at given.0
            (omega (arith, x.plan.fits.switches, visited_below t s (route t o.tables s lid).channels at good (connected_below t good s lid connected) (channels_there s lid) has)) (omega (arith, few, below))
            ∙ level_of_count x.plan.lanes.count given.0 (omega (arith, below, x.plan.lane_count));
      }

  module _ (few : lanes ≤ 15) (acyclic : (on_lane : ℕ) → on_lane < lanes → IsAcyclic (λ (c d : ℕ). DependsToEscapeIn t lanes forest on_lane c d))
      (kept : List ℕ) (forest' : ℕ → Forest) (laid' : ℕ → List (Option ℕ)) (p : Plan) (y : IsLaying t lanes (Some o) kept forest' laid' p)
      (same_forest : (on_lane : ℕ) → on_lane < lanes → forest' on_lane ≡ forest on_lane) where
    can_stay : (lid : ℕ) → Contains (lids_of t) lid → CanStay t lanes (λ lane a b. DependsToEscapeIn t lanes forest' lane a b) o (smaller kept lid) lid
    can_stay lid used = record {
      delivered = λ s connected. laying_reaches t lanes older before forest laid o.tables good some (laid_out t lanes older before forest laid o x) trees s lid connected;
      levels = λ s source connected. keeps_level few s lid source connected;
      closes_none = λ on_lane below. part_acyclic
          (λ (c d : ℕ). DependsToEscapeIn t lanes forest' on_lane c d ⊎ DependsOnKept t o (smaller kept lid) on_lane c d ⊎ DependsOnOldRoute t o lid on_lane c d)
          (λ (c d : ℕ). IsInUse t lanes older before forest laid (λ other. Unit {0}) on_lane c d)
          (λ c d e. elim e [
            | inl escape ↦ inl (subst (λ f. DependsToEscape t lanes f on_lane c d) (same_forest on_lane below) escape)
            | inr (inl k) ↦ old_in_use k.0 on_lane c d (y.keeps.in_use k.0 (from_smaller kept lid k.0 k.1).0) k.2
            | inr (inr own) ↦ old_in_use lid on_lane c d used own
          ])
          (all_acyclic t lanes older before forest laid o.tables good (laid_out t lanes older before forest laid o x) on_lane below (acyclic on_lane below));
    }

    is_kept : (lid : ℕ) → Contains (lids_of t) lid → Contains kept lid
    is_kept lid used = (y.keeps.each lid used).1 (can_stay lid used)

    pub all_kept : kept ≡ lids_of t
    all_kept = same_members kept (lids_of t) y.keeps.ascending (subst IsStrictlyIncreasing x.tables.fixed.fits.in_use x.tables.fixed.fits.whole.ascending) y.keeps.in_use is_kept

    same_entry : (s lid : ℕ) → entry p.tables s lid ≡ entry o.tables s lid
    same_entry s lid = elim (cases_eq (entry p.tables s lid) (entry o.tables s lid)) [
      | inl same ↦ same
      | inr other ↦
          (let apart : ¬ IsConnectedTo t s lid = λ c. other (y.tables.of_kept s lid (is_kept lid (connected_in_use t s lid c)) c) in
          y.tables.fixed.apart s lid apart ∙ sym (x.tables.fixed.apart s lid apart))
    ]

    same_level : (s lid m n : ℕ) → IsSource t s → IsConnectedTo t s lid → IsNueLevel t lanes older before s lid m → IsNueLevel t lanes (Some o) kept s lid n → m ≡ n
    same_level s lid m n source connected a (inr b) = absurd (b.0 (is_kept lid (connected_in_use t s lid connected)))
    same_level s lid m n source connected a (inl b) =
        let given : (l : ℕ) × IsNueLevel t lanes older before s lid l × (level x.plan.lanes s lid ≡ Some l) = x.plan.levels.levels s lid source connected in
        one_nue_level t lanes older before forest laid o.tables (laid_out t lanes older before forest laid o x) s lid m given.0 a given.1 ∙ same_Some given.0 n (sym given.2 ∙ sym (level_is s lid) ∙ b.1)

    pub same_plan : p ≡ o
    same_plan = sym (one_engine_plan t lanes (λ s lid n. IsNueLevel t lanes older before s lid n) (λ s lid n. IsNueLevel t lanes (Some o) kept s lid n) o p
        (entries_same t o.tables p.tables x.tables.fixed.fits y.tables.fixed.fits (λ s lid. sym (same_entry s lid))) same_level x.plan y.plan)

-- what escape trees owe: a lane has one forest, its trees are trees, and numbers rise
pub nue_keeps_itself : OneForest → EscapeTreeIsTree → EscapeNumbersRise → NueKeepsItself
nue_keeps_itself one trees rise t lanes None kept p good some few plan = tt
nue_keeps_itself one trees rise t lanes (Some o) kept p good some few plan = λ older before first. (
  all_kept t lanes older before first.0 first.1 o good some first.2 (are_trees first.0 first.2.forests) few (acyclic first.0 first.2.forests) kept plan.0 plan.1 p plan.2 (same first.0 first.2.forests),
  same_plan t lanes older before first.0 first.1 o good some first.2 (are_trees first.0 first.2.forests) few (acyclic first.0 first.2.forests) kept plan.0 plan.1 p plan.2 (same first.0 first.2.forests),
)
  where
    Forests : (ℕ → Forest) → Type 0
    Forests forest = (on_lane : ℕ) → on_lane < lanes → IsEscapeForest t on_lane (forest on_lane)

    are_trees : (forest : ℕ → Forest) → Forests forest → EscapeTreesAre t lanes forest
    are_trees forest are on_lane to below low = trees t on_lane (forest on_lane) to good (are on_lane below) low

    acyclic : (forest : ℕ → Forest) → Forests forest → (on_lane : ℕ) → on_lane < lanes → IsAcyclic (λ (c d : ℕ). DependsToEscapeIn t lanes forest on_lane c d)
    acyclic forest are on_lane below =
        rising_is_acyclic (λ (c d : ℕ). DependsToEscapeIn t lanes forest on_lane c d) (escape_number t (forest on_lane)) (rise t lanes on_lane (forest on_lane) good (are on_lane below))

    same : (forest : ℕ → Forest) → Forests forest → (on_lane : ℕ) → on_lane < lanes → plan.0 on_lane ≡ forest on_lane
    same forest are on_lane below = one t on_lane (plan.0 on_lane) (forest on_lane) good (plan.2.forests on_lane below) (are on_lane below)

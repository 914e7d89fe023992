-- What holds of each engine: its plan for a fabric is in order, there is one such plan, or else one refusal.
use Rattle.std.proofs.Common.{◌≡◌, ℕ, ◌-◌, ◌<◌, ◌⊎◌, inl, inr, Bool, true, false, List, [], length, Option, Some, None, Result, Ok, Err, refl, sym, ◌∙◌, ap, subst, arith, All, IfSome}
use Rattle.std.specs.Prelude.{IsFalse}
use Rattle.fab_model.specs.Topology.{Topology, is_source}
use Rattle.fab_model.specs.WellFormed.{IsFabric}
use Rattle.fab_tables.specs.declared.plan.Plan.{Plan}
use Rattle.fab_tables.specs.Certified.{Reaches, IsCertified}
use Rattle.fab_tables.specs.Entries.{Entries}
use Rattle.fab_tables.specs.Fit.{EntriesFit, LanesFit, PlanFits, IsTidy}
use Rattle.fab_tables.specs.LaneTables.{LaneTables, level}
use Rattle.fab_balance.specs.Laws.{AreNearerTables}
use Rattle.fab_balance.specs.MinHop.{AreMinHopTables, AreDorTables}
use Rattle.fab_balance.proofs.OneTables.{one_min_hop_table, one_dor_table}
use Rattle.fab_balance.proofs.Reaching.{nearer_reaches}
use Rattle.fab_top.specs.declared.command.Engine.{Engine}
use Rattle.fab_top.specs.declared.command.Engine.TheVariants.{MinHop, Dor, Sssp, Updn, Lash, Dfsssp, Nue}
use Rattle.fab_top.specs.Answer.{Answer, no, refused}
use Rattle.fab_top.specs.Engines.{Lays, RefusesWith, LaysUpDown, RefusesUpDown, LaysLayers, RefusesPair, RefusesRing, IsLaneCount, HasLaneCount, has_lanes, never_refuses}
use Rattle.fab_top.specs.Files.{roots_from}
use Rattle.fab_top.specs.Headline.{Done, IsGood}
use Rattle.fab_top.specs.Outcomes.{IsFound}
use Rattle.fab_balance.proofs.TablesExist.{min_hop_table_exists, dor_table_exists}
use Rattle.fab_sssp.proofs.Tables.OneTable.{one_least_weight_tables}
use Rattle.fab_sssp.proofs.Tables.RoutesLeast.{least_weight_reaches}
use Rattle.fab_sssp.proofs.Tables.TablesExist.{least_weight_tables_exist}
use Rattle.fab_certify.specs.EnginePlans.{IsEnginePlan}
use Rattle.fab_certify.proofs.Engines.EngineLanes.{engine_certified}
use Rattle.fab_updn.specs.UpDownPlans.{IsUpDownPlan, IsRefusedPair}
use Rattle.fab_updn.proofs.Reaching.{up_down_reaches}
use Rattle.fab_updn.proofs.Refusals.{one_refused_pair, plan_or_refusal}
use Rattle.fab_updn.proofs.OnePlan.{one_up_down_plan}
use Rattle.fab_updn.proofs.Exists.Plans.{plan_or_refusal_exists}
use Rattle.fab_lash.specs.Layered.{IsLayerLevel}
use Rattle.fab_lash.specs.Layerings as layers
use Rattle.fab_lash.specs.Laws.{HasLayeredPlan, HasLayeredRefusal}
use Rattle.fab_lash.proofs.OneLayering as layering
use Rattle.fab_lash.proofs.Exists.Plans.{layered_plan_or_refusal_exists}
use Rattle.fab_lash.proofs.LayeredPlans.{layered_is_certified, one_layered_plan}
use Rattle.fab_dfsssp.specs.Breaking as rings
use Rattle.fab_dfsssp.specs.DfssspPlans.{IsDfssspPlan, IsDfssspFault}
use Rattle.fab_dfsssp.specs.declared.breaking.BreakFault.TheVariants as fault
use Rattle.fab_dfsssp.proofs.Exists.Plans.{dfsssp_plan_or_refusal_exists}
use Rattle.fab_dfsssp.proofs.Plans.{dfsssp_is_certified, one_dfsssp_plan}
use Rattle.fab_dfsssp.proofs.Steps as breaking
use Rattle.fab_depgraph.specs.Listed.{Dependencies}
use Rattle.fab_nue.specs.NuePlan.{IsNuePlan, IsNueLayout}
use Rattle.fab_nue.proofs.Plans.CertifiedPlan.{nue_fits, nue_is_tidy}
use Rattle.fab_nue.proofs.Plans.OverEscape.{nue_is_certified, one_nue_plan}
use Rattle.fab_nue.proofs.Exists.Plans.{nue_plan_exists}
use Rattle.fab_top.specs.Texts.{no_legal_route_text, lane_for_pair_text, lane_for_ring_text}
use Rattle.fab_top.proofs.Laying.Roots.{are_within}

-- ---- plans without lanes

-- a plan fits its fabric, is tidy and good
pub record IsInOrder (t : Topology) (p : Plan) : Type 0 where
  pub fits : PlanFits t p
  pub tidy : IsTidy t p
  pub good : IsGood t p

without_lanes : (t : Topology) (p : Plan) → p.lanes ≡ None → EntriesFit t p.tables → Reaches t p.tables → IsInOrder t p
without_lanes t p none fits reaches =
    let Fit : Option LaneTables → Type 0 = λ o. IfSome o (LanesFit t) in
    let Tidy : Option LaneTables → Type 0 = λ o. IfSome o (λ l. (s lid : ℕ) → IsFalse (is_source t s) → level l s lid ≡ None) in
    record {
      fits = record { tables = fits; lanes = subst Fit (sym none) tt };
      tidy = subst Tidy (sym none) tt;
      good = inl (none, reaches);
    }

same_plan : (p q : Plan) → p.tables ≡ q.tables → p.lanes ≡ None → q.lanes ≡ None → p ≡ q
same_plan p q tables first second =
    ap (λ (e : Entries). record { tables = e; lanes = p.lanes }) tables ∙ ap (λ (o : Option LaneTables). record { tables = q.tables; lanes = o }) (first ∙ sym second)

plan_of : Entries → Plan
plan_of e = record { tables = e; lanes = None }

-- ---- Min Hop and DOR

min_hop_nearer : (t : Topology) (e : Entries) → AreMinHopTables t e → AreNearerTables t e
min_hop_nearer t e are = record { fixed = are.fixed; chosen = λ s lid to is. (are.chosen s lid to is).eligible }

dor_nearer : (t : Topology) (e : Entries) → AreDorTables t e → AreNearerTables t e
dor_nearer t e are = record { fixed = are.fixed; chosen = λ s lid to is. (are.chosen s lid to is).holds }

-- ---- plans with lanes

lanes_known : (t : Topology) (l : LaneTables) (o : Option LaneTables) → o ≡ Some l → LanesFit t l → ((s lid : ℕ) → IsFalse (is_source t s) → level l s lid ≡ None) → IfSome o (LanesFit t) × IfSome o (λ k. (s lid : ℕ) → IsFalse (is_source t s) → level k s lid ≡ None)
lanes_known t l o e fits tidy =
    let Fit : Option LaneTables → Type 0 = λ x. IfSome x (LanesFit t) in
    let Tidy : Option LaneTables → Type 0 = λ x. IfSome x (λ k. (s lid : ℕ) → IsFalse (is_source t s) → level k s lid ≡ None) in
    (subst Fit (sym e) fits, subst Tidy (sym e) tidy)

no_source : (b : Bool) → b ≡ false → ¬ (b ≡ true)
no_source true e is = cc
no_source false e is = cc

engine_in_order : (t : Topology) (count : ℕ) (Given : ℕ → ℕ → ℕ → Type 0) (p : Plan) → EntriesFit t p.tables → IsEnginePlan t count Given p → IsCertified t p → IsInOrder t p
engine_in_order t count Given p fit lanes certified =
    let both = lanes_known t lanes.lanes p.lanes lanes.has_lanes lanes.fits (λ s lid none. lanes.levels.no_other s lid (λ x. no_source (is_source t s) none x.0)) in
    record {
      fits = record { tables = fit; lanes = both.0 };
      tidy = both.1;
      good = inr certified;
    }

-- a good plan with lanes is certified
certified_of : (t : Topology) (p : Plan) (l : LaneTables) → p.lanes ≡ Some l → IsGood t p → IsCertified t p
certified_of t p l some (inl plain) = cc
certified_of t p l some (inr certified) = certified

-- ---- up/down routing

up_down_in_order : (t : Topology) (roots : Result (List ℕ) (List ℕ)) (p : Plan) → IsFabric t → LaysUpDown t roots p → IsInOrder t p
up_down_in_order t (Err reason) p fabric laid = absurd laid
up_down_in_order t (Ok roots) p fabric laid =
    let reaches : Reaches t p.tables = up_down_reaches t laid.tables.ranks p.tables fabric.rows laid.tables.tables in
    engine_in_order t 1 (λ s lid n. n ≡ 0) p laid.tables.tables.entries.fixed.fits laid.lanes
    (engine_certified t 1 (λ s lid n. n ≡ 0) p fabric.rows reaches (λ s lid n source connected zero. omega (arith, zero)) laid.lanes)

up_down_certified : (t : Topology) (roots : Result (List ℕ) (List ℕ)) (p : Plan) → IsFabric t → LaysUpDown t roots p → IsCertified t p
up_down_certified t (Err reason) p fabric laid = absurd laid
up_down_certified t (Ok roots) p fabric laid = certified_of t p laid.lanes.lanes laid.lanes.has_lanes (up_down_in_order t (Ok roots) p fabric laid).good

one_up_down : (t : Topology) (roots : Result (List ℕ) (List ℕ)) (p q : Plan) → IsFabric t → LaysUpDown t roots p → LaysUpDown t roots q → p ≡ q
one_up_down t (Err reason) p q fabric first second = absurd first
one_up_down t (Ok roots) p q fabric first second = one_up_down_plan t roots p q fabric.rows first second

one_up_down_refusal : (t : Topology) (roots : Result (List ℕ) (List ℕ)) (a b : Answer) → RefusesUpDown t roots a → RefusesUpDown t roots b → a ≡ b
one_up_down_refusal t (Err reason) a b first second = first ∙ sym second
one_up_down_refusal t (Ok roots) a b first second =
    let same = one_refused_pair t roots first.0 first.1 second.0 second.1 first.2 second.2 in
    first.3 ∙ ap (λ from. no (no_legal_route_text t from first.1)) same.0 ∙ ap (λ to. no (no_legal_route_text t second.0 to)) same.1 ∙ sym second.3

up_down_or_refused : (t : Topology) (roots : Result (List ℕ) (List ℕ)) (p : Plan) (a : Answer) → LaysUpDown t roots p → ¬ RefusesUpDown t roots a
up_down_or_refused t (Err reason) p a laid refuses = absurd laid
up_down_or_refused t (Ok roots) p a laid refuses = plan_or_refusal t roots p refuses.0 refuses.1 laid refuses.2

up_down_answers : (t : Topology) (roots : Result (List ℕ) (List ℕ)) → IsFabric t → ((named : List ℕ) → roots ≡ Ok named → All (λ root. root < length t.switches) named) →
    ((p : Plan) × LaysUpDown t roots p) ⊎ ((a : Answer) × RefusesUpDown t roots a)
up_down_answers t (Err reason) fabric within = inr (refused reason, refl)
up_down_answers t (Ok roots) fabric within = by (plan_or_refusal_exists t roots fabric (within roots refl))
  where
    by : ((p : Plan) × IsUpDownPlan t roots p) ⊎ ((from to : ℕ) × IsRefusedPair t roots from to) → ((p : Plan) × LaysUpDown t (Ok roots) p) ⊎ ((a : Answer) × RefusesUpDown t (Ok roots) a)
    by (inl x) = inl x
    by (inr x) = inr (no (no_legal_route_text t x.0 x.1), (x.0, x.1, x.2, refl))

-- ---- layers

layers_in_order : (t : Topology) (lanes : ℕ) (p : Plan) → IsFabric t → LaysLayers t lanes p → IsInOrder t p
layers_in_order t lanes p fabric laid =
    engine_in_order t lanes (λ s lid n. IsLayerLevel t laid.1.layer s lid n) p laid.1.tables.fixed.fits laid.1.lanes (layered_is_certified t lanes p laid.0 fabric.rows laid.1)

one_pair : (t : Topology) (lanes : ℕ) (a b : Answer) → IsFabric t → RefusesPair t lanes a → RefusesPair t lanes b → a ≡ b
one_pair t lanes a b fabric first second =
    let tables : first.0 ≡ second.0 = one_dor_table t first.0 second.0 fabric.rows first.3 second.3 in
    let same = layering.one_needs_lane t second.0 lanes first.1 first.2 second.1 second.2 (subst (λ e. layers.NeedsLane t e lanes first.1 first.2) tables first.4) second.4 in
    first.5 ∙ ap (λ low. no (lane_for_pair_text t low first.2)) same.0 ∙ ap (λ high. no (lane_for_pair_text t second.1 high)) same.1 ∙ sym second.5

layers_or_refused : (t : Topology) (lanes : ℕ) (p : Plan) (a : Answer) → IsFabric t → LaysLayers t lanes p → ¬ RefusesPair t lanes a
layers_or_refused t lanes p a fabric laid refuses =
    let tables : refuses.0 ≡ p.tables = one_dor_table t refuses.0 p.tables fabric.rows refuses.3 laid.1.tables in
    layering.layered_or_refused t p.tables lanes refuses.1 refuses.2 laid.1.layer (subst (λ e. layers.NeedsLane t e lanes refuses.1 refuses.2) tables refuses.4) laid.1.layers

layers_answer : (t : Topology) (lanes : ℕ) → IsFabric t → IsLaneCount lanes → ((p : Plan) × LaysLayers t lanes p) ⊎ ((a : Answer) × RefusesPair t lanes a)
layers_answer t lanes fabric count = by (layered_plan_or_refusal_exists t lanes fabric count.0 count.1)
  where
    by : HasLayeredPlan t lanes ⊎ HasLayeredRefusal t lanes → ((p : Plan) × LaysLayers t lanes p) ⊎ ((a : Answer) × RefusesPair t lanes a)
    by (inl x) = inl (x.0, (x.1, x.2))
    by (inr x) = inr (no (lane_for_pair_text t x.0.0 x.1.0), (x.2.0, x.0.0, x.1.0, x.2.1, x.2.2, refl))

-- ---- broken rings

rings_in_order : (t : Topology) (lanes : ℕ) (p : Plan) → IsFabric t → IsDfssspPlan t lanes p → IsInOrder t p
rings_in_order t lanes p fabric laid =
    engine_in_order t lanes (λ s lid n. n ≡ laid.lane_of s lid) p laid.tables.fixed.fits laid.lanes (dfsssp_is_certified t lanes p fabric.rows laid)

one_ring : (t : Topology) (lanes : ℕ) (a b : Answer) → IsFabric t → RefusesRing t lanes a → RefusesRing t lanes b → a ≡ b
one_ring t lanes a b fabric first second =
    let tables : first.0 ≡ second.0 = one_least_weight_tables t first.0 second.0 fabric.rows first.2 second.2 in
    let same : first.1 ≡ second.1 = breaking.one_needs_lane t second.0 lanes first.1 second.1 (subst (λ e. rings.NeedsLane t e lanes first.1) tables first.3) second.3 in
    first.4 ∙ ap (λ ring. no (lane_for_ring_text t (lanes - 1) ring)) same ∙ sym second.4

rings_or_refused : (t : Topology) (lanes : ℕ) (p : Plan) (a : Answer) → IsFabric t → IsDfssspPlan t lanes p → ¬ RefusesRing t lanes a
rings_or_refused t lanes p a fabric laid refuses =
    let tables : refuses.0 ≡ p.tables = one_least_weight_tables t refuses.0 p.tables fabric.rows refuses.2 laid.tables in
    breaking.broken_or_refused t p.tables lanes laid.lane_of refuses.1 laid.broken (subst (λ e. rings.NeedsLane t e lanes refuses.1) tables refuses.3)

rings_answer : (t : Topology) (lanes : ℕ) → IsFabric t → IsLaneCount lanes → ((p : Plan) × IsDfssspPlan t lanes p) ⊎ ((a : Answer) × RefusesRing t lanes a)
rings_answer t lanes fabric count = by (dfsssp_plan_or_refusal_exists t lanes fabric count)
  where
    by : ((p : Plan) × IsDfssspPlan t lanes p) ⊎ ((ring : List ℕ) × IsDfssspFault t lanes (fault.NeedsLane ring)) → ((p : Plan) × IsDfssspPlan t lanes p) ⊎ ((a : Answer) × RefusesRing t lanes a)
    by (inl x) = inl x
    by (inr x) = inr (no (lane_for_ring_text t (lanes - 1) x.0), (x.1.0, x.0, x.1.1, x.1.2, refl))

-- ---- the guarded search

-- without an old plan nothing is kept
pub nue_laid : (t : Topology) (lanes : ℕ) (kept : List ℕ) (p : Plan) (used : List Dependencies) → IsNueLayout t lanes None kept p used → IsNuePlan t lanes None [] p
nue_laid t lanes kept p used x = let P : List ℕ → Type 0 = λ k. IsNuePlan t lanes None k p in subst P x.2.keeps (x.0, x.1, x.2)

-- so many lanes as its plans have
pub nue_lane_count : (t : Topology) (lanes : ℕ) (old : Option Plan) (kept : List ℕ) (p : Plan) → IsNuePlan t lanes old kept p → IsLaneCount lanes
nue_lane_count t lanes old kept p x = (omega (arith, x.2.plan.fits.whole.count, x.2.plan.lane_count), omega (arith, x.2.plan.fits.whole.count, x.2.plan.lane_count))

nue_in_order : (t : Topology) (lanes : ℕ) (p : Plan) → IsFabric t → IsNuePlan t lanes None [] p → IsInOrder t p
nue_in_order t lanes p fabric laid =
    let count : IsLaneCount lanes = nue_lane_count t lanes None [] p laid in
    record { fits = nue_fits t lanes None [] p laid; tidy = nue_is_tidy t lanes None [] p laid; good = inr (nue_is_certified t lanes None [] p fabric.rows count.0 count.1 laid) }

nue_answer : (t : Topology) (lanes : ℕ) → IsFabric t → IsLaneCount lanes → (p : Plan) × IsNuePlan t lanes None [] p
nue_answer t lanes fabric count =
    let made : (kept : List ℕ) × (p : Plan) × IsNuePlan t lanes None kept p = nue_plan_exists t lanes None fabric count.0 count.1 tt in
    let P : List ℕ → Type 0 = λ k. IsNuePlan t lanes None k made.1 in
    (made.1, subst P made.2.2.keeps made.2)

-- ---- by engine

pub laid_in_order : (t : Topology) (engine : Engine) (p : Plan) → IsFabric t → Lays t engine p → IsInOrder t p
laid_in_order t MinHop p fabric laid = without_lanes t p laid.0 laid.1.fixed.fits (nearer_reaches t p.tables fabric.rows (min_hop_nearer t p.tables laid.1))
laid_in_order t Dor p fabric laid = without_lanes t p laid.0 laid.1.fixed.fits (nearer_reaches t p.tables fabric.rows (dor_nearer t p.tables laid.1))
laid_in_order t Sssp p fabric laid = without_lanes t p laid.0 laid.1.fixed.fits (least_weight_reaches t p.tables fabric.rows laid.1)
laid_in_order t (Updn guids) p fabric laid = up_down_in_order t (roots_from 0 t guids) p fabric laid
laid_in_order t (Lash lanes) p fabric laid = layers_in_order t lanes p fabric laid
laid_in_order t (Dfsssp lanes) p fabric laid = rings_in_order t lanes p fabric laid
laid_in_order t (Nue lanes) p fabric laid = nue_in_order t lanes p fabric laid

pub one_laid : (t : Topology) (engine : Engine) (p q : Plan) → IsFabric t → Lays t engine p → Lays t engine q → p ≡ q
one_laid t MinHop p q fabric first second = same_plan p q (one_min_hop_table t p.tables q.tables fabric.rows first.1 second.1) first.0 second.0
one_laid t Dor p q fabric first second = same_plan p q (one_dor_table t p.tables q.tables fabric.rows first.1 second.1) first.0 second.0
one_laid t Sssp p q fabric first second = same_plan p q (one_least_weight_tables t p.tables q.tables fabric.rows first.1 second.1) first.0 second.0
one_laid t (Updn guids) p q fabric first second = one_up_down t (roots_from 0 t guids) p q fabric first second
one_laid t (Lash lanes) p q fabric first second = one_layered_plan t lanes p q first.0 second.0 fabric.rows first.1 second.1
one_laid t (Dfsssp lanes) p q fabric first second = one_dfsssp_plan t lanes p q fabric.rows first second
one_laid t (Nue lanes) p q fabric first second = (one_nue_plan t lanes None [] [] p q fabric.rows (nue_lane_count t lanes None [] p first).0 first second).1

pub one_refusal : (t : Topology) (engine : Engine) (a b : Answer) → IsFabric t → RefusesWith t engine a → RefusesWith t engine b → a ≡ b
one_refusal t MinHop a b fabric first second = absurd first
one_refusal t Dor a b fabric first second = absurd first
one_refusal t Sssp a b fabric first second = absurd first
one_refusal t (Updn guids) a b fabric first second = one_up_down_refusal t (roots_from 0 t guids) a b first second
one_refusal t (Lash lanes) a b fabric first second = one_pair t lanes a b fabric first second
one_refusal t (Dfsssp lanes) a b fabric first second = one_ring t lanes a b fabric first second
one_refusal t (Nue lanes) a b fabric first second = absurd first

pub lays_or_refuses : (t : Topology) (engine : Engine) (p : Plan) (a : Answer) → IsFabric t → Lays t engine p → ¬ RefusesWith t engine a
lays_or_refuses t MinHop p a fabric laid refuses = absurd refuses
lays_or_refuses t Dor p a fabric laid refuses = absurd refuses
lays_or_refuses t Sssp p a fabric laid refuses = absurd refuses
lays_or_refuses t (Updn guids) p a fabric laid refuses = up_down_or_refused t (roots_from 0 t guids) p a laid refuses
lays_or_refuses t (Lash lanes) p a fabric laid refuses = layers_or_refused t lanes p a fabric laid refuses
lays_or_refuses t (Dfsssp lanes) p a fabric laid refuses = rings_or_refused t lanes p a fabric laid refuses
lays_or_refuses t (Nue lanes) p a fabric laid refuses = absurd refuses

-- what each refusal is
pub record IsRefusal (a : Answer) : Type 0 where
  pub status : IsFound a.status
  pub not_done : ¬ Done a
  pub nothing : a.out ≡ []

no_is_refusal : (text : List ℕ) → IsRefusal (no text)
no_is_refusal text = record { status = (omega arith, λ e. omega (arith, e)); not_done = λ e. omega (arith, e); nothing = refl }

refused_is_refusal : (text : List ℕ) → IsRefusal (refused text)
refused_is_refusal text = record { status = (omega arith, λ e. omega (arith, e)); not_done = λ e. omega (arith, e); nothing = refl }

up_down_refusal_is : (t : Topology) (roots : Result (List ℕ) (List ℕ)) (a : Answer) → RefusesUpDown t roots a → IsRefusal a
up_down_refusal_is t (Err reason) a refuses = subst IsRefusal (sym refuses) (refused_is_refusal reason)
up_down_refusal_is t (Ok roots) a refuses = subst IsRefusal (sym refuses.3) (no_is_refusal (no_legal_route_text t refuses.0 refuses.1))

pub refusal_is : (t : Topology) (engine : Engine) (a : Answer) → RefusesWith t engine a → IsRefusal a
refusal_is t MinHop a refuses = absurd refuses
refusal_is t Dor a refuses = absurd refuses
refusal_is t Sssp a refuses = absurd refuses
refusal_is t (Updn guids) a refuses = up_down_refusal_is t (roots_from 0 t guids) a refuses
refusal_is t (Lash lanes) a refuses = subst IsRefusal (sym refuses.5) (no_is_refusal (lane_for_pair_text t refuses.1 refuses.2))
refusal_is t (Dfsssp lanes) a refuses = subst IsRefusal (sym refuses.4) (no_is_refusal (lane_for_ring_text t (lanes - 1) refuses.1))
refusal_is t (Nue lanes) a refuses = absurd refuses

pub laid_certified : (t : Topology) (engine : Engine) (p : Plan) → IsFabric t → has_lanes engine ≡ true → Lays t engine p → IsCertified t p
laid_certified t MinHop p fabric lanes laid = cc
laid_certified t Dor p fabric lanes laid = cc
laid_certified t Sssp p fabric lanes laid = cc
laid_certified t (Updn guids) p fabric lanes laid = up_down_certified t (roots_from 0 t guids) p fabric laid
laid_certified t (Lash count) p fabric lanes laid = certified_of t p laid.1.lanes.lanes laid.1.lanes.has_lanes (layers_in_order t count p fabric laid).good
laid_certified t (Dfsssp count) p fabric lanes laid = certified_of t p laid.lanes.lanes laid.lanes.has_lanes (rings_in_order t count p fabric laid).good
laid_certified t (Nue count) p fabric lanes laid = certified_of t p laid.2.plan.lanes laid.2.plan.has_lanes (nue_in_order t count p fabric laid).good

pub refuses_never : (t : Topology) (engine : Engine) (a : Answer) → never_refuses engine ≡ true → ¬ RefusesWith t engine a
refuses_never t MinHop a never refuses = refuses
refuses_never t Dor a never refuses = refuses
refuses_never t Sssp a never refuses = refuses
refuses_never t (Updn guids) a never refuses = cc
refuses_never t (Lash lanes) a never refuses = cc
refuses_never t (Dfsssp lanes) a never refuses = cc
refuses_never t (Nue lanes) a never refuses = refuses

pub engine_answers : (t : Topology) (engine : Engine) → IsFabric t → HasLaneCount engine → ((p : Plan) × Lays t engine p) ⊎ ((a : Answer) × RefusesWith t engine a)
unfolding plan_of
engine_answers t MinHop fabric lanes = let made = min_hop_table_exists t fabric in inl (plan_of made.0, (refl, made.1))
engine_answers t Dor fabric lanes = let made = dor_table_exists t fabric in inl (plan_of made.0, (refl, made.1))
engine_answers t Sssp fabric lanes = let made = least_weight_tables_exist t fabric in inl (plan_of made.0, (refl, made.1))
engine_answers t (Updn guids) fabric lanes = up_down_answers t (roots_from 0 t guids) fabric (λ named e. are_within 0 t guids named e)
engine_answers t (Lash count) fabric lanes = layers_answer t count fabric lanes
engine_answers t (Dfsssp count) fabric lanes = rings_answer t count fabric lanes
engine_answers t (Nue count) fabric lanes = inl (nue_answer t count fabric lanes)

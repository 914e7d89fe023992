-- A plan of Nue is certified: it reaches, its levels are below the lane count, and its numbers are levels, which rise.
use Rattle.std.proofs.Common.{◌≡◌, ℕ, ◌<◌, inl, inr, Bool, true, false, List, Some, None, Option, refl, sym, ◌∙◌, subst, arith}
use Rattle.std.specs.Prelude.{IsTrue, IsFalse, IfSome, nat_lt, if◌then◌else◌}
use Rattle.std.proofs.lemmas.Bool.{lt-ltb}
use Rattle.std.proofs.lemmas.Option.{same_Some}
use Rattle.fab_model.specs.Topology.{Topology, is_source}
use Rattle.fab_model.specs.Connected.{IsConnectedTo}
use Rattle.fab_tables.specs.declared.plan.Plan.{Plan}
use Rattle.fab_tables.specs.Entries.{Entries}
use Rattle.fab_tables.specs.LaneTables.{level, lane_of_level}
use Rattle.fab_tables.specs.Fit.{LanesFit, PlanFits, IsTidy, IsSource}
use Rattle.fab_certify.proofs.Engines.EngineLanes.{engine_certified}
use Rattle.fab_escape.specs.Forest.{Forest}
use Rattle.fab_escape.specs.Laws.{EscapeTreeIsTree}
use Rattle.fab_nue.specs.Kept.{old_level, CanStay, KeepsLevel}
use Rattle.fab_nue.specs.NuePlan.{DependsToEscapeIn, IsNueLevel, IsNuePlan}
use Rattle.fab_nue.specs.Laying.{AreLaid}
use Rattle.fab_nue.specs.Laws.{NueIsCertified}
use Rattle.fab_nue.proofs.Laying.InUse.{laid_out}
use Rattle.fab_nue.proofs.Laying.Reaching.{home_below, kept_stays, laying_reaches}

-- a level below the count has the lane of its number
pub level_of_count : (count n : ℕ) → n < count → lane_of_level count n ≡ n
level_of_count count n h = chosen (nat_lt n count) (lt-ltb n count h)
  where
    chosen : (b : Bool) → b ≡ true → (if b then n else 15) ≡ n
    chosen true e = refl
    chosen false e = cc

-- ---- levels of Nue

pub nue_level_below : (t : Topology) (lanes : ℕ) (old : Option Plan) (kept : List ℕ) (forest : ℕ → Forest) (laid : ℕ → List (Option ℕ)) (e : Entries) → 0 < lanes →
    AreLaid t lanes old kept forest laid e → (s lid n : ℕ) → IsSource t s → IsConnectedTo t s lid → IsNueLevel t lanes old kept s lid n → n < lanes
nue_level_below t lanes old kept forest laid e some laying s lid n source c (inr own) = omega (arith, own.1, home_below t lid lanes c.0 some c.1)
nue_level_below t lanes old kept forest laid e some laying s lid n source c (inl own) =
    let k : (q : Plan) × (before : List ℕ) × (old ≡ Some q) × CanStay t lanes (λ on_lane x y. DependsToEscapeIn t lanes forest on_lane x y) q before lid
    = kept_stays t lanes (λ on_lane x y. DependsToEscapeIn t lanes forest on_lane x y) old kept lid laying.keeps own.0 in
    let keeps : KeepsLevel t lanes k.0 s lid = k.3.levels s source c in
    let given : old_level k.0.lanes s lid ≡ Some n = subst (λ o. IfSome o (λ r. old_level r.lanes s lid ≡ Some n)) k.2 own.1 in
    omega (arith, keeps.below, same_Some keeps.level n (sym keeps.is ∙ given))

-- a source has one level for a LID
pub one_nue_level : (t : Topology) (lanes : ℕ) (old : Option Plan) (kept : List ℕ) (forest : ℕ → Forest) (laid : ℕ → List (Option ℕ)) (e : Entries) → AreLaid t lanes old kept forest laid e →
    (s lid m n : ℕ) → IsNueLevel t lanes old kept s lid m → IsNueLevel t lanes old kept s lid n → m ≡ n
one_nue_level t lanes old kept forest laid e x s lid m n (inl a) (inr b) = absurd (b.0 a.0)
one_nue_level t lanes old kept forest laid e x s lid m n (inr a) (inl b) = absurd (a.0 b.0)
one_nue_level t lanes old kept forest laid e x s lid m n (inr a) (inr b) = a.1 ∙ sym b.1
one_nue_level t lanes old kept forest laid e x s lid m n (inl a) (inl b) =
    of_old (kept_stays t lanes (λ lane c d. DependsToEscapeIn t lanes forest lane c d) old kept lid x.keeps a.0).0 (kept_stays t lanes (λ lane c d. DependsToEscapeIn t lanes forest lane c d) old kept lid x.keeps a.0).2
  where
    of_old : (r : Plan) → old ≡ Some r → m ≡ n
    of_old r is =
        let first_is : old_level r.lanes s lid ≡ Some m = subst (λ o. IfSome o (λ z. old_level z.lanes s lid ≡ Some m)) is a.1 in
        let other_is : old_level r.lanes s lid ≡ Some n = subst (λ o. IfSome o (λ z. old_level z.lanes s lid ≡ Some n)) is b.1 in
        same_Some m n (sym first_is ∙ other_is)

-- what escape trees owe: they are trees
pub nue_is_certified : EscapeTreeIsTree → NueIsCertified
nue_is_certified trees t lanes old kept p good some few plan =
    engine_certified t lanes (λ s lid n. IsNueLevel t lanes old kept s lid n) p good
    (laying_reaches t lanes old kept plan.0 plan.1 p.tables good some (laid_out t lanes old kept plan.0 plan.1 p plan.2) (λ on_lane to below low. trees t on_lane (plan.0 on_lane) to good (plan.2.forests on_lane below) low))
    (nue_level_below t lanes old kept plan.0 plan.1 p.tables some (laid_out t lanes old kept plan.0 plan.1 p plan.2)) plan.2.plan

-- ---- it fits, and no level stands at a switch that isn't a source

pub nue_fits : (t : Topology) (lanes : ℕ) (old : Option Plan) (kept : List ℕ) (p : Plan) → IsNuePlan t lanes old kept p → PlanFits t p
nue_fits t lanes old kept p x = record { tables = x.2.tables.fixed.fits; lanes = subst (λ o. IfSome o (LanesFit t)) (sym x.2.plan.has_lanes) x.2.plan.fits }

true_and_false : (b : Bool) → IsTrue b → IsFalse b → ⊥
true_and_false b is other = cc

pub nue_is_tidy : (t : Topology) (lanes : ℕ) (old : Option Plan) (kept : List ℕ) (p : Plan) → IsNuePlan t lanes old kept p → IsTidy t p
nue_is_tidy t lanes old kept p x =
    subst (λ o. IfSome o (λ l. (s lid : ℕ) → IsFalse (is_source t s) → level l s lid ≡ None)) (sym x.2.plan.has_lanes)
    (λ s lid not. x.2.plan.levels.no_other s lid (λ both. true_and_false (is_source t s) both.0 not))

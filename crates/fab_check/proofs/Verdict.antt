-- From the first fault to the verdict.
use Rattle.std.proofs.Common.{◌≡◌, ◌↔◌, ℕ, List, [], ◌∷◌, ◌⊎◌, inl, inr, Some, None, Option, refl, sym, ◌∙◌, subst, unwrap_or, arith}
use Rattle.std.proofs.lemmas.Option.{same_Some, none-some}
use Rattle.fab_model.specs.Topology.{Topology}
use Rattle.fab_tables.specs.declared.plan.Plan.{Plan}
use Rattle.fab_tables.specs.declared.verdict.Verdict.{Verdict}
use Rattle.fab_tables.specs.declared.verdict.Verdict.TheVariants.{Routes, Lanes, Unreached, NoLevel, BadLane, NoNumber, NotRising}
use Rattle.fab_tables.specs.Entries.{Entries}
use Rattle.fab_tables.specs.LaneTables.{LaneTables}
use Rattle.fab_tables.specs.Certified.{Reaches, HasRisingNumbers, IsCertified}
use Rattle.fab_tables.specs.Verdicts.{IsLaneFaultAt, IsFaultAt, IsVerdict}
use Rattle.fab_tables.proofs.Verdicts.CertifiedLaws.{lanes_is_certified, routes_reaches}
use Rattle.fab_tables.proofs.Verdicts.OneVerdict.{one_verdict}
use Rattle.fab_tables.proofs.Verdicts.VerdictExists.{first_is_verdict}
use Rattle.fab_tables.proofs.Verdicts.DeadlockLaws.{free_of_deadlock}
use Rattle.fab_tables.specs.First.{IsBefore, IsFirst, FindsFirst}
use Rattle.fab_tables.proofs.Faults.RouteFaults.{IsUnreached, unreached}
use Rattle.fab_tables.proofs.Faults.StartFaults.{IsOfLid, of_lid}
use Rattle.fab_check.specs.Free.{IsFreeOfDeadlock}

-- the first fault is the verdict
-- a fault of a route comes before those of the lanes
module _ (t : Topology) (e : Entries) (lanes : Option LaneTables) where
  -- the faults of routes are the same whatever the lanes
  of_route : (place : List ℕ) (fault : Verdict) → IsFaultAt t e None place fault → IsFaultAt t e lanes place fault
  of_route place (Unreached lid s end) f = f
  of_route place Routes f = absurd (none-some f.0 f.1)
  of_route place Lanes f = absurd (none-some f.0 f.1)
  of_route place (NoLevel a b) f = absurd (none-some f.0 f.1)
  of_route place (BadLane a b c) f = absurd (none-some f.0 f.1)
  of_route place (NoNumber a b c) f = absurd (none-some f.0 f.1)
  of_route place (NotRising a b c d m n) f = absurd (none-some f.0 f.1)

  -- a fault is one of a route, or of the lanes
  abbrev IsOfLanes : List ℕ → Verdict → Type 0
  IsOfLanes place fault = (l : LaneTables) × (lanes ≡ Some l) × IsLaneFaultAt t e l place fault

  either : (place : List ℕ) (fault : Verdict) → IsFaultAt t e lanes place fault → IsFaultAt t e None place fault ⊎ IsOfLanes place fault
  either place (Unreached lid s end) f = inl f
  either place Routes f = inr f
  either place Lanes f = inr f
  either place (NoLevel a b) f = inr f
  either place (BadLane a b c) f = inr f
  either place (NoNumber a b c) f = inr f
  either place (NotRising a b c d m n) f = inr f

  -- one of the lanes comes later
  later : (m n : ℕ) (ms ns : List ℕ) → m ≡ 1 → n ≡ 0 → ¬ IsBefore (m ∷ ms) (n ∷ ns)
  later m n ms ns one nought (inl less) = omega (arith, one, nought, less)
  later m n ms ns one nought (inr same) = omega (arith, one, nought, same.0)

  lane_later : (place earlier : List ℕ) (fault other : Verdict) → IsFaultAt t e None place fault → IsOfLanes earlier other → ¬ IsBefore earlier place
  lane_later place earlier fault other f g before =
      let x : IsUnreached t e place = unreached t e place fault f in
      let y : IsOfLid t e g.0 earlier = of_lid t e g.0 earlier other g.2 in
      later 1 0 (y.0 ∷ y.1 ∷ y.2) (x.0 ∷ x.1 ∷ []) refl refl (subst (λ xs. IsBefore xs (0 ∷ x.0 ∷ x.1 ∷ [])) y.3 (subst (λ xs. IsBefore earlier xs) x.2 before))

  pub route_is_verdict : (fault : Verdict) → IsFirst (IsFaultAt t e None) fault → IsVerdict t e lanes fault
  route_is_verdict fault first = first_is_verdict t e lanes fault (first.0, of_route first.0 fault first.1, before)
    where
      before : (earlier : List ℕ) (other : Verdict) → IsBefore earlier first.0 → ¬ IsFaultAt t e lanes earlier other
      before earlier other comes f = elim (either earlier other f) [ inl x ↦ first.2 earlier other comes x | inr y ↦ lane_later first.0 earlier fault other first.1 y comes ]

pub routes_is_verdict : (t : Topology) (e : Entries) → FindsFirst (IsFaultAt t e None) None → IsVerdict t e None Routes
routes_is_verdict t e none = (refl, none)

-- where all routes are delivered, the first fault of the lanes decides
pub lanes_is_verdict : (t : Topology) (e : Entries) (l : LaneTables) → FindsFirst (IsFaultAt t e None) None → (found : Option Verdict) → FindsFirst (IsLaneFaultAt t e l) found → IsVerdict t e (Some l) (unwrap_or found Lanes)
lanes_is_verdict t e l reached None none = (
  refl,
  λ place fault f. elim (either t e (Some l) place fault f) [
    | inl x ↦ reached place fault x
    | inr y ↦ none place fault (subst (λ k. IsLaneFaultAt t e k place fault) (same_Some y.0 l (sym y.1)) y.2)
  ],
)
lanes_is_verdict t e l reached (Some fault) first = first_is_verdict t e (Some l) fault (first.0, here fault first.1, before)
  where
    here : (v : Verdict) → IsLaneFaultAt t e l first.0 v → IsFaultAt t e (Some l) first.0 v
    here (Unreached lid s end) f = absurd f
    here Routes f = (l, refl, f)
    here Lanes f = (l, refl, f)
    here (NoLevel a b) f = (l, refl, f)
    here (BadLane a b c) f = (l, refl, f)
    here (NoNumber a b c) f = (l, refl, f)
    here (NotRising a b c d m n) f = (l, refl, f)

    before : (earlier : List ℕ) (other : Verdict) → IsBefore earlier first.0 → ¬ IsFaultAt t e (Some l) earlier other
    before earlier other comes f = elim (either t e (Some l) earlier other f) [
      | inl x ↦ reached earlier other x
      | inr y ↦ first.2 earlier other comes (subst (λ k. IsLaneFaultAt t e k earlier other) (same_Some y.0 l (sym y.1)) y.2)
    ]

-- what follows from the verdict
module _ (t : Topology) (p : Plan) (v : Verdict) (is : IsVerdict t p.tables p.lanes v) where
  pub routes_exactly : (v ≡ Routes) ↔ ((p.lanes ≡ None) × Reaches t p.tables)
  routes_exactly = (λ e. (routes_reaches t p).0 (subst (λ w. IsVerdict t p.tables p.lanes w) e is), λ h. one_verdict t p.tables p.lanes v Routes is ((routes_reaches t p).1 h))

  pub lanes_exactly : (v ≡ Lanes) ↔ IsCertified t p
  lanes_exactly = (λ e. (lanes_is_certified t p).0 (subst (λ w. IsVerdict t p.tables p.lanes w) e is), λ h. one_verdict t p.tables p.lanes v Lanes is ((lanes_is_certified t p).1 h))

  pub lanes_free : v ≡ Lanes → IsFreeOfDeadlock t p
  lanes_free e l packets has =
      let good : IsCertified t p = lanes_exactly.0 e in
      free_of_deadlock t p.tables l packets (subst (λ (k : LaneTables). HasRisingNumbers t p.tables k) (same_Some good.0 l (sym good.1 ∙ has)) good.3)

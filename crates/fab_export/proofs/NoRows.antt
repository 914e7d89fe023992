-- What is known of a plan against which no row of the table stands.
use Rattle.std.proofs.Common.{◌≡◌, refl, sym, ◌∙◌, ap, Some, None, Option}
use Rattle.std.specs.Prelude.{option_and_then}
use Rattle.std.specs.Option.{option_or}
use Rattle.fab_model.specs.Topology.{Topology}
use Rattle.fab_tables.specs.declared.plan.Plan.{Plan}
use Rattle.fab_tables.specs.declared.verdict.Verdict.{Verdict}
use Rattle.fab_tables.specs.declared.verdict.Verdict.TheVariants.{Routes, Lanes, Unreached, NoLevel, BadLane, NoNumber, NotRising}
use Rattle.fab_tables.specs.LaneTables.{LaneTables}
use Rattle.fab_tables.specs.Certified.{Reaches, IsCertified}
use Rattle.fab_tables.specs.Verdicts.{IsVerdict}
use Rattle.fab_tables.proofs.Verdicts.OneVerdict.{one_verdict}
use Rattle.fab_tables.proofs.Verdicts.CertifiedLaws.{lanes_is_certified, routes_reaches}
use Rattle.fab_export.specs.declared.part.Part.{Part}
use Rattle.fab_export.specs.Unfits.{refused, bad_port_guid, too_far, own_map, other_map, high_lane, no_level_0, no_spare, no_lanes, unfit_after}
use Rattle.fab_export.specs.Laws.{OneUnfit, FitIsGood}

pub one_unfit : OneUnfit
one_unfit t p of_part x y a b =
    a.2 ∙ ap (λ verdict. unfit_after verdict t p of_part) (one_verdict t p.tables p.lanes a.0 b.0 a.1 b.1) ∙ sym b.2

-- where there is no first, the one in front is none, and there is none behind it
pub no_first : {X : Type 0} (o rest : Option X) → None ≡ option_or o rest → (o ≡ None) × (None ≡ rest)
no_first None rest is = (refl, is)
no_first (Some x) rest is = absurd (cc)

-- no row stands
pub record HasNoRow (t : Topology) (p : Plan) (of_part : Part) (verdict : Verdict) : Type 0 where
  pub checked : refused verdict ≡ None
  pub port_guids : bad_port_guid t ≡ None
  pub near : too_far t p.tables ≡ None
  pub no_own_map : option_and_then own_map p.lanes ≡ None
  pub one_map : option_and_then (other_map t) p.lanes ≡ None
  pub low_lanes : option_and_then (high_lane t p.tables) p.lanes ≡ None
  pub level_0 : option_and_then (no_level_0 t p.tables) p.lanes ≡ None
  pub spare : option_and_then (no_spare t p.tables) p.lanes ≡ None
  pub lanes : no_lanes of_part p.lanes ≡ None

pub rows_of_fit : (t : Topology) (p : Plan) (of_part : Part) (verdict : Verdict) → None ≡ unfit_after verdict t p of_part → HasNoRow t p of_part verdict
unfolding unfit_after
rows_of_fit t p of_part verdict is =
    let a = no_first (refused verdict) _ is in
    let b = no_first (bad_port_guid t) _ a.1 in
    let c = no_first (too_far t p.tables) _ b.1 in
    let d = no_first (option_and_then own_map p.lanes) _ c.1 in
    let e = no_first (option_and_then (other_map t) p.lanes) _ d.1 in
    let f = no_first (option_and_then (high_lane t p.tables) p.lanes) _ e.1 in
    let g = no_first (option_and_then (no_level_0 t p.tables) p.lanes) _ f.1 in
    let h = no_first (option_and_then (no_spare t p.tables) p.lanes) _ g.1 in
    let i = no_first (no_lanes of_part p.lanes) _ h.1 in
    record {
      checked = a.0;
      port_guids = b.0;
      near = c.0;
      no_own_map = d.0;
      one_map = e.0;
      low_lanes = f.0;
      level_0 = g.0;
      spare = h.0;
      lanes = i.0;
    }

abbrev IsGood : Topology → Plan → Type 0
IsGood t p = Reaches t p.tables × ((l : LaneTables) → p.lanes ≡ Some l → IsCertified t p)

pub good_verdict : (t : Topology) (p : Plan) (verdict : Verdict) → IsVerdict t p.tables p.lanes verdict → refused verdict ≡ None → IsGood t p
good_verdict t p Routes is none =
    let known : (p.lanes ≡ None) × Reaches t p.tables = (routes_reaches t p).0 is in
    (known.1, λ l some. absurd (let no : None ≡ Some l = sym known.0 ∙ some in cc))
good_verdict t p Lanes is none = let known : IsCertified t p = (lanes_is_certified t p).0 is in (known.2, λ l some. known)
good_verdict t p (Unreached lid s end) is none = absurd (cc)
good_verdict t p (NoLevel lid s) is none = absurd (cc)
good_verdict t p (BadLane lid s at) is none = absurd (cc)
good_verdict t p (NoNumber lid s at) is none = absurd (cc)
good_verdict t p (NotRising lid s v w m n) is none = absurd (cc)

pub fit_is_good : FitIsGood
fit_is_good t p of_part fit = good_verdict t p fit.0 fit.1 (rows_of_fit t p of_part fit.0 fit.2).checked

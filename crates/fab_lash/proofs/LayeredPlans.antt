-- Layered plans are certified, and one.
use Rattle.std.proofs.Common.{◌≡◌, ℕ, ◌<◌, inl, inr, Bool, true, false, refl, sym, ◌∙◌, ap, subst, arith, Some}
use Rattle.std.specs.Prelude.{◌==◌, nat_lt, if◌then◌else◌}
use Rattle.std.proofs.lemmas.Bool.{cases_order, cond-true, lt-ltb, le-ltb, ne_eqb, eq-eqb}
use Rattle.std.proofs.lemmas.Option.{same_Some}
use Rattle.fab_model.specs.declared.rows.Place.{Place}
use Rattle.fab_model.specs.Topology.{Topology, place_of}
use Rattle.fab_model.specs.Connected.{AreConnected, IsConnectedTo}
use Rattle.fab_model.specs.WellFormed.{IsWellFormed}
use Rattle.fab_tables.specs.Fit.{IsSource}
use Rattle.fab_tables.specs.Certified.{Reaches}
use Rattle.fab_tables.specs.Entries.{Entries}
use Rattle.fab_tables.proofs.Joined.Walks.{connected_back}
use Rattle.fab_balance.specs.MinHop.{AreDorTables}
use Rattle.fab_balance.proofs.Reaching.{nearer_reaches}
use Rattle.fab_balance.proofs.OneTables.{one_dor_table}
use Rattle.fab_lash.specs.Pairs.{IsPair}
use Rattle.fab_lash.specs.Layerings.{AreLayers, layer_of_two}
use Rattle.fab_lash.specs.Layered.{IsLayerLevel}
use Rattle.fab_lash.specs.Laws.{LayeredIsCertified, OneLayeredPlan}
use Rattle.fab_lash.proofs.OneLayering.{one_layering}
use Rattle.fab_certify.proofs.Engines.EngineLanes.{engine_certified}
use Rattle.fab_certify.proofs.Engines.OneEnginePlan.{one_engine_plan}

pub dor_reaches : (t : Topology) (e : Entries) → IsWellFormed t → AreDorTables t e → Reaches t e
dor_reaches t e good dor = nearer_reaches t e good (record { fixed = dor.fixed; chosen = λ s lid to is. (dor.chosen s lid to is).holds })

-- the layer of two switches is 0, or that of the one pair or the other
pub same_switch : (layer : ℕ → ℕ → ℕ) (a b : ℕ) → a ≡ b → layer_of_two layer a b ≡ 0
same_switch layer a b same = cond-true (a == b) 0 (if nat_lt a b then layer a b else layer b a) (eq-eqb a b same)

pub lower_first : (layer : ℕ → ℕ → ℕ) (a b : ℕ) → a < b → layer_of_two layer a b ≡ layer a b
lower_first layer a b less = go (a == b) (nat_lt a b) (ne_eqb a b (λ same. omega (arith, same, less))) (lt-ltb a b less)
  where
    go : (u v : Bool) → u ≡ false → v ≡ true → (if u then 0 else if v then layer a b else layer b a) ≡ layer a b
    go u v x y = rw (x, y) refl

pub higher_first : (layer : ℕ → ℕ → ℕ) (a b : ℕ) → b < a → layer_of_two layer a b ≡ layer b a
higher_first layer a b more = go (a == b) (nat_lt a b) (ne_eqb a b (λ same. omega (arith, same, more))) (le-ltb a b (omega (arith, more)))
  where
    go : (u v : Bool) → u ≡ false → v ≡ false → (if u then 0 else if v then layer a b else layer b a) ≡ layer b a
    go u v x y = rw (x, y) refl

module _ (t : Topology) (good : IsWellFormed t) where
  -- a place's switch that is connected
  pub connected_place : (s lid : ℕ) (place : Place) → IsConnectedTo t s lid → place_of t lid ≡ Some place → AreConnected t s place.switch.0
  connected_place s lid place c is = subst (λ (q : Place). AreConnected t s q.switch.0) (same_Some c.0 place (sym c.1 ∙ is)) c.2

  -- where two layerings agree on pairs, they do on connected switches
  pub layers_agree : (x y : ℕ → ℕ → ℕ) → ((low high : ℕ) → IsPair t low high → x low high ≡ y low high) → (a b : ℕ) → AreConnected t a b → layer_of_two x a b ≡ layer_of_two y a b
  layers_agree x y same a b joined = elim (cases_order a b) [
    | inl e ↦ same_switch x a b e ∙ sym (same_switch y a b e)
    | inr (inl less) ↦ lower_first x a b less ∙ same a b (less, joined) ∙ sym (lower_first y a b less)
    | inr (inr more) ↦ higher_first x a b more ∙ same b a (more, connected_back t good a b joined) ∙ sym (higher_first y a b more)
  ]

  -- layers of connected switches are below the count
  pub layers_below : (e : Entries) (count : ℕ) (layer : ℕ → ℕ → ℕ) → 0 < count → AreLayers t e count layer → (a b : ℕ) → AreConnected t a b → layer_of_two layer a b < count
  layers_below e count layer some layers a b joined = elim (cases_order a b) [
    | inl same ↦ omega (arith, same_switch layer a b same, some)
    | inr (inl less) ↦ omega (arith, lower_first layer a b less, (layers a b (less, joined)).1)
    | inr (inr more) ↦ omega (arith, higher_first layer a b more, (layers b a (more, connected_back t good a b joined)).1)
  ]

pub layered_is_certified : LayeredIsCertified
layered_is_certified t count p used good x =
    engine_certified t count (λ s lid n. IsLayerLevel t x.layer s lid n) p good (dor_reaches t p.tables good x.tables)
    (λ s lid n source connected given.
    omega (arith, given.2, layers_below t good p.tables count x.layer (omega (arith, x.lanes.fits.whole.count, x.lanes.lane_count)) x.layers s given.0.switch.0 (connected_place t good s lid given.0 connected given.1)))
    x.lanes

pub one_layered_plan : OneLayeredPlan
one_layered_plan t count p q used other good x y =
    one_engine_plan t count (λ s lid n. IsLayerLevel t x.layer s lid n) (λ s lid n. IsLayerLevel t y.layer s lid n) p q tables alike x.lanes y.lanes
  where
    tables : p.tables ≡ q.tables
    tables = one_dor_table t p.tables q.tables good x.tables y.tables

    layers : (low high : ℕ) → IsPair t low high → x.layer low high ≡ y.layer low high
    layers = one_layering t q.tables count x.layer y.layer (subst (λ e. AreLayers t e count x.layer) tables x.layers) y.layers

    alike : (s lid m n : ℕ) → IsSource t s → IsConnectedTo t s lid → IsLayerLevel t x.layer s lid m → IsLayerLevel t y.layer s lid n → m ≡ n
    alike s lid m n source connected a b =
        a.2 ∙ layers_agree t good x.layer y.layer layers s a.0.switch.0 (connected_place t good s lid a.0 connected a.1)
        ∙ ap (λ (z : Place). layer_of_two y.layer s z.switch.0) (same_Some a.0 b.0 (sym a.1 ∙ b.1)) ∙ sym b.2

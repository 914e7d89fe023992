-- A fabric has a layered plan on so many lanes, or a pair that needs another lane.
use Rattle.std.proofs.Common.{◌≡◌, ℕ, ◌<◌, ◌≤◌, ◌⊎◌, inl, inr, List, refl, sym, subst, arith, Some}
use Rattle.fab_model.specs.Topology.{Topology, switch_id}
use Rattle.fab_model.specs.Connected.{IsConnectedTo}
use Rattle.fab_model.specs.WellFormed.{IsFabric}
use Rattle.fab_tables.specs.declared.plan.Plan.{Plan}
use Rattle.fab_tables.specs.Entries.{Entries}
use Rattle.fab_tables.specs.LaneTables.{LaneTables}
use Rattle.fab_tables.specs.Fit.{PlanFits}
use Rattle.fab_balance.specs.MinHop.{AreDorTables}
use Rattle.fab_balance.proofs.TablesExist.{dor_table_exists}
use Rattle.fab_certify.specs.declared.certified.Certified.{Certified}
use Rattle.fab_certify.specs.declared.certified.Certified.TheVariants.{Numbers, Refused, RingUsed}
use Rattle.fab_certify.specs.Certificate.{IsCertificate, IsPlainCertificate}
use Rattle.fab_certify.proofs.Exists.Certificates.{certificate_exists}
use Rattle.fab_certify.proofs.Plainly.{plain_certificate}
use Rattle.fab_depgraph.specs.Listed.{Dependencies}
use Rattle.fab_lash.specs.Layerings.{AreLayers, NeedsLane}
use Rattle.fab_lash.specs.Layered.{AreUsed, IsLayeredPlan}
use Rattle.fab_lash.specs.LayeredLanes.{AreLayeredLanes}
use Rattle.fab_lash.specs.Leveling.{layer_for}
use Rattle.fab_lash.specs.Laws.{LayeredPlanOrRefusalExists, HasLayeredPlan, HasLayeredRefusal}
use Rattle.fab_lash.proofs.LayeredPlans.{layers_below}
use Rattle.fab_lash.proofs.LayerLevels.{for_place, layers_are_levels}
use Rattle.fab_lash.proofs.PlanNumbers.{only_numbers, numbers_make_plan}
use Rattle.fab_lash.proofs.Exists.Layers.{Laid, laid_or_needed}
use Rattle.fab_lash.proofs.Exists.Lanes.{lanes_exist}

module _ (t : Topology) (fabric : IsFabric t) (e : Entries) (tables : AreDorTables t e) where
  -- ---- the plan of lanes whose levels are layers

  module _ (l : LaneTables) (used : List Dependencies) (layered : AreLayeredLanes t e l used) where
    abbrev plain : Plan
    plain = record { tables = e; lanes = Some l }

    fits : PlanFits t plain
    fits = record { tables = tables.fixed.fits; lanes = layered.fits }

    by_certificate : (answer : Certified) → IsPlainCertificate t plain answer → (p : Plan) × IsLayeredPlan t l.count p used
    by_certificate (Numbers p) x = (p, numbers_make_plan t e l used fabric.rows tables layered (Numbers p) p x refl)
    by_certificate (Refused fault) x = absurd (only_numbers t e l used fabric.rows tables layered (Refused fault) x (inl (fault, refl)))
    by_certificate (RingUsed ring) x = absurd (only_numbers t e l used fabric.rows tables layered (RingUsed ring) x (inr (ring, refl)))

    plan_of_lanes : (p : Plan) × IsLayeredPlan t l.count p used
    plan_of_lanes =
        let answer : (answer : Certified) × IsCertificate t plain answer = certificate_exists t plain fabric fits in
        by_certificate answer.0 (plain_certificate t plain answer.0 layered.maps.no_pair answer.1)

  -- ---- lanes for layers

  module _ (count : ℕ) (some : 0 < count) (few : count ≤ 15) (layer : ℕ → ℕ → ℕ) (used : List Dependencies) (layers : AreLayers t e count layer) (lists : AreUsed t e count layer used) where
    small : (s lid : ℕ) → IsConnectedTo t s lid → layer_for t layer s lid < 16
    small s lid c =
        omega (arith, for_place t layer s lid c.0 c.1, layers_below t fabric.rows e count layer some layers s c.0.switch.0 c.2, few)

    layered_lanes : (l : LaneTables) × (l.count ≡ count) × AreLayeredLanes t e l used
    layered_lanes =
        let l = lanes_exist t fabric count some few (layer_for t layer) small in
        let P : ℕ → Type 0 = λ n. AreLayers t e n layer in
        let Q : ℕ → Type 0 = λ n. AreUsed t e n layer used in (
          l.0,
          l.2,
          record {
            layer = layer;
            layers = subst P (sym l.2) layers;
            lists = subst Q (sym l.2) lists;
            fits = l.1.fits;
            maps = l.1.maps;
            levels = layers_are_levels t layer l.0 l.1 l.3;
          },
        )

    plan_of_layers : HasLayeredPlan t count
    plan_of_layers =
        let l : (l : LaneTables) × (l.count ≡ count) × AreLayeredLanes t e l used = layered_lanes in
        let made : (p : Plan) × IsLayeredPlan t l.0.count p used = plan_of_lanes l.0 used l.2 in
        (made.0, used, let P : ℕ → Type 0 = λ n. IsLayeredPlan t n made.0 used in subst P l.1 made.1)

  by_layers : (count : ℕ) → 0 < count → count ≤ 15 → Laid t fabric.rows e count ⊎ ((low high : ℕ) × NeedsLane t e count low high) → HasLayeredPlan t count ⊎ HasLayeredRefusal t count
  by_layers count some few (inl laid) = inl (plan_of_layers count some few laid.layer laid.used laid.layers laid.lists)
  by_layers count some few (inr needs) = inr (switch_id needs.0, switch_id needs.1, (e, tables, needs.2))

pub layered_plan_or_refusal_exists : LayeredPlanOrRefusalExists
layered_plan_or_refusal_exists t count fabric some few =
    let made : (e : Entries) × AreDorTables t e = dor_table_exists t fabric in
    by_layers t fabric made.0 made.1 count some few (laid_or_needed t fabric.rows made.0 count)

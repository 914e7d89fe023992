-- Where the layers are the levels, the dependencies of the sources' routes close no walk.
use Rattle.std.proofs.Common.{◌≡◌, ℕ, zero, suc, ◌<◌, ◌⊎◌, inl, inr, [], length, refl, sym, ◌∙◌, ap, subst, arith, Some, Option}
use Rattle.std.specs.Prelude.{◌==◌, slice_get, slice_index_or, option_map, unwrap_or, position}
use Rattle.std.specs.Option.{option_or}
use Rattle.std.proofs.lemmas.Bool.{cases_order, ne_eqb, eq-eqb}
use Rattle.std.proofs.lemmas.Option.{same_Some, none-some, slice_get-get_or}
use Rattle.fab_graph.specs.Walks.{IsAcyclic}
use Rattle.fab_graph.proofs.Parts.{part_acyclic}
use Rattle.fab_model.specs.declared.rows.SwitchRow.{SwitchRow}
use Rattle.fab_model.specs.declared.rows.Place.{Place}
use Rattle.fab_model.specs.Topology.{Topology, switch_id, place_of, terminal_place}
use Rattle.fab_model.specs.Connected.{AreConnected, IsConnectedTo}
use Rattle.fab_model.specs.WellFormed.{IsWellFormed}
use Rattle.fab_model.proofs.Finds.{position_is}
use Rattle.fab_tables.specs.declared.end.End.TheVariants.{Delivered}
use Rattle.fab_tables.specs.Entries.{Entries, entry}
use Rattle.fab_tables.specs.LaneTables.{LaneTables, HasLanePerLevel}
use Rattle.fab_tables.specs.Fit.{LanesFit, IsSource}
use Rattle.fab_tables.specs.Route.{hop_by, after_hop, route_within, route}
use Rattle.fab_tables.specs.Route.Hop.{Stop}
use Rattle.fab_tables.specs.VirtualChannels.{Follow}
use Rattle.fab_tables.specs.Plain.{DependsPlainly}
use Rattle.fab_tables.proofs.Paths.FallingRoutes.{own_delivers, place_below}
use Rattle.fab_tables.proofs.Joined.Walks.{connected_back}
use Rattle.fab_balance.specs.MinHop.{AreDorTables}
use Rattle.fab_balance.proofs.DorRoutes.{routes_go_by_switch}
use Rattle.fab_certify.specs.EnginePlans.{HasLevels}
use Rattle.fab_lash.specs.Pairs.{own_lid, FollowOnRoute}
use Rattle.fab_lash.specs.Layerings.{AreLayers, DependsInLane, layer_of_two}
use Rattle.fab_lash.specs.Layered.{IsLayerLevel}
use Rattle.fab_lash.proofs.LaneLaws.{lanes_are_acyclic}
use Rattle.fab_certify.proofs.Engines.EngineLanes.{FollowsAtLevel, levelwise_acyclic}
use Rattle.fab_lash.proofs.LayeredPlans.{lower_first, higher_first, connected_place, layers_below}

-- the place of a switch's own LID is the switch, at port 0
pub own_place : (t : Topology) (s : ℕ) → IsWellFormed t → s < length t.switches → place_of t (own_lid t s) ≡ Some (record { switch = switch_id s; port = 0 })
own_place t s good low =
    ap (λ o. option_or (option_map (λ number. record { switch = switch_id number; port = 0 }) o) (terminal_place t (own_lid t s))) first
  where
    some_row : SwitchRow
    some_row = record { guid = 0; lid = record { 0 = 0 }; ports = 0; desc = [] }

    own : own_lid t s ≡ (slice_index_or t.switches s some_row).lid.0
    own = ap (λ (o : Option SwitchRow). unwrap_or (option_map (λ (row : SwitchRow). row.lid.0) o) 0) (slice_get-get_or t.switches s some_row low)

    first : position (λ (row : SwitchRow). row.lid.0 == own_lid t s) t.switches ≡ Some s
    first = position_is (λ (row : SwitchRow). row.lid.0 == own_lid t s) t.switches s some_row low (eq-eqb _ _ (sym own))
        (λ k less. ne_eqb _ _ (λ same. good.switch_lids_differ k s some_row less low (same ∙ own)))

-- at the LID's switch a route has no channel
stopped : (t : Topology) (e : Entries) (lid s n : ℕ) → hop_by t lid s (entry e s lid) ≡ Stop Delivered → (route_within t e lid n s).channels ≡ []
stopped t e lid s zero stops = refl
stopped t e lid s (suc n) stops = ap (λ hop. (after_hop t (λ next. route_within t e lid n next) hop).channels) stops

module _ (t : Topology) (e : Entries) (layer : ℕ → ℕ → ℕ) (good : IsWellFormed t) (dor : AreDorTables t e) where
  -- what follows on a source's route to a LID follows on that to the LID's switch, which is a pair's
  follows_in_lane : (lane c d : ℕ) → FollowsAtLevel t e (λ s lid n. IsLayerLevel t layer s lid n) lane c d → DependsInLane t e layer lane c d
  follows_in_lane lane c d x = go (cases_order x.0 place.switch.0)
    where
      place : Place
      place = x.4.0

      is : place_of t x.1 ≡ Some place
      is = x.4.1

      joined : AreConnected t x.0 place.switch.0
      joined = connected_place t good x.0 x.1 place x.3 is

      by_switch : FollowOnRoute t e x.0 place.switch.0 c d
      by_switch =
          subst (λ cs. Follow cs c d)
          (routes_go_by_switch t e x.0 x.1 (own_lid t place.switch.0) place (record { switch = switch_id place.switch.0; port = 0 }) good dor is
          (own_place t place.switch.0 good (place_below t good x.1 place is)) refl) x.5

      go : (x.0 ≡ place.switch.0) ⊎ ((x.0 < place.switch.0) ⊎ (place.switch.0 < x.0)) → DependsInLane t e layer lane c d
      go (inl same) = absurd (none-some c (subst (λ cs. slice_get cs x.5.0 ≡ Some c) nothing x.5.1))
        where
          nothing : (route t e x.0 x.1).channels ≡ []
          nothing = stopped t e x.1 x.0 (length t.switches) (subst (λ z. hop_by t x.1 z (entry e z x.1) ≡ Stop Delivered) (sym same) (own_delivers t e x.1 place good dor.fixed is))
      go (inr (inl less)) = (x.0, place.switch.0, (less, joined), sym (lower_first layer x.0 place.switch.0 less) ∙ sym x.4.2, inl by_switch)
      go (inr (inr more)) =
          (place.switch.0, x.0, (more, connected_back t good x.0 place.switch.0 joined), sym (higher_first layer x.0 place.switch.0 more) ∙ sym x.4.2, inr by_switch)

-- so such a plan has numbers
pub layered_acyclic : (t : Topology) (e : Entries) (count : ℕ) (layer : ℕ → ℕ → ℕ) (l : LaneTables) → IsWellFormed t → AreDorTables t e → AreLayers t e count layer →
    LanesFit t l → l.count ≡ count → HasLanePerLevel l → HasLevels t l (λ s lid n. IsLayerLevel t layer s lid n) → IsAcyclic (DependsPlainly t e l)
layered_acyclic t e count layer l good dor layers fits is_count maps levels =
    levelwise_acyclic t e l (λ s lid n. IsLayerLevel t layer s lid n) good fits maps levels below one
    (λ lane. part_acyclic (λ (c d : ℕ). FollowsAtLevel t e (λ s lid n. IsLayerLevel t layer s lid n) lane c d) (λ (c d : ℕ). DependsInLane t e layer lane c d)
    (λ c d. follows_in_lane t e layer good dor lane c d) (lanes_are_acyclic t e count lane layer layers))
  where
    below : (s lid n : ℕ) → IsSource t s → IsConnectedTo t s lid → IsLayerLevel t layer s lid n → n < l.count
    below s lid n source connected given =
        omega (arith, given.2, is_count, layers_below t good e count layer (omega (arith, fits.whole.count, is_count)) layers s given.0.switch.0 (connected_place t good s lid given.0 connected given.1))

    one : (s lid m n : ℕ) → IsSource t s → IsConnectedTo t s lid → IsLayerLevel t layer s lid m → IsLayerLevel t layer s lid n → m ≡ n
    one s lid m n source connected a b = a.2 ∙ ap (λ (z : Place). layer_of_two layer s z.switch.0) (same_Some a.0 b.0 (sym a.1 ∙ b.1)) ∙ sym b.2

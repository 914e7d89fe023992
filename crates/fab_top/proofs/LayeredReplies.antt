-- Layered plans: the layer of two switches holds the routes both ways.
use Rattle.std.proofs.Common.{◌≡◌, ℕ, zero, suc, ◌<◌, ◌⊎◌, inl, inr, [], length, refl, sym, ◌∙◌, ap, subst, arith, Some}
use Rattle.std.specs.Prelude.{slice_get}
use Rattle.std.proofs.lemmas.Bool.{cases_order}
use Rattle.std.proofs.lemmas.Option.{same_Some, none-some}
use Rattle.fab_model.specs.declared.rows.Place.{Place}
use Rattle.fab_model.specs.declared.rows.TerminalRow.{TerminalRow}
use Rattle.fab_model.specs.Topology.{Topology, switch_id, place_of}
use Rattle.fab_model.specs.Connected.{AreConnected, IsConnectedTo}
use Rattle.fab_model.specs.WellFormed.{IsWellFormed}
use Rattle.fab_tables.specs.declared.end.End.TheVariants.{Delivered}
use Rattle.fab_tables.specs.Entries.{Entries, entry}
use Rattle.fab_tables.specs.Fit.{IsSource}
use Rattle.fab_tables.specs.Route.{hop_by, after_hop, route_within, route}
use Rattle.fab_tables.specs.Route.Hop.{Stop}
use Rattle.fab_tables.specs.VirtualChannels.{Follow}
use Rattle.fab_tables.proofs.Joined.Walks.{connected_back}
use Rattle.fab_tables.proofs.Paths.FallingRoutes.{own_delivers, place_below}
use Rattle.fab_balance.specs.MinHop.{AreDorTables}
use Rattle.fab_balance.proofs.DorRoutes.{routes_go_by_switch}
use Rattle.fab_lash.specs.Pairs.{own_lid, FollowOnRoute}
use Rattle.fab_lash.specs.Layerings.{DependsInLane, layer_of_two}
use Rattle.fab_lash.specs.Layered.{IsLayerLevel}
use Rattle.fab_lash.proofs.LaneLaws.{lanes_are_acyclic}
use Rattle.fab_lash.proofs.LayeredPlans.{dor_reaches, same_switch, lower_first, higher_first, connected_place, layers_below}
use Rattle.fab_lash.proofs.LayersAcyclic.{own_place}
use Rattle.fab_replies.specs.Replies.{IsReply}
use Rattle.fab_replies.proofs.EngineReplies.{engine_numbered, reply_joined}
use Rattle.fab_replies.proofs.TerminalPlaces.{place_of_terminal}
use Rattle.fab_top.specs.EngineReplies.{LayeredRepliesAreNumbered}

-- at the LID's switch a route has no channel
stopped : (t : Topology) (e : Entries) (lid s n : ℕ) → hop_by t lid s (entry e s lid) ≡ Stop Delivered → (route_within t e lid n s).channels ≡ []
stopped t e lid s zero stops = refl
stopped t e lid s (suc n) stops = ap (λ hop. (after_hop t (λ next. route_within t e lid n next) hop).channels) stops

-- the layer is the same both ways
both_ways : (layer : ℕ → ℕ → ℕ) (a b : ℕ) → layer_of_two layer a b ≡ layer_of_two layer b a
both_ways layer a b = elim (cases_order a b) [
  | inl same ↦ same_switch layer a b same ∙ sym (same_switch layer b a (sym same))
  | inr (inl less) ↦ lower_first layer a b less ∙ sym (higher_first layer b a less)
  | inr (inr more) ↦ higher_first layer a b more ∙ sym (lower_first layer b a more)
]

module _ (t : Topology) (e : Entries) (layer : ℕ → ℕ → ℕ) (good : IsWellFormed t) (dor : AreDorTables t e) where
  -- what follows on a route, whatever switch it begins at, depends on the layer of that switch and the LID's
  in_layer : (s lid c d : ℕ) (place : Place) → place_of t lid ≡ Some place → AreConnected t s place.switch.0 → Follow (route t e s lid).channels c d →
      DependsInLane t e layer (layer_of_two layer s place.switch.0) c d
  in_layer s lid c d place is joined follow = go (cases_order s place.switch.0)
    where
      by_switch : FollowOnRoute t e s place.switch.0 c d
      by_switch =
          subst (λ cs. Follow cs c d)
          (routes_go_by_switch t e s lid (own_lid t place.switch.0) place (record { switch = switch_id place.switch.0; port = 0 }) good dor is
          (own_place t place.switch.0 good (place_below t good lid place is)) refl) follow

      go : (s ≡ place.switch.0) ⊎ ((s < place.switch.0) ⊎ (place.switch.0 < s)) → DependsInLane t e layer (layer_of_two layer s place.switch.0) c d
      go (inl same) = absurd (none-some c (subst (λ cs. slice_get cs follow.0 ≡ Some c) nothing follow.1))
        where
          nothing : (route t e s lid).channels ≡ []
          nothing = stopped t e lid s (length t.switches) (subst (λ z. hop_by t lid z (entry e z lid) ≡ Stop Delivered) (sym same) (own_delivers t e lid place good dor.fixed is))
      go (inr (inl less)) = (s, place.switch.0, (less, joined), sym (lower_first layer s place.switch.0 less), inl by_switch)
      go (inr (inr more)) = (place.switch.0, s, (more, connected_back t good s place.switch.0 joined), sym (higher_first layer s place.switch.0 more), inr by_switch)

pub layered_replies_are_numbered : LayeredRepliesAreNumbered
layered_replies_are_numbered t count p used fabric plan answer is =
    engine_numbered t count (λ s lid n. IsLayerLevel t plan.layer s lid n) p fabric plan.lanes (λ n c d. DependsInLane t p.tables plan.layer n c d) answer
    (dor_reaches t p.tables fabric.rows plan.tables) low there back (λ n. lanes_are_acyclic t p.tables count n plan.layer plan.layers) is
  where
    some : 0 < count
    some = omega (arith, plan.lanes.fits.whole.count, plan.lanes.lane_count)

    low : (s lid n : ℕ) → IsSource t s → IsConnectedTo t s lid → IsLayerLevel t plan.layer s lid n → n < count
    low s lid n source connected given =
        omega (arith, given.2, layers_below t fabric.rows p.tables count plan.layer some plan.layers s given.0.switch.0 (connected_place t fabric.rows s lid given.0 connected given.1))

    there : (s lid n c d : ℕ) → IsSource t s → IsConnectedTo t s lid → IsLayerLevel t plan.layer s lid n → Follow (route t p.tables s lid).channels c d → DependsInLane t p.tables plan.layer n c d
    there s lid n c d source connected given follow =
        subst (λ m. DependsInLane t p.tables plan.layer m c d) (sym given.2)
        (in_layer t p.tables plan.layer fabric.rows plan.tables s lid c d given.0 given.1 (connected_place t fabric.rows s lid given.0 connected given.1) follow)

    back : (q : TerminalRow) (lid : ℕ) (from : Place) (n c d : ℕ) → IsReply t q lid from → IsLayerLevel t plan.layer q.switch.0 lid n → Follow (route t p.tables from.switch.0 q.lid.0).channels c d →
        DependsInLane t p.tables plan.layer n c d
    back q lid from n c d reply given follow = subst (λ m. DependsInLane t p.tables plan.layer m c d) level_is
        (in_layer t p.tables plan.layer fabric.rows plan.tables from.switch.0 q.lid.0 c d (record { switch = q.switch; port = q.port }) (place_of_terminal t fabric q reply.path.terminal)
        (connected_back t fabric.rows q.switch.0 from.switch.0 (reply_joined t q lid from reply)) follow)
      where
        level_is : layer_of_two plan.layer from.switch.0 q.switch.0 ≡ n
        level_is =
            both_ways plan.layer from.switch.0 q.switch.0
            ∙ ap (λ (x : Place). layer_of_two plan.layer q.switch.0 x.switch.0) (same_Some from given.0 (sym reply.place ∙ given.1))
            ∙ sym given.2

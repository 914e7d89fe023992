-- Tables that always go nearer have routes of least length.
use Rattle.std.proofs.Common.{◌≡◌, ◌≢◌, ℕ, zero, suc, ◌<◌, ◌⊎◌, inl, inr, length, refl, sym, ◌∙◌, subst, arith, Some, true, false}
use Rattle.std.specs.Prelude.{◌==◌}
use Rattle.std.proofs.lemmas.Bool.Decides.{eqb_tells}
use Rattle.std.proofs.lemmas.Option.{same_Some}
use Rattle.fab_model.specs.declared.rows.Place.{Place}
use Rattle.fab_model.specs.Topology.{Topology, place_of}
use Rattle.fab_model.specs.Connected.{AreConnected}
use Rattle.fab_model.specs.WellFormed.{IsWellFormed}
use Rattle.fab_tables.specs.Entries.{Entries, entry}
use Rattle.fab_tables.specs.Route.{Route, hop_by, tip, after_hop, route_within}
use Rattle.fab_tables.specs.Route.Hop.{Along, Stop}
use Rattle.fab_tables.specs.declared.end.End.TheVariants.{Delivered}
use Rattle.fab_tables.proofs.Paths.FallingRoutes.{own_delivers, goes_along, connected_below}
use Rattle.fab_hops.specs.HopCounts.{IsHopCount}
use Rattle.fab_hops.proofs.HopLaws.{one_hop_count, hops_small}
use Rattle.fab_hops.proofs.HopWalks.{connected_have_count}
use Rattle.fab_balance.specs.Eligible.{LeadsNearer}
use Rattle.fab_balance.specs.Laws.{AreNearerTables, NearerRoutesAreShortest}

module _ (t : Topology) (e : Entries) (good : IsWellFormed t) (nearer : AreNearerTables t e) (lid : ℕ) (place : Place) (is : place_of t lid ≡ Some place) where
  within : (n s count : ℕ) → IsHopCount t s place.switch.0 count → count < n → IsHopCount t s place.switch.0 (length (route_within t e lid n s).channels)
  within zero s count x h = absurd (omega (arith, h))
  within (suc n) s count x h = go (λ next m y low. within n next m y low) (eqb_tells s place.switch.0)
    where
      rest : ℕ → Route
      rest next = route_within t e lid n next

      there : s ≡ place.switch.0 → IsHopCount t s place.switch.0 0
      there same = record { holds = same; least = λ m w. omega arith }

      stops : s ≡ place.switch.0 → hop_by t lid s (entry e s lid) ≡ Stop Delivered
      stops same = subst (λ z. hop_by t lid z (entry e z lid) ≡ Stop Delivered) (sym same) (own_delivers t e lid place good nearer.fixed is)

      on : ((next m : ℕ) → IsHopCount t next place.switch.0 m → m < n → IsHopCount t next place.switch.0 (length (rest next).channels)) → s ≢ place.switch.0 → LeadsNearer t s place.switch.0 (entry e s lid) → IsHopCount t s place.switch.0 (length (after_hop t rest (hop_by t lid s (entry e s lid))).channels)
      on more other y =
          let along : hop_by t lid s (entry e s lid) ≡ Along y.channel = goes_along t lid s (entry e s lid) y.channel place good is other y.leaves in
          let fewer : y.hops < n = omega (arith, h, one_hop_count t s place.switch.0 count (suc y.hops) x y.from_here) in
          let later : IsHopCount t (tip t y.channel) place.switch.0 (length (rest (tip t y.channel)).channels) = more (tip t y.channel) y.hops y.from_tip fewer in
          let same : suc y.hops ≡ suc (length (rest (tip t y.channel)).channels) = omega (arith, one_hop_count t (tip t y.channel) place.switch.0 y.hops (length (rest (tip t y.channel)).channels) y.from_tip later) in
          subst (λ hop. IsHopCount t s place.switch.0 (length (after_hop t rest hop).channels)) (sym along) (subst (λ k. IsHopCount t s place.switch.0 k) same y.from_here)

      go : ((next m : ℕ) → IsHopCount t next place.switch.0 m → m < n → IsHopCount t next place.switch.0 (length (rest next).channels)) → (((s == place.switch.0) ≡ true) × (s ≡ place.switch.0)) ⊎ (((s == place.switch.0) ≡ false) × (s ≢ place.switch.0)) → IsHopCount t s place.switch.0 (length (after_hop t rest (hop_by t lid s (entry e s lid))).channels)
      go more (inl same) = subst (λ hop. IsHopCount t s place.switch.0 (length (after_hop t rest hop).channels)) (sym (stops same.1)) (there same.1)
      go more (inr other) = on more other.1 (nearer.chosen s lid place.switch.0 (record { place = place; in_use = is; at_switch = refl; connected = (count, x.holds); other = other.1 }))

pub routes_are_shortest : NearerRoutesAreShortest
routes_are_shortest t e s lid place good nearer is c =
    let joined : AreConnected t s place.switch.0 = (let P : Place → Type 0 = λ q. AreConnected t s q.switch.0 in subst P (same_Some c.0 place (sym c.1 ∙ is)) c.2) in
    let count : (n : ℕ) × IsHopCount t s place.switch.0 n = connected_have_count t s place.switch.0 joined in
    within t e good nearer lid place is (length t.switches) s count.0 count.1 (hops_small t s place.switch.0 count.0 good (connected_below t good s lid c) count.1)

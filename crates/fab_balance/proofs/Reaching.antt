-- Tables that always go nearer reach.
use Rattle.std.proofs.Common.{◌≡◌, ◌≢◌, ℕ, suc, ◌⊎◌, inl, inr, refl, sym, ◌∙◌, subst, arith, Some}
use Rattle.std.proofs.lemmas.Bool.Decides.{eqb_tells}
use Rattle.std.proofs.lemmas.Option.{same_Some}
use Rattle.fab_model.specs.declared.rows.Place.{Place}
use Rattle.fab_model.specs.Topology.{Topology, place_of}
use Rattle.fab_model.specs.Connected.{AreConnected, IsConnectedTo}
use Rattle.fab_model.specs.WellFormed.{IsWellFormed}
use Rattle.fab_tables.specs.declared.end.End.TheVariants.{Delivered}
use Rattle.fab_tables.specs.Entries.{Entries, entry}
use Rattle.fab_tables.specs.Route.{hop_by}
use Rattle.fab_tables.specs.Route.Hop.{Stop}
use Rattle.fab_tables.proofs.Paths.FallingRoutes.{GoesNearer, falling_reaches, own_delivers, goes_along}
use Rattle.fab_hops.specs.HopCounts.{IsHopCount}
use Rattle.fab_hops.proofs.HopLaws.{one_hop_count}
use Rattle.fab_balance.specs.Eligible.{LeadsNearer}
use Rattle.fab_balance.specs.Laws.{AreNearerTables, NearerReaches}

module _ (t : Topology) (e : Entries) (good : IsWellFormed t) (nearer : AreNearerTables t e) (lid : ℕ) (place : Place) (is : place_of t lid ≡ Some place) where
  -- the measure of a switch is its hop count to the LID's switch
  abbrev Hops : ℕ → ℕ → Type 0
  Hops s n = IsHopCount t s place.switch.0 n

  goes : (s : ℕ) → IsConnectedTo t s lid → (hop_by t lid s (entry e s lid) ≡ Stop Delivered) ⊎ GoesNearer t e lid Hops s
  goes s c = elim (eqb_tells s place.switch.0) [
    | inl same ↦ inl (let P : ℕ → Type 0 = λ x. hop_by t lid x (entry e x lid) ≡ Stop Delivered in subst P (sym same.1) (own_delivers t e lid place good nearer.fixed is))
    | inr other ↦ inr (go other.1 (nearer.chosen s lid place.switch.0 (record { place = place; in_use = is; at_switch = refl; connected = connected; other = other.1 })))
  ]
    where
      connected : AreConnected t s place.switch.0
      connected = let P : Place → Type 0 = λ q. AreConnected t s q.switch.0 in subst P (same_Some c.0 place (sym c.1 ∙ is)) c.2

      go : s ≢ place.switch.0 → LeadsNearer t s place.switch.0 (entry e s lid) → GoesNearer t e lid Hops s
      go other x = (x.channel, suc x.hops, x.hops, goes_along t lid s (entry e s lid) x.channel place good is other x.leaves, (place, is, (x.hops, x.from_tip.holds)), x.from_here, x.from_tip, omega arith)

pub nearer_reaches : NearerReaches
nearer_reaches t e good nearer s lid c =
    falling_reaches t e lid (λ x n. IsHopCount t x c.0.switch.0 n) good
    (record { one = λ x m n. one_hop_count t x c.0.switch.0 m n; goes = goes t e good nearer lid c.0 c.1 }) s c

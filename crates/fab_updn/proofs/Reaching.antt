-- Up/down tables reach: from switch to switch the cost falls.
use Rattle.std.proofs.Common.{◌≡◌, ◌≢◌, ℕ, suc, ◌⊎◌, inl, inr, refl, sym, ◌∙◌, ap, subst, arith, List, Some}
use Rattle.std.proofs.lemmas.Bool.Decides.{eqb_tells}
use Rattle.std.proofs.lemmas.Option.{same_Some}
use Rattle.fab_model.specs.declared.rows.ChannelRow.{ChannelRow}
use Rattle.fab_model.specs.declared.rows.Place.{Place}
use Rattle.fab_model.specs.Topology.{Topology, place_of}
use Rattle.fab_model.specs.Connected.{AreConnected, IsConnectedTo}
use Rattle.fab_model.specs.WellFormed.{IsWellFormed}
use Rattle.fab_tables.specs.declared.end.End.TheVariants.{Delivered}
use Rattle.fab_tables.specs.Entries.{Entries, entry}
use Rattle.fab_tables.specs.Route.{hop_by, tip_of_row}
use Rattle.fab_tables.specs.Route.Hop.{Stop}
use Rattle.fab_tables.proofs.Paths.FallingRoutes.{GoesNearer, falling_reaches, own_delivers, goes_along, place_below, tip_connected}
use Rattle.fab_updn.specs.UpDown.{AreUpDownTables, IsAt, IsLegalPort}
use Rattle.fab_updn.specs.Laws.{UpDownReaches}
use Rattle.fab_updn.specs.Costs.{AreCosts}

module _ (t : Topology) (ranks : List ℕ) (e : Entries) (good : IsWellFormed t) (tables : AreUpDownTables t ranks e) (lid : ℕ) (place : Place) (is : place_of t lid ≡ Some place) where
  -- the measure of a switch is its cost
  abbrev Costs : ℕ → ℕ → Type 0
  Costs s n = tables.cost place.switch.0 s ≡ Some n

  -- along a channel to a switch of a cost less by one
  along : (s n : ℕ) (row : ChannelRow) → s ≢ place.switch.0 → AreConnected t s place.switch.0 → IsAt t s (entry e s lid) row → Costs s (suc n) → Costs row.tip.0 n → GoesNearer t e lid Costs s
  along s n row other joined at here there =
      let P : ℕ → Type 0 = λ x. Costs x n in (
        at.0,
        suc n,
        n,
        goes_along t lid s (entry e s lid) at.0 place good is other at.1,
        (place, is, tip_connected t good s (entry e s lid) at.0 place.switch.0 at.1 joined),
        here,
        subst P (sym (ap tip_of_row at.2)) there,
        omega arith,
      )

  by_port : (s : ℕ) → s ≢ place.switch.0 → AreConnected t s place.switch.0 → IsLegalPort t ranks (tables.cost place.switch.0) place.switch.0 s (entry e s lid) → GoesNearer t e lid Costs s
  by_port s other joined (inl down) = along s down.1 down.0 other joined down.2 (costs.down s (suc down.1) down.4) (costs.down down.0.tip.0 down.1 down.5)
    where
      costs : AreCosts t ranks place.switch.0 (tables.cost place.switch.0)
      costs = tables.costs place.switch.0 (place_below t good lid place is)
  by_port s other joined (inr up) = along s up.1 up.0 other joined up.2 up.5 up.6

  goes : (s : ℕ) → IsConnectedTo t s lid → (hop_by t lid s (entry e s lid) ≡ Stop Delivered) ⊎ GoesNearer t e lid Costs s
  goes s c = elim (eqb_tells s place.switch.0) [
    | inl same ↦ inl (let P : ℕ → Type 0 = λ x. hop_by t lid x (entry e x lid) ≡ Stop Delivered in subst P (sym same.1) (own_delivers t e lid place good tables.entries.fixed is))
    | inr other ↦ inr (by_port s other.1 joined (tables.entries.chosen s lid place.switch.0 (record { place = place; in_use = is; at_switch = refl; connected = joined; other = other.1 })).eligible)
  ]
    where
      joined : AreConnected t s place.switch.0
      joined = let P : Place → Type 0 = λ q. AreConnected t s q.switch.0 in subst P (same_Some c.0 place (sym c.1 ∙ is)) c.2

pub up_down_reaches : UpDownReaches
up_down_reaches t ranks e good tables s lid c =
    falling_reaches t e lid (λ x n. tables.cost c.0.switch.0 x ≡ Some n) good
    (record { one = λ x m n a b. same_Some m n (sym a ∙ b); goes = goes t ranks e good tables lid c.0 c.1 }) s c

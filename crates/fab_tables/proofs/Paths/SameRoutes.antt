-- Tables with the same entries for a LID have the same routes for it. It is enough that they are the same at the switches connected to
-- the LID, for the routes from those.
use Rattle.std.proofs.Common.{◌≡◌, ℕ, zero, suc, length, ◌∷◌, refl, sym, ◌∙◌, ap}
use Rattle.fab_model.specs.Topology.{Topology}
use Rattle.fab_model.specs.Connected.{IsConnectedTo}
use Rattle.fab_model.specs.WellFormed.{IsWellFormed}
use Rattle.fab_tables.specs.Entries.{Entries, entry}
use Rattle.fab_tables.specs.Route.{Route, Hop, hop_by, tip, after_hop, route_within, route}
use Rattle.fab_tables.specs.Route.Hop.{Along, Stop}
use Rattle.fab_tables.proofs.Paths.FallingRoutes.{tip_connected}
use Rattle.fab_tables.proofs.Paths.RouteTurns.{along_channel}

-- a channel before a route
abbrev along : ℕ → Route → Route
along c r = record { channels = c ∷ r.channels; end = r.end }

module _ (t : Topology) (e f : Entries) (lid : ℕ) (same : (s : ℕ) → entry e s lid ≡ entry f s lid) where
  pub routes_within_same : (n s : ℕ) → route_within t e lid n s ≡ route_within t f lid n s
  routes_within_same zero s = refl
  routes_within_same (suc n) s =
      ap (λ port. after_hop t (λ next. route_within t e lid n next) (hop_by t lid s port)) (same s) ∙ go (hop_by t lid s (entry f s lid)) (λ next. routes_within_same n next)
    where
      go : (hop : Hop) → ((next : ℕ) → route_within t e lid n next ≡ route_within t f lid n next) →
          after_hop t (λ next. route_within t e lid n next) hop ≡ after_hop t (λ next. route_within t f lid n next) hop
      go (Stop x) rest = refl
      go (Along c) rest = ap (along c) (rest (tip t c))

  pub routes_same : (s : ℕ) → route t e s lid ≡ route t f s lid
  routes_same s = routes_within_same (length t.switches) s

module _ (t : Topology) (e f : Entries) (lid : ℕ) (good : IsWellFormed t) (same : (s : ℕ) → IsConnectedTo t s lid → entry e s lid ≡ entry f s lid) where
  pub connected_within_same : (n s : ℕ) → IsConnectedTo t s lid → route_within t e lid n s ≡ route_within t f lid n s
  connected_within_same zero s c = refl
  connected_within_same (suc n) s c = go (λ x k. connected_within_same n x k) (hop_by t lid s (entry e s lid)) refl
    where
      go : ((x : ℕ) → IsConnectedTo t x lid → route_within t e lid n x ≡ route_within t f lid n x) → (h : Hop) → hop_by t lid s (entry e s lid) ≡ h →
          after_hop t (λ x. route_within t e lid n x) (hop_by t lid s (entry e s lid)) ≡ after_hop t (λ x. route_within t f lid n x) (hop_by t lid s (entry f s lid))
      go more (Stop end) is =
          ap (after_hop t (λ x. route_within t e lid n x)) is
          ∙ sym (ap (after_hop t (λ x. route_within t f lid n x)) (ap (hop_by t lid s) (sym (same s c)) ∙ is))
      go more (Along d) is =
          ap (after_hop t (λ x. route_within t e lid n x)) is
          ∙ ap (along d)
          (more (tip t d) (c.0, c.1, tip_connected t good s (entry e s lid) d c.0.switch.0 (along_channel t lid s (entry e s lid) d is) c.2))
          ∙ sym (ap (after_hop t (λ x. route_within t f lid n x)) (ap (hop_by t lid s) (sym (same s c)) ∙ is))

  pub connected_routes_same : (s : ℕ) → IsConnectedTo t s lid → route t e s lid ≡ route t f s lid
  connected_routes_same s c = connected_within_same (length t.switches) s c

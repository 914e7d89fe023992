-- The delivered routes to a LID are ways: each is empty, or a channel and the way of its tip.
use Rattle.std.proofs.Common.{◌≡◌, ◌≢◌, ℕ, ◌⊎◌, inl, inr, Bool, true, false, List, [], ◌∷◌, refl, sym, ◌∙◌, ap}
use Rattle.std.specs.Prelude.{◌==◌, ◌&&◌, if◌then◌else◌}
use Rattle.std.specs.List.{list_any}
use Rattle.fab_model.specs.Topology.{Topology}
use Rattle.fab_model.specs.WellFormed.{IsWellFormed}
use Rattle.fab_tables.specs.declared.end.End.{End}
use Rattle.fab_tables.specs.declared.end.End.TheVariants.{Delivered, NoEntry, DeadPort, Astray, Loop}
use Rattle.fab_tables.specs.Entries.{Entries}
use Rattle.fab_tables.specs.Route.{tip, route}
use Rattle.fab_tables.proofs.Paths.Carried.{AreWays}
use Rattle.fab_tables.proofs.Paths.Routes.{delivered_or_not}
use Rattle.fab_report.specs.Loads.{is_delivered, is_loaded_by}
use Rattle.fab_report.specs.Order.{way}
use Rattle.fab_report.proofs.Carrying.WalkedRoutes.{goes_after}

not_delivered : (x : End) → x ≢ Delivered → is_delivered x ≡ false
not_delivered Delivered other = absurd (other refl)
not_delivered NoEntry other = refl
not_delivered DeadPort other = refl
not_delivered Astray other = refl
not_delivered Loop other = refl

module _ (t : Topology) (e : Entries) (lid : ℕ) where
  pub way_delivered : (s : ℕ) → (route t e s lid).end ≡ Delivered → way t e lid s ≡ (route t e s lid).channels
  way_delivered s d = ap (λ (x : End). if is_delivered x then (route t e s lid).channels else []) d

  pub way_lost : (s : ℕ) → (route t e s lid).end ≢ Delivered → way t e lid s ≡ []
  way_lost s other = ap (λ (b : Bool). if b then (route t e s lid).channels else []) (not_delivered (route t e s lid).end other)

  pub way_goes : IsWellFormed t → (s c : ℕ) (cs : List ℕ) → (route t e s lid).end ≡ Delivered → (route t e s lid).channels ≡ c ∷ cs → way t e lid s ≡ c ∷ way t e lid (tip t c)
  way_goes good s c cs d is =
      let on = goes_after t e lid good s (c ∷ []) cs d is in
      way_delivered s d ∙ is ∙ ap (λ xs. c ∷ xs) (sym on.1 ∙ sym (way_delivered (tip t c) on.0))

  pub are_ways : IsWellFormed t → AreWays (tip t) (way t e lid)
  are_ways good s = elim (delivered_or_not (route t e s lid).end) [
    | inl d ↦ go d (route t e s lid).channels refl
    | inr other ↦ inl (way_lost s other)
  ]
    where
      go : (route t e s lid).end ≡ Delivered → (cs : List ℕ) → (route t e s lid).channels ≡ cs → (way t e lid s ≡ []) ⊎ ((c : ℕ) × (way t e lid s ≡ c ∷ way t e lid (tip t c)))
      go d [] is = inl (way_delivered s d ∙ is)
      go d (c ∷ cs) is = inr (c, way_goes good s c cs d is)

  -- a way contains what a delivered route does
  pub loaded_as_route : (s channel : ℕ) → list_any (λ c. c == channel) (way t e lid s) ≡ is_loaded_by channel (route t e s lid)
  loaded_as_route s channel = go (is_delivered (route t e s lid).end)
    where
      go : (b : Bool) → list_any (λ c. c == channel) (if b then (route t e s lid).channels else []) ≡ (b && list_any (λ c. c == channel) (route t e s lid).channels)
      go true = refl
      go false = refl

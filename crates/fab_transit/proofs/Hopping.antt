-- The first channel of a route, or its end, is what the entry of its first switch says.
use Rattle.std.proofs.Common.{◌≡◌, ℕ, suc, ◌-◌, ◌<◌, [], ◌∷◌, List, length, Some, None, refl, sym, ◌∙◌, ap, arith}
use Rattle.fab_model.specs.declared.rows.ChannelId.{ChannelId}
use Rattle.fab_model.specs.Topology.{Topology}
use Rattle.fab_tables.specs.Entries.{Entries, entry}
use Rattle.fab_tables.specs.Route.{Route, Hop, hop_by, after_hop, route, route_within}
use Rattle.fab_tables.specs.Route.Hop.{Along, Stop}
use Rattle.fab_tables.specs.Ahead.{Ahead, StepsTo, end_told}

module _ (t : Topology) (e : Entries) (lid s : ℕ) (some : 0 < length t.switches) where
  abbrev rest : ℕ → Route
  rest next = route_within t e lid (length t.switches - 1) next

  opened : route t e s lid ≡ after_hop t rest (hop_by t lid s (entry e s lid))
  opened = ap (λ n. route_within t e lid n s) is
    where
      is : length t.switches ≡ suc (length t.switches - 1)
      is = omega arith

  pub first_along : (c : ChannelId) (a new : Ahead) → a.channels ≡ (route t e s lid).channels → StepsTo a (Some c) new → hop_by t lid s (entry e s lid) ≡ Along c.0
  first_along c a new is steps = by_hop (hop_by t lid s (entry e s lid)) refl
    where
      begins : (h : Hop) → hop_by t lid s (entry e s lid) ≡ h → c.0 ∷ new.channels ≡ (after_hop t rest h).channels
      begins h x = sym steps.0 ∙ is ∙ ap (λ (r : Route). r.channels) opened ∙ ap (λ h. (after_hop t rest h).channels) x

      same_head : (d : ℕ) (ds : List ℕ) → c.0 ∷ new.channels ≡ d ∷ ds → d ≡ c.0
      same_head d ds x = cc

      no_head : c.0 ∷ new.channels ≡ [] → ⊥
      no_head x = cc

      by_hop : (h : Hop) → hop_by t lid s (entry e s lid) ≡ h → h ≡ Along c.0
      by_hop (Along d) x = ap Along (same_head d _ (begins (Along d) x))
      by_hop (Stop end) x = absurd (no_head (begins (Stop end) x))

  pub first_stop : (a new : Ahead) → a.channels ≡ (route t e s lid).channels → a.end ≡ (route t e s lid).end → StepsTo a None new → hop_by t lid s (entry e s lid) ≡ Stop a.end
  first_stop a new is ends steps = by_hop (hop_by t lid s (entry e s lid)) refl
    where
      nothing : (h : Hop) → hop_by t lid s (entry e s lid) ≡ h → [] ≡ (after_hop t rest h).channels
      nothing h x = sym steps.0 ∙ is ∙ ap (λ (r : Route). r.channels) opened ∙ ap (λ h. (after_hop t rest h).channels) x

      end_is : (h : Hop) → hop_by t lid s (entry e s lid) ≡ h → a.end ≡ (after_hop t rest h).end
      end_is h x = ends ∙ ap (λ (r : Route). r.end) opened ∙ ap (λ h. (after_hop t rest h).end) x

      no_head : (d : ℕ) (ds : List ℕ) → [] ≡ d ∷ ds → ⊥
      no_head d ds x = cc

      by_hop : (h : Hop) → hop_by t lid s (entry e s lid) ≡ h → h ≡ Stop a.end
      by_hop (Along d) x = absurd (no_head d _ (nothing (Along d) x))
      by_hop (Stop end) x = ap Stop (sym (end_is (Stop end) x))

  -- it is told once the iterator has answered None
  pub told : (a new : Ahead) → StepsTo a None new → end_told new ≡ Some a.end
  told a new steps = ap end_told steps.1

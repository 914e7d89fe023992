-- The first channel of a path is the one at the port of its switch's entry.
use Rattle.std.proofs.Common.{◌≡◌, ◌≢◌, ℕ, zero, suc, ◌<◌, ◌⊎◌, Bool, true, false, List, [], ◌∷◌, length, refl, sym, ◌∙◌, ap, subst, arith, Some, None, Option, option_map, position, find, Contains, cond, ◌&&◌}
use Rattle.std.specs.Prelude.{slice_get, ◌==◌, if◌then◌else◌, All}
use Rattle.std.specs.Option.{option_or}
use Rattle.std.proofs.lemmas.Bool.{ne_eqb, eqb-true, both_ways}
use Rattle.std.proofs.lemmas.List.Elements.{All-contains}
use Rattle.std.proofs.lemmas.Option.{same_Some, none-some}
use Rattle.fab_model.specs.declared.rows.ChannelRow.{ChannelRow}
use Rattle.fab_model.specs.declared.rows.TerminalRow.{TerminalRow}
use Rattle.fab_model.specs.Topology.{Topology, switch_id, ports_of, place_of, channel_at}
use Rattle.fab_model.specs.WellFormed.{IsWellFormed, IsPort}
use Rattle.fab_model.proofs.Channels.{contains_read}
use Rattle.fab_model.proofs.Finds.{channels_are_found}
use Rattle.fab_tables.specs.declared.end.End.TheVariants.{Delivered, NoEntry}
use Rattle.fab_tables.specs.Entries.{Entries, entry}
use Rattle.fab_tables.specs.Route.{Hop, Route, hop_by, is_place, along_or_stop, after_hop, tip, route_within, route}
use Rattle.fab_tables.specs.Route.Hop.{Along, Stop}
use Rattle.fab_tables.proofs.Paths.FallingRoutes.{channel_found, channel_port_small}
use Rattle.fab_tables.proofs.Paths.RouteTurns.{along_channel, first_hop}

not_both : (a b : Bool) → (a ≡ true → b ≡ true → ⊥) → (a && b) ≡ false
not_both true true apart = absurd (apart refl refl)
not_both true false apart = refl
not_both false b apart = refl

-- what is found is an element
found_is_in : {X : Type 0} (p : X → Bool) (xs : List X) (x : X) → find p xs ≡ Some x → Contains xs x
found_is_in p [] x e = absurd (none-some x e)
found_is_in {X} p (y ∷ ys) x e = here_or_there (found_is_in p ys x) (p y) e
  where
    here_or_there : (find p ys ≡ Some x → Contains ys x) → (b : Bool) → cond b (Some y) (find p ys) ≡ Some x → Contains (y ∷ ys) x
    here_or_there rest true is = (0, omega arith, same_Some y x is)
    here_or_there rest false is = let there : Contains ys x = rest is in (suc there.0, omega (arith, there.1), there.2)

goes_on : (b c : Bool) (rest : Hop) → b ≡ false → c ≡ false → (if b then Stop NoEntry else if c then Stop Delivered else rest) ≡ rest
goes_on true c rest x y = cc
goes_on false true rest x y = cc
goes_on false false rest x y = refl

-- what a row tells of the first channel of a path
pub told_by_row : (t : Topology) (e : Entries) (s lid c : ℕ) (row : ChannelRow) → slice_get t.channels c ≡ Some row → slice_get (route t e s lid).channels 0 ≡ Some c →
    (row.tail.0 ≡ s) × (row.port ≡ entry e s lid)
told_by_row t e s lid c row is at =
    let found : (r : ChannelRow) × (c < length t.channels) × (slice_get t.channels c ≡ Some r) × (r.tail.0 ≡ s) × (r.port ≡ entry e s lid) =
    channel_found t s (entry e s lid) c (along_channel t lid s (entry e s lid) c (first_hop t e lid (length t.switches) s c at)) in
    let same : row ≡ found.0 = same_Some row found.0 (sym is ∙ found.2) in
    (ap (λ (r : ChannelRow). r.tail.0) same ∙ found.3, ap (λ (r : ChannelRow). r.port) same ∙ found.4)

module _ (t : Topology) (good : IsWellFormed t) (c : ℕ) (row : ChannelRow) (is : slice_get t.channels c ≡ Some row) where
  has : Contains t.channels row
  has = contains_read t.channels c row is

  some_port : 0 < row.port
  some_port = (All-contains (λ (r : ChannelRow). IsPort (ports_of t r.tail.0) r.port) t.channels row good.channel_ports has).0

  -- no LID is at the port of a channel
  apart_from : (r : TerminalRow) → Contains t.terminals r → row.tail.0 ≡ r.switch.0 → row.port ≢ r.port
  apart_from r there =
      All-contains (λ (x : ChannelRow). x.tail.0 ≡ r.switch.0 → x.port ≢ r.port) t.channels row
      (All-contains (λ (y : TerminalRow). All (λ (x : ChannelRow). x.tail.0 ≡ y.switch.0 → x.port ≢ y.port) t.channels) t.terminals r good.no_channel_there there) has

  no_place : (lid : ℕ) → is_place (place_of t lid) row.tail.0 row.port ≡ false
  no_place lid = by_kind (position (λ x. x.lid.0 == lid) t.switches) (find (λ x. x.lid.0 == lid) t.terminals) (λ r found. apart_from r (found_is_in (λ x. x.lid.0 == lid) t.terminals r found))
    where
      by_kind : (o : Option ℕ) (p : Option TerminalRow) → ((r : TerminalRow) → p ≡ Some r → row.tail.0 ≡ r.switch.0 → row.port ≢ r.port) →
          is_place (option_or (option_map (λ number. record { switch = switch_id number; port = 0 }) o) (option_map (λ r. record { switch = r.switch; port = r.port }) p)) row.tail.0 row.port ≡ false
      by_kind (Some n) p apart = not_both ((switch_id n).0 == row.tail.0) (0 == row.port) (λ a b. omega (arith, some_port, eqb-true 0 row.port b))
      by_kind None (Some r) apart = not_both (r.switch.0 == row.tail.0) (r.port == row.port) (λ a b. apart r refl (sym (eqb-true r.switch.0 row.tail.0 a)) (sym (eqb-true r.port row.port b)))
      by_kind None None apart = refl

  leads_along : (lid : ℕ) → hop_by t lid row.tail.0 row.port ≡ Along c
  leads_along lid =
      let at : channel_at t row.tail.0 row.port ≡ Some c = channels_are_found t c row good is in
      goes_on (row.port == 255) (is_place (place_of t lid) row.tail.0 row.port) (along_or_stop t row.tail.0 row.port (channel_at t row.tail.0 row.port))
      (ne_eqb row.port 255 (λ same. omega (arith, same, channel_port_small t good row.tail.0 row.port c at))) (no_place lid)
      ∙ ap (λ o. along_or_stop t row.tail.0 row.port o) at

  -- a path whose switch's entry is the channel's port begins with the channel
  pub begins_by_port : (e : Entries) (lid : ℕ) → entry e row.tail.0 lid ≡ row.port → slice_get (route t e row.tail.0 lid).channels 0 ≡ Some c
  begins_by_port e lid same = within (length t.switches) good.some_switch
    where
      along : hop_by t lid row.tail.0 (entry e row.tail.0 lid) ≡ Along c
      along = ap (λ port. hop_by t lid row.tail.0 port) same ∙ leads_along lid

      within : (n : ℕ) → 0 < n → slice_get (route_within t e lid n row.tail.0).channels 0 ≡ Some c
      within zero some = absurd (omega (arith, some))
      within (suc n) some = ap (λ h. slice_get (after_hop t (λ next. route_within t e lid n next) h).channels 0) along

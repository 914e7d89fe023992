-- The channels of a DOR route are the same for all LIDs of a switch.
use Rattle.std.proofs.Common.{◌≡◌, ◌≢◌, ℕ, zero, suc, inl, inr, true, false, ◌∷◌, length, refl, sym, ◌∙◌, ap, subst, Some, Bool}
use Rattle.std.specs.Prelude.{◌==◌, ◌&&◌, if◌then◌else◌}
use Rattle.std.proofs.lemmas.Bool.{cases_eq, ne_eqb}
use Rattle.std.proofs.lemmas.Bool.Decides.{eqb_tells}
use Rattle.fab_graph.proofs.Graphs.{one_least}
use Rattle.fab_model.specs.declared.rows.Place.{Place}
use Rattle.fab_model.specs.Topology.{Topology, place_of, channel_at}
use Rattle.fab_model.specs.Connected.{AreConnected, IsConnectedTo}
use Rattle.fab_model.specs.WellFormed.{IsWellFormed}
use Rattle.std.proofs.lemmas.Option.{same_Some}
use Rattle.fab_tables.specs.Entries.{Entries, entry}
use Rattle.fab_tables.specs.declared.end.End.TheVariants.{Delivered, NoEntry}
use Rattle.fab_tables.specs.Route.{Hop, hop_by, is_place, along_or_stop, tip, after_hop, route_within}
use Rattle.fab_tables.specs.Route.Hop.{Along, Stop}
use Rattle.fab_tables.proofs.Paths.FallingRoutes.{own_delivers}
use Rattle.fab_balance.specs.Eligible.{LeadsNearer}
use Rattle.fab_balance.specs.MinHop.{AreDorTables}
use Rattle.fab_balance.specs.Laws.{DorRoutesGoBySwitch}

-- where the port is no LID's place, a hop goes by the channel alone
no_place : (t : Topology) (lid s port : ℕ) (place : Place) → place_of t lid ≡ Some place → s ≢ place.switch.0 →
    hop_by t lid s port ≡ (if port == 255 then Stop NoEntry else along_or_stop t s port (channel_at t s port))
no_place t lid s port place is other = go (port == 255) (is_place (place_of t lid) s port) elsewhere
  where
    first_not : (a b : Bool) → a ≡ false → (a && b) ≡ false
    first_not true b x = cc
    first_not false b x = refl

    elsewhere : is_place (place_of t lid) s port ≡ false
    elsewhere = ap (λ o. is_place o s port) is ∙ first_not (place.switch.0 == s) (place.port == port) (ne_eqb place.switch.0 s (λ same. other (sym same)))

    go : (a b : Bool) → b ≡ false →
        (if a then Stop NoEntry else if b then Stop Delivered else along_or_stop t s port (channel_at t s port)) ≡ (if a then Stop NoEntry else along_or_stop t s port (channel_at t s port))
    go true b x = refl
    go false true x = cc
    go false false x = refl

module _ (t : Topology) (e : Entries) (good : IsWellFormed t) (dor : AreDorTables t e) (lid other : ℕ) (place another : Place)
    (is : place_of t lid ≡ Some place) (also : place_of t other ≡ Some another) (one_switch : place.switch.0 ≡ another.switch.0) where
  where_connected : (s : ℕ) → s ≢ place.switch.0 → AreConnected t s place.switch.0 → entry e s lid ≡ entry e s other
  where_connected s apart joined =
      one_least (λ p. LeadsNearer t s place.switch.0 p) (entry e s lid) (entry e s other)
      (dor.chosen s lid place.switch.0 (record { place = place; in_use = is; at_switch = refl; connected = joined; other = apart }))
      (dor.chosen s other place.switch.0 (record { place = another; in_use = also; at_switch = sym one_switch; connected = joined; other = apart }))

  -- the LID's place is the one that it has
  joined_to : (s n : ℕ) (q p : Place) → place_of t n ≡ Some q → place_of t n ≡ Some p → AreConnected t s q.switch.0 → AreConnected t s p.switch.0
  joined_to s n q p a b joined = let P : Place → Type 0 = λ z. AreConnected t s z.switch.0 in subst P (same_Some q p (sym a ∙ b)) joined

  same_entry : (s : ℕ) → s ≢ place.switch.0 → entry e s lid ≡ entry e s other
  same_entry s apart = elim (cases_eq (entry e s lid) (entry e s other)) [
    | inl same ↦ same
    | inr differ ↦
        (let none : ¬ IsConnectedTo t s lid = λ c. differ (where_connected s apart (joined_to s lid c.0 place c.1 is c.2)) in
        let nor : ¬ IsConnectedTo t s other =
        λ c. differ (where_connected s apart (subst (λ z. AreConnected t s z) (sym one_switch) (joined_to s other c.0 another c.1 also c.2))) in
        absurd (differ (dor.fixed.apart s lid none ∙ sym (dor.fixed.apart s other nor))))
  ]

  same_hop : (s : ℕ) → hop_by t lid s (entry e s lid) ≡ hop_by t other s (entry e s other)
  same_hop s = elim (eqb_tells s place.switch.0) [
    | inl same ↦
        subst (λ z. hop_by t lid z (entry e z lid) ≡ Stop Delivered) (sym same.1) (own_delivers t e lid place good dor.fixed is)
        ∙ sym (subst (λ z. hop_by t other z (entry e z other) ≡ Stop Delivered) (sym (same.1 ∙ one_switch)) (own_delivers t e other another good dor.fixed also))
    | inr apart ↦
        no_place t lid s (entry e s lid) place is apart.1
        ∙ ap (λ port. if port == 255 then Stop NoEntry else along_or_stop t s port (channel_at t s port)) (same_entry s apart.1)
        ∙ sym (no_place t other s (entry e s other) another also (λ same. apart.1 (same ∙ sym one_switch)))
  ]

  within : (n s : ℕ) → (route_within t e lid n s).channels ≡ (route_within t e other n s).channels
  within zero s = refl
  within (suc n) s =
      ap (λ hop. (after_hop t (λ next. route_within t e lid n next) hop).channels) (same_hop s) ∙ go (hop_by t other s (entry e s other)) (λ next. within n next)
    where
      go : (hop : Hop) → ((next : ℕ) → (route_within t e lid n next).channels ≡ (route_within t e other n next).channels) →
          (after_hop t (λ next. route_within t e lid n next) hop).channels ≡ (after_hop t (λ next. route_within t e other n next) hop).channels
      go (Stop x) rest = refl
      go (Along c) rest = ap (λ cs. c ∷ cs) (rest (tip t c))

pub routes_go_by_switch : DorRoutesGoBySwitch
routes_go_by_switch t e s lid other place another good dor is also one_switch = within t e good dor lid other place another is also one_switch (length t.switches) s

-- A route that went down doesn't go up again.
use Rattle.std.proofs.Common.{◌≡◌, ◌≢◌, ℕ, ◌<◌, ◌⊎◌, inl, inr, refl, sym, ◌∙◌, ap, subst, arith, List, length, Some, slice_get}
use Rattle.std.proofs.lemmas.Option.{same_Some}
use Rattle.fab_model.specs.declared.rows.ChannelRow.{ChannelRow}
use Rattle.fab_model.specs.declared.rows.Place.{Place}
use Rattle.fab_model.specs.Topology.{Topology, place_of, switch_id}
use Rattle.fab_model.specs.Connected.{AreConnected, IsConnectedTo}
use Rattle.fab_model.specs.WellFormed.{IsWellFormed}
use Rattle.fab_tables.specs.declared.end.End.TheVariants.{Delivered}
use Rattle.fab_tables.specs.Entries.{Entries, entry}
use Rattle.fab_tables.specs.Route.{hop_by, tip_of_row, tip, route}
use Rattle.fab_tables.specs.Route.Hop.{Along, Stop}
use Rattle.fab_tables.proofs.Paths.FallingRoutes.{own_delivers, tip_connected, channel_found}
use Rattle.fab_tables.proofs.Paths.RouteTurns.{along_channel, TurnsAt, follow_turns}
use Rattle.fab_tables.specs.VirtualChannels.{Follow}
use Rattle.fab_updn.specs.Ranks.{HasSmallerKey, GoesUp, GoesDown}
use Rattle.fab_updn.specs.Costs.{IsDown, LeadsDown}
use Rattle.fab_updn.specs.UpDown.{AreUpDownTables, IsAt, IsLegalPort}
use Rattle.fab_updn.specs.Laws.{NoDownThenUp, IsLegalTurn}
use Rattle.fab_updn.proofs.Turns.{up_or_down}
use Rattle.fab_updn.proofs.Sequences.{key-self}

module _ (t : Topology) (ranks : List ℕ) (e : Entries) (good : IsWellFormed t) (tables : AreUpDownTables t ranks e) (lid : ℕ) (place : Place) (is : place_of t lid ≡ Some place) where
  -- the switch is connected to the LID's switch
  abbrev Joined : ℕ → Type 0
  Joined s = AreConnected t s place.switch.0

  keeps : (x c : ℕ) → Joined x → hop_by t lid x (entry e x lid) ≡ Along c → Joined (tip t c)
  keeps x c joined along = tip_connected t good x (entry e x lid) c place.switch.0 (along_channel t lid x (entry e x lid) c along) joined

  -- a switch whose entry goes along a channel isn't the LID's
  is_other : (x c : ℕ) → hop_by t lid x (entry e x lid) ≡ Along c → x ≢ place.switch.0
  is_other x c along same =
      let P : ℕ → Type 0 = λ y. hop_by t lid y (entry e y lid) ≡ Along c in
      let stops : Stop Delivered ≡ Along c = sym (own_delivers t e lid place good tables.entries.fixed is) ∙ subst P same along in
      stop_is_not_along stops
    where
      stop_is_not_along : Stop Delivered ≡ Along c → ⊥
      stop_is_not_along z = cc

  legal : (x c : ℕ) → Joined x → hop_by t lid x (entry e x lid) ≡ Along c → IsLegalPort t ranks (tables.cost place.switch.0) place.switch.0 x (entry e x lid)
  legal x c joined along =
      (tables.entries.chosen x lid place.switch.0 (record { place = place; in_use = is; at_switch = refl; connected = joined; other = is_other x c along })).eligible

  same_row : (x c : ℕ) (row other : ChannelRow) → hop_by t lid x (entry e x lid) ≡ Along c → slice_get t.channels c ≡ Some row → IsAt t x (entry e x lid) other → other ≡ row
  same_row x c row other along has at =
      let same : at.0 ≡ c = same_Some at.0 c (sym at.1 ∙ along_channel t lid x (entry e x lid) c along) in
      same_Some other row (sym at.2 ∙ ap (λ k. slice_get t.channels k) same ∙ has)

  -- where a channel goes down, a down walk leads on from its tip
  leads_on : (x c : ℕ) (row : ChannelRow) → Joined x → hop_by t lid x (entry e x lid) ≡ Along c → slice_get t.channels c ≡ Some row → GoesDown ranks row → LeadsDown t ranks place.switch.0 row.tip.0
  leads_on x c row joined along has down = go (legal x c joined along)
    where
      go : IsLegalPort t ranks (tables.cost place.switch.0) place.switch.0 x (entry e x lid) → LeadsDown t ranks place.switch.0 row.tip.0
      go (inl p) = let P : ChannelRow → Type 0 = λ r. LeadsDown t ranks place.switch.0 r.tip.0 in subst P (same_row x c row p.0 along has p.2) (p.1, p.5.holds)
      go (inr p) = let P : ChannelRow → Type 0 = λ r. GoesUp ranks r in absurd (down (subst P (same_row x c row p.0 along has p.2) p.3))

  -- and where one leads on, the channel goes down
  goes_down : (x d : ℕ) (next : ChannelRow) → Joined x → hop_by t lid x (entry e x lid) ≡ Along d → slice_get t.channels d ≡ Some next → LeadsDown t ranks place.switch.0 x → GoesDown ranks next
  goes_down x d next joined along has leads = go (legal x d joined along)
    where
      go : IsLegalPort t ranks (tables.cost place.switch.0) place.switch.0 x (entry e x lid) → GoesDown ranks next
      go (inl p) = let P : ChannelRow → Type 0 = λ r. GoesDown ranks r in subst P (same_row x d next p.0 along has p.2) p.3
      go (inr p) = absurd (p.4 leads)

  down_again : (s c d : ℕ) (row next : ChannelRow) → slice_get t.channels c ≡ Some row → slice_get t.channels d ≡ Some next → GoesDown ranks row →
      TurnsAt t e lid Joined c d → GoesDown ranks next
  down_again s c d row next has_c has_d down turn =
      let P : ℕ → Type 0 = λ x. LeadsDown t ranks place.switch.0 x in
      goes_down (tip t c) d next (keeps turn.0 c turn.1 turn.2) turn.3 has_d (subst P (sym (ap tip_of_row has_c)) (leads_on turn.0 c row turn.1 turn.2 has_c down))

  -- a channel of a route leads to another switch
  not_own : (x c : ℕ) (row : ChannelRow) → Joined x → hop_by t lid x (entry e x lid) ≡ Along c → slice_get t.channels c ≡ Some row → row.tail.0 ≡ x → row.tail.0 ≡ row.tip.0 → ⊥
  not_own x c row joined along has tail own = go (legal x c joined along)
    where
      go : IsLegalPort t ranks (tables.cost place.switch.0) place.switch.0 x (entry e x lid) → ⊥
      go (inl p) =
          let there : p.0.tip.0 ≡ x = ap (λ (r : ChannelRow). r.tip.0) (same_row x c row p.0 along has p.2) ∙ sym own ∙ tail in
          let again : IsDown t ranks place.switch.0 x p.1 = subst (λ y. IsDown t ranks place.switch.0 y p.1) there p.5 in
          omega (arith, p.4.least p.1 again.holds)
      go (inr p) =
          let up : GoesUp ranks row = subst (λ r. GoesUp ranks r) (same_row x c row p.0 along has p.2) p.3 in
          key-self ranks row.tail.0 (subst (λ y. HasSmallerKey ranks y row.tail.0) (sym own) up)

  legal_turn : (s c d : ℕ) → TurnsAt t e lid Joined c d → IsLegalTurn t ranks c d
  legal_turn s c d turn = (first.0, second.0, first.2, second.2, meets, own, next_own, either (up_or_down t ranks first.0 own))
    where
      first : (row : ChannelRow) × (c < length t.channels) × (slice_get t.channels c ≡ Some row) × (row.tail.0 ≡ turn.0) × (row.port ≡ entry e turn.0 lid)
      first = channel_found t turn.0 (entry e turn.0 lid) c (along_channel t lid turn.0 (entry e turn.0 lid) c turn.2)

      second : (row : ChannelRow) × (d < length t.channels) × (slice_get t.channels d ≡ Some row) × (row.tail.0 ≡ tip t c) × (row.port ≡ entry e (tip t c) lid)
      second = channel_found t (tip t c) (entry e (tip t c) lid) d (along_channel t lid (tip t c) (entry e (tip t c) lid) d turn.3)

      meets : first.0.tip ≡ second.0.tail
      meets = ap (λ (n : ℕ). switch_id n) (sym (ap tip_of_row first.2) ∙ sym second.3)

      own : first.0.tail.0 ≡ first.0.tip.0 → ⊥
      own = not_own turn.0 c first.0 turn.1 turn.2 first.2 first.3

      next_own : second.0.tail.0 ≡ second.0.tip.0 → ⊥
      next_own = not_own (tip t c) d second.0 (keeps turn.0 c turn.1 turn.2) turn.3 second.2 second.3

      either : GoesUp ranks first.0 ⊎ (GoesDown ranks first.0 × HasSmallerKey ranks first.0.tail.0 first.0.tip.0) → GoesUp ranks first.0 ⊎ GoesDown ranks second.0
      either (inl up) = inl up
      either (inr down) = inr (down_again s c d first.0 second.0 first.2 second.2 down.0 turn)

pub no_down_then_up : NoDownThenUp
no_down_then_up t ranks e s lid c d row next good tables joined follow has_c has_d down =
    down_again t ranks e good tables lid joined.0 joined.1 s c d row next has_c has_d down
    (follow_turns t e lid (λ x. AreConnected t x joined.0.switch.0) (keeps t ranks e good tables lid joined.0 joined.1) s c d joined.2 follow)

-- channels that follow each other on a route make a legal turn
pub follow_legally : (t : Topology) (ranks : List ℕ) (e : Entries) (s lid c d : ℕ) → IsWellFormed t → AreUpDownTables t ranks e → IsConnectedTo t s lid → Follow (route t e s lid).channels c d → IsLegalTurn t ranks c d
follow_legally t ranks e s lid c d good tables joined follow =
    legal_turn t ranks e good tables lid joined.0 joined.1 s c d
    (follow_turns t e lid (λ x. AreConnected t x joined.0.switch.0) (keeps t ranks e good tables lid joined.0 joined.1) s c d joined.2 follow)

-- Worked verdicts on the three switches in a row.
use Rattle.std.proofs.Common.{◌≡◌, ℕ, zero, suc, ◌<◌, List, [], ◌∷◌, refl, sym, ◌∙◌, ap, subst, arith, Some, None, Option, ◌⊎◌, inl, inr}
use Rattle.std.specs.Prelude.{unwrap_or, option_map, Contains, slice_get, slice_index_or, Bool, true, false, ◌||◌, eqb}
use Rattle.std.proofs.lemmas.Bool.{ne_eqb}
use Rattle.fab_model.specs.declared.rows.Place.{Place}
use Rattle.fab_model.specs.declared.rows.ChannelRow.{ChannelRow}
use Rattle.fab_model.specs.declared.rows.TerminalRow.{TerminalRow}
use Rattle.fab_model.specs.Topology.{place_of}
use Rattle.fab_graph.specs.Walks.{Walk}
use Rattle.fab_model.specs.Connected.{LeadsTo, IsConnectedTo}
use Rattle.fab_tables.specs.declared.end.End.TheVariants.{Delivered, Loop}
use Rattle.fab_tables.specs.declared.verdict.VirtualChannel.{VirtualChannel}
use Rattle.fab_tables.specs.declared.verdict.Verdict.{Verdict}
use Rattle.fab_tables.specs.declared.verdict.Verdict.TheVariants.{Routes, Lanes, Unreached, NoLevel, BadLane, NoNumber, NotRising}
use Rattle.fab_tables.specs.Entries.{with_entry}
use Rattle.fab_tables.specs.LaneTables.{level}
use Rattle.fab_tables.specs.Fit.{IsSource}
use Rattle.fab_tables.specs.Route.{route}
use Rattle.fab_tables.specs.VirtualChannels.{virtual_channel, virtual_channels}
use Rattle.fab_tables.specs.Certified.{number_of}
use Rattle.fab_tables.specs.First.{IsBefore}
use Rattle.fab_tables.specs.Verdicts.{IsLaneFaultAt, IsFaultAt, IsHop, IsVerdict}
use Rattle.fab_tables.specs.Plain.{plain_channels}
use Rattle.fab_tables.specs.PlainVerdicts.{IsPlainHop, IsPlainFaultAt, IsPlainVerdict}
use Rattle.fab_tables.proofs.Examples.Fabrics.{l3, l3_entries, stub, stub_entries, terminal}
use Rattle.fab_tables.proofs.Verdicts.PlainVerdicts.{plain_verdict_agrees}
use Rattle.fab_tables.proofs.Examples.Channels.{l3_lanes, with_numbers, path_to_3, not_rising}

abbrev place_switch : Option Place → ℕ
place_switch o = unwrap_or (option_map (λ (p : Place). p.switch.0) o) 0

none_above : (lid : ℕ) → 4 < lid → place_of l3 lid ≡ None
none_above lid h = simp (ne_eqb 1 lid (λ e. omega arith), ne_eqb 2 lid (λ e. omega arith), ne_eqb 3 lid (λ e. omega arith), ne_eqb 4 lid (λ e. omega arith))

place_low : (lid : ℕ) (p : Place) → place_of l3 lid ≡ Some p → (p.switch.0 < 3) × (0 < lid) × (lid < 5)
place_low zero p e = cc
place_low (suc zero) p e = let x : 0 ≡ p.switch.0 = ap place_switch e in (omega arith, omega arith, omega arith)
place_low (suc (suc zero)) p e = let x : 1 ≡ p.switch.0 = ap place_switch e in (omega arith, omega arith, omega arith)
place_low (suc (suc (suc zero))) p e = let x : 2 ≡ p.switch.0 = ap place_switch e in (omega arith, omega arith, omega arith)
place_low (suc (suc (suc (suc zero)))) p e = let x : 0 ≡ p.switch.0 = ap place_switch e in (omega arith, omega arith, omega arith)
place_low (suc (suc (suc (suc (suc n))))) p e =
    let no_place : None ≡ Some p = sym (none_above (suc (suc (suc (suc (suc n))))) (omega arith)) ∙ e in cc

channel_low : (a b : ℕ) → LeadsTo l3 a b → a < 3
channel_low a b c = go c.0 c.1.0 c.1.1 c.1.2 c.2
  where
    go : (row : ChannelRow) (k : ℕ) → k < 4 → slice_index_or l3.channels k row ≡ row → row.tail.0 ≡ a → a < 3
    go row zero h e x = let y : 0 ≡ row.tail.0 = ap (λ (c : ChannelRow). c.tail.0) e in omega arith
    go row (suc zero) h e x = let y : 1 ≡ row.tail.0 = ap (λ (c : ChannelRow). c.tail.0) e in omega arith
    go row (suc (suc zero)) h e x = let y : 1 ≡ row.tail.0 = ap (λ (c : ChannelRow). c.tail.0) e in omega arith
    go row (suc (suc (suc zero))) h e x = let y : 2 ≡ row.tail.0 = ap (λ (c : ChannelRow). c.tail.0) e in omega arith
    go row (suc (suc (suc (suc k)))) h e x = absurd (omega arith)

walk_low : (n a b : ℕ) → Walk (LeadsTo l3) n a b → b < 3 → a < 3
walk_low zero a b w h = omega (arith, w)
walk_low (suc n) a b w h = channel_low a w.0 w.1

pub connected_low : (s lid : ℕ) → IsConnectedTo l3 s lid → (s < 3) × (0 < lid) × (lid < 5)
connected_low s lid c = let p : (c.0.switch.0 < 3) × (0 < lid) × (lid < 5) = place_low lid c.0 c.1 in (walk_low c.2.0 s c.0.switch.0 c.2.1 p.0, p.1, p.2)

-- every route on it is delivered
pub reaches : (s lid : ℕ) → s < 3 → 0 < lid → lid < 5 → (route l3 l3_entries s lid).end ≡ Delivered
reaches s zero a b c = absurd (omega arith)
reaches zero (suc zero) a b c = refl
reaches zero (suc (suc zero)) a b c = refl
reaches zero (suc (suc (suc zero))) a b c = refl
reaches zero (suc (suc (suc (suc zero)))) a b c = refl
reaches (suc zero) (suc zero) a b c = refl
reaches (suc zero) (suc (suc zero)) a b c = refl
reaches (suc zero) (suc (suc (suc zero))) a b c = refl
reaches (suc zero) (suc (suc (suc (suc zero)))) a b c = refl
reaches (suc (suc zero)) (suc zero) a b c = refl
reaches (suc (suc zero)) (suc (suc zero)) a b c = refl
reaches (suc (suc zero)) (suc (suc (suc zero))) a b c = refl
reaches (suc (suc zero)) (suc (suc (suc (suc zero)))) a b c = refl
reaches (suc (suc (suc s))) (suc lid) a b c = absurd (omega arith)
reaches s (suc (suc (suc (suc (suc lid))))) a b c = absurd (omega arith)

-- the one terminal, at the first switch
pub the_terminal : (p : TerminalRow) → Contains l3.terminals p → terminal 4 0 2 ≡ p
the_terminal p c = go c.0 c.1 c.2
  where
    go : (k : ℕ) → k < 1 → slice_index_or l3.terminals k p ≡ p → terminal 4 0 2 ≡ p
    go zero h e = e
    go (suc k) h e = absurd (omega arith)

-- what is so of each hop
abbrev HopFact : ℕ → ℕ → ℕ → ℕ → VirtualChannel → Type 0
HopFact m n lid hop v = (v.lane ≡ 0) × (((hop ≡ 0) × (number_of (with_numbers m n) v ≡ m)) ⊎ ((lid ≡ 3) × (hop ≡ 1) × (number_of (with_numbers m n) v ≡ n)))

-- the hops from it, to LID 2 and to LID 3, with their numbers
hop_to : (m n lid hop : ℕ) (v : VirtualChannel) → 0 < lid → lid < 5 → slice_get (virtual_channels l3 l3_entries (with_numbers m n) (terminal 4 0 2) lid) hop ≡ Some v →
    HopFact m n lid hop v
hop_to m n zero hop v a b e = absurd (omega arith)
hop_to m n (suc zero) hop v a b e = cc
hop_to m n (suc (suc zero)) zero v a b e = let x : virtual_channel 0 0 ≡ v = ap (λ o. unwrap_or o v) e in subst (λ w. HopFact m n 2 0 w) x (refl, inl (refl, refl))
hop_to m n (suc (suc zero)) (suc hop) v a b e = cc
hop_to m n (suc (suc (suc zero))) zero v a b e = let x : virtual_channel 0 0 ≡ v = ap (λ o. unwrap_or o v) e in subst (λ w. HopFact m n 3 0 w) x (refl, inl (refl, refl))
hop_to m n (suc (suc (suc zero))) (suc zero) v a b e = let x : virtual_channel 2 0 ≡ v = ap (λ o. unwrap_or o v) e in subst (λ w. HopFact m n 3 1 w) x (refl, inr (refl, refl, refl))
hop_to m n (suc (suc (suc zero))) (suc (suc hop)) v a b e = cc
hop_to m n (suc (suc (suc (suc zero)))) hop v a b e = cc
hop_to m n (suc (suc (suc (suc (suc lid))))) hop v a b e = absurd (omega arith)

hop_facts : (m n lid source port hop : ℕ) (v : VirtualChannel) → IsHop l3 l3_entries (with_numbers m n) lid source port hop v →
    (source ≡ 0) × (port ≡ 2) × HopFact m n lid hop v
hop_facts m n lid source port hop v h =
    let is : terminal 4 0 2 ≡ h.terminal = the_terminal h.terminal h.path.terminal in
    let low : (h.terminal.switch.0 < 3) × (0 < lid) × (lid < 5) = connected_low h.terminal.switch.0 lid h.path.connected in
    let there : HopFact m n lid hop v
    = hop_to m n lid hop v low.1 low.2 (subst (λ p. slice_get (virtual_channels l3 l3_entries (with_numbers m n) p lid) hop ≡ Some v) (sym is) h.at_hop) in
    (sym h.of_source ∙ ap (λ (p : TerminalRow). p.switch.0) (sym is), sym h.at_port ∙ ap (λ (p : TerminalRow). p.port) (sym is), there)

-- no hop of a path comes before the one with a fault, but the hop itself
nothing_before : IsBefore (1 ∷ 3 ∷ 0 ∷ 2 ∷ 1 ∷ 2 ∷ []) (1 ∷ 3 ∷ 0 ∷ 2 ∷ 1 ∷ 2 ∷ []) → ⊥
nothing_before b = grind arith

pub levels_there : (lid : ℕ) → 0 < lid → lid < 5 → level l3_lanes 0 lid ≡ Some 0
levels_there zero a b = absurd (omega arith)
levels_there (suc zero) a b = refl
levels_there (suc (suc zero)) a b = refl
levels_there (suc (suc (suc zero))) a b = refl
levels_there (suc (suc (suc (suc zero)))) a b = refl
levels_there (suc (suc (suc (suc (suc lid))))) a b = absurd (omega arith)

abbrev the_place : List ℕ
the_place = 1 ∷ 3 ∷ 0 ∷ 2 ∷ 1 ∷ 2 ∷ []

some_or_none : (o : Option ℕ) → o ≡ Some 0 → o ≡ None → ⊥
some_or_none o a b = cc

not_true : (b : Bool) → b ≡ false → (b || false) ≡ true → ⊥
not_true true e h = cc
not_true false e h = cc

has_level : (s lid : ℕ) → IsSource l3 s → IsConnectedTo l3 s lid → level (with_numbers 1 1) s lid ≡ None → ⊥
has_level zero lid source c e =
    let low : (0 < 3) × (0 < lid) × (lid < 5) = connected_low 0 lid c in
    some_or_none (level l3_lanes 0 lid) (levels_there lid low.1 low.2) e
has_level (suc s) lid source c e = not_true (eqb 0 (suc s)) (ne_eqb 0 (suc s) (λ h. omega arith)) source

number_is_1 : (lid hop : ℕ) (v : VirtualChannel) → HopFact 1 1 lid hop v → number_of (with_numbers 1 1) v ≡ 1
number_is_1 lid hop v f = elim f.1 [ inl a ↦ a.1 | inr b ↦ b.2 ]

second_hop : (lid hop : ℕ) (v : VirtualChannel) → HopFact 1 1 lid (suc hop) v → (lid ≡ 3) × (hop ≡ 0)
second_hop lid hop v f = elim f.1 [ inl a ↦ (omega (arith, a.0), omega (arith, a.0)) | inr b ↦ (b.0, omega (arith, b.1)) ]

lane_fault : (earlier : List ℕ) (other : Verdict) → IsBefore earlier the_place → IsLaneFaultAt l3 l3_entries (with_numbers 1 1) earlier other → ⊥
lane_fault earlier Routes b f = f
lane_fault earlier Lanes b f = f
lane_fault earlier (Unreached lid s end) b f = f
lane_fault earlier (NoLevel lid source) b f = has_level source.0 lid.0 f.1 f.2 f.3
lane_fault earlier (BadLane lid source at) b f = omega (arith, f.6, (hop_facts 1 1 lid.0 source.0 f.0 f.1 f.2 f.4).2.0)
lane_fault earlier (NoNumber lid source at) b f = omega (arith, f.4, number_is_1 lid.0 f.1 at (hop_facts 1 1 lid.0 source.0 f.0 f.1 at f.3).2)
lane_fault earlier (NotRising lid source first second m n) b f =
    let facts : (source.0 ≡ 0) × (f.0 ≡ 2) × HopFact 1 1 lid.0 (suc f.1) second = hop_facts 1 1 lid.0 source.0 f.0 (suc f.1) second f.4 in
    let more : (lid.0 ≡ 3) × (f.1 ≡ 0) = second_hop lid.0 f.1 second facts.2 in
    nothing_before (subst (λ place. IsBefore place the_place) (same_place lid.0 source.0 f.0 f.1 more.0 facts.0 facts.1 more.1 f.2) b)
  where
    same_place : (lid source port hop : ℕ) → lid ≡ 3 → source ≡ 0 → port ≡ 2 → hop ≡ 0 → earlier ≡ 1 ∷ lid ∷ source ∷ port ∷ suc hop ∷ 2 ∷ [] → earlier ≡ the_place
    same_place lid source port hop a b c d e = cc

none_earlier : (earlier : List ℕ) (other : Verdict) → IsBefore earlier the_place → IsFaultAt l3 l3_entries (Some (with_numbers 1 1)) earlier other → ⊥
none_earlier earlier Routes b f = f.2
none_earlier earlier Lanes b f = f.2
none_earlier earlier (Unreached lid s end) b f =
    let low : (s.0 < 3) × (0 < lid.0) × (lid.0 < 5) = connected_low s.0 lid.0 f.1 in
    f.3 (sym f.2 ∙ reaches s.0 lid.0 low.0 low.1 low.2)
none_earlier earlier (NoLevel lid source) b f = lane_fault earlier (NoLevel lid source) b (subst (λ l. IsLaneFaultAt l3 l3_entries l earlier (NoLevel lid source)) (ap (λ o. unwrap_or o f.0) (sym f.1)) f.2)
none_earlier earlier (BadLane lid source at) b f = lane_fault earlier (BadLane lid source at) b (subst (λ l. IsLaneFaultAt l3 l3_entries l earlier (BadLane lid source at)) (ap (λ o. unwrap_or o f.0) (sym f.1)) f.2)
none_earlier earlier (NoNumber lid source at) b f = lane_fault earlier (NoNumber lid source at) b (subst (λ l. IsLaneFaultAt l3 l3_entries l earlier (NoNumber lid source at)) (ap (λ o. unwrap_or o f.0) (sym f.1)) f.2)
none_earlier earlier (NotRising lid source first second m n) b f = lane_fault earlier (NotRising lid source first second m n) b (subst (λ l. IsLaneFaultAt l3 l3_entries l earlier (NotRising lid source first second m n)) (ap (λ o. unwrap_or o f.0) (sym f.1)) f.2)

-- the first of all faults is that the second number on the way to the third switch is not above the first
pub first_fault : IsVerdict l3 l3_entries (Some (with_numbers 1 1)) (NotRising (record { 0 = 3 }) (record { 0 = 0 }) (virtual_channel 0 0) (virtual_channel 2 0) 1 1)
first_fault = (the_place, not_rising, none_earlier)

-- with 0 as the second number, the second hop has none
pub no_number : IsFaultAt l3 l3_entries (Some (with_numbers 1 0)) (1 ∷ 3 ∷ 0 ∷ 2 ∷ 1 ∷ 1 ∷ []) (NoNumber (record { 0 = 3 }) (record { 0 = 0 }) (virtual_channel 2 0))
no_number = (with_numbers 1 0, refl, (2, 1, refl, record { terminal = terminal 4 0 2; path = path_to_3; of_source = refl; at_port = refl; at_hop = refl }, refl))

-- both switches of the small fabric send LID 3 to each other
pub looped : IsFaultAt stub (with_entry (with_entry stub_entries 0 3 1) 1 3 1) None (0 ∷ 3 ∷ 0 ∷ []) (Unreached (record { 0 = 3 }) (record { 0 = 0 }) Loop)
looped = (refl, (record { switch = record { 0 = 0 }; port = 2 }, refl, (0, refl)), refl, λ e. cc)

-- said of the source, the place has no port
plain_hop : (hop : ℕ) (v : VirtualChannel) → slice_get (plain_channels l3 l3_entries (with_numbers 1 1) 0 3) hop ≡ Some v → IsPlainHop l3 l3_entries (with_numbers 1 1) 3 0 hop v
plain_hop hop v e = record { of_source = refl; connected = path_to_3.connected; at_hop = e }

plainly_not_rising : IsPlainFaultAt l3 l3_entries (Some (with_numbers 1 1)) (1 ∷ 3 ∷ 0 ∷ 1 ∷ 2 ∷ [])
    (NotRising (record { 0 = 3 }) (record { 0 = 0 }) (virtual_channel 0 0) (virtual_channel 2 0) 1 1)
plainly_not_rising = (with_numbers 1 1, refl, (0, refl, plain_hop 0 (virtual_channel 0 0) refl, plain_hop 1 (virtual_channel 2 0) refl, refl, refl, omega arith))

plain_first_fault : IsPlainVerdict l3 l3_entries (Some (with_numbers 1 1)) (NotRising (record { 0 = 3 }) (record { 0 = 0 }) (virtual_channel 0 0) (virtual_channel 2 0) 1 1)
plain_first_fault = (plain_verdict_agrees l3 l3_entries (with_numbers 1 1) (NotRising (record { 0 = 3 }) (record { 0 = 0 }) (virtual_channel 0 0) (virtual_channel 2 0) 1 1) refl).0.0 first_fault

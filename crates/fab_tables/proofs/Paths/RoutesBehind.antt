-- A delivered route goes on as that from any switch on it, and so do its hops.
use Rattle.std.proofs.Common.{◌≡◌, ℕ, zero, suc, ◌+◌, ◌<◌, ◌≤◌, List, [], ◌∷◌, length, drop, refl, sym, ◌∙◌, ap, arith, Some, slice_get}
use Rattle.std.proofs.lemmas.Option.{none-some, same_Some}
use Rattle.fab_model.specs.declared.rows.ChannelRow.{ChannelRow}
use Rattle.fab_model.specs.Topology.{Topology}
use Rattle.fab_tables.specs.declared.end.End.TheVariants.{Delivered, Loop}
use Rattle.fab_tables.specs.declared.verdict.VirtualChannel.{VirtualChannel}
use Rattle.fab_tables.specs.Entries.{Entries, entry}
use Rattle.fab_tables.specs.LaneTables.{LaneTables}
use Rattle.fab_tables.specs.Route.{Hop, Route, hop_by, tip, after_hop, route_within, route}
use Rattle.fab_tables.specs.Route.Hop.{Along, Stop}
use Rattle.fab_tables.specs.VirtualChannels.{on_channels, arrival}
use Rattle.fab_tables.proofs.Paths.FallingRoutes.{channel_found}
use Rattle.fab_tables.proofs.Paths.RouteTurns.{along_channel, first_hop}

loops : Loop ≡ Delivered → ⊥
loops e = cc

-- an element behind so many
pub slice_dropped : {A : Type 0} (xs : List A) (n k : ℕ) → slice_get (drop n xs) k ≡ slice_get xs (n + k)
slice_dropped xs zero k = ap (λ i. slice_get xs i) (omega arith)
slice_dropped [] (suc n) k = let e : suc n + k ≡ suc (n + k) = omega arith in ap (λ i. slice_get [] i) e
slice_dropped (x ∷ xs) (suc n) k = let e : suc (n + k) ≡ suc n + k = omega arith in slice_dropped xs n k ∙ ap (λ i. slice_get (x ∷ xs) i) e

pub dropped_on : {A : Type 0} (xs : List A) (n : ℕ) → drop n (drop 1 xs) ≡ drop (suc n) xs
dropped_on [] zero = refl
dropped_on [] (suc n) = refl
dropped_on (x ∷ xs) n = refl

module _ (t : Topology) (e : Entries) (lid : ℕ) where
  abbrev hop_at : ℕ → Hop
  hop_at s = hop_by t lid s (entry e s lid)

  -- with more channels to go a delivered route is the same
  still_same : (n m s : ℕ) → n ≤ m → (route_within t e lid n s).end ≡ Delivered → route_within t e lid m s ≡ route_within t e lid n s
  still_same zero m s h d = absurd (loops d)
  still_same (suc n) zero s h d = absurd (omega arith)
  still_same (suc n) (suc m) s h d = go (hop_at s) (λ next x. still_same n m next (omega arith) x) d
    where
      go : (hop : Hop) → ((next : ℕ) → (route_within t e lid n next).end ≡ Delivered → route_within t e lid m next ≡ route_within t e lid n next) →
          (after_hop t (λ next. route_within t e lid n next) hop).end ≡ Delivered → after_hop t (λ next. route_within t e lid m next) hop ≡ after_hop t (λ next. route_within t e lid n next) hop
      go (Stop x) rest is = refl
      go (Along c) rest is = ap (λ (r : Route). record { channels = c ∷ r.channels; end = r.end }) (rest (tip t c) is)

  -- behind a channel come those of the route from its tip
  abbrev GoesOn : ℕ → ℕ → ℕ → ℕ → Type 0
  GoesOn k n s c = (j : ℕ) × (n ≡ k + suc j) × (drop (suc k) (route_within t e lid n s).channels ≡ (route_within t e lid j (tip t c)).channels)
      × ((route_within t e lid n s).end ≡ (route_within t e lid j (tip t c)).end)

  goes_on : (k n s c : ℕ) → slice_get (route_within t e lid n s).channels k ≡ Some c → GoesOn k n s c
  goes_on k zero s c at = absurd (none-some c at)
  goes_on k (suc n) s c at = go (hop_at s) k refl (λ j next x. goes_on j n next c x) at
    where
      go : (hop : Hop) (k : ℕ) → hop_at s ≡ hop → ((j next : ℕ) → slice_get (route_within t e lid n next).channels j ≡ Some c → GoesOn j n next c) →
          slice_get (after_hop t (λ next. route_within t e lid n next) hop).channels k ≡ Some c → GoesOn k (suc n) s c
      go (Stop x) k is rest there = absurd (none-some c there)
      go (Along d) zero is rest there = (
        n,
        omega arith,
        ap (λ h. drop 1 (after_hop t (λ next. route_within t e lid n next) h).channels) is ∙ ap (λ x. (route_within t e lid n (tip t x)).channels) (same_Some d c there),
        ap (λ h. (after_hop t (λ next. route_within t e lid n next) h).end) is ∙ ap (λ x. (route_within t e lid n (tip t x)).end) (same_Some d c there),
      )
      go (Along d) (suc k) is rest there =
          let later : GoesOn k n (tip t d) c = rest k (tip t d) there in (
            later.0,
            omega (arith, later.1),
            ap (λ h. drop (suc (suc k)) (after_hop t (λ next. route_within t e lid n next) h).channels) is ∙ later.2,
            ap (λ h. (after_hop t (λ next. route_within t e lid n next) h).end) is ∙ later.3,
          )

  pub behind_tip : (s k c : ℕ) → (route t e s lid).end ≡ Delivered → slice_get (route t e s lid).channels k ≡ Some c → (route t e (tip t c) lid).channels ≡ drop (suc k) (route t e s lid).channels
  behind_tip s k c d at =
      let on : GoesOn k (length t.switches) s c = goes_on k (length t.switches) s c at in
      ap (λ (r : Route). r.channels) (still_same on.0 (length t.switches) (tip t c) (omega (arith, on.1)) (sym on.3 ∙ d)) ∙ sym on.2

  -- the first channel of a route leaves the switch where it starts
  leaves_first : (s c : ℕ) (row : ChannelRow) → slice_get (route t e s lid).channels 0 ≡ Some c → slice_get t.channels c ≡ Some row → row.tail.0 ≡ s
  leaves_first s c row at is =
      let found : (r : ChannelRow) × (c < length t.channels) × (slice_get t.channels c ≡ Some r) × (r.tail.0 ≡ s) × (r.port ≡ entry e s lid) =
      channel_found t s (entry e s lid) c (along_channel t lid s (entry e s lid) c (first_hop t e lid (length t.switches) s c at)) in
      ap (λ (r : ChannelRow). r.tail.0) (same_Some row found.0 (sym is ∙ found.2)) ∙ found.3

  -- from the tail of a channel on a delivered route on, the route is that from the tail
  pub behind_tail : (s k c : ℕ) (row : ChannelRow) → (route t e s lid).end ≡ Delivered → slice_get (route t e s lid).channels k ≡ Some c → slice_get t.channels c ≡ Some row →
      (route t e row.tail.0 lid).channels ≡ drop k (route t e s lid).channels
  behind_tail s zero c row d at is = ap (λ x. (route t e x lid).channels) (leaves_first s c row at is)
  behind_tail s (suc k) c row d at is = ap (λ x. (route t e x lid).channels) tail ∙ rest
    where
      before : (b : ℕ) × (slice_get (route t e s lid).channels k ≡ Some b)
      before = there_before (route t e s lid).channels k c at
        where
          there_before : (xs : List ℕ) (i c : ℕ) → slice_get xs (suc i) ≡ Some c → (b : ℕ) × (slice_get xs i ≡ Some b)
          there_before [] i c x = absurd (none-some c x)
          there_before (y ∷ xs) zero c x = (y, refl)
          there_before (y ∷ xs) (suc i) c x = there_before xs i c x

      rest : (route t e (tip t before.0) lid).channels ≡ drop (suc k) (route t e s lid).channels
      rest = behind_tip s k before.0 d before.1

      first : slice_get (route t e (tip t before.0) lid).channels 0 ≡ Some c
      first =
          let e1 : suc k + 0 ≡ suc k = omega arith in
          ap (λ xs. slice_get xs 0) rest ∙ slice_dropped (route t e s lid).channels (suc k) 0 ∙ ap (λ i. slice_get (route t e s lid).channels i) e1 ∙ at

      tail : row.tail.0 ≡ tip t before.0
      tail = leaves_first (tip t before.0) c row first is

module _ (t : Topology) (l : LaneTables) (of_level : ℕ) where
  -- behind the first hop the port by which the packets come makes no difference
  pub behind_any : (p q : ℕ) (cs : List ℕ) → drop 1 (on_channels t l of_level p cs) ≡ drop 1 (on_channels t l of_level q cs)
  behind_any p q [] = refl
  behind_any p q (c ∷ cs) = refl

  pub hops_dropped : (n p q : ℕ) (cs : List ℕ) → drop (suc n) (on_channels t l of_level p cs) ≡ drop 1 (on_channels t l of_level q (drop n cs))
  hops_dropped zero p q cs = behind_any p q cs
  hops_dropped (suc n) p q [] = refl
  hops_dropped (suc n) p q (c ∷ cs) = hops_dropped n (arrival (slice_get t.channels c)) q cs

  -- a hop's channel stands at its place of the route
  pub channel_of_hop : (cs : List ℕ) (p k : ℕ) (v : VirtualChannel) → slice_get (on_channels t l of_level p cs) k ≡ Some v → slice_get cs k ≡ Some v.channel.0
  channel_of_hop [] p k v at = absurd (none-some v at)
  channel_of_hop (c ∷ cs) p zero v at = ap (λ x. Some x) (ap (λ (w : VirtualChannel). w.channel.0) (same_Some _ v at))
  channel_of_hop (c ∷ cs) p (suc k) v at = channel_of_hop cs (arrival (slice_get t.channels c)) k v at

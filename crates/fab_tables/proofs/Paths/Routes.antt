-- The route from a switch is delivered exactly where that from any switch on it is.
use Rattle.std.proofs.Common.{◌≡◌, ◌≢◌, ℕ, zero, suc, ◌+◌, ◌-◌, ◌<◌, ◌≤◌, length, refl, sym, ◌∙◌, ap, subst, inl, inr, ◌⊎◌, arith, Some, slice_get}
use Rattle.std.proofs.lemmas.Bool.{cases_order}
use Rattle.std.proofs.lemmas.Option.{none-some, same_Some, get_or_from_slice_get}
use Rattle.fab_graph.proofs.Counting.{counted_below}
use Rattle.fab_model.specs.declared.rows.ChannelRow.{ChannelRow}
use Rattle.fab_model.specs.Topology.{Topology}
use Rattle.fab_model.specs.WellFormed.{IsWellFormed}
use Rattle.fab_tables.specs.declared.end.End.{End}
use Rattle.fab_tables.specs.declared.end.End.TheVariants.{Delivered, NoEntry, DeadPort, Astray, Loop}
use Rattle.fab_tables.specs.Entries.{Entries, entry}
use Rattle.fab_tables.specs.Route.{Hop, hop_by, tip, tip_of_row, after_hop, route_within, route}
use Rattle.fab_tables.specs.Route.Hop.{Along, Stop}
use Rattle.fab_tables.proofs.Paths.FallingRoutes.{channel_found}
use Rattle.fab_tables.proofs.Paths.RouteTurns.{along_channel}
use Rattle.fab_tables.proofs.Joined.Tips.{tip_below}

loops : Loop ≡ Delivered → ⊥
loops e = cc

pub delivered_or_not : (x : End) → (x ≡ Delivered) ⊎ (x ≢ Delivered)
delivered_or_not Delivered = inl refl
delivered_or_not NoEntry = inr (λ e. cc)
delivered_or_not DeadPort = inr (λ e. cc)
delivered_or_not Astray = inr (λ e. cc)
delivered_or_not Loop = inr (λ e. cc)

module _ (t : Topology) (e : Entries) (lid : ℕ) where
  -- what the entry of a switch says
  abbrev hop_at : ℕ → Hop
  hop_at s = hop_by t lid s (entry e s lid)

  -- how the route from a switch ends that may go along so many channels
  abbrev end_within : ℕ → ℕ → End
  end_within n s = (route_within t e lid n s).end

  along : (n s c : ℕ) → hop_at s ≡ Along c → end_within (suc n) s ≡ end_within n (tip t c)
  along n s c is = ap (λ h. (after_hop t (λ next. route_within t e lid n next) h).end) is

  -- with more channels to go a delivered route stays
  pub still_delivered : (n m s : ℕ) → n ≤ m → end_within n s ≡ Delivered → end_within m s ≡ Delivered
  still_delivered zero m s h d = absurd (loops d)
  still_delivered (suc n) zero s h d = absurd (omega arith)
  still_delivered (suc n) (suc m) s h d = go (hop_at s) (λ next x. still_delivered n m next (omega arith) x) d
    where
      go : (hop : Hop) → ((next : ℕ) → end_within n next ≡ Delivered → end_within m next ≡ Delivered) →
          (after_hop t (λ next. route_within t e lid n next) hop).end ≡ Delivered → (after_hop t (λ next. route_within t e lid m next) hop).end ≡ Delivered
      go (Stop x) rest is = is
      go (Along c) rest is = rest (tip t c) is

  -- where a channel stands on a route, the route goes on as that from the channel's tip
  abbrev GoesOn : ℕ → ℕ → ℕ → Type 0
  GoesOn k s c = (n j : ℕ) → n ≡ k + suc j → end_within n s ≡ end_within j (tip t c)

  pub goes_on : (k n s c : ℕ) → slice_get (route_within t e lid n s).channels k ≡ Some c → (k < n) × GoesOn k s c
  goes_on k zero s c at = absurd (none-some c at)
  goes_on k (suc n) s c at = go (hop_at s) k refl (λ j next x. goes_on j n next c x) at
    where
      go : (hop : Hop) (k : ℕ) → hop_at s ≡ hop → ((j next : ℕ) → slice_get (route_within t e lid n next).channels j ≡ Some c → (j < n) × GoesOn j next c) →
          slice_get (after_hop t (λ next. route_within t e lid n next) hop).channels k ≡ Some c → (k < suc n) × GoesOn k s c
      go (Stop x) k is rest there = absurd (none-some c there)
      go (Along d) zero is rest there = (
        omega arith,
        λ m j eq. (
            let same : m ≡ suc j = omega arith in
            ap (λ x. end_within x s) same ∙ along j s d is ∙ ap (λ x. end_within j (tip t x)) (same_Some d c there)
            ),
      )
      go (Along d) (suc k) is rest there =
          let later : (k < n) × GoesOn k (tip t d) c = rest k (tip t d) there in (
            omega (arith, later.0),
            λ m j eq. (
                let same : m ≡ suc (k + suc j) = omega arith in
                ap (λ x. end_within x s) same ∙ along (k + suc j) s d is ∙ later.1 (k + suc j) j refl
                ),
          )

  -- so many channels are on the delivered route from the switch
  record IsFar (s m : ℕ) : Type 0 where
    there : end_within (suc m) s ≡ Delivered
    least : end_within m s ≢ Delivered

  far_one : (s m n : ℕ) → IsFar s m → IsFar s n → m ≡ n
  far_one s m n a b = elim (cases_order m n) [
    | inl same ↦ same
    | inr (inl less) ↦ absurd (b.least (still_delivered (suc m) n s (omega arith) a.there))
    | inr (inr more) ↦ absurd (a.least (still_delivered (suc n) m s (omega arith) b.there))
  ]

  far_there : (n s : ℕ) → end_within n s ≡ Delivered → (m : ℕ) × IsFar s m
  far_there zero s d = absurd (loops d)
  far_there (suc n) s d = go (delivered_or_not (end_within n s)) (λ x. far_there n s x)
    where
      go : (end_within n s ≡ Delivered) ⊎ (end_within n s ≢ Delivered) → (end_within n s ≡ Delivered → (m : ℕ) × IsFar s m) → (m : ℕ) × IsFar s m
      go (inl x) less = less x
      go (inr x) less = (n, record { there = d; least = x })

  -- where there are some, one less are on the route from the tip of the first
  far_next : (s m : ℕ) → IsFar s (suc m) → (c : ℕ) × (hop_at s ≡ Along c) × IsFar (tip t c) m
  far_next s m far = go (hop_at s) refl
    where
      go : (hop : Hop) → hop_at s ≡ hop → (c : ℕ) × (hop_at s ≡ Along c) × IsFar (tip t c) m
      go (Stop x) is =
          absurd (far.least (ap (λ h. (after_hop t (λ next. route_within t e lid m next) h).end) is
          ∙ sym (ap (λ h. (after_hop t (λ next. route_within t e lid (suc m) next) h).end) is) ∙ far.there))
      go (Along c) is = (c, is, record { there = sym (along (suc m) s c is) ∙ far.there; least = λ x. far.least (along m s c is ∙ x) })

module _ (t : Topology) (e : Entries) (lid : ℕ) (good : IsWellFormed t) where
  -- the tip of a channel that an entry goes along is a switch of the fabric
  pub next_below : (s c : ℕ) → hop_at t e lid s ≡ Along c → tip t c < length t.switches
  next_below s c is = subst (λ n. n < length t.switches) (sym (ap tip_of_row found.2)) (tip_below t good found.0 (c, found.1, get_or_from_slice_get t.channels c found.0 found.0 found.2))
    where
      found : (row : ChannelRow) × (c < length t.channels) × (slice_get t.channels c ≡ Some row) × (row.tail.0 ≡ s) × (row.port ≡ entry e s lid)
      found = channel_found t s (entry e s lid) c (along_channel t lid s (entry e s lid) c is)

  -- so fewer channels than the fabric has switches are on it
  abbrev IsFarHere : ℕ → ℕ → Type 0
  IsFarHere s m = (s < length t.switches) × IsFar t e lid s m

  few_far : (s m : ℕ) → s < length t.switches → IsFar t e lid s m → m < length t.switches
  few_far s m low far = counted_below IsFarHere (length t.switches) (λ q m n x y. far_one t e lid q m n x.1 y.1) (λ q n x. x.0) next m s (low, far)
    where
      next : (q n : ℕ) → IsFarHere q (suc n) → (r : ℕ) × IsFarHere r n
      next q n x = let rest : (c : ℕ) × (hop_at t e lid q ≡ Along c) × IsFar t e lid (tip t c) n = far_next t e lid q n x.1 in (tip t rest.0, (next_below q rest.0 rest.1, rest.2))

  -- a route that is delivered at all is delivered before it is taken for a loop
  pub delivered_in_time : (n s : ℕ) → s < length t.switches → end_within t e lid n s ≡ Delivered → (route t e s lid).end ≡ Delivered
  delivered_in_time n s low d =
      let far : (m : ℕ) × IsFar t e lid s m = far_there t e lid n s d in
      still_delivered t e lid (suc far.0) (length t.switches) s (omega (arith, few_far s far.0 low far.1)) far.1.there

  pub delivered_before : (s k c : ℕ) → s < length t.switches → slice_get (route t e s lid).channels k ≡ Some c → (route t e (tip t c) lid).end ≡ Delivered → (route t e s lid).end ≡ Delivered
  delivered_before s k c low at d =
      delivered_in_time (k + suc (length t.switches)) s low ((goes_on t e lid k (length t.switches) s c at).1 (k + suc (length t.switches)) (length t.switches) refl ∙ d)

  pub delivered_behind : (s k c : ℕ) → slice_get (route t e s lid).channels k ≡ Some c → (route t e s lid).end ≡ Delivered → (route t e (tip t c) lid).end ≡ Delivered
  delivered_behind s k c at d =
      let on : (k < length t.switches) × GoesOn t e lid k s c = goes_on t e lid k (length t.switches) s c at in
      still_delivered t e lid (length t.switches - suc k) (length t.switches) (tip t c) (omega arith) (sym (on.1 (length t.switches) (length t.switches - suc k) (omega (arith, on.0))) ∙ d)

  -- each channel of a route is one that the entry of a switch goes along
  hop_there : (k n s c : ℕ) → slice_get (route_within t e lid n s).channels k ≡ Some c → (x : ℕ) × (hop_at t e lid x ≡ Along c)
  hop_there k zero s c at = absurd (none-some c at)
  hop_there k (suc n) s c at = go (hop_at t e lid s) k refl (λ j next x. hop_there j n next c x) at
    where
      go : (hop : Hop) (k : ℕ) → hop_at t e lid s ≡ hop → ((j next : ℕ) → slice_get (route_within t e lid n next).channels j ≡ Some c → (x : ℕ) × (hop_at t e lid x ≡ Along c)) →
          slice_get (after_hop t (λ next. route_within t e lid n next) hop).channels k ≡ Some c → (x : ℕ) × (hop_at t e lid x ≡ Along c)
      go (Stop x) k is rest there = absurd (none-some c there)
      go (Along d) zero is rest there = (s, is ∙ ap Along (same_Some d c there))
      go (Along d) (suc k) is rest there = rest k (tip t d) there

  -- so it is a channel of the fabric
  pub channel_there : (k s c : ℕ) → slice_get (route t e s lid).channels k ≡ Some c → c < length t.channels
  channel_there k s c at =
      let x : (x : ℕ) × (hop_at t e lid x ≡ Along c) = hop_there k (length t.switches) s c at in
      (channel_found t x.0 (entry e x.0 lid) c (along_channel t lid x.0 (entry e x.0 lid) c x.1)).1

-- A route that is walked for a while goes on from the switch where the walk is.
use Rattle.std.proofs.Common.{◌≡◌, ℕ, zero, suc, ◌<◌, List, [], ◌∷◌, ◌++◌, length, refl, sym, ◌∙◌, ap, inl, inr, arith, Some, slice_get, drop}
use Rattle.fab_model.specs.declared.rows.ChannelId.{ChannelId}
use Rattle.fab_model.specs.declared.rows.ChannelRow.{ChannelRow}
use Rattle.fab_model.specs.Topology.{Topology}
use Rattle.fab_model.specs.WellFormed.{IsWellFormed}
use Rattle.fab_model.proofs.Lists.Members.{In}
use Rattle.fab_tables.specs.declared.end.End.TheVariants.{Delivered}
use Rattle.fab_tables.specs.Entries.{Entries, entry}
use Rattle.fab_tables.specs.Route.{Hop, hop_by, tip, after_hop, route_within, route}
use Rattle.fab_tables.specs.Route.Hop.{Along, Stop}
use Rattle.fab_tables.proofs.Paths.FallingRoutes.{channel_found}
use Rattle.fab_tables.proofs.Paths.RouteTurns.{along_channel}
use Rattle.fab_tables.proofs.Paths.Routes.{delivered_before, delivered_behind}
use Rattle.fab_tables.proofs.Paths.RoutesBehind.{behind_tip}
use Rattle.fab_report.specs.Order.{tail_of_row, tails, after, numbers}

pub after_push : (t : Topology) (s : ℕ) (vs : List ℕ) (c : ℕ) → after t s (vs ++ c ∷ []) ≡ tip t c
after_push t s [] c = refl
after_push t s (v ∷ vs) c = after_push t (tip t v) vs c

module _ (t : Topology) (e : Entries) (lid : ℕ) where
  abbrev hop_at : ℕ → Hop
  hop_at s = hop_by t lid s (entry e s lid)

  -- a route that begins with a channel goes on from its tip
  abbrev Begins : ℕ → ℕ → ℕ → List ℕ → Type 0
  Begins n s c cs = (m : ℕ) × (hop_at s ≡ Along c) × ((route_within t e lid m (tip t c)).channels ≡ cs)

  begins : (n s c : ℕ) (cs : List ℕ) → (route_within t e lid n s).channels ≡ c ∷ cs → Begins n s c cs
  begins zero s c cs is = cc
  begins (suc n) s c cs is = go (hop_at s) refl is
    where
      go : (hop : Hop) → hop_at s ≡ hop → (after_hop t (λ next. route_within t e lid n next) hop).channels ≡ c ∷ cs → Begins (suc n) s c cs
      go (Stop x) at there = cc
      go (Along d) at there =
          let same : d ≡ c = cc in
          let rest : (route_within t e lid n (tip t d)).channels ≡ cs = cc in
          (n, at ∙ ap Along same, ap (λ x. (route_within t e lid n (tip t x)).channels) (sym same) ∙ rest)

  -- a channel that an entry goes along leaves its switch
  pub tail_is : (s c : ℕ) → hop_at s ≡ Along c → tail_of_row (slice_get t.channels c) ≡ s
  tail_is s c at =
      let found : (row : ChannelRow) × (c < length t.channels) × (slice_get t.channels c ≡ Some row) × (row.tail.0 ≡ s) × (row.port ≡ entry e s lid) =
      channel_found t s (entry e s lid) c (along_channel t lid s (entry e s lid) c at) in
      ap tail_of_row found.2 ∙ found.3

  leaves_after : (n s c : ℕ) (vs rest : List ℕ) → (route_within t e lid n s).channels ≡ vs ++ c ∷ rest → hop_at (after t s vs) ≡ Along c
  leaves_after n s c [] rest is = (begins n s c rest is).1
  leaves_after n s c (v ∷ vs) rest is = let b = begins n s v (vs ++ c ∷ rest) is in leaves_after b.0 (tip t v) c vs rest b.2

  -- the next channel of a walk leaves the switch where the walk is
  pub tail_after : (s c : ℕ) (vs rest : List ℕ) → (route t e s lid).channels ≡ vs ++ c ∷ rest → tail_of_row (slice_get t.channels c) ≡ after t s vs
  tail_after s c vs rest is = tail_is (after t s vs) c (leaves_after (length t.switches) s c vs rest is)

  -- a switch that a walk has left is where it was before some of its channels
  abbrev pub WasAt : ℕ → List ℕ → ℕ → Type 0
  WasAt s ws x = (vs : List ℕ) × (us : List ℕ) × (ws ≡ vs ++ us) × (0 < length us) × (x ≡ after t s vs)

  was_within : (n s x : ℕ) (walked : List ChannelId) (rest : List ℕ) → (route_within t e lid n s).channels ≡ numbers walked ++ rest → In x (tails t walked) → WasAt s (numbers walked) x
  was_within n s x [] rest is there = absurd there
  was_within n s x (c ∷ cs) rest is (inl same) = ([], c.0 ∷ numbers cs, refl, omega arith, sym same ∙ tail_is s c.0 (begins n s c.0 (numbers cs ++ rest) is).1)
  was_within n s x (c ∷ cs) rest is (inr there) =
      let b = begins n s c.0 (numbers cs ++ rest) is in
      let was : WasAt (tip t c.0) (numbers cs) x = was_within b.0 (tip t c.0) x cs rest b.2 there in
      (c.0 ∷ was.0, was.1, ap (λ xs. c.0 ∷ xs) was.2, was.3, was.4)

  pub was_at : (s x : ℕ) (walked : List ChannelId) (rest : List ℕ) → (route t e s lid).channels ≡ numbers walked ++ rest → In x (tails t walked) → WasAt s (numbers walked) x
  was_at s x walked rest is there = was_within (length t.switches) s x walked rest is there

  module _ (good : IsWellFormed t) where
    pub goes_after : (s : ℕ) (vs rest : List ℕ) → (route t e s lid).end ≡ Delivered → (route t e s lid).channels ≡ vs ++ rest →
        ((route t e (after t s vs) lid).end ≡ Delivered) × ((route t e (after t s vs) lid).channels ≡ rest)
    goes_after s [] rest d is = (d, is)
    goes_after s (v ∷ vs) rest d is =
        let first : slice_get (route t e s lid).channels 0 ≡ Some v = ap (λ xs. slice_get xs 0) is in
        goes_after (tip t v) vs rest (delivered_behind t e lid good s 0 v first d) (behind_tip t e lid s 0 v d first ∙ ap (λ xs. drop 1 xs) is)

    last_at : (s v : ℕ) (vs rest : List ℕ) → (k : ℕ) × (c : ℕ) × (slice_get ((v ∷ vs) ++ rest) k ≡ Some c) × (after t s (v ∷ vs) ≡ tip t c)
    last_at s v [] rest = (0, v, refl, refl)
    last_at s v (u ∷ us) rest = let l = last_at (tip t v) u us rest in (suc l.0, l.1, l.2, l.3)

    -- a route that is delivered from where the walk is is delivered
    pub delivered_from : (s : ℕ) (vs rest : List ℕ) → s < length t.switches → (route t e s lid).channels ≡ vs ++ rest → (route t e (after t s vs) lid).end ≡ Delivered → (route t e s lid).end ≡ Delivered
    delivered_from s [] rest low is d = d
    delivered_from s (v ∷ vs) rest low is d =
        let l = last_at s v vs rest in
        delivered_before t e lid good s l.0 l.1 low (ap (λ xs. slice_get xs l.0) is ∙ l.2) (ap (λ x. (route t e x lid).end) (sym l.3) ∙ d)

-- One row, as edges are added to it and taken back.
use Rattle.std.proofs.Common.{◌≡◌, ◌≢◌, ◌⊎◌, ℕ, suc, ◌+◌, ◌-◌, ◌<◌, ◌==◌, Bool, true, false, cond, if◌then◌else◌, nat_le, [], ◌∷◌, length, Contains, refl, sym, ◌∙◌, ap, subst, inl, inr, arith}
use Rattle.std.proofs.lemmas.Bool.{eq-eqb, ne_eqb, lt-leb}
use Rattle.std.proofs.lemmas.Bool.Decides.{eqb_tells}
use Rattle.fab_model.specs.declared.rows.ChannelId.{ChannelId}
use Rattle.fab_model.specs.Topology.{channel_id}
use Rattle.fab_graph.proofs.Members.{first, later, first_or_later}
use Rattle.fab_depgraph.specs.Edges.{Row, channels_of, times_in, leads_to, with_count, raised, lowered, CanBeLowered}

-- each edge of a row was added at least once
abbrev pub IsCounted : Row → Type 0
IsCounted [] = Unit {0}
IsCounted ((other, count) ∷ row) = (0 < count) × IsCounted row

either : (b : Bool) → (b ≡ true) ⊎ (b ≡ false)
either true = inl refl
either false = inr refl

abbrev one_if : Bool → ℕ
one_if b = cond b 1 0

more : ℕ → ℕ
more n = n + 1

times_known : (row : Row) (b : ℕ) → IsCounted row → leads_to row b ≡ true → 0 < times_in row b
times_known [] b counted known = absurd (cc)
times_known ((other, count) ∷ row) b counted known = elim (eqb_tells other b) [
  | inl h ↦ rw h.0 counted.0
  | inr h ↦ rw h.0 (times_known row b counted.1 (rw h.0 at known))
]

pub times_unknown : (row : Row) (b : ℕ) → leads_to row b ≡ false → times_in row b ≡ 0
times_unknown [] b unknown = refl
times_unknown ((other, count) ∷ row) b unknown = elim (eqb_tells other b) [
  | inl h ↦ (let t : true ≡ false = rw h.0 at unknown in absurd (cc))
  | inr h ↦ rw h.0 (times_unknown row b (rw h.0 at unknown))
]

module _ (change : ℕ → ℕ) where
  pub with_count_here : (row : Row) (b : ℕ) → leads_to row b ≡ true → times_in (with_count change row b) b ≡ change (times_in row b)
  with_count_here [] b known = absurd (cc)
  with_count_here ((other, count) ∷ row) b known = elim (eqb_tells other b) [
    | inl h ↦ rw h.0 (rw h.0 refl)
    | inr h ↦ rw h.0 (rw h.0 (with_count_here row b (rw h.0 at known)))
  ]

  pub with_count_other : (row : Row) (b c : ℕ) → b ≢ c → times_in (with_count change row b) c ≡ times_in row c
  with_count_other [] b c differ = refl
  with_count_other ((other, count) ∷ row) b c differ = elim (eqb_tells other b) [
    | inl h ↦ (let off : other == c ≡ false = ne_eqb other c (λ same. differ (sym h.1 ∙ same)) in rw h.0 (rw off refl))
    | inr h ↦ rw h.0 (elim (eqb_tells other c) [ inl k ↦ rw k.0 refl | inr k ↦ rw k.0 (with_count_other row b c differ) ])
  ]

  pub with_count_length : (row : Row) (b : ℕ) → length (with_count change row b) ≡ length row
  with_count_length [] b = refl
  with_count_length ((other, count) ∷ row) b = elim (eqb_tells other b) [
    | inl h ↦ rw h.0 refl
    | inr h ↦ rw h.0 (ap suc (with_count_length row b))
  ]

  pub with_count_leads : (row : Row) (b c : ℕ) → leads_to (with_count change row b) c ≡ leads_to row c
  with_count_leads [] b c = refl
  with_count_leads ((other, count) ∷ row) b c = elim (eqb_tells other b) [
    | inl h ↦ rw h.0 refl
    | inr h ↦ rw h.0 (ap (λ rest. if other == c then true else rest) (with_count_leads row b c))
  ]

  pub with_count_counted : ((n : ℕ) → 0 < n → 0 < change n) → (row : Row) (b : ℕ) → IsCounted row → IsCounted (with_count change row b)
  with_count_counted keeps [] b counted = tt
  with_count_counted keeps ((other, count) ∷ row) b counted = elim (eqb_tells other b) [
    | inl h ↦ rw h.0 (keeps count counted.0, counted.1)
    | inr h ↦ rw h.0 (counted.0, with_count_counted keeps row b counted.1)
  ]

-- counted up and down again
back : (row : Row) (b : ℕ) → with_count (λ n. n - 1) (with_count (λ n. n + 1) row b) b ≡ row
back [] b = refl
back ((other, count) ∷ row) b = elim (eqb_tells other b) [
  | inl h ↦ (let same : count + 1 - 1 ≡ count = omega arith in rw h.0 (rw h.0 (ap (λ n. (other, n) ∷ row) same)))
  | inr h ↦ rw h.0 (rw h.0 (ap (λ (rest : Row). (other, count) ∷ rest) (back row b)))
]

pub raised_known : (row : Row) (b : ℕ) → leads_to row b ≡ true → raised row b ≡ with_count (λ n. n + 1) row b
raised_known row b known = rw known refl

pub raised_new : (row : Row) (b : ℕ) → leads_to row b ≡ false → raised row b ≡ (b, 1) ∷ row
raised_new row b unknown = rw unknown refl

pub raised_times : (row : Row) (b c : ℕ) → times_in (raised row b) c ≡ times_in row c + one_if (b == c)
raised_times row b c = elim (either (leads_to row b)) [
  | inl known ↦ ap (λ (r : Row). times_in r c) (raised_known row b known) ∙ elim (eqb_tells b c) [
    | inl h ↦ subst (λ c. times_in (with_count (λ n. n + 1) row b) c ≡ times_in row c + one_if (b == c)) h.1 (rw (eq-eqb b b refl) (with_count_here (λ n. n + 1) row b known))
    | inr h ↦ rw h.0 (with_count_other (λ n. n + 1) row b c h.1 ∙ omega arith)
  ]
  | inr unknown ↦ ap (λ (r : Row). times_in r c) (raised_new row b unknown) ∙ elim (eqb_tells b c) [
    | inl h ↦ (let none : times_in row c ≡ 0 = subst (λ c. times_in row c ≡ 0) h.1 (times_unknown row b unknown) in rw h.0 (omega (arith, none)))
    | inr h ↦ rw h.0 (omega arith)
  ]
]

pub raised_counted : (row : Row) (b : ℕ) → IsCounted row → IsCounted (raised row b)
raised_counted row b counted = elim (either (leads_to row b)) [
  | inl known ↦ subst IsCounted (sym (raised_known row b known)) (with_count_counted (λ n. n + 1) (λ n pos. omega arith) row b counted)
  | inr unknown ↦ subst IsCounted (sym (raised_new row b unknown)) (omega arith, counted)
]

pub raised_length : (row : Row) (b : ℕ) → length (raised row b) ≡ length row + one_if (if leads_to row b then false else true)
raised_length row b = elim (either (leads_to row b)) [
  | inl known ↦ ap (length {A = ℕ × ℕ}) (raised_known row b known) ∙ (with_count_length (λ n. n + 1) row b ∙ rw known (omega arith))
  | inr unknown ↦ ap (length {A = ℕ × ℕ}) (raised_new row b unknown) ∙ rw unknown (omega arith)
]

pub raised_leads : (row : Row) (b c : ℕ) → leads_to (raised row b) c ≡ (if b == c then true else leads_to row c)
raised_leads row b c = elim (either (leads_to row b)) [
  | inl known ↦ ap (λ (r : Row). leads_to r c) (raised_known row b known) ∙ (with_count_leads (λ n. n + 1) row b c ∙ elim (eqb_tells b c) [
    | inl h ↦ rw h.0 (subst (λ c. leads_to row c ≡ true) h.1 known)
    | inr h ↦ rw h.0 refl
  ])
  | inr unknown ↦ ap (λ (r : Row). leads_to r c) (raised_new row b unknown)
]

pub lowered_raised : (row : Row) (b : ℕ) → IsCounted row → lowered (raised row b) b ≡ row
lowered_raised row b counted = elim (either (leads_to row b)) [
  | inl known ↦
      let r = with_count (λ n. n + 1) row b in
      let times : times_in r b ≡ times_in row b + 1 = with_count_here (λ n. n + 1) row b known in
      let many : nat_le (times_in r b) 1 ≡ false = lt-leb (times_in r b) 1 (omega (arith, times, times_known row b counted known)) in
      let down : lowered r b ≡ with_count (λ n. n - 1) r b = rw many refl in
      ap (λ (r : Row). lowered r b) (raised_known row b known) ∙ (down ∙ back row b)
  | inr unknown ↦ ap (λ (r : Row). lowered r b) (raised_new row b unknown) ∙ rw (eq-eqb b b refl) refl
]

pub raised_lowers : (row : Row) (b : ℕ) → IsCounted row → CanBeLowered (raised row b) b
raised_lowers row b counted = elim (either (leads_to row b)) [
  | inl known ↦ inl (omega (arith, raised_times row b b, times_known row b counted known, ap one_if (eq-eqb b b refl)))
  | inr unknown ↦ inr (row, raised_new row b unknown)
]

pub leads_contains : (row : Row) (b : ℕ) → 0 < times_in row b → Contains (channels_of row) (channel_id b)
leads_contains [] b some = absurd (omega arith)
leads_contains ((other, count) ∷ row) b some = elim (eqb_tells other b) [
  | inl h ↦ subst (λ c. Contains (channel_id other ∷ channels_of row) (channel_id c)) h.1 (first (channel_id other) (channels_of row))
  | inr h ↦ later (channel_id other) (channels_of row) (channel_id b) (leads_contains row b (rw h.0 at some))
]

pub contains_leads : (row : Row) (b : ℕ) → IsCounted row → Contains (channels_of row) (channel_id b) → 0 < times_in row b
contains_leads [] b counted here = absurd (omega (arith, here.1))
contains_leads ((other, count) ∷ row) b counted here = elim (first_or_later (channel_id other) (channels_of row) (channel_id b) here) [
  | inl same ↦ rw (eq-eqb other b (ap (λ (c : ChannelId). c.0) same)) counted.0
  | inr behind ↦ elim (eqb_tells other b) [ inl h ↦ rw h.0 counted.0 | inr h ↦ rw h.0 (contains_leads row b counted.1 behind) ]
]

-- Packets are offered one after the other, in the order of their keys.
use Rattle.std.proofs.Common.{◌≡◌, ℕ, suc, ◌<◌, ◌≤◌, ◌⊎◌, inl, inr, Bool, true, false, List, [], ◌∷◌, length, refl, sym, ◌∙◌, ap, subst, arith, Some, None, Option}
use Rattle.std.specs.Prelude.{MatchOption, IfSome, slice_get, not, ◌&&◌, nat_lt, if◌then◌else◌}
use Rattle.std.proofs.lemmas.Bool.{cases_lt, lt-ltb, le-ltb}
use Rattle.fab_model.specs.Topology.{Topology}
use Rattle.fab_tables.specs.declared.plan.Plan.{Plan}
use Rattle.fab_tables.specs.declared.verdict.VirtualChannel.{VirtualChannel}
use Rattle.fab_tables.specs.First.{IsBefore}
use Rattle.fab_tables.proofs.Rows.Cells.{unsome}
use Rattle.fab_drain.specs.declared.packet.Packet.{Packet}
use Rattle.fab_drain.specs.Loads.{hops_of, stand_of, IsPacket, Load, Loaded, IsPlace, loaded_at, loaded_with, with_cell, StandsOn}
use Rattle.fab_drain.specs.Fills.{IsCandidate, key_of, key_of_row, IsFirstOf}
use Rattle.fab_drain.specs.Offers.{is_taken, offered_at, IsEarlyCandidate, GoesFurtherEarly, IsPlacedEarly, IsFilledBefore}
use Rattle.fab_tables.proofs.Faults.Firsts.{before_itself, before_through}
use Rattle.fab_drain.proofs.Cells.{read_same, read_other, one_channel}
use Rattle.fab_drain.proofs.Moving.{with_keeps}

pub not_both : (a b : List ℕ) → IsBefore a b → IsBefore b a → ⊥
not_both [] [] h i = h
not_both [] (n ∷ b) h i = i
not_both (m ∷ a) [] h i = h
not_both (m ∷ a) (n ∷ b) (inl h) (inl i) = absurd (omega (arith, h, i))
not_both (m ∷ a) (n ∷ b) (inl h) (inr i) = absurd (omega (arith, h, i.0))
not_both (m ∷ a) (n ∷ b) (inr h) (inl i) = absurd (omega (arith, h.0, i))
not_both (m ∷ a) (n ∷ b) (inr h) (inr i) = not_both a b h.1 i.1

-- the key of a packet
pub key_is : (t : Topology) (p : Plan) (q : Packet) → (x : IsPacket t p q) → key_of t q ≡ key_of_row q (Some x.row)
key_is t p q x = ap (λ o. key_of_row q o) x.terminal

module _ (t : Topology) (p : Plan) where
  -- ---- packets that change nothing

  -- a packet before the place stands where this one does, and both have as many hops to go
  pub record HasEcho (place : List ℕ) (q : Packet) : Type 0 where
    pub earlier : Packet
    pub is_packet : IsPacket t p earlier
    pub early : IsBefore (key_of t earlier) place
    pub before : IsBefore (key_of t earlier) (key_of t q)
    pub position : earlier.position ≡ q.position
    pub hops : hops_of t p earlier ≡ hops_of t p q

  -- where each packet more has an echo, what stands there stays
  module _ (place next : List ℕ) (grows : (q : Packet) → IsPacket t p q → IsBefore (key_of t q) place → IsBefore (key_of t q) next)
      (split : (q : Packet) → IsPacket t p q → IsBefore (key_of t q) next → IsBefore (key_of t q) place ⊎ HasEcho place q) where
    abbrev IsThere : (Packet → Type 0) → Packet → Type 0
    IsThere P q = (r : Packet) × P r × ((y : Packet) → IsBefore (key_of t q) (key_of t y) → IsBefore (key_of t r) (key_of t y))

    candidate_there : (v : VirtualChannel) (q : Packet) → IsEarlyCandidate t p next v q → IsThere (IsEarlyCandidate t p place v) q
    candidate_there v q c = elim (split q c.candidate.is_packet c.early) [
      | inl early ↦ (q, record { candidate = c.candidate; early = early }, λ y h. h)
      | inr echo ↦ (
        echo.earlier,
        record { candidate = record { is_packet = echo.is_packet; stands = ap (λ vs. slice_get vs echo.earlier.position) echo.hops ∙ ap (λ n. slice_get (hops_of t p q) n) echo.position ∙ c.candidate.stands }; early = echo.early },
        λ y h. before_through (key_of t echo.earlier) (key_of t q) (key_of t y) echo.before h,
      )
    ]

    further_there : (v : VirtualChannel) (q : Packet) → GoesFurtherEarly t p next v q → IsThere (GoesFurtherEarly t p place v) q
    further_there v q c = elim (split q c.further.candidate.is_packet c.early) [
      | inl early ↦ (q, record { further = c.further; early = early }, λ y h. h)
      | inr echo ↦ (
        echo.earlier,
        record {
          further = record {
            candidate = record { is_packet = echo.is_packet; stands = ap (λ vs. slice_get vs echo.earlier.position) echo.hops ∙ ap (λ n. slice_get (hops_of t p q) n) echo.position ∙ c.further.candidate.stands };
            further = omega (arith, c.further.further, echo.position, ap (λ (vs : List VirtualChannel). length vs) echo.hops);
          };
          early = echo.early;
        },
        λ y h. before_through (key_of t echo.earlier) (key_of t q) (key_of t y) echo.before h,
      )
    ]

    pub same_filling : (load : Load) → IsFilledBefore t p place load → IsFilledBefore t p next load
    same_filling load x = record { is_load = x.is_load; placed = λ v. go v (loaded_at load v) (x.placed v) }
      where
        go : (v : VirtualChannel) (o : Option Loaded) → MatchOption o ((q : Packet) → ¬ IsEarlyCandidate t p place v q) (λ (y : Loaded). IsPlacedEarly t p place v y.packet) →
            MatchOption o ((q : Packet) → ¬ IsEarlyCandidate t p next v q) (λ (y : Loaded). IsPlacedEarly t p next v y.packet)
        go v None none = λ q c. (let r : IsThere (IsEarlyCandidate t p place v) q = candidate_there v q c in none r.0 r.1)
        go v (Some y) (inl f) = inl (record {
          holds = record { further = f.holds.further; early = grows y.packet f.holds.further.candidate.is_packet f.holds.early };
          first = λ q c b. (let r : IsThere (GoesFurtherEarly t p place v) q = further_there v q c in f.first r.0 r.1 (r.2 y.packet b));
        })
        go v (Some y) (inr f) = inr (
          λ q c. (let r : IsThere (GoesFurtherEarly t p place v) q = further_there v q c in f.0 r.0 r.1),
          record {
            holds = record { candidate = f.1.holds.candidate; early = grows y.packet f.1.holds.candidate.is_packet f.1.holds.early };
            first = λ q c b. (let r : IsThere (IsEarlyCandidate t p place v) q = candidate_there v q c in f.1.first r.0 r.1 (r.2 y.packet b));
          },
        )

  -- two places with the same packets before them
  pub same_place : (a b : List ℕ) → ((q : Packet) → IsPacket t p q → IsBefore (key_of t q) a → IsBefore (key_of t q) b) → ((q : Packet) → IsPacket t p q → IsBefore (key_of t q) b → IsBefore (key_of t q) a) →
      (load : Load) → IsFilledBefore t p a load → IsFilledBefore t p b load
  same_place a b on back load filled = same_filling a b on (λ q x h. inl (back q x h)) load filled

  -- ---- one packet more

  module _ (place next : List ℕ) (load : Load) (filled : IsFilledBefore t p place load) (packet : Packet) (v : VirtualChannel) (is : IsPacket t p packet) (stands : stand_of t p packet ≡ Some v) (at : IsPlace load v)
      (key : key_of t packet ≡ place) (grows : (q : Packet) → IsPacket t p q → IsBefore (key_of t q) place → IsBefore (key_of t q) next) (here : IsBefore (key_of t packet) next)
      (split : (q : Packet) → IsPacket t p q → IsBefore (key_of t q) next → IsBefore (key_of t q) place ⊎ (q ≡ packet)) where
    abbrev new : Loaded
    new = loaded_with t p packet

    abbrev Further : Packet → Type 0
    Further q = suc q.position < length (hops_of t p q)

    candidate : IsCandidate t p v packet
    candidate = record { is_packet = is; stands = stands }

    -- those before come first
    not_earlier : (q : Packet) → IsBefore (key_of t q) place → ¬ IsBefore (key_of t packet) (key_of t q)
    not_earlier q early h = not_both (key_of t q) place early (subst (λ k. IsBefore k (key_of t q)) key h)

    -- another virtual channel has the same candidates
    same_candidate : (u : VirtualChannel) → (v ≡ u → ⊥) → (q : Packet) → IsCandidate t p u q → IsBefore (key_of t q) next → IsBefore (key_of t q) place
    same_candidate u other q c early = elim (split q c.is_packet early) [
      | inl h ↦ h
      | inr e ↦ absurd (other (unsome v u (sym stands ∙ ap (λ r. stand_of t p r) (sym e) ∙ c.stands)))
    ]

    elsewhere : (u : VirtualChannel) → (v ≡ u → ⊥) → (o : Option Loaded) → MatchOption o ((q : Packet) → ¬ IsEarlyCandidate t p place u q) (λ (y : Loaded). IsPlacedEarly t p place u y.packet) →
        MatchOption o ((q : Packet) → ¬ IsEarlyCandidate t p next u q) (λ (y : Loaded). IsPlacedEarly t p next u y.packet)
    elsewhere u other None none = λ q x. none q (record { candidate = x.candidate; early = same_candidate u other q x.candidate x.early })
    elsewhere u other (Some y) (inl x) = inl (record {
      holds = record { further = x.holds.further; early = grows y.packet x.holds.further.candidate.is_packet x.holds.early };
      first = λ q h. x.first q (record { further = h.further; early = same_candidate u other q h.further.candidate h.early });
    })
    elsewhere u other (Some y) (inr x) = inr (
      λ q h. x.0 q (record { further = h.further; early = same_candidate u other q h.further.candidate h.early }),
      record {
        holds = record { candidate = x.1.holds.candidate; early = grows y.packet x.1.holds.candidate.is_packet x.1.holds.early };
        first = λ q h. x.1.first q (record { candidate = h.candidate; early = same_candidate u other q h.candidate h.early });
      },
    )

    -- it is placed
    placed_new : IsPlacedEarly t p next v packet → IsFilledBefore t p next (with_cell load v (Some new))
    placed_new right = record {
      is_load = with_keeps t p load v (Some new) filled.is_load at (record { is_packet = is; stands = stands; remaining = refl });
      placed = λ u. elim (one_channel v u) [
        | inr other ↦ subst (λ o. MatchOption o ((q : Packet) → ¬ IsEarlyCandidate t p next u q) (λ (y : Loaded). IsPlacedEarly t p next u y.packet)) (sym (read_other load v u (Some new) at other)) (elsewhere u other (loaded_at load u) (filled.placed u))
        | inl e ↦ subst (λ w. MatchOption (loaded_at (with_cell load v (Some new)) w) ((q : Packet) → ¬ IsEarlyCandidate t p next w q) (λ (y : Loaded). IsPlacedEarly t p next w y.packet)) e
            (subst (λ o. MatchOption o ((q : Packet) → ¬ IsEarlyCandidate t p next v q) (λ (y : Loaded). IsPlacedEarly t p next v y.packet)) (sym (read_same load v (Some new) at)) right)
      ];
    }

    -- the other one stays
    placed_old : (y : Loaded) → loaded_at load v ≡ Some y → IsPlacedEarly t p next v y.packet → IsFilledBefore t p next load
    placed_old y e right = record {
      is_load = filled.is_load;
      placed = λ u. elim (one_channel v u) [
        | inr other ↦ elsewhere u other (loaded_at load u) (filled.placed u)
        | inl same ↦ subst (λ w. MatchOption (loaded_at load w) ((q : Packet) → ¬ IsEarlyCandidate t p next w q) (λ (x : Loaded). IsPlacedEarly t p next w x.packet)) same
            (subst (λ o. MatchOption o ((q : Packet) → ¬ IsEarlyCandidate t p next v q) (λ (x : Loaded). IsPlacedEarly t p next v x.packet)) (sym e) right)
      ];
    }

    first_further : Further packet → ((q : Packet) → ¬ GoesFurtherEarly t p place v q) → IsPlacedEarly t p next v packet
    first_further further none = inl (record { holds = record { further = record { candidate = candidate; further = further }; early = here }; first = first })
      where
        first : (q : Packet) → GoesFurtherEarly t p next v q → ¬ IsBefore (key_of t q) (key_of t packet)
        first q x h = elim (split q x.further.candidate.is_packet x.early) [
          | inl early ↦ none q (record { further = x.further; early = early })
          | inr e ↦ before_itself (key_of t packet) (subst (λ r. IsBefore (key_of t r) (key_of t packet)) e h)
        ]

    none_further : (Further packet → ⊥) → ((q : Packet) → ¬ GoesFurtherEarly t p place v q) → (q : Packet) → ¬ GoesFurtherEarly t p next v q
    none_further last none q x = elim (split q x.further.candidate.is_packet x.early) [
      | inl early ↦ none q (record { further = x.further; early = early })
      | inr e ↦ last (subst (λ r. Further r) e x.further.further)
    ]

    -- the first candidate
    only_one : (Further packet → ⊥) → ((q : Packet) → ¬ IsEarlyCandidate t p place v q) → IsPlacedEarly t p next v packet
    only_one last none = inr (
      none_further last (λ q x. none q (record { candidate = x.further.candidate; early = x.early })),
      record { holds = record { candidate = candidate; early = here }; first = first },
    )
      where
        first : (q : Packet) → IsEarlyCandidate t p next v q → ¬ IsBefore (key_of t q) (key_of t packet)
        first q x h = elim (split q x.candidate.is_packet x.early) [
          | inl early ↦ none q (record { candidate = x.candidate; early = early })
          | inr e ↦ before_itself (key_of t packet) (subst (λ r. IsBefore (key_of t r) (key_of t packet)) e h)
        ]

    -- the one that stands there comes first still
    stays_further : (q : Packet) → IsFirstOf t (λ r. GoesFurtherEarly t p place v r) q → IsPlacedEarly t p next v q
    stays_further q x = inl (record { holds = record { further = x.holds.further; early = grows q x.holds.further.candidate.is_packet x.holds.early }; first = first })
      where
        first : (r : Packet) → GoesFurtherEarly t p next v r → ¬ IsBefore (key_of t r) (key_of t q)
        first r y h = elim (split r y.further.candidate.is_packet y.early) [
          | inl early ↦ x.first r (record { further = y.further; early = early }) h
          | inr e ↦ not_earlier q x.holds.early (subst (λ s. IsBefore (key_of t s) (key_of t q)) e h)
        ]

    stays_first : (q : Packet) → (Further packet → ⊥) → ((r : Packet) → ¬ GoesFurtherEarly t p place v r) → IsFirstOf t (λ r. IsEarlyCandidate t p place v r) q → IsPlacedEarly t p next v q
    stays_first q last none x = inr (none_further last none, record { holds = record { candidate = x.holds.candidate; early = grows q x.holds.candidate.is_packet x.holds.early }; first = first })
      where
        first : (r : Packet) → IsEarlyCandidate t p next v r → ¬ IsBefore (key_of t r) (key_of t q)
        first r y h = elim (split r y.candidate.is_packet y.early) [
          | inl early ↦ x.first r (record { candidate = y.candidate; early = early }) h
          | inr e ↦ not_earlier q x.holds.early (subst (λ s. IsBefore (key_of t s) (key_of t q)) e h)
        ]

    by_test : (o : Option Loaded) (b : Bool) → loaded_at load v ≡ o → is_taken new o ≡ b → offered_at load v new ≡ (if b then with_cell load v (Some new) else load)
    by_test o b e f = ap (λ x. if is_taken new x then with_cell load v (Some new) else load) e ∙ ap (λ x. if x then with_cell load v (Some new) else load) f

    tests : (y : Loaded) (a b : Bool) → nat_lt 1 new.remaining ≡ a → nat_lt 1 y.remaining ≡ b → is_taken new (Some y) ≡ (a && not b)
    tests y a b e f = ap (λ x. x && not (nat_lt 1 y.remaining)) e ∙ ap (λ x. a && not x) f

    further_by : 1 < new.remaining → Further packet
    further_by h = omega (arith, h)

    last_by : new.remaining ≤ 1 → Further packet → ⊥
    last_by h f = omega (arith, h, f)

    pub one_offered : IsFilledBefore t p next (offered_at load v new)
    one_offered = go (loaded_at load v) refl (filled.placed v)
      where
        stand : (y : Loaded) → loaded_at load v ≡ Some y → StandsOn t p v y
        stand y e = subst (λ o. IfSome o (StandsOn t p v)) e (filled.is_load.stand v)

        takes : (b : Bool) (o : Option Loaded) → loaded_at load v ≡ o → is_taken new o ≡ b → b ≡ true → IsPlacedEarly t p next v packet → IsFilledBefore t p next (offered_at load v new)
        takes b o e f g right = subst (λ l. IsFilledBefore t p next l) (sym (by_test o true e (f ∙ g))) (placed_new right)

        keeps : (y : Loaded) (b : Bool) → loaded_at load v ≡ Some y → is_taken new (Some y) ≡ b → b ≡ false → IsPlacedEarly t p next v y.packet → IsFilledBefore t p next (offered_at load v new)
        keeps y b e f g right = subst (λ l. IsFilledBefore t p next l) (sym (by_test (Some y) false e (f ∙ g))) (placed_old y e right)

        first_there : ((q : Packet) → ¬ IsEarlyCandidate t p place v q) → IsPlacedEarly t p next v packet
        first_there none = elim (cases_lt 1 new.remaining) [
          | inl h ↦ first_further (further_by h) (λ q x. none q (record { candidate = x.further.candidate; early = x.early }))
          | inr h ↦ only_one (last_by h) none
        ]

        go : (o : Option Loaded) → loaded_at load v ≡ o → MatchOption o ((q : Packet) → ¬ IsEarlyCandidate t p place v q) (λ (y : Loaded). IsPlacedEarly t p place v y.packet) → IsFilledBefore t p next (offered_at load v new)
        go None e none = takes true None e refl refl (first_there none)
        go (Some y) e (inl x) =
            let still : 1 < y.remaining = omega (arith, (stand y e).remaining, x.holds.further.further) in
            let other : Bool = nat_lt 1 new.remaining in
            keeps y (other && false) e (tests y other true refl (lt-ltb 1 y.remaining still)) (and_false other) (stays_further y.packet x)
          where
            and_false : (b : Bool) → (b && false) ≡ false
            and_false true = refl
            and_false false = refl
        go (Some y) e (inr x) =
            let last : y.remaining ≤ 1 = not_further (cases_lt 1 y.remaining) in
            elim (cases_lt 1 new.remaining) [
              | inl h ↦ takes true (Some y) e (tests y true false (lt-ltb 1 new.remaining h) (le-ltb 1 y.remaining last)) refl (first_further (further_by h) x.0)
              | inr h ↦ keeps y false e (tests y false false (le-ltb 1 new.remaining h) (le-ltb 1 y.remaining last)) refl (stays_first y.packet (last_by h) x.0 x.1)
            ]
          where
            not_further : (1 < y.remaining) ⊎ (y.remaining ≤ 1) → y.remaining ≤ 1
            not_further (inr h) = h
            not_further (inl h) =
                absurd (x.0 y.packet (record { further = record { candidate = x.1.holds.candidate; further = omega (arith, h, (stand y e).remaining) }; early = x.1.holds.early }))

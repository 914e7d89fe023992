-- A fabric is filled LID by LID, and for each LID start by start.
use Rattle.std.proofs.Common.{◌≡◌, ℕ, zero, suc, ◌+◌, ◌-◌, ◌*◌, ◌<◌, ◌≤◌, ◌⊎◌, inl, inr, Bool, true, false, cond, eqb, List, [], ◌∷◌, length, replicate, drop, refl, sym, ◌∙◌, ap, subst, arith, Some, None, Option, Contains}
use Rattle.std.specs.Prelude.{slice_get, slice_index, slice_index_or, MatchOption, IfSome, nat_lt, not}
use Rattle.std.specs.List.{position_or_len}
use Rattle.std.specs.List.Sorted.{IsStrictlyIncreasing}
use Rattle.std.proofs.lemmas.Bool.{cases_lt, lt-ltb, eqb-true, eq-eqb, and_parts, and_from, false≢true}
use Rattle.std.proofs.lemmas.List.Quantifiers.{position-Some}
use Rattle.std.proofs.lemmas.List.{get_or_default, length-replicate}
use Rattle.std.proofs.lemmas.List.Kept.{AllPairs-from_increasing}
use Rattle.std.proofs.lemmas.Option.{slice_get_within, get_or_from_slice_get, slice_get-get_or, same_Some}
use Rattle.fab_model.specs.declared.rows.Lid.{Lid}
use Rattle.fab_model.specs.declared.rows.TerminalId.{TerminalId}
use Rattle.fab_model.specs.declared.rows.TerminalRow.{TerminalRow}
use Rattle.fab_model.specs.Topology.{Topology, lids_of, terminal_at, is_cabled_at}
use Rattle.fab_model.specs.WellFormed.{IsFabric}
use Rattle.fab_tables.specs.declared.plan.Plan.{Plan}
use Rattle.fab_tables.specs.declared.starts.Start.{Start}
use Rattle.fab_tables.specs.declared.verdict.VirtualChannel.{VirtualChannel}
use Rattle.fab_tables.specs.Dependencies.{IsPath, node_of}
use Rattle.fab_tables.specs.First.{IsBefore}
use Rattle.fab_tables.specs.Reading.{count_read, hops_read}
use Rattle.fab_tables.specs.Starts.{start_of, IsOfTerminal}
use Rattle.fab_tables.proofs.Joined.Lids.{connected_in_use}
use Rattle.fab_tables.proofs.Paths.Ways.{drop_step}
use Rattle.fab_tables.proofs.Verdicts.CertifiedLaws.{none_some}
use Rattle.fab_drain.specs.declared.packet.Packet.{Packet}
use Rattle.fab_certify.specs.Certificate.{IsSoundPlan}
use Rattle.fab_drain.specs.Loads.{hops_of, hops_of_row, stand_of, IsPacket, Load, Loaded, IsPlace, loaded_at, loaded_with, StandsOn}
use Rattle.fab_drain.specs.Fills.{IsCandidate, key_of, key_of_row, IsPlaced, IsFilling}
use Rattle.fab_drain.specs.Offers.{offered_at, IsEarlyCandidate, IsPlacedEarly, IsFilledBefore, before_start, behind_start, behind_lids, at_position}
use Rattle.fab_drain.proofs.Cells.{read_there, read_past}
use Rattle.fab_drain.proofs.Moving.{stand_place}
use Rattle.fab_drain.proofs.Offering.{key_is, same_place, one_offered}
use Rattle.fab_drain.proofs.OfferPlaces.{before_key, key_before, before_more, before_grows}
use Rattle.fab_drain.proofs.OneFilling.{one_packet, one_terminal}

-- ---- one route

-- so many hops have been offered
pub record IsOffering (t : Topology) (p : Plan) (row : TerminalRow) (lid : Lid) (left : List VirtualChannel) (position remaining : ℕ) (load : Load) : Type 0 where
  pub ahead : left ≡ drop position (hops_read t p row lid.0)
  pub whole : remaining + position ≡ length (hops_read t p row lid.0)
  pub filled : IsFilledBefore t p (at_position lid.0 (start_of row) position) load

-- a start's terminal is found
some_place : {X : Type 0} (test : X → Bool) (xs : List X) (k : ℕ) (x : X) → slice_get xs k ≡ Some x → test x ≡ true → position_or_len test xs < length xs
some_place test [] k x at passes = absurd (none_some x at)
some_place test (y ∷ xs) k x at passes = go (λ j h. some_place test xs j x h passes) (test y) refl k at
  where
    go : ((j : ℕ) → slice_get xs j ≡ Some x → position_or_len test xs < length xs) → (b : Bool) → test y ≡ b → (k : ℕ) → slice_get (y ∷ xs) k ≡ Some x → cond (not b) (1 + position_or_len test xs) 0 < suc (length xs)
    go rest true e k h = omega arith
    go rest false e zero h = absurd (false≢true (sym e ∙ ap test (same_Some y x h) ∙ passes))
    go rest false e (suc j) h = omega (arith, rest j h)

none_is : (b : Bool) (n : ℕ) → b ≡ true → cond b (Some n) None ≡ None → ⊥
none_is b n e missed = none_some n (sym missed ∙ ap (λ x. cond x (Some n) None) e)

pub terminal_missed : (t : Topology) (start : Start) → IsOfTerminal t start → terminal_at t start.switch.0 start.port ≡ None → ⊥
terminal_missed t start of missed =
    let row : TerminalRow = of.0 in
    let at : slice_get t.terminals of.1.0 ≡ Some row = slice_get-get_or t.terminals of.1.0 row of.1.1 ∙ ap Some of.1.2 in
    let cabled : is_cabled_at start.switch.0 start.port row ≡ true =
    ap (λ (s : Start). is_cabled_at s.switch.0 s.port row) (sym of.2) ∙ and_from (eqb row.switch.0 row.switch.0) (eqb row.port row.port) (eq-eqb row.switch.0 row.switch.0 refl) (eq-eqb row.port row.port refl) in
    none_is (nat_lt (position_or_len (is_cabled_at start.switch.0 start.port) t.terminals) (length t.terminals)) _ (lt-ltb _ _ (some_place (is_cabled_at start.switch.0 start.port) t.terminals of.1.0 row at cabled)) missed

pub terminal_found : (t : Topology) (start : Start) (k : ℕ) (row : TerminalRow) → terminal_at t start.switch.0 start.port ≡ Some k → slice_get t.terminals k ≡ Some row → start_of row ≡ start
terminal_found t start k row found at =
    let there : (k < length t.terminals) × (is_cabled_at start.switch.0 start.port (slice_index_or t.terminals k row) ≡ true) × ((j : ℕ) → j < k → is_cabled_at start.switch.0 start.port (slice_index_or t.terminals j row) ≡ false) =
    position-Some (is_cabled_at start.switch.0 start.port) t.terminals k row found in
    let cabled : is_cabled_at start.switch.0 start.port row ≡ true = ap (λ r. is_cabled_at start.switch.0 start.port r) (sym (get_or_from_slice_get t.terminals k row row at)) ∙ there.1 in
    let parts : (eqb row.switch.0 start.switch.0 ≡ true) × (eqb row.port start.port ≡ true) = and_parts (eqb row.switch.0 start.switch.0) (eqb row.port start.port) cabled in
    ap (λ s. record { switch = record { 0 = s }; port = row.port }) (eqb-true row.switch.0 start.switch.0 parts.0) ∙ ap (λ n. record { switch = start.switch; port = n }) (eqb-true row.port start.port parts.1)

module _ (t : Topology) (p : Plan) (admitted : IsSoundPlan t p) (terminal : TerminalId) (row : TerminalRow) (at : slice_get t.terminals terminal.0 ≡ Some row) (lid : Lid) (path : IsPath t row lid.0) where
  abbrev pub packet_at : ℕ → Packet
  packet_at k = record { terminal = terminal; lid = lid; position = k }

  abbrev pub route_hops : List VirtualChannel
  route_hops = hops_read t p row lid.0

  own_hops : (k : ℕ) → hops_of t p (packet_at k) ≡ route_hops
  own_hops k = ap (λ o. hops_of_row t p lid.0 o) at

  own_key : (k : ℕ) → key_of t (packet_at k) ≡ at_position lid.0 (start_of row) k
  own_key k = ap (λ o. key_of_row (packet_at k) o) at

  pub offering_begins : (load : Load) (n : ℕ) → n ≡ length route_hops → IsFilledBefore t p (before_start lid.0 (start_of row)) load → IsOffering t p row lid route_hops 0 n load
  offering_begins load n whole filled = record { ahead = refl; whole = omega (arith, whole); filled = same_place t p (before_start lid.0 (start_of row)) (at_position lid.0 (start_of row) 0) (λ q x h. key_before t p q x (at_position lid.0 (start_of row) 0) (on q.lid.0 x.row.switch.0 x.row.port q.position lid.0 row.switch.0 row.port (before_key t p q x (before_start lid.0 (start_of row)) h))) (λ q x h. key_before t p q x (before_start lid.0 (start_of row)) (back q.lid.0 x.row.switch.0 x.row.port q.position lid.0 row.switch.0 row.port (before_key t p q x (at_position lid.0 (start_of row) 0) h))) load filled }
    where
      on : (a b c d x y z : ℕ) → IsBefore (a ∷ b ∷ c ∷ d ∷ []) (x ∷ y ∷ z ∷ []) → IsBefore (a ∷ b ∷ c ∷ d ∷ []) (x ∷ y ∷ z ∷ 0 ∷ [])
      on a b c d x y z h = elim h [
        | inl i ↦ inl i
        | inr u ↦ elim u.1 [
          | inl i ↦ inr (u.0, inl i)
          | inr v ↦ elim v.1 [ inl i ↦ inr (u.0, inr (v.0, inl i)) | inr w ↦ absurd w.1 ]
        ]
      ]

      back : (a b c d x y z : ℕ) → IsBefore (a ∷ b ∷ c ∷ d ∷ []) (x ∷ y ∷ z ∷ 0 ∷ []) → IsBefore (a ∷ b ∷ c ∷ d ∷ []) (x ∷ y ∷ z ∷ [])
      back a b c d x y z h = elim h [
        | inl i ↦ inl i
        | inr u ↦ elim u.1 [
          | inl i ↦ inr (u.0, inl i)
          | inr v ↦ elim v.1 [
            | inl i ↦ inr (u.0, inr (v.0, inl i))
            | inr w ↦ elim w.1 [ inl i ↦ absurd (omega (arith, i)) | inr r ↦ absurd r.1 ]
          ]
        ]
      ]

  module _ (left : List VirtualChannel) (v : VirtualChannel) (rest : List VirtualChannel) (k remaining : ℕ) (load : Load) (on : IsOffering t p row lid left k remaining load) (next : left ≡ v ∷ rest) where
    hop : (slice_get route_hops k ≡ Some v) × (rest ≡ drop (suc k) route_hops)
    hop = drop_step route_hops rest k v (sym next ∙ on.ahead)

    pub hop_low : k < length route_hops
    hop_low = slice_get_within route_hops k v hop.0

    is_packet : IsPacket t p (packet_at k)
    is_packet = record { row = row; terminal = at; path = path; position = subst (λ vs. k < length vs) (sym (own_hops k)) hop_low }

    stands : stand_of t p (packet_at k) ≡ Some v
    stands = ap (λ vs. slice_get vs k) (own_hops k) ∙ hop.0

    pub some_remain : 0 < remaining
    some_remain = omega (arith, hop_low, on.whole)

    pub offer_place : IsPlace load v
    offer_place = stand_place t p load (packet_at k) v admitted on.filled.is_load is_packet stands

    loaded_is : (record { packet = packet_at k; remaining = remaining }) ≡ loaded_with t p (packet_at k)
    loaded_is =
        let same : remaining ≡ length (hops_of t p (packet_at k)) - k = omega (arith, on.whole, ap (λ (vs : List VirtualChannel). length vs) (own_hops k)) in
        ap (λ n. record { packet = packet_at k; remaining = n }) same

    pub offering_goes : (new : Load) → new ≡ offered_at load v (record { packet = packet_at k; remaining = remaining }) → IsOffering t p row lid rest (k + 1) (remaining - 1) new
    offering_goes new is = record {
      ahead = hop.1 ∙ ap (λ n. drop n route_hops) (next_number k);
      whole = omega (arith, on.whole, some_remain);
      filled = subst (λ n. IsFilledBefore t p (at_position lid.0 (start_of row) n) new) (next_number k)
          (subst (λ l. IsFilledBefore t p (at_position lid.0 (start_of row) (suc k)) l) (sym (is ∙ ap (λ x. offered_at load v x) loaded_is))
          (one_offered t p (at_position lid.0 (start_of row) k) (at_position lid.0 (start_of row) (suc k)) load on.filled (packet_at k) v is_packet stands offer_place (own_key k) grows here split));
    }
      where
        next_number : (n : ℕ) → suc n ≡ n + 1
        next_number n = omega arith

        grows : (q : Packet) → IsPacket t p q → IsBefore (key_of t q) (at_position lid.0 (start_of row) k) → IsBefore (key_of t q) (at_position lid.0 (start_of row) (suc k))
        grows q x h = key_before t p q x (at_position lid.0 (start_of row) (suc k)) (before_grows q.lid.0 x.row.switch.0 x.row.port q.position lid.0 row.switch.0 row.port k (suc k) (omega arith) (before_key t p q x (at_position lid.0 (start_of row) k) h))

        here : IsBefore (key_of t (packet_at k)) (at_position lid.0 (start_of row) (suc k))
        here = subst (λ key. IsBefore key (at_position lid.0 (start_of row) (suc k))) (sym (own_key k)) (inr (refl, inr (refl, inr (refl, inl (omega arith)))))

        split : (q : Packet) → IsPacket t p q → IsBefore (key_of t q) (at_position lid.0 (start_of row) (suc k)) → IsBefore (key_of t q) (at_position lid.0 (start_of row) k) ⊎ (q ≡ packet_at k)
        split q x h = elim (before_more q.lid.0 x.row.switch.0 x.row.port q.position lid.0 row.switch.0 row.port k (before_key t p q x (at_position lid.0 (start_of row) (suc k)) h)) [
          | inl early ↦ inl (key_before t p q x (at_position lid.0 (start_of row) k) early)
          | inr e ↦ inr (one_packet t p on.filled.is_load.fabric q (packet_at k) x is_packet (key_is t p q x ∙ keys q.lid.0 x.row.switch.0 x.row.port q.position e.0 e.1 e.2 e.3 ∙ sym (own_key k)))
        ]
          where
            keys : (a b c d : ℕ) → a ≡ lid.0 → b ≡ row.switch.0 → c ≡ row.port → d ≡ k → a ∷ b ∷ c ∷ d ∷ [] ≡ at_position lid.0 (start_of row) k
            keys a b c d e f g h = cc

  pub offering_ends : (left : List VirtualChannel) (k remaining : ℕ) (load : Load) → IsOffering t p row lid left k remaining load → left ≡ [] → IsFilledBefore t p (behind_start lid.0 (start_of row)) load
  offering_ends left k remaining load on none = same_place t p (at_position lid.0 (start_of row) k) (behind_start lid.0 (start_of row))
      (λ q x h. key_before t p q x (behind_start lid.0 (start_of row)) (onward q.lid.0 x.row.switch.0 x.row.port q.position (before_key t p q x (at_position lid.0 (start_of row) k) h)))
      (λ q x h. key_before t p q x (at_position lid.0 (start_of row) k) (back q x (before_key t p q x (behind_start lid.0 (start_of row)) h)))
      load on.filled
    where
      dropped : (vs : List VirtualChannel) (n : ℕ) → drop n vs ≡ [] → length vs ≤ n
      dropped [] n e = omega arith
      dropped (v ∷ vs) zero e = cc
      dropped (v ∷ vs) (suc n) e = omega (arith, dropped vs n e)

      all : length route_hops ≤ k
      all = dropped route_hops k (sym on.ahead ∙ none)

      onward : (a b c d : ℕ) → IsBefore (a ∷ b ∷ c ∷ d ∷ []) (at_position lid.0 (start_of row) k) → IsBefore (a ∷ b ∷ c ∷ d ∷ []) (behind_start lid.0 (start_of row))
      onward a b c d h = elim h [
        | inl i ↦ inl i
        | inr u ↦ elim u.1 [
          | inl i ↦ inr (u.0, inl i)
          | inr v ↦ elim v.1 [
            | inl i ↦ inr (u.0, inr (v.0, inl (omega (arith, i))))
            | inr w ↦ inr (u.0, inr (v.0, inl (omega (arith, w.0))))
          ]
        ]
      ]

      back : (q : Packet) → (x : IsPacket t p q) → IsBefore (key_of_row q (Some x.row)) (behind_start lid.0 (start_of row)) → IsBefore (key_of_row q (Some x.row)) (at_position lid.0 (start_of row) k)
      back q x h = elim h [
        | inl i ↦ inl i
        | inr u ↦ elim u.1 [
          | inl i ↦ inr (u.0, inl i)
          | inr v ↦ elim v.1 [
            | inr w ↦ absurd w.1
            | inl i ↦ elim (cases_lt x.row.port row.port) [
              | inl less ↦ inr (u.0, inr (v.0, inl less))
              | inr more ↦
                  (let port : x.row.port ≡ row.port = omega (arith, i, more) in
                  inr (u.0, inr (v.0, inr (port, inl (omega (arith, all, short q x u.0 (one_terminal t on.filled.is_load.fabric q.terminal.0 terminal.0 x.row row x.terminal at v.0 port)))))))
            ]
          ]
        ]
      ]
        where
          short : (q : Packet) → (x : IsPacket t p q) → q.lid.0 ≡ lid.0 → q.terminal.0 ≡ terminal.0 → q.position < length route_hops
          short q x e f =
              let hops : hops_of t p q ≡ route_hops = ap (λ n. hops_of_row t p n (slice_get t.terminals q.terminal.0)) e ∙ ap (λ n. hops_of_row t p lid.0 (slice_get t.terminals n)) f ∙ ap (λ o. hops_of_row t p lid.0 o) at in
              subst (λ vs. q.position < length vs) hops x.position

-- ---- all LIDs

module _ (t : Topology) (p : Plan) (rises : IsStrictlyIncreasing (lids_of t)) where
  in_use : (q : Packet) → (x : IsPacket t p q) → Contains (lids_of t) q.lid.0
  in_use q x = connected_in_use t x.row.switch.0 q.lid.0 x.path.connected

  read_zero : (k d : ℕ) → k < length (lids_of t) → slice_index (lids_of t) k ≡ slice_index_or (lids_of t) k d
  read_zero k d low = get_or_default (lids_of t) k 0 d low

  later_lid : (m k d : ℕ) → m < k → k < length (lids_of t) → slice_index_or (lids_of t) m d < slice_index_or (lids_of t) k d
  later_lid m k d less low = AllPairs-from_increasing (lids_of t) rises m k d less low

  behind_of_lids : (q : Packet) → (x : IsPacket t p q) → (k : ℕ) → k ≤ length (lids_of t) → IsBefore (key_of_row q (Some x.row)) (behind_lids (lids_of t) k) → (in_use q x).0 < k
  behind_of_lids q x zero h early = absurd early
  behind_of_lids q x (suc k) h early = elim early [
    | inr u ↦ absurd u.1
    | inl i ↦
        (let has : Contains (lids_of t) q.lid.0 = in_use q x in
        elim (cases_lt has.0 (suc k)) [
          | inl less ↦ less
          | inr more ↦ absurd (omega (arith, i, read_zero k q.lid.0 (omega (arith, h)), later_lid k has.0 q.lid.0 (omega (arith, more)) has.1, has.2))
        ])
  ]

  lids_behind : (q : Packet) → (x : IsPacket t p q) → (k : ℕ) → k ≤ length (lids_of t) → (in_use q x).0 < k → IsBefore (key_of_row q (Some x.row)) (behind_lids (lids_of t) k)
  lids_behind q x zero h less = absurd (omega (arith, less))
  lids_behind q x (suc k) h less =
      let has : Contains (lids_of t) q.lid.0 = in_use q x in
      elim (cases_lt has.0 k) [
        | inl low ↦ inl (omega (arith, read_zero k q.lid.0 (omega (arith, h)), later_lid has.0 k q.lid.0 low (omega (arith, h)), has.2))
        | inr high ↦
            (let same : has.0 ≡ k = omega (arith, less, high) in
            inl (omega (arith, read_zero k q.lid.0 (omega (arith, h)), ap (λ n. slice_index_or (lids_of t) n q.lid.0) same, has.2)))
      ]

  -- the next LID
  pub to_lid : (k lid : ℕ) → slice_get (lids_of t) k ≡ Some lid → (load : Load) → IsFilledBefore t p (behind_lids (lids_of t) k) load → IsFilledBefore t p (lid ∷ []) load
  to_lid k lid at load filled = same_place t p (behind_lids (lids_of t) k) (lid ∷ [])
      (λ q x h. key_before t p q x (lid ∷ []) (inl (lower q x (behind_of_lids q x k (omega (arith, low)) (before_key t p q x (behind_lids (lids_of t) k) h)))))
      (λ q x h. key_before t p q x (behind_lids (lids_of t) k) (lids_behind q x k (omega (arith, low)) (back q x (before_key t p q x (lid ∷ []) h))))
      load filled
    where
      low : k < length (lids_of t)
      low = slice_get_within (lids_of t) k lid at

      lower : (q : Packet) → (x : IsPacket t p q) → (in_use q x).0 < k → q.lid.0 < lid
      lower q x less =
          let has : Contains (lids_of t) q.lid.0 = in_use q x in
          omega (arith, later_lid has.0 k q.lid.0 less low, has.2, get_or_from_slice_get (lids_of t) k lid q.lid.0 at)

      back : (q : Packet) → (x : IsPacket t p q) → IsBefore (key_of_row q (Some x.row)) (lid ∷ []) → (in_use q x).0 < k
      back q x h = elim h [
        | inr u ↦ absurd u.1
        | inl i ↦
            (let has : Contains (lids_of t) q.lid.0 = in_use q x in
            elim (cases_lt has.0 k) [
              | inl less ↦ less
              | inr more ↦ elim (cases_lt k has.0) [
                | inl above ↦ absurd (omega (arith, i, later_lid k has.0 q.lid.0 above has.1, has.2, get_or_from_slice_get (lids_of t) k lid q.lid.0 at))
                | inr below ↦
                    (let same : has.0 ≡ k = omega (arith, more, below) in
                    absurd (omega (arith, i, ap (λ n. slice_index_or (lids_of t) n q.lid.0) same, has.2, get_or_from_slice_get (lids_of t) k lid q.lid.0 at)))
              ]
            ])
      ]

  pub from_lid : (k lid : ℕ) → slice_get (lids_of t) k ≡ Some lid → (load : Load) → IsFilledBefore t p (suc lid ∷ []) load → IsFilledBefore t p (behind_lids (lids_of t) (suc k)) load
  from_lid k lid at load filled =
      subst (λ n. IsFilledBefore t p (suc n ∷ []) load) (sym (get_or_from_slice_get (lids_of t) k lid 0 at)) filled

  -- the whole filling
  pub whole_filling : (load : Load) → IsFilledBefore t p (behind_lids (lids_of t) (length (lids_of t))) load → IsFilling t p load
  whole_filling load filled = record { is_load = filled.is_load; placed = λ v. go v (loaded_at load v) (filled.placed v) }
    where
      end : List ℕ
      end = behind_lids (lids_of t) (length (lids_of t))

      early : (q : Packet) → IsPacket t p q → IsBefore (key_of t q) (behind_lids (lids_of t) (length (lids_of t)))
      early q x = key_before t p q x (behind_lids (lids_of t) (length (lids_of t))) (lids_behind q x (length (lids_of t)) (omega arith) (in_use q x).1)

      go : (v : VirtualChannel) (o : Option Loaded) → MatchOption o ((q : Packet) → ¬ IsEarlyCandidate t p (behind_lids (lids_of t) (length (lids_of t))) v q) (λ (y : Loaded). IsPlacedEarly t p (behind_lids (lids_of t) (length (lids_of t))) v y.packet) →
          MatchOption o ((q : Packet) → ¬ IsCandidate t p v q) (λ (y : Loaded). IsPlaced t p v y.packet)
      go v None none = λ q c. none q (record { candidate = c; early = early q c.is_packet })
      go v (Some y) (inl x) = inl (record { holds = x.holds.further; first = λ q g. x.first q (record { further = g; early = early q g.candidate.is_packet }) })
      go v (Some y) (inr x) = inr (
        λ q g. x.0 q (record { further = g; early = early q g.candidate.is_packet }),
        record { holds = x.1.holds.candidate; first = λ q c. x.1.first q (record { candidate = c; early = early q c.is_packet }) },
      )

-- ---- at first no packet is there

pub nothing_filled : (t : Topology) (p : Plan) (load : Load) → IsFabric t → load.count ≡ count_read p.lanes → load.cells ≡ replicate (length t.channels * load.count) None → IsFilledBefore t p [] load
nothing_filled t p load is count cells = record {
  is_load = record {
    fabric = is;
    count = count;
    each = ap (λ (xs : List (Option Loaded)). length xs) cells ∙ length-replicate (length t.channels * load.count) None;
    stand = λ v. subst (λ o. IfSome o (StandsOn t p v)) (sym (none v)) tt;
  };
  placed = λ v. subst (λ o. MatchOption o ((q : Packet) → ¬ IsEarlyCandidate t p [] v q) (λ (y : Loaded). IsPlacedEarly t p [] v y.packet)) (sym (none v)) (λ q x. nothing_early (key_of t q) x.early);
}
  where
    nothing_early : (key : List ℕ) → IsBefore key [] → ⊥
    nothing_early [] h = h
    nothing_early (n ∷ ns) h = h

    all_none : (n k : ℕ) → slice_index_or (replicate {A = Option Loaded} n None) k None ≡ None
    all_none zero k = refl
    all_none (suc n) zero = refl
    all_none (suc n) (suc k) = all_none n k

    none : (v : VirtualChannel) → loaded_at load v ≡ None
    none v = elim (cases_lt v.lane load.count) [
      | inl low ↦ read_there load v low ∙ ap (λ (xs : List (Option Loaded)). slice_index_or xs (node_of load.count v) None) cells ∙ all_none (length t.channels * load.count) (node_of load.count v)
      | inr past ↦ read_past load v past
    ]

-- The places of offers: no packet stands between the end of one start, or one LID, and the begin of the next.
use Rattle.std.proofs.Common.{◌≡◌, ◌≢◌, ℕ, zero, suc, ◌<◌, ◌≤◌, ◌⊎◌, inl, inr, List, [], ◌∷◌, length, map, refl, sym, ◌∙◌, ap, subst, arith, Some, None, Option, Contains}
use Rattle.std.specs.Prelude.{IfSome, slice_get, slice_index_or}
use Rattle.std.specs.List.{range_with_len}
use Rattle.std.proofs.lemmas.Bool.{cases_lt, cases_eq}
use Rattle.std.proofs.lemmas.List.{get_or_default}
use Rattle.std.proofs.lemmas.List.FromFn.{get_or-map-range_with_len, length-map-range_with_len}
use Rattle.std.proofs.lemmas.Option.{slice_get_within, get_or_from_slice_get, slice_get-get_or}
use Rattle.fab_model.specs.declared.rows.SwitchId.{SwitchId}
use Rattle.fab_model.specs.declared.rows.TerminalRow.{TerminalRow}
use Rattle.fab_model.specs.Topology.{Topology, place_of}
use Rattle.fab_model.specs.Connected.{IsConnectedTo}
use Rattle.fab_model.specs.WellFormed.{IsFabric}
use Rattle.fab_tables.specs.declared.plan.Plan.{Plan}
use Rattle.fab_tables.specs.declared.starts.Start.{Start}
use Rattle.fab_tables.specs.declared.verdict.VirtualChannel.{VirtualChannel}
use Rattle.fab_tables.specs.First.{IsBefore}
use Rattle.fab_tables.specs.LaneTables.{LaneTables}
use Rattle.fab_tables.specs.Plain.{plain_channels}
use Rattle.fab_tables.specs.Reading.{channels_read, hops_read}
use Rattle.fab_tables.specs.Route.{route}
use Rattle.fab_tables.specs.Starts.{start_of, StartsNotAfter, IsOfTerminal, AreStarts}
use Rattle.fab_tables.specs.VirtualChannels.{virtual_channel}
use Rattle.fab_tables.proofs.Verdicts.PlainLaws.{same_channels}
use Rattle.fab_tables.proofs.Verdicts.CertifiedLaws.{none_some}
use Rattle.fab_drain.specs.declared.packet.Packet.{Packet}
use Rattle.fab_drain.specs.Loads.{hops_of, hops_of_row, IsPacket, Load}
use Rattle.fab_drain.specs.Fills.{key_of, key_of_row}
use Rattle.fab_drain.specs.Offers.{AreAlike, IsFilledBefore, before_start, behind_start, behind_of, behind_starts}
use Rattle.fab_drain.proofs.Offering.{key_is, HasEcho, same_filling, same_place}
use Rattle.fab_drain.proofs.OneFilling.{one_terminal}
use Rattle.fab_drain.proofs.Rings.{Repeats, pigeonhole}

-- ---- packets that go alike

alike_read : (t : Topology) (p : Plan) (o : Option LaneTables) → IfSome o (λ (l : LaneTables). l.pairs ≡ []) → (a b : TerminalRow) (lid : ℕ) → a.switch.0 ≡ b.switch.0 → channels_read t p o a lid ≡ channels_read t p o b lid
alike_read t p None none a b lid same = ap (λ s. map (λ c. virtual_channel c 0) (route t p.tables s lid).channels) same
alike_read t p (Some l) none a b lid same =
    same_channels t p.tables l none a lid ∙ ap (λ s. plain_channels t p.tables l s lid) same ∙ sym (same_channels t p.tables l none b lid)

hops_alike : (t : Topology) (p : Plan) → AreAlike p → (a b : TerminalRow) (lid : ℕ) → a.switch.0 ≡ b.switch.0 → hops_read t p a lid ≡ hops_read t p b lid
hops_alike t p alike a b lid same = alike_read t p p.lanes alike a b lid same

-- ---- starts rise

-- the one comes before the other
abbrev pub StartsBefore : Start → Start → Type 0
StartsBefore a b = (a.switch.0 < b.switch.0) ⊎ ((a.switch.0 ≡ b.switch.0) × (a.port < b.port))

not_after_before : (a b : Start) → StartsNotAfter a b → StartsBefore b a → ⊥
not_after_before a b (inl h) (inl i) = absurd (omega (arith, h, i))
not_after_before a b (inl h) (inr i) = absurd (omega (arith, h, i.0))
not_after_before a b (inr h) (inl i) = absurd (omega (arith, h.0, i))
not_after_before a b (inr h) (inr i) = absurd (omega (arith, h.1, i.1))

one_start : (a b : Start) → a.switch.0 ≡ b.switch.0 → a.port ≡ b.port → a ≡ b
one_start a b e f =
    ap (λ s. record { switch = record { 0 = s }; port = a.port }) e ∙ ap (λ n. record { switch = b.switch; port = n }) f

map_at : (f : ℕ → ℕ) (n k a : ℕ) → slice_get (map f (range_with_len 0 n)) k ≡ Some a → (k < n) × (f k ≡ a)
map_at f n k a h =
    let low : k < n = omega (arith, slice_get_within (map f (range_with_len 0 n)) k a h, length-map-range_with_len f 0 n) in
    (low, sym (get_or-map-range_with_len f 0 n k k a low (omega arith)) ∙ get_or_from_slice_get (map f (range_with_len 0 n)) k a a h)

module _ (t : Topology) (starts : List Start) (is : IsFabric t) (are : AreStarts t starts) where
  module _ (d : TerminalRow) (i j : ℕ) (e : Start) (less : i < j) (within : j < length starts) (same : slice_index_or starts i e ≡ slice_index_or starts j e) where
    abbrev row : ℕ → TerminalRow
    row m = slice_index_or t.terminals m d

    abbrev IsSeat : ℕ → ℕ → Type 0
    IsSeat m k = (k < length starts) × (k ≢ j) × (slice_index_or starts k e ≡ start_of (row m))

    -- where a terminal's start stands, but for the second of the two places
    seat_of : (m : ℕ) → Contains starts (start_of (row m)) → (k : ℕ) × IsSeat m k
    seat_of m has =
        let read : slice_index_or starts has.0 e ≡ start_of (row m) = get_or_default starts has.0 e (start_of (row m)) has.1 ∙ has.2 in
        elim (cases_eq has.0 j) [
          | inr other ↦ (has.0, (has.1, other, read))
          | inl at ↦ (i, (omega (arith, less, within), (λ k. omega (arith, k, less)), same ∙ ap (λ n. slice_index_or starts n e) (sym at) ∙ read))
        ]

    seat : (m : ℕ) → (k : ℕ) × (m < length t.terminals → IsSeat m k)
    seat m = elim (cases_lt m (length t.terminals)) [
      | inl low ↦ (let found : (k : ℕ) × IsSeat m k = seat_of m (are.all m d low) in (found.0, λ h. found.1))
      | inr past ↦ (0, λ h. absurd (omega (arith, h, past)))
    ]

    abbrev seats : List ℕ
    seats = map (λ m. (seat m).0) (range_with_len 0 (length t.terminals))

    below : (k a : ℕ) → slice_get (j ∷ seats) k ≡ Some a → a < length starts
    below zero a h = omega (arith, within, same_number h)
      where
        same_number : slice_get (j ∷ seats) 0 ≡ Some a → j ≡ a
        same_number x = cc
    below (suc k) a h =
        let at : (k < length t.terminals) × ((seat k).0 ≡ a) = map_at (λ m. (seat m).0) (length t.terminals) k a h in
        omega (arith, ((seat k).1 at.0).0, at.1)

    no_two : ⊥
    no_two = go again.1 again.2 again.3 again.4 again.5
      where
        again : Repeats (j ∷ seats)
        again = pigeonhole (length starts) (j ∷ seats) below (omega (arith, are.as_many, length-map-range_with_len (λ m. (seat m).0) 0 (length t.terminals)))

        go : (x y : ℕ) → x < y → slice_get (j ∷ seats) x ≡ Some again.0 → slice_get (j ∷ seats) y ≡ Some again.0 → ⊥
        go zero zero h a b = absurd (omega (arith, h))
        go (suc x) zero h a b = absurd (omega (arith, h))
        go zero (suc y) h a b =
            let at : (y < length t.terminals) × ((seat y).0 ≡ again.0) = map_at (λ m. (seat m).0) (length t.terminals) y again.0 b in
            ((seat y).1 at.0).1 (at.1 ∙ sym (same_number a))
          where
            same_number : slice_get (j ∷ seats) 0 ≡ Some again.0 → j ≡ again.0
            same_number x = cc
        go (suc x) (suc y) h a b =
            let at : (x < length t.terminals) × ((seat x).0 ≡ again.0) = map_at (λ m. (seat m).0) (length t.terminals) x again.0 a in
            let too : (y < length t.terminals) × ((seat y).0 ≡ again.0) = map_at (λ m. (seat m).0) (length t.terminals) y again.0 b in
            let alike : start_of (row x) ≡ start_of (row y) =
            sym ((seat x).1 at.0).2 ∙ ap (λ k. slice_index_or starts k e) (at.1 ∙ sym too.1) ∙ ((seat y).1 too.0).2 in
            let one : x ≡ y =
            one_terminal t is x y (row x) (row y) (slice_get-get_or t.terminals x d at.0) (slice_get-get_or t.terminals y d too.0)
            (ap (λ (s : Start). s.switch.0) alike) (ap (λ (s : Start). s.port) alike) in
            omega (arith, h, one)

  -- of two starts the first comes before the second
  pub rise : (i j : ℕ) (e : Start) → i < j → j < length starts → StartsBefore (slice_index_or starts i e) (slice_index_or starts j e)
  rise i j e less within = go (are.in_order i j e (omega (arith, less)) within)
    where
      a : Start
      a = slice_index_or starts i e

      b : Start
      b = slice_index_or starts j e

      go : StartsNotAfter a b → StartsBefore a b
      go (inl h) = inl h
      go (inr h) = elim (cases_lt a.port b.port) [
        | inl low ↦ inr (h.0, low)
        | inr high ↦
            absurd (no_two (are.terminals j e within).0 i j e less within (one_start a b h.0 (omega (arith, h.1, high))))
      ]

  -- where the start of a packet stands
  pub start_there : (row : TerminalRow) → Contains t.terminals row → Contains starts (start_of row)
  start_there row has = subst (λ r. Contains starts (start_of r)) has.2 (are.all has.0 row has.1)

-- one of so many starts is at the switch
abbrev pub HasSource : List Start → ℕ → Option SwitchId → Type 0
HasSource starts k source = (s : SwitchId) → source ≡ Some s → (m : ℕ) × (m < k) × ((d : Start) → (slice_index_or starts m d).switch ≡ s)

-- ---- places of packets

module _ (t : Topology) (p : Plan) (q : Packet) (x : IsPacket t p q) where
  pub before_key : (place : List ℕ) → IsBefore (key_of t q) place → IsBefore (key_of_row q (Some x.row)) place
  before_key place h = subst (λ k. IsBefore k place) (key_is t p q x) h

  pub key_before : (place : List ℕ) → IsBefore (key_of_row q (Some x.row)) place → IsBefore (key_of t q) place
  key_before place h = subst (λ k. IsBefore k place) (sym (key_is t p q x)) h

-- before one position, or at the one before it
pub before_more : (a b c d x y z n : ℕ) → IsBefore (a ∷ b ∷ c ∷ d ∷ []) (x ∷ y ∷ z ∷ suc n ∷ []) →
    IsBefore (a ∷ b ∷ c ∷ d ∷ []) (x ∷ y ∷ z ∷ n ∷ []) ⊎ ((a ≡ x) × (b ≡ y) × (c ≡ z) × (d ≡ n))
before_more a b c d x y z n h = elim h [
  | inl i ↦ inl (inl i)
  | inr u ↦ elim u.1 [
    | inl i ↦ inl (inr (u.0, inl i))
    | inr v ↦ elim v.1 [
      | inl i ↦ inl (inr (u.0, inr (v.0, inl i)))
      | inr w ↦ elim w.1 [
        | inl i ↦ elim (cases_lt d n) [ inl less ↦ inl (inr (u.0, inr (v.0, inr (w.0, inl less)))) | inr more ↦ inr (u.0, v.0, w.0, omega (arith, i, more)) ]
        | inr r ↦ absurd r.1
      ]
    ]
  ]
]

pub before_grows : (a b c d x y z m n : ℕ) → m ≤ n → IsBefore (a ∷ b ∷ c ∷ d ∷ []) (x ∷ y ∷ z ∷ m ∷ []) → IsBefore (a ∷ b ∷ c ∷ d ∷ []) (x ∷ y ∷ z ∷ n ∷ [])
before_grows a b c d x y z m n e h = elim h [
  | inl i ↦ inl i
  | inr u ↦ elim u.1 [
    | inl i ↦ inr (u.0, inl i)
    | inr v ↦ elim v.1 [
      | inl i ↦ inr (u.0, inr (v.0, inl i))
      | inr w ↦ elim w.1 [
        | inl i ↦ inr (u.0, inr (v.0, inr (w.0, inl (omega (arith, i, e)))))
        | inr r ↦ absurd r.1
      ]
    ]
  ]
]

-- before a start: by the LID, or the LID is the same and its own start comes before
before_start_of : (lid a d : ℕ) (s start : Start) → IsBefore (a ∷ s.switch.0 ∷ s.port ∷ d ∷ []) (before_start lid start) → (a < lid) ⊎ ((a ≡ lid) × StartsBefore s start)
before_start_of lid a d s start h = elim h [
  | inl i ↦ inl i
  | inr u ↦ elim u.1 [
    | inl i ↦ inr (u.0, inl i)
    | inr v ↦ elim v.1 [ inl i ↦ inr (u.0, inr (v.0, i)) | inr w ↦ absurd w.1 ]
  ]
]

start_before : (lid a d : ℕ) (s start : Start) → (a < lid) ⊎ ((a ≡ lid) × StartsBefore s start) → IsBefore (a ∷ s.switch.0 ∷ s.port ∷ d ∷ []) (before_start lid start)
start_before lid a d s start (inl h) = inl h
start_before lid a d s start (inr h) = elim h.1 [ inl i ↦ inr (h.0, inl i) | inr i ↦ inr (h.0, inr (i.0, inl i.1)) ]

-- behind a start
behind_start_of : (lid a d : ℕ) (s start : Start) → IsBefore (a ∷ s.switch.0 ∷ s.port ∷ d ∷ []) (behind_start lid start) → (a < lid) ⊎ ((a ≡ lid) × StartsNotAfter s start)
behind_start_of lid a d s start h = elim h [
  | inl i ↦ inl i
  | inr u ↦ elim u.1 [
    | inl i ↦ inr (u.0, inl i)
    | inr v ↦ elim v.1 [ inl i ↦ inr (u.0, inr (v.0, omega (arith, i))) | inr w ↦ absurd w.1 ]
  ]
]

start_behind : (lid a d : ℕ) (s start : Start) → (a < lid) ⊎ ((a ≡ lid) × StartsNotAfter s start) → IsBefore (a ∷ s.switch.0 ∷ s.port ∷ d ∷ []) (behind_start lid start)
start_behind lid a d s start (inl h) = inl h
start_behind lid a d s start (inr h) = elim h.1 [ inl i ↦ inr (h.0, inl i) | inr i ↦ inr (h.0, inr (i.0, inl (omega (arith, i.1)))) ]

before_then : (s a b : Start) → StartsNotAfter s a → StartsBefore a b → StartsBefore s b
before_then s a b (inl h) (inl i) = inl (omega (arith, h, i))
before_then s a b (inl h) (inr i) = inl (omega (arith, h, i.0))
before_then s a b (inr h) (inl i) = inl (omega (arith, h.0, i))
before_then s a b (inr h) (inr i) = inr (h.0 ∙ i.0, omega (arith, h.1, i.1))

module _ (t : Topology) (p : Plan) (lid : ℕ) where
  module _ (starts : List Start) (is : IsFabric t) (are : AreStarts t starts) where
    -- so many of the starts are those of the packets before
    abbrev IsDone : ℕ → ℕ → Start → Type 0
    IsDone j a s = (a < lid) ⊎ ((a ≡ lid) × ((m : ℕ) × (m < j) × (m < length starts) × (slice_index_or starts m s ≡ s)))

    behind_done : (a d : ℕ) (s : Start) (j : ℕ) → j ≤ length starts → Contains starts s → IsBefore (a ∷ s.switch.0 ∷ s.port ∷ d ∷ []) (behind_starts lid starts j) → IsDone j a s
    behind_done a d s zero h has early = elim early [ inl i ↦ inl i | inr u ↦ absurd u.1 ]
    behind_done a d s (suc k) h has early = go (slice_get starts k) refl early
      where
        go : (o : Option Start) → slice_get starts k ≡ o → IsBefore (a ∷ s.switch.0 ∷ s.port ∷ d ∷ []) (behind_of lid o) → IsDone (suc k) a s
        go None e x = absurd (none_some _ (sym e ∙ slice_get-get_or starts k s (omega (arith, h))))
        go (Some last) e x = elim (behind_start_of lid a d s last x) [
          | inl i ↦ inl i
          | inr u ↦ elim (cases_lt has.0 (suc k)) [
            | inl low ↦ inr (u.0, (has.0, low, has.1, has.2))
            | inr high ↦
                (let after : StartsBefore (slice_index_or starts k s) (slice_index_or starts has.0 s) = rise t starts is are k has.0 s (omega (arith, high)) has.1 in
                absurd (not_after_before s last u.1
                (subst (λ r. StartsBefore r s) (get_or_from_slice_get starts k last s e) (subst (λ r. StartsBefore (slice_index_or starts k s) r) has.2 after))))
          ]
        ]

    done_behind : (a d : ℕ) (s : Start) (j : ℕ) → j ≤ length starts → IsDone j a s → IsBefore (a ∷ s.switch.0 ∷ s.port ∷ d ∷ []) (behind_starts lid starts j)
    done_behind a d s zero h (inl i) = inl i
    done_behind a d s zero h (inr u) = absurd (omega (arith, u.1.1))
    done_behind a d s (suc k) h done = go (slice_get starts k) refl
      where
        go : (o : Option Start) → slice_get starts k ≡ o → IsBefore (a ∷ s.switch.0 ∷ s.port ∷ d ∷ []) (behind_of lid o)
        go None e = absurd (none_some _ (sym e ∙ slice_get-get_or starts k s (omega (arith, h))))
        go (Some last) e = start_behind lid a d s last (elim done [
          | inl i ↦ inl i
          | inr u ↦ inr (
            u.0,
            subst (λ r. StartsNotAfter r last) u.1.3
                (subst (λ r. StartsNotAfter (slice_index_or starts u.1.0 s) r) (get_or_from_slice_get starts k last s e) (are.in_order u.1.0 k s (omega (arith, u.1.1)) (omega (arith, h)))),
          )
        ])

    has_start : (q : Packet) → (x : IsPacket t p q) → Contains starts (start_of x.row)
    has_start q x = start_there t starts is are x.row x.path.terminal

    -- the next start
    module _ (j : ℕ) (start : Start) (at : slice_get starts j ≡ Some start) where
      low : j < length starts
      low = slice_get_within starts j start at

      pub to_start : (load : Load) → IsFilledBefore t p (behind_starts lid starts j) load → IsFilledBefore t p (before_start lid start) load
      to_start load filled = same_place t p (behind_starts lid starts j) (before_start lid start)
          (λ q x h. key_before t p q x (before_start lid start) (start_before lid q.lid.0 q.position (start_of x.row) start (on q x (behind_done q.lid.0 q.position (start_of x.row) j (omega (arith, low)) (has_start q x) (before_key t p q x (behind_starts lid starts j) h)))))
          (λ q x h. key_before t p q x (behind_starts lid starts j) (done_behind q.lid.0 q.position (start_of x.row) j (omega (arith, low)) (back q x (before_start_of lid q.lid.0 q.position (start_of x.row) start (before_key t p q x (before_start lid start) h)))))
          load filled
        where
          on : (q : Packet) → (x : IsPacket t p q) → IsDone j q.lid.0 (start_of x.row) → (q.lid.0 < lid) ⊎ ((q.lid.0 ≡ lid) × StartsBefore (start_of x.row) start)
          on q x (inl i) = inl i
          on q x (inr u) = inr (
            u.0,
            subst (λ r. StartsBefore r start) u.1.3
                (subst (λ r. StartsBefore (slice_index_or starts u.1.0 (start_of x.row)) r) (get_or_from_slice_get starts j start (start_of x.row) at) (rise t starts is are u.1.0 j (start_of x.row) u.1.1 low)),
          )

          back : (q : Packet) → (x : IsPacket t p q) → (q.lid.0 < lid) ⊎ ((q.lid.0 ≡ lid) × StartsBefore (start_of x.row) start) → IsDone j q.lid.0 (start_of x.row)
          back q x (inl i) = inl i
          back q x (inr u) =
              let has : Contains starts (start_of x.row) = has_start q x in
              elim (cases_lt has.0 j) [
                | inl less ↦ inr (u.0, (has.0, less, has.1, has.2))
                | inr more ↦
                    (let after : StartsNotAfter (slice_index_or starts j (start_of x.row)) (slice_index_or starts has.0 (start_of x.row)) = are.in_order j has.0 (start_of x.row) more has.1 in
                    absurd (not_after_before start (start_of x.row)
                    (subst (λ r. StartsNotAfter r (start_of x.row)) (get_or_from_slice_get starts j start (start_of x.row) at) (subst (λ r. StartsNotAfter (slice_index_or starts j (start_of x.row)) r) has.2 after)) u.1))
              ]

      pub from_start : (load : Load) → IsFilledBefore t p (behind_start lid start) load → IsFilledBefore t p (behind_starts lid starts (suc j)) load
      from_start load filled = subst (λ o. IsFilledBefore t p (behind_of lid o) load) (sym at) filled

    -- all starts
    pub all_starts : (load : Load) → IsFilledBefore t p (behind_starts lid starts (length starts)) load → IsFilledBefore t p (suc lid ∷ []) load
    all_starts load filled = same_place t p (behind_starts lid starts (length starts)) (suc lid ∷ [])
        (λ q x h. key_before t p q x (suc lid ∷ []) (on q x (behind_done q.lid.0 q.position (start_of x.row) (length starts) (omega arith) (has_start q x) (before_key t p q x (behind_starts lid starts (length starts)) h))))
        (λ q x h. key_before t p q x (behind_starts lid starts (length starts)) (done_behind q.lid.0 q.position (start_of x.row) (length starts) (omega arith) (back q x (before_key t p q x (suc lid ∷ []) h))))
        load filled
      where
        on : (q : Packet) → (x : IsPacket t p q) → IsDone (length starts) q.lid.0 (start_of x.row) → IsBefore (key_of_row q (Some x.row)) (suc lid ∷ [])
        on q x (inl i) = inl (omega (arith, i))
        on q x (inr u) = inl (omega (arith, u.0))

        back : (q : Packet) → (x : IsPacket t p q) → IsBefore (key_of_row q (Some x.row)) (suc lid ∷ []) → IsDone (length starts) q.lid.0 (start_of x.row)
        back q x h = elim h [
          | inr u ↦ absurd u.1
          | inl i ↦ elim (cases_lt q.lid.0 lid) [
            | inl less ↦ inl less
            | inr more ↦ (let has : Contains starts (start_of x.row) = has_start q x in inr (omega (arith, i, more), (has.0, has.1, has.1, has.2)))
          ]
        ]

  -- what comes before a start comes before its end
  start_grows : (start : Start) (q : Packet) → IsPacket t p q → IsBefore (key_of t q) (before_start lid start) → IsBefore (key_of t q) (behind_start lid start)
  start_grows start q x h = key_before t p q x (behind_start lid start) (start_behind lid q.lid.0 q.position (start_of x.row) start (on (before_start_of lid q.lid.0 q.position (start_of x.row) start (before_key t p q x (before_start lid start) h))))
    where
      on : (q.lid.0 < lid) ⊎ ((q.lid.0 ≡ lid) × StartsBefore (start_of x.row) start) → (q.lid.0 < lid) ⊎ ((q.lid.0 ≡ lid) × StartsNotAfter (start_of x.row) start)
      on (inl i) = inl i
      on (inr u) = inr (u.0, elim u.1 [ inl i ↦ inl i | inr i ↦ inr (i.0, omega (arith, i.1)) ])

  -- a start that isn't connected to the LID has no packets to it
  pub past_start : (start : Start) → (IsConnectedTo t start.switch.0 lid → ⊥) → (load : Load) → IsFilledBefore t p (before_start lid start) load → IsFilledBefore t p (behind_start lid start) load
  past_start start apart load filled = same_place t p (before_start lid start) (behind_start lid start)
      (start_grows start)
      (λ q x h. key_before t p q x (before_start lid start) (start_before lid q.lid.0 q.position (start_of x.row) start (back q x (behind_start_of lid q.lid.0 q.position (start_of x.row) start (before_key t p q x (behind_start lid start) h)))))
      load filled
    where
      back : (q : Packet) → (x : IsPacket t p q) → (q.lid.0 < lid) ⊎ ((q.lid.0 ≡ lid) × StartsNotAfter (start_of x.row) start) → (q.lid.0 < lid) ⊎ ((q.lid.0 ≡ lid) × StartsBefore (start_of x.row) start)
      back q x (inl i) = inl i
      back q x (inr u) = elim u.1 [
        | inl i ↦ inr (u.0, inl i)
        | inr i ↦ absurd (apart (subst (λ n. IsConnectedTo t n lid) i.0 (subst (λ n. IsConnectedTo t x.row.switch.0 n) u.0 x.path.connected)))
      ]

  -- where packets of a switch's terminals go alike, those of a later one change nothing
  module _ (starts : List Start) (is : IsFabric t) (are : AreStarts t starts) (alike : AreAlike p) (j : ℕ) (start : Start) (at : slice_get starts j ≡ Some start)
      (m : ℕ) (less : m < j) (same : (slice_index_or starts m start).switch.0 ≡ start.switch.0) where
    abbrev at_first : IsOfTerminal t (slice_index_or starts m start)
    at_first = are.terminals m start (omega (arith, less, slice_get_within starts j start at))

    abbrev first_row : TerminalRow
    first_row = at_first.0

    first_row_at : slice_get t.terminals at_first.1.0 ≡ Some first_row
    first_row_at = slice_get-get_or t.terminals at_first.1.0 first_row at_first.1.1 ∙ ap Some at_first.1.2

    at_switch : first_row.switch.0 ≡ start.switch.0
    at_switch = ap (λ (s : Start). s.switch.0) at_first.2 ∙ same

    sooner : StartsBefore (start_of first_row) start
    sooner = subst (λ s. StartsBefore s start) (sym at_first.2)
        (subst (λ s. StartsBefore (slice_index_or starts m start) s) (get_or_from_slice_get starts j start start at) (rise t starts is are m j start less (slice_get_within starts j start at)))

    lower : first_row.port < start.port
    lower = elim sooner [ inl i ↦ absurd (omega (arith, i, at_switch)) | inr i ↦ i.1 ]

    module _ (q : Packet) (x : IsPacket t p q) (to : q.lid.0 ≡ lid) (switch : x.row.switch.0 ≡ start.switch.0) (port : x.row.port ≡ start.port) where
      abbrev earlier : Packet
      earlier = record { terminal = record { 0 = at_first.1.0 }; lid = q.lid; position = q.position }

      as_many : hops_of t p earlier ≡ hops_of t p q
      as_many = ap (λ o. hops_of_row t p q.lid.0 o) first_row_at ∙ hops_alike t p alike first_row x.row q.lid.0 (at_switch ∙ sym switch) ∙ ap (λ o. hops_of_row t p q.lid.0 o) (sym x.terminal)

      abbrev is_packet : IsPacket t p earlier
      is_packet = record {
        row = first_row;
        terminal = first_row_at;
        path = record { terminal = at_first.1; connected = subst (λ s. IsConnectedTo t s q.lid.0) (switch ∙ sym at_switch) x.path.connected };
        position = subst (λ (vs : List VirtualChannel). q.position < length vs) (sym as_many) x.position;
      }

      echo : HasEcho t p (before_start lid start) q
      echo = record {
        earlier = earlier;
        is_packet = is_packet;
        early = key_before t p earlier is_packet (before_start lid start) (start_before lid q.lid.0 q.position (start_of first_row) start (inr (to, sooner)));
        before = key_before t p earlier is_packet (key_of t q) (subst (λ k. IsBefore (key_of_row earlier (Some first_row)) k) (sym (key_is t p q x)) (inr (refl, inr (at_switch ∙ sym switch, inl (omega (arith, lower, port))))));
        position = refl;
        hops = as_many;
      }

    pub past_alike : (load : Load) → IsFilledBefore t p (before_start lid start) load → IsFilledBefore t p (behind_start lid start) load
    past_alike load filled = same_filling t p (before_start lid start) (behind_start lid start) (start_grows start) split load filled
      where
        sort : (q : Packet) → (x : IsPacket t p q) → (q.lid.0 < lid) ⊎ ((q.lid.0 ≡ lid) × StartsNotAfter (start_of x.row) start) →
            ((q.lid.0 < lid) ⊎ ((q.lid.0 ≡ lid) × StartsBefore (start_of x.row) start)) ⊎ HasEcho t p (before_start lid start) q
        sort q x (inl i) = inl (inl i)
        sort q x (inr u) = elim u.1 [
          | inl i ↦ inl (inr (u.0, inl i))
          | inr i ↦ elim (cases_lt x.row.port start.port) [
            | inl low ↦ inl (inr (u.0, inr (i.0, low)))
            | inr high ↦ inr (echo q x u.0 i.0 (omega (arith, i.1, high)))
          ]
        ]

        split : (q : Packet) → IsPacket t p q → IsBefore (key_of t q) (behind_start lid start) → IsBefore (key_of t q) (before_start lid start) ⊎ HasEcho t p (before_start lid start) q
        split q x h = elim (sort q x (behind_start_of lid q.lid.0 q.position (start_of x.row) start (before_key t p q x (behind_start lid start) h))) [
          | inl early ↦ inl (key_before t p q x (before_start lid start) (start_before lid q.lid.0 q.position (start_of x.row) start early))
          | inr echo ↦ inr echo
        ]

  -- a LID that isn't in use has no packets
  pub past_lid : place_of t lid ≡ None → (load : Load) → IsFilledBefore t p (lid ∷ []) load → IsFilledBefore t p (suc lid ∷ []) load
  past_lid none load filled = same_place t p (lid ∷ []) (suc lid ∷ [])
      (λ q x h. key_before t p q x (suc lid ∷ []) (elim (before_key t p q x (lid ∷ []) h) [ inl i ↦ inl (omega (arith, i)) | inr u ↦ absurd u.1 ]))
      (λ q x h. key_before t p q x (lid ∷ []) (elim (before_key t p q x (suc lid ∷ []) h) [
        | inr u ↦ absurd u.1
        | inl i ↦ elim (cases_lt q.lid.0 lid) [
          | inl less ↦ inl less
          | inr more ↦
              (let same : q.lid.0 ≡ lid = omega (arith, i, more) in
              absurd (none_some x.path.connected.0 (sym none ∙ ap (λ n. place_of t n) (sym same) ∙ x.path.connected.1)))
        ]
      ]))
      load filled

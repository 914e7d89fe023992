-- A packet is spread: what its copies reach is marked, or is reached by copies that are still to be sent on.
use Rattle.std.proofs.Common.{◌≡◌, ℕ, suc, ◌+◌, ◌<◌, ◌⊎◌, inl, inr, Bool, true, false, cond, not, List, [], ◌∷◌, ◌++◌, length, Option, Some, None, Contains, refl, sym, ◌∙◌, ap, subst, arith, length-append, slice_index_or, slice_set, take, get_or, get_or-set_same, get_or-set_other}
use Rattle.std.specs.Prelude.{◌==◌, ◌||◌, if◌then◌else◌, slice_get, filter, filter_map, flat_map, map, option_map, position}
use Rattle.std.specs.List.{list_any, range_with_len, cons_option}
use Rattle.std.proofs.lemmas.Bool.{cases_eq, cases_lt, eqb-true, eq-eqb, or_cases, or_left, or_right}
use Rattle.std.proofs.lemmas.List.{get_or_past, take_more, append-nil, map-append}
use Rattle.std.proofs.lemmas.List.Quantifiers.{position-Some}
use Rattle.std.proofs.lemmas.List.Elements.{filter_map-append}
use Rattle.std.proofs.lemmas.List.Kept.{IsStrictlyIncreasing-filter}
use Rattle.std.proofs.lemmas.Grind.{flat_map-append}
use Rattle.std.proofs.lemmas.Option.{same_Some, none-some, get_or_from_slice_get}
use Rattle.fab_model.specs.declared.rows.ChannelRow.{ChannelRow}
use Rattle.fab_model.specs.declared.rows.TerminalId.{TerminalId}
use Rattle.fab_model.specs.declared.rows.TerminalRow.{TerminalRow}
use Rattle.fab_model.specs.Topology.{Topology, is_cabled_at, channel_at, terminal_at, reversed}
use Rattle.fab_model.specs.WellFormed.{IsWellFormed}
use Rattle.fab_model.proofs.Lists.Members.{In, in_from_Contains, Contains_from_in, in_all, in_left, in_right, from_append, from_filter, in_filter, from_filter_map, list_any_from_in, from_list_any}
use Rattle.fab_model.proofs.Lists.FlatMaps.{from_flat_map, in_flat_map}
use Rattle.fab_model.proofs.Lists.Found.{in_range, range_rises}
use Rattle.fab_model.proofs.Tables.{filter_range_more}
use Rattle.fab_model.proofs.Faultless.Facts.{slice_get_in}
use Rattle.fab_mcast.specs.Copies.{Copy, ports_on, copy_at_end, copy_along, copies_of, reached_by, copies_within}
use Rattle.fab_mcast.specs.declared.copies.PacketCopy.{PacketCopy}
use Rattle.fab_mcast.specs.Sending.{seen_copy, seen_copies, copy_by, terminal_by, is_marked}
use Rattle.fab_mcast.specs.Spreads.{first_copy, IsSpread, reached}
use Rattle.fab_mcast.proofs.AllCopies.{stays, none_more, increasing}
use Rattle.fab_mcast.proofs.PlantedTrees.{back_in}
use Rattle.fab_mcast.proofs.TreePorts.{same_bool}

-- ---- by all ports of an entry but one

guarded : {X : Type 0} (own : ℕ) (g : ℕ → Option X) (ports : List ℕ) → filter_map (λ port. if port == own then None else g port) ports ≡ filter_map g (filter (λ port. not (port == own)) ports)
guarded own g [] = refl
guarded {X} own g (port ∷ ports) = step (port == own) (guarded own g ports)
  where
    step : (test : Bool) → filter_map (λ p. if p == own then None else g p) ports ≡ filter_map g (filter (λ p. not (p == own)) ports) →
        cons_option (if test then None else g port) (filter_map (λ p. if p == own then None else g p) ports) ≡ filter_map g (cond (not test) (port ∷ filter (λ p. not (p == own)) ports) (filter (λ p. not (p == own)) ports))
    step true e = e
    step false e = ap (λ rest. cons_option (g port) rest) e

pub copies_by_ports : (t : Topology) (all : List (List ℕ)) (copy : Copy) (ports : List ℕ) → slice_index_or all copy.at [] ≡ ports → filter_map (copy_by t copy) ports ≡ copies_of t all copy
copies_by_ports t all copy ports e = guarded copy.from (λ port. copy_along t (channel_at t copy.at port)) ports ∙ ap (λ ps. filter_map (λ port. copy_along t (channel_at t copy.at port)) (filter (λ port. not (port == copy.from)) ps)) (sym e)

pub terminals_by_ports : (t : Topology) (all : List (List ℕ)) (copy : Copy) (ports : List ℕ) → slice_index_or all copy.at [] ≡ ports → filter_map (terminal_by t copy) ports ≡ reached_by t all copy
terminals_by_ports t all copy ports e = guarded copy.from (λ port. terminal_at t copy.at port) ports ∙ ap (λ ps. filter_map (λ port. terminal_at t copy.at port) (filter (λ port. not (port == copy.from)) ps)) (sym e)

-- ---- port after port

pub gives_more : {X : Type 0} (f : ℕ → Option X) (ports : List ℕ) (i : ℕ) → i < length ports → filter_map f (take (i + 1) ports) ≡ filter_map f (take i ports) ++ cons_option (f (get_or ports i 0)) []
gives_more f ports i low = ap (λ (ps : List ℕ). filter_map f ps) (take_more ports i 0 low) ∙ filter_map-append f (take i ports) (get_or ports i 0 ∷ [])

-- a port gives something, or nothing
pub gives_some : {X : Type 0} (f : ℕ → Option X) (ports : List ℕ) (i : ℕ) (x : X) → i < length ports → f (get_or ports i 0) ≡ Some x → filter_map f (take (i + 1) ports) ≡ filter_map f (take i ports) ++ x ∷ []
gives_some f ports i x low e = gives_more f ports i low ∙ ap (λ o. filter_map f (take i ports) ++ cons_option o []) e

pub gives_none : {X : Type 0} (f : ℕ → Option X) (ports : List ℕ) (i : ℕ) → i < length ports → f (get_or ports i 0) ≡ None → filter_map f (take (i + 1) ports) ≡ filter_map f (take i ports)
gives_none f ports i low e = gives_more f ports i low ∙ ap (λ o. filter_map f (take i ports) ++ cons_option o []) e ∙ append-nil (filter_map f (take i ports))

-- what a call gives, seen
pub some_seen : {X Y : Type 0} (f : X → Y) (r : Option X) (wanted : Option Y) (x : X) → option_map f r ≡ wanted → r ≡ Some x → wanted ≡ Some (f x)
some_seen f r wanted x e is = sym e ∙ ap (λ o. option_map f o) is

pub none_seen : {X Y : Type 0} (f : X → Y) (r : Option X) (wanted : Option Y) → option_map f r ≡ wanted → r ≡ None → wanted ≡ None
none_seen f r wanted e is = sym e ∙ ap (λ o. option_map f o) is

position_low : (p : TerminalRow → Bool) (rows : List TerminalRow) (n : ℕ) → position p rows ≡ Some n → n < length rows
position_low p [] n e = absurd (none-some n e)
position_low p (row ∷ rows) n e = (position-Some p (row ∷ rows) n row e).0

pub terminal_within : (t : Topology) (copy : Copy) (port n : ℕ) → terminal_by t copy port ≡ Some n → n < length t.terminals
terminal_within t copy port n e = by (port == copy.from) e
  where
    by : (own : Bool) → (if own then None else terminal_at t copy.at port) ≡ Some n → n < length t.terminals
    by true h = absurd (none-some n h)
    by false h = position_low (is_cabled_at copy.at port) t.terminals n h

-- ---- marked terminals one after the other

pub one_marked : (marks : List Bool) (n : ℕ) (found more : List TerminalId) → map (λ (id : TerminalId). id.0) found ≡ filter (is_marked marks) (range_with_len 0 n) → is_marked marks n ≡ true → more ≡ found ++ record { 0 = n } ∷ [] →
    map (λ (id : TerminalId). id.0) more ≡ filter (is_marked marks) (range_with_len 0 (n + 1))
one_marked marks n found more so_far here is =
    ap (λ (xs : List TerminalId). map (λ (id : TerminalId). id.0) xs) is ∙ map-append (λ (id : TerminalId). id.0) found (record { 0 = n } ∷ []) ∙ ap (λ (xs : List ℕ). xs ++ n ∷ []) so_far
    ∙ sym (filter_range_more (is_marked marks) n ∙ ap (λ b. filter (is_marked marks) (range_with_len 0 n) ++ cond b (n ∷ []) []) here)

pub not_marked : (marks : List Bool) (n : ℕ) (found : List TerminalId) → map (λ (id : TerminalId). id.0) found ≡ filter (is_marked marks) (range_with_len 0 n) → is_marked marks n ≡ false →
    map (λ (id : TerminalId). id.0) found ≡ filter (is_marked marks) (range_with_len 0 (n + 1))
not_marked marks n found so_far here =
    so_far ∙ sym (filter_range_more (is_marked marks) n ∙ ap (λ b. filter (is_marked marks) (range_with_len 0 n) ++ cond b (n ∷ []) []) here ∙ append-nil (filter (is_marked marks) (range_with_len 0 n)))

pub marked_more : (old now : List Bool) (xs : List ℕ) (at : ℕ) → at < length now → ((n : ℕ) → is_marked now n ≡ (is_marked old n || list_any (λ m. m == n) xs)) →
    (n : ℕ) → is_marked (slice_set now at true) n ≡ (is_marked old n || list_any (λ m. m == n) (xs ++ at ∷ []))
marked_more old now xs at low told n = same_bool (is_marked (slice_set now at true) n) (is_marked old n || list_any (λ m. m == n) (xs ++ at ∷ [])) to from
  where
    kept : is_marked now n ≡ true → is_marked (slice_set now at true) n ≡ true
    kept h = elim (cases_eq n at) [
      | inl same ↦ ap (λ k. is_marked (slice_set now at true) k) same ∙ get_or-set_same now at true false low
      | inr other ↦ get_or-set_other now at n true false other ∙ h
    ]

    to : is_marked (slice_set now at true) n ≡ true → (is_marked old n || list_any (λ m. m == n) (xs ++ at ∷ [])) ≡ true
    to h = elim (cases_eq n at) [
      | inl same ↦ or_right (is_marked old n) (list_any (λ m. m == n) (xs ++ at ∷ [])) (list_any_from_in (λ m. m == n) (xs ++ at ∷ []) at (in_right xs (at ∷ []) at (inl refl)) (eq-eqb at n (sym same)))
      | inr other ↦ elim (or_cases (is_marked old n) (list_any (λ m. m == n) xs) (sym (told n) ∙ sym (get_or-set_other now at n true false other) ∙ h)) [
        | inl before ↦ or_left (is_marked old n) (list_any (λ m. m == n) (xs ++ at ∷ [])) before
        | inr there ↦
            (let m : (m : ℕ) × In m xs × ((m == n) ≡ true) = from_list_any (λ m. m == n) xs there in
            or_right (is_marked old n) (list_any (λ m. m == n) (xs ++ at ∷ [])) (list_any_from_in (λ m. m == n) (xs ++ at ∷ []) m.0 (in_left xs (at ∷ []) m.0 m.1) m.2))
      ]
    ]

    from : (is_marked old n || list_any (λ m. m == n) (xs ++ at ∷ [])) ≡ true → is_marked (slice_set now at true) n ≡ true
    from h = elim (or_cases (is_marked old n) (list_any (λ m. m == n) (xs ++ at ∷ [])) h) [
      | inl before ↦ kept (told n ∙ or_left (is_marked old n) (list_any (λ m. m == n) xs) before)
      | inr there ↦ (let m : (m : ℕ) × In m (xs ++ at ∷ []) × ((m == n) ≡ true) = from_list_any (λ m. m == n) (xs ++ at ∷ []) there in which m.0 (eqb-true m.0 n m.2) (from_append xs (at ∷ []) m.0 m.1))
    ]
      where
        which : (m : ℕ) → m ≡ n → In m xs ⊎ In m (at ∷ []) → is_marked (slice_set now at true) n ≡ true
        which m same (inl before) = kept (told n ∙ or_right (is_marked old n) (list_any (λ m. m == n) xs) (list_any_from_in (λ m. m == n) xs m before (eq-eqb m n same)))
        which m same (inr (inl e)) = ap (λ k. is_marked (slice_set now at true) k) (sym same ∙ sym e) ∙ get_or-set_same now at true false low
        which m same (inr (inr z)) = absurd z

-- ---- copies and what they reach

module _ (t : Topology) (good : IsWellFormed t) (ports : List (List ℕ)) where
  -- so many steps as one more than there are switches
  abbrev pub all_of : Copy → List Copy
  all_of copy = copies_within t ports (suc (length t.switches)) copy

  -- they are all copies of it
  abbrev pub IsWhole : Copy → Type 0
  IsWhole copy = copies_within t ports (suc (suc (length t.switches))) copy ≡ all_of copy

  nexts_whole : (copy : Copy) → IsWhole copy → (next : Copy) → In next (copies_of t ports copy) → IsWhole next
  nexts_whole copy whole next at =
      stays t ports (length t.switches) next (none_more t ports (length t.switches) (copies_of t ports copy) (omega (arith, ap (λ (cs : List Copy). length cs) whole)) next at)

  -- what is reached by the copy, or by one that comes of it
  pub record Reaches (copy : Copy) (n : ℕ) : Type 0 where
    pub by : Copy
    pub of : In by (all_of copy)
    pub at : In n (reached_by t ports by)

  reaches_own : (copy : Copy) → IsWhole copy → (n : ℕ) → In n (reached_by t ports copy) → Reaches copy n
  reaches_own copy whole n at = record { by = copy; of = subst (λ cs. In copy cs) whole (inl refl); at = at }

  reaches_next : (copy : Copy) → IsWhole copy → (next : Copy) → In next (copies_of t ports copy) → (n : ℕ) → Reaches next n → Reaches copy n
  reaches_next copy whole next at n r = record { by = r.by; of = subst (λ cs. In r.by cs) whole (inr (in_flat_map all_of (copies_of t ports copy) next r.by at r.of)); at = r.at }

  reaches_cases : (copy : Copy) → IsWhole copy → (n : ℕ) → Reaches copy n → In n (reached_by t ports copy) ⊎ ((next : Copy) × In next (copies_of t ports copy) × Reaches next n)
  reaches_cases copy whole n r = by (subst (λ cs. In r.by cs) (sym whole) r.of)
    where
      by : In r.by (copy ∷ flat_map all_of (copies_of t ports copy)) → In n (reached_by t ports copy) ⊎ ((next : Copy) × In next (copies_of t ports copy) × Reaches next n)
      by (inl same) = inl (subst (λ c. In n (reached_by t ports c)) (sym same) r.at)
      by (inr later) = let from : (next : Copy) × In next (copies_of t ports copy) × In r.by (all_of next) = from_flat_map all_of (copies_of t ports copy) r.by later in inr (from.0, from.1, record { by = r.by; of = from.2; at = r.at })

  to_reached : (copy : Copy) (n : ℕ) → Reaches copy n → Contains (reached t ports (all_of copy)) n
  to_reached copy n r = Contains_from_in (reached t ports (all_of copy)) n (in_flat_map (reached_by t ports) (all_of copy) r.by n r.of r.at)

  from_reached : (copy : Copy) (n : ℕ) → Contains (reached t ports (all_of copy)) n → Reaches copy n
  from_reached copy n h = let from : (z : Copy) × In z (all_of copy) × In n (reached_by t ports z) = from_flat_map (reached_by t ports) (all_of copy) n (in_from_Contains (reached t ports (all_of copy)) n h) in record { by = from.0; of = from.1; at = from.2 }

  -- a copy that is sent on stands at a switch
  next_low : (copy next : Copy) → In next (copies_of t ports copy) → next.at < length t.switches
  next_low copy next at =
      let from : (port : ℕ) × In port (ports_on ports copy) × (copy_along t (channel_at t copy.at port) ≡ Some next) = from_filter_map (λ port. copy_along t (channel_at t copy.at port)) (ports_on ports copy) next at in
      along (channel_at t copy.at from.0) from.2
    where
      end : (o : Option ChannelRow) → ((row : ChannelRow) → o ≡ Some row → In row t.channels) → copy_at_end o ≡ Some next → next.at < length t.switches
      end None there e = absurd (cc)
      end (Some row) there e =
          subst (λ (c : Copy). c.at < length t.switches) (same_Some _ next e) (in_all (λ (x : ChannelRow). x.tail.0 < length t.switches) t.channels good.channel_tails (reversed row) (back_in t good row (there row refl)))

      along : (o : Option ℕ) → copy_along t o ≡ Some next → next.at < length t.switches
      along None e = absurd (cc)
      along (Some c) e = end (slice_get t.channels c) (λ row is. slice_get_in t.channels c row is) e

  -- ---- while copies are sent on

  pub record IsSpreading (first : Copy) (pending : List Copy) (marks : List Bool) : Type 0 where
    pub each : length marks ≡ length t.terminals
    pub low : (copy : Copy) → In copy pending → copy.at < length t.switches
    pub whole : (copy : Copy) → In copy pending → IsWhole copy
    pub told : (n : ℕ) → Reaches first n → (is_marked marks n ≡ true) ⊎ ((copy : Copy) × In copy pending × Reaches copy n)
    pub marked : (n : ℕ) → is_marked marks n ≡ true → Reaches first n
    pub under : (copy : Copy) → In copy pending → (n : ℕ) → Reaches copy n → Reaches first n

  pub spreading_begins : (first : Copy) (marks : List Bool) → first.at < length t.switches → IsWhole first → length marks ≡ length t.terminals → ((n : ℕ) → is_marked marks n ≡ false) → IsSpreading first (first ∷ []) marks
  spreading_begins first marks low whole each none = record {
    each = each;
    low = λ copy at. elim at [ inl same ↦ subst (λ (c : Copy). c.at < length t.switches) same low | inr z ↦ absurd z ];
    whole = λ copy at. elim at [ inl same ↦ subst (λ (c : Copy). IsWhole c) same whole | inr z ↦ absurd z ];
    told = λ n r. inr (first, inl refl, r);
    marked = λ n h. absurd (both (none n) h);
    under = λ copy at n r. elim at [ inl same ↦ subst (λ (c : Copy). Reaches c n) (sym same) r | inr z ↦ absurd z ];
  }
    where
      both : {b : Bool} → b ≡ false → b ≡ true → ⊥
      both p q = cc

  -- one copy is sent on
  pub sent_on : (first : Copy) (rest : List Copy) (copy : Copy) (old new : List Bool) → IsSpreading first (rest ++ copy ∷ []) old → length new ≡ length old →
      ((n : ℕ) → is_marked new n ≡ (is_marked old n || list_any (λ m. m == n) (reached_by t ports copy))) → IsSpreading first (rest ++ copies_of t ports copy) new
  sent_on first rest copy old new is same marks = record {
    each = same ∙ is.each;
    low = λ c at. elim (from_append rest (copies_of t ports copy) c at) [ inl before ↦ is.low c (in_left rest (copy ∷ []) c before) | inr next ↦ next_low copy c next ];
    whole = λ c at. elim (from_append rest (copies_of t ports copy) c at) [ inl before ↦ is.whole c (in_left rest (copy ∷ []) c before) | inr next ↦ nexts_whole copy whole c next ];
    told = told;
    marked = marked;
    under = λ c at n r. elim (from_append rest (copies_of t ports copy) c at) [
      | inl before ↦ is.under c (in_left rest (copy ∷ []) c before) n r
      | inr next ↦ is.under copy last n (reaches_next copy whole c next n r)
    ];
  }
    where
      last : In copy (rest ++ copy ∷ [])
      last = in_right rest (copy ∷ []) copy (inl refl)

      whole : IsWhole copy
      whole = is.whole copy last

      mark_kept : (n : ℕ) → is_marked old n ≡ true → is_marked new n ≡ true
      mark_kept n h = marks n ∙ or_left (is_marked old n) (list_any (λ m. m == n) (reached_by t ports copy)) h

      mark_here : (n : ℕ) → In n (reached_by t ports copy) → is_marked new n ≡ true
      mark_here n at = marks n ∙ or_right (is_marked old n) (list_any (λ m. m == n) (reached_by t ports copy)) (list_any_from_in (λ m. m == n) (reached_by t ports copy) n at (eq-eqb n n refl))

      told : (n : ℕ) → Reaches first n → (is_marked new n ≡ true) ⊎ ((c : Copy) × In c (rest ++ copies_of t ports copy) × Reaches c n)
      told n r = elim (is.told n r) [
        | inl h ↦ inl (mark_kept n h)
        | inr by ↦ elim (from_append rest (copy ∷ []) by.0 by.1) [
          | inl before ↦ inr (by.0, in_left rest (copies_of t ports copy) by.0 before, by.2)
          | inr here ↦ own here by.2
        ]
      ]
        where
          own : {c : Copy} → In c (copy ∷ []) → Reaches c n → (is_marked new n ≡ true) ⊎ ((c : Copy) × In c (rest ++ copies_of t ports copy) × Reaches c n)
          own (inl e) r = elim (reaches_cases copy whole n (subst (λ (d : Copy). Reaches d n) (sym e) r)) [
            | inl at ↦ inl (mark_here n at)
            | inr next ↦ inr (next.0, in_right rest (copies_of t ports copy) next.0 next.1, next.2)
          ]
          own (inr z) r = absurd z

      marked : (n : ℕ) → is_marked new n ≡ true → Reaches first n
      marked n h = elim (or_cases (is_marked old n) (list_any (λ m. m == n) (reached_by t ports copy)) (sym (marks n) ∙ h)) [
        | inl before ↦ is.marked n before
        | inr here ↦
            (let m : (m : ℕ) × In m (reached_by t ports copy) × ((m == n) ≡ true) = from_list_any (λ m. m == n) (reached_by t ports copy) here in
            is.under copy last n (reaches_own copy whole n (subst (λ k. In k (reached_by t ports copy)) (eqb-true m.0 n m.2) m.1)))
      ]

  -- fewer copies are still to come
  abbrev pub to_come : List Copy → ℕ
  to_come pending = length (flat_map all_of pending)

  pub fewer : (rest : List Copy) (copy : Copy) → IsWhole copy → to_come (rest ++ copies_of t ports copy) + 1 ≡ to_come (rest ++ copy ∷ [])
  fewer rest copy whole =
      let one : length (all_of copy) ≡ suc (to_come (copies_of t ports copy)) = ap (λ (cs : List Copy). length cs) (sym whole) in
      omega (
        arith,
        one,
        ap (λ (cs : List Copy). length cs) (flat_map-append all_of rest (copies_of t ports copy)),
        ap (λ (cs : List Copy). length cs) (flat_map-append all_of rest (copy ∷ [])),
        length-append (flat_map all_of rest) (flat_map all_of (copies_of t ports copy)),
        length-append (flat_map all_of rest) (flat_map all_of (copy ∷ [])),
        length-append (all_of copy) [],
      )

  -- ---- copies as they are kept

  popped : (pending rest : List PacketCopy) (copy : PacketCopy) → pending ≡ rest ++ copy ∷ [] → seen_copies pending ≡ seen_copies rest ++ seen_copy copy ∷ []
  popped pending rest copy e = ap (λ (cs : List PacketCopy). seen_copies cs) e ∙ map-append seen_copy rest (copy ∷ [])

  last_in : (pending rest : List PacketCopy) (copy : PacketCopy) → pending ≡ rest ++ copy ∷ [] → In (seen_copy copy) (seen_copies pending)
  last_in pending rest copy e = subst (λ cs. In (seen_copy copy) cs) (sym (popped pending rest copy e)) (in_right (seen_copies rest) (seen_copy copy ∷ []) (seen_copy copy) (inl refl))

  -- a copy that is still to be sent on stands at a switch
  pub pending_low : (first : Copy) (pending rest : List PacketCopy) (copy : PacketCopy) (marks : List Bool) → IsSpreading first (seen_copies pending) marks → pending ≡ rest ++ copy ∷ [] → copy.at.0 < length t.switches
  pending_low first pending rest copy marks is e = is.low (seen_copy copy) (last_in pending rest copy e)

  module _ (pending rest next : List PacketCopy) (copy : PacketCopy) (found : List ℕ) (last : pending ≡ rest ++ copy ∷ []) (at : slice_get ports copy.at.0 ≡ Some found)
      (pushed : seen_copies next ≡ seen_copies rest ++ filter_map (copy_by t (seen_copy copy)) found) where
    entry : slice_index_or ports copy.at.0 [] ≡ found
    entry = get_or_from_slice_get ports copy.at.0 found [] at

    now_pending : seen_copies next ≡ seen_copies rest ++ copies_of t ports (seen_copy copy)
    now_pending = pushed ∙ ap (λ (cs : List Copy). seen_copies rest ++ cs) (copies_by_ports t ports (seen_copy copy) found entry)

    pub one_sent : (first : Copy) (old new : List Bool) → IsSpreading first (seen_copies pending) old → length new ≡ length old →
        ((n : ℕ) → is_marked new n ≡ (is_marked old n || list_any (λ m. m == n) (filter_map (terminal_by t (seen_copy copy)) found))) → IsSpreading first (seen_copies next) new
    one_sent first old new is each marked =
        subst (λ cs. IsSpreading first cs new) (sym now_pending)
        (sent_on first (seen_copies rest) (seen_copy copy) old new (subst (λ cs. IsSpreading first cs old) (popped pending rest copy last) is) each
        (λ n. marked n ∙ ap (λ (ms : List ℕ). is_marked old n || list_any (λ m. m == n) ms) (terminals_by_ports t ports (seen_copy copy) found entry)))

    pub one_fewer : (first : Copy) (old : List Bool) → IsSpreading first (seen_copies pending) old → to_come (seen_copies next) < to_come (seen_copies pending)
    one_fewer first old is =
        let whole : IsWhole (seen_copy copy) = is.whole (seen_copy copy) (last_in pending rest copy last) in
        omega (arith, ap (λ (cs : List Copy). to_come cs) now_pending, fewer (seen_copies rest) (seen_copy copy) whole, ap (λ (cs : List Copy). to_come cs) (popped pending rest copy last))

  -- all is reached that is marked once no copy is left
  pub spread_is : (from : ℕ) (row : TerminalRow) (marks : List Bool) → slice_get t.terminals from ≡ Some row → IsWhole (first_copy row) → IsSpreading (first_copy row) [] marks →
      IsSpread t ports from (filter (is_marked marks) (range_with_len 0 (length marks)))
  spread_is from row marks is_row whole is = record {
    row = row;
    is_row = is_row;
    all = all_of (first_copy row);
    copies = record { steps = suc (length t.switches); are = refl; no_more = whole };
    ascending = IsStrictlyIncreasing-filter (is_marked marks) (range_with_len 0 (length marks)) (increasing (range_with_len 0 (length marks)) (range_rises 0 (length marks)));
    each = λ n. (
      (λ h. let both : In n (range_with_len 0 (length marks)) × (is_marked marks n ≡ true) = from_filter (is_marked marks) (range_with_len 0 (length marks)) n (in_from_Contains (filter (is_marked marks) (range_with_len 0 (length marks))) n h) in
          to_reached (first_copy row) n (is.marked n both.1)),
      (λ h. Contains_from_in (filter (is_marked marks) (range_with_len 0 (length marks))) n (listed n (is.told n (from_reached (first_copy row) n h)))),
    );
  }
    where
      within : (n : ℕ) → is_marked marks n ≡ true → n < length marks
      within n h = elim (cases_lt n (length marks)) [ inl low ↦ low | inr past ↦ absurd (both (get_or_past marks n false past) h) ]
        where
          both : {b : Bool} → b ≡ false → b ≡ true → ⊥
          both p q = cc

      listed : (n : ℕ) → (is_marked marks n ≡ true) ⊎ ((copy : Copy) × In copy [] × Reaches copy n) → In n (filter (is_marked marks) (range_with_len 0 (length marks)))
      listed n (inl h) = in_filter (is_marked marks) (range_with_len 0 (length marks)) n (in_range 0 (length marks) n (omega arith) (omega (arith, within n h))) h
      listed n (inr by) = absurd by.1

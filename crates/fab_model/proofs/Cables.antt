-- Cables by their ends, and the channels that are listed.
use Rattle.std.proofs.Common.{◌≡◌, ◌≢◌, ℕ, suc, ◌+◌, ◌<◌, ◌≤◌, Bool, true, false, not, ◌&&◌, ◌||◌, cond, eqb, List, [], ◌∷◌, ◌++◌, length, map, take, get_or, set, replicate, Option, Some, None, Result, Ok, Err, inl, inr, refl, sym, ap, ◌∙◌, arith, length-set, subst}
use Rattle.std.specs.Prelude.{filter, position, is_some, option_map}
use Rattle.std.specs.Result.{OkIff, IfOk, MatchResult, IsErrAnd, result_ok}
use Rattle.std.specs.List.{position_or_len}
use Rattle.std.proofs.lemmas.Bool.{cases_eq, cases_order, cases_lt, and_parts, and_left, and_right, or_left, or_right, eq-eqb, ne_eqb, eqb-true, false_from_ne_true, lt-ltb}
use Rattle.std.proofs.lemmas.List.{length-map, get_or-map, get_or-set_same, get_or-set_other, get_or_default, same_lists, take_all}
use Rattle.std.proofs.lemmas.List.Elements.{filter_more}
use Rattle.std.proofs.lemmas.List.Folds.{list_any_more}
use Rattle.std.proofs.lemmas.List.Quantifiers.{position-Some}
use Rattle.std.proofs.lemmas.List.Sums.{fails_before_first}
use Rattle.std.proofs.lemmas.Option.{slice_get-get_or, get_or_from_slice_get, none-some, same_Some}
use Rattle.fab_model.specs.Written.{MakesItself}
use Rattle.fab_model.specs.declared.rows.SwitchId.{SwitchId}
use Rattle.fab_model.specs.declared.rows.ChannelId.{ChannelId}
use Rattle.fab_model.specs.declared.rows.SwitchRow.{SwitchRow}
use Rattle.fab_model.specs.declared.rows.ChannelRow.{ChannelRow}
use Rattle.fab_model.specs.declared.rows.Cable.{Cable}
use Rattle.fab_model.specs.declared.fault.WithoutFault.TheVariants.{UnknownCable, Memory}
use Rattle.fab_model.specs.declared.fault.WithoutFault.{WithoutFault}
use Rattle.std.specs.declared.alloc.AllocError.{AllocError}
use Rattle.fab_text.specs.Readings.{Gives}
use Rattle.fab_model.specs.Topology.{Topology, switch_id, channel_id, guid_of, ports_of, reversed, leaves_by, switch_of, channel_at, IsReverse}
use Rattle.fab_model.specs.WellFormed.{IsWellFormed}
use Rattle.fab_model.specs.Without.{leaves_named, is_listed, is_unknown, named_channel, unless_unknown, listed_rows, wants_memory}
use Rattle.fab_model.proofs.Lids.{is_some_position}
use Rattle.fab_model.proofs.Tables.{leave_apart}
use Rattle.fab_model.proofs.Finds.{position_is, position_none}

-- ---- first places

position_agree : {X : Type 0} (p q : X → Bool) (xs : List X) → ((k : ℕ) (d : X) → k < length xs → p (get_or xs k d) ≡ q (get_or xs k d)) → position_or_len p xs ≡ position_or_len q xs
position_agree p q [] agree = refl
position_agree p q (x ∷ xs) agree =
    let here : p x ≡ q x = agree 0 x (omega arith) in
    let rest = position_agree p q xs (λ k d h. agree (suc k) d (omega arith)) in
    rw (here, rest)

fails_where_none : {X : Type 0} (p : X → Bool) (xs : List X) → position p xs ≡ None → (k : ℕ) (d : X) → k < length xs → p (get_or xs k d) ≡ false
fails_where_none p xs none k d h =
    elim (cases_lt (position_or_len p xs) (length xs)) [
      | inl within ↦ absurd (none-some (position_or_len p xs) (sym none ∙ rw (lt-ltb (position_or_len p xs) (length xs) within)))
      | inr past ↦ fails_before_first p xs k d (omega arith)
    ]

-- ---- switches by GUID

guid_at : (fabric : Topology) (switch : ℕ) (d : SwitchRow) → switch < length fabric.switches → guid_of fabric switch ≡ (get_or fabric.switches switch d).guid
guid_at fabric switch d h = rw (slice_get-get_or fabric.switches switch d h)

no_switch : SwitchRow
no_switch = record { guid = 0; lid = record { 0 = 0 }; ports = 0; desc = [] }

guids_differ : (fabric : Topology) → IsWellFormed fabric → (a b : ℕ) → a < length fabric.switches → b < length fabric.switches → guid_of fabric a ≡ guid_of fabric b → a ≡ b
guids_differ fabric are a b ha hb same =
    let at_a = guid_at fabric a no_switch ha in
    let at_b = guid_at fabric b no_switch hb in
    elim (cases_order a b) [
      | inl equal ↦ equal
      | inr other ↦ absurd (elim other [
        | inl less ↦ omega (arith, same, at_a, at_b, are.switch_guids a b no_switch less hb)
        | inr more ↦ omega (arith, same, at_a, at_b, are.switch_guids b a no_switch more ha)
      ])
    ]

-- ---- the named channel

pub named_at : (fabric : Topology) → IsWellFormed fabric → (cable : Cable) (switch : ℕ) → switch_of fabric cable.guid ≡ Some switch → named_channel fabric cable ≡ channel_at fabric switch cable.port
named_at fabric are cable switch found =
    let there = position-Some (λ (row : SwitchRow). eqb row.guid cable.guid) fabric.switches switch no_switch found in
    let guid = guid_at fabric switch no_switch there.0 ∙ eqb-true (get_or fabric.switches switch no_switch).guid cable.guid there.1 in
    let agree = λ (k : ℕ) (d : ChannelRow) (h : k < length fabric.channels).
    let row = get_or fabric.channels k d in
    let same : eqb (guid_of fabric row.tail.0) cable.guid ≡ eqb row.tail.0 switch =
    elim (cases_eq row.tail.0 switch) [
      | inl equal ↦ eq-eqb (guid_of fabric row.tail.0) cable.guid (ap (guid_of fabric) equal ∙ guid) ∙ sym (eq-eqb row.tail.0 switch equal)
      | inr other ↦ ne_eqb (guid_of fabric row.tail.0) cable.guid (λ e. other (guids_differ fabric are row.tail.0 switch (are.channel_tails k d h) there.0 (e ∙ sym guid))) ∙ sym (ne_eqb row.tail.0 switch other)
    ] in
    ap (λ b. b && eqb row.port cable.port) same in
    let places = position_agree (λ (row : ChannelRow). leaves_named fabric row cable) (leaves_by switch cable.port) fabric.channels agree in
    rw places

pub named_nowhere : (fabric : Topology) → IsWellFormed fabric → (cable : Cable) → switch_of fabric cable.guid ≡ None → named_channel fabric cable ≡ None
named_nowhere fabric are cable missing =
    position_none (λ (row : ChannelRow). leaves_named fabric row cable) fabric.channels (λ k d h.
    let row = get_or fabric.channels k d in
    let tail = are.channel_tails k d h in
    let fails : eqb (guid_of fabric row.tail.0) cable.guid ≡ false = rw (guid_at fabric row.tail.0 no_switch tail) (fails_where_none (λ (row : SwitchRow). eqb row.guid cable.guid) fabric.switches missing row.tail.0 no_switch tail) in
    and_left (eqb (guid_of fabric row.tail.0) cable.guid) (eqb row.port cable.port) fails)

pub named_too_high : (fabric : Topology) → IsWellFormed fabric → (cable : Cable) → 255 < cable.port → named_channel fabric cable ≡ None
named_too_high fabric are cable high =
    position_none (λ (row : ChannelRow). leaves_named fabric row cable) fabric.channels (λ k d h.
    let row = get_or fabric.channels k d in
    let tail = are.channel_tails k d h in
    let ports : ports_of fabric row.tail.0 ≡ (get_or fabric.switches row.tail.0 no_switch).ports = rw (slice_get-get_or fabric.switches row.tail.0 no_switch tail) in
    let low = are.switch_ports row.tail.0 no_switch tail in
    and_right (eqb (guid_of fabric row.tail.0) cable.guid) (eqb row.port cable.port) (ne_eqb row.port cable.port (λ e. omega (arith, e, ports, low, (are.channel_ports k d h).1))))

pub unknown_where_none : (fabric : Topology) (cable : Cable) → is_unknown fabric cable ≡ not (is_some (named_channel fabric cable))
unknown_where_none fabric cable = ap not (sym (is_some_position (λ (row : ChannelRow). leaves_named fabric row cable) fabric.channels))

-- ---- the listing, one cable on

abbrev pub no_channel : ChannelRow
no_channel = record { tail = switch_id 0; port = 0; tip = switch_id 0; tip_port = 0 }

same_place : (fabric : Topology) → IsWellFormed fabric → (j k : ℕ) → j < length fabric.channels → k < length fabric.channels → (get_or fabric.channels j no_channel).tail.0 ≡ (get_or fabric.channels k no_channel).tail.0 → (get_or fabric.channels j no_channel).port ≡ (get_or fabric.channels k no_channel).port → j ≡ k
same_place fabric are j k hj hk tails ports =
    let apart = leave_apart fabric.channels are.channels_rise in
    elim (cases_order j k) [
      | inl equal ↦ equal
      | inr other ↦ absurd (elim other [
        | inl less ↦ apart j k no_channel less hk tails ports
        | inr more ↦ apart k j no_channel more hj (sym tails) (sym ports)
      ])
    ]

-- two channels that leave the named switch by the named port are one
named_once : (fabric : Topology) → IsWellFormed fabric → (cable : Cable) (j k : ℕ) → j < length fabric.channels → k < length fabric.channels → leaves_named fabric (get_or fabric.channels j no_channel) cable ≡ true → leaves_named fabric (get_or fabric.channels k no_channel) cable ≡ true → j ≡ k
named_once fabric are cable j k hj hk first second =
    let a = get_or fabric.channels j no_channel in
    let b = get_or fabric.channels k no_channel in
    let of_a = and_parts (eqb (guid_of fabric a.tail.0) cable.guid) (eqb a.port cable.port) first in
    let of_b = and_parts (eqb (guid_of fabric b.tail.0) cable.guid) (eqb b.port cable.port) second in
    let guids : guid_of fabric a.tail.0 ≡ guid_of fabric b.tail.0 = eqb-true (guid_of fabric a.tail.0) cable.guid of_a.0 ∙ sym (eqb-true (guid_of fabric b.tail.0) cable.guid of_b.0) in
    let ports : a.port ≡ b.port = eqb-true a.port cable.port of_a.1 ∙ sym (eqb-true b.port cable.port of_b.1) in
    same_place fabric are j k hj hk (guids_differ fabric are a.tail.0 b.tail.0 (are.channel_tails j no_channel hj) (are.channel_tails k no_channel hk) guids) ports

-- whether a cable names an end of a channel's cable
abbrev pub names : Topology → ChannelRow → Cable → Bool
names fabric row cable = leaves_named fabric row cable || leaves_named fabric (reversed row) cable

-- The named channel and its reverse, and no other, have an end that is named.
pub record IsNamedPair (fabric : Topology) (cable : Cable) (channel other : ℕ) : Type 0 where
  pub within : channel < length fabric.channels
  pub other_within : other < length fabric.channels
  pub named : names fabric (get_or fabric.channels channel no_channel) cable ≡ true
  pub other_named : names fabric (get_or fabric.channels other no_channel) cable ≡ true
  pub only : (k : ℕ) → k < length fabric.channels → k ≢ channel → k ≢ other → names fabric (get_or fabric.channels k no_channel) cable ≡ false

pub named_pair : (fabric : Topology) → IsWellFormed fabric → (cable : Cable) (channel other : ℕ) → named_channel fabric cable ≡ Some channel → IsReverse fabric channel other → other < length fabric.channels → IsNamedPair fabric cable channel other
named_pair fabric are cable channel other found reverse inside =
    let rows = fabric.channels in
    let there = position-Some (λ (row : ChannelRow). leaves_named fabric row cable) rows channel no_channel found in
    let row = get_or rows channel no_channel in
    let back : get_or rows other no_channel ≡ reversed row =
    get_or_from_slice_get rows other (reversed row) no_channel (rw (slice_get-get_or rows channel no_channel there.0) at reverse) in
    let back_named : leaves_named fabric (reversed (get_or rows other no_channel)) cable ≡ true = rw back there.1 in
    record {
      within = there.0;
      other_within = inside;
      named = or_left (leaves_named fabric row cable) (leaves_named fabric (reversed row) cable) there.1;
      other_named = or_right (leaves_named fabric (get_or rows other no_channel) cable) (leaves_named fabric (reversed (get_or rows other no_channel)) cable) back_named;
      only = λ k h not_channel not_other.
          let this = get_or rows k no_channel in
          let first : leaves_named fabric this cable ≡ false =
          false_from_ne_true (leaves_named fabric this cable) (λ t. not_channel (named_once fabric are cable k channel h there.0 t there.1)) in
          let second : leaves_named fabric (reversed this) cable ≡ false =
          false_from_ne_true (leaves_named fabric (reversed this) cable) (λ t.
          let at = are.reverses k no_channel h in
          let here : get_or rows at.0 no_channel ≡ reversed this = get_or_default rows at.0 no_channel (reversed this) at.1 ∙ at.2 in
          let is_channel : at.0 ≡ channel = named_once fabric are cable at.0 channel at.1 there.0 (rw here t) there.1 in
          let row_is : row ≡ reversed this = ap (λ n. get_or rows n no_channel) (sym is_channel) ∙ here in
          let same : get_or rows other no_channel ≡ this = back ∙ ap reversed row_is in
          not_other (same_place fabric are k other h inside (ap (λ (r : ChannelRow). r.tail.0) (sym same)) (ap (λ (r : ChannelRow). r.port) (sym same)))) in
          rw (first, second);
    }

or_false : (b : Bool) → (b || false) ≡ b
or_false true = refl
or_false false = refl

pub listing_step : (fabric : Topology) (cables : List Cable) (i : ℕ) (d : Cable) (channel other : ℕ) → i < length cables → IsNamedPair fabric (get_or cables i d) channel other → set (set (map (is_listed fabric (take i cables)) fabric.channels) channel true) other true ≡ map (is_listed fabric (take (i + 1) cables)) fabric.channels
listing_step fabric cables i d channel other h pair =
    let rows = fabric.channels in
    let before = map (is_listed fabric (take i cables)) rows in
    let after = map (is_listed fabric (take (i + 1) cables)) rows in
    let long : length before ≡ length rows = length-map rows (is_listed fabric (take i cables)) in
    let once = set before channel true in
    let twice = set once other true in
    let long_once : length once ≡ length rows = length-set before channel true ∙ long in
    let long_twice : length twice ≡ length rows = length-set once other true ∙ long_once in
    same_lists twice after (long_twice ∙ sym (length-map rows (is_listed fabric (take (i + 1) cables)))) (λ k e lt.
    let inside : k < length rows = omega (arith, lt, long_twice) in
    let row = get_or rows k no_channel in
    let wanted : get_or after k e ≡ (is_listed fabric (take i cables) row || names fabric row (get_or cables i d)) =
    get_or-map (is_listed fabric (take (i + 1) cables)) rows k no_channel e inside ∙ list_any_more (names fabric row) cables i d h in
    let was : get_or before k e ≡ is_listed fabric (take i cables) row = get_or-map (is_listed fabric (take i cables)) rows k no_channel e inside in
    let listed = λ (yes : names fabric row (get_or cables i d) ≡ true). wanted ∙ or_right (is_listed fabric (take i cables) row) (names fabric row (get_or cables i d)) yes in
    elim (cases_eq k other) [
      | inl is_other ↦
          let set_here : get_or twice k e ≡ true = ap (λ n. get_or twice n e) is_other ∙ get_or-set_same once other true e (omega (arith, long_once, pair.other_within)) in
          set_here ∙ sym (listed (ap (λ n. names fabric (get_or rows n no_channel) (get_or cables i d)) is_other ∙ pair.other_named))
      | inr not_other ↦
          get_or-set_other once other k true e not_other ∙ elim (cases_eq k channel) [
            | inl is_channel ↦
                let set_here : get_or once k e ≡ true = ap (λ n. get_or once n e) is_channel ∙ get_or-set_same before channel true e (omega (arith, long, pair.within)) in
                set_here ∙ sym (listed (ap (λ n. names fabric (get_or rows n no_channel) (get_or cables i d)) is_channel ∙ pair.named))
            | inr not_channel ↦
                let rest = pair.only k inside not_channel not_other in
                get_or-set_other before channel k true e not_channel ∙ was ∙ sym (wanted ∙ ap (λ b. is_listed fabric (take i cables) row || b) rest ∙ or_false (is_listed fabric (take i cables) row))
          ]
    ])

-- ---- what calls answer

none_from_map : {A B : Type 0} (f : A → B) (o : Option A) → None ≡ option_map f o → o ≡ None
none_from_map f None e = refl
none_from_map f (Some x) e = absurd (none-some (f x) e)

pub no_switch_of : (o : Option ℕ) → None ≡ option_map switch_id o → o ≡ None
no_switch_of o e = none_from_map switch_id o e

pub switch_from_id : (o : Option ℕ) (id : SwitchId) → Some id ≡ option_map switch_id o → o ≡ Some id.0
switch_from_id None id e = absurd (none-some id (sym e))
switch_from_id (Some n) id e = ap (λ (s : SwitchId). Some s.0) (sym (same_Some id (switch_id n) e))

pub no_channel_of : (o : Option ℕ) → None ≡ option_map channel_id o → o ≡ None
no_channel_of o e = none_from_map channel_id o e

pub channel_from_id : (o : Option ℕ) (id : ChannelId) → Some id ≡ option_map channel_id o → o ≡ Some id.0
channel_from_id None id e = absurd (none-some id (sym e))
channel_from_id (Some n) id e = ap (λ (c : ChannelId). Some c.0) (sym (same_Some id (channel_id n) e))

pub port_fits : {E : Type 0} (r : Result ℕ E) (n port : ℕ) → OkIff r (n < 256) n → Some port ≡ result_ok r → port ≡ n
port_fits (Ok x) n port is e = same_Some port x e ∙ is.1
port_fits (Err x) n port is e = absurd (none-some port (sym e))

pub port_too_high : {E : Type 0} (r : Result ℕ E) (n : ℕ) → OkIff r (n < 256) n → None ≡ result_ok r → 255 < n
port_too_high (Ok x) n is e = absurd (none-some x e)
port_too_high (Err x) n is e = elim (cases_lt n 256) [ inl low ↦ absurd (is low) | inr high ↦ omega arith ]

-- ---- the listing, at its start and at its ends

all_false : (rows : List ChannelRow) → replicate (length rows) false ≡ map (λ (row : ChannelRow). false) rows
all_false [] = refl
all_false (row ∷ rows) = ap (λ bs. false ∷ bs) (all_false rows)

pub nothing_listed : (fabric : Topology) (flags : List Bool) → flags ≡ replicate (length fabric.channels) false → flags ≡ map (is_listed fabric []) fabric.channels
nothing_listed fabric flags none = none ∙ all_false fabric.channels

pub known_where_named : (fabric : Topology) (cable : Cable) (channel : ℕ) → named_channel fabric cable ≡ Some channel → is_unknown fabric cable ≡ false
known_where_named fabric cable channel found = unknown_where_none fabric cable ∙ ap (λ o. not (is_some o)) found

pub first_unknown : (fabric : Topology) (cables : List Cable) (i : ℕ) (d : Cable) → i < length cables → ((k : ℕ) (d : Cable) → k < i → is_unknown fabric (get_or cables k d) ≡ false) → named_channel fabric (get_or cables i d) ≡ None → listed_rows fabric cables ≡ Err (UnknownCable i)
first_unknown fabric cables i d h known missing =
    let here : is_unknown fabric (get_or cables i d) ≡ true = unknown_where_none fabric (get_or cables i d) ∙ ap (λ o. not (is_some o)) missing in
    ap (λ o. unless_unknown o (map (is_listed fabric cables) fabric.channels)) (position_is (is_unknown fabric) cables i d h here (λ k lt. known k d lt))

pub none_unknown : (fabric : Topology) (cables : List Cable) (flags : List Bool) (i : ℕ) → length cables ≤ i → ((k : ℕ) (d : Cable) → k < i → is_unknown fabric (get_or cables k d) ≡ false) → flags ≡ map (is_listed fabric (take i cables)) fabric.channels → listed_rows fabric cables ≡ Ok flags
none_unknown fabric cables flags i h known listed =
    let none = position_none (is_unknown fabric) cables (λ k d lt. known k d (omega arith)) in
    let all : take i cables ≡ cables = take_all i cables h in
    ap (λ o. unless_unknown o (map (is_listed fabric cables) fabric.channels)) none ∙ ap Ok (sym (listed ∙ ap (λ cs. map (is_listed fabric cs) fabric.channels) all))

-- ---- what is left

pub unlisted_step : (is_listed : ChannelRow → Bool) (rows kept : List ChannelRow) (flags : List Bool) (i : ℕ) (d : ChannelRow) → i < length rows → flags ≡ map is_listed rows → kept ≡ filter (λ row. not (is_listed row)) (take i rows) → kept ++ cond (not (get_or flags i false)) (get_or rows i d ∷ []) [] ≡ filter (λ row. not (is_listed row)) (take (i + 1) rows)
unlisted_step is_listed rows kept flags i d h listed before =
    let here : get_or flags i false ≡ is_listed (get_or rows i d) = ap (λ fs. get_or fs i false) listed ∙ get_or-map is_listed rows i d false h in
    rw (here, before) (sym (filter_more (λ row. not (is_listed row)) rows i d h))

abbrev pub no_cable : Cable
no_cable = record { guid = 0; port = 0 }

pub known_more : (fabric : Topology) (cables : List Cable) (i channel : ℕ) → i < length cables → ((k : ℕ) (d : Cable) → k < i → is_unknown fabric (get_or cables k d) ≡ false) → named_channel fabric (get_or cables i no_cable) ≡ Some channel → (k : ℕ) (d : Cable) → k < i + 1 → is_unknown fabric (get_or cables k d) ≡ false
known_more fabric cables i channel h known found k d lt =
    elim (cases_lt k i) [
      | inl before ↦ known k d before
      | inr past ↦
          let same : k ≡ i = omega arith in
          let here : get_or cables k d ≡ get_or cables i no_cable = ap (λ n. get_or cables n d) same ∙ get_or_default cables i d no_cable h in
          ap (is_unknown fabric) here ∙ known_where_named fabric (get_or cables i no_cable) channel found
    ]

unless_tells : (o : Option ℕ) (made flags : List Bool) → unless_unknown o made ≡ Ok flags → (o ≡ None) × (flags ≡ made)
unless_tells None made flags told = (refl, cc)
unless_tells (Some i) made flags told = absurd (cc)

pub listing_tells : (fabric : Topology) (cables : List Cable) (flags : List Bool) → listed_rows fabric cables ≡ Ok flags → (position (is_unknown fabric) cables ≡ None) × (flags ≡ map (is_listed fabric cables) fabric.channels)
listing_tells fabric cables flags told = unless_tells (position (is_unknown fabric) cables) (map (is_listed fabric cables) fabric.channels) flags told

-- ---- want of memory on the way

pub gives_made : {P : AllocError → WithoutFault → Type 0} (r : Result Topology AllocError) (s : Result Topology WithoutFault) (wanted : Topology) (taken : Result Topology WithoutFault) → IfOk r (λ fabric. fabric ≡ wanted) → taken ≡ Ok wanted → MatchResult r (λ x. s ≡ Ok x) (λ e. IsErrAnd s (P e)) → ((e : AllocError) (f : WithoutFault) → P e f → f ≡ Memory e) → Gives wants_memory s taken
gives_made (Ok x) (Ok y) wanted taken made told m memory = let e : x ≡ y = cc in told ∙ ap Ok (sym made ∙ e)
gives_made (Ok x) (Err f) wanted taken made told m memory = absurd (cc)
gives_made (Err e) (Ok y) wanted taken made told m memory = absurd m
gives_made (Err e) (Err f) wanted taken made told m memory = rw (memory e f m) tt

pub itself_made : (P : AllocError → WithoutFault → Type 0) (r : Result Topology AllocError) (s : Result Topology WithoutFault) → IfOk r MakesItself → MatchResult r (λ x. s ≡ Ok x) (λ e. IsErrAnd s (P e)) → IfOk s MakesItself
itself_made P (Ok x) (Ok y) made m = let e : x ≡ y = cc in subst MakesItself e made
itself_made P (Ok x) (Err f) made m = tt
itself_made P (Err e) (Ok y) made m = absurd m
itself_made P (Err e) (Err f) made m = tt

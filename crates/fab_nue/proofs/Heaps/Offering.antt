-- Choices that are put in one after the other: each channel has one at most, so there is room.
use Rattle.std.proofs.Common.{◌≡◌, ◌≢◌, ℕ, zero, suc, ◌+◌, ◌<◌, ◌≤◌, ◌⊎◌, inl, inr, Bool, true, false, cond, List, [], ◌∷◌, length, Some, Option, option_map, slice_get, get_or, unwrap_or, lt-ltb, le-ltb, refl, sym, ◌∙◌, ap, subst, arith}
use Rattle.std.specs.Prelude.{Contains, IfSome, IsPermutation, count_by, nat_lt, ◌==◌}
use Rattle.std.proofs.lemmas.Bool.{ne_eqb, cases_lt, eq-eqb, ltb-true}
use Rattle.std.proofs.lemmas.List.Sorted.{Contains-permutation, IsPermutation-sym, IsPermutation-refl, sum_by-IsPermutation}
use Rattle.std.proofs.lemmas.List.Sums.{sum_by-cons}
use Rattle.std.proofs.lemmas.Option.{same_Some, slice_get_within, slice_get-get_or, get_or_from_slice_get}
use Rattle.fab_model.specs.declared.rows.ChannelRow.{ChannelRow}
use Rattle.fab_model.specs.Topology.{Topology, channel_id, IsReverse, first_channel, reversed}
use Rattle.fab_model.specs.WellFormed.{IsWellFormed}
use Rattle.fab_model.proofs.Channels.{contains_read, channel_once}
use Rattle.fab_tables.specs.Route.{tip, tip_of_row}
use Rattle.fab_tables.proofs.Joined.Leaving.{leaves_from, stands_between}
use Rattle.fab_tables.proofs.Joined.Walks.{reverse_there}
use Rattle.fab_nue.specs.declared.choices.Choice.{Choice}
use Rattle.fab_nue.specs.Choices.{Held, GainsChoice}
use Rattle.fab_nue.specs.Search.{tail, IsSettled}
use Rattle.fab_nue.specs.Offers.{times_held, HoldsOnce, Offers, LeadsInto, LeadElsewhere}
use Rattle.fab_nue.proofs.Searching.Growing.{same_or_other}
use Rattle.fab_nue.proofs.Searching.SearchTrees.{channel_leaves}
use Rattle.fab_nue.proofs.Heaps.Heaping.{first_or_later}

-- ---- how many stand there

abbrev pub one_if : Bool → ℕ
one_if b = cond b 1 0

pub held_more : (m : Choice) (ms : List Choice) (c : ℕ) → times_held (m ∷ ms) c ≡ one_if (m.channel.0 == c) + times_held ms c
held_more m ms c = sum_by-cons (λ (e : Choice). one_if (e.channel.0 == c)) m ms

none_held : (entries : List Choice) (c : ℕ) → ((m : Choice) → Contains entries m → m.channel.0 ≢ c) → times_held entries c ≡ 0
none_held [] c none = refl
none_held (m ∷ ms) c none =
    let head : one_if (m.channel.0 == c) ≡ 0 = ap one_if (ne_eqb m.channel.0 c (none m (0, omega arith, refl))) in
    let rest : times_held ms c ≡ 0 = none_held ms c (λ e has. none e (suc has.0, omega (arith, has.1), has.2)) in
    omega (arith, held_more m ms c, head, rest)

-- of those with a channel below the next number, each is below this one or has it
split_one : (x n : ℕ) → one_if (nat_lt x (suc n)) ≤ one_if (nat_lt x n) + one_if (x == n)
split_one x n = go (nat_lt x (suc n)) refl (cases_lt x n)
  where
    go : (b : Bool) → nat_lt x (suc n) ≡ b → (x < n) ⊎ (n ≤ x) → one_if b ≤ one_if (nat_lt x n) + one_if (x == n)
    go false e h = omega arith
    go true e (inl less) = let yes : one_if (nat_lt x n) ≡ 1 = ap one_if (lt-ltb x n less) in omega (arith, yes)
    go true e (inr more) = let yes : one_if (x == n) ≡ 1 = ap one_if (eq-eqb x n (omega (arith, more, ltb-true x (suc n) e))) in omega (arith, yes)

abbrev below : List Choice → ℕ → ℕ
below entries n = count_by (λ m. nat_lt m.channel.0 n) entries

below_more : (m : Choice) (ms : List Choice) (n : ℕ) → below (m ∷ ms) n ≡ one_if (nat_lt m.channel.0 n) + below ms n
below_more m ms n = sum_by-cons (λ (e : Choice). one_if (nat_lt e.channel.0 n)) m ms

split_all : (entries : List Choice) (n : ℕ) → below entries (suc n) ≤ below entries n + times_held entries n
split_all [] n = omega arith
split_all (m ∷ ms) n = omega (arith, below_more m ms n, below_more m ms (suc n), held_more m ms n, split_one m.channel.0 n, split_all ms n)

below_none : (entries : List Choice) → below entries 0 ≡ 0
below_none [] = refl
below_none (m ∷ ms) = omega (arith, below_more m ms 0, ap one_if (le-ltb m.channel.0 0 (omega arith)), below_none ms)

below_few : (entries : List Choice) → ((c : ℕ) → times_held entries c ≤ 1) → (n : ℕ) → below entries n ≤ n
below_few entries once zero = omega (arith, below_none entries)
below_few entries once (suc n) = omega (arith, split_all entries n, once n, below_few entries once n)

below_all : (entries : List Choice) (n : ℕ) → ((m : Choice) → Contains entries m → m.channel.0 < n) → below entries n ≡ length entries
below_all [] n within = refl
below_all (m ∷ ms) n within =
    omega (arith, below_more m ms n, ap one_if (lt-ltb m.channel.0 n (within m (0, omega arith, refl))), below_all ms n (λ e has. within e (suc has.0, omega (arith, has.1), has.2)))

pub few_held : (t : Topology) (entries : List Choice) → HoldsOnce t entries → length entries ≤ length t.channels
few_held t entries h = omega (arith, below_all entries (length t.channels) h.within, below_few entries h.once (length t.channels))

-- one more, whose channel has none
pub holds_more : (t : Topology) (old new : List Choice) (m : Choice) → HoldsOnce t old → m.channel.0 < length t.channels → ((e : Choice) → Contains old e → e.channel.0 ≢ m.channel.0) →
    IsPermutation new (m ∷ old) → HoldsOnce t new
holds_more t old new m h low none perm = record { once = once; within = within }
  where
    once : (c : ℕ) → times_held new c ≤ 1
    once c = elim (same_or_other m.channel.0 c) [
      | inl e ↦ omega (arith, counted c, held_more m old c, ap one_if (eq-eqb m.channel.0 c e), none_held old c (λ x has y. none x has (y ∙ sym e)))
      | inr other ↦ omega (arith, counted c, held_more m old c, ap one_if (ne_eqb m.channel.0 c other), h.once c)
    ]
      where
        counted : (c : ℕ) → times_held (m ∷ old) c ≡ times_held new c
        counted c = sum_by-IsPermutation (λ (e : Choice). one_if (e.channel.0 == c)) new (m ∷ old) perm

    within : (e : Choice) → Contains new e → e.channel.0 < length t.channels
    within e has = elim (first_or_later m e old (Contains-permutation new (m ∷ old) e perm has)) [
      | inl is ↦ subst (λ (x : Choice). x.channel.0 < length t.channels) is low
      | inr before ↦ h.within e before
    ]

-- so there is room for it
pub room_left : (t : Topology) (entries : List Choice) (c : ℕ) → HoldsOnce t entries → c < length t.channels → ((e : Choice) → Contains entries e → e.channel.0 ≢ c) → length entries < length t.channels
room_left t entries c h low none =
    let m : Choice = record { weight = 0; channel = channel_id c } in
    omega (arith, few_held t (m ∷ entries) (holds_more t entries (m ∷ entries) m h low none (IsPermutation-refl (m ∷ entries))))

-- ---- offering one after the other

module _ (t : Topology) (to : ℕ) (tree : List (Option ℕ)) (cost : ℕ → ℕ) where
  pub offers_none : (Some_of : ℕ → Type 0) (old : List Choice) → HoldsOnce t old → ((c : ℕ) → ¬ Some_of c) → Offers t to tree cost Some_of old old
  offers_none Some_of old h none = record { holds = h; kept = λ m has. has; offered = λ c some. absurd (none c some); only = λ m has. inl has }

  -- the same channels
  pub offers_same : (Some_of Others : ℕ → Type 0) (old new : List Choice) → ((c : ℕ) → Some_of c → Others c) → ((c : ℕ) → Others c → Some_of c) →
      Offers t to tree cost Some_of old new → Offers t to tree cost Others old new
  offers_same Some_of Others old new on back x = record {
    holds = x.holds;
    kept = x.kept;
    offered = λ c some left. x.offered c (back c some) left;
    only = λ m has. elim (x.only m has) [ inl before ↦ inl before | inr is ↦ inr (on m.channel.0 is.0, is.1) ];
  }

  -- one more, whose tail is settled
  pub offers_skip : (Some_of Others : ℕ → Type 0) (old now : List Choice) (c : ℕ) → ((d : ℕ) → Some_of d → Others d) → ((d : ℕ) → Others d → Some_of d ⊎ (d ≡ c)) →
      IsSettled to tree (tail t c) → Offers t to tree cost Some_of old now → Offers t to tree cost Others old now
  offers_skip Some_of Others old now c on back settled x = record {
    holds = x.holds;
    kept = x.kept;
    offered = λ d some left. elim (back d some) [ inl before ↦ x.offered d before left | inr e ↦ absurd (left (subst (λ k. IsSettled to tree (tail t k)) (sym e) settled)) ];
    only = λ m has. elim (x.only m has) [ inl before ↦ inl before | inr is ↦ inr (on m.channel.0 is.0, is.1) ];
  }

  -- one more, which is put in
  pub offers_push : (Some_of Others : ℕ → Type 0) (old : List Choice) (now new : Held) (m : Choice) → ((d : ℕ) → Some_of d → Others d) → ((d : ℕ) → Others d → Some_of d ⊎ (d ≡ m.channel.0)) →
      Others m.channel.0 → m.channel.0 < length t.channels → m.weight ≡ cost m.channel.0 → ((e : Choice) → Contains now.entries e → e.channel.0 ≢ m.channel.0) →
      GainsChoice now new m → Offers t to tree cost Some_of old now.entries → Offers t to tree cost Others old new.entries
  offers_push Some_of Others old now new m on back this low weighs none gains x = record {
    holds = holds_more t now.entries new.entries m x.holds low none gains.entries;
    kept = λ e has. later e (x.kept e has);
    offered = λ d some left. elim (back d some) [
      | inl before ↦ later (record { weight = cost d; channel = channel_id d }) (x.offered d before left)
      | inr e ↦ subst (λ k. Contains new.entries (record { weight = cost k; channel = channel_id k })) (sym e) (subst (λ w. Contains new.entries (record { weight = w; channel = m.channel })) weighs first)
    ];
    only = λ e has. elim (first_or_later m e now.entries (Contains-permutation new.entries (m ∷ now.entries) e gains.entries has)) [
      | inl is ↦ inr (subst (λ (k : Choice). Others k.channel.0 × (k.weight ≡ cost k.channel.0)) is (this, weighs))
      | inr before ↦ (elim (x.only e before) [ inl older ↦ inl older | inr one ↦ inr (on e.channel.0 one.0, one.1) ])
    ];
  }
    where
      back_in : IsPermutation (m ∷ now.entries) new.entries
      back_in = IsPermutation-sym new.entries (m ∷ now.entries) gains.entries

      first : Contains new.entries m
      first = Contains-permutation (m ∷ now.entries) new.entries m back_in (0, omega arith, refl)

      later : (e : Choice) → Contains now.entries e → Contains new.entries e
      later e has = Contains-permutation (m ∷ now.entries) new.entries e back_in (suc has.0, omega (arith, has.1), has.2)

-- ---- the channels that lead to a switch are the reverses of those that leave it

-- the reverse of one that leaves it, of a smaller number
abbrev pub ReversesOne : Topology → ℕ → ℕ → ℕ → Type 0
ReversesOne t y past c = (l : ℕ) × (first_channel t y ≤ l) × (l < past) × (l < length t.channels) × IsReverse t l c

module _ (t : Topology) (good : IsWellFormed t) (y : ℕ) where
  reverse_row : (l c : ℕ) (row : ChannelRow) → slice_get t.channels l ≡ Some row → IsReverse t l c → slice_get t.channels c ≡ Some (reversed row)
  reverse_row l c row at is = let P : Option ChannelRow → Type 0 = λ o. IfSome o (λ r. slice_get t.channels c ≡ Some (reversed r)) in subst P at is

  row_at : (l : ℕ) → l < length t.channels → (row : ChannelRow) × (slice_get t.channels l ≡ Some row)
  row_at l low = let leaves = channel_leaves t l low in (leaves.0, leaves.1)

  pub none_reversed : (c : ℕ) → ¬ ReversesOne t y (first_channel t y) c
  none_reversed c x = omega (arith, x.1, x.2)

  pub reversed_before : (n c : ℕ) → ReversesOne t y n c → ReversesOne t y (n + 1) c
  reversed_before n c x = (x.0, x.1, omega (arith, x.2), x.3, x.4)

  pub one_reverse : (l c d : ℕ) → l < length t.channels → IsReverse t l c → IsReverse t l d → c ≡ d
  one_reverse l c d low x y =
      let row = row_at l low in
      channel_once t good c d (reversed row.0) (reverse_row l c row.0 row.1 x) (reverse_row l d row.0 row.1 y)

  pub reversed_or_this : (n c d : ℕ) → IsReverse t n c → ReversesOne t y (n + 1) d → ReversesOne t y n d ⊎ (d ≡ c)
  reversed_or_this n c d this x = elim (cases_lt x.0 n) [
    | inl less ↦ inl (x.0, x.1, less, x.3, x.4)
    | inr more ↦
        (let same : x.0 ≡ n = omega (arith, more, x.2) in
        inr (one_reverse n d c (subst (λ k. k < length t.channels) same x.3) (subst (λ k. IsReverse t k d) same x.4) this))
  ]

  -- a channel reverses one only
  pub not_reversed_before : (n c : ℕ) → n < length t.channels → IsReverse t n c → ¬ ReversesOne t y n c
  not_reversed_before n c low this x =
      let own = row_at n low in
      let other = row_at x.0 x.3 in
      let same : reversed other.0 ≡ reversed own.0 = same_Some (reversed other.0) (reversed own.0) (sym (reverse_row x.0 c other.0 other.1 x.4) ∙ reverse_row n c own.0 own.1 this) in
      let back : other.0 ≡ own.0 = ap reversed same in
      omega (arith, x.2, channel_once t good x.0 n own.0 (other.1 ∙ ap Some back) own.1)

  pub reversed_leads : (n c : ℕ) → n ≤ first_channel t (y + 1) → ReversesOne t y n c → LeadsInto t y c
  reversed_leads n c high x =
      let row = row_at x.0 x.3 in
      let at : slice_get t.channels c ≡ Some (reversed row.0) = reverse_row x.0 c row.0 row.1 x.4 in
      let here : row.0.tail.0 ≡ y = ap (λ (r : ChannelRow). r.tail.0) (sym (get_or_from_slice_get t.channels x.0 row.0 row.0 row.1)) ∙ leaves_from t good y x.0 row.0 x.3 x.1 (omega (arith, x.2, high)) in
      (slice_get_within t.channels c (reversed row.0) at, ap tip_of_row at ∙ here)

  pub leads_reversed : (n c : ℕ) → first_channel t (y + 1) ≤ n → LeadsInto t y c → ReversesOne t y n c
  leads_reversed n c high x =
      let row = row_at c x.0 in
      let back : Contains t.channels (reversed row.0) = reverse_there t good row.0 (contains_read t.channels c row.0 row.1) in
      let at : slice_get t.channels back.0 ≡ Some (reversed row.0) = slice_get-get_or t.channels back.0 (reversed row.0) back.1 ∙ ap (λ r. Some r) back.2 in
      let tail_is : (get_or t.channels back.0 (reversed row.0)).tail.0 ≡ y = ap (λ (r : ChannelRow). r.tail.0) back.2 ∙ sym (ap tip_of_row row.1) ∙ x.1 in
      let between : (first_channel t y ≤ back.0) × (back.0 < first_channel t (y + 1)) = stands_between t good y back.0 (reversed row.0) back.1 tail_is in
      let P : Option ChannelRow → Type 0 = λ o. IfSome o (λ r. slice_get t.channels c ≡ Some (reversed r)) in
      (back.0, between.0, omega (arith, between.1, high), back.1, subst P (sym at) row.1)

  -- the tail of the reverse is the tip
  pub reverse_tail : (n c : ℕ) → n < length t.channels → IsReverse t n c → tail t c ≡ tip t n
  reverse_tail n c low this =
      let row = row_at n low in
      ap (λ o. unwrap_or (option_map (λ (r : ChannelRow). r.tail.0) o) 0) (reverse_row n c row.0 row.1 this) ∙ sym (ap tip_of_row row.1)

  -- no choice so far has the reverse of the channel
  module _ (to : ℕ) (tree : List (Option ℕ)) (cost : ℕ → ℕ) (old now : List Choice) (elsewhere : LeadElsewhere t y old) (n c : ℕ) (low : n < length t.channels) (from : first_channel t y ≤ n)
      (past : n < first_channel t (y + 1)) (this : IsReverse t n c) (x : Offers t to tree cost (ReversesOne t y n) old now) where
    this_one : ReversesOne t y (n + 1) c
    this_one = (n, from, omega arith, low, this)

    pub fresh : (e : Choice) → Contains now e → e.channel.0 ≢ c
    fresh e has is = elim (x.only e has) [
      | inl before ↦ elsewhere e before (ap (tip t) is ∙ (reversed_leads (n + 1) c (omega (arith, past)) this_one).1)
      | inr one ↦ not_reversed_before n c low this (subst (ReversesOne t y n) is one.0)
    ]

    -- its reverse is put in, or its tip is settled
    pub offers_more : (held new : Held) (m : Choice) → held.entries ≡ now → m.channel.0 ≡ c → m.weight ≡ cost c → c < length t.channels → GainsChoice held new m →
        Offers t to tree cost (ReversesOne t y (n + 1)) old new.entries
    offers_more held new m at is weighs within gains =
        offers_push t to tree cost (ReversesOne t y n) (ReversesOne t y (n + 1)) old held new m (reversed_before n)
        (λ d r. reversed_or_this n m.channel.0 d (subst (IsReverse t n) (sym is) this) r) (subst (ReversesOne t y (n + 1)) (sym is) this_one) (omega (arith, within, is)) (weighs ∙ ap cost (sym is))
        (λ e has same. fresh e (subst (λ (es : List Choice). Contains es e) at has) (same ∙ is)) gains
        (subst (λ (es : List Choice). Offers t to tree cost (ReversesOne t y n) old es) (sym at) x)

  pub offers_on : (to : ℕ) (tree : List (Option ℕ)) (cost : ℕ → ℕ) (old now : List Choice) (n : ℕ) → n < length t.channels → IsSettled to tree (tip t n) →
      Offers t to tree cost (ReversesOne t y n) old now → Offers t to tree cost (ReversesOne t y (n + 1)) old now
  offers_on to tree cost old now n low settled x =
      let row = row_at n low in
      let back : Contains t.channels (reversed row.0) = reverse_there t good row.0 (contains_read t.channels n row.0 row.1) in
      let at : slice_get t.channels back.0 ≡ Some (reversed row.0) = slice_get-get_or t.channels back.0 (reversed row.0) back.1 ∙ ap (λ r. Some r) back.2 in
      let P : Option ChannelRow → Type 0 = λ o. IfSome o (λ r. slice_get t.channels back.0 ≡ Some (reversed r)) in
      let this : IsReverse t n back.0 = subst P (sym row.1) at in
      offers_skip t to tree cost (ReversesOne t y n) (ReversesOne t y (n + 1)) old now back.0 (reversed_before n) (λ d r. reversed_or_this n back.0 d this r)
      (subst (IsSettled to tree) (sym (reverse_tail n back.0 low this)) settled) x

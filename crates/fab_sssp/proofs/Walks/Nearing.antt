-- Steps of a search for distances: an offer is passed over or settles its switch, and what is settled offers to the switches behind it.
use Rattle.std.proofs.Common.{◌≡◌, ◌≢◌, ℕ, zero, suc, ◌+◌, ◌*◌, ◌<◌, ◌≤◌, Bool, true, false, cond, List, [], ◌∷◌, length, get_or, set, replicate, Some, None, Option, option_map, slice_get, is_some, is_none, refl, sym, ◌∙◌, ap, subst, inl, inr, ◌⊎◌, arith, length-set, get_or-set_same, get_or-set_other}
use Rattle.std.specs.Ordering.{nat_cmp, is_lt, ordering_then}
use Rattle.std.specs.declared.cmp.Ordering.{Ordering}
use Rattle.std.specs.declared.cmp.Ordering.TheVariants.{Less, Equal, Greater}
use Rattle.std.specs.BinaryHeap.{IsUpperBound}
use Rattle.std.specs.Prelude.{◌==◌, nat_lt, All, Contains, IfSome, IsSomeAnd, count_by, IsPermutation, slice_index_or}
use Rattle.std.proofs.lemmas.Bool.{cases_eq, cases_lt, false≢true, ltb-false}
use Rattle.std.proofs.lemmas.List.{length-replicate, get_or-replicate, get_or_past}
use Rattle.std.proofs.lemmas.List.Elements.{All-from_recursion, All-cons, All-nil, All-tail, All-contains, All-weaker}
use Rattle.std.proofs.lemmas.List.Sums.{sum_by-set}
use Rattle.std.proofs.lemmas.List.Sorted.{Contains-permutation, All-permutation, IsPermutation-sym}
use Rattle.std.proofs.lemmas.Option.{same_Some, none-some, slice_get-get_or, get_or_from_slice_get}
use Rattle.fab_model.specs.declared.rows.SwitchId.{SwitchId}
use Rattle.fab_model.specs.declared.rows.ChannelRow.{ChannelRow}
use Rattle.fab_model.specs.Topology.{Topology, IsReverse, first_channel, reversed}
use Rattle.fab_model.specs.WellFormed.{IsWellFormed}
use Rattle.fab_model.proofs.Channels.{contains_read, channel_once}
use Rattle.fab_tables.specs.Route.{tip, tip_of_row}
use Rattle.fab_tables.specs.Trees.{LeavesSwitch}
use Rattle.fab_tables.proofs.Joined.Leaving.{leaves_from, stands_between}
use Rattle.fab_tables.proofs.Joined.Walks.{reverse_there}
use Rattle.fab_tables.proofs.Joined.Tips.{tip_below}
use Rattle.fab_sssp.specs.Nearing.{Offer, offer_of, offered_distance, offered_switch, nearest_last, weight_limit, IsFound, IsAttained, IsReached, AreReached, MakesOffer, IsNearing, IsAnyChannel, LeadsElsewhere, LeadsElsewhereOrBefore}
use Rattle.fab_sssp.proofs.Walks.Settled.{AreSettled}

-- the top of the heap is nearest
not_less : (b a : ℕ) (o : Ordering) → is_lt (ordering_then (nat_cmp b a) o) ≡ false → a ≤ b
not_less b a o = go (nat_lt b a) refl
  where
    go : (v : Bool) → nat_lt b a ≡ v → is_lt (ordering_then (cond v Less (cond (b == a) Equal Greater)) o) ≡ false → a ≤ b
    go true e h = absurd (false≢true (sym h))
    go false e h = ltb-false b a e

pub nearest_first : (x : Offer) (os : List Offer) → IsUpperBound nearest_last x os → All (λ o. offered_distance x ≤ offered_distance o) os
nearest_first x os bound = All-weaker (λ o. is_lt (nearest_last x o) ≡ false) (λ o. offered_distance x ≤ offered_distance o) (λ o h. not_less o.0.0 x.0.0 (nat_cmp o.0.1 x.0.1) h) os
    (All-from_recursion (λ o. is_lt (nearest_last x o) ≡ false) os bound)

first_or_later : (y x : Offer) (ys : List Offer) → Contains (y ∷ ys) x → (y ≡ x) ⊎ Contains ys x
first_or_later y x ys (zero, h, is) = inl is
first_or_later y x ys (suc k, h, is) = inr (k, omega (arith, h), is)

contains_first : (x : Offer) (xs : List Offer) → Contains (x ∷ xs) x
contains_first x xs = (0, omega arith, refl)

contains_later : (y x : Offer) (xs : List Offer) → Contains xs x → Contains (y ∷ xs) x
contains_later y x xs has = (suc has.0, omega (arith, has.1), has.2)

-- what the code learns of a switch
pub is_settled : (o : Option ℕ) → is_some o ≡ true → (n : ℕ) × (o ≡ Some n)
is_settled None h = absurd (false≢true h)
is_settled (Some n) h = (n, refl)

pub is_open : (o : Option ℕ) → is_some o ≡ false → o ≡ None
is_open None h = refl
is_open (Some n) h = absurd (false≢true (sym h))

-- a greater number is reached as well
reached_later : (found : List (Option ℕ)) (offers : List Offer) (s m n : ℕ) → m ≤ n → IsReached found offers s m → IsReached found offers s n
reached_later found offers s m n h (inl at) = inl (at.0, at.1, omega (arith, at.2, h))
reached_later found offers s m n h (inr has) = inr (has.0, has.1, omega (arith, has.2, h))

-- what is kept stays reached as long as all that was reached is
with_reached : (t : Topology) (found grown : List (Option ℕ)) (offers others : List Offer) (least : List (Option ℕ)) → ((s n : ℕ) → IsReached found offers s n → IsReached grown others s n) →
    AreReached t found offers least → AreReached t grown others least
with_reached t found grown offers others least more are = record { each_switch = are.each_switch; each = λ s n at. more s n (are.each s n at) }

-- what the code learns of what was offered
pub offered_before : (o : Option ℕ) (n : ℕ) → IsSomeAnd o (λ m. m ≤ n) → (m : ℕ) × (o ≡ Some m) × (m ≤ n)
offered_before None n h = absurd h
offered_before (Some m) n h = (m, refl, h)

-- ---- the search begins

module _ (t : Topology) (weight : ℕ → ℕ) (to : ℕ) (low : to < length t.switches) (offers : List Offer) (pushed : IsPermutation (offer_of 0 to ∷ []) offers) where
  abbrev none_found : List (Option ℕ)
  none_found = replicate (length t.switches) None

  nothing_found : (s n : ℕ) → IsFound none_found s n → ⊥
  nothing_found s n found = elim (cases_lt s (length t.switches)) [
    | inl within ↦ none-some n (sym (get_or-replicate {A = Option ℕ} (length t.switches) s None None within) ∙ found)
    | inr past ↦ none-some n (sym (get_or_past none_found s None (omega (arith, past, length-replicate {A = Option ℕ} (length t.switches) None))) ∙ found)
  ]

  only_offer : (o : Offer) → Contains offers o → offer_of 0 to ≡ o
  only_offer o has = elim (first_or_later (offer_of 0 to) o [] (Contains-permutation offers (offer_of 0 to ∷ []) o (IsPermutation-sym (offer_of 0 to ∷ []) offers pushed) has)) [
    | inl e ↦ e
    | inr none ↦ absurd (omega (arith, none.1))
  ]

  pub search_begins : IsNearing t weight to none_found offers IsAnyChannel
  search_begins = record {
    each_switch = length-replicate (length t.switches) None;
    low = All-permutation (λ o. offered_switch o < length t.switches) (offer_of 0 to ∷ []) offers pushed (All-cons (λ o. offered_switch o < length t.switches) (offer_of 0 to) [] low (All-nil (λ o. offered_switch o < length t.switches)));
    small = All-permutation (λ o. offered_distance o ≤ count_by is_some none_found * weight_limit) (offer_of 0 to ∷ []) offers pushed
        (All-cons (λ o. offered_distance o ≤ count_by is_some none_found * weight_limit) (offer_of 0 to) [] (omega arith) (All-nil (λ o. offered_distance o ≤ count_by is_some none_found * weight_limit)));
    farther = λ s n found. absurd (nothing_found s n found);
    attained = λ s n found. absurd (nothing_found s n found);
    backed = λ s n has. let e : offer_of 0 to ≡ offer_of n s = only_offer (offer_of n s) has in inl (sym (ap offered_switch e), sym (ap offered_distance e));
    begun = inr (0, Contains-permutation (offer_of 0 to ∷ []) offers (offer_of 0 to) pushed (contains_first (offer_of 0 to) []), omega arith);
    relaxed = λ s c m any leaves found. absurd (nothing_found (tip t c) m found);
  }

  pub nothing_kept : AreReached t none_found offers none_found
  nothing_kept = record { each_switch = length-replicate (length t.switches) None; each = λ s n at. absurd (nothing_found s n at) }

-- ---- the nearest offer is taken

module _ (t : Topology) (weight : ℕ → ℕ) (to : ℕ) (found : List (Option ℕ)) (offers rest : List Offer) (near : IsNearing t weight to found offers IsAnyChannel) (distance y : ℕ)
    (popped : IsPermutation offers (offer_of distance y ∷ rest)) where
  abbrev taken : Offer
  taken = offer_of distance y

  abbrev taken_list : List Offer
  taken_list = taken ∷ rest

  stood : (o : Offer) → Contains taken_list o → Contains offers o
  stood o has = Contains-permutation taken_list offers o (IsPermutation-sym offers taken_list popped) has

  still : (o : Offer) → Contains rest o → Contains offers o
  still o has = stood o (contains_later taken o rest has)

  this_or_left : (o : Offer) → Contains offers o → (taken ≡ o) ⊎ Contains rest o
  this_or_left o has = first_or_later taken o rest (Contains-permutation offers taken_list o popped has)

  all_left : (P : Offer → Type 0) → All P offers → All P rest
  all_left P all = All-tail P taken rest (All-permutation P offers taken_list popped all)

  of_taken : (P : Offer → Type 0) → All P offers → P taken
  of_taken P all = All-contains P offers taken all (stood taken (contains_first taken rest))

  pub taken_low : y < length t.switches
  taken_low = of_taken (λ o. offered_switch o < length t.switches) near.low

  -- its switch is settled already
  module _ (m : ℕ) (is : IsFound found y m) where
    reached_without : (s n : ℕ) → IsReached found offers s n → IsReached found rest s n
    reached_without s n (inl at) = inl at
    reached_without s n (inr has) = elim (this_or_left (offer_of has.0 s) has.1) [
      | inl e ↦
          (let nearer : m ≤ distance = of_taken (λ o. m ≤ offered_distance o) (near.farther y m is) in
          inl (m, subst (λ x. IsFound found x m) (ap offered_switch e) is, omega (arith, nearer, ap offered_distance e, has.2)))
      | inr left ↦ inr (has.0, left, has.2)
    ]

    pub passed_over : IsNearing t weight to found rest IsAnyChannel
    passed_over = record {
      each_switch = near.each_switch;
      low = all_left (λ o. offered_switch o < length t.switches) near.low;
      small = all_left (λ o. offered_distance o ≤ count_by is_some found * weight_limit) near.small;
      farther = λ s n at. all_left (λ o. n ≤ offered_distance o) (near.farther s n at);
      attained = near.attained;
      backed = λ s n has. near.backed s n (still (offer_of n s) has);
      begun = reached_without to 0 near.begun;
      relaxed = λ s c k any leaves at. reached_without s (weight c + k) (near.relaxed s c k any leaves at);
    }

    pub kept_without : (least : List (Option ℕ)) → AreReached t found offers least → AreReached t found rest least
    kept_without least are = with_reached t found found offers rest least reached_without are

  -- it settles the switch
  module _ (least : All (λ o. distance ≤ offered_distance o) rest) (none : slice_index_or found y None ≡ None) where
    abbrev grown : List (Option ℕ)
    grown = set found y (Some distance)

    pub settled_here : IsFound grown y distance
    settled_here = get_or-set_same found y (Some distance) None (omega (arith, taken_low, near.each_switch))

    found_still : (s n : ℕ) → IsFound found s n → IsFound grown s n
    found_still s n at = get_or-set_other found y s (Some distance) None (λ e. none-some n (sym none ∙ ap (λ x. get_or found x None) (sym e) ∙ at)) ∙ at

    found_before : (s n : ℕ) → IsFound grown s n → ((s ≡ y) × (n ≡ distance)) ⊎ IsFound found s n
    found_before s n at = elim (cases_eq s y) [
      | inl e ↦ inl (e, sym (same_Some distance n (sym settled_here ∙ ap (λ x. get_or grown x None) (sym e) ∙ at)))
      | inr other ↦ inr (sym (get_or-set_other found y s (Some distance) None other) ∙ at)
    ]

    pub one_more_settled : count_by is_some grown ≡ count_by is_some found + 1
    one_more_settled = omega (arith, sum_by-set (λ (o : Option ℕ). cond (is_some o) 1 0) found y (Some distance) None (omega (arith, taken_low, near.each_switch)), ap (λ (o : Option ℕ). cond {A = ℕ} (is_some o) 1 0) none)

    pub one_less_open : count_by is_none grown + 1 ≡ count_by is_none found
    one_less_open = omega (arith, sum_by-set (λ (o : Option ℕ). cond (is_none o) 1 0) found y (Some distance) None (omega (arith, taken_low, near.each_switch)), ap (λ (o : Option ℕ). cond {A = ℕ} (is_none o) 1 0) none)

    attained_still : (s n : ℕ) → IsAttained t weight to found s n → IsAttained t weight to grown s n
    attained_still s n (inl here) = inl here
    attained_still s n (inr further) = inr (further.0, further.1, further.2, found_still (tip t further.0) further.1 further.3, further.4, further.5)

    reached_still : (s n : ℕ) → IsReached found offers s n → IsReached grown rest s n
    reached_still s n (inl at) = inl (at.0, found_still s at.0 at.1, at.2)
    reached_still s n (inr has) = elim (this_or_left (offer_of has.0 s) has.1) [
      | inl e ↦ inl (distance, subst (λ x. IsFound grown x distance) (ap offered_switch e) settled_here, omega (arith, ap offered_distance e, has.2))
      | inr left ↦ inr (has.0, left, has.2)
    ]

    pub kept_still : (least : List (Option ℕ)) → AreReached t found offers least → AreReached t grown rest least
    kept_still least are = with_reached t found grown offers rest least reached_still are

    pub settles : IsNearing t weight to grown rest (LeadsElsewhere t y)
    settles = record {
      each_switch = length-set found y (Some distance) ∙ near.each_switch;
      low = all_left (λ o. offered_switch o < length t.switches) near.low;
      small = All-weaker (λ o. offered_distance o ≤ count_by is_some found * weight_limit) (λ o. offered_distance o ≤ count_by is_some grown * weight_limit) (λ o h. omega (arith, h, one_more_settled)) rest
          (all_left (λ o. offered_distance o ≤ count_by is_some found * weight_limit) near.small);
      farther = λ s n at. farther s n (found_before s n at);
      attained = λ s n at. attained s n (found_before s n at);
      backed = λ s n has. attained_still s n (near.backed s n (still (offer_of n s) has));
      begun = reached_still to 0 near.begun;
      relaxed = λ s c m elsewhere leaves at. relaxed s c m elsewhere leaves (found_before (tip t c) m at);
    }
      where
        farther : (s n : ℕ) → ((s ≡ y) × (n ≡ distance)) ⊎ IsFound found s n → All (λ o. n ≤ offered_distance o) rest
        farther s n (inl here) = All-weaker (λ o. distance ≤ offered_distance o) (λ o. n ≤ offered_distance o) (λ o h. omega (arith, h, here.1)) rest least
        farther s n (inr before) = all_left (λ o. n ≤ offered_distance o) (near.farther s n before)

        attained : (s n : ℕ) → ((s ≡ y) × (n ≡ distance)) ⊎ IsFound found s n → IsAttained t weight to grown s n
        attained s n (inl here) =
            subst (λ x. IsAttained t weight to grown x n) (sym here.0) (subst (λ m. IsAttained t weight to grown y m) (sym here.1) (attained_still y distance (near.backed y distance (stood taken (contains_first taken rest)))))
        attained s n (inr before) = attained_still s n (near.attained s n before)

        relaxed : (s c m : ℕ) → LeadsElsewhere t y c → LeavesSwitch t c s → ((tip t c ≡ y) × (m ≡ distance)) ⊎ IsFound found (tip t c) m → IsReached grown rest s (weight c + m)
        relaxed s c m elsewhere leaves (inl here) = absurd (elsewhere here.0)
        relaxed s c m elsewhere leaves (inr before) = reached_still s (weight c + m) (near.relaxed s c m tt leaves before)

-- ---- no offer is left

pub search_ends : (t : Topology) (weight : ℕ → ℕ) (to : ℕ) (found : List (Option ℕ)) (offers : List Offer) → IsNearing t weight to found offers IsAnyChannel → length offers ≡ 0 → AreSettled t weight to found
search_ends t weight to found offers near none = record {
  each_switch = near.each_switch;
  at_to = at_to (near.begun);
  attained = near.attained;
  relaxed = λ s c m leaves at. relaxed s (weight c + m) (near.relaxed s c m tt leaves at);
}
  where
    at_to : IsReached found offers to 0 → IsFound found to 0
    at_to (inl at) = subst (λ m. IsFound found to m) (omega (arith, at.2)) at.1
    at_to (inr has) = absurd (omega (arith, has.1.1, none))

    relaxed : (s k : ℕ) → IsReached found offers s k → (n : ℕ) × IsFound found s n × (n ≤ k)
    relaxed s k (inl at) = at
    relaxed s k (inr has) = absurd (omega (arith, has.1.1, none))

-- ---- a settled switch offers to those behind it

row_there : (rows : List ChannelRow) (l : ℕ) → l < length rows → (row : ChannelRow) × (slice_get rows l ≡ Some row)
row_there [] l low = absurd (omega (arith, low))
row_there (r ∷ rows) zero low = (r, refl)
row_there (r ∷ rows) (suc l) low = row_there rows l (omega (arith, low))

module _ (t : Topology) (good : IsWellFormed t) (weight : ℕ → ℕ) (to : ℕ) (found : List (Option ℕ)) (y distance : ℕ) where
  with_offered : (offers : List Offer) (A B : ℕ → Type 0) → ((s c m : ℕ) → B c → LeavesSwitch t c s → IsFound found (tip t c) m → IsReached found offers s (weight c + m)) → IsNearing t weight to found offers A → IsNearing t weight to found offers B
  with_offered offers A B relaxed near = record {
    each_switch = near.each_switch;
    low = near.low;
    small = near.small;
    farther = near.farther;
    attained = near.attained;
    backed = near.backed;
    begun = near.begun;
    relaxed = relaxed;
  }

  -- at first only other channels have offered
  pub offering_begins : (offers : List Offer) → IsNearing t weight to found offers (LeadsElsewhere t y) → IsNearing t weight to found offers (LeadsElsewhereOrBefore t y (first_channel t y))
  offering_begins offers near = with_offered offers (LeadsElsewhere t y) (LeadsElsewhereOrBefore t y (first_channel t y)) go near
    where
      go : (s c m : ℕ) → LeadsElsewhereOrBefore t y (first_channel t y) c → LeavesSwitch t c s → IsFound found (tip t c) m → IsReached found offers s (weight c + m)
      go s c m (inl elsewhere) leaves at = near.relaxed s c m elsewhere leaves at
      go s c m (inr before) leaves at = absurd (omega (arith, before.1, before.2))

  -- in the end all have
  pub offering_ends : (offers : List Offer) (past : ℕ) → first_channel t (y + 1) ≤ past → IsNearing t weight to found offers (LeadsElsewhereOrBefore t y past) → IsNearing t weight to found offers IsAnyChannel
  offering_ends offers past high near = with_offered offers (LeadsElsewhereOrBefore t y past) IsAnyChannel (λ s c m any leaves at. near.relaxed s c m (elsewhere_or_before s c leaves (cases_eq (tip t c) y)) leaves at) near
    where
      elsewhere_or_before : (s c : ℕ) → LeavesSwitch t c s → (tip t c ≡ y) ⊎ (tip t c ≢ y) → LeadsElsewhereOrBefore t y past c
      elsewhere_or_before s c leaves (inr other) = inl other
      elsewhere_or_before s c leaves (inl here) =
          let row : ChannelRow = leaves.0 in
          let back : Contains t.channels (reversed row) = reverse_there t good row (contains_read t.channels c row leaves.1) in
          let at : slice_get t.channels back.0 ≡ Some (reversed row) = slice_get-get_or t.channels back.0 (reversed row) back.1 ∙ ap (λ r. Some r) back.2 in
          let tail : (get_or t.channels back.0 (reversed row)).tail.0 ≡ y = ap (λ (r : ChannelRow). r.tail.0) back.2 ∙ sym (ap tip_of_row leaves.1) ∙ here in
          let between : (first_channel t y ≤ back.0) × (back.0 < first_channel t (y + 1)) = stands_between t good y back.0 (reversed row) back.1 tail in
          let P : Option ChannelRow → Type 0 = λ o. IfSome o (λ r. slice_get t.channels c ≡ Some (reversed r)) in
          inr (back.0, between.0, omega (arith, between.1, high), subst P (sym at) leaves.1)

  -- one channel more that leaves the settled switch: its reverse leads there
  module _ (settled : IsFound found y distance) (farthest : (s n : ℕ) → IsFound found s n → n ≤ distance) (l : ℕ) (low : l < length t.channels) (from : first_channel t y ≤ l) (past : l < first_channel t (y + 1))
      (x : SwitchId) (tip_is : option_map (λ (row : ChannelRow). row.tip) (slice_get t.channels l) ≡ Some x) where
    row_is : (row : ChannelRow) × (slice_get t.channels l ≡ Some row)
    row_is = row_there t.channels l low

    abbrev row : ChannelRow
    row = row_is.0

    tail_here : row.tail.0 ≡ y
    tail_here = ap (λ (r : ChannelRow). r.tail.0) (sym (get_or_from_slice_get t.channels l row row row_is.1)) ∙ leaves_from t good y l row low from past

    tip_there : row.tip.0 ≡ x.0
    tip_there = ap (λ (s : SwitchId). s.0) (same_Some row.tip x (sym (ap (λ o. option_map (λ (r : ChannelRow). r.tip) o) row_is.1) ∙ tip_is))

    pub behind_low : x.0 < length t.switches
    behind_low = omega (arith, tip_there, tip_below t good row (contains_read t.channels l row row_is.1))

    reverse_row : (c : ℕ) → IsReverse t l c → slice_get t.channels c ≡ Some (reversed row)
    reverse_row c is = let P : Option ChannelRow → Type 0 = λ o. IfSome o (λ r. slice_get t.channels c ≡ Some (reversed r)) in subst P row_is.1 is

    reverse_leaves : (c : ℕ) → IsReverse t l c → LeavesSwitch t c x.0
    reverse_leaves c is = (reversed row, reverse_row c is, tip_there)

    reverse_leads : (c : ℕ) → IsReverse t l c → tip t c ≡ y
    reverse_leads c is = ap tip_of_row (reverse_row c is) ∙ tail_here

    -- what is found at its tail
    relaxed_more : (offers : List Offer) → ((s c m : ℕ) → LeadsElsewhereOrBefore t y l c → LeavesSwitch t c s → IsFound found (tip t c) m → IsReached found offers s (weight c + m)) →
        ((c : ℕ) → IsReverse t l c → IsReached found offers x.0 (weight c + distance)) →
        (s c m : ℕ) → LeadsElsewhereOrBefore t y (l + 1) c → LeavesSwitch t c s → IsFound found (tip t c) m → IsReached found offers s (weight c + m)
    relaxed_more offers before here s c m (inl elsewhere) leaves at = before s c m (inl elsewhere) leaves at
    relaxed_more offers before here s c m (inr at_l) leaves at = elim (cases_lt at_l.0 l) [
      | inl less ↦ before s c m (inr (at_l.0, at_l.1, less, at_l.3)) leaves at
      | inr more ↦
          (let same : at_l.0 ≡ l = omega (arith, more, at_l.2) in
          let is : IsReverse t l c = subst (λ k. IsReverse t k c) same at_l.3 in
          let tail : x.0 ≡ s = sym tip_there ∙ ap (λ (r : ChannelRow). r.tail.0) (same_Some (reversed row) leaves.0 (sym (reverse_row c is) ∙ leaves.1)) ∙ leaves.2 in
          let number : distance ≡ m = same_Some distance m (sym settled ∙ ap (λ k. get_or found k None) (sym (reverse_leads c is)) ∙ at) in
          subst (λ k. IsReached found offers k (weight c + m)) tail (subst (λ k. IsReached found offers x.0 (weight c + k)) number (here c is)))
    ]

    -- its tail is settled
    pub skips : (offers : List Offer) (n : ℕ) → IsFound found x.0 n → IsNearing t weight to found offers (LeadsElsewhereOrBefore t y l) → IsNearing t weight to found offers (LeadsElsewhereOrBefore t y (l + 1))
    skips offers n at near = with_offered offers (LeadsElsewhereOrBefore t y l) (LeadsElsewhereOrBefore t y (l + 1))
        (relaxed_more offers near.relaxed (λ c is. inl (n, at, omega (arith, farthest x.0 n at)))) near

    -- its tail is offered what comes by way of the settled switch
    module _ (c w : ℕ) (reverse : IsReverse t l c) (weighs : weight c ≡ w) (positive : 0 < w) (few : w ≤ weight_limit) (small : distance + weight_limit ≤ count_by is_some found * weight_limit) where
      abbrev more : Offer
      more = offer_of (w + distance) x.0

      -- then the channel has offered
      reached_by : (offers : List Offer) → IsReached found offers x.0 (w + distance) → (d : ℕ) → IsReverse t l d → IsReached found offers x.0 (weight d + distance)
      reached_by offers reached d is =
          let same : c ≡ d = channel_once t good c d (reversed row) (reverse_row c reverse) (reverse_row d is) in
          subst (λ k. IsReached found offers x.0 (k + distance)) (sym weighs ∙ ap weight same) reached

      -- no more was offered before
      passes : (offers : List Offer) → IsReached found offers x.0 (w + distance) → IsNearing t weight to found offers (LeadsElsewhereOrBefore t y l) → IsNearing t weight to found offers (LeadsElsewhereOrBefore t y (l + 1))
      passes offers reached near = with_offered offers (LeadsElsewhereOrBefore t y l) (LeadsElsewhereOrBefore t y (l + 1)) (relaxed_more offers near.relaxed (reached_by offers reached)) near

      -- the offer stands
      module _ (old new : List Offer) (pushed : IsPermutation (more ∷ old) new) where
        this_or_old : (o : Offer) → Contains new o → (more ≡ o) ⊎ Contains old o
        this_or_old o has = first_or_later more o old (Contains-permutation new (more ∷ old) o (IsPermutation-sym (more ∷ old) new pushed) has)

        all_more : (P : Offer → Type 0) → P more → All P old → All P new
        all_more P here all = All-permutation P (more ∷ old) new pushed (All-cons P more old here all)

        reached_more : (s n : ℕ) → IsReached found old s n → IsReached found new s n
        reached_more s n (inl at) = inl at
        reached_more s n (inr has) = inr (has.0, Contains-permutation (more ∷ old) new (offer_of has.0 s) pushed (contains_later more (offer_of has.0 s) old has.1), has.2)

        reached_here : IsReached found new x.0 (w + distance)
        reached_here = inr (w + distance, Contains-permutation (more ∷ old) new more pushed (contains_first more old), omega arith)

        attained_here : IsAttained t weight to found x.0 (w + distance)
        attained_here = inr (c, distance, reverse_leaves c reverse, subst (λ k. IsFound found k distance) (sym (reverse_leads c reverse)) settled, ap (λ k. k + distance) (sym weighs), omega (arith, positive))

        stands : IsNearing t weight to found old (LeadsElsewhereOrBefore t y l) → IsNearing t weight to found new (LeadsElsewhereOrBefore t y (l + 1))
        stands near = record {
          each_switch = near.each_switch;
          low = all_more (λ o. offered_switch o < length t.switches) behind_low near.low;
          small = all_more (λ o. offered_distance o ≤ count_by is_some found * weight_limit) (omega (arith, small, few)) near.small;
          farther = λ s n at. all_more (λ o. n ≤ offered_distance o) (omega (arith, farthest s n at)) (near.farther s n at);
          attained = near.attained;
          backed = λ s n has. elim (this_or_old (offer_of n s) has) [
            | inl e ↦ subst (λ k. IsAttained t weight to found k n) (ap offered_switch e) (subst (λ k. IsAttained t weight to found x.0 k) (ap offered_distance e) attained_here)
            | inr before ↦ near.backed s n before
          ];
          begun = reached_more to 0 near.begun;
          relaxed = relaxed_more new (λ s d m yet leaves at. reached_more s (weight d + m) (near.relaxed s d m yet leaves at)) (reached_by new reached_here);
        }

        kept_more : (least : List (Option ℕ)) → AreReached t found old least → AreReached t found new (set least x.0 (Some (w + distance)))
        kept_more least are = record { each_switch = length-set least x.0 (Some (w + distance)) ∙ are.each_switch; each = λ s n at. each s n at (cases_eq s x.0) }
          where
            each : (s n : ℕ) → IsFound (set least x.0 (Some (w + distance))) s n → (s ≡ x.0) ⊎ (s ≢ x.0) → IsReached found new s n
            each s n at (inl same) =
                let here : IsFound (set least x.0 (Some (w + distance))) x.0 n = subst (λ k. IsFound (set least x.0 (Some (w + distance))) k n) same at in
                let number : w + distance ≡ n = same_Some (w + distance) n (sym (get_or-set_same least x.0 (Some (w + distance)) None (omega (arith, behind_low, are.each_switch))) ∙ here) in
                subst (λ k. IsReached found new k n) (sym same) (subst (λ k. IsReached found new x.0 k) number reached_here)
            each s n at (inr other) = reached_more s n (are.each s n (sym (get_or-set_other least x.0 s (Some (w + distance)) None other) ∙ at))

      module _ (old new : List Offer) (least grown : List (Option ℕ)) (are : AreReached t found old least) where
        pub offers_more : MakesOffer (w + distance) x.0 old least new grown → IsNearing t weight to found old (LeadsElsewhereOrBefore t y l) → IsNearing t weight to found new (LeadsElsewhereOrBefore t y (l + 1))
        offers_more (inl before) near =
            let reached : IsReached found old x.0 (w + distance) = reached_later found old x.0 before.0 (w + distance) before.2 (are.each x.0 before.0 before.1) in
            subst (λ os. IsNearing t weight to found os (LeadsElsewhereOrBefore t y (l + 1))) (sym before.3) (passes old reached near)
        offers_more (inr made) near = stands old new made.0 near

        pub keeps_more : MakesOffer (w + distance) x.0 old least new grown → AreReached t found new grown
        keeps_more (inl before) = subst (λ os. AreReached t found os grown) (sym before.3) (subst (λ ls. AreReached t found old ls) (sym before.4) are)
        keeps_more (inr made) = subst (λ ls. AreReached t found new ls) (sym made.1) (kept_more old new made.0 least are)

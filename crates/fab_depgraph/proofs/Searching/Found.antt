-- The channels that a search has found.
use Rattle.std.proofs.Common.{◌≡◌, ◌≢◌, ℕ, ◌+◌, ◌-◌, ◌<◌, ◌≤◌, Bool, true, false, List, [], ◌∷◌, ◌++◌, length, set, map, replicate, Contains, slice_get, slice_index_or, Some, refl, sym, ◌∙◌, ap, subst, inl, inr, arith, length-append, length-set, get_or-set_same, get_or-set_other}
use Rattle.std.proofs.lemmas.Bool.{cases_lt, cases_eq}
use Rattle.std.proofs.lemmas.List.{length-map, get_or_append_left, get_or-append_right, get_or_default, get_or_past, get_or-map, get_or-replicate, length-replicate, same_lists}
use Rattle.std.proofs.lemmas.List.Elements.{Contains-append_left, Contains-append_right}
use Rattle.fab_model.specs.declared.rows.ChannelId.{ChannelId}
use Rattle.fab_model.specs.Topology.{channel_id}
use Rattle.std.proofs.lemmas.Option.{get_or_from_slice_get, slice_get_within}
use Rattle.fab_graph.proofs.Members.{first}
use Rattle.fab_graph.proofs.Repeats.{HasRepeat, pigeonhole}
use Rattle.fab_depgraph.specs.Order.{is_reached}
use Rattle.fab_depgraph.specs.Search.{Search, IsSearch}
use Rattle.fab_depgraph.proofs.Ordering.Lists.{pairs_append}

pub reached_within : (marks : List Bool) (c : ℕ) → is_reached marks c ≡ true → c < length marks
reached_within marks c yes_marked = elim (cases_lt c (length marks)) [
  | inl below ↦ below
  | inr past ↦ (let none : is_reached marks c ≡ false = get_or_past marks c false past in absurd (cc))
]

module _ (s : Search) (search : IsSearch s) (channel : ChannelId) (new : is_reached s.marks channel.0 ≡ false) (within : channel.0 < length s.marks) where
  more : Search
  more = record { marks = set s.marks channel.0 true; found = s.found ++ channel ∷ [] }

  still : (c : ℕ) → is_reached s.marks c ≡ true → is_reached (set s.marks channel.0 true) c ≡ true
  still c was = elim (cases_eq c channel.0) [
    | inl same ↦ ap (is_reached (set s.marks channel.0 true)) same ∙ get_or-set_same s.marks channel.0 true false within
    | inr differ ↦ get_or-set_other s.marks channel.0 c true false differ ∙ was
  ]

  pub found_kept : IsSearch (record { marks = set s.marks channel.0 true; found = s.found ++ channel ∷ [] })
  found_kept = record {
    marked = λ c is. elim (cases_eq c channel.0) [
      | inl same ↦ subst (λ k. Contains (s.found ++ channel ∷ []) (channel_id k)) (sym same) (Contains-append_right s.found (channel ∷ []) channel (first channel []))
      | inr differ ↦ Contains-append_left s.found (channel ∷ []) (channel_id c) (search.marked c (sym (get_or-set_other s.marks channel.0 c true false differ) ∙ is))
    ];
    known = λ k d k_in. elim (cases_lt k (length s.found)) [
      | inl before ↦
          let at = get_or_append_left s.found (channel ∷ []) d k before in
          rw at (still (slice_index_or s.found k d).0 (search.known k d before))
      | inr after ↦
          let long = length-append s.found (channel ∷ []) in
          let zero_left : k - length s.found ≡ 0 = omega arith in
          let at : slice_index_or (s.found ++ channel ∷ []) k d ≡ channel = get_or-append_right s.found (channel ∷ []) (length s.found) k d refl after ∙ ap (λ j. slice_index_or (channel ∷ []) j d) zero_left in
          rw at (get_or-set_same s.marks channel.0 true false within)
    ];
    differ = pairs_append (λ c d. c.0 ≢ d.0) s.found (channel ∷ []) search.differ (λ i j d i_j j_in. absurd (omega arith)) (λ x y x_in y_in same.
        let only : y_in.0 ≡ 0 = omega (arith, y_in.1) in
        let at : slice_index_or (channel ∷ []) 0 y ≡ y = ap (λ k. slice_index_or (channel ∷ []) k y) (sym only) ∙ y_in.2 in
        let one : channel.0 ≡ y.0 = ap (λ (c : ChannelId). c.0) at in
        let known : is_reached s.marks x.0 ≡ true = subst (λ (c : ChannelId). is_reached s.marks c.0 ≡ true) x_in.2 (search.known x_in.0 x x_in.1) in
        let lacks : is_reached s.marks x.0 ≡ false = ap (is_reached s.marks) (same ∙ sym one) ∙ new in
        absurd (cc));
  }

abbrev number_of : ChannelId → ℕ
number_of channel = channel.0

-- the channels are found once each, so there are no more than there are marks
module _ (s : Search) (search : IsSearch s) where
  abbrev numbers : List ℕ
  numbers = map number_of s.found

  long : length numbers ≡ length s.found
  long = length-map s.found number_of

  read : (i a : ℕ) → slice_get numbers i ≡ Some a → (i < length s.found) × (number_of (slice_index_or s.found i (channel_id 0)) ≡ a)
  read i a there =
      let within : i < length s.found = omega (arith, slice_get_within numbers i a there, long) in
      (within, sym (get_or-map number_of s.found i (channel_id 0) 0 within) ∙ get_or_from_slice_get numbers i a 0 there)

  below : (i a : ℕ) → slice_get numbers i ≡ Some a → a < length s.marks
  below i a there =
      let r = read i a there in
      subst (λ c. c < length s.marks) r.1 (reached_within s.marks (slice_index_or s.found i (channel_id 0)).0 (search.known i (channel_id 0) r.0))

  twice : HasRepeat numbers → ⊥
  twice r =
      let x = read r.1 r.0 r.4 in
      let y = read r.2 r.0 r.5 in
      search.differ r.1 r.2 (channel_id 0) r.3 y.0 (x.1 ∙ sym y.1)

  pub found_short : length s.found ≤ length s.marks
  found_short = elim (cases_lt (length s.marks) (length s.found)) [
    | inl many ↦ absurd (twice (pigeonhole (length s.marks) numbers below (omega (arith, long))))
    | inr few ↦ few
  ]

pub room_left : (s : Search) → IsSearch s → (channel : ChannelId) → is_reached s.marks channel.0 ≡ false → channel.0 < length s.marks → length s.found < length s.marks
room_left s search channel new within =
    let short = found_short (record { marks = set s.marks channel.0 true; found = s.found ++ channel ∷ [] }) (found_kept s search channel new within) in
    omega (arith, short, length-set s.marks channel.0 true, length-append s.found (channel ∷ []))

-- so many of the found channels are forgotten: those that are still marked come later
pub record IsForgetting (count : ℕ) (now : List Bool) (found : List ChannelId) (i : ℕ) : Type 0 where
  pub each : length now ≡ count
  pub left : (c : ℕ) → is_reached now c ≡ true → (k : ℕ) × (i ≤ k) × (k < length found) × ((slice_index_or found k (channel_id c)).0 ≡ c)

pub forget_none : (marks : List Bool) (found : List ChannelId) → ((c : ℕ) → is_reached marks c ≡ true → Contains found (channel_id c)) → IsForgetting (length marks) marks found 0
forget_none marks found marked = record {
  each = refl;
  left = λ c is. (let there = marked c is in (there.0, omega arith, there.1, ap number_of there.2));
}

pub forget_more : (count : ℕ) (now : List Bool) (found : List ChannelId) (i : ℕ) (d : ChannelId) → i < length found → IsForgetting count now found i → IsForgetting count (set now (slice_index_or found i d).0 false) found (i + 1)
forget_more count now found i d within so_far =
    let gone = (slice_index_or found i d).0 in
    record {
      each = length-set now gone false ∙ so_far.each;
      left = λ c is. elim (cases_eq c gone) [
        | inl same ↦
            let here : is_reached (set now gone false) gone ≡ true = ap (is_reached (set now gone false)) (sym same) ∙ is in
            absurd (unset now gone here)
        | inr differ ↦
            let there = so_far.left c (sym (get_or-set_other now gone c false false differ) ∙ is) in
            let later : there.0 ≢ i = λ same. differ (sym there.3 ∙ (ap (λ k. (slice_index_or found k (channel_id c)).0) same ∙ ap number_of (get_or_default found i (channel_id c) d within))) in
            (there.0, omega (arith, there.1, later), there.2, there.3)
      ];
    }
  where
    unset : (now : List Bool) (c : ℕ) → is_reached (set now c false) c ≡ true → ⊥
    unset now c is = elim (cases_lt c (length now)) [
      | inl inside ↦ (let not_there : is_reached (set now c false) c ≡ false = get_or-set_same now c false false inside in absurd (cc))
      | inr outside ↦ absurd (omega (arith, reached_within (set now c false) c is, length-set now c false))
    ]

pub forget_all : (count : ℕ) (now : List Bool) (found : List ChannelId) (i : ℕ) → length found ≤ i → IsForgetting count now found i → now ≡ replicate count false
forget_all count now found i done so_far =
    same_lists now (replicate count false) (so_far.each ∙ sym (length-replicate count false)) (λ k d k_in. go k d k_in (is_reached now k) refl)
  where
    go : (k : ℕ) (d : Bool) → k < length now → (b : Bool) → is_reached now k ≡ b → slice_index_or now k d ≡ slice_index_or (replicate count false) k d
    go k d k_in true is = let there = so_far.left k is in absurd (omega (arith, there.1, there.2, done))
    go k d k_in false is = get_or_default now k d false k_in ∙ (is ∙ sym (get_or-replicate count k false d (omega (arith, so_far.each, k_in))))

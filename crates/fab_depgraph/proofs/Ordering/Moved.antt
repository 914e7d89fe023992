-- The order once the reached channels of a range were put behind the others.
use Rattle.std.proofs.Common.{◌≡◌, ◌≢◌, ◌⊎◌, ℕ, ◌+◌, ◌-◌, ◌<◌, ◌≤◌, Bool, true, false, cond, not, List, ◌++◌, length, take, drop, filter, All, AllPairs, Contains, slice_index, slice_index_or, refl, sym, ◌∙◌, ap, subst, inl, inr, arith, length-append, length-take, length-drop}
use Rattle.std.proofs.lemmas.Bool.{cases_lt}
use Rattle.std.proofs.lemmas.List.{get_or_append_left, get_or-append_right, get_or-take, get_or-drop, get_or_default}
use Rattle.std.proofs.lemmas.List.Elements.{Contains-append_left, Contains-append_right, Contains-append_cases}
use Rattle.std.proofs.lemmas.List.Filters.{length-filter_both}
use Rattle.std.proofs.lemmas.List.Kept.{AllPairs-filter}
use Rattle.fab_depgraph.specs.Order.{IsOrder, IsBetween, IsMovedBehind, AreNumberedFrom, is_reached, is_unreached}
use Rattle.fab_depgraph.proofs.Ordering.Lists.{contains_filter, filter_contains, pairs_append}

-- one channel is to come before another
abbrev pub ComesBefore : List ℕ → List Bool → ℕ → ℕ → Type 0
ComesBefore numbers reached c d =
    ((is_reached reached c ≡ false) × (is_reached reached d ≡ true)) ⊎ ((is_reached reached c ≡ is_reached reached d) × (slice_index numbers c < slice_index numbers d))

unreached_not : (reached : List Bool) (c : ℕ) → is_unreached reached c ≡ true → is_reached reached c ≡ false
unreached_not reached c = go (is_reached reached c)
  where
    go : (b : Bool) → cond b false true ≡ true → b ≡ false
    go true e = absurd (cc)
    go false e = refl

not_reached : (reached : List Bool) (c : ℕ) → is_reached reached c ≡ false → is_unreached reached c ≡ true
not_reached reached c e = rw e refl

other_test : (reached : List Bool) (c : ℕ) → is_reached reached c ≡ not (is_unreached reached c)
other_test reached c = go (is_reached reached c)
  where
    go : (b : Bool) → b ≡ not (cond b false true)
    go true = refl
    go false = refl

either_test : (b : Bool) → (b ≡ true) ⊎ (b ≡ false)
either_test true = inl refl
either_test false = inr refl

module _ (numbers channels : List ℕ) (order : IsOrder numbers channels) (reached : List Bool) (low high : ℕ) (bounds : low ≤ high) (inside : high < length numbers) where
  abbrev pub range : List ℕ
  range = take (high + 1 - low) (drop low channels)

  abbrev pub parted : List ℕ
  parted = filter (is_unreached reached) range ++ filter (is_reached reached) range

  range_length : length range ≡ high + 1 - low
  range_length = omega (arith, order.each, length-take (high + 1 - low) (drop low channels), length-drop low channels)

  pub parted_length : length parted ≡ high + 1 - low
  parted_length = omega (arith, range_length, length-append (filter (is_unreached reached) range) (filter (is_reached reached) range), length-filter_both (is_unreached reached) (is_reached reached) (other_test reached) range)

  range_at : (k d : ℕ) → k < high + 1 - low → slice_index_or range k d ≡ slice_index channels (low + k)
  range_at k d k_in =
      get_or-take (high + 1 - low) (drop low channels) k d k_in ∙ (get_or-drop low channels k d ∙ get_or_default channels (low + k) d 0 (omega (arith, order.each)))

  number_at : (k d : ℕ) → k < high + 1 - low → slice_index numbers (slice_index_or range k d) ≡ low + k
  number_at k d k_in = ap (slice_index numbers) (range_at k d k_in) ∙ (order.there (low + k) (omega arith)).1

  in_range : (c : ℕ) → Contains range c → (c < length numbers) × IsBetween low high (slice_index numbers c)
  in_range c here =
      let k = here.0 in
      let k_in : k < high + 1 - low = omega (arith, here.1, range_length) in
      let at = range_at k c k_in in
      let there = order.there (low + k) (omega arith) in
      let same : slice_index channels (low + k) ≡ c = sym at ∙ here.2 in
      let number : slice_index numbers c ≡ low + k = ap (slice_index numbers) (sym same) ∙ there.1 in
      (subst (λ c. c < length numbers) same there.0, (omega (arith, number), omega (arith, number)))

  between_in : (c : ℕ) → c < length numbers → IsBetween low high (slice_index numbers c) → Contains range c
  between_in c c_in between =
      let k = slice_index numbers c - low in
      let k_in : k < high + 1 - low = omega (arith, between.0, between.1) in
      let sum : low + k ≡ slice_index numbers c = omega (arith, between.0) in
      (k, omega (arith, k_in, range_length), range_at k c k_in ∙ (ap (slice_index channels) sum ∙ (order.back c c_in).1))

  parted_in : (c : ℕ) → Contains parted c → Contains range c
  parted_in c here = elim (Contains-append_cases (filter (is_unreached reached) range) (filter (is_reached reached) range) c here) [
    | inl front ↦ (contains_filter (is_unreached reached) range c front).0
    | inr back ↦ (contains_filter (is_reached reached) range c back).0
  ]

  in_parted : (c : ℕ) → Contains range c → Contains parted c
  in_parted c here = elim (either_test (is_reached reached c)) [
    | inl has ↦ Contains-append_right (filter (is_unreached reached) range) (filter (is_reached reached) range) c (filter_contains (is_reached reached) range c here has)
    | inr lacks ↦ Contains-append_left (filter (is_unreached reached) range) (filter (is_reached reached) range) c (filter_contains (is_unreached reached) range c here (not_reached reached c lacks))
  ]

  abbrev Before : ℕ → ℕ → Type 0
  Before = ComesBefore numbers reached

  never_both : (c d : ℕ) → Before c d → Before d c → ⊥
  never_both c d before after = elim before [
    | inl a ↦ elim after [ inl b ↦ (let x = a.0 in let y = b.1 in absurd (cc)) | inr b ↦ (let x = a.0 in let y = a.1 in let z = b.0 in absurd (cc)) ]
    | inr a ↦ elim after [ inl b ↦ (let x = b.0 in let y = b.1 in let z = a.0 in absurd (cc)) | inr b ↦ omega (arith, a.1, b.1) ]
  ]

  range_rises : AllPairs (λ c d. slice_index numbers c < slice_index numbers d) range
  range_rises i j d i_j j_in = omega (arith, number_at i d (omega (arith, range_length)), number_at j d (omega (arith, range_length)))

  part_before : (p : ℕ → Bool) → ((c d : ℕ) → p c ≡ true → p d ≡ true → is_reached reached c ≡ is_reached reached d) → AllPairs Before (filter p range)
  part_before p same i j d i_j j_in =
      let part = filter p range in
      let passes : (k : ℕ) → k < length part → p (slice_index_or part k d) ≡ true = λ k k_in. (contains_filter p range (slice_index_or part k d) (k, k_in, get_or_default part k (slice_index_or part k d) d k_in)).1 in
      inr (same (slice_index_or part i d) (slice_index_or part j d) (passes i (omega arith)) (passes j j_in), AllPairs-filter (λ c d. slice_index numbers c < slice_index numbers d) p range range_rises i j d i_j j_in)

  pub parted_before : AllPairs Before parted
  parted_before =
      pairs_append Before (filter (is_unreached reached) range) (filter (is_reached reached) range)
      (part_before (is_unreached reached) (λ c d x y. unreached_not reached c x ∙ sym (unreached_not reached d y)))
      (part_before (is_reached reached) (λ c d x y. x ∙ sym y))
      (λ c d front back. inl (unreached_not reached c (contains_filter (is_unreached reached) range c front).1, (contains_filter (is_reached reached) range d back).1))

  pub parted_differ : AllPairs (λ c d. c ≢ d) parted
  parted_differ i j d i_j j_in same =
      let before = parted_before i j d i_j j_in in
      let here : Before (slice_index_or parted i d) (slice_index_or parted i d) = subst (λ c. Before (slice_index_or parted i d) c) (sym same) before in
      never_both (slice_index_or parted i d) (slice_index_or parted i d) here here

  parted_contains : (k d : ℕ) → k < length parted → Contains parted (slice_index_or parted k d)
  parted_contains k d k_in = (k, k_in, get_or_default parted k (slice_index_or parted k d) d k_in)

  pub parted_known : All (λ c. c < length numbers) parted
  parted_known k d k_in = (in_range (slice_index_or parted k d) (parted_in (slice_index_or parted k d) (parted_contains k d k_in))).0

  -- the channels in their new order
  abbrev pub arranged : List ℕ
  arranged = take low channels ++ (parted ++ drop (high + 1) channels)

  front_length : length (take low channels) ≡ low
  front_length = omega (arith, order.each, length-take low channels)

  pub arranged_length : length arranged ≡ length channels
  arranged_length = omega (arith, order.each, front_length, parted_length, length-append (take low channels) (parted ++ drop (high + 1) channels), length-append parted (drop (high + 1) channels), length-drop (high + 1) channels)

  at_front : (n : ℕ) → n < low → slice_index arranged n ≡ slice_index channels n
  at_front n below = get_or_append_left (take low channels) (parted ++ drop (high + 1) channels) 0 n (omega (arith, front_length)) ∙ get_or-take low channels n 0 below

  at_part : (n : ℕ) → IsBetween low high n → slice_index arranged n ≡ slice_index parted (n - low)
  at_part n between =
      get_or-append_right (take low channels) (parted ++ drop (high + 1) channels) low n 0 front_length between.0
      ∙ get_or_append_left parted (drop (high + 1) channels) 0 (n - low) (omega (arith, between.0, between.1, parted_length))

  at_back : (n : ℕ) → high < n → slice_index arranged n ≡ slice_index channels n
  at_back n above =
      let sum : (high + 1) + (n - low - (high + 1 - low)) ≡ n = omega arith in
      get_or-append_right (take low channels) (parted ++ drop (high + 1) channels) low n 0 front_length (omega arith)
      ∙ (get_or-append_right parted (drop (high + 1) channels) (high + 1 - low) (n - low) 0 parted_length (omega arith)
      ∙ (get_or-drop (high + 1) channels (n - low - (high + 1 - low)) 0 ∙ ap (slice_index channels) sum))

  module _ (new : List ℕ) (numbered : AreNumberedFrom low parted numbers new) where
    outside_kept : (c : ℕ) → (IsBetween low high (slice_index numbers c) → ⊥) → slice_index new c ≡ slice_index numbers c
    outside_kept c out = numbered.others c (λ k k_in same. out (subst (λ c. IsBetween low high (slice_index numbers c)) same (in_range (slice_index parted k) (parted_in (slice_index parted k) (parted_contains k 0 k_in))).1))

    -- the place of a channel of the range
    place : (c : ℕ) → c < length numbers → IsBetween low high (slice_index numbers c) → (k : ℕ) × (k < length parted) × (slice_index parted k ≡ c) × (slice_index new c ≡ low + k)
    place c c_in between =
        let here = in_parted c (between_in c c_in between) in
        let same : slice_index parted here.0 ≡ c = get_or_default parted here.0 0 c here.1 ∙ here.2 in
        (here.0, here.1, same, ap (slice_index new) (sym same) ∙ numbered.there here.0 here.1)

    where_is : (n : ℕ) → ((n < low) ⊎ (high < n)) ⊎ IsBetween low high n
    where_is n = elim (cases_lt n low) [
      | inl below ↦ inl (inl below)
      | inr x ↦ elim (cases_lt high n) [ inl above ↦ inl (inr above) | inr y ↦ inr (x, omega arith) ]
    ]

    kept_there : (n : ℕ) → n < length numbers → slice_index arranged n ≡ slice_index channels n → (IsBetween low high n → ⊥) → (slice_index arranged n < length new) × (slice_index new (slice_index arranged n) ≡ n)
    kept_there n n_in same out =
        let was = order.there n n_in in
        let kept : slice_index new (slice_index channels n) ≡ n = outside_kept (slice_index channels n) (λ between. out (subst (IsBetween low high) was.1 between)) ∙ was.1 in
        (omega (arith, same, was.0, numbered.each), ap (slice_index new) same ∙ kept)

    kept_back : (c : ℕ) → c < length numbers → (IsBetween low high (slice_index numbers c) → ⊥) → slice_index arranged (slice_index numbers c) ≡ slice_index channels (slice_index numbers c) → (slice_index new c < length new) × (slice_index arranged (slice_index new c) ≡ c)
    kept_back c c_in out same =
        let was = order.back c c_in in
        let kept = outside_kept c out in
        (omega (arith, kept, was.0, numbered.each), ap (slice_index arranged) kept ∙ (same ∙ was.1))

    pub moved_order : IsOrder new arranged
    moved_order = record {
      each = arranged_length ∙ (order.each ∙ sym numbered.each);
      there = λ n n_in.
          let inside_old : n < length numbers = omega (arith, numbered.each) in
          elim (where_is n) [
            | inl out ↦ elim out [
              | inl below ↦ kept_there n inside_old (at_front n below) (λ between. omega (arith, below, between.0))
              | inr above ↦ kept_there n inside_old (at_back n above) (λ between. omega (arith, above, between.1))
            ]
            | inr between ↦
                let k_in : n - low < length parted = omega (arith, parted_length, between.0, between.1) in
                let at = at_part n between in
                let known = parted_known (n - low) 0 k_in in
                (omega (arith, at, known, numbered.each), ap (slice_index new) at ∙ (numbered.there (n - low) k_in ∙ omega (arith, between.0)))
          ];
      back = λ c c_new.
          let c_in : c < length numbers = omega (arith, numbered.each) in
          elim (where_is (slice_index numbers c)) [
            | inl out ↦ elim out [
              | inl below ↦ kept_back c c_in (λ between. omega (arith, below, between.0)) (at_front (slice_index numbers c) below)
              | inr above ↦ kept_back c c_in (λ between. omega (arith, above, between.1)) (at_back (slice_index numbers c) above)
            ]
            | inr between ↦
                let p = place c c_in between in
                let at = at_part (low + p.0) (omega arith, omega (arith, p.1, parted_length)) in
                let less : low + p.0 - low ≡ p.0 = omega arith in
                (omega (arith, p.3, p.1, parted_length, numbered.each), ap (slice_index arranged) p.3 ∙ (at ∙ (ap (slice_index parted) less ∙ p.2)))
          ];
    }

    rises : (c d : ℕ) → c < length numbers → d < length numbers → IsBetween low high (slice_index numbers c) → IsBetween low high (slice_index numbers d) → Before c d → slice_index new c < slice_index new d
    rises c d c_in d_in c_between d_between before =
        let p = place c c_in c_between in
        let q = place d d_in d_between in
        elim (cases_lt p.0 q.0) [
          | inl less ↦ omega (arith, p.3, q.3)
          | inr more ↦ elim (cases_lt q.0 p.0) [
            | inl after ↦ absurd (never_both c d before (subst (λ x. Before x c) q.2 (subst (λ x. Before (slice_index parted q.0) x) p.2 (parted_before q.0 p.0 0 after p.1))))
            | inr same ↦
                let equal : p.0 ≡ q.0 = omega arith in
                let one : c ≡ d = sym p.2 ∙ (ap (slice_index parted) equal ∙ q.2) in
                absurd (never_both c d before (subst (λ x. Before x c) one (subst (λ x. Before c x) (sym one) before)))
          ]
        ]

    pub is_moved : IsMovedBehind numbers new low high reached
    is_moved = record {
      each = numbered.each;
      outside = λ c c_in out. outside_kept c (λ between. elim out [ inl below ↦ omega (arith, below, between.0) | inr above ↦ omega (arith, above, between.1) ]);
      inside = λ c c_in between. (let p = place c c_in between in (omega (arith, p.3), omega (arith, p.3, p.1, parted_length)));
      behind = λ c d c_in d_in c_between d_between unreached found. rises c d c_in d_in c_between d_between (inl (unreached, found));
      keeps = λ c d c_in d_in c_between d_between same less. rises c d c_in d_in c_between d_between (inr (same, less));
    }

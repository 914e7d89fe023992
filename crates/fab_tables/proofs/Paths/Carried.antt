-- Amounts that stand at switches and are carried along their ways. A way is empty, or a channel and the way of the switch to which the channel leads.
-- With the first channel of its switch's way an amount goes to the next switch. For each channel, what it has carried and what is still to go along it have the same sum after each such step.
-- The ways of a LID's delivered routes and the walks of a tree are such ways; the amounts are the terminals of the switches at first.
use Rattle.std.proofs.Common.{◌≡◌, ◌≢◌, ℕ, zero, suc, ◌+◌, ◌<◌, ◌≤◌, ◌⊎◌, inl, inr, Bool, true, false, List, [], ◌∷◌, length, set, refl, sym, ◌∙◌, ap, subst, arith, length-set, get_or-set_other}
use Rattle.std.specs.Prelude.{◌==◌, ◌||◌, sum, sum_by, count_by, slice_index, if◌then◌else◌}
use Rattle.std.specs.List.{range_with_len, list_any}
use Rattle.std.proofs.lemmas.Bool.{cases_eq, eq-eqb, ne_eqb, false≢true}
use Rattle.std.proofs.lemmas.List.{get_or-set_same}
use Rattle.std.proofs.lemmas.List.Sums.{sum_by-set, get_or-le-sum_by, sum-map, count_by-le-length}
use Rattle.std.proofs.lemmas.List.FromFn.{fill_by_all}
use Rattle.fab_model.specs.declared.rows.TerminalRow.{TerminalRow}
use Rattle.fab_model.proofs.Lists.Members.{In}
use Rattle.fab_tables.proofs.Paths.SwitchSums.{sum_zero, same_sum, sum_changed, term_within, counted_at, by_switch}

-- each switch's way is empty, or a channel and the way of the channel's tip
abbrev pub AreWays : (ℕ → ℕ) → (ℕ → List ℕ) → Type 0
AreWays tip way = (s : ℕ) → (way s ≡ []) ⊎ ((c : ℕ) × (way s ≡ c ∷ way (tip c)))

-- what an amount at the start of a way adds to a channel
abbrev pub added_along : ℕ → List ℕ → ℕ → ℕ
added_along amount channels channel = if list_any (λ c. c == channel) channels then amount else 0

-- what the amounts at so many switches add to a channel
abbrev pub all_added : (ℕ → List ℕ) → ℕ → List ℕ → ℕ → ℕ
all_added way n amounts channel = sum_by (λ s. added_along (slice_index amounts s) (way s) channel) (range_with_len 0 n)

-- the amount of a switch is at the next one
abbrev pub moved : List ℕ → ℕ → ℕ → List ℕ
moved amounts s next = set (set amounts s 0) next (slice_index (set amounts s 0) next + slice_index amounts s)

nothing_added : (channels : List ℕ) (channel : ℕ) → added_along 0 channels channel ≡ 0
nothing_added channels channel = go (list_any (λ c. c == channel) channels)
  where
    go : (b : Bool) → ◌≡◌ {A = ℕ} (if b then 0 else 0) 0
    go true = refl
    go false = refl

both_added : (a b : ℕ) (channels : List ℕ) (channel : ℕ) → added_along (a + b) channels channel ≡ added_along a channels channel + added_along b channels channel
both_added a b channels channel = go (list_any (λ c. c == channel) channels)
  where
    go : (on : Bool) → (if on then a + b else 0) ≡ (if on then a else 0) + (if on then b else 0)
    go true = refl
    go false = refl

module _ (tip : ℕ → ℕ) (way : ℕ → List ℕ) (are : AreWays tip way) where
  -- behind a channel of a way there is less of it
  shorter : (c n s : ℕ) → length (way s) ≤ n → list_any (λ d. d == c) (way s) ≡ true → length (way (tip c)) < length (way s)
  shorter c zero s few on = elim (are s) [
    | inl none ↦ absurd (false≢true (sym (ap (λ (xs : List ℕ). list_any (λ d. d == c) xs) none) ∙ on))
    | inr some ↦ absurd (omega (arith, few, ap (λ (xs : List ℕ). length xs) some.1))
  ]
  shorter c (suc n) s few on = elim (are s) [
    | inl none ↦ absurd (false≢true (sym (ap (λ (xs : List ℕ). list_any (λ d. d == c) xs) none) ∙ on))
    | inr some ↦ elim (cases_eq some.0 c) [
      | inl same ↦ omega (arith, ap (λ (xs : List ℕ). length xs) some.1, ap (λ (x : ℕ). length (way (tip x))) same)
      | inr other ↦
          (let there : list_any (λ d. d == c) (way (tip some.0)) ≡ true =
          sym (ap (λ (b : Bool). b || list_any (λ d. d == c) (way (tip some.0))) (ne_eqb some.0 c other)) ∙ sym (ap (λ (xs : List ℕ). list_any (λ d. d == c) xs) some.1) ∙ on in
          let less : length (way s) ≡ suc (length (way (tip some.0))) = ap (λ (xs : List ℕ). length xs) some.1 in
          omega (arith, less, shorter c n (tip some.0) (omega (arith, few, less)) there))
    ]
  ]

  -- so a channel does not come again
  not_again : (c : ℕ) → list_any (λ d. d == c) (way (tip c)) ≡ false
  not_again c = go (list_any (λ d. d == c) (way (tip c))) refl
    where
      go : (b : Bool) → list_any (λ d. d == c) (way (tip c)) ≡ b → b ≡ false
      go false e = refl
      go true e = absurd (omega (arith, shorter c (length (way (tip c))) (tip c) (omega arith) e))

  module _ (n : ℕ) (amounts : List ℕ) (s c : ℕ) (room : length amounts ≡ n) (low : s < n) (tip_low : tip c < n) (first : way s ≡ c ∷ way (tip c)) where
    apart : tip c ≢ s
    apart same = omega (arith, ap (λ (xs : List ℕ). length xs) first, ap (λ (x : ℕ). length (way x)) same)

    abbrev taken : List ℕ
    taken = set amounts s 0

    -- the first channel, and those behind it
    begins : (channel : ℕ) → added_along (slice_index amounts s) (way s) channel ≡ (if c == channel then slice_index amounts s else 0) + added_along (slice_index amounts s) (way (tip c)) channel
    begins channel = ap (λ (xs : List ℕ). added_along (slice_index amounts s) xs channel) first ∙ elim (cases_eq c channel) [
      | inl same ↦
          (let e : (c == channel) ≡ true = eq-eqb c channel same in
          let no_more : list_any (λ d. d == channel) (way (tip c)) ≡ false = subst (λ (x : ℕ). list_any (λ d. d == x) (way (tip c)) ≡ false) same (not_again c) in
          rw (e, no_more) (omega arith))
      | inr other ↦ (let e : (c == channel) ≡ false = ne_eqb c channel other in rw e (omega arith))
    ]

    pub amounts_kept : sum (moved amounts s (tip c)) ≡ sum amounts
    amounts_kept = omega (
      arith,
      sum_by-set (λ (x : ℕ). x) taken (tip c) (slice_index taken (tip c) + slice_index amounts s) 0 (omega (arith, tip_low, room, length-set amounts s 0)),
      sum_by-set (λ (x : ℕ). x) amounts s 0 0 (omega (arith, low, room)),
    )

    pub carried : (channel : ℕ) → (if c == channel then slice_index amounts s else 0) + all_added way n (moved amounts s (tip c)) channel ≡ all_added way n amounts channel
    carried channel =
        let with : List ℕ → ℕ → ℕ = λ (xs : List ℕ). λ (x : ℕ). added_along (slice_index xs x) (way x) channel in
        let first_change : sum_by (with amounts) (range_with_len 0 n) + with taken s ≡ sum_by (with taken) (range_with_len 0 n) + with amounts s =
        sum_changed (with amounts) (with taken) s (λ x other. ap (λ (k : ℕ). added_along k (way x) channel) (sym (get_or-set_other amounts s x 0 0 other))) n low in
        let second_change : sum_by (with taken) (range_with_len 0 n) + with (moved amounts s (tip c)) (tip c) ≡ sum_by (with (moved amounts s (tip c))) (range_with_len 0 n) + with taken (tip c) =
        sum_changed (with taken) (with (moved amounts s (tip c))) (tip c)
        (λ x other. ap (λ (k : ℕ). added_along k (way x) channel) (sym (get_or-set_other taken (tip c) x (slice_index taken (tip c) + slice_index amounts s) 0 other))) n tip_low in
        let none : with taken s ≡ 0 = ap (λ (k : ℕ). added_along k (way s) channel) (get_or-set_same amounts s 0 0 (omega (arith, low, room))) ∙ nothing_added (way s) channel in
        let both : with (moved amounts s (tip c)) (tip c) ≡ with taken (tip c) + added_along (slice_index amounts s) (way (tip c)) channel =
        ap (λ (k : ℕ). added_along k (way (tip c)) channel) (get_or-set_same taken (tip c) (slice_index taken (tip c) + slice_index amounts s) 0 (omega (arith, tip_low, room, length-set amounts s 0)))
        ∙ both_added (slice_index taken (tip c)) (slice_index amounts s) (way (tip c)) channel in
        omega (arith, first_change, second_change, none, both, begins channel)

-- The amounts are under way: for each channel its count and what is still to be added to it are its total, and amounts stand only at the switches that are left and where a way ends.
pub record IsCarrying (way : ℕ → List ℕ) (n channels all : ℕ) (total : ℕ → ℕ) (left counts amounts : List ℕ) : Type 0 where
  pub whole : length counts ≡ channels
  pub room : length amounts ≡ n
  pub each : (channel : ℕ) → channel < channels → slice_index counts channel + all_added way n amounts channel ≡ total channel
  pub kept : sum amounts ≡ all
  pub elsewhere : (s : ℕ) → (way s ≡ []) ⊎ ((slice_index amounts s ≡ 0) ⊎ In s left)

module _ (tip : ℕ → ℕ) (way : ℕ → List ℕ) (are : AreWays tip way) (n channels all : ℕ) (total : ℕ → ℕ) (counts amounts : List ℕ) (s c : ℕ) (below : List ℕ)
    (now : IsCarrying way n channels all total (s ∷ below) counts amounts) (low : s < n) (channel_low : c < channels) (tip_low : tip c < n) (first : way s ≡ c ∷ way (tip c)) where
  pub count_fits : slice_index counts c + slice_index amounts s ≤ total c
  count_fits =
      let on : added_along (slice_index amounts s) (way s) c ≡ slice_index amounts s + added_along (slice_index amounts s) (way (tip c)) c =
      begins tip way are n amounts s c now.room low tip_low first c ∙ ap (λ (b : Bool). (if b then slice_index amounts s else 0) + added_along (slice_index amounts s) (way (tip c)) c) (eq-eqb c c refl) in
      omega (arith, on, now.each c channel_low, term_within (λ (x : ℕ). added_along (slice_index amounts x) (way x) c) s n low)

  pub amount_fits : slice_index (set amounts s 0) (tip c) + slice_index amounts s ≤ all
  amount_fits = omega (
    arith,
    now.kept,
    sum_by-set (λ (x : ℕ). x) amounts s 0 0 (omega (arith, low, now.room)),
    get_or-le-sum_by (λ (x : ℕ). x) (set amounts s 0) (tip c) 0 (omega (arith, tip_low, now.room, length-set amounts s 0)),
  )

  -- one step: the channel counts what its switch had, and the next switch has it
  pub carried_on : (way (tip c) ≡ []) ⊎ In (tip c) below → IsCarrying way n channels all total below (set counts c (slice_index counts c + slice_index amounts s)) (moved amounts s (tip c))
  carried_on next = record {
    whole = length-set counts c (slice_index counts c + slice_index amounts s) ∙ now.whole;
    room = length-set (set amounts s 0) (tip c) (slice_index (set amounts s 0) (tip c) + slice_index amounts s) ∙ length-set amounts s 0 ∙ now.room;
    each = each;
    kept = amounts_kept tip way are n amounts s c now.room low tip_low first ∙ now.kept;
    elsewhere = elsewhere;
  }
    where
      each : (channel : ℕ) → channel < channels → slice_index (set counts c (slice_index counts c + slice_index amounts s)) channel + all_added way n (moved amounts s (tip c)) channel ≡ total channel
      each channel within =
          let step = carried tip way are n amounts s c now.room low tip_low first channel in
          elim (cases_eq channel c) [
            | inl same ↦
                (let e : (c == channel) ≡ true = eq-eqb c channel (sym same) in
                let count : slice_index (set counts c (slice_index counts c + slice_index amounts s)) channel ≡ slice_index counts channel + slice_index amounts s =
                ap (λ (x : ℕ). slice_index (set counts c (slice_index counts c + slice_index amounts s)) x) same
                ∙ get_or-set_same counts c (slice_index counts c + slice_index amounts s) 0 (omega (arith, channel_low, now.whole)) ∙ ap (λ (x : ℕ). slice_index counts x + slice_index amounts s) (sym same) in
                let more : (if c == channel then slice_index amounts s else 0) ≡ slice_index amounts s = rw e refl in
                omega (arith, step, count, more, now.each channel within))
            | inr other ↦
                (let e : (c == channel) ≡ false = ne_eqb c channel (λ x. other (sym x)) in
                let more : (if c == channel then slice_index amounts s else 0) ≡ 0 = rw e refl in
                omega (arith, step, more, now.each channel within, get_or-set_other counts c channel (slice_index counts c + slice_index amounts s) 0 other))
          ]

      left_at : (x : ℕ) → (slice_index amounts x ≡ 0) ⊎ In x (s ∷ below) → (way x ≡ []) ⊎ ((slice_index (moved amounts s (tip c)) x ≡ 0) ⊎ In x below)
      left_at x was = elim (cases_eq x (tip c)) [
        | inl same ↦ elim next [ inl none ↦ inl (ap way same ∙ none) | inr there ↦ inr (inr (subst (λ (y : ℕ). In y below) (sym same) there)) ]
        | inr other ↦ elim (cases_eq x s) [
          | inl here ↦ inr (inl (
              ap (λ (y : ℕ). slice_index (moved amounts s (tip c)) y) here
              ∙ get_or-set_other (set amounts s 0) (tip c) s (slice_index (set amounts s 0) (tip c) + slice_index amounts s) 0 (λ e. other (here ∙ e))
              ∙ get_or-set_same amounts s 0 0 (omega (arith, low, now.room))
              ))
          | inr away ↦ elim was [
            | inl gone ↦ inr (inl (
                get_or-set_other (set amounts s 0) (tip c) x (slice_index (set amounts s 0) (tip c) + slice_index amounts s) 0 other
                ∙ get_or-set_other amounts s x 0 0 away ∙ gone
                ))
            | inr there ↦ elim there [ inl e ↦ absurd (away (sym e)) | inr rest ↦ inr (inr rest) ]
          ]
        ]
      ]

      elsewhere : (x : ℕ) → (way x ≡ []) ⊎ ((slice_index (moved amounts s (tip c)) x ≡ 0) ⊎ In x below)
      elsewhere x = elim (now.elsewhere x) [ inl none ↦ inl none | inr was ↦ left_at x was ]

-- when no switch is left, each count is its total
pub all_carried : (way : ℕ → List ℕ) (n channels all : ℕ) (total : ℕ → ℕ) (counts amounts : List ℕ) → IsCarrying way n channels all total [] counts amounts → (channel : ℕ) → channel < channels → slice_index counts channel ≡ total channel
all_carried way n channels all total counts amounts now channel low =
    let none : all_added way n amounts channel ≡ 0 = sum_zero (λ s. added_along (slice_index amounts s) (way s) channel) (range_with_len 0 n)
    (λ s. elim (now.elsewhere s) [
      | inl empty ↦ ap (λ (xs : List ℕ). added_along (slice_index amounts s) xs channel) empty
      | inr was ↦ elim was [ inl gone ↦ ap (λ (k : ℕ). added_along k (way s) channel) gone ∙ nothing_added (way s) channel | inr there ↦ absurd there ]
    ]) in
    omega (arith, none, now.each channel low)

-- ---- terminals

-- what the terminals add that each switch has
module _ (way : ℕ → List ℕ) (rows : List TerminalRow) (n : ℕ) (terminals : List ℕ) (room : length terminals ≡ n)
    (each : (s : ℕ) → s < n → slice_index terminals s ≡ count_by (λ (row : TerminalRow). row.switch.0 == s) rows) (low : (row : TerminalRow) → In row rows → row.switch.0 < n) where
  pub terminals_added : (channel : ℕ) → all_added way n terminals channel ≡ count_by (λ (row : TerminalRow). list_any (λ c. c == channel) (way row.switch.0)) rows
  terminals_added channel =
      same_sum (λ s. added_along (slice_index terminals s) (way s) channel) (counted_at (λ s. list_any (λ c. c == channel) (way s)) rows) n (λ s less. ap (λ (k : ℕ). added_along k (way s) channel) (each s less))
      ∙ by_switch (λ s. list_any (λ c. c == channel) (way s)) rows n low

  pub terminals_in_all : sum terminals ≤ length rows
  terminals_in_all = omega (
    arith,
    ap (λ (xs : List ℕ). sum xs) (fill_by_all (λ s. count_by (λ (row : TerminalRow). row.switch.0 == s) rows) terminals n 0 room each),
    sum-map (λ s. count_by (λ (row : TerminalRow). row.switch.0 == s) rows) (range_with_len 0 n),
    by_switch (λ (s : ℕ). true) rows n low,
    count_by-le-length (λ (row : TerminalRow). true) rows,
  )

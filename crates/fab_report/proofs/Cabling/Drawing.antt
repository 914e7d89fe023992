-- The words of a random fabric, drawn one after the other.
use Rattle.std.proofs.Common.{◌≡◌, ℕ, suc, ◌+◌, ◌-◌, ◌*◌, ◌<◌, ◌≤◌, Bool, true, false, List, map, take, drop, Some, None, find, refl, sym, ◌∙◌, ap, arith}
use Rattle.std.specs.Prelude.{fold, ◌%◌}
use Rattle.std.proofs.lemmas.Nat.{mod_below}
use Rattle.fab_model.proofs.Lists.Members.{In, from_map}
use Rattle.fab_model.proofs.Lists.Found.{from_find}
use Rattle.std.specs.List.{range_with_len, zip}
use Rattle.rand_core.specs.Steps.{first_words}
use Rattle.rand_pcg.specs.Lcg.{Lcg}
use Rattle.rand_pcg.specs.Pcg.{pcg32}
use Rattle.fab_model.specs.declared.rows.ChannelRow.{ChannelRow}
use Rattle.fab_report.specs.Cabling.{joined, crossed, in_pairs}

-- the cables where so many switches from one on are joined by words, and then pairs of words lay cables
abbrev pub joined_by : ℕ → ℕ → ℕ → List ChannelRow → List ℕ → List ChannelRow
joined_by a s n cables words = fold (crossed a) (fold joined cables (zip (range_with_len s n) (take n words))) (in_pairs (drop n words))

abbrev pub joined_from : ℕ → ℕ → ℕ → List ChannelRow → Lcg → List ChannelRow
joined_from a b s cables g = joined_by a s (a - s) cables (first_words pcg32 (a - s + 2 * b) g)

abbrev pub crossed_from : ℕ → ℕ → List ChannelRow → Lcg → List ChannelRow
crossed_from a b cables g = fold (crossed a) cables (in_pairs (first_words pcg32 (2 * b) g))

joined_one : (a s n m : ℕ) (cables : List ChannelRow) (g : Lcg) → joined_by a s (suc n) cables (first_words pcg32 (suc m) g) ≡ joined_by a (s + 1) n (joined cables (s, (pcg32 g).0)) (first_words pcg32 m (pcg32 g).1)
unfolding first_words
joined_one a s n m cables g = refl

pub joined_step : (a b s : ℕ) (cables : List ChannelRow) (g : Lcg) → s < a → joined_from a b s cables g ≡ joined_from a b (s + 1) (joined cables (s, (pcg32 g).0)) (pcg32 g).1
joined_step a b s cables g h =
    ap (λ n. joined_by a s n cables (first_words pcg32 (n + 2 * b) g)) one
    ∙ ap (λ m. joined_by a s (suc (a - (s + 1))) cables (first_words pcg32 m g)) (on (a - (s + 1)) (2 * b))
    ∙ joined_one a s (a - (s + 1)) (a - (s + 1) + 2 * b) cables g
  where
    one : a - s ≡ suc (a - (s + 1))
    one = omega (arith, h)

    on : (n m : ℕ) → suc n + m ≡ suc (n + m)
    on n m = omega arith

pub joined_all : (a b s : ℕ) (cables : List ChannelRow) (g : Lcg) → a ≤ s → joined_from a b s cables g ≡ crossed_from a b cables g
joined_all a b s cables g h =
    ap (λ n. joined_by a s n cables (first_words pcg32 (n + 2 * b) g)) none ∙ ap (λ m. joined_by a s 0 cables (first_words pcg32 m g)) (nothing (2 * b))
  where
    none : a - s ≡ 0
    none = omega (arith, h)

    nothing : (n : ℕ) → 0 + n ≡ n
    nothing n = omega arith

crossed_one : (a m : ℕ) (cables : List ChannelRow) (g : Lcg) →
    fold (crossed a) cables (in_pairs (first_words pcg32 (suc (suc m)) g)) ≡ fold (crossed a) (crossed a cables ((pcg32 g).0, (pcg32 (pcg32 g).1).0)) (in_pairs (first_words pcg32 m (pcg32 (pcg32 g).1).1))
unfolding first_words
crossed_one a m cables g = refl

pub crossed_step : (a b n : ℕ) (cables : List ChannelRow) (g : Lcg) → n < b →
    crossed_from a (b - n) cables g ≡ crossed_from a (b - (n + 1)) (crossed a cables ((pcg32 g).0, (pcg32 (pcg32 g).1).0)) (pcg32 (pcg32 g).1).1
crossed_step a b n cables g h = ap (λ m. fold (crossed a) cables (in_pairs (first_words pcg32 m g))) two ∙ crossed_one a (2 * (b - (n + 1))) cables g
  where
    two : 2 * (b - n) ≡ suc (suc (2 * (b - (n + 1))))
    two = omega (arith, h)

pub crossed_all : (a b n : ℕ) (cables : List ChannelRow) (g : Lcg) → b ≤ n → crossed_from a (b - n) cables g ≡ cables
unfolding first_words
crossed_all a b n cables g h = ap (λ m. fold (crossed a) cables (in_pairs (first_words pcg32 m g))) none
  where
    none : 2 * (b - n) ≡ 0
    none = omega (arith, h)

-- ---- the first that passes

module _ (p : ℕ → Bool) (f : ℕ → ℕ) (k n : ℕ) where
  module _ (h : k < n) where
    one_left : n - k ≡ suc (n - (k + 1))
    one_left = omega (arith, h)

    pub find_next : p (f k) ≡ false → find p (map f (range_with_len (k + 1) (n - (k + 1)))) ≡ find p (map f (range_with_len k (n - k)))
    find_next fails = sym (ap (λ m. find p (map f (range_with_len k m))) one_left ∙ rw fails refl)

    pub find_here : p (f k) ≡ true → find p (map f (range_with_len k (n - k))) ≡ Some (f k)
    find_here passes = ap (λ m. find p (map f (range_with_len k m))) one_left ∙ rw passes refl

  pub find_end : n ≤ k → find p (map f (range_with_len k (n - k))) ≡ None
  find_end h = ap (λ m. find p (map f (range_with_len k m))) none
    where
      none : n - k ≡ 0
      none = omega (arith, h)

pub found_below : (p : ℕ → Bool) (w n other : ℕ) → 0 < n → find p (map (λ k. (w % n + k) % n) (range_with_len 0 n)) ≡ Some other → other < n
found_below p w n other some e =
    let found : In other (map (λ k. (w % n + k) % n) (range_with_len 0 n)) = (from_find p (map (λ k. (w % n + k) % n) (range_with_len 0 n)) other e).0 in
    let at : (k : ℕ) × In k (range_with_len 0 n) × ((w % n + k) % n ≡ other) = from_map (λ k. (w % n + k) % n) (range_with_len 0 n) other found in
    omega (arith, at.2, mod_below (w % n + at.0) n some)

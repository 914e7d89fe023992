-- The pairs of ports that have a map, switch by switch.
use Rattle.std.proofs.Common.{◌≡◌, ℕ, suc, ◌+◌, ◌<◌, ◌≤◌, Bool, true, false, cond, List, [], ◌∷◌, ◌++◌, length, map, get_or, nat_lt, refl, sym, ◌∙◌, ap, subst, arith, inl, inr}
use Rattle.std.specs.Prelude.{All, AllPairs, filter, flat_map, fold}
use Rattle.std.specs.List.{enumerate_from}
use Rattle.std.specs.List.Sorted.{IsStrictlyIncreasing}
use Rattle.std.proofs.lemmas.Bool.{cases_order, lt-ltb, le-ltb, eq-eqb, ne_eqb}
use Rattle.std.proofs.lemmas.List.{append_assoc, append-nil, get_or_append_left, get_or_at, length-append}
use Rattle.std.proofs.lemmas.List.Elements.{All-head, All-tail}
use Rattle.fab_tables.specs.declared.lanes.PairRow.{PairRow}
use Rattle.fab_tables.specs.LaneTables.{IsPairRow, pair_key, with_pair_row}
use Rattle.fab_tables.proofs.Rows.PairRows.{keys_rise}
use Rattle.fab_dump.specs.Writing.{is_of_switch}

-- the pairs of the first switches
abbrev pub of_earlier : List PairRow → ℕ → List PairRow
of_earlier pairs k = filter (λ (p : PairRow). nat_lt p.switch.0 k) pairs

abbrev pub KeyBefore : PairRow → PairRow → Type 0
KeyBefore p q = pair_key p < pair_key q

abbrev pub SwitchNotAfter : PairRow → PairRow → Type 0
SwitchNotAfter p q = p.switch.0 ≤ q.switch.0

pairs_head : (R : PairRow → PairRow → Type 0) (p : PairRow) (pairs : List PairRow) → AllPairs R (p ∷ pairs) → All (R p) pairs
pairs_head R p pairs h = λ k d low. h 0 (suc k) d (omega arith) (omega (arith, low))

pub pairs_tail : (R : PairRow → PairRow → Type 0) (p : PairRow) (pairs : List PairRow) → AllPairs R (p ∷ pairs) → AllPairs R pairs
pairs_tail R p pairs h = λ i j d a b. h (suc i) (suc j) d (omega (arith, a)) (omega (arith, b))

pub head_before : (p : PairRow) (pairs : List PairRow) → AllPairs KeyBefore (p ∷ pairs) → All (KeyBefore p) pairs
head_before p pairs h = pairs_head KeyBefore p pairs h

kept_none : (test : PairRow → Bool) (pairs : List PairRow) → All (λ p. test p ≡ false) pairs → filter test pairs ≡ []
kept_none test [] h = refl
kept_none test (p ∷ pairs) h =
    ap (λ b. cond b (p ∷ filter test pairs) (filter test pairs)) (All-head (λ q. test q ≡ false) p pairs h) ∙ kept_none test pairs (All-tail (λ q. test q ≡ false) p pairs h)

kept_all : (test : PairRow → Bool) (pairs : List PairRow) → All (λ p. test p ≡ true) pairs → filter test pairs ≡ pairs
kept_all test [] h = refl
kept_all test (p ∷ pairs) h =
    ap (λ b. cond b (p ∷ filter test pairs) (filter test pairs)) (All-head (λ q. test q ≡ true) p pairs h) ∙ ap (λ ps. p ∷ ps) (kept_all test pairs (All-tail (λ q. test q ≡ true) p pairs h))

-- keys rise, and so switches don't fall
pub keys_are_rising : (pairs : List PairRow) → IsStrictlyIncreasing (map pair_key pairs) → AllPairs KeyBefore pairs
keys_are_rising pairs up = λ i j d a b. keys_rise pair_key pairs up i j d a b

pub switches_are_rising : (switches : ℕ) (pairs : List PairRow) → IsStrictlyIncreasing (map pair_key pairs) → All (IsPairRow switches) pairs → AllPairs SwitchNotAfter pairs
switches_are_rising switches pairs up rows = λ i j d a b.
    omega (arith, keys_rise pair_key pairs up i j d a b, (rows i d (omega (arith, a, b))).from_port, (rows i d (omega (arith, a, b))).to_port, (rows j d b).from_port, (rows j d b).to_port)

-- one switch more
module _ (k : ℕ) where
  abbrev before : PairRow → Bool
  before p = nat_lt p.switch.0 k

  abbrev until : PairRow → Bool
  until p = nat_lt p.switch.0 (k + 1)

  pub of_one_more : (pairs : List PairRow) → AllPairs SwitchNotAfter pairs → of_earlier pairs (k + 1) ≡ of_earlier pairs k ++ filter (is_of_switch k) pairs
  of_one_more [] up = refl
  of_one_more (p ∷ pairs) up = go (of_one_more pairs (pairs_tail SwitchNotAfter p pairs up))
    where
      rest : All (SwitchNotAfter p) pairs
      rest = pairs_head SwitchNotAfter p pairs up

      pick : (a b c : Bool) → until p ≡ a → before p ≡ b → is_of_switch k p ≡ c →
          cond a (p ∷ filter until pairs) (filter until pairs) ≡ cond b (p ∷ filter before pairs) (filter before pairs) ++ cond c (p ∷ filter (is_of_switch k) pairs) (filter (is_of_switch k) pairs) →
          of_earlier (p ∷ pairs) (k + 1) ≡ of_earlier (p ∷ pairs) k ++ filter (is_of_switch k) (p ∷ pairs)
      pick a b c x y z e =
          ap (λ v. cond v (p ∷ filter until pairs) (filter until pairs)) x ∙ e
          ∙ ap (λ v. cond v (p ∷ filter before pairs) (filter before pairs) ++ cond c (p ∷ filter (is_of_switch k) pairs) (filter (is_of_switch k) pairs)) (sym y)
          ∙ ap (λ v. of_earlier (p ∷ pairs) k ++ cond v (p ∷ filter (is_of_switch k) pairs) (filter (is_of_switch k) pairs)) (sym z)

      none_before : p.switch.0 ≡ k → filter before pairs ≡ []
      none_before same = kept_none before pairs (λ i d low. le-ltb (get_or pairs i d).switch.0 k (omega (arith, rest i d low, same)))

      go : filter until pairs ≡ filter before pairs ++ filter (is_of_switch k) pairs → of_earlier (p ∷ pairs) (k + 1) ≡ of_earlier (p ∷ pairs) k ++ filter (is_of_switch k) (p ∷ pairs)
      go later = elim (cases_order p.switch.0 k) [
        | inl same ↦ pick true false true (lt-ltb p.switch.0 (k + 1) (omega (arith, same))) (le-ltb p.switch.0 k (omega (arith, same))) (eq-eqb p.switch.0 k same)
            (ap (λ ps. p ∷ ps) (later ∙ ap (λ ps. ps ++ filter (is_of_switch k) pairs) (none_before same)) ∙ ap (λ ps. ps ++ p ∷ filter (is_of_switch k) pairs) (sym (none_before same)))
        | inr (inl low) ↦ pick true true false (lt-ltb p.switch.0 (k + 1) (omega (arith, low))) (lt-ltb p.switch.0 k low) (ne_eqb p.switch.0 k (λ e. omega (arith, e, low))) (ap (λ ps. p ∷ ps) later)
        | inr (inr high) ↦ pick false false false (le-ltb p.switch.0 (k + 1) (omega (arith, high))) (le-ltb p.switch.0 k (omega (arith, high))) (ne_eqb p.switch.0 k (λ e. omega (arith, e, high))) later
      ]

pub of_none : (pairs : List PairRow) → of_earlier pairs 0 ≡ []
of_none pairs = kept_none (λ (p : PairRow). nat_lt p.switch.0 0) pairs (λ i d low. le-ltb (get_or pairs i d).switch.0 0 (omega arith))

of_all : (switches : ℕ) (pairs : List PairRow) → All (IsPairRow switches) pairs → of_earlier pairs switches ≡ pairs
of_all switches pairs rows = kept_all (λ (p : PairRow). nat_lt p.switch.0 switches) pairs (λ i d low. lt-ltb (get_or pairs i d).switch.0 switches (rows i d low).switch)

-- all switches
of_numbered : {X : Type 0} (pairs : List PairRow) → AllPairs SwitchNotAfter pairs → (from : ℕ) (rows : List X) →
    of_earlier pairs from ++ flat_map (λ (s : ℕ × X). filter (is_of_switch s.0) pairs) (enumerate_from from rows) ≡ of_earlier pairs (from + length rows)
of_numbered pairs up from [] = append-nil (of_earlier pairs from) ∙ ap (λ k. of_earlier pairs k) none
  where
    none : from ≡ from + 0
    none = omega arith
of_numbered {X} pairs up from (row ∷ rows) =
    sym (append_assoc (of_earlier pairs from) (filter (is_of_switch from) pairs) (flat_map (λ (s : ℕ × X). filter (is_of_switch s.0) pairs) (enumerate_from (from + 1) rows)))
    ∙ ap (λ ps. ps ++ flat_map (λ (s : ℕ × X). filter (is_of_switch s.0) pairs) (enumerate_from (from + 1) rows)) (sym (of_one_more from pairs up))
    ∙ of_numbered pairs up (from + 1) rows
    ∙ ap (λ k. of_earlier pairs k) more
  where
    more : from + 1 + length rows ≡ from + suc (length rows)
    more = omega arith

-- the pairs of the switches of a fabric are all
pub of_fabric : {X : Type 0} (rows : List X) (switches : ℕ) (pairs : List PairRow) → switches ≡ length rows → IsStrictlyIncreasing (map pair_key pairs) → All (IsPairRow switches) pairs →
    flat_map (λ (s : ℕ × X). filter (is_of_switch s.0) pairs) (enumerate_from 0 rows) ≡ pairs
of_fabric {X} rows switches pairs is up are =
    let count : 0 + length rows ≡ switches = omega (arith, is) in
    ap (λ (ps : List PairRow). ps ++ flat_map (λ (s : ℕ × X). filter (is_of_switch s.0) pairs) (enumerate_from 0 rows)) (sym (of_none pairs))
    ∙ of_numbered pairs (switches_are_rising switches pairs up are) 0 rows ∙ ap (λ (k : ℕ). of_earlier pairs k) count ∙ of_all switches pairs are

-- a pair behind all
placed_last : (pairs : List PairRow) (p : PairRow) → All (λ (q : PairRow). KeyBefore q p) pairs → with_pair_row pairs p ≡ pairs ++ p ∷ []
placed_last pairs p h =
    ap (λ ps. ps ++ p ∷ filter (λ (q : PairRow). nat_lt (pair_key p) (pair_key q)) pairs) (kept_all (λ (q : PairRow). nat_lt (pair_key q) (pair_key p)) pairs (λ i d low. lt-ltb (pair_key (get_or pairs i d)) (pair_key p) (h i d low)))
    ∙ ap (λ ps. pairs ++ p ∷ ps) (kept_none (λ (q : PairRow). nat_lt (pair_key p) (pair_key q)) pairs (λ i d low. le-ltb (pair_key p) (pair_key (get_or pairs i d)) (omega (arith, h i d low))))

placed_all : (some pairs : List PairRow) → AllPairs KeyBefore (some ++ pairs) → fold with_pair_row some pairs ≡ some ++ pairs
placed_all some [] up = sym (append-nil some)
placed_all some (p ∷ pairs) up =
    ap (λ ps. fold with_pair_row ps pairs) (placed_last some p before_it)
    ∙ placed_all (some ++ p ∷ []) pairs (subst (λ ps. AllPairs KeyBefore ps) (sym (append_assoc some (p ∷ []) pairs)) up)
    ∙ append_assoc some (p ∷ []) pairs
  where
    before_it : All (λ (q : PairRow). KeyBefore q p) some
    before_it i d low =
        let both : KeyBefore (get_or (some ++ p ∷ pairs) i d) (get_or (some ++ p ∷ pairs) (length some) d) = up i (length some) d low (omega (arith, length-append some (p ∷ pairs))) in
        omega (arith, both, ap pair_key (get_or_append_left some (p ∷ pairs) d i low), ap pair_key (get_or_at some p pairs d (length some) refl))

-- pairs in their order, said one after the other
pub pairs_placed : (pairs : List PairRow) → IsStrictlyIncreasing (map pair_key pairs) → fold with_pair_row [] pairs ≡ pairs
pairs_placed pairs up = placed_all [] pairs (keys_are_rising pairs up)

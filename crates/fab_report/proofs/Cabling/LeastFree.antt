-- The least free ports of switches, where cables are laid at random.
use Rattle.std.proofs.Common.{◌≡◌, ◌≢◌, ℕ, zero, suc, ◌+◌, ◌<◌, ◌≤◌, ◌⊎◌, inl, inr, Bool, true, false, not, ◌&&◌, ◌||◌, List, [], ◌∷◌, ◌++◌, length, set, refl, sym, ◌∙◌, ap, subst, arith, Option, Some, None, find, length-set, get_or-set_other}
use Rattle.std.specs.Prelude.{◌==◌, nat_le, nat_lt, slice_index, is_some}
use Rattle.std.specs.List.{range_with_len, list_any}
use Rattle.std.proofs.lemmas.Bool.{cases_eq, cases_lt, cases_order, eq-eqb, ne_eqb, lt-ltb, le-ltb, le-leb, lt-leb}
use Rattle.std.proofs.lemmas.List.{get_or-set_same}
use Rattle.std.proofs.lemmas.List.Folds.{list_any-append}
use Rattle.fab_model.specs.declared.rows.ChannelRow.{ChannelRow}
use Rattle.fab_model.proofs.Lists.Found.{from_range, find_none}
use Rattle.fab_report.specs.Cabling.{cable, ends_at, is_free, free_port, has_free_port, with_cable_at, with_cable}
use Rattle.fab_report.specs.Laying.{LaidCables, IsLeastFree, AreLeastFree}

-- ---- the least free port is found

found_at : (p : ℕ → Bool) (from n least : ℕ) → from ≤ least → least < from + n → ((k : ℕ) → from ≤ k → k < least → p k ≡ false) → p least ≡ true → find p (range_with_len from n) ≡ Some least
found_at p from zero least h k fails passes = absurd (omega (arith, h, k))
found_at p from (suc n) least h k fails passes = elim (cases_eq from least) [
  | inl same ↦ (let here : p from ≡ true = ap p same ∙ passes in rw here (ap (λ i. Some i) same))
  | inr other ↦ (let here : p from ≡ false = fails from (omega arith) (omega (arith, h, other)) in rw here (found_at p (from + 1) n least (omega (arith, h, other)) (omega (arith, k)) (λ i low less. fails i (omega (arith, low)) less) passes))
]

module _ (cables : List ChannelRow) (s port : ℕ) (is : IsLeastFree cables s port) where
  pub free_port_is : port < 255 → free_port cables s ≡ Some port
  free_port_is h = found_at (is_free cables s) 2 253 port is.low (omega (arith, h)) (λ k low less. is.free k low (omega (arith, less, h)) ∙ lt-leb port k less) (is.free port is.low (omega (arith, h)) ∙ le-leb port port (omega arith))

  pub free_port_none : 255 ≤ port → free_port cables s ≡ None
  free_port_none h = find_none (is_free cables s) (range_with_len 2 253) (λ k within.
      let range : (2 ≤ k) × (k < 2 + 253) = from_range 2 253 k within in
      is.free k range.0 (omega (arith, range.1)) ∙ lt-leb port k (omega (arith, h, range.1)))

  pub has_free_is : nat_lt port 255 ≡ has_free_port cables s
  has_free_is = elim (cases_lt port 255) [
    | inl less ↦ lt-ltb port 255 less ∙ sym (ap (λ (o : Option ℕ). is_some o) (free_port_is less))
    | inr more ↦ le-ltb port 255 more ∙ sym (ap (λ (o : Option ℕ). is_some o) (free_port_none more))
  ]

-- ---- a cable more

module _ (cables : List ChannelRow) (s other p q : ℕ) (at_s : IsLeastFree cables s p) (at_other : IsLeastFree cables other q) where
  pub with_cable_laid : p < 255 → q < 255 → with_cable cables s other ≡ cables ++ cable s p other q ∷ []
  with_cable_laid h k =
      ap (λ (o : Option ℕ). with_cable_at cables s other o (free_port cables other)) (free_port_is cables s p at_s h)
      ∙ ap (λ (o : Option ℕ). with_cable_at cables s other (Some p) o) (free_port_is cables other q at_other k)

  pub with_cable_kept : (255 ≤ p) ⊎ (255 ≤ q) → with_cable cables s other ≡ cables
  with_cable_kept (inl full) = ap (λ (o : Option ℕ). with_cable_at cables s other o (free_port cables other)) (free_port_none cables s p at_s full)
  with_cable_kept (inr full) = ap (λ (o : Option ℕ). with_cable_at cables s other (free_port cables s) o) (free_port_none cables other q at_other full) ∙ kept (free_port cables s)
    where
      kept : (o : Option ℕ) → with_cable_at cables s other o None ≡ cables
      kept None = refl
      kept (Some n) = refl

  -- a port is free as before, unless the cable ends there
  free_more : (x n : ℕ) (ends : Bool) → ends_at x n (cable s p other q) ≡ ends → is_free (cables ++ cable s p other q ∷ []) x n ≡ (is_free cables x n && not ends)
  free_more x n ends e =
      ap not (list_any-append (ends_at x n) cables (cable s p other q ∷ [])) ∙ go (list_any (ends_at x n) cables) (ends_at x n (cable s p other q)) e
    where
      go : (a b : Bool) → b ≡ ends → not (a || (b || false)) ≡ (not a && not ends)
      go true b e = refl
      go false true e = ap not e
      go false false e = ap not e

  two_ands : (a b c d : Bool) → Bool
  two_ands a b c d = (a && b) || (c && d)

  -- the ports of a switch where the cable ends, and of others
  ends_first : (n : ℕ) → s ≢ other → ends_at s n (cable s p other q) ≡ (p == n)
  ends_first n differ = go (s == s) (other == s) (eq-eqb s s refl) (ne_eqb other s (λ e. differ (sym e)))
    where
      go : (a c : Bool) → a ≡ true → c ≡ false → ((a && (p == n)) || (c && (q == n))) ≡ (p == n)
      go true false e f = or_false (p == n)
        where
          or_false : (b : Bool) → (b || false) ≡ b
          or_false true = refl
          or_false false = refl
      go true true e f = cc
      go false c e f = cc

  ends_second : (n : ℕ) → s ≢ other → ends_at other n (cable s p other q) ≡ (q == n)
  ends_second n differ = go (s == other) (other == other) (ne_eqb s other differ) (eq-eqb other other refl)
    where
      go : (a c : Bool) → a ≡ false → c ≡ true → ((a && (p == n)) || (c && (q == n))) ≡ (q == n)
      go false true e f = refl
      go false false e f = cc
      go true c e f = cc

  ends_elsewhere : (x n : ℕ) → x ≢ s → x ≢ other → ends_at x n (cable s p other q) ≡ false
  ends_elsewhere x n not_s not_other = go (s == x) (other == x) (ne_eqb s x (λ e. not_s (sym e))) (ne_eqb other x (λ e. not_other (sym e)))
    where
      go : (a c : Bool) → a ≡ false → c ≡ false → ((a && (p == n)) || (c && (q == n))) ≡ false
      go false false e f = refl
      go false true e f = cc
      go true c e f = cc

-- past the least free port is the next one
one_past : (port n : ℕ) → (nat_le port n && not (port == n)) ≡ nat_le (port + 1) n
one_past port n = elim (cases_order port n) [
  | inl same ↦ (let a : nat_le port n ≡ true = le-leb port n (omega arith) in let b : (port == n) ≡ true = eq-eqb port n same in let c : nat_le (port + 1) n ≡ false = lt-leb (port + 1) n (omega arith) in rw (a, b, c) refl)
  | inr (inl less) ↦ (let a : nat_le port n ≡ true = le-leb port n (omega arith) in let b : (port == n) ≡ false = ne_eqb port n (λ e. omega (arith, e, less)) in let c : nat_le (port + 1) n ≡ true = le-leb (port + 1) n (omega arith) in rw (a, b, c) refl)
  | inr (inr more) ↦ (let a : nat_le port n ≡ false = lt-leb port n (omega arith) in let c : nat_le (port + 1) n ≡ false = lt-leb (port + 1) n (omega arith) in rw (a, c) refl)
]

and_true : (b : Bool) → (b && not false) ≡ b
and_true true = refl
and_true false = refl

module _ (cables : List ChannelRow) (ports : List ℕ) (s other : ℕ) (are : AreLeastFree cables ports) (low : s < length ports) (other_low : other < length ports) (differ : s ≢ other) where
  abbrev p : ℕ
  p = slice_index ports s

  abbrev q : ℕ
  q = slice_index ports other

  abbrev laid : List ChannelRow
  laid = cables ++ cable s p other q ∷ []

  next_free : (x port : ℕ) → IsLeastFree cables x port → port < 255 → ((n : ℕ) → ends_at x n (cable s p other q) ≡ (port == n)) → IsLeastFree laid x (port + 1)
  next_free x port is h ends = record {
    low = omega (arith, is.low);
    high = omega (arith, h);
    free = λ n least greatest. free_more cables s other p q (are s low) (are other other_low) x n (port == n) (ends n) ∙ ap (λ b. b && not (port == n)) (is.free n least greatest) ∙ one_past port n;
  }

  same_free : (x port : ℕ) → IsLeastFree cables x port → x ≢ s → x ≢ other → IsLeastFree laid x port
  same_free x port is not_s not_other = record {
    low = is.low;
    high = is.high;
    free = λ n least greatest. free_more cables s other p q (are s low) (are other other_low) x n false (ends_elsewhere cables s other p q (are s low) (are other other_low) x n not_s not_other) ∙ and_true (is_free cables x n) ∙ is.free n least greatest;
  }

  pub still_least : p < 255 → q < 255 → AreLeastFree laid (set (set ports s (p + 1)) other (q + 1))
  still_least h k x x_low = elim (cases_eq x other) [
    | inl same ↦ subst (λ y. IsLeastFree laid y (slice_index (set (set ports s (p + 1)) other (q + 1)) y)) (sym same)
        (subst (λ n. IsLeastFree laid other n) (sym (get_or-set_same (set ports s (p + 1)) other (q + 1) 0 (omega (arith, other_low, length-set ports s (p + 1)))))
        (next_free other q (are other other_low) k (λ n. ends_second cables s other p q (are s low) (are other other_low) n differ)))
    | inr not_other ↦ subst (λ n. IsLeastFree laid x n) (sym (get_or-set_other (set ports s (p + 1)) other x (q + 1) 0 not_other)) (elim (cases_eq x s) [
      | inl same ↦ subst (λ y. IsLeastFree laid y (slice_index (set ports s (p + 1)) y)) (sym same)
          (subst (λ n. IsLeastFree laid s n) (sym (get_or-set_same ports s (p + 1) 0 low)) (next_free s p (are s low) h (λ n. ends_first cables s other p q (are s low) (are other other_low) n differ)))
      | inr not_s ↦ subst (λ n. IsLeastFree laid x n) (sym (get_or-set_other ports s x (p + 1) 0 not_s))
          (same_free x (slice_index ports x) (are x (omega (arith, x_low, length-set (set ports s (p + 1)) other (q + 1), length-set ports s (p + 1)))) not_s not_other)
    ])
  ]

  module _ (port other_port : ℕ) (row : ChannelRow) (now : List ChannelRow) (port_is : port ≡ p) (other_is : other_port ≡ q) (h : port < 255) (k : other_port < 255) (more : now ≡ cables ++ row ∷ []) (row_is : row ≡ cable s port other other_port) where
    now_is : now ≡ laid
    now_is = more ∙ ap (λ r. cables ++ r ∷ []) (row_is ∙ ap (λ n. cable s n other other_port) port_is ∙ ap (λ n. cable s p other n) other_is)

    p_low : p < 255
    p_low = omega (arith, port_is, h)

    q_low : q < 255
    q_low = omega (arith, other_is, k)

    pub laid_least : AreLeastFree now (set (set ports s (port + 1)) other (other_port + 1))
    laid_least =
        subst (λ n. AreLeastFree now (set (set ports s (n + 1)) other (other_port + 1))) (sym port_is)
        (subst (λ n. AreLeastFree now (set (set ports s (p + 1)) other (n + 1))) (sym other_is) (subst (λ xs. AreLeastFree xs (set (set ports s (p + 1)) other (q + 1))) (sym now_is) (still_least p_low q_low)))

    pub laid_is : now ≡ with_cable cables s other
    laid_is = now_is ∙ sym (with_cable_laid cables s other p q (are s low) (are other other_low) p_low q_low)

-- ---- cables and the number of switches

abbrev pub laid_cables : ℕ → List ChannelRow → LaidCables
laid_cables switches cables = record { switches = switches; cables = cables }

pub made : (n switches : ℕ) (xs cables : List ChannelRow) → n ≡ switches → xs ≡ cables → laid_cables n xs ≡ laid_cables switches cables
made n switches xs cables e f = ap (λ m. laid_cables m xs) e ∙ ap (λ ys. laid_cables switches ys) f

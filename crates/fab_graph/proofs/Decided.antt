-- Facts that are decided: each holds or fails.
use Rattle.std.proofs.Common.{◌≡◌, ℕ, zero, suc, ◌<◌, ◌⊎◌, inl, inr, List, [], ◌∷◌, subst, arith, Contains}
use Rattle.std.proofs.lemmas.Bool.{cases_lt}
use Rattle.std.proofs.lemmas.Map.Made.{Contains-tail}
use Rattle.fab_graph.specs.Least.{IsLeast}

abbrev pub Decided : Type 0 → Type 0
Decided P = P ⊎ (¬ P)

pub equal : (m n : ℕ) → Decided (m ≡ n)
equal m n = grind arith

pub equivalent : (P Q : Type 0) → (P → Q) → (Q → P) → Decided P → Decided Q
equivalent P Q to from (inl p) = inl (to p)
equivalent P Q to from (inr refuted) = inr (λ q. refuted (from q))

pub both : (P Q : Type 0) → Decided P → Decided Q → Decided (P × Q)
both P Q (inl p) (inl q) = inl (p, q)
both P Q (inl p) (inr refuted) = inr (λ x. refuted x.1)
both P Q (inr refuted) q = inr (λ x. refuted x.0)

neither : (P Q : Type 0) → ¬ P → ¬ Q → P ⊎ Q → ⊥
neither P Q refuted none (inl p) = refuted p
neither P Q refuted none (inr q) = none q

pub either : (P Q : Type 0) → Decided P → Decided Q → Decided (P ⊎ Q)
either P Q (inl p) q = inl (inl p)
either P Q (inr refuted) (inl q) = inl (inr q)
either P Q (inr refuted) (inr none) = inr (neither P Q refuted none)

pub below_decided : (m n : ℕ) → Decided (m < n)
below_decided m n = grind arith

pub not_decided : (P : Type 0) → Decided P → Decided (¬ P)
not_decided P (inl p) = inr (λ refuted. refuted p)
not_decided P (inr refuted) = inl refuted

pub contains_decided : (xs : List ℕ) (x : ℕ) → Decided (Contains xs x)
contains_decided [] x = inr (λ c. omega (arith, c.1))
contains_decided (y ∷ ys) x = go (equal y x) (contains_decided ys x)
  where
    go : Decided (y ≡ x) → Decided (Contains ys x) → Decided (Contains (y ∷ ys) x)
    go (inl e) later = inl (0, omega arith, e)
    go (inr other) (inl c) = inl (suc c.0, omega (arith, c.1), c.2)
    go (inr other) (inr none) = inr (λ c. none (Contains-tail y ys x other c))

-- below a bound a decided property holds somewhere, or nowhere
pub found_below : (P : ℕ → Type 0) → ((k : ℕ) → Decided (P k)) → (n : ℕ) → ((k : ℕ) × (k < n) × P k) ⊎ ((k : ℕ) → k < n → ¬ P k)
found_below P decide zero = inr (λ k h p. omega (arith, h))
found_below P decide (suc n) = go (decide n) (found_below P decide n)
  where
    go : Decided (P n) → ((k : ℕ) × (k < n) × P k) ⊎ ((k : ℕ) → k < n → ¬ P k) → ((k : ℕ) × (k < suc n) × P k) ⊎ ((k : ℕ) → k < suc n → ¬ P k)
    go (inl p) before = inl (n, omega arith, p)
    go (inr refuted) (inl f) = inl (f.0, omega (arith, f.1), f.2)
    go (inr refuted) (inr none) = inr (λ k h p. elim (cases_lt k n) [
      | inl less ↦ none k less p
      | inr more ↦ (let same : k ≡ n = omega (arith, h, more) in refuted (subst P same p))
    ])

-- the least number below a bound of which a fact holds, or none is there
abbrev LeastBelow : (ℕ → Type 0) → ℕ → Type 0
LeastBelow P n = ((m : ℕ) × IsLeast P m) ⊎ ((k : ℕ) → k < n → ¬ P k)

least_next : (P : ℕ → Type 0) (n : ℕ) → Decided (P n) → LeastBelow P n → LeastBelow P (suc n)
least_next P n d (inl found) = inl found
least_next P n (inl p) (inr none) =
    inl (n, record { holds = p; least = λ m q. elim (cases_lt m n) [ inl less ↦ absurd (none m less q) | inr more ↦ more ] })
least_next P n (inr refuted) (inr none) = inr (λ k h p. elim (cases_lt k n) [
  | inl less ↦ none k less p
  | inr more ↦ (let same : k ≡ n = omega (arith, h, more) in refuted (subst P same p))
])

least_below : (P : ℕ → Type 0) → ((n : ℕ) → Decided (P n)) → (n : ℕ) → LeastBelow P n
least_below P decide zero = inr (λ k h p. omega (arith, h))
least_below P decide (suc n) = least_next P n (decide n) (least_below P decide n)

least_found : (P : ℕ → Type 0) (n : ℕ) → P n → LeastBelow P (suc n) → (m : ℕ) × IsLeast P m
least_found P n p (inl found) = found
least_found P n p (inr none) = absurd (none n (omega arith) p)

-- of decided facts about numbers, one of which holds, there is a least
pub least_of : (P : ℕ → Type 0) → ((n : ℕ) → Decided (P n)) → (n : ℕ) → P n → (m : ℕ) × IsLeast P m
least_of P decide n p = least_found P n p (least_below P decide (suc n))

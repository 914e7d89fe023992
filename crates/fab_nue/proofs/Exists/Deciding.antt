-- What a plan keeps is decided.
use Rattle.std.proofs.Common.{◌≡◌, ℕ, ◌<◌, inl, inr, Bool, true, false, List, Option, Some, None, refl, ap, Contains}
use Rattle.std.specs.Prelude.{IsTrue}
use Rattle.std.proofs.lemmas.Option.{none-some, same_Some}
use Rattle.fab_graph.proofs.Decided.{Decided, equal, equivalent, not_decided, found_below}
use Rattle.fab_tables.specs.declared.end.End.{End}
use Rattle.fab_tables.specs.declared.end.End.TheVariants.{Delivered, NoEntry, DeadPort, Astray, Loop}
use Rattle.fab_tables.proofs.Joined.ConnectedDecided.{some_decided}

pub implies : (P Q : Type 0) → Decided P → Decided Q → Decided (P → Q)
implies P Q p (inl q) = inl (λ given. q)
implies P Q (inl p) (inr not) = inr (λ f. not (f p))
implies P Q (inr none) (inr not) = inl (λ p. absurd (none p))

-- of all numbers below one, and of all elements of a list
pub all_below : (P : ℕ → Type 0) → ((k : ℕ) → Decided (P k)) → (n : ℕ) → Decided ((k : ℕ) → k < n → P k)
all_below P decide n = elim (found_below (λ k. ¬ P k) (λ k. not_decided (P k) (decide k)) n) [
  | inl f ↦ inr (λ all. f.2 (all f.0 f.1))
  | inr none ↦ inl (λ k low. elim (decide k) [ inl p ↦ p | inr not ↦ absurd (none k low not) ])
]

pub all_in : (P : ℕ → Type 0) → ((x : ℕ) → Decided (P x)) → (xs : List ℕ) → Decided ((x : ℕ) → Contains xs x → P x)
all_in P decide xs = elim (some_decided (λ x. ¬ P x) (λ x. not_decided (P x) (decide x)) xs) [
  | inl f ↦ inr (λ all. f.2 (all f.0 f.1))
  | inr none ↦ inl (λ x has. elim (decide x) [ inl p ↦ p | inr not ↦ absurd (none (x, has, not)) ])
]

pub is_true : (b : Bool) → Decided (IsTrue b)
is_true true = inl refl
is_true false = inr (λ is. cc)

pub is_number : (o : Option ℕ) (n : ℕ) → Decided (o ≡ Some n)
is_number None n = inr (λ e. none-some n e)
is_number (Some m) n = equivalent (m ≡ n) (Some m ≡ Some n) (λ e. ap (λ k. Some k) e) (λ e. same_Some m n e) (equal m n)

pub is_delivered : (end : End) → Decided (end ≡ Delivered)
is_delivered Delivered = inl refl
is_delivered NoEntry = inr (λ e. cc)
is_delivered DeadPort = inr (λ e. cc)
is_delivered Astray = inr (λ e. cc)
is_delivered Loop = inr (λ e. cc)

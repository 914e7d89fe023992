-- Walks one after the other.
use Rattle.std.proofs.Common.{◌≡◌, ℕ, zero, suc, ◌+◌, sym, subst, arith}
use Rattle.fab_graph.specs.Walks.{Walk}

pub walk_through : {A : Type 0} (R : A → A → Type 0) (m n : ℕ) (a b c : A) → Walk R m a b → Walk R n b c → Walk R (m + n) a c
walk_through R zero n a b c w v =
    let same : n ≡ 0 + n = omega arith in
    subst (λ k. Walk R k a c) same (subst (λ x. Walk R n x c) (sym w) v)
walk_through R (suc m) n a b c w v =
    let next : Walk R (suc (m + n)) a c = (w.0, w.1, walk_through R m n w.0 b c w.2 v) in
    let same : suc (m + n) ≡ suc m + n = omega arith in
    subst (λ k. Walk R k a c) same next

-- Hops of a route that are collected: the first of them, and those behind.
use Rattle.std.proofs.Common.{◌≡◌, ℕ, suc, ◌+◌, ◌-◌, ◌≤◌, List, length, drop, refl, sym, ◌∙◌, ap, inl, inr, arith, slice_get}
use Rattle.std.proofs.lemmas.Bool.{cases_lt}
use Rattle.std.proofs.lemmas.Option.{slice_get_within}
use Rattle.fab_tables.specs.declared.verdict.VirtualChannel.{VirtualChannel}
use Rattle.fab_tables.specs.Dependencies.{node_of}
use Rattle.fab_tables.proofs.Paths.RoutesBehind.{slice_dropped}
use Rattle.fab_certify.specs.Collected.{Collected, Grows, HasHops, HasFirstHops}

get_dropped : {A : Type 0} (xs : List A) (n k m : ℕ) → m ≡ n + k → slice_get (drop n xs) k ≡ slice_get xs m
get_dropped xs n k m e = slice_dropped xs n k ∙ ap (λ i. slice_get xs i) (sym e)

module _ (count : ℕ) (hops : List VirtualChannel) where
  pub hops_grow : (a b : Collected) → Grows a b → HasHops count hops a → HasHops count hops b
  hops_grow a b grows has = record {
    used = λ k v at. grows.used (node_of count v) (has.used k v at);
    pairs = λ k v w x y. grows.pairs (node_of count v, node_of count w) (has.pairs k v w x y);
  }

  pub has_rest : (j : ℕ) (c : Collected) → HasHops count hops c → HasHops count (drop j hops) c
  has_rest j c has = record {
    used = λ k v at. has.used (j + k) v (sym (get_dropped hops j k (j + k) refl) ∙ at);
    pairs = λ k v w a b. has.pairs (j + k) v w (sym (get_dropped hops j k (j + k) refl) ∙ a) (sym (get_dropped hops j (suc k) (suc (j + k)) (omega arith)) ∙ b);
  }

  -- the first hops, and all from the last of these on
  pub joined : (p : ℕ) (c : Collected) → HasFirstHops count hops (suc p) c → HasHops count (drop p hops) c → HasHops count hops c
  joined p c first rest = record {
    used = λ k v at. elim (cases_lt k (suc p)) [
      | inl low ↦ first.used k v low at
      | inr past ↦ rest.used (k - p) v (get_dropped hops p (k - p) k (omega arith) ∙ at)
    ];
    pairs = λ k v w a b. elim (cases_lt (suc k) (suc p)) [
      | inl low ↦ first.pairs k v w low a b
      | inr past ↦ rest.pairs (k - p) v w (get_dropped hops p (k - p) k (omega arith) ∙ a) (get_dropped hops p (suc (k - p)) (suc k) (omega arith) ∙ b)
    ];
  }

  pub all_first : (p : ℕ) (c : Collected) → HasFirstHops count hops p c → length hops ≤ p → HasHops count hops c
  all_first p c first all = record {
    used = λ k v at. first.used k v (omega (arith, all, slice_get_within hops k v at)) at;
    pairs = λ k v w a b. first.pairs k v w (omega (arith, all, slice_get_within hops (suc k) w b)) a b;
  }

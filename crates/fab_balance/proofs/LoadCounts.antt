-- Loads are counted in the entries of smaller LIDs at one switch.
use Rattle.std.proofs.Common.{◌≡◌, ◌≢◌, ℕ, zero, suc, ◌+◌, ◌<◌, Bool, true, false, List, [], ◌∷◌, length, refl, sym, ◌∙◌, ap, subst, arith, cond}
use Rattle.std.proofs.Math.Path.{fun_ext}
use Rattle.std.specs.Prelude.{count_by, nat_lt, slice_index_or, ◌&&◌, ◌==◌}
use Rattle.std.proofs.lemmas.Bool.{ltb-true}
use Rattle.std.proofs.lemmas.List.Sums.{sum_by-cons}
use Rattle.fab_graph.specs.Least.{IsNotAfter}
use Rattle.fab_model.specs.declared.rows.TerminalRow.{TerminalRow}
use Rattle.fab_model.specs.Topology.{Topology}
use Rattle.fab_tables.specs.Entries.{Entries, entry}
use Rattle.fab_balance.specs.Loads.{port_load, IsBalancedChoice}

-- ---- counts of two tests

counted_cons : {A : Type 0} (p : A → Bool) (x : A) (xs : List A) → count_by p (x ∷ xs) ≡ cond (p x) 1 0 + count_by p xs
counted_cons p x xs = sum_by-cons (λ y. cond (p y) 1 0) x xs

-- tests that agree on the elements count the same
pub same_count : {A : Type 0} (p q : A → Bool) (xs : List A) → ((k : ℕ) (d : A) → k < length xs → p (slice_index_or xs k d) ≡ q (slice_index_or xs k d)) → count_by p xs ≡ count_by q xs
same_count p q [] same = refl
same_count p q (x ∷ xs) same =
    counted_cons p x xs ∙ ap (λ b. cond b 1 0 + count_by p xs) (same 0 x (omega arith))
    ∙ ap (λ n. cond (q x) 1 0 + n) (same_count p q xs (λ k d low. same (suc k) d (omega (arith, low)))) ∙ sym (counted_cons q x xs)

pub none_counted : {A : Type 0} (p : A → Bool) (xs : List A) → ((k : ℕ) (d : A) → k < length xs → p (slice_index_or xs k d) ≡ false) → count_by p xs ≡ 0
none_counted p [] none = refl
none_counted p (x ∷ xs) none = omega (arith, counted_cons p x xs, ap {B = ℕ} (λ b. cond b 1 0) (none 0 x (omega arith)), none_counted p xs (λ k d low. none (suc k) d (omega (arith, low))))

-- tests that agree on all elements but one, which the first doesn't count
pub one_counted : {A : Type 0} (p q : A → Bool) (xs : List A) (i : ℕ) (x : A) → i < length xs → slice_index_or xs i x ≡ x → p x ≡ false →
    ((k : ℕ) (d : A) → k < length xs → k ≢ i → p (slice_index_or xs k d) ≡ q (slice_index_or xs k d)) → count_by q xs ≡ count_by p xs + cond (q x) 1 0
one_counted p q [] i x low at none same = absurd (omega (arith, low))
one_counted {A} p q (y ∷ ys) i x low at none same = go i low at same (λ j a b s. one_counted p q ys j x a b none s)
  where
    go : (i : ℕ) → i < length (y ∷ ys) → slice_index_or (y ∷ ys) i x ≡ x → ((k : ℕ) (d : A) → k < length (y ∷ ys) → k ≢ i → p (slice_index_or (y ∷ ys) k d) ≡ q (slice_index_or (y ∷ ys) k d)) →
        ((j : ℕ) → j < length ys → slice_index_or ys j x ≡ x → ((k : ℕ) (d : A) → k < length ys → k ≢ j → p (slice_index_or ys k d) ≡ q (slice_index_or ys k d)) → count_by q ys ≡ count_by p ys + cond (q x) 1 0) →
        count_by q (y ∷ ys) ≡ count_by p (y ∷ ys) + cond (q x) 1 0
    go zero a b s rest =
        let others : count_by p ys ≡ count_by q ys = same_count p q ys (λ k d h. s (suc k) d (omega (arith, h)) (λ e. omega (arith, e))) in
        let here : cond (p y) 1 0 ≡ 0 = ap {B = ℕ} (λ z. cond (p z) 1 0) b ∙ ap {B = ℕ} (λ v. cond v 1 0) none in
        omega (arith, counted_cons q y ys, counted_cons p y ys, others, here, ap {B = ℕ} (λ z. cond (q z) 1 0) b)
    go (suc j) a b s rest =
        omega (
          arith,
          counted_cons q y ys,
          counted_cons p y ys,
          ap {B = ℕ} (λ v. cond v 1 0) (s 0 y (omega arith) (λ e. omega (arith, e))),
          rest j (omega (arith, a)) b (λ k d h other. s (suc k) d (omega (arith, h)) (λ e. other (omega (arith, e)))),
        )

-- ---- loads

-- whether a terminal's LID is smaller, and goes by the port
abbrev pub is_sent : Entries → ℕ → ℕ → ℕ → TerminalRow → Bool
is_sent e s lid port row = nat_lt row.lid.0 lid && (entry e s row.lid.0 == port)

same_test : (lid n a b port : ℕ) → (n < lid → a ≡ b) → (nat_lt n lid && (a == port)) ≡ (nat_lt n lid && (b == port))
same_test lid n a b port same = go (nat_lt n lid) refl
  where
    go : (v : Bool) → nat_lt n lid ≡ v → (v && (a == port)) ≡ (v && (b == port))
    go true is = ap (λ z. z == port) (same (ltb-true n lid is))
    go false is = refl

module _ (t : Topology) (e f : Entries) (s lid : ℕ) (same : (other : ℕ) → other < lid → entry e s other ≡ entry f s other) where
  -- entries that are the same for smaller LIDs make the same loads
  pub loads_same : (port : ℕ) → port_load t e s lid port ≡ port_load t f s lid port
  loads_same port =
      same_count (is_sent e s lid port) (is_sent f s lid port) t.terminals
      (λ k d low. same_test lid (slice_index_or t.terminals k d).lid.0 _ _ port (λ less. same (slice_index_or t.terminals k d).lid.0 less))

  -- and the same choice
  pub balanced_kept : (Eligible : ℕ → Type 0) (port : ℕ) → IsBalancedChoice t e s lid Eligible port → IsBalancedChoice t f s lid Eligible port
  balanced_kept Eligible port x = record {
    eligible = x.eligible;
    least = λ other is. let P : (ℕ → ℕ) → Type 0 = λ load. IsNotAfter load port other in subst P (fun_ext loads_same) (x.least other is);
  }

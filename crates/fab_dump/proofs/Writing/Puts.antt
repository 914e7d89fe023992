-- One part of a text is put after another.
use Rattle.std.proofs.Common.{◌≡◌, ◌+◌, ℕ, zero, suc, List, [], ◌∷◌, ◌++◌, Option, Some, None, Result, Ok, Err, length, take, refl, sym, subst, ap, ◌∙◌, arith, append_assoc, append-nil}
use Rattle.std.specs.Prelude.{option_map}
use Rattle.fab_io.specs.Sink.{AppendsPrefix}
use Rattle.fab_dump.specs.declared.write.WriteFault.{WriteFault}
use Rattle.fab_dump.specs.declared.write.WriteFault.TheVariants.{Failed, Memory}
use Rattle.fab_dump.specs.Writing.{PutsText}

record Front (count : ℕ) (a b : List ℕ) : Type 0 where
  bound : ℕ
  same : take count a ≡ take bound (a ++ b)

-- a prefix of a list is one of a longer list too
front : (count : ℕ) (a b : List ℕ) → Front count a b
front zero a b = record { bound = 0; same = refl }
front (suc count) [] b = record { bound = 0; same = refl }
front (suc count) (x ∷ a) b =
    let rest : Front count a b = front count a b in
    record { bound = suc rest.bound; same = ap (λ (bytes : List ℕ). x ∷ bytes) rest.same }

past : (a b : List ℕ) (count : ℕ) → take (length a + count) (a ++ b) ≡ a ++ take count b
past [] b count = ap (λ (n : ℕ). take n b) (omega arith)
past (x ∷ a) b count =
    let more : suc (length a) + count ≡ suc (length a + count) = omega arith in
    ap (λ (n : ℕ). take n (x ∷ a ++ b)) more ∙ ap (λ (bytes : List ℕ). x ∷ bytes) (past a b count)

prefix_more : (a b : List ℕ) (before now : Option (List ℕ)) → AppendsPrefix a before now → AppendsPrefix (a ++ b) before now
prefix_more a b None now e = e
prefix_more a b (Some bytes) now p =
    let longer : Front p.0 a b = front p.0 a b in
    (longer.bound, p.1 ∙ ap (λ (rest : List ℕ). Some (bytes ++ rest)) longer.same)

prefix_after : (a b : List ℕ) (before between now : Option (List ℕ)) → between ≡ option_map (λ bytes. bytes ++ a) before → AppendsPrefix b between now → AppendsPrefix (a ++ b) before now
prefix_after a b None between now e p = subst (λ (o : Option (List ℕ)). AppendsPrefix b o now) e p
prefix_after a b (Some bytes) between now e p =
    let q : AppendsPrefix b (Some (bytes ++ a)) now = subst (λ (o : Option (List ℕ)). AppendsPrefix b o now) e p in
    (length a + q.0, q.1 ∙ ap (λ (rest : List ℕ). Some rest) (append_assoc bytes a (take q.0 b) ∙ ap (λ (rest : List ℕ). bytes ++ rest) (sym (past a b q.0))))

whole_after : (a b : List ℕ) (before between now : Option (List ℕ)) → between ≡ option_map (λ bytes. bytes ++ a) before → now ≡ option_map (λ bytes. bytes ++ b) between
    → now ≡ option_map (λ bytes. bytes ++ (a ++ b)) before
whole_after a b None between now e f = f ∙ ap (λ (o : Option (List ℕ)). option_map (λ bytes. bytes ++ b) o) e
whole_after a b (Some bytes) between now e f = f ∙ ap (λ (o : Option (List ℕ)). option_map (λ bytes. bytes ++ b) o) e ∙ ap (λ (rest : List ℕ). Some rest) (append_assoc bytes a b)

no_prefix : (a : List ℕ) (before : Option (List ℕ)) → AppendsPrefix a before before
no_prefix a None = refl
no_prefix a (Some bytes) = (0, ap (λ (rest : List ℕ). Some rest) (sym (append-nil bytes)))

nothing_more : (before : Option (List ℕ)) → before ≡ option_map (λ bytes. bytes ++ []) before
nothing_more None = refl
nothing_more (Some bytes) = ap (λ (rest : List ℕ). Some rest) (sym (append-nil bytes))

-- nothing is put
pub nothing_put : (before : Option (List ℕ)) (count : ℕ) → PutsText [] before before count count (Ok tt)
nothing_put before count = record { written = nothing_more before; cause = refl; none_fell = omega arith }

-- no memory was left for the first piece
pub no_memory : (text : List ℕ) (before : Option (List ℕ)) (count : ℕ) (refused : _) → PutsText text before before count count (Err (Memory refused))
no_memory text before count refused = record { written = no_prefix text before; cause = refl; none_fell = omega arith }

module _ (a b : List ℕ) {before between now : Option (List ℕ)} {count counting counted : ℕ} where
  -- the next part went through, or stopped
  pub then_put : (outcome : Result (Unit {0}) WriteFault) → PutsText a before between count counting (Ok tt) → PutsText b between now counting counted outcome → PutsText (a ++ b) before now count counted outcome
  then_put (Ok done) first second = record {
    written = whole_after a b before between now first.written second.written;
    cause = second.cause ∙ first.cause;
    none_fell = omega (arith, first.none_fell, second.none_fell);
  }
  then_put (Err Failed) first second = record {
    written = prefix_after a b before between now first.written second.written;
    cause = omega (arith, first.cause, second.cause);
    none_fell = omega (arith, first.none_fell, second.none_fell);
  }
  then_put (Err (Memory refused)) first second = record {
    written = prefix_after a b before between now first.written second.written;
    cause = second.cause ∙ first.cause;
    none_fell = omega (arith, first.none_fell, second.none_fell);
  }

-- the first part stopped
module _ (a b : List ℕ) {before now : Option (List ℕ)} {count counted : ℕ} where
  pub stopped : (fault : WriteFault) → PutsText a before now count counted (Err fault) → PutsText (a ++ b) before now count counted (Err fault)
  stopped fault first = record { written = prefix_more a b before now first.written; cause = first.cause; none_fell = first.none_fell }

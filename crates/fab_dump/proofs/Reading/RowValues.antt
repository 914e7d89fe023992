-- The values of a row, read one after the other.
use Rattle.std.proofs.Common.{◌≡◌, ℕ, List, [], ◌∷◌, ◌++◌, length, Option, Some, None, refl, sym, ◌∙◌, ap, arith}
use Rattle.std.specs.Prelude.{if◌then◌else◌}
use Rattle.std.proofs.lemmas.Bool.{ne_eqb, eq-eqb}
use Rattle.std.proofs.lemmas.List.{append_assoc, append-nil, length-append}
use Rattle.fab_text.specs.Fields.{with_first, all_read}
use Rattle.fab_tables.proofs.Rows.Cells.{none_some, unsome}
use Rattle.fab_dump.specs.FieldsLeft.{prepended, AreNot}
use Rattle.fab_dump.specs.Lines.{sixteen}

module _ {A : Type 0} (read : List ℕ → Option A) where
  with_value : (xs : List A) (x : A) (o : Option (List A)) → prepended xs (with_first (Some x) o) ≡ prepended (xs ++ x ∷ []) o
  with_value xs x None = refl
  with_value xs x (Some ys) = ap (λ zs. Some zs) (sym (append_assoc xs (x ∷ []) ys))

  pub one_value : (xs : List A) (x : A) (field : List ℕ) (others : List (List ℕ)) → Some x ≡ read field →
      prepended xs (all_read read (field ∷ others)) ≡ prepended (xs ++ x ∷ []) (all_read read others)
  one_value xs x field others e = ap (λ o. prepended xs (with_first o (all_read read others))) (sym e) ∙ with_value xs x (all_read read others)

pub not_read : {A : Type 0} (count : ℕ) (o : Option (List A)) → o ≡ None → AreNot count o
not_read count o e = λ values h. absurd (none_some values (sym e ∙ h))

-- the fields end too late
more_first : {A : Type 0} (xs : List A) (x : Option A) (o : Option (List A)) → AreNot (length xs) (prepended xs (with_first x o))
more_first xs None o = not_read (length xs) None refl
more_first xs (Some x) None = not_read (length xs) None refl
more_first xs (Some x) (Some ys) = λ values e. λ n. omega (arith, ap length (unsome (xs ++ x ∷ ys) values e), length-append xs (x ∷ ys), n)

pub too_many : {A : Type 0} (read : List ℕ → Option A) (count : ℕ) (xs : List A) (field : List ℕ) (others : List (List ℕ)) → length xs ≡ count → AreNot count (prepended xs (all_read read (field ∷ others)))
too_many read count xs field others e = λ values h n. more_first xs (read field) (all_read read others) values h (n ∙ sym e)

pub just : {A : Type 0} (xs : List A) → prepended xs (Some []) ≡ Some xs
just xs = ap (λ ys. Some ys) (append-nil xs)

pub not_sixteen : (o : Option (List ℕ)) → AreNot 16 o → sixteen o ≡ None
not_sixteen None h = refl
not_sixteen (Some lanes) h = ap (λ b. if b then Some lanes else None) (ne_eqb (length lanes) 16 (h lanes refl))

pub are_sixteen : (lanes : List ℕ) → length lanes ≡ 16 → sixteen (Some lanes) ≡ Some lanes
are_sixteen lanes e = ap (λ b. if b then Some lanes else None) (eq-eqb (length lanes) 16 e)

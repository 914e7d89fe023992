-- The numbers of a plan that are not 0, counted one after the other.
use Rattle.std.proofs.Common.{◌≡◌, ◌≢◌, ℕ, ◌+◌, ◌<◌, ◌≤◌, Bool, true, false, cond, not, List, [], ◌∷◌, ◌++◌, length, take, get_or, max, sym, ◌∙◌, ap, arith, length-append, length-take, append-nil}
use Rattle.std.specs.Prelude.{filter, ◌==◌}
use Rattle.std.proofs.lemmas.Bool.{eq-eqb, ne_eqb}
use Rattle.std.proofs.lemmas.List.{take_more}
use Rattle.std.proofs.lemmas.List.Elements.{filter-append}
use Rattle.std.proofs.lemmas.List.Sums.{fold_push, length-filter, count_by-le-length}
use Rattle.std.specs.Ordering.{ord_max, nat_cmp}
use Rattle.std.proofs.lemmas.Bool.Decides.{nat_tests}
use Rattle.fab_report.specs.Loads.{greatest}

abbrev nonzero : ℕ → Bool
nonzero k = not (k == 0)

-- the numbers before a place that are not 0
abbrev pub some_of : List ℕ → ℕ → List ℕ
some_of numbers n = filter nonzero (take n numbers)

pub record AreCounted (numbers : List ℕ) (n counted greatest_so_far : ℕ) : Type 0 where
  pub count : counted ≡ length (some_of numbers n)
  pub most : greatest_so_far ≡ greatest (some_of numbers n)

module _ (numbers : List ℕ) (n count most number : ℕ) (h : n < length numbers) (at : number ≡ get_or numbers n 0) (so_far : AreCounted numbers n count most) where
  more : (b : Bool) → nonzero number ≡ b → some_of numbers (n + 1) ≡ some_of numbers n ++ cond b (number ∷ []) []
  more b e =
      ap (λ (xs : List ℕ). filter nonzero xs) (take_more numbers n 0 h ∙ ap (λ k. take n numbers ++ k ∷ []) (sym at))
      ∙ filter-append nonzero (take n numbers) (number ∷ []) ∙ ap (λ (v : Bool). some_of numbers n ++ cond v (number ∷ []) []) e

  pub number_counted : number ≢ 0 → AreCounted numbers (n + 1) (count + 1) (max most number)
  number_counted some =
      let e : nonzero number ≡ true = ap not (ne_eqb number 0 some) in
      record {
        count = omega (arith, so_far.count, ap (λ (xs : List ℕ). length xs) (more true e), length-append (some_of numbers n) (number ∷ []));
        most = ap (λ k. max k number) so_far.most ∙ sym (ap greatest (more true e) ∙ fold_push max 0 (some_of numbers n) number);
      }

  pub zero_passed : number ≡ 0 → AreCounted numbers (n + 1) count most
  zero_passed none =
      let e : nonzero number ≡ false = ap not (eq-eqb number 0 none) in
      let same : some_of numbers (n + 1) ≡ some_of numbers n = more false e ∙ append-nil (some_of numbers n) in
      record { count = so_far.count ∙ sym (ap (λ (xs : List ℕ). length xs) same); most = so_far.most ∙ sym (ap greatest same) }

pub counted_few : (numbers : List ℕ) (n count most : ℕ) → AreCounted numbers n count most → count ≤ length numbers
counted_few numbers n count most are = omega (arith, are.count, length-filter nonzero (take n numbers), count_by-le-length nonzero (take n numbers), length-take n numbers)

pub max_is : (a b : ℕ) → ord_max nat_cmp a b ≡ max a b
max_is a b = grind (arith, nat_tests)

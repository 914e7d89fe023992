-- The names of groups and levels differ.
use Rattle.std.proofs.Common.{◌≡◌, ℕ, ◌+◌, ◌<◌, ◌^◌, true, List, [], ◌∷◌, ◌++◌, length, refl, sym, ◌∙◌, ap, arith, codes}
use Rattle.std.specs.Prelude.{drop, decimal, slice_index}
use Rattle.std.specs.List.{list_all}
use Rattle.std.specs.Char.{is_digit}
use Rattle.std.proofs.lemmas.List.{append_cancel_left, length-append, append-nil}
use Rattle.std.proofs.lemmas.List.Sums.{take_while-cons}
use Rattle.fab_text.specs.Digits.{digits_at_front, number_spelled}
use Rattle.fab_text.proofs.Spelled.{Spells, decimal_spells}
use Rattle.fab_export.specs.Policies.{class_name, level_name, class_level_name, default_name}
use Rattle.fab_export.proofs.ListTests.{both_true, chosen_if}

-- digits before what is none
front : (xs rest : List ℕ) → list_all (λ byte. is_digit byte 10) xs ≡ true → digits_at_front 10 rest ≡ [] → digits_at_front 10 (xs ++ rest) ≡ xs
front [] rest all none = none
front (x ∷ xs) rest all none =
    let both : (is_digit x 10 ≡ true) × (list_all (λ byte. is_digit byte 10) xs ≡ true) = both_true (is_digit x 10) (list_all (λ byte. is_digit byte 10) xs) all in
    take_while-cons (λ byte. is_digit byte 10) x (xs ++ rest) ∙ chosen_if (is_digit x 10) (x ∷ digits_at_front 10 (xs ++ rest)) [] both.0 ∙ ap (λ ys. x ∷ ys) (front xs rest both.1 none)

-- the number behind the first five bytes of a name
number_in_name : List ℕ → ℕ
number_in_name name = number_spelled 10 (digits_at_front 10 (drop 5 name))

read_class : (k : ℕ) (rest : List ℕ) → k < 2 ^ 64 → digits_at_front 10 rest ≡ [] → number_in_name (class_name k ++ rest) ≡ k
unfolding number_in_name
read_class k rest low none =
    let spells : Spells 10 k (decimal k) = decimal_spells k low in
    ap (number_spelled 10) (front (decimal k) rest spells.all none) ∙ spells.value

read_level : (v : ℕ) → v < 2 ^ 64 → number_in_name (level_name v ++ []) ≡ v
unfolding number_in_name
read_level v low =
    let spells : Spells 10 v (decimal v) = decimal_spells v low in
    ap (number_spelled 10) (front (decimal v) [] spells.all refl) ∙ spells.value

behind : (v : ℕ) → digits_at_front 10 (level_name v) ≡ []
behind v = refl

pub one_class : (j k : ℕ) → j < 2 ^ 64 → k < 2 ^ 64 → class_name j ≡ class_name k → j ≡ k
one_class j k low low' same =
    sym (read_class j [] low refl) ∙ ap (λ name. number_in_name (name ++ [])) same ∙ read_class k [] low' refl

pub one_level : (v w : ℕ) → v < 2 ^ 64 → w < 2 ^ 64 → level_name v ≡ level_name w → v ≡ w
one_level v w low low' same = sym (read_level v low) ∙ ap (λ name. number_in_name (name ++ [])) same ∙ read_level w low'

pub one_class_level : (j v k w : ℕ) → j < 2 ^ 64 → k < 2 ^ 64 → v < 2 ^ 64 → w < 2 ^ 64 → class_level_name j v ≡ class_level_name k w → (j ≡ k) × (v ≡ w)
one_class_level j v k w a b c d same = (first, one_level v w c d (append_cancel_left (class_name k) (level_name v) (level_name w) (ap (λ n. class_name n ++ level_name v) (sym first) ∙ same)))
  where
    first : j ≡ k
    first = sym (read_class j (level_name v) a (behind v)) ∙ ap number_in_name same ∙ read_class k (level_name w) b (behind w)

pub class_no_level : (j k v : ℕ) → j < 2 ^ 64 → k < 2 ^ 64 → class_name j ≡ class_level_name k v → ⊥
class_no_level j k v a b same =
    let first : j ≡ k = sym (read_class j [] a refl) ∙ ap number_in_name (append-nil (class_name j) ∙ same) ∙ read_class k (level_name v) b (behind v) in
    let size : length (class_name k) ≡ length (class_name k) + length (level_name v) = ap (λ n. length (class_name n)) (sym first) ∙ ap length same ∙ length-append (class_name k) (level_name v) in
    let some : length (level_name v) ≡ 5 + length (decimal v) = length-append (codes "level") (decimal v) in
    omega (arith, size, some)

pub default_no_level : (v : ℕ) → default_name ≡ level_name v → ⊥
default_no_level v same = let first : 100 ≡ 108 = ap (λ name. slice_index name 0) same in omega (arith, first)

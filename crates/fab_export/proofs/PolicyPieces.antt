-- The pieces in which levels and rules are pushed, and their lines.
use Rattle.std.proofs.Common.{◌≡◌, ℕ, List, [], ◌∷◌, ◌++◌, ◌∙◌, ap, append_assoc}

-- a number between two words
pub default_pushed : (before head number last t1 t2 : List ℕ) → t1 ≡ before ++ head → t2 ≡ t1 ++ number → t2 ++ (10 ∷ last) ≡ before ++ (head ++ ((number ++ 10 ∷ []) ++ last))
default_pushed before head number last t1 t2 first second =
    let all : t2 ≡ (before ++ head) ++ number = second ∙ ap (λ (t : List ℕ). t ++ number) first in
    ap (λ (t : List ℕ). t ++ (10 ∷ last)) all ∙ simp append_assoc

-- two numbers
module _ (before head one between other last t1 t2 t3 t4 : List ℕ) where
  pub level_pushed : t1 ≡ before ++ head → t2 ≡ t1 ++ one → t3 ≡ t2 ++ (10 ∷ between) → t4 ≡ t3 ++ other
      → t4 ++ (10 ∷ last) ≡ before ++ (head ++ ((one ++ 10 ∷ []) ++ (between ++ ((other ++ 10 ∷ []) ++ last))))
  level_pushed first second third fourth =
      let all : t4 ≡ (((before ++ head) ++ one) ++ (10 ∷ between)) ++ other = fourth ∙ ap (λ (t : List ℕ). t ++ other) (third ∙ ap (λ (t : List ℕ). t ++ (10 ∷ between)) (second ∙ ap (λ (t : List ℕ). t ++ one) first)) in
      ap (λ (t : List ℕ). t ++ (10 ∷ last)) all ∙ simp append_assoc

-- a class, a class and a level, and a level; with line feeds between
module _ (before head class middle dot level third last feed t1 t2 t3 t4 t5 t6 t7 t8 : List ℕ) where
  all_pushed : t1 ≡ before ++ head → t2 ≡ t1 ++ class → t3 ≡ t2 ++ (feed ++ middle) → t4 ≡ t3 ++ class → t5 ≡ t4 ++ dot → t6 ≡ t5 ++ level → t7 ≡ t6 ++ (feed ++ third) → t8 ≡ t7 ++ level
      → t8 ++ (feed ++ last) ≡ before ++ (head ++ ((class ++ feed) ++ (middle ++ (((class ++ (dot ++ level)) ++ feed) ++ (third ++ ((level ++ feed) ++ last))))))
  all_pushed e1 e2 e3 e4 e5 e6 e7 e8 =
      let upto4 : t4 ≡ (((before ++ head) ++ class) ++ (feed ++ middle)) ++ class = e4 ∙ ap (λ (t : List ℕ). t ++ class) (e3 ∙ ap (λ (t : List ℕ). t ++ (feed ++ middle)) (e2 ∙ ap (λ (t : List ℕ). t ++ class) e1)) in
      let all : t8 ≡ (((((((before ++ head) ++ class) ++ (feed ++ middle)) ++ class) ++ dot) ++ level) ++ (feed ++ third)) ++ level =
      e8 ∙ ap (λ (t : List ℕ). t ++ level) (e7 ∙ ap (λ (t : List ℕ). t ++ (feed ++ third)) (e6 ∙ ap (λ (t : List ℕ). t ++ level) (e5 ∙ ap (λ (t : List ℕ). t ++ dot) upto4))) in
      ap (λ (t : List ℕ). t ++ (feed ++ last)) all ∙ simp append_assoc

module _ (before head class middle dot level third last t1 t2 t3 t4 t5 t6 t7 t8 : List ℕ) where
  pub rule_pushed : t1 ≡ before ++ head → t2 ≡ t1 ++ class → t3 ≡ t2 ++ (10 ∷ middle) → t4 ≡ t3 ++ class → t5 ≡ t4 ++ dot → t6 ≡ t5 ++ level → t7 ≡ t6 ++ (10 ∷ third) → t8 ≡ t7 ++ level
      → t8 ++ (10 ∷ last) ≡ before ++ (head ++ ((class ++ 10 ∷ []) ++ (middle ++ (((class ++ (dot ++ level)) ++ 10 ∷ []) ++ (third ++ ((level ++ 10 ∷ []) ++ last))))))
  rule_pushed e1 e2 e3 e4 e5 e6 e7 e8 = all_pushed before head class middle dot level third last (10 ∷ []) t1 t2 t3 t4 t5 t6 t7 t8 e1 e2 e3 e4 e5 e6 e7 e8

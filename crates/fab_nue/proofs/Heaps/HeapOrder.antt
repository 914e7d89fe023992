-- The top of the heap of choices is not after any of them.
use Rattle.std.proofs.Common.{◌≡◌, ◌<◌, ◌≤◌, ◌⊎◌, inl, inr, Bool, true, false, cond, List, [], ◌∷◌, refl, sym, arith}
use Rattle.std.specs.Prelude.{All, nat_lt, ◌==◌}
use Rattle.std.specs.Ordering.{is_lt, ordering_then}
use Rattle.std.specs.declared.cmp.Ordering.TheVariants.{Less, Equal, Greater}
use Rattle.std.specs.declared.cmp.Reverse.{Reverse}
use Rattle.std.specs.BinaryHeap.{IsUpperBound}
use Rattle.std.proofs.lemmas.Bool.{cases_lt, eq-eqb, ltb-false}
use Rattle.std.proofs.lemmas.List.Elements.{All-cons, All-nil}
use Rattle.fab_nue.specs.declared.choices.Choice.{Choice}
use Rattle.fab_nue.specs.Choices.{IsNotAfterChoice, choices_of, least_last}

by_tests : (a b c d : Bool) → is_lt (ordering_then (cond a Less (cond b Equal Greater)) (cond c Less (cond d Equal Greater))) ≡ false → (a ≡ false) × (b ≡ true → c ≡ false)
by_tests true b c d e = cc
by_tests false true true d e = cc
by_tests false true false d e = (refl, λ x. refl)
by_tests false false c d e = (refl, λ x. cc)

not_after : (x y : Reverse Choice) → is_lt (least_last x y) ≡ false → IsNotAfterChoice x.0 y.0
not_after x y e = go (cases_lt x.0.weight y.0.weight)
  where
    tests : (nat_lt y.0.weight x.0.weight ≡ false) × ((y.0.weight == x.0.weight) ≡ true → nat_lt y.0.channel.0 x.0.channel.0 ≡ false)
    tests = by_tests (nat_lt y.0.weight x.0.weight) (y.0.weight == x.0.weight) (nat_lt y.0.channel.0 x.0.channel.0) (y.0.channel.0 == x.0.channel.0) e

    go : (x.0.weight < y.0.weight) ⊎ (y.0.weight ≤ x.0.weight) → IsNotAfterChoice x.0 y.0
    go (inl less) = inl less
    go (inr more) =
        let same : x.0.weight ≡ y.0.weight = omega (arith, more, ltb-false y.0.weight x.0.weight tests.0) in
        inr (same, ltb-false y.0.channel.0 x.0.channel.0 (tests.1 (eq-eqb y.0.weight x.0.weight (sym same))))

pub least_of : (x : Reverse Choice) (items : List (Reverse Choice)) → IsUpperBound least_last x items → All (λ other. IsNotAfterChoice x.0 other) (choices_of items)
least_of x [] bound = All-nil (λ other. IsNotAfterChoice x.0 other)
least_of x (y ∷ ys) bound = All-cons (λ other. IsNotAfterChoice x.0 other) y.0 (choices_of ys) (not_after x y bound.0) (least_of x ys bound.1)

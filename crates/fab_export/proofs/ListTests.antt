-- Tests over lists, and what they tell of elements.
use Rattle.std.proofs.Common.{◌≡◌, ℕ, inl, inr, Bool, true, false, ◌&&◌, List, [], ◌∷◌, Option, Some, None, refl, sym, ◌∙◌, ap, subst}
use Rattle.std.specs.Prelude.{find, nat_eq, option_map, option_and_then, slice_get, if◌then◌else◌}
use Rattle.std.specs.Bool.{then_some}
use Rattle.std.specs.List.{list_all, last_or}
use Rattle.std.specs.Option.{option_eq}
use Rattle.std.proofs.lemmas.Bool.{eqb-true, eq-eqb}
use Rattle.fab_model.proofs.Lists.Members.{In}

-- ---- tests

pub both_true : (a b : Bool) → (a && b) ≡ true → (a ≡ true) × (b ≡ true)
both_true true b is = (refl, is)
both_true false b is = absurd (cc)

pub and_true : (a b : Bool) → a ≡ true → b ≡ true → (a && b) ≡ true
and_true true b is also = also
and_true false b is also = absurd (cc)

pub second_false : (a b : Bool) → a ≡ true → (a && b) ≡ false → b ≡ false
second_false true b is none = none
second_false false b is none = absurd (cc)

pub not_some : {X : Type 0} (b : Bool) (x : X) → then_some b x ≡ None → b ≡ false
not_some true x is = absurd (cc)
not_some false x is = refl

pub chosen_if : {X : Type 0} (b : Bool) (x y : X) → b ≡ true → (if b then x else y) ≡ x
chosen_if true x y is = refl
chosen_if false x y is = absurd (cc)

pub other_if : {X : Type 0} (b : Bool) (x y : X) → b ≡ false → (if b then x else y) ≡ y
other_if true x y is = absurd (cc)
other_if false x y is = refl

-- ---- options

pub none_behind : {X Y : Type 0} (f : X → Option Y) (o : Option X) (x : X) → o ≡ Some x → option_and_then f o ≡ None → f x ≡ None
none_behind f o x is none = ap (option_and_then f) (sym is) ∙ none

pub not_mapped : {X Y : Type 0} (f : X → Y) (o : Option X) → option_map f o ≡ None → o ≡ None
not_mapped f None is = refl
not_mapped f (Some x) is = absurd (cc)

pub nothing_there : {X : Type 0} (xs : List X) → slice_get xs 0 ≡ None → xs ≡ []
nothing_there [] is = refl
nothing_there (x ∷ xs) is = absurd (cc)

pub same_level : (o : Option ℕ) (n : ℕ) → option_eq nat_eq o (Some n) ≡ true → o ≡ Some n
same_level None n is = absurd (cc)
same_level (Some m) n is = ap Some (eqb-true m n is)

pub same_options : (o p : Option ℕ) → option_eq nat_eq o p ≡ true → o ≡ p
same_options None None is = refl
same_options None (Some n) is = absurd (cc)
same_options (Some m) None is = absurd (cc)
same_options (Some m) (Some n) is = ap Some (eqb-true m n is)

pub options_same : (o p : Option ℕ) → o ≡ p → option_eq nat_eq o p ≡ true
options_same o p is = subst (λ q. option_eq nat_eq o q ≡ true) is (itself o)
  where
    itself : (q : Option ℕ) → option_eq nat_eq q q ≡ true
    itself None = refl
    itself (Some n) = eq-eqb n n refl

-- ---- elements

pub find_fails : {X : Type 0} (p : X → Bool) (xs : List X) → find p xs ≡ None → (x : X) → In x xs → p x ≡ false
find_fails p [] none x within = absurd within
find_fails {X} p (y ∷ ys) none x within = go (find_fails p ys) (p y) refl none within
  where
    go : (find p ys ≡ None → (z : X) → In z ys → p z ≡ false) → (b : Bool) → p y ≡ b → (if b then Some y else find p ys) ≡ None → In x (y ∷ ys) → p x ≡ false
    go rest true is e w = absurd (cc)
    go rest false is e (inl same) = subst (λ (z : X). p z ≡ false) same is
    go rest false is e (inr w) = rest e x w

pub all_pass : {X : Type 0} (p : X → Bool) (xs : List X) → list_all p xs ≡ true → (x : X) → In x xs → p x ≡ true
all_pass p [] all x within = absurd within
all_pass {X} p (y ∷ ys) all x (inl same) = subst (λ (z : X). p z ≡ true) same (both_true (p y) (list_all p ys) all).0
all_pass p (y ∷ ys) all x (inr within) = all_pass p ys (both_true (p y) (list_all p ys) all).1 x within

pub pass_all : {X : Type 0} (p : X → Bool) (xs : List X) → ((x : X) → In x xs → p x ≡ true) → list_all p xs ≡ true
pass_all p [] each = refl
pass_all p (y ∷ ys) each = and_true (p y) (list_all p ys) (each y (inl refl)) (pass_all p ys (λ x within. each x (inr within)))

pub not_all : {X : Type 0} (p : X → Bool) (xs : List X) → list_all p xs ≡ false → (x : X) × In x xs × (p x ≡ false)
not_all p [] none = absurd (cc)
not_all {X} p (y ∷ ys) none = go (not_all p ys) (p y) refl none
  where
    go : (list_all p ys ≡ false → (x : X) × In x ys × (p x ≡ false)) → (b : Bool) → p y ≡ b → (b && list_all p ys) ≡ false → (x : X) × In x (y ∷ ys) × (p x ≡ false)
    go rest true is e = let r = rest e in (r.0, inr r.1, r.2)
    go rest false is e = (y, inl refl, is)

-- the last of some elements is one of them
pub last_there : {X : Type 0} (o : Option X) (xs : List X) (x : X) → In x xs → (y : X) × (last_or o xs ≡ Some y) × In y xs
last_there o [] x within = absurd within
last_there o (z ∷ []) x within = (z, refl, inl refl)
last_there o (z ∷ w ∷ ws) x within = let r = last_there (Some z) (w ∷ ws) w (inl refl) in (r.0, r.1, inr r.2)

-- Facts that hold of finitely many elements, which a list names.
use Rattle.std.proofs.Common.{◌≡◌, ℕ, zero, suc, ◌⊎◌, inl, inr, List, [], ◌∷◌, ◌++◌, refl, sym, ap, subst, arith, Contains, Some, ◌∙◌}
use Rattle.std.specs.Prelude.{slice_get}
use Rattle.std.proofs.lemmas.Option.{none-some, same_Some}
use Rattle.std.proofs.lemmas.List.Elements.{Contains-append_left, Contains-append_right, Contains-append_cases}
use Rattle.fab_graph.proofs.Decided.{Decided}
use Rattle.fab_graph.proofs.Members.{first, later, first_or_later}
use Rattle.fab_tables.specs.VirtualChannels.{Follow}

-- the list has just the elements of which the fact holds
pub record Listed {A : Type 0} (P : A → Type 0) : Type 0 where
  pub list : List A
  pub only : (a : A) → Contains list a → P a
  pub all : (a : A) → P a → Contains list a

no_element : {A : Type 0} (a : A) → ¬ Contains [] a
no_element a has = omega (arith, has.1)

pub none_listed : {A : Type 0} (P : A → Type 0) → ((a : A) → ¬ P a) → Listed P
none_listed P none = record { list = []; only = λ a has. absurd (no_element a has); all = λ a p. absurd (none a p) }

pub one_listed : {A : Type 0} (x : A) → Listed (λ a. x ≡ a)
one_listed {A} x = record { list = x ∷ []; only = only; all = λ a e. subst (λ b. Contains (x ∷ []) b) e (first x []) }
  where
    only : (a : A) → Contains (x ∷ []) a → x ≡ a
    only a has = elim (first_or_later x [] a has) [ inl e ↦ e | inr none ↦ absurd (no_element a none) ]

pub same_listed : {A : Type 0} (P Q : A → Type 0) → ((a : A) → P a → Q a) → ((a : A) → Q a → P a) → Listed P → Listed Q
same_listed P Q to from p = record { list = p.list; only = λ a has. to a (p.only a has); all = λ a q. p.all a (from a q) }

pub either_listed : {A : Type 0} (P Q : A → Type 0) → Listed P → Listed Q → Listed (λ a. P a ⊎ Q a)
either_listed {A} P Q p q = record { list = p.list ++ q.list; only = λ a has. only a (Contains-append_cases p.list q.list a has); all = all }
  where
    only : (a : A) → Contains p.list a ⊎ Contains q.list a → P a ⊎ Q a
    only a (inl has) = inl (p.only a has)
    only a (inr has) = inr (q.only a has)

    all : (a : A) → P a ⊎ Q a → Contains (p.list ++ q.list) a
    all a (inl x) = Contains-append_left p.list q.list a (p.all a x)
    all a (inr x) = Contains-append_right p.list q.list a (q.all a x)

-- where something decided holds
pub where_listed : {A : Type 0} (D : Type 0) (P : A → Type 0) → Decided D → Listed P → Listed (λ a. D × P a)
where_listed D P (inl d) p = same_listed P (λ a. D × P a) (λ a x. (d, x)) (λ a x. x.1) p
where_listed D P (inr refuted) p = none_listed (λ a. D × P a) (λ a x. refuted x.0)

-- for some element of a list
pub some_listed : {A B : Type 0} (P : B → A → Type 0) → ((b : B) → Listed (P b)) → (xs : List B) → Listed (λ a. (b : B) × Contains xs b × P b a)
some_listed P each [] = none_listed _ (λ a s. no_element s.0 s.1)
some_listed {A} {B} P each (x ∷ xs) =
    same_listed (λ a. P x a ⊎ ((b : B) × Contains xs b × P b a)) (λ a. (b : B) × Contains (x ∷ xs) b × P b a) here (λ a s. there a s.0 s.2 (first_or_later x xs s.0 s.1))
    (either_listed (P x) (λ a. (b : B) × Contains xs b × P b a) (each x) (some_listed P each xs))
  where
    here : (a : A) → P x a ⊎ ((b : B) × Contains xs b × P b a) → (b : B) × Contains (x ∷ xs) b × P b a
    here a (inl p) = (x, first x xs, p)
    here a (inr s) = (s.0, later x xs s.0 s.1, s.2)

    there : (a : A) (b : B) → P b a → (x ≡ b) ⊎ Contains xs b → P x a ⊎ ((b : B) × Contains xs b × P b a)
    there a b p (inl e) = inl (subst (λ c. P c a) (sym e) p)
    there a b p (inr has) = inr (b, has, p)

-- the images of a list's elements
pub images_listed : {A B : Type 0} (f : B → A) (xs : List B) → Listed (λ a. (b : B) × Contains xs b × (f b ≡ a))
images_listed f xs = some_listed (λ b a. f b ≡ a) (λ b. one_listed (f b)) xs

-- the images of the pairs that follow each other in a list
module _ {A B : Type 0} (f : B → A) where
  abbrev pub FollowAs : List B → A × A → Type 0
  FollowAs xs x = (b c : B) × Follow xs b c × (f b ≡ x.0) × (f c ≡ x.1)

  here_or_there : (b c : B) (xs : List B) (x : A × A) → ((f b, f c) ≡ x) ⊎ FollowAs (c ∷ xs) x → FollowAs (b ∷ c ∷ xs) x
  here_or_there b c xs x (inl e) = (b, c, (0, refl, refl), ap (λ (y : A × A). y.0) e, ap (λ (y : A × A). y.1) e)
  here_or_there b c xs x (inr s) = (s.0, s.1, (suc s.2.0, s.2.1, s.2.2), s.3, s.4)

  at_place : (b c : B) (xs : List B) (x : A × A) (d e : B) (k : ℕ) → slice_get (b ∷ c ∷ xs) k ≡ Some d → slice_get (b ∷ c ∷ xs) (suc k) ≡ Some e → f d ≡ x.0 → f e ≡ x.1 →
      ((f b, f c) ≡ x) ⊎ FollowAs (c ∷ xs) x
  at_place b c xs x d e zero p q u v =
      let left : f b ≡ x.0 = subst (λ y. f y ≡ x.0) (sym (same_Some b d p)) u in
      let right : f c ≡ x.1 = subst (λ y. f y ≡ x.1) (sym (same_Some c e q)) v in
      inl (ap (λ y. (y, f c)) left ∙ ap (λ y. (x.0, y)) right)
  at_place b c xs x d e (suc k) p q u v = inr (d, e, (k, p, q), u, v)

  single : (b : B) (x : A × A) → ¬ FollowAs (b ∷ []) x
  single b x s = none-some s.1 s.2.2

  pub follow_listed : (xs : List B) → Listed (FollowAs xs)
  follow_listed [] = none_listed (FollowAs []) (λ x s. none-some s.0 s.2.1)
  follow_listed (b ∷ []) = none_listed (FollowAs (b ∷ [])) (single b)
  follow_listed (b ∷ c ∷ xs) =
      same_listed (λ x. ((f b, f c) ≡ x) ⊎ FollowAs (c ∷ xs) x) (FollowAs (b ∷ c ∷ xs)) (here_or_there b c xs) (λ x s. at_place b c xs x s.0 s.1 s.2.0 s.2.1 s.2.2 s.3 s.4)
      (either_listed (λ x. (f b, f c) ≡ x) (FollowAs (c ∷ xs)) (one_listed (f b, f c)) (follow_listed (c ∷ xs)))

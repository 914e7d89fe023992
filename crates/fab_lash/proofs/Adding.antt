-- Dependencies come to a list, each once.
use Rattle.std.proofs.Common.{◌≡◌, ◌+◌, ◌<◌, ◌≤◌, ◌==◌, ◌⊎◌, inl, inr, Bool, true, false, cond, List, [], ◌∷◌, ◌++◌, length, take, refl, sym, ◌∙◌, ap, subst, arith, Contains, length-append}
use Rattle.std.proofs.lemmas.Bool.{cases_lt, cond-true, cond-false, eq-eqb, ne_eqb}
use Rattle.std.proofs.lemmas.List.{append-nil, append_assoc, take_at}
use Rattle.std.proofs.lemmas.List.Elements.{Contains-append_left, Contains-append_right, Contains-append_cases}
use Rattle.std.proofs.lemmas.List.Sums.{sum_by_push}
use Rattle.fab_graph.proofs.Members.{first, later, first_or_later}
use Rattle.fab_depgraph.specs.declared.dep.Dep.{Dep}
use Rattle.fab_depgraph.specs.Listed.{times_listed, same_dep}
use Rattle.fab_depgraph.proofs.Listing.Added.{one_if, same_is, times_listed_some}
use Rattle.fab_lash.specs.Adding.{with_dep, with_deps, ListsOnce}

-- ---- one dependency

pub lacking : (xs : List Dep) (d : Dep) → times_listed xs d ≡ 0 → with_dep xs d ≡ xs ++ d ∷ []
lacking xs d none = cond-true (times_listed xs d == 0) (xs ++ d ∷ []) xs (eq-eqb (times_listed xs d) 0 none)

pub present : (xs : List Dep) (d : Dep) → 0 < times_listed xs d → with_dep xs d ≡ xs
present xs d some = cond-false (times_listed xs d == 0) (xs ++ d ∷ []) xs (ne_eqb (times_listed xs d) 0 (λ none. omega (arith, some, none)))

lacks_or_has : (xs : List Dep) (d : Dep) → (times_listed xs d ≡ 0) ⊎ (0 < times_listed xs d)
lacks_or_has xs d = elim (cases_lt 0 (times_listed xs d)) [ inl some ↦ inr some | inr none ↦ inl (omega (arith, none)) ]

one_among : (xs : List Dep) (d x : Dep) → Contains (with_dep xs d) x → Contains xs x ⊎ (d ≡ x)
one_among xs d x has = elim (lacks_or_has xs d) [
  | inr some ↦ inl (subst (λ (ys : List Dep). Contains ys x) (present xs d some) has)
  | inl none ↦ elim (Contains-append_cases xs (d ∷ []) x (subst (λ (ys : List Dep). Contains ys x) (lacking xs d none) has)) [
    | inl old ↦ inl old
    | inr new ↦ elim (first_or_later d [] x new) [ inl same ↦ inr same | inr nothing ↦ absurd (omega (arith, nothing.1)) ]
  ]
]

one_stays : (xs : List Dep) (d x : Dep) → Contains xs x → Contains (with_dep xs d) x
one_stays xs d x has = elim (lacks_or_has xs d) [
  | inr some ↦ subst (λ (ys : List Dep). Contains ys x) (sym (present xs d some)) has
  | inl none ↦ subst (λ (ys : List Dep). Contains ys x) (sym (lacking xs d none)) (Contains-append_left xs (d ∷ []) x has)
]

one_there : (xs : List Dep) (d : Dep) → Contains (with_dep xs d) d
one_there xs d = elim (lacks_or_has xs d) [
  | inr some ↦ subst (λ (ys : List Dep). Contains ys d) (sym (present xs d some)) (times_listed_some xs d some)
  | inl none ↦ subst (λ (ys : List Dep). Contains ys d) (sym (lacking xs d none)) (Contains-append_right xs (d ∷ []) d (first d []))
]

one_once : (xs : List Dep) (d : Dep) → ListsOnce xs → ListsOnce (with_dep xs d)
one_once xs d once = elim (lacks_or_has xs d) [
  | inr some ↦ subst (λ (ys : List Dep). ListsOnce ys) (sym (present xs d some)) once
  | inl none ↦ subst (λ (ys : List Dep). ListsOnce ys) (sym (lacking xs d none)) (λ e. pushed none e (same_dep d e) (λ same. same_is d e same) (sum_by_push (λ (x : Dep). cond (same_dep x e) 1 0) xs d))
]
  where
    pushed : times_listed xs d ≡ 0 → (e : Dep) (b : Bool) → (b ≡ true → d ≡ e) → times_listed (xs ++ d ∷ []) e ≡ times_listed xs e + one_if b → times_listed (xs ++ d ∷ []) e ≤ 1
    pushed none e true same count = omega (arith, count, subst (λ (x : Dep). times_listed xs x ≡ 0) (same refl) none)
    pushed none e false same count = omega (arith, count, once e)

-- ---- several

-- what stands in the list stood there or is one of them
pub deps_among : (ds xs : List Dep) (x : Dep) → Contains (with_deps xs ds) x → Contains xs x ⊎ Contains ds x
deps_among [] xs x has = inl has
deps_among (d ∷ ds) xs x has = elim (deps_among ds (with_dep xs d) x has) [
  | inr more ↦ inr (later d ds x more)
  | inl there ↦ elim (one_among xs d x there) [ inl old ↦ inl old | inr same ↦ inr (subst (λ (y : Dep). Contains (d ∷ ds) y) same (first d ds)) ]
]

pub old_stay : (ds xs : List Dep) (x : Dep) → Contains xs x → Contains (with_deps xs ds) x
old_stay [] xs x has = has
old_stay (d ∷ ds) xs x has = old_stay ds (with_dep xs d) x (one_stays xs d x has)

pub deps_there : (ds xs : List Dep) (x : Dep) → Contains ds x → Contains (with_deps xs ds) x
deps_there [] xs x has = absurd (omega (arith, has.1))
deps_there (d ∷ ds) xs x has = elim (first_or_later d ds x has) [
  | inl same ↦ subst (λ (y : Dep). Contains (with_deps (with_dep xs d) ds) y) same (old_stay ds (with_dep xs d) d (one_there xs d))
  | inr more ↦ deps_there ds (with_dep xs d) x more
]

pub once_nothing : ListsOnce []
once_nothing d = omega arith

pub deps_once : (ds xs : List Dep) → ListsOnce xs → ListsOnce (with_deps xs ds)
deps_once [] xs once = once
deps_once (d ∷ ds) xs once = deps_once ds (with_dep xs d) (one_once xs d once)

-- they come behind what stood there
behind : (ds xs : List Dep) → (more : List Dep) × (with_deps xs ds ≡ xs ++ more)
behind [] xs = ([], sym (append-nil xs))
behind (d ∷ ds) xs = go (behind ds (with_dep xs d)) (lacks_or_has xs d)
  where
    go : (more : List Dep) × (with_deps (with_dep xs d) ds ≡ with_dep xs d ++ more) → (times_listed xs d ≡ 0) ⊎ (0 < times_listed xs d) → (more : List Dep) × (with_deps (with_dep xs d) ds ≡ xs ++ more)
    go rest (inr some) = (rest.0, rest.1 ∙ ap (λ (ys : List Dep). ys ++ rest.0) (present xs d some))
    go rest (inl none) = (d ∷ rest.0, rest.1 ∙ ap (λ (ys : List Dep). ys ++ rest.0) (lacking xs d none) ∙ append_assoc xs (d ∷ []) rest.0)

pub cut_back : (ds xs : List Dep) → take (length xs) (with_deps xs ds) ≡ xs
cut_back ds xs = let more : (more : List Dep) × (with_deps xs ds ≡ xs ++ more) = behind ds xs in ap (λ (ys : List Dep). take (length xs) ys) more.1 ∙ take_at xs more.0 (length xs) refl

pub no_shorter : (ds xs : List Dep) → length xs ≤ length (with_deps xs ds)
no_shorter ds xs = let more : (more : List Dep) × (with_deps xs ds ≡ xs ++ more) = behind ds xs in omega (arith, ap (length {A = Dep}) more.1, length-append xs more.0)

-- The list of a tree's dependencies: their graph, how many they are, and what a settled switch adds to them.
use Rattle.std.proofs.Common.{◌≡◌, ◌≢◌, ℕ, zero, suc, ◌+◌, ◌<◌, ◌≤◌, ◌⊎◌, inl, inr, List, [], ◌∷◌, ◌++◌, length, Some, None, Option, refl, sym, ◌∙◌, ap, subst, arith, append_assoc, length-append}
use Rattle.std.specs.Prelude.{Contains, flat_map, IsPermutation}
use Rattle.std.specs.List.{range_with_len}
use Rattle.std.proofs.lemmas.List.{length-set}
use Rattle.std.proofs.lemmas.List.Elements.{Contains-append_left, Contains-append_right, Contains-append_cases}
use Rattle.std.proofs.lemmas.List.Sorted.{Contains-permutation, IsPermutation-sym, IsPermutation-trans, IsPermutation-append_left, IsPermutation-append_right, IsPermutation-append_comm}
use Rattle.fab_graph.specs.Walks.{IsAcyclic, HasClosedWalk, SameGraph}
use Rattle.fab_graph.proofs.Parts.{part_acyclic}
use Rattle.fab_graph.proofs.Same.{same_acyclic}
use Rattle.fab_model.specs.Topology.{Topology}
use Rattle.fab_model.specs.WellFormed.{IsWellFormed}
use Rattle.fab_tables.specs.Route.{tip}
use Rattle.fab_tables.specs.Trees.{next}
use Rattle.fab_tables.specs.TreeWalks.{DependsInTree}
use Rattle.fab_depgraph.specs.declared.dep.Dep.{Dep}
use Rattle.fab_depgraph.specs.Listed.{dep_of, IsListed}
use Rattle.fab_nue.specs.Search.{tail, with_channel, IsSettled, ClosesNone}
use Rattle.fab_nue.specs.Added.{dep_behind, dep_made, deps_of_tree}
use Rattle.fab_nue.proofs.Searching.Growing.{same_or_other}
use Rattle.fab_tables.proofs.Paths.TreeWalks.{next_below}
use Rattle.fab_nue.proofs.Searching.SearchTrees.{LeadsTree, settled_on, unsettled_none}
use Rattle.fab_nue.proofs.Searching.Settling.{IsLeaf, gives_it, leaves_others}

-- ---- elements

pub in_flat_map : (f : ℕ → List Dep) (xs : List ℕ) (d : Dep) → Contains (flat_map f xs) d → (x : ℕ) × Contains (f x) d
in_flat_map f [] d c = absurd (omega (arith, c.1))
in_flat_map f (x ∷ xs) d c = elim (Contains-append_cases (f x) (flat_map f xs) d c) [ inl here ↦ (x, here) | inr there ↦ in_flat_map f xs d there ]

in_range : (f : ℕ → List Dep) (a n s : ℕ) (d : Dep) → a ≤ s → s < a + n → Contains (f s) d → Contains (flat_map f (range_with_len a n)) d
in_range f a zero s d low high c = absurd (omega (arith, low, high))
in_range f a (suc n) s d low high c = elim (same_or_other a s) [
  | inl e ↦ Contains-append_left (f a) (flat_map f (range_with_len (a + 1) n)) d (subst (λ x. Contains (f x) d) (sym e) c)
  | inr other ↦ Contains-append_right (f a) (flat_map f (range_with_len (a + 1) n)) d (in_range f (a + 1) n s d (omega (arith, low, other)) (omega (arith, high)) c)
]

-- ---- the graph of the list is that of the tree's dependencies

the_only : (d e : Dep) → Contains (d ∷ []) e → d ≡ e
the_only d e (zero, h, is) = is
the_only d e (suc k, h, is) = absurd (omega (arith, h))

pub made_depends : (t : Topology) (tree : List (Option ℕ)) (s a b : ℕ) → Contains (dep_made t tree (next tree s)) (dep_of a b) → DependsInTree t tree a b
made_depends t tree s a b c = on (next tree s) refl c
  where
    behind : (x : ℕ) → next tree s ≡ Some x → (p : Option ℕ) → next tree (tip t x) ≡ p → Contains (dep_behind x p) (dep_of a b) → DependsInTree t tree a b
    behind x at None is c = absurd (omega (arith, c.1))
    behind x at (Some y) is c =
        let same : dep_of x y ≡ dep_of a b = the_only (dep_of x y) (dep_of a b) c in
        let first : x ≡ a = ap (λ (d : Dep). d.first.0) same in
        let second : y ≡ b = ap (λ (d : Dep). d.second.0) same in
        (s, at ∙ ap Some first, ap (λ z. next tree (tip t z)) (sym first) ∙ is ∙ ap Some second)

    on : (o : Option ℕ) → next tree s ≡ o → Contains (dep_made t tree o) (dep_of a b) → DependsInTree t tree a b
    on None is c = absurd (omega (arith, c.1))
    on (Some x) is c = behind x is (next tree (tip t x)) refl c

depends_made : (t : Topology) (tree : List (Option ℕ)) (a b : ℕ) → (d : DependsInTree t tree a b) → Contains (dep_made t tree (next tree d.0)) (dep_of a b)
depends_made t tree a b d =
    subst (λ o. Contains (dep_made t tree o) (dep_of a b)) (sym d.1) (subst (λ o. Contains (dep_behind a o) (dep_of a b)) (sym d.2) (0, omega arith, refl))

pub tree_listed : (t : Topology) (tree : List (Option ℕ)) → length tree ≡ length t.switches → SameGraph (IsListed (deps_of_tree t tree)) (λ (c d : ℕ). DependsInTree t tree c d)
tree_listed t tree each a b = (to, from)
  where
    to : IsListed (deps_of_tree t tree) a b → DependsInTree t tree a b
    to c =
        let at : (s : ℕ) × Contains (dep_made t tree (next tree s)) (dep_of a b) = in_flat_map (λ s. dep_made t tree (next tree s)) (range_with_len 0 (length t.switches)) (dep_of a b) c in
        made_depends t tree at.0 a b at.1

    from : DependsInTree t tree a b → IsListed (deps_of_tree t tree) a b
    from d = in_range (λ s. dep_made t tree (next tree s)) 0 (length t.switches) d.0 (dep_of a b) (omega arith) (omega (arith, each, next_below tree d.0 a d.1)) (depends_made t tree a b d)

-- those in use and, behind them, those of the tree in some order
pub union_listed : (t : Topology) (used added : List Dep) (tree : List (Option ℕ)) → length tree ≡ length t.switches → IsPermutation added (deps_of_tree t tree) →
    SameGraph (IsListed (used ++ added)) (λ (c d : ℕ). IsListed used c d ⊎ DependsInTree t tree c d)
union_listed t used added tree each once a b = (to, from)
  where
    to : IsListed (used ++ added) a b → IsListed used a b ⊎ DependsInTree t tree a b
    to c = elim (Contains-append_cases used added (dep_of a b) c) [
      | inl old ↦ inl old
      | inr new ↦ inr ((tree_listed t tree each a b).0 (Contains-permutation added (deps_of_tree t tree) (dep_of a b) once new))
    ]

    from : IsListed used a b ⊎ DependsInTree t tree a b → IsListed (used ++ added) a b
    from (inl old) = Contains-append_left used added (dep_of a b) old
    from (inr d) =
        Contains-append_right used added (dep_of a b)
        (Contains-permutation (deps_of_tree t tree) added (dep_of a b) (IsPermutation-sym added (deps_of_tree t tree) once) ((tree_listed t tree each a b).1 d))

-- so the list is acyclic exactly where the tree closes no walk
pub listed_closes_none : (t : Topology) (used added : List Dep) (tree : List (Option ℕ)) → length tree ≡ length t.switches → IsPermutation added (deps_of_tree t tree) →
    (IsAcyclic (IsListed (used ++ added)) → ClosesNone t (IsListed used) tree) × (ClosesNone t (IsListed used) tree → IsAcyclic (IsListed (used ++ added)))
listed_closes_none t used added tree each once = (
  same_acyclic (IsListed (used ++ added)) (λ (c d : ℕ). IsListed used c d ⊎ DependsInTree t tree c d) same,
  same_acyclic (λ (c d : ℕ). IsListed used c d ⊎ DependsInTree t tree c d) (IsListed (used ++ added)) (λ a b. ((same a b).1, (same a b).0)),
)
  where
    same : SameGraph (IsListed (used ++ added)) (λ (c d : ℕ). IsListed used c d ⊎ DependsInTree t tree c d)
    same = union_listed t used added tree each once

-- where some of a tree's dependencies close a walk with those in use, the tree does
pub some_close : (t : Topology) (used some : List Dep) (tree : List (Option ℕ)) → length tree ≡ length t.switches →
    ((a b : ℕ) → IsListed some a b → IsListed (deps_of_tree t tree) a b) → HasClosedWalk (IsListed (used ++ some)) → ¬ ClosesNone t (IsListed used) tree
some_close t used some tree each among closed none =
    part_acyclic (IsListed (used ++ some)) (λ (c d : ℕ). IsListed used c d ⊎ DependsInTree t tree c d)
    (λ a b c. elim (Contains-append_cases used some (dep_of a b) c) [ inl old ↦ inl old | inr new ↦ inr ((tree_listed t tree each a b).0 (among a b new)) ]) none closed.0 closed.1

-- ---- how many they are

pub one_made : (t : Topology) (tree : List (Option ℕ)) (o : Option ℕ) → length (dep_made t tree o) ≤ 1
one_made t tree None = omega arith
one_made t tree (Some c) = one_behind (next tree (tip t c))
  where
    one_behind : (o : Option ℕ) → length (dep_behind c o) ≤ 1
    one_behind None = omega arith
    one_behind (Some d) = omega arith

pub few : (f : ℕ → List Dep) → ((s : ℕ) → length (f s) ≤ 1) → (a n : ℕ) → length (flat_map f (range_with_len a n)) ≤ n
few f one a zero = omega arith
few f one a (suc n) = omega (arith, length-append (f a) (flat_map f (range_with_len (a + 1) n)), one a, few f one (a + 1) n)

-- no more than the switches
pub few_deps : (t : Topology) (tree : List (Option ℕ)) → length (deps_of_tree t tree) ≤ length t.switches
few_deps t tree = few (λ s. dep_made t tree (next tree s)) (λ s. one_made t tree (next tree s)) 0 (length t.switches)

-- ---- a switch that settles adds its dependency, if it has one

module _ (f g : ℕ → List Dep) (v : ℕ) (none : f v ≡ []) (same : (s : ℕ) → s ≢ v → g s ≡ f s) where
  same_beyond : (a n : ℕ) → v < a → flat_map g (range_with_len a n) ≡ flat_map f (range_with_len a n)
  same_beyond a zero h = refl
  same_beyond a (suc n) h =
      ap (λ xs. xs ++ flat_map g (range_with_len (a + 1) n)) (same a (λ e. omega (arith, e, h))) ∙ ap (λ xs. f a ++ xs) (same_beyond (a + 1) n (omega (arith, h)))

  one_more : (a n : ℕ) → a ≤ v → v < a + n → IsPermutation (flat_map f (range_with_len a n) ++ g v) (flat_map g (range_with_len a n))
  one_more a zero low high = absurd (omega (arith, low, high))
  one_more a (suc n) low high = elim (same_or_other a v) [
    | inl e ↦
        (let nothing : f a ≡ [] = ap f e ∙ none in
        let left : f a ++ flat_map f (range_with_len (a + 1) n) ≡ flat_map f (range_with_len (a + 1) n) = ap (λ xs. xs ++ flat_map f (range_with_len (a + 1) n)) nothing in
        let right : g v ++ flat_map f (range_with_len (a + 1) n) ≡ g a ++ flat_map g (range_with_len (a + 1) n) =
        ap (λ x. g x ++ flat_map f (range_with_len (a + 1) n)) (sym e) ∙ ap (λ xs. g a ++ xs) (sym (same_beyond (a + 1) n (omega (arith, e)))) in
        subst (λ xs. IsPermutation (xs ++ g v) (g a ++ flat_map g (range_with_len (a + 1) n))) (sym left)
        (subst (λ ys. IsPermutation (flat_map f (range_with_len (a + 1) n) ++ g v) ys) right (IsPermutation-append_comm (flat_map f (range_with_len (a + 1) n)) (g v))))
    | inr other ↦
        (let rest : IsPermutation (flat_map f (range_with_len (a + 1) n) ++ g v) (flat_map g (range_with_len (a + 1) n)) = one_more (a + 1) n (omega (arith, low, other)) (omega (arith, high)) in
        subst (λ xs. IsPermutation xs (g a ++ flat_map g (range_with_len (a + 1) n))) (sym (append_assoc (f a) (flat_map f (range_with_len (a + 1) n)) (g v)))
        (subst (λ xs. IsPermutation (f a ++ (flat_map f (range_with_len (a + 1) n) ++ g v)) (xs ++ flat_map g (range_with_len (a + 1) n))) (sym (same a other))
        (IsPermutation-append_right (f a) (flat_map f (range_with_len (a + 1) n) ++ g v) (flat_map g (range_with_len (a + 1) n)) rest)))
  ]

pub settled_listed : (t : Topology) (used : ℕ → ℕ → Type 0) (to : ℕ) (old : List (Option ℕ)) (c : ℕ) → IsWellFormed t → LeadsTree t used to old → IsLeaf t to old c →
    IsPermutation (deps_of_tree t old ++ dep_behind c (next old (tip t c))) (deps_of_tree t (with_channel t old c))
settled_listed t used to old c good x leaf =
    subst (λ xs. IsPermutation (deps_of_tree t old ++ xs) (deps_of_tree t (with_channel t old c))) made
    (one_more (λ s. dep_made t old (next old s)) (λ s. dep_made t (with_channel t old c) (next (with_channel t old c) s)) (tail t c)
    (ap (dep_made t old) (unsettled_none to old (tail t c) leaf.from)) same 0 (length t.switches) (omega arith) (omega (arith, each_below)))
  where
    each_below : tail t c < length t.switches
    each_below = subst (λ n. tail t c < n) x.is_tree.each_switch below
      where
        below : tail t c < length old
        below = subst (λ n. tail t c < n) (length-set old (tail t c) (Some c)) (next_below (with_channel t old c) (tail t c) c (gives_it t used to old c good x leaf))

    tip_stays : (d : ℕ) → IsSettled to old (tip t d) → next (with_channel t old c) (tip t d) ≡ next old (tip t d)
    tip_stays d settled = leaves_others t used to old c good x leaf (tip t d) (λ e. leaf.from (subst (IsSettled to old) e settled))

    made : dep_made t (with_channel t old c) (next (with_channel t old c) (tail t c)) ≡ dep_behind c (next old (tip t c))
    made = ap (dep_made t (with_channel t old c)) (gives_it t used to old c good x leaf) ∙ ap (dep_behind c) (tip_stays c leaf.into)

    own : (s : ℕ) (o : Option ℕ) → next old s ≡ o → dep_made t (with_channel t old c) o ≡ dep_made t old o
    own s None is = refl
    own s (Some d) is = ap (dep_behind d) (tip_stays d (settled_on t used to old s d x is))

    same : (s : ℕ) → s ≢ tail t c → dep_made t (with_channel t old c) (next (with_channel t old c) s) ≡ dep_made t old (next old s)
    same s other = ap (dep_made t (with_channel t old c)) (leaves_others t used to old c good x leaf s other) ∙ own s (next old s) refl

-- Behind those of the tree stands the dependency of a switch that would settle: so its candidate closes no walk exactly where the list doesn't.
module _ (t : Topology) (used added : List Dep) (to : ℕ) (old : List (Option ℕ)) (c : ℕ) (good : IsWellFormed t) (x : LeadsTree t (IsListed used) to old) (leaf : IsLeaf t to old c)
    (once : IsPermutation added (deps_of_tree t old)) where
  pub settled_once : IsPermutation (added ++ dep_behind c (next old (tip t c))) (deps_of_tree t (with_channel t old c))
  settled_once =
      IsPermutation-trans (added ++ dep_behind c (next old (tip t c))) (deps_of_tree t old ++ dep_behind c (next old (tip t c))) (deps_of_tree t (with_channel t old c))
      (IsPermutation-append_left (dep_behind c (next old (tip t c))) added (deps_of_tree t old) once) (settled_listed t (IsListed used) to old c good x leaf)

  each_switch : length (with_channel t old c) ≡ length t.switches
  each_switch = length-set old (tail t c) (Some c) ∙ x.is_tree.each_switch

  pub candidate_listed : (IsAcyclic (IsListed ((used ++ added) ++ dep_behind c (next old (tip t c)))) → ClosesNone t (IsListed used) (with_channel t old c))
      × (ClosesNone t (IsListed used) (with_channel t old c) → IsAcyclic (IsListed ((used ++ added) ++ dep_behind c (next old (tip t c)))))
  candidate_listed =
      subst (λ (xs : List Dep). (IsAcyclic (IsListed xs) → ClosesNone t (IsListed used) (with_channel t old c)) × (ClosesNone t (IsListed used) (with_channel t old c) → IsAcyclic (IsListed xs)))
      (sym (append_assoc used added (dep_behind c (next old (tip t c)))))
      (listed_closes_none t used (added ++ dep_behind c (next old (tip t c))) (with_channel t old c) each_switch settled_once)

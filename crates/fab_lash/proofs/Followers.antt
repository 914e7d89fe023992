-- The dependencies of a route come to a list hop after hop.
use Rattle.std.proofs.Common.{◌≡◌, ℕ, zero, suc, ◌++◌, ◌⊎◌, inl, inr, List, [], ◌∷◌, sym, ◌∙◌, ap, subst, arith, Some, None, Option}
use Rattle.std.proofs.lemmas.List.{append_assoc}
use Rattle.std.specs.Prelude.{slice_get, Contains}
use Rattle.std.proofs.lemmas.List.Elements.{Contains-append_left, Contains-append_right, Contains-append_cases}
use Rattle.std.proofs.lemmas.Option.{none-some, same_Some}
use Rattle.fab_graph.specs.Walks.{SameGraph}
use Rattle.fab_graph.proofs.Members.{first, later, first_or_later}
use Rattle.fab_model.specs.declared.rows.ChannelId.{ChannelId}
use Rattle.fab_model.specs.Topology.{Topology}
use Rattle.fab_tables.specs.Entries.{Entries}
use Rattle.fab_tables.specs.VirtualChannels.{Follow}
use Rattle.fab_depgraph.specs.declared.dep.Dep.{Dep}
use Rattle.fab_depgraph.specs.Listed.{dep_of, IsListed}
use Rattle.fab_lash.specs.Pairs.{DependsOnPair}
use Rattle.fab_lash.specs.Followers.{followers, followers_between, pair_dependencies}

-- the followers that are left, where a channel came before
abbrev pub followers_after : Option ChannelId → List ℕ → List Dep
followers_after None rest = followers rest
followers_after (Some before) rest = followers (before.0 ∷ rest)

pub first_follower : (old new all : List Dep) (c : ChannelId) (cs rest : List ℕ) → cs ≡ c.0 ∷ rest → old ++ followers_after None cs ≡ all → new ≡ old → new ++ followers_after (Some c) rest ≡ all
first_follower old new all c cs rest at so_far same = ap (λ es. es ++ followers (c.0 ∷ rest)) same ∙ ap (λ xs. old ++ followers xs) (sym at) ∙ so_far

pub next_follower : (old new all : List Dep) (before c : ChannelId) (cs rest : List ℕ) → cs ≡ c.0 ∷ rest → old ++ followers_after (Some before) cs ≡ all → new ≡ old ++ dep_of before.0 c.0 ∷ [] →
    new ++ followers_after (Some c) rest ≡ all
next_follower old new all before c cs rest at so_far added =
    ap (λ es. es ++ followers (c.0 ∷ rest)) added ∙ append_assoc old (dep_of before.0 c.0 ∷ []) (followers (c.0 ∷ rest)) ∙ ap (λ xs. old ++ followers (before.0 ∷ xs)) (sym at) ∙ so_far

pub no_follower : (before : Option ChannelId) (old all : List Dep) (rest : List ℕ) → rest ≡ [] → old ++ followers_after before rest ≡ all → old ++ [] ≡ all
no_follower None old all rest none so_far = ap (λ xs. old ++ followers xs) (sym none) ∙ so_far
no_follower (Some c) old all rest none so_far = ap (λ xs. old ++ followers (c.0 ∷ xs)) (sym none) ∙ so_far

first_follow : (a b : ℕ) (rest : List ℕ) (c d : ℕ) → (Contains (followers (b ∷ rest)) (dep_of c d) → Follow (b ∷ rest) c d) →
    (dep_of a b ≡ dep_of c d) ⊎ Contains (followers (b ∷ rest)) (dep_of c d) → Follow (a ∷ b ∷ rest) c d
first_follow a b rest c d behind (inl here) = (0, ap (λ (p : Dep). Some p.first.0) here, ap (λ (p : Dep). Some p.second.0) here)
first_follow a b rest c d behind (inr there) = let f : Follow (b ∷ rest) c d = behind there in (suc f.0, f.1, f.2)

-- followers are what follows each other
pub follows : (cs : List ℕ) (c d : ℕ) → Contains (followers cs) (dep_of c d) → Follow cs c d
follows [] c d x = absurd (omega (arith, x.1))
follows (a ∷ []) c d x = absurd (omega (arith, x.1))
follows (a ∷ b ∷ rest) c d x =
    first_follow a b rest c d (λ y. follows (b ∷ rest) c d y) (first_or_later (dep_of a b) (followers (b ∷ rest)) (dep_of c d) x)

stands : (cs : List ℕ) (c d k : ℕ) → slice_get cs k ≡ Some c → slice_get cs (suc k) ≡ Some d → Contains (followers cs) (dep_of c d)
stands [] c d k x y = absurd (none-some c x)
stands (a ∷ []) c d zero x y = absurd (none-some d y)
stands (a ∷ []) c d (suc k) x y = absurd (none-some c x)
stands (a ∷ b ∷ rest) c d zero x y =
    subst (λ p. Contains (dep_of a b ∷ followers (b ∷ rest)) p) (ap (λ n. dep_of n b) (same_Some a c x) ∙ ap (λ n. dep_of c n) (same_Some b d y)) (first (dep_of a b) (followers (b ∷ rest)))
stands (a ∷ b ∷ rest) c d (suc k) x y = later (dep_of a b) (followers (b ∷ rest)) (dep_of c d) (stands (b ∷ rest) c d k x y)

pub stand : (cs : List ℕ) (c d : ℕ) → Follow cs c d → Contains (followers cs) (dep_of c d)
stand cs c d f = stands cs c d f.0 f.1 f.2

-- so the list has the dependencies of the pair and no other
pub lists_pair : (t : Topology) (e : Entries) (low high : ℕ) → SameGraph (IsListed (pair_dependencies t e low high)) (λ (c d : ℕ). DependsOnPair t e low high c d)
lists_pair t e low high c d = (λ x. to (Contains-append_cases there back (dep_of c d) x), from)
  where
    there : List Dep
    there = followers_between t e low high

    back : List Dep
    back = followers_between t e high low

    to : Contains there (dep_of c d) ⊎ Contains back (dep_of c d) → DependsOnPair t e low high c d
    to (inl x) = inl (follows _ c d x)
    to (inr x) = inr (follows _ c d x)

    from : DependsOnPair t e low high c d → Contains (there ++ back) (dep_of c d)
    from (inl f) = Contains-append_left there back (dep_of c d) (stand _ c d f)
    from (inr f) = Contains-append_right there back (dep_of c d) (stand _ c d f)

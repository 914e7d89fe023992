-- A switch has one walk along a tree, which is no longer than the tree has switches: `walk_of` tells it whole.
use Rattle.std.proofs.Common.{◌≡◌, ℕ, zero, suc, ◌<◌, ◌≤◌, List, [], ◌∷◌, length, Some, None, Option, refl, sym, ◌∙◌, ap, subst, inl, inr, arith}
use Rattle.std.proofs.lemmas.Bool.{cases_lt}
use Rattle.std.proofs.lemmas.Option.{same_Some, none-some}
use Rattle.std.proofs.lemmas.List.{get_or_past}
use Rattle.fab_graph.proofs.Counting.{counted_below}
use Rattle.fab_model.specs.Topology.{Topology}
use Rattle.fab_model.specs.WellFormed.{IsWellFormed}
use Rattle.fab_tables.specs.Route.{tip_of_row, tip}
use Rattle.fab_tables.specs.Trees.{next, LeavesSwitch}
use Rattle.fab_tables.specs.TreeWalks.{GoesAlong, IsTree, after_channel, walk_within, walk_of}
use Rattle.fab_tables.proofs.Verdicts.CertifiedLaws.{contains_of}
use Rattle.fab_tables.proofs.Joined.Tips.{tip_below}

-- from a switch on, two walks are one
pub one_walk : (t : Topology) (tree : List (Option ℕ)) (s : ℕ) (xs ys : List ℕ) → GoesAlong t tree s xs → GoesAlong t tree s ys → xs ≡ ys
one_walk t tree s [] [] x y = refl
one_walk t tree s [] (d ∷ ys) x y = absurd (none-some d (sym x ∙ y.0))
one_walk t tree s (c ∷ xs) [] x y = absurd (none-some c (sym y ∙ x.0))
one_walk t tree s (c ∷ xs) (d ∷ ys) x y =
    let same : c ≡ d = same_Some c d (sym x.0 ∙ y.0) in
    ap (λ e. e ∷ xs) same ∙ ap (λ zs. d ∷ zs) (one_walk t tree (tip t d) xs ys (subst (λ e. GoesAlong t tree (tip t e) xs) same x.1) y.1)

-- a switch that has a channel is one of the tree's
pub next_below : (tree : List (Option ℕ)) (s c : ℕ) → next tree s ≡ Some c → s < length tree
next_below tree s c h = elim (cases_lt s (length tree)) [ inl less ↦ less | inr past ↦ absurd (none-some c (sym (get_or_past tree s None past) ∙ h)) ]

-- the walks of so many channels, and one more, from a switch
abbrev HasWalk : Topology → List (Option ℕ) → ℕ → ℕ → Type 0
HasWalk t tree s n = (cs : List ℕ) × GoesAlong t tree s cs × (length cs ≡ suc n)

-- so a walk has no more channels than there are switches
module _ (t : Topology) (tree : List (Option ℕ)) where
  leaves_one : (s n : ℕ) (cs : List ℕ) → GoesAlong t tree s cs → length cs ≡ suc n → s < length tree
  leaves_one s n [] goes long = absurd (omega (arith, long))
  leaves_one s n (c ∷ cs) goes long = next_below tree s c goes.0

  walk_rest : (s n : ℕ) (cs : List ℕ) → GoesAlong t tree s cs → length cs ≡ suc (suc n) → (q : ℕ) × HasWalk t tree q n
  walk_rest s n [] goes long = absurd (omega (arith, long))
  walk_rest s n (c ∷ cs) goes long = (tip t c, (cs, goes.1, omega (arith, long)))

  one_length : (s m n : ℕ) → HasWalk t tree s m → HasWalk t tree s n → m ≡ n
  one_length s m n x y = omega (arith, x.2, y.2, ap (λ (zs : List ℕ). length zs) (one_walk t tree s x.0 y.0 x.1 y.1))

  pub walk_short : (s : ℕ) (cs : List ℕ) → GoesAlong t tree s cs → length cs ≤ length tree
  walk_short s [] goes = omega arith
  walk_short s (c ∷ cs) goes = omega (
    arith,
    counted_below (HasWalk t tree) (length tree) one_length (λ q n x. leaves_one q n x.0 x.1 x.2)
        (λ q n x. walk_rest q n x.0 x.1 x.2) (length cs) s (c ∷ cs, goes, refl),
  )

-- the channels of a tree of a fabric lead to switches of the fabric
pub next_tip_below : (t : Topology) → IsWellFormed t → (tree : List (Option ℕ)) → IsTree t tree → (s c : ℕ) → next tree s ≡ Some c → tip t c < length t.switches
next_tip_below t good tree is s c has =
    let leaves : LeavesSwitch t c s = is.leaves s c has in
    subst (λ x. x < length t.switches) (sym (ap tip_of_row leaves.1)) (tip_below t good leaves.0 (contains_of t.channels c leaves.0 leaves.1))

-- so a walk from one of them has fewer channels than there are switches: the last switch has none
pub walk_below : (t : Topology) → IsWellFormed t → (tree : List (Option ℕ)) → IsTree t tree → (s : ℕ) (cs : List ℕ) → s < length t.switches → GoesAlong t tree s cs → length cs < length t.switches
walk_below t good tree is s cs low goes = counted_below Walks (length t.switches)
    (λ q m n x y. sym x.1.2 ∙ ap (λ (zs : List ℕ). length zs) (one_walk t tree q x.1.0 y.1.0 x.1.1 y.1.1) ∙ y.1.2) (λ q n x. x.0)
    (λ q n x. rest q n x.1.0 x.1.1 x.1.2) (length cs) s (low, (cs, goes, refl))
  where
    Walks : ℕ → ℕ → Type 0
    Walks q n = (q < length t.switches) × ((ds : List ℕ) × GoesAlong t tree q ds × (length ds ≡ n))

    rest : (q n : ℕ) (ds : List ℕ) → GoesAlong t tree q ds → length ds ≡ suc n → (x : ℕ) × Walks x n
    rest q n [] along long = absurd (omega (arith, long))
    rest q n (d ∷ ds) along long = (tip t d, (next_tip_below t good tree is q d along.0, (ds, along.1, omega (arith, long))))

pub walk_whole : (t : Topology) (tree : List (Option ℕ)) (n s : ℕ) (cs : List ℕ) → length cs ≤ n → GoesAlong t tree s cs → walk_within t tree n s ≡ cs
walk_whole t tree zero s [] h goes = refl
walk_whole t tree zero s (c ∷ cs) h goes = absurd (omega (arith, h))
walk_whole t tree (suc n) s [] h goes = ap (λ o. after_channel t (λ x. walk_within t tree n x) o) goes
walk_whole t tree (suc n) s (c ∷ cs) h goes =
    ap (λ o. after_channel t (λ x. walk_within t tree n x) o) goes.0 ∙ ap (λ ds. c ∷ ds) (walk_whole t tree n (tip t c) cs (omega (arith, h)) goes.1)

-- the walk that ends is the one that `walk_of` tells
pub goes_walk_of : (t : Topology) (tree : List (Option ℕ)) (s : ℕ) (cs : List ℕ) → length tree ≡ length t.switches → GoesAlong t tree s cs → walk_of t tree s ≡ cs
goes_walk_of t tree s cs each goes = walk_whole t tree (length t.switches) s cs (omega (arith, each, walk_short t tree s cs goes)) goes

pub walk_goes : (t : Topology) (tree : List (Option ℕ)) (s : ℕ) → IsTree t tree → GoesAlong t tree s (walk_of t tree s)
walk_goes t tree s is =
    let e : (cs : List ℕ) × GoesAlong t tree s cs = is.ends s in
    subst (λ cs. GoesAlong t tree s cs) (sym (goes_walk_of t tree s e.0 is.each_switch e.1)) e.1

-- a walk is a channel and the walk from its tip
pub walk_of_next : (t : Topology) (tree : List (Option ℕ)) (s c : ℕ) → IsTree t tree → next tree s ≡ Some c → walk_of t tree s ≡ c ∷ walk_of t tree (tip t c)
walk_of_next t tree s c is h = goes_walk_of t tree s (c ∷ walk_of t tree (tip t c)) is.each_switch (h, walk_goes t tree (tip t c) is)

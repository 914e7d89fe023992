-- Adding a tree's dependencies, switch by switch.
use Rattle.std.proofs.Common.{◌≡◌, ℕ, zero, suc, ◌+◌, ◌<◌, ◌≤◌, List, ◌++◌, length, Some, Option, option_map, unwrap_or, slice_get, sym, ◌∙◌, ap, subst, arith, append_assoc, length-append, None}
use Rattle.std.specs.Prelude.{flat_map, Contains, IsPermutation, take}
use Rattle.std.specs.List.{range_with_len}
use Rattle.std.proofs.lemmas.List.{append-nil}
use Rattle.std.proofs.lemmas.List.Sorted.{IsPermutation-refl}
use Rattle.std.proofs.lemmas.Option.{slice_get_within}
use Rattle.std.proofs.Math.Seq.{take-append_seam}
use Rattle.fab_graph.specs.Walks.{IsAcyclic, HasClosedWalk}
use Rattle.fab_model.specs.declared.rows.ChannelId.{ChannelId}
use Rattle.fab_model.specs.declared.rows.ChannelRow.{ChannelRow}
use Rattle.fab_model.specs.declared.rows.SwitchId.{SwitchId}
use Rattle.fab_model.specs.Topology.{Topology}
use Rattle.fab_tables.specs.Route.{tip}
use Rattle.fab_tables.specs.Trees.{next, LeavesSwitch}
use Rattle.fab_tables.specs.TreeWalks.{IsTree}
use Rattle.fab_sssp.proofs.Raising.TreePassing.{tip_read}
use Rattle.fab_depgraph.specs.declared.dep.Dep.{Dep}
use Rattle.fab_depgraph.specs.Listed.{Dependencies, IsListed, dep_of}
use Rattle.fab_nue.specs.Search.{ClosesNone, tail}
use Rattle.fab_nue.specs.Added.{dep_behind, dep_made, deps_of_tree, AddsTree}
use Rattle.fab_nue.proofs.Searching.Listing.{in_flat_map, made_depends, tree_listed, few, one_made, some_close, listed_closes_none}

-- ---- what is read of a tree

-- the channel that was read behind another one
pub behind_read : (t : Topology) (tree : List (Option ℕ)) (c : ℕ) (x : SwitchId) (o : Option ChannelId) (d : ChannelId) →
    option_map (λ (row : ChannelRow). row.tip) (slice_get t.channels c) ≡ Some x → option_map (λ (e : ChannelId). e.0) o ≡ next tree x.0 → o ≡ Some d → next tree (tip t c) ≡ Some d.0
behind_read t tree c x o d tip_is read is = ap (λ s. next tree s) (tip_read t c x tip_is) ∙ sym read ∙ ap (λ p. option_map (λ (e : ChannelId). e.0) p) is

-- a tree's channel is one of the fabric
pub channel_within : (t : Topology) (tree : List (Option ℕ)) (s c : ℕ) → IsTree t tree → next tree s ≡ Some c → c < length t.channels
channel_within t tree s c is h = let leaves : LeavesSwitch t c s = is.leaves s c h in slice_get_within t.channels c leaves.0 leaves.1

pub own_read : (tree : List (Option ℕ)) (s : ℕ) (o : Option ChannelId) (d : ChannelId) → option_map (λ (e : ChannelId). e.0) o ≡ next tree s → o ≡ Some d → next tree s ≡ Some d.0
own_read tree s o d read is = sym read ∙ ap (λ p. option_map (λ (e : ChannelId). e.0) p) is

-- ---- the dependencies of the switches so far

abbrev pub made_before : Topology → List (Option ℕ) → ℕ → List Dep
made_before t tree n = flat_map (λ s. dep_made t tree (next tree s)) (range_with_len 0 n)

flat_map_more : (f : ℕ → List Dep) (a n : ℕ) → flat_map f (range_with_len a (suc n)) ≡ flat_map f (range_with_len a n) ++ f (a + n)
flat_map_more f a zero = append-nil (f a) ∙ ap f (omega arith)
flat_map_more f a (suc n) =
    ap (λ xs. f a ++ xs) (flat_map_more f (a + 1) n)
    ∙ sym (append_assoc (f a) (flat_map f (range_with_len (a + 1) n)) (f (a + 1 + n)))
    ∙ ap (λ k. (f a ++ flat_map f (range_with_len (a + 1) n)) ++ f k) (omega arith)

pub made_more : (t : Topology) (tree : List (Option ℕ)) (n : ℕ) → made_before t tree (n + 1) ≡ made_before t tree n ++ dep_made t tree (next tree n)
made_more t tree n =
    ap (λ k. made_before t tree k) {y = suc n} (omega arith) ∙ flat_map_more (λ s. dep_made t tree (next tree s)) 0 n ∙ ap (λ k. made_before t tree n ++ dep_made t tree (next tree k)) {x = 0 + n} (omega arith)

pub made_few : (t : Topology) (tree : List (Option ℕ)) (n : ℕ) → length (made_before t tree n) ≤ n
made_few t tree n = few (λ s. dep_made t tree (next tree s)) (λ s. one_made t tree (next tree s)) 0 n

-- the arena after the dependencies of the switches so far
pub record IsAdding (t : Topology) (tree : List (Option ℕ)) (old now : Dependencies) (n : ℕ) : Type 0 where
  pub listed : now.listed ≡ old.listed ++ made_before t tree n
  pub spare : old.spare ≡ now.spare + length (made_before t tree n)
  pub acyclic : IsAcyclic (IsListed now.listed)

-- a switch without a channel adds nothing
pub adding_none : (t : Topology) (tree : List (Option ℕ)) (old now : Dependencies) (n : ℕ) → next tree n ≡ None → IsAdding t tree old now n → IsAdding t tree old now (n + 1)
adding_none t tree old now n none x =
    let same : made_before t tree (n + 1) ≡ made_before t tree n = made_more t tree n ∙ ap (λ o. made_before t tree n ++ dep_made t tree o) none ∙ append-nil (made_before t tree n) in
    record {
      listed = x.listed ∙ ap (λ xs. old.listed ++ xs) (sym same);
      spare = x.spare ∙ ap (λ (xs : List Dep). now.spare + length xs) (sym same);
      acyclic = x.acyclic;
    }

-- the others their dependency
pub adding_one : (t : Topology) (tree : List (Option ℕ)) (old now new : Dependencies) (n c : ℕ) → next tree n ≡ Some c → IsAdding t tree old now n →
    new.listed ≡ now.listed ++ dep_behind c (next tree (tip t c)) → now.spare ≡ new.spare + length (dep_behind c (next tree (tip t c))) → IsAcyclic (IsListed new.listed) →
    IsAdding t tree old new (n + 1)
adding_one t tree old now new n c own x added fell none =
    let more : made_before t tree (n + 1) ≡ made_before t tree n ++ dep_behind c (next tree (tip t c)) = made_more t tree n ∙ ap (λ o. made_before t tree n ++ dep_made t tree o) own in
    record {
      listed = added ∙ ap (λ xs. xs ++ dep_behind c (next tree (tip t c))) x.listed
          ∙ append_assoc old.listed (made_before t tree n) (dep_behind c (next tree (tip t c)))
          ∙ ap (λ xs. old.listed ++ xs) (sym more);
      spare = omega (arith, x.spare, fell, ap (λ (xs : List Dep). length xs) more, length-append (made_before t tree n) (dep_behind c (next tree (tip t c))));
      acyclic = none;
    }

-- where one closes a walk, the tree does
pub adding_closes : (t : Topology) (tree : List (Option ℕ)) (old now : Dependencies) (n c : ℕ) → length tree ≡ length t.switches → next tree n ≡ Some c → IsAdding t tree old now n →
    HasClosedWalk (IsListed (now.listed ++ dep_behind c (next tree (tip t c)))) → ¬ ClosesNone t (IsListed old.listed) tree
adding_closes t tree old now n c each own x closed =
    some_close t old.listed (made_before t tree (n + 1)) tree each among (subst (λ (xs : List Dep). HasClosedWalk (IsListed xs)) whole closed)
  where
    among : (a b : ℕ) → IsListed (made_before t tree (n + 1)) a b → IsListed (deps_of_tree t tree) a b
    among a b has =
        let at : (s : ℕ) × Contains (dep_made t tree (next tree s)) (dep_of a b) = in_flat_map (λ s. dep_made t tree (next tree s)) (range_with_len 0 (n + 1)) (dep_of a b) has in
        (tree_listed t tree each a b).1 (made_depends t tree at.0 a b at.1)

    whole : now.listed ++ dep_behind c (next tree (tip t c)) ≡ old.listed ++ made_before t tree (n + 1)
    whole = ap (λ xs. xs ++ dep_behind c (next tree (tip t c))) x.listed
        ∙ append_assoc old.listed (made_before t tree n) (dep_behind c (next tree (tip t c)))
        ∙ ap (λ xs. old.listed ++ xs) (sym (made_more t tree n ∙ ap (λ o. made_before t tree n ++ dep_made t tree o) own))

-- in the end the whole tree is added
pub adding_ends : (t : Topology) (tree : List (Option ℕ)) (old now : Dependencies) (n : ℕ) → n ≡ length t.switches → IsAdding t tree old now n → AddsTree t tree old now
adding_ends t tree old now n e x = record {
  added = made_before t tree n;
  listed = x.listed;
  once = subst (λ k. IsPermutation (made_before t tree n) (made_before t tree k)) e (IsPermutation-refl (made_before t tree n));
  spare = x.spare;
}

-- an arena to which a whole tree was added is acyclic exactly where the tree closes no walk
pub added_closes_none : (t : Topology) (tree : List (Option ℕ)) (old now : Dependencies) → length tree ≡ length t.switches → AddsTree t tree old now → IsAcyclic (IsListed now.listed) →
    ClosesNone t (IsListed old.listed) tree
added_closes_none t tree old now each adds none =
    (listed_closes_none t old.listed adds.added tree each adds.once).0 (subst (λ (xs : List Dep). IsAcyclic (IsListed xs)) adds.listed none)

-- what was added is taken back
pub taken_back : (old more now : List Dep) (mark : ℕ) → mark ≡ length old → now ≡ old ++ more → take mark now ≡ old
taken_back old more now mark at is = ap (λ xs. take mark xs) is ∙ ap (λ k. take k (old ++ more)) at ∙ take-append_seam old more

-- a switch for which no channel was read has none
pub none_read : (tree : List (Option ℕ)) (s : ℕ) (o : Option ChannelId) → option_map (λ (e : ChannelId). e.0) o ≡ next tree s → o ≡ None → next tree s ≡ None
none_read tree s o read is = sym read ∙ ap (λ p. option_map (λ (e : ChannelId). e.0) p) is

-- the tail that was read of a channel
pub tail_read : (t : Topology) (c : ℕ) (row : ChannelRow) → slice_get t.channels c ≡ Some row → tail t c ≡ row.tail.0
tail_read t c row at = ap (λ o. unwrap_or (option_map (λ (r : ChannelRow). r.tail.0) o) 0) at

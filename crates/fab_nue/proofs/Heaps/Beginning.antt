-- A search that begins is under way: the empty tree makes no dependency, and its candidates lead to the destination.
use Rattle.std.proofs.Common.{◌≡◌, ℕ, zero, suc, ◌+◌, ◌≤◌, inl, inr, List, [], ◌++◌, length, None, Option, refl, sym, ◌∙◌, ap, subst, arith}
use Rattle.std.specs.Prelude.{Contains, IsPermutation, flat_map, is_some}
use Rattle.std.specs.List.{range_with_len}
use Rattle.std.proofs.lemmas.Bool.{false≢true}
use Rattle.std.proofs.lemmas.List.{append-nil, length-replicate}
use Rattle.std.proofs.lemmas.List.Sorted.{IsPermutation-refl}
use Rattle.fab_graph.specs.Walks.{IsAcyclic}
use Rattle.fab_model.specs.Topology.{Topology, channel_id}
use Rattle.fab_tables.specs.Route.{tip}
use Rattle.fab_tables.specs.Trees.{next}
use Rattle.fab_tables.proofs.Paths.TreeWalks.{goes_walk_of}
use Rattle.fab_sssp.specs.LeastWeight.{weight_along}
use Rattle.fab_depgraph.specs.declared.dep.Dep.{Dep}
use Rattle.fab_depgraph.specs.Listed.{Dependencies, IsListed}
use Rattle.fab_nue.specs.declared.choices.Choice.{Choice}
use Rattle.fab_nue.specs.Search.{empty_tree, IsSettled, IsCandidate, way_weight}
use Rattle.fab_nue.specs.Added.{dep_made, deps_of_tree}
use Rattle.fab_nue.specs.Offers.{times_held, HoldsOnce, Offers, LeadsInto, LeadElsewhere}
use Rattle.fab_nue.specs.UnderWay.{choice_of, IsWeighed, IsUnderWay}
use Rattle.fab_nue.proofs.Searching.SearchTrees.{empty_next}

-- where nothing stands
pub nothing_held_once : (t : Topology) (entries : List Choice) → entries ≡ [] → HoldsOnce t entries
nothing_held_once t entries none = subst (HoldsOnce t) (sym none) (record { once = λ c. (let zero_held : times_held [] c ≡ 0 = refl in omega (arith, zero_held)); within = λ m has. absurd (omega (arith, has.1)) })

pub nothing_elsewhere : (t : Topology) (s : ℕ) (entries : List Choice) → entries ≡ [] → LeadElsewhere t s entries
nothing_elsewhere t s entries none = subst (LeadElsewhere t s) (sym none) (λ m has is. omega (arith, has.1))

nothing_made : (f : ℕ → List Dep) → ((s : ℕ) → f s ≡ []) → (a n : ℕ) → flat_map f (range_with_len a n) ≡ []
nothing_made f none a zero = refl
nothing_made f none a (suc n) = ap (λ ds. ds ++ flat_map f (range_with_len (a + 1) n)) (none a) ∙ nothing_made f none (a + 1) n

pub empty_makes_none : (t : Topology) → deps_of_tree t (empty_tree t) ≡ []
empty_makes_none t = nothing_made (λ s. dep_made t (empty_tree t) (next (empty_tree t) s)) (λ s. ap (dep_made t (empty_tree t)) (empty_next t s)) 0 (length t.switches)

module _ (t : Topology) (weight : ℕ → ℕ) (to : ℕ) where
  only_destination : (s : ℕ) → IsSettled to (empty_tree t) s → s ≡ to
  only_destination s (inl e) = e
  only_destination s (inr h) = absurd (false≢true (ap (λ o. is_some o) (sym (empty_next t s)) ∙ h))

  own_weight : (c : ℕ) → way_weight t weight (empty_tree t) c ≡ weight c + 0
  own_weight c = ap (λ cs. weight c + weight_along weight cs) (goes_walk_of t (empty_tree t) (tip t c) [] (length-replicate (length t.switches) None) (empty_next t (tip t c)))

  module _ (used : Dependencies) (entries : List Choice) (offers : Offers t to (empty_tree t) (λ c. weight c + 0) (LeadsInto t to) [] entries) where
    each : (c : ℕ) → IsCandidate t (IsListed used.listed) to (empty_tree t) c → Contains entries (choice_of t weight (empty_tree t) c)
    each c x = subst (λ n. Contains entries (record { weight = n; channel = channel_id c })) (sym (own_weight c)) (offers.offered c (x.channel, only_destination (tip t c) x.into) x.from)

    weighed : (m : Choice) → Contains entries m → IsWeighed t weight to (empty_tree t) m
    weighed m has = elim (offers.only m has) [
      | inl before ↦ absurd (omega (arith, before.1))
      | inr one ↦ (inl one.0.1, one.1 ∙ sym (own_weight m.channel.0))
    ]

    begun : IsAcyclic (IsListed used.listed) → length t.switches ≤ used.spare → IsUnderWay t weight to used used (empty_tree t) entries
    begun acyclic spare = record {
      acyclic = acyclic;
      spare = spare;
      steps = 0;
      run = refl;
      adds = record {
        added = [];
        listed = sym (append-nil used.listed);
        once = subst (λ (ds : List Dep). IsPermutation [] ds) (sym (empty_makes_none t)) (IsPermutation-refl []);
        spare = omega arith;
      };
      candidates = record { each = each; weighed = weighed };
      once = offers.holds;
    }

  -- with a tree and a heap that were emptied
  pub begins : (tree : List (Option ℕ)) (nothing entries : List Choice) → tree ≡ empty_tree t → nothing ≡ [] → Offers t to tree (λ c. weight c + 0) (LeadsInto t to) nothing entries →
      (used : Dependencies) → IsAcyclic (IsListed used.listed) → length t.switches ≤ used.spare → IsUnderWay t weight to used used tree entries
  begins tree nothing entries emptied cleared offers used acyclic spare =
      subst (λ x. IsUnderWay t weight to used used x entries) (sym emptied)
      (begun used entries
      (subst (λ x. Offers t to x (λ c. weight c + 0) (LeadsInto t to) [] entries) emptied (subst (λ (ms : List Choice). Offers t to tree (λ c. weight c + 0) (LeadsInto t to) ms entries) cleared offers)) acyclic spare)

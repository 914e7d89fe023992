-- The search begins with all nodes new, and ends with all of them closed.
use Rattle.std.proofs.Common.{◌≡◌, ℕ, ◌+◌, ◌<◌, ◌≤◌, List, [], length, replicate, ◌∙◌, ap, inl, inr, arith}
use Rattle.std.specs.Prelude.{◌==◌, Contains}
use Rattle.std.specs.List.{range_with_len}
use Rattle.std.proofs.lemmas.Bool.{cases_lt}
use Rattle.std.proofs.lemmas.List.{length-replicate, get_or-replicate, get_or_past}
use Rattle.std.proofs.lemmas.List.FromFn.{length-range_with_len, get_or-range_with_len}
use Rattle.std.proofs.lemmas.List.Folds.{sum_by-replicate}
use Rattle.fab_rings.specs.declared.strong_components.Group.{Group}
use Rattle.fab_rings.specs.EdgeList.{EdgeList, IsGraph}
use Rattle.fab_rings.specs.StrongComponents.{value_of, AreStrongComponents}
use Rattle.fab_rings.specs.PathSearch.{PathSearched, HasAt, IsPathSearch}
use Rattle.fab_rings.proofs.Times.{one_if}
use Rattle.fab_rings.proofs.EdgesOf.{ends_low}

module _ (g : EdgeList) (kept : IsGraph g) where
  abbrev start : PathSearched
  start = record { graph = g; places = replicate g.nodes 0; components = replicate g.nodes 0; opened = []; groups = []; heads = range_with_len 0 g.nodes; closed = 0 }

  no_number : (a : ℕ) → value_of (replicate g.nodes 0) a ≡ 0
  no_number a = elim (cases_lt a g.nodes) [ inl low ↦ get_or-replicate {A = ℕ} g.nodes a 0 0 low | inr past ↦ get_or_past {X = ℕ} (replicate g.nodes 0) a 0 (omega (arith, length-replicate {A = ℕ} g.nodes 0, past)) ]

  pub started : IsPathSearch start
  started = record {
    graph = kept;
    each_place = length-replicate {A = ℕ} g.nodes 0;
    each_component = length-replicate {A = ℕ} g.nodes 0;
    heads_low = λ k d low. let within : k < g.nodes = omega (arith, length-range_with_len 0 g.nodes, low) in omega (arith, get_or-range_with_len 0 g.nodes k d within, within);
    placed = λ a p at. absurd (omega (arith, at.0));
    is_open = λ a has not. absurd (omega (arith, has, no_number a));
    is_new = λ a none. no_number a;
    low = λ a. omega (arith, no_number a);
    few = omega (arith, sum_by-replicate (λ (n : ℕ). one_if (n == 0)) g.nodes 0);
    reaches = λ a b p q at. absurd (omega (arith, at.0));
    looked = λ a b p at. absurd (omega (arith, at.0));
    leaves = λ b t y at has. absurd (omega (arith, has.1));
    falls = λ a b has. absurd (omega (arith, has, no_number a));
    together = λ a b has. absurd (omega (arith, has, no_number a));
    grouped = λ p low. absurd (omega (arith, low));
    ordered = λ i j x y at. absurd (omega (arith, at.0));
    within = λ x has. absurd (omega (arith, has.1));
    waiting = λ a low. inr (a, omega (arith, length-range_with_len 0 g.nodes, low), get_or-range_with_len 0 g.nodes a a low ∙ zero_more a);
  }
    where
      zero_more : (a : ℕ) → 0 + a ≡ a
      zero_more a = omega arith

module _ (s : PathSearched) (searched : IsPathSearch s) (no_group : s.groups ≡ []) (no_head : s.heads ≡ []) where
  none_in : {A : Type 0} (xs : List A) → xs ≡ [] → (x : A) → Contains xs x → ⊥
  none_in xs none x has = omega (arith, has.1, ap length none)

  all_closed : (a : ℕ) → a < s.graph.nodes → 0 < value_of s.components a
  all_closed a low = elim (cases_lt 0 (value_of s.components a)) [
    | inl closed ↦ closed
    | inr not ↦ elim (searched.waiting a low) [
      | inl placed ↦
          (let open_at : (p : ℕ) × HasAt s.opened p a = searched.is_open a placed (omega (arith, not)) in
          let x : (x : Group) × Contains s.groups x × (x.first ≤ open_at.0) = searched.grouped open_at.0 open_at.1.0 in
          absurd (none_in s.groups no_group x.0 x.1))
      | inr has ↦ absurd (none_in s.heads no_head a has)
    ]
  ]

  pub ended : AreStrongComponents s.graph s.components
  ended = record {
    each = searched.each_component;
    some = all_closed;
    falls = λ a b edge. (searched.falls a b (all_closed a (ends_low s.graph searched.graph a b edge).0) edge).1;
    together = searched.together;
  }

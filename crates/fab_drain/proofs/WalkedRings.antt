-- The walk along the packets that wait leads to their ring.
use Rattle.std.proofs.Common.{◌≡◌, ℕ, suc, ◌+◌, ◌<◌, ◌≤◌, ◌⊎◌, inl, inr, List, [], ◌∷◌, ◌++◌, length, map, refl, sym, ◌∙◌, ap, subst, arith, Some, None, Option, false}
use Rattle.std.specs.Prelude.{IsSome, MatchOption, slice_index_or, is_some}
use Rattle.std.specs.List.{range_with_len}
use Rattle.std.proofs.Math.Nat.{mul-le-mul_left}
use Rattle.std.proofs.lemmas.Bool.{cases_lt}
use Rattle.std.proofs.lemmas.List.FromFn.{map-range_with_len_more}
use Rattle.fab_graph.specs.Walks.{IsEdge, IsAcyclic, IsOnClosedWalk}
use Rattle.fab_graph.specs.Least.{IsLeast}
use Rattle.fab_graph.specs.Rings.{IsFirstRing}
use Rattle.fab_model.specs.Topology.{Topology}
use Rattle.fab_rings.specs.EdgeList.{EdgeList}
use Rattle.fab_tables.specs.declared.plan.Plan.{Plan}
use Rattle.fab_tables.specs.declared.verdict.VirtualChannel.{VirtualChannel}
use Rattle.fab_tables.specs.Dependencies.{node_of}
use Rattle.fab_tables.proofs.Rows.Cells.{unsome}
use Rattle.fab_tables.proofs.Verdicts.CertifiedLaws.{none_some}
use Rattle.fab_drain.specs.Loads.{Load, Loaded, loaded_at, channel_of_cell, packet_count, IsLoad}
use Rattle.fab_drain.specs.Moves.{next_from, next_at}
use Rattle.fab_drain.specs.Drains.{IsStill, IsTakenNumber, AwaitsByNode, IsWaitingRing}
use Rattle.fab_drain.proofs.Cells.{taken_place, cell_is, channel_is, read_there, IsTakenCell, some_taken, read_taken}
use Rattle.fab_drain.proofs.Rings.{node, from_start, goes, edge_at, closed, is_ring, node_below}
use Rattle.fab_drain.proofs.Waiting.{awaits_some, taken_below, some_of, is_some_of}

-- ---- the first packet

pub is_none : (o : Option Loaded) → is_some o ≡ false → o ≡ None
is_none None h = refl
is_none (Some x) h = cc

-- no packet stands on so many virtual channels
abbrev pub AreNone : Load → ℕ → Type 0
AreNone load bound = (k : ℕ) → k < bound → slice_index_or load.cells k None ≡ None

pub some_left : (load : Load) (bound : ℕ) → 0 < packet_count load → AreNone load bound → bound < length load.cells
some_left load bound some none =
    let r : (k : ℕ) × IsTakenCell load.cells k = some_taken load.cells some in
    elim (cases_lt r.0 bound) [
      | inl less ↦ absurd (none_some r.1.0 (sym (none r.0 less) ∙ r.1.2))
      | inr more ↦ omega (arith, r.1.1, more)
    ]

pub one_more_none : (load : Load) (bound : ℕ) → AreNone load bound → slice_index_or load.cells bound None ≡ None → AreNone load (bound + 1)
one_more_none load bound none here k h = elim (cases_lt k bound) [
  | inl less ↦ none k less
  | inr more ↦ (let same : bound ≡ k = omega (arith, h, more) in subst (λ n. slice_index_or load.cells n None ≡ None) same here)
]

pub first_one : (load : Load) (number : ℕ) → 0 < load.count → AreNone load number → number < length load.cells → IsSome (slice_index_or load.cells number None) → IsLeast (IsTakenNumber load) number
first_one load number count none low some = record {
  holds = (let y : (y : Loaded) × (slice_index_or load.cells number None ≡ Some y) = some_of (slice_index_or load.cells number None) some in read_taken load number y.0 count y.1);
  least = λ k taken. go k taken (cases_lt k number);
}
  where
    go : (k : ℕ) → IsTakenNumber load k → (k < number) ⊎ (number ≤ k) → number ≤ k
    go k taken (inr h) = h
    go k taken (inl h) =
        let x : (x : Loaded) × (loaded_at load taken.0 ≡ Some x) = some_of (loaded_at load taken.0) taken.1 in
        absurd (none_some x.0 (sym (none k h) ∙ ap (λ n. slice_index_or load.cells n None) (sym taken.2) ∙ sym (read_there load taken.0 (taken_place load taken.0 x.0 x.1).0) ∙ x.1))

-- ---- the walk

module _ (t : Topology) (p : Plan) (load : Load) (good : IsLoad t p load) (still : IsStill t p load) (start : ℕ) (first : IsLeast (IsTakenNumber load) start) where
  abbrev R : ℕ → ℕ → Type 0
  R = AwaitsByNode t p load

  abbrev In : ℕ → Type 0
  In = IsTakenNumber load

  abbrev pub walked : ℕ → ℕ
  walked = node R In (awaits_some t p load good still) (length load.cells) (taken_below t p load good) start first.holds

  abbrev pub walked_edges : ℕ → List (ℕ × ℕ)
  walked_edges k = map (edge_at R In (awaits_some t p load good still) (length load.cells) (taken_below t p load good) start first.holds) (range_with_len 0 k)

  -- so many steps are made
  pub record IsWalked (number steps : ℕ) (walk : EdgeList) : Type 0 where
    pub number_is : number ≡ walked steps
    pub nodes : walk.nodes ≡ length load.cells
    pub edges_are : walk.edges ≡ walked_edges steps

  pub walk_begins : (number : ℕ) (walk : EdgeList) → number ≡ start → walk.nodes ≡ length load.cells → walk.edges ≡ [] → IsWalked number 0 walk
  walk_begins number walk here nodes none = record {
    number_is = here ∙ sym (from_start R In (awaits_some t p load good still) (length load.cells) (taken_below t p load good) start first.holds);
    nodes = nodes;
    edges_are = none;
  }

  pub number_below : (number steps : ℕ) (walk : EdgeList) → IsWalked number steps walk → number < length load.cells
  number_below number steps walk w = omega (arith, w.number_is, node_below R In (awaits_some t p load good still) (length load.cells) (taken_below t p load good) start first.holds steps)

  pub channel_there : (number : ℕ) → number < length load.cells → (channel_of_cell load.count number).channel.0 < length t.channels
  channel_there number low = elim (cases_lt (channel_of_cell load.count number).channel.0 (length t.channels)) [
    | inl h ↦ h
    | inr h ↦ absurd (omega (arith, low, good.each, (cell_is (length t.channels) load.count number (omega (arith, low, good.each))).0, mul-le-mul_left load.count h))
  ]

  -- the packet there awaits the next one
  pub next_there : (number steps : ℕ) (walk : EdgeList) → IsWalked number steps walk → (w : VirtualChannel) × (next_at t p load (channel_of_cell load.count number) ≡ Some w) × (node_of load.count w ≡ walked (suc steps))
  next_there number steps walk w =
      let edge : R (walked steps) (walked (suc steps)) = goes R In (awaits_some t p load good still) (length load.cells) (taken_below t p load good) start first.holds steps in
      let here : channel_of_cell load.count number ≡ edge.0 =
      ap (λ n. channel_of_cell load.count n) (w.number_is ∙ sym edge.3) ∙ channel_is load.count edge.0 (taken_place load edge.0 edge.2.0 edge.2.1).0 in
      (edge.1, ap (λ v. next_at t p load v) here ∙ ap (λ o. next_from t p o) edge.2.1 ∙ edge.2.2, edge.4)

  pub next_some : (number steps : ℕ) (walk : EdgeList) → IsWalked number steps walk → IsSome (next_at t p load (channel_of_cell load.count number))
  next_some number steps walk w =
      let there : (u : VirtualChannel) × (next_at t p load (channel_of_cell load.count number) ≡ Some u) × (node_of load.count u ≡ walked (suc steps)) = next_there number steps walk w in
      is_some_of (next_at t p load (channel_of_cell load.count number)) there.0 there.1

  pub next_low : (number steps : ℕ) (u : VirtualChannel) (walk : EdgeList) → IsWalked number steps walk → next_at t p load (channel_of_cell load.count number) ≡ Some u → node_of load.count u < length load.cells
  next_low number steps u walk w after =
      let there : (u : VirtualChannel) × (next_at t p load (channel_of_cell load.count number) ≡ Some u) × (node_of load.count u ≡ walked (suc steps)) = next_there number steps walk w in
      let node : node_of load.count u ≡ walked (suc steps) = ap (λ v. node_of load.count v) (unsome u there.0 (sym after ∙ there.1)) ∙ there.2 in
      omega (arith, node, node_below R In (awaits_some t p load good still) (length load.cells) (taken_below t p load good) start first.holds (suc steps))

  pub walks_on : (number steps next : ℕ) (w : VirtualChannel) (walk new : EdgeList) → IsWalked number steps walk → next_at t p load (channel_of_cell load.count number) ≡ Some w → next ≡ node_of load.count w →
      new ≡ record { nodes = walk.nodes; edges = walk.edges ++ (number, next) ∷ [] } → IsWalked next (steps + 1) new
  walks_on number steps next w walk new walked_so after is pushed =
      let there : (w : VirtualChannel) × (next_at t p load (channel_of_cell load.count number) ≡ Some w) × (node_of load.count w ≡ walked (suc steps)) = next_there number steps walk walked_so in
      let one_on : suc steps ≡ steps + 1 = omega arith in
      let number_next : next ≡ walked (suc steps) = is ∙ ap (λ v. node_of load.count v) (unsome w there.0 (sym after ∙ there.1)) ∙ there.2 in
      record {
        number_is = number_next ∙ ap walked one_on;
        nodes = ap (λ (g : EdgeList). g.nodes) pushed ∙ walked_so.nodes;
        edges_are = ap (λ (g : EdgeList). g.edges) pushed ∙ ap (λ es. es ++ (number, next) ∷ []) walked_so.edges_are
            ∙ ap (λ n. walked_edges steps ++ (n, next) ∷ []) walked_so.number_is ∙ ap (λ n. walked_edges steps ++ (walked steps, n) ∷ []) number_next
            ∙ sym (map-range_with_len_more (edge_at R In (awaits_some t p load good still) (length load.cells) (taken_below t p load good) start first.holds) 0 steps steps (omega arith));
      }

  pub not_acyclic : (number : ℕ) (walk : EdgeList) → IsWalked number (length load.cells) walk → IsAcyclic (IsEdge walk.edges) → ⊥
  not_acyclic number walk w acyclic =
      let around : (a : ℕ) × IsOnClosedWalk (IsEdge (walked_edges (length load.cells))) a = closed R In (awaits_some t p load good still) (length load.cells) (taken_below t p load good) start first.holds in
      acyclic around.0 (subst (λ es. IsOnClosedWalk (IsEdge es) around.0) (sym w.edges_are) around.1)

  pub ring_there : (number : ℕ) (walk : EdgeList) (ring : List ℕ) → IsWalked number (length load.cells) walk → IsFirstRing (IsEdge walk.edges) ring → IsWaitingRing t p load ring
  ring_there number walk ring w is = (
    start,
    first,
    is_ring R In (awaits_some t p load good still) (length load.cells) (taken_below t p load good) start first.holds ring (subst (λ es. IsFirstRing (IsEdge es) ring) w.edges_are is),
  )

  pub some_ring : (found : Option (List ℕ)) (number : ℕ) (walk : EdgeList) → IsWalked number (length load.cells) walk → MatchOption found (IsAcyclic (IsEdge walk.edges)) (λ ring. IsFirstRing (IsEdge walk.edges) ring) → IsSome found
  some_ring None number walk w acyclic = absurd (not_acyclic number walk w acyclic)
  some_ring (Some ring) number walk w is = refl

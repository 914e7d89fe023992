-- From a tree one step is possible at most, none from a complete tree, and a search has one end.
use Rattle.std.proofs.Common.{◌≡◌, ℕ, zero, suc, ◌<◌, ◌⊎◌, inl, inr, List, length, Option, sym, ◌∙◌, ap, subst, arith}
use Rattle.std.proofs.lemmas.Bool.{cases_order}
use Rattle.fab_graph.specs.Least.{IsNotAfter}
use Rattle.fab_graph.specs.Walks.{IsAcyclic}
use Rattle.fab_graph.proofs.Parts.{part_acyclic}
use Rattle.fab_model.specs.Topology.{Topology}
use Rattle.fab_model.specs.Connected.{AreConnected}
use Rattle.fab_model.specs.WellFormed.{IsWellFormed}
use Rattle.fab_tables.specs.Route.{tip, tip_of_row}
use Rattle.fab_tables.specs.Trees.{LeavesSwitch}
use Rattle.fab_tables.specs.TreeWalks.{DependsInTree, walk_of}
use Rattle.fab_tables.proofs.Verdicts.CertifiedLaws.{contains_of}
use Rattle.fab_depgraph.specs.Listed.{IsListed}
use Rattle.fab_nue.specs.Search.{tail, with_channel, swapped, way_weight, IsSettled, IsNotAfterPair, Steps, ComesTo, IsComplete, IsImpasse, Completes, GetsStuck}
use Rattle.fab_nue.specs.Laws.{OneStep, OneEnd, CompletesOrStuck}
use Rattle.fab_nue.proofs.Searching.Growing.{same_or_other}
use Rattle.fab_nue.proofs.Searching.SearchTrees.{LeadsTree, empty_leads_tree, channel_leaves, along_connected}
use Rattle.fab_nue.proofs.Searching.Settling.{settles_leads}
use Rattle.fab_nue.proofs.Searching.Turning.{swaps_leads}

-- ---- one step

not_after_both : (cost : ℕ → ℕ) (m n : ℕ) → IsNotAfter cost m n → IsNotAfter cost n m → m ≡ n
not_after_both cost m n (inl a) (inl b) = absurd (omega (arith, a, b))
not_after_both cost m n (inl a) (inr b) = absurd (omega (arith, a, b.0))
not_after_both cost m n (inr a) (inl b) = absurd (omega (arith, a.0, b))
not_after_both cost m n (inr a) (inr b) = omega (arith, a.1, b.1)

pairs_both : (c a d b : ℕ) → IsNotAfterPair c a d b → IsNotAfterPair d b c a → (c ≡ d) × (a ≡ b)
pairs_both c a d b (inl x) (inl y) = absurd (omega (arith, x, y))
pairs_both c a d b (inl x) (inr y) = absurd (omega (arith, x, y.0))
pairs_both c a d b (inr x) (inl y) = absurd (omega (arith, x.0, y))
pairs_both c a d b (inr x) (inr y) = (x.0, omega (arith, x.1, y.1))

pub one_step_of : (t : Topology) (weight : ℕ → ℕ) (used : ℕ → ℕ → Type 0) (to : ℕ) (old x y : List (Option ℕ)) → Steps t weight used to old x → Steps t weight used to old y → x ≡ y
one_step_of t weight used to old x y (inl a) (inl b) =
    let same : a.channel ≡ b.channel = not_after_both (λ c. way_weight t weight old c) a.channel b.channel (a.least b.channel b.candidate) (b.least a.channel a.candidate) in
    a.added ∙ ap (λ c. with_channel t old c) same ∙ sym b.added
one_step_of t weight used to old x y (inl a) (inr b) = absurd (b.no_candidate a.channel a.candidate)
one_step_of t weight used to old x y (inr a) (inl b) = absurd (a.no_candidate b.channel b.candidate)
one_step_of t weight used to old x y (inr a) (inr b) =
    let same : (a.added ≡ b.added) × (a.turned ≡ b.turned) = pairs_both a.added a.turned b.added b.turned (a.least b.added b.turned b.allowed) (b.least a.added a.turned a.allowed) in
    a.changed ∙ ap (λ c. swapped t old c a.turned) same.0 ∙ ap (λ d. swapped t old b.added d) same.1 ∙ sym b.changed

pub one_step : OneStep
one_step t weight used to old x y a b = one_step_of t weight (IsListed used) to old x y a b

-- ---- runs

pub step_leads : (t : Topology) (weight : ℕ → ℕ) (used : ℕ → ℕ → Type 0) (to : ℕ) (old new : List (Option ℕ)) → IsWellFormed t → LeadsTree t used to old →
    Steps t weight used to old new → LeadsTree t used to new
step_leads t weight used to old new good x (inl step) = settles_leads t weight used to old new good x step
step_leads t weight used to old new good x (inr step) = swaps_leads t used to old new good x step

-- every tree of a run leads to the destination
pub run_leads : (t : Topology) (weight : ℕ → ℕ) (used : ℕ → ℕ → Type 0) (to : ℕ) → IsWellFormed t → IsAcyclic used → (n : ℕ) (tree : List (Option ℕ)) →
    ComesTo t weight used to n tree → LeadsTree t used to tree
run_leads t weight used to good none zero tree run = subst (LeadsTree t used to) (sym run) (empty_leads_tree t used to none)
run_leads t weight used to good none (suc n) tree run = step_leads t weight used to run.0 tree good (run_leads t weight used to good none n run.0 run.1) run.2

-- a step shows that the dependencies in use close no walk
pub step_acyclic : (t : Topology) (weight : ℕ → ℕ) (used : ℕ → ℕ → Type 0) (to : ℕ) (old new : List (Option ℕ)) → Steps t weight used to old new → IsAcyclic used
step_acyclic t weight used to old new (inl step) =
    part_acyclic used (λ (a b : ℕ). used a b ⊎ DependsInTree t (with_channel t old step.channel) a b) (λ a b u. inl u) step.candidate.closes_none
step_acyclic t weight used to old new (inr step) =
    part_acyclic used (λ (a b : ℕ). used a b ⊎ DependsInTree t (swapped t old step.added step.turned) a b) (λ a b u. inl u) step.allowed.closes_none

pub one_run : (t : Topology) (weight : ℕ → ℕ) (used : ℕ → ℕ → Type 0) (to n : ℕ) (x y : List (Option ℕ)) → ComesTo t weight used to n x → ComesTo t weight used to n y → x ≡ y
one_run t weight used to zero x y a b = a ∙ sym b
one_run t weight used to (suc n) x y a b =
    one_step_of t weight used to b.0 x y (subst (λ z. Steps t weight used to z x) (one_run t weight used to n a.0 b.0 a.1 b.1) a.2) b.2

-- a step leads on
abbrev pub StepsOn : Topology → (ℕ → ℕ) → (ℕ → ℕ → Type 0) → ℕ → List (Option ℕ) → Type 0
StepsOn t weight used to x = (y : List (Option ℕ)) × Steps t weight used to x y

-- a longer run passes by every shorter one
passes_by : (t : Topology) (weight : ℕ → ℕ) (used : ℕ → ℕ → Type 0) (to n m : ℕ) (y : List (Option ℕ)) → n < m → ComesTo t weight used to m y →
    (x : List (Option ℕ)) × ComesTo t weight used to n x × StepsOn t weight used to x
passes_by t weight used to n zero y h run = absurd (omega (arith, h))
passes_by t weight used to n (suc m) y h run = elim (same_or_other n m) [
  | inl e ↦ (run.0, subst (λ k. ComesTo t weight used to k run.0) (sym e) run.1, (y, run.2))
  | inr other ↦ passes_by t weight used to n m run.0 (omega (arith, h, other)) run.1
]

-- of a longer run a step leads on from the shorter one
pub shorter_goes_on : (t : Topology) (weight : ℕ → ℕ) (used : ℕ → ℕ → Type 0) (to n m : ℕ) (x y : List (Option ℕ)) → n < m → ComesTo t weight used to n x →
    ComesTo t weight used to m y → StepsOn t weight used to x
shorter_goes_on t weight used to n m x y h a b =
    let p : (z : List (Option ℕ)) × ComesTo t weight used to n z × StepsOn t weight used to z = passes_by t weight used to n m y h b in
    subst (StepsOn t weight used to) (one_run t weight used to n p.0 x p.1 a) p.2

-- ---- ends

-- the tail of a channel is connected to what its tip is connected to
pub tail_joined : (t : Topology) (c to : ℕ) → c < length t.channels → AreConnected t (tip t c) to → AreConnected t (tail t c) to
tail_joined t c to channel on =
    let leaves : LeavesSwitch t c (tail t c) = channel_leaves t c channel in
    (suc on.0, (tip t c, (leaves.0, contains_of t.channels c leaves.0 leaves.1, leaves.2, sym (ap tip_of_row leaves.1)), on.1))

-- the tail of a channel to a settled switch is connected to the destination
pub tail_connected : (t : Topology) (used : ℕ → ℕ → Type 0) (to : ℕ) (tree : List (Option ℕ)) (c : ℕ) → LeadsTree t used to tree → c < length t.channels → IsSettled to tree (tip t c) →
    AreConnected t (tail t c) to
tail_connected t used to tree c x channel settled = tail_joined t c to channel (along_connected t (tip t c) to (walk_of t tree (tip t c)) (x.leads (tip t c) settled))

-- no step leads on from a complete tree
pub complete_stops : (t : Topology) (weight : ℕ → ℕ) (used : ℕ → ℕ → Type 0) (to : ℕ) (x : List (Option ℕ)) → LeadsTree t used to x → IsComplete t to x → ¬ StepsOn t weight used to x
complete_stops t weight used to x leads complete on = stops on.1
  where
    stops : Steps t weight used to x on.0 → ⊥
    stops (inl step) = step.candidate.from (complete (tail t step.channel) (tail_connected t used to x step.channel leads step.candidate.channel step.candidate.into))
    stops (inr step) = step.allowed.from (complete (tail t step.added) (tail_connected t used to x step.added leads step.allowed.channel step.allowed.into))

-- nor from an impasse
pub impasse_stops : (t : Topology) (weight : ℕ → ℕ) (used : ℕ → ℕ → Type 0) (to : ℕ) (x : List (Option ℕ)) → IsImpasse t used to x → ¬ StepsOn t weight used to x
impasse_stops t weight used to x stuck on = stops on.1
  where
    stops : Steps t weight used to x on.0 → ⊥
    stops (inl step) = stuck.no_candidate step.channel step.candidate
    stops (inr step) = stuck.no_swap step.added step.turned step.allowed

-- a run from which a step leads on shows that the dependencies in use close no walk
complete_run_stops : (t : Topology) (weight : ℕ → ℕ) (used : ℕ → ℕ → Type 0) (to n : ℕ) (x : List (Option ℕ)) → IsWellFormed t → ComesTo t weight used to n x → IsComplete t to x →
    ¬ StepsOn t weight used to x
complete_run_stops t weight used to n x good run complete on =
    complete_stops t weight used to x (run_leads t weight used to good (step_acyclic t weight used to x on.0 on.1) n x run) complete on

pub one_end_of : (t : Topology) (weight : ℕ → ℕ) (used : ℕ → ℕ → Type 0) (to : ℕ) (x y : List (Option ℕ)) → IsWellFormed t → Completes t weight used to x → Completes t weight used to y → x ≡ y
one_end_of t weight used to x y good a b = elim (cases_order a.steps b.steps) [
  | inr (inl less) ↦ absurd (complete_run_stops t weight used to a.steps x good a.run a.complete (shorter_goes_on t weight used to a.steps b.steps x y less a.run b.run))
  | inl same ↦ one_run t weight used to b.steps x y (subst (λ n. ComesTo t weight used to n x) same a.run) b.run
  | inr (inr more) ↦ absurd (complete_run_stops t weight used to b.steps y good b.run b.complete (shorter_goes_on t weight used to b.steps a.steps y x more b.run a.run))
]

pub completes_or_stuck_of : (t : Topology) (weight : ℕ → ℕ) (used : ℕ → ℕ → Type 0) (to : ℕ) (x : List (Option ℕ)) → IsWellFormed t → Completes t weight used to x → ¬ GetsStuck t weight used to
completes_or_stuck_of t weight used to x good a b = elim (cases_order a.steps b.steps) [
  | inr (inl less) ↦ complete_run_stops t weight used to a.steps x good a.run a.complete (shorter_goes_on t weight used to a.steps b.steps x b.tree less a.run b.run)
  | inl same ↦
      (let is : x ≡ b.tree = one_run t weight used to b.steps x b.tree (subst (λ n. ComesTo t weight used to n x) same a.run) b.run in
      b.impasse.unsettled (subst (λ z. IsSettled to z b.impasse.left) is (a.complete b.impasse.left b.impasse.connected)))
  | inr (inr more) ↦ impasse_stops t weight used to b.tree b.impasse (shorter_goes_on t weight used to b.steps a.steps b.tree x more b.run a.run)
]

pub one_end : OneEnd
one_end t weight used to x y good a b = one_end_of t weight (IsListed used) to x y good a b

pub completes_or_stuck : CompletesOrStuck
completes_or_stuck t weight used to x good a b = completes_or_stuck_of t weight (IsListed used) to x good a b

-- Settling keeps a tree whose walks lead to the destination, and adds one dependency at most.
use Rattle.std.proofs.Common.{◌≡◌, ◌≢◌, ℕ, ◌<◌, ◌⊎◌, inl, inr, List, [], ◌∷◌, length, Some, None, Option, sym, ◌∙◌, ap, subst, arith}
use Rattle.std.specs.Prelude.{IsSome}
use Rattle.std.proofs.lemmas.List.{length-set}
use Rattle.std.proofs.lemmas.Option.{same_Some, none-some}
use Rattle.fab_model.specs.Topology.{Topology}
use Rattle.fab_model.specs.Connected.{LeadsAlong}
use Rattle.fab_model.specs.WellFormed.{IsWellFormed}
use Rattle.fab_tables.specs.Route.{tip}
use Rattle.fab_tables.specs.Trees.{next, LeavesSwitch}
use Rattle.fab_tables.specs.TreeWalks.{GoesAlong, DependsInTree, walk_of}
use Rattle.fab_depgraph.specs.Listed.{IsListed}
use Rattle.fab_nue.specs.Search.{tail, with_channel, IsSettled, ClosesNone, Settles}
use Rattle.fab_nue.specs.Laws.{Grows, SettlingLeads}
use Rattle.fab_nue.proofs.Searching.Growing.{read_same, read_other, same_or_other}
use Rattle.fab_tables.proofs.Paths.TreeWalks.{goes_walk_of, walk_goes}
use Rattle.fab_nue.proofs.Searching.SearchTrees.{LeadsTree, leads_tree, search_tree, channel_leaves, tail_below, leads_before, settled_on, settled_or_not, unsettled_none, stands_grown, walk_grows}

-- a channel from an unsettled switch to a settled one
pub record IsLeaf (t : Topology) (to : ℕ) (tree : List (Option ℕ)) (c : ℕ) : Type 0 where
  pub channel : c < length t.channels
  pub from : ¬ IsSettled to tree (tail t c)
  pub into : IsSettled to tree (tip t c)

module _ (t : Topology) (used : ℕ → ℕ → Type 0) (to : ℕ) (old : List (Option ℕ)) (c : ℕ) (good : IsWellFormed t) (x : LeadsTree t used to old) (leaf : IsLeaf t to old c) where
  has_none : next old (tail t c) ≡ None
  has_none = unsettled_none to old (tail t c) leaf.from

  pub gives_it : next (with_channel t old c) (tail t c) ≡ Some c
  gives_it = read_same old (tail t c) (Some c) (omega (arith, x.is_tree.each_switch, tail_below t c good leaf.channel))

  pub leaves_others : (s : ℕ) → s ≢ tail t c → next (with_channel t old c) s ≡ next old s
  leaves_others s other = read_other old (tail t c) s (Some c) other

  pub leaf_grows : Grows old (with_channel t old c)
  leaf_grows = (sym (length-set old (tail t c) (Some c)), each)
    where
      each : (s d : ℕ) → next old s ≡ Some d → next (with_channel t old c) s ≡ Some d
      each s d h = leaves_others s (λ e. none-some d (sym has_none ∙ ap (λ y. next old y) (sym e) ∙ h)) ∙ h

  pub none_at_destination : next (with_channel t old c) to ≡ None
  none_at_destination = leaves_others to (λ e. leaf.from (inl (sym e))) ∙ x.none_there

  -- the walks of settled switches stay
  pub walk_stays : (s : ℕ) → IsSettled to old s → walk_of t (with_channel t old c) s ≡ walk_of t old s
  walk_stays s settled = walk_grows t used to old (with_channel t old c) s x leaf_grows none_at_destination settled

  -- one dependency is added at most
  pub leaf_adds_one : (a b : ℕ) → DependsInTree t (with_channel t old c) a b → DependsInTree t old a b ⊎ ((a ≡ c) × (next old (tip t c) ≡ Some b))
  leaf_adds_one a b d = elim (same_or_other d.0 (tail t c)) [
    | inl e ↦
        (let is : c ≡ a = same_Some c a (sym gives_it ∙ ap (λ y. next (with_channel t old c) y) (sym e) ∙ d.1) in
        inr (sym is, sym (leaves_others (tip t c) tip_other) ∙ ap (λ y. next (with_channel t old c) (tip t y)) is ∙ d.2))
    | inr other ↦
        (let has : next old d.0 ≡ Some a = sym (leaves_others d.0 other) ∙ d.1 in
        let there : IsSettled to old (tip t a) = settled_on t used to old d.0 a x has in
        inl (d.0, has, sym (leaves_others (tip t a) (λ e. leaf.from (subst (IsSettled to old) e there))) ∙ d.2))
  ]
    where
      tip_other : tip t c ≢ tail t c
      tip_other e = leaf.from (subst (IsSettled to old) e leaf.into)

  goes_from_leaf : GoesAlong t (with_channel t old c) (tail t c) (c ∷ walk_of t old (tip t c))
  goes_from_leaf =
      (gives_it, stands_grown t old (with_channel t old c) to (tip t c) (walk_of t old (tip t c)) leaf_grows none_at_destination (walk_goes t old (tip t c) x.is_tree) (x.leads (tip t c) leaf.into))

  whole : length (with_channel t old c) ≡ length t.switches
  whole = length-set old (tail t c) (Some c) ∙ x.is_tree.each_switch

  leaves_still : (s d : ℕ) → next (with_channel t old c) s ≡ Some d → LeavesSwitch t d s
  leaves_still s d h = elim (same_or_other s (tail t c)) [
    | inl e ↦
        (let is : c ≡ d = same_Some c d (sym gives_it ∙ ap (λ y. next (with_channel t old c) y) (sym e) ∙ h) in
        subst (λ y. LeavesSwitch t d y) (sym e) (subst (λ y. LeavesSwitch t y (tail t c)) is (channel_leaves t c leaf.channel)))
    | inr other ↦ x.is_tree.leaves s d (sym (leaves_others s other) ∙ h)
  ]

  ends_still : (s : ℕ) → (cs : List ℕ) × GoesAlong t (with_channel t old c) s cs
  ends_still s = elim (same_or_other s (tail t c)) [
    | inl e ↦ (c ∷ walk_of t old (tip t c), subst (λ y. GoesAlong t (with_channel t old c) y (c ∷ walk_of t old (tip t c))) (sym e) goes_from_leaf)
    | inr other ↦ (elim (settled_or_not to old s) [
      | inl settled ↦ (walk_of t old s, stands_grown t old (with_channel t old c) to s (walk_of t old s) leaf_grows none_at_destination (walk_goes t old s x.is_tree) (x.leads s settled))
      | inr not ↦ ([], leaves_others s other ∙ unsettled_none to old s not)
    ])
  ]

  leads_still : (s : ℕ) → IsSettled to (with_channel t old c) s → LeadsAlong t s (walk_of t (with_channel t old c) s) to
  leads_still s settled = elim (same_or_other s (tail t c)) [
    | inl e ↦ subst (λ y. LeadsAlong t y (walk_of t (with_channel t old c) y) to) (sym e)
        (subst (λ cs. LeadsAlong t (tail t c) cs to) (sym (goes_walk_of t (with_channel t old c) (tail t c) (c ∷ walk_of t old (tip t c)) whole goes_from_leaf))
        (leads_before t (tail t c) c to (walk_of t old (tip t c)) (channel_leaves t c leaf.channel) (x.leads (tip t c) leaf.into)))
    | inr other ↦
        (let before : IsSettled to old s = elim settled [ inl e ↦ inl e | inr h ↦ inr (subst (λ o. IsSome o) (leaves_others s other) h) ] in
        subst (λ cs. LeadsAlong t s cs to) (sym (walk_stays s before)) (x.leads s before))
  ]

  pub leaf_leads : ClosesNone t used (with_channel t old c) → LeadsTree t used to (with_channel t old c)
  leaf_leads closes = record {
    is_tree = record { each_switch = whole; leaves = leaves_still; ends = ends_still };
    none_there = none_at_destination;
    leads = leads_still;
    closes_none = closes;
  }

pub settles_leads : (t : Topology) (weight : ℕ → ℕ) (used : ℕ → ℕ → Type 0) (to : ℕ) (old new : List (Option ℕ)) → IsWellFormed t → LeadsTree t used to old →
    Settles t weight used to old new → LeadsTree t used to new
settles_leads t weight used to old new good x step =
    subst (LeadsTree t used to) (sym step.added)
    (leaf_leads t used to old step.channel good x (record { channel = step.candidate.channel; from = step.candidate.from; into = step.candidate.into }) step.candidate.closes_none)

pub settling_leads : SettlingLeads
settling_leads t weight used to old new good x step = search_tree t used to new (settles_leads t weight (IsListed used) to old new good (leads_tree t used to old x) step)

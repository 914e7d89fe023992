-- Trees whose walks lead to the destination, beside dependencies in use of any kind.
use Rattle.std.proofs.Common.{◌≡◌, ◌≢◌, ℕ, ◌<◌, ◌⊎◌, inl, inr, List, [], ◌∷◌, length, Some, None, Option, refl, sym, ◌∙◌, ap, subst, arith, option_map, unwrap_or, slice_get}
use Rattle.std.specs.Prelude.{suc, is_some, Contains, slice_index_or, IsSome}
use Rattle.std.proofs.lemmas.Bool.{cases_lt, false≢true}
use Rattle.std.proofs.lemmas.List.{get_or_past, get_or-replicate, length-replicate}
use Rattle.std.proofs.lemmas.Option.{none-some, slice_get-get_or}
use Rattle.fab_graph.specs.Walks.{IsAcyclic}
use Rattle.fab_graph.proofs.Parts.{part_acyclic}
use Rattle.fab_model.specs.declared.rows.ChannelRow.{ChannelRow}
use Rattle.fab_model.specs.Topology.{Topology}
use Rattle.fab_model.specs.Connected.{AreConnected, LeadsAlong}
use Rattle.fab_model.specs.WellFormed.{IsWellFormed}
use Rattle.fab_tables.specs.Route.{tip, tip_of_row, visited}
use Rattle.fab_tables.proofs.Verdicts.CertifiedLaws.{contains_of}
use Rattle.fab_tables.specs.Trees.{next, LeavesSwitch}
use Rattle.fab_tables.specs.TreeWalks.{GoesAlong, IsTree, DependsInTree, walk_of}
use Rattle.fab_depgraph.specs.declared.dep.Dep.{Dep}
use Rattle.fab_depgraph.specs.Listed.{IsListed}
use Rattle.fab_nue.specs.Search.{tail, empty_tree, IsSettled, ClosesNone}
use Rattle.fab_nue.specs.Laws.{IsSearchTree, EmptyTreeLeads, Grows}
use Rattle.fab_nue.proofs.Searching.Growing.{same_or_other}
use Rattle.fab_tables.proofs.Paths.TreeWalks.{goes_walk_of, walk_goes, walk_of_next}
use Rattle.fab_nue.proofs.Searching.Swapping.{Avoids}

-- `IsSearchTree`, for any dependencies in use
pub record LeadsTree (t : Topology) (used : ℕ → ℕ → Type 0) (to : ℕ) (tree : List (Option ℕ)) : Type 0 where
  pub is_tree : IsTree t tree
  pub none_there : next tree to ≡ None
  pub leads : (s : ℕ) → IsSettled to tree s → LeadsAlong t s (walk_of t tree s) to
  pub closes_none : ClosesNone t used tree

pub leads_tree : (t : Topology) (used : List Dep) (to : ℕ) (tree : List (Option ℕ)) → IsSearchTree t used to tree → LeadsTree t (IsListed used) to tree
leads_tree t used to tree x = record { is_tree = x.is_tree; none_there = x.none_there; leads = x.leads; closes_none = x.closes_none }

pub search_tree : (t : Topology) (used : List Dep) (to : ℕ) (tree : List (Option ℕ)) → LeadsTree t (IsListed used) to tree → IsSearchTree t used to tree
search_tree t used to tree x = record { is_tree = x.is_tree; none_there = x.none_there; leads = x.leads; closes_none = x.closes_none }

-- ---- channels

-- a channel leaves its tail, which is a switch of the fabric
pub channel_leaves : (t : Topology) (c : ℕ) → c < length t.channels → LeavesSwitch t c (tail t c)
channel_leaves t c h = (row, at, sym (ap (λ o. unwrap_or (option_map (λ (r : ChannelRow). r.tail.0) o) 0) at))
  where
    row : ChannelRow
    row = slice_index_or t.channels c (record { tail = record { 0 = 0 }; port = 0; tip = record { 0 = 0 }; tip_port = 0 })

    at : slice_get t.channels c ≡ Some row
    at = slice_get-get_or t.channels c (record { tail = record { 0 = 0 }; port = 0; tip = record { 0 = 0 }; tip_port = 0 }) h

pub tail_below : (t : Topology) (c : ℕ) → IsWellFormed t → c < length t.channels → tail t c < length t.switches
tail_below t c good h =
    let d : ChannelRow = record { tail = record { 0 = 0 }; port = 0; tip = record { 0 = 0 }; tip_port = 0 } in
    let at : slice_get t.channels c ≡ Some (slice_index_or t.channels c d) = slice_get-get_or t.channels c d h in
    let same : tail t c ≡ (slice_index_or t.channels c d).tail.0 = ap (λ o. unwrap_or (option_map (λ (r : ChannelRow). r.tail.0) o) 0) at in
    omega (arith, same, good.channel_tails c d h)

-- a channel before walks
pub leads_before : (t : Topology) (s c to : ℕ) (cs : List ℕ) → LeavesSwitch t c s → LeadsAlong t (tip t c) cs to → LeadsAlong t s (c ∷ cs) to
leads_before t s c to cs leaves goes = (leaves.0, leaves.1, leaves.2, subst (λ x. LeadsAlong t x cs to) (ap tip_of_row leaves.1) goes)

pub leads_after : (t : Topology) (s c to : ℕ) (cs : List ℕ) → LeadsAlong t s (c ∷ cs) to → LeadsAlong t (tip t c) cs to
leads_after t s c to cs goes = subst (λ x. LeadsAlong t x cs to) (sym (ap tip_of_row goes.1)) goes.3

-- ---- settled switches

pub some_there : (o : Option ℕ) → IsSome o → (x : ℕ) × (o ≡ Some x)
some_there None h = absurd (false≢true h)
some_there (Some x) h = (x, refl)

pub is_there : (o : Option ℕ) (x : ℕ) → o ≡ Some x → IsSome o
is_there o x e = subst (λ p. IsSome p) (sym e) refl

pub settled_or_not : (to : ℕ) (tree : List (Option ℕ)) (s : ℕ) → IsSettled to tree s ⊎ (¬ IsSettled to tree s)
settled_or_not to tree s = go (same_or_other s to) (next tree s) refl
  where
    neither : s ≢ to → next tree s ≡ None → IsSettled to tree s → ⊥
    neither other none (inl e) = other e
    neither other none (inr h) = let there : (x : ℕ) × (next tree s ≡ Some x) = some_there (next tree s) h in none-some there.0 (sym none ∙ there.1)

    go : (s ≡ to) ⊎ (s ≢ to) → (o : Option ℕ) → next tree s ≡ o → IsSettled to tree s ⊎ (¬ IsSettled to tree s)
    go (inl e) o is = inl (inl e)
    go (inr other) (Some x) is = inl (inr (is_there (next tree s) x is))
    go (inr other) None is = inr (neither other is)

pub unsettled_none : (to : ℕ) (tree : List (Option ℕ)) (s : ℕ) → ¬ IsSettled to tree s → next tree s ≡ None
unsettled_none to tree s not = go (next tree s) refl
  where
    go : (o : Option ℕ) → next tree s ≡ o → next tree s ≡ None
    go None is = is
    go (Some x) is = absurd (not (inr (is_there (next tree s) x is)))

-- settled switches other than the destination have a channel
pub settled_has : (to : ℕ) (tree : List (Option ℕ)) (s : ℕ) → s ≢ to → IsSettled to tree s → (c : ℕ) × (next tree s ≡ Some c)
settled_has to tree s other (inl e) = absurd (other e)
settled_has to tree s other (inr h) = some_there (next tree s) h

-- ---- walks that lead

-- the switch to which a walk leads from a channel's tip is the destination, or it has a channel
tip_settled : (t : Topology) (to : ℕ) (tree : List (Option ℕ)) (s : ℕ) (cs : List ℕ) → GoesAlong t tree s cs → LeadsAlong t s cs to → IsSettled to tree s
tip_settled t to tree s [] goes leads = inl leads
tip_settled t to tree s (d ∷ cs) goes leads = inr (is_there (next tree s) d goes.0)

-- a settled switch's channel leads to a settled one
pub settled_on : (t : Topology) (used : ℕ → ℕ → Type 0) (to : ℕ) (tree : List (Option ℕ)) (s c : ℕ) → LeadsTree t used to tree → next tree s ≡ Some c → IsSettled to tree (tip t c)
settled_on t used to tree s c x h =
    tip_settled t to tree (tip t c) (walk_of t tree (tip t c)) (walk_goes t tree (tip t c) x.is_tree)
    (leads_after t s c to (walk_of t tree (tip t c)) (subst (λ cs. LeadsAlong t s cs to) (walk_of_next t tree s c x.is_tree h) (x.leads s (inr (is_there (next tree s) c h)))))

-- a walk that leads to the destination is connected to it
pub along_connected : (t : Topology) (s to : ℕ) (cs : List ℕ) → LeadsAlong t s cs to → AreConnected t s to
along_connected t s to [] leads = (0, leads)
along_connected t s to (c ∷ cs) leads =
    let rest : AreConnected t leads.0.tip.0 to = along_connected t leads.0.tip.0 to cs leads.3 in
    (suc rest.0, (leads.0.tip.0, (leads.0, has, leads.2, refl), rest.1))
  where
    has : Contains t.channels leads.0
    has = contains_of t.channels c leads.0 leads.1

-- a walk of settled switches meets no unsettled one
pub avoids_unsettled : (t : Topology) (to : ℕ) (tree : List (Option ℕ)) (v s : ℕ) (cs : List ℕ) → ¬ IsSettled to tree v → GoesAlong t tree s cs → LeadsAlong t s cs to → Avoids t v s cs
avoids_unsettled t to tree v s [] not goes leads = λ e. not (inl (sym e ∙ leads))
avoids_unsettled t to tree v s (c ∷ cs) not goes leads =
    (λ e. not (inr (is_there (next tree v) c (ap (λ x. next tree x) (sym e) ∙ goes.0))), avoids_unsettled t to tree v (tip t c) cs not goes.1 (leads_after t s c to cs leads))

-- a walk that doesn't pass a switch avoids it
pub avoids_from : (t : Topology) (x s : ℕ) (cs : List ℕ) → ¬ Contains (visited t s cs) x → Avoids t x s cs
avoids_from t x s [] not = λ e. not (0, omega arith, e)
avoids_from t x s (c ∷ cs) not = (λ e. not (0, omega arith, e), avoids_from t x (tip t c) cs (λ h. not (suc h.0, omega (arith, h.1), h.2)))

-- ---- the tree only grows

-- walks that lead to the destination stand
pub stands_grown : (t : Topology) (old new : List (Option ℕ)) (to s : ℕ) (cs : List ℕ) → Grows old new → next new to ≡ None →
    GoesAlong t old s cs → LeadsAlong t s cs to → GoesAlong t new s cs
stands_grown t old new to s [] grows none goes leads = ap (λ x. next new x) leads ∙ none
stands_grown t old new to s (c ∷ cs) grows none goes leads =
    (grows.1 s c goes.0, stands_grown t old new to (tip t c) cs grows none goes.1 (leads_after t s c to cs leads))

-- settling leaves the walks of settled switches
pub walk_grows : (t : Topology) (used : ℕ → ℕ → Type 0) (to : ℕ) (old new : List (Option ℕ)) (s : ℕ) → LeadsTree t used to old → Grows old new → next new to ≡ None →
    IsSettled to old s → walk_of t new s ≡ walk_of t old s
walk_grows t used to old new s x grows none settled =
    goes_walk_of t new s (walk_of t old s) (sym grows.0 ∙ x.is_tree.each_switch)
    (stands_grown t old new to s (walk_of t old s) grows none (walk_goes t old s x.is_tree) (x.leads s settled))

-- ---- the empty tree

pub empty_next : (t : Topology) (s : ℕ) → next (empty_tree t) s ≡ None
empty_next t s = let whole : length (empty_tree t) ≡ length t.switches = length-replicate (length t.switches) None in elim (cases_lt s (length t.switches)) [
  | inl less ↦ get_or-replicate (length t.switches) s None None less
  | inr past ↦ get_or_past (empty_tree t) s None (omega (arith, past, whole))
]

pub empty_leads_tree : (t : Topology) (used : ℕ → ℕ → Type 0) (to : ℕ) → IsAcyclic used → LeadsTree t used to (empty_tree t)
empty_leads_tree t used to none = record {
  is_tree = record {
    each_switch = length-replicate (length t.switches) None;
    leaves = λ s c h. absurd (none-some c (sym (empty_next t s) ∙ h));
    ends = λ s. ([], empty_next t s);
  };
  none_there = empty_next t to;
  leads = λ s settled. elim settled [ inl e ↦ at_destination s e | inr h ↦ absurd (false≢true (ap (λ o. is_some o) (sym (empty_next t s)) ∙ h)) ];
  closes_none = part_acyclic (λ (a b : ℕ). used a b ⊎ DependsInTree t (empty_tree t) a b) used
      (λ a b e. elim e [ inl u ↦ u | inr d ↦ absurd (none-some a (sym (empty_next t d.0) ∙ d.1)) ]) none;
}
  where
    at_destination : (s : ℕ) → s ≡ to → LeadsAlong t s (walk_of t (empty_tree t) s) to
    at_destination s e = subst (λ cs. LeadsAlong t s cs to) (sym (goes_walk_of t (empty_tree t) s [] (length-replicate (length t.switches) None) (empty_next t s))) e

pub empty_tree_leads : EmptyTreeLeads
empty_tree_leads t used to below none = search_tree t used to (empty_tree t) (empty_leads_tree t (IsListed used) to none)

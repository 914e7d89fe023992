-- Swaps that are tried in order: one that closes a walk is taken back, and the first that closes none is kept.
use Rattle.std.proofs.Common.{◌≡◌, ◌≢◌, ℕ, ◌+◌, ◌<◌, ◌≤◌, inl, inr, List, ◌++◌, length, Some, None, Option, option_map, slice_get, sym, ◌∙◌, ap, subst, arith}
use Rattle.std.specs.Prelude.{slice_set, slice_index_or, IfSome}
use Rattle.std.proofs.lemmas.Bool.{cases_lt}
use Rattle.std.proofs.lemmas.List.{length-set, same_lists, get_or_default}
use Rattle.std.proofs.lemmas.Option.{get_or_from_slice_get}
use Rattle.fab_model.specs.declared.rows.ChannelId.{ChannelId}
use Rattle.fab_model.specs.declared.rows.ChannelRow.{ChannelRow}
use Rattle.fab_model.specs.Topology.{Topology, first_channel}
use Rattle.fab_model.specs.WellFormed.{IsWellFormed}
use Rattle.fab_tables.specs.Route.{tip, tip_of_row}
use Rattle.fab_tables.specs.Trees.{next, LeavesSwitch}
use Rattle.fab_tables.specs.TreeWalks.{IsTree}
use Rattle.fab_tables.proofs.Joined.Leaving.{leaves_from, stands_between}
use Rattle.fab_depgraph.specs.declared.dep.Dep.{Dep}
use Rattle.fab_depgraph.specs.Listed.{Dependencies, IsListed}
use Rattle.fab_nue.specs.Search.{tail, swapped, Passes, IsAllowed, IsNotAfterPair}
use Rattle.fab_nue.specs.Added.{AddsTree}
use Rattle.fab_nue.specs.Laws.{IsSearchTree}
use Rattle.fab_nue.specs.Turns.{Crosses, LeadsPast, MayTurn, IsSwapped}
use Rattle.fab_nue.proofs.Searching.Growing.{read_same, read_other, same_or_other}
use Rattle.fab_nue.proofs.Searching.SearchTrees.{leads_tree, channel_leaves}
use Rattle.fab_nue.proofs.Searching.Adding.{tail_read}
use Rattle.fab_nue.proofs.Searching.Turning.{swapped_is_tree}
use Rattle.fab_nue.proofs.Searching.Ending.{first_is_least}

-- ---- what was set is put back

module _ (tree : List (Option ℕ)) (x v : ℕ) (a b own : Option ℕ) (at_x : next tree x ≡ own) (at_v : next tree v ≡ None) where
  abbrev Once : List (Option ℕ)
  Once = slice_set tree x a

  abbrev Twice : List (Option ℕ)
  Twice = slice_set Once v b

  abbrev Thrice : List (Option ℕ)
  Thrice = slice_set Twice x own

  twice_whole : length Twice ≡ length tree
  twice_whole = length-set Once v b ∙ length-set tree x a

  thrice_whole : length Thrice ≡ length tree
  thrice_whole = length-set Twice x own ∙ twice_whole

  read_thrice : (k : ℕ) → k < length tree → k ≢ v → next Thrice k ≡ next tree k
  read_thrice k low from_v = elim (same_or_other k x) [
    | inl e ↦ ap (λ i. next Thrice i) e ∙ read_same Twice x own (omega (arith, low, e, twice_whole)) ∙ sym at_x ∙ ap (λ i. next tree i) (sym e)
    | inr from_x ↦ read_other Twice x k own from_x ∙ read_other Once v k b from_v ∙ read_other tree x k a from_x
  ]

  read_back : (k : ℕ) → k < length tree → next (slice_set Thrice v None) k ≡ next tree k
  read_back k low = elim (same_or_other k v) [
    | inl e ↦ ap (λ i. next (slice_set Thrice v None) i) e ∙ read_same Thrice v None (omega (arith, low, e, thrice_whole)) ∙ sym at_v ∙ ap (λ i. next tree i) (sym e)
    | inr from_v ↦ read_other Thrice v k None from_v ∙ read_thrice k low from_v
  ]

  back_whole : length (slice_set Thrice v None) ≡ length tree
  back_whole = length-set Thrice v None ∙ thrice_whole

  each : (k : ℕ) (d : Option ℕ) → k < length (slice_set Thrice v None) → slice_index_or (slice_set Thrice v None) k d ≡ slice_index_or tree k d
  each k d low =
      let within : k < length tree = omega (arith, low, back_whole) in
      get_or_default (slice_set Thrice v None) k d None low ∙ read_back k within ∙ sym (get_or_default tree k d None within)

  pub put_back : slice_set (slice_set (slice_set (slice_set tree x a) v b) x own) v None ≡ tree
  put_back = same_lists (slice_set Thrice v None) tree back_whole each

-- the two writes make the swap
pub swap_read : (t : Topology) (tree once twice : List (Option ℕ)) (added turned : ℕ) (row : ChannelRow) → slice_get t.channels added ≡ Some row → tail t turned ≡ tip t added →
    once ≡ slice_set tree row.tip.0 (Some turned) → twice ≡ slice_set once row.tail.0 (Some added) → twice ≡ swapped t tree added turned
swap_read t tree once twice added turned row at there first second =
    second
    ∙ ap (λ (y : List (Option ℕ)). slice_set y row.tail.0 (Some added)) first
    ∙ ap (λ k. slice_set (slice_set tree k (Some turned)) row.tail.0 (Some added)) (sym (there ∙ ap tip_of_row at))
    ∙ ap (λ k. slice_set (slice_set tree (tail t turned) (Some turned)) k (Some added)) (sym (tail_read t added row at))

-- and two more take it back
pub back_read : (tree once twice thrice back : List (Option ℕ)) (x v : ℕ) (a b own : Option ℕ) → next tree x ≡ own → next tree v ≡ None →
    once ≡ slice_set tree x a → twice ≡ slice_set once v b → thrice ≡ slice_set twice x own → back ≡ slice_set thrice v None → back ≡ tree
back_read tree once twice thrice back x v a b own at_x at_v first second third last =
    last
    ∙ ap (λ (y : List (Option ℕ)). slice_set y v None) third
    ∙ ap (λ (y : List (Option ℕ)). slice_set (slice_set y x own) v None) second
    ∙ ap (λ (y : List (Option ℕ)). slice_set (slice_set (slice_set y v b) x own) v None) first
    ∙ put_back tree x v a b own at_x at_v

-- the channel that a switch had leaves it
pub own_leaves : (t : Topology) (tree : List (Option ℕ)) (s : ℕ) (o : Option ChannelId) → IsTree t tree → option_map (λ (d : ChannelId). d.0) o ≡ next tree s →
    IfSome o (λ (d : ChannelId). LeavesSwitch t d.0 s)
own_leaves t tree s None is read = tt
own_leaves t tree s (Some d) is read = is.leaves s d.0 (sym read)

-- ---- the channels that may turn leave the tip of the added one

module _ (t : Topology) (good : IsWellFormed t) where
  pub tail_is : (s c : ℕ) → c < length t.channels → first_channel t s ≤ c → c < first_channel t (s + 1) → tail t c ≡ s
  tail_is s c low from past =
      let leaves : LeavesSwitch t c (tail t c) = channel_leaves t c low in
      let row : slice_index_or t.channels c leaves.0 ≡ leaves.0 = get_or_from_slice_get t.channels c leaves.0 leaves.0 leaves.1 in
      sym leaves.2 ∙ ap (λ (r : ChannelRow). r.tail.0) (sym row) ∙ leaves_from t good s c leaves.0 low from past

  pub turned_between : (used : ℕ → ℕ → Type 0) (to : ℕ) (tree : List (Option ℕ)) (s added turned : ℕ) → tip t added ≡ s → IsAllowed t used to tree added turned →
      (first_channel t s ≤ turned) × (turned < first_channel t (s + 1))
  turned_between used to tree s added turned at x =
      let leaves : LeavesSwitch t turned (tail t turned) = channel_leaves t turned x.other_channel in
      let row : slice_index_or t.channels turned leaves.0 ≡ leaves.0 = get_or_from_slice_get t.channels turned leaves.0 leaves.0 leaves.1 in
      stands_between t good s turned leaves.0 x.other_channel (ap (λ (r : ChannelRow). r.tail.0) row ∙ leaves.2 ∙ x.there ∙ at)

-- ---- one pair

module _ (t : Topology) (to : ℕ) (tree : List (Option ℕ)) (added turned at : ℕ) (read : tip t added ≡ at) where
  pub may_be : added < length t.channels → turned < length t.channels → Crosses t to tree added → tip t added ≢ to → tail t turned ≡ tip t added → LeadsPast t to tree turned at → MayTurn t to tree added turned
  may_be low low_too crosses other there past = record {
    channel = low;
    other_channel = low_too;
    from = crosses.0;
    into = crosses.1;
    not_destination = other;
    there = there;
    further = past.0;
    apart = subst (λ s. ¬ Passes t tree (tip t turned) s) (sym read) past.1;
  }

  -- a pair whose channel leads elsewhere isn't allowed
  pub not_past : (used : ℕ → ℕ → Type 0) → ¬ LeadsPast t to tree turned at → ¬ IsAllowed t used to tree added turned
  not_past used apart x = apart (x.further, subst (λ s. ¬ Passes t tree (tip t turned) s) read x.apart)

-- the swap of a pair that may turn is a tree
pub swap_is_tree : (t : Topology) (used : List Dep) (to : ℕ) (tree : List (Option ℕ)) (added turned : ℕ) → IsWellFormed t → IsSearchTree t used to tree → MayTurn t to tree added turned →
    IsTree t (swapped t tree added turned)
swap_is_tree t used to tree added turned good x may = swapped_is_tree t (IsListed used) to tree added turned good (leads_tree t used to tree x) may

-- ---- one pair after the other

pub adds_from : (t : Topology) (tree : List (Option ℕ)) (now before new : Dependencies) → now.listed ≡ before.listed → now.spare ≡ before.spare → AddsTree t tree now new → AddsTree t tree before new
adds_from t tree now before new listed spare x = record {
  added = x.added;
  listed = x.listed ∙ ap (λ xs. xs ++ x.added) listed;
  once = x.once;
  spare = sym spare ∙ x.spare;
}

-- tree and arena are as they were before
module _ (t : Topology) (to : ℕ) (tree : List (Option ℕ)) (before : Dependencies) (at : List (Option ℕ)) (now : Dependencies) (same : at ≡ tree) (listed : now.listed ≡ before.listed) where
  allowed_as : (c d : ℕ) → IsAllowed t (IsListed now.listed) to at c d → IsAllowed t (IsListed before.listed) to tree c d
  allowed_as c d x =
      subst (λ (xs : List Dep). IsAllowed t (IsListed xs) to tree c d) listed (subst (λ (y : List (Option ℕ)). IsAllowed t (IsListed now.listed) to y c d) same x)

  allowed_back : (c d : ℕ) → IsAllowed t (IsListed before.listed) to tree c d → IsAllowed t (IsListed now.listed) to at c d
  allowed_back c d x =
      subst (λ (y : List (Option ℕ)). IsAllowed t (IsListed now.listed) to y c d) (sym same) (subst (λ (xs : List Dep). IsAllowed t (IsListed xs) to tree c d) (sym listed) x)

  pub still_searched : IsSearchTree t before.listed to tree → IsSearchTree t now.listed to at
  still_searched x = subst (λ (y : List (Option ℕ)). IsSearchTree t now.listed to y) (sym same) (subst (λ (xs : List Dep). IsSearchTree t xs to tree) (sym listed) x)

  pub still_crosses : (c : ℕ) → Crosses t to tree c → Crosses t to at c
  still_crosses c x = subst (λ (y : List (Option ℕ)). Crosses t to y c) (sym same) x

  -- the next pair isn't allowed
  pub none_turned : (c n : ℕ) → ¬ IsAllowed t (IsListed now.listed) to at c n → ((d : ℕ) → d < n → ¬ IsAllowed t (IsListed before.listed) to tree c d) →
      (d : ℕ) → d < n + 1 → ¬ IsAllowed t (IsListed before.listed) to tree c d
  none_turned c n not none d low x = elim (cases_lt d n) [
    | inl less ↦ none d less x
    | inr more ↦ (let e : d ≡ n = omega (arith, low, more) in not (allowed_back c n (subst (λ k. IsAllowed t (IsListed before.listed) to tree c k) e x)))
  ]

  -- no pair is that adds the next channel
  pub none_added : (n : ℕ) → ((d : ℕ) → ¬ IsAllowed t (IsListed now.listed) to at n d) → ((c d : ℕ) → c < n → ¬ IsAllowed t (IsListed before.listed) to tree c d) →
      (c d : ℕ) → c < n + 1 → ¬ IsAllowed t (IsListed before.listed) to tree c d
  none_added n here none c d low x = elim (cases_lt c n) [
    | inl less ↦ none c d less x
    | inr more ↦ (let e : c ≡ n = omega (arith, low, more) in here d (allowed_back n d (subst (λ k. IsAllowed t (IsListed before.listed) to tree k d) e x)))
  ]

  -- a swap that was made is one of the tree before
  pub swap_as : now.spare ≡ before.spare → (new : List (Option ℕ)) (later : Dependencies) (c d : ℕ) → IsSwapped t to at new now later c d → IsSwapped t to tree new before later c d
  swap_as spare new later c d x = record {
    allowed = allowed_as c d x.allowed;
    changed = x.changed ∙ ap (λ (y : List (Option ℕ)). swapped t y c d) same;
    adds = adds_from t new now before later listed spare x.adds;
  }

  -- the first allowed pair is the least
  pub least_pair : (c a : ℕ) → ((e f : ℕ) → e < c → ¬ IsAllowed t (IsListed before.listed) to tree e f) → ((f : ℕ) → f < a → ¬ IsAllowed t (IsListed now.listed) to at c f) →
      (d b : ℕ) → IsAllowed t (IsListed before.listed) to tree d b → IsNotAfterPair c a d b
  least_pair c a none here d b x = first_is_least t (IsListed before.listed) to tree c a none (λ f low y. here f low (allowed_back c f y)) d b x

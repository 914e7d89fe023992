-- A swap keeps a tree whose walks lead to the destination.
use Rattle.std.proofs.Common.{◌≡◌, ◌≢◌, ℕ, ◌⊎◌, inl, inr, List, [], ◌∷◌, length, Some, Option, refl, sym, ◌∙◌, ap, subst, arith}
use Rattle.std.specs.Prelude.{IsSome}
use Rattle.std.proofs.lemmas.List.{length-set}
use Rattle.std.proofs.lemmas.Option.{same_Some}
use Rattle.fab_model.specs.Topology.{Topology}
use Rattle.fab_model.specs.Connected.{LeadsAlong}
use Rattle.fab_model.specs.WellFormed.{IsWellFormed}
use Rattle.fab_tables.specs.Route.{tip}
use Rattle.fab_tables.specs.Trees.{next, LeavesSwitch}
use Rattle.fab_tables.specs.TreeWalks.{GoesAlong, IsTree, walk_of}
use Rattle.fab_depgraph.specs.Listed.{IsListed}
use Rattle.fab_nue.specs.Search.{tail, with_channel, swapped, IsSettled, ClosesNone, IsAllowed, Swaps}
use Rattle.fab_nue.specs.Turns.{MayTurn}
use Rattle.fab_nue.specs.Laws.{SwappingLeads}
use Rattle.fab_nue.proofs.Searching.Growing.{read_same, read_other, same_or_other}
use Rattle.fab_nue.proofs.Searching.Swapping.{AgreeBut, IsTurned, walk_apart, ends_still}
use Rattle.fab_tables.proofs.Paths.TreeWalks.{goes_walk_of, walk_goes}
use Rattle.fab_nue.proofs.Searching.SearchTrees.{LeadsTree, leads_tree, search_tree, channel_leaves, tail_below, leads_before, leads_after, avoids_unsettled, avoids_from}

-- a walk that ends at the destination
abbrev LeadsFrom : Topology → List (Option ℕ) → ℕ → ℕ → Type 0
LeadsFrom t tree to s = (cs : List ℕ) × GoesAlong t tree s cs × LeadsAlong t s cs to

module _ (t : Topology) (old new : List (Option ℕ)) (x v turned added : ℕ) (way : List ℕ) (w : IsTurned t old new x v turned added way) (to : ℕ)
    (turned_leaves : LeavesSwitch t turned x) (added_leaves : LeavesSwitch t added v) (way_leads : LeadsAlong t (tip t turned) way to) where
  leads_at_turned : LeadsFrom t new to x
  leads_at_turned = (turned ∷ way, (w.turns, w.on), leads_before t x turned to way turned_leaves way_leads)

  leads_at_added : LeadsFrom t new to v
  leads_at_added =
      let on : LeadsFrom t new to (tip t added) = subst (LeadsFrom t new to) (sym w.leads) leads_at_turned in
      (added ∷ on.0, (w.adds, on.1), leads_before t v added to on.0 added_leaves on.2)

  -- every walk of the old tree that leads to the destination gives one of the new tree
  leads_still : (s : ℕ) (cs : List ℕ) → GoesAlong t old s cs → LeadsAlong t s cs to → LeadsFrom t new to s
  leads_still s cs goes leads = by_case s cs (same_or_other s x) (same_or_other s v) goes leads
    where
      by_case : (s : ℕ) (cs : List ℕ) → (s ≡ x) ⊎ (s ≢ x) → (s ≡ v) ⊎ (s ≢ v) → GoesAlong t old s cs → LeadsAlong t s cs to → LeadsFrom t new to s
      by_case s cs (inl e) at_v goes leads = subst (LeadsFrom t new to) (sym e) leads_at_turned
      by_case s cs (inr from_x) (inl e) goes leads = subst (LeadsFrom t new to) (sym e) leads_at_added
      by_case s [] (inr from_x) (inr from_v) goes leads = ([], w.agree s from_x from_v ∙ goes, leads)
      by_case s (c ∷ cs) (inr from_x) (inr from_v) goes leads =
          let rest : LeadsFrom t new to (tip t c) = by_case (tip t c) cs (same_or_other (tip t c) x) (same_or_other (tip t c) v) goes.1 (leads_after t s c to cs leads) in
          (c ∷ rest.0, (w.agree s from_x from_v ∙ goes.0, rest.1), leads_before t s c to rest.0 (leads.0, leads.1, leads.2) rest.2)

pub may_turn : (t : Topology) (used : ℕ → ℕ → Type 0) (to : ℕ) (tree : List (Option ℕ)) (added turned : ℕ) → IsAllowed t used to tree added turned → MayTurn t to tree added turned
may_turn t used to tree added turned x = record {
  channel = x.channel;
  other_channel = x.other_channel;
  from = x.from;
  into = x.into;
  not_destination = x.not_destination;
  there = x.there;
  further = x.further;
  apart = x.apart;
}

pub allowed_if : (t : Topology) (used : ℕ → ℕ → Type 0) (to : ℕ) (tree : List (Option ℕ)) (added turned : ℕ) → MayTurn t to tree added turned → ClosesNone t used (swapped t tree added turned) →
    IsAllowed t used to tree added turned
allowed_if t used to tree added turned x closes = record {
  channel = x.channel;
  other_channel = x.other_channel;
  from = x.from;
  into = x.into;
  not_destination = x.not_destination;
  there = x.there;
  further = x.further;
  apart = x.apart;
  closes_none = closes;
}

module _ (t : Topology) (used : ℕ → ℕ → Type 0) (to : ℕ) (old : List (Option ℕ)) (added turned : ℕ) (good : IsWellFormed t) (x : LeadsTree t used to old) (may : MayTurn t to old added turned) where
  pub turned_other : tip t added ≢ tail t added
  turned_other e = may.from (subst (IsSettled to old) e may.into)

  tails_differ : tail t turned ≢ tail t added
  tails_differ e = turned_other (sym may.there ∙ e)

  pub others_stay : AgreeBut (tip t added) (tail t added) old (swapped t old added turned)
  others_stay s from_x from_v = read_other (with_channel t old turned) (tail t added) s (Some added) from_v ∙ read_other old (tail t turned) s (Some turned) (λ e. from_x (e ∙ may.there))

  pub turns_it : next (swapped t old added turned) (tip t added) ≡ Some turned
  turns_it =
      ap (λ y. next (swapped t old added turned) y) (sym may.there)
      ∙ read_other (with_channel t old turned) (tail t added) (tail t turned) (Some added) tails_differ
      ∙ read_same old (tail t turned) (Some turned) (omega (arith, x.is_tree.each_switch, tail_below t turned good may.other_channel))

  pub adds_it : next (swapped t old added turned) (tail t added) ≡ Some added
  adds_it = read_same (with_channel t old turned) (tail t added) (Some added)
      (omega (arith, x.is_tree.each_switch, tail_below t added good may.channel, length-set old (tail t turned) (Some turned)))

  way_goes : GoesAlong t old (tip t turned) (walk_of t old (tip t turned))
  way_goes = walk_goes t old (tip t turned) x.is_tree

  is_turned : IsTurned t old (swapped t old added turned) (tip t added) (tail t added) turned added (walk_of t old (tip t turned))
  is_turned = record {
    agree = others_stay;
    turns = turns_it;
    adds = adds_it;
    leads = refl;
    on = walk_apart t old (swapped t old added turned) (tip t added) (tail t added) (tip t turned) (walk_of t old (tip t turned)) others_stay
        (avoids_from t (tip t added) (tip t turned) (walk_of t old (tip t turned)) may.apart)
        (avoids_unsettled t to old (tail t added) (tip t turned) (walk_of t old (tip t turned)) may.from way_goes (x.leads (tip t turned) may.further)) way_goes;
  }

  turned_leaves : LeavesSwitch t turned (tip t added)
  turned_leaves = subst (LeavesSwitch t turned) may.there (channel_leaves t turned may.other_channel)

  whole : length (swapped t old added turned) ≡ length t.switches
  whole = length-set (with_channel t old turned) (tail t added) (Some added) ∙ length-set old (tail t turned) (Some turned) ∙ x.is_tree.each_switch

  leaves_still : (s d : ℕ) → next (swapped t old added turned) s ≡ Some d → LeavesSwitch t d s
  leaves_still s d h = by_case (same_or_other s (tip t added)) (same_or_other s (tail t added))
    where
      moved : (at c : ℕ) → s ≡ at → next (swapped t old added turned) at ≡ Some c → LeavesSwitch t c at → LeavesSwitch t d s
      moved at c e gives leaves =
          let is : c ≡ d = same_Some c d (sym gives ∙ ap (λ y. next (swapped t old added turned) y) (sym e) ∙ h) in
          subst (λ y. LeavesSwitch t d y) (sym e) (subst (λ y. LeavesSwitch t y at) is leaves)

      by_case : (s ≡ tip t added) ⊎ (s ≢ tip t added) → (s ≡ tail t added) ⊎ (s ≢ tail t added) → LeavesSwitch t d s
      by_case (inl e) at_v = moved (tip t added) turned e turns_it turned_leaves
      by_case (inr from_x) (inl e) = moved (tail t added) added e adds_it (channel_leaves t added may.channel)
      by_case (inr from_x) (inr from_v) = x.is_tree.leaves s d (sym (others_stay s from_x from_v) ∙ h)

  leads_way : (s : ℕ) → IsSettled to old s → LeadsFrom t (swapped t old added turned) to s
  leads_way s settled =
      leads_still t old (swapped t old added turned) (tip t added) (tail t added) turned added (walk_of t old (tip t turned)) is_turned to turned_leaves
      (channel_leaves t added may.channel) (x.leads (tip t turned) may.further) s (walk_of t old s) (walk_goes t old s x.is_tree) (x.leads s settled)

  added_way : LeadsFrom t (swapped t old added turned) to (tail t added)
  added_way =
      leads_at_added t old (swapped t old added turned) (tip t added) (tail t added) turned added (walk_of t old (tip t turned)) is_turned to turned_leaves
      (channel_leaves t added may.channel) (x.leads (tip t turned) may.further)

  -- what is settled in the new tree was settled, or is the switch that is added
  settled_before : (s : ℕ) → IsSettled to (swapped t old added turned) s → (s ≡ tail t added) ⊎ IsSettled to old s
  settled_before s settled = by_case settled (same_or_other s (tip t added)) (same_or_other s (tail t added))
    where
      by_case : IsSettled to (swapped t old added turned) s → (s ≡ tip t added) ⊎ (s ≢ tip t added) → (s ≡ tail t added) ⊎ (s ≢ tail t added) → (s ≡ tail t added) ⊎ IsSettled to old s
      by_case settled at_x (inl e) = inl e
      by_case settled (inl e) (inr from_v) = inr (subst (IsSettled to old) (sym e) may.into)
      by_case (inl e) (inr from_x) (inr from_v) = inr (inl e)
      by_case (inr h) (inr from_x) (inr from_v) = inr (inr (subst (λ o. IsSome o) (others_stay s from_x from_v) h))

  leads_new : (s : ℕ) → IsSettled to (swapped t old added turned) s → LeadsFrom t (swapped t old added turned) to s
  leads_new s settled = elim (settled_before s settled) [ inl e ↦ subst (LeadsFrom t (swapped t old added turned) to) (sym e) added_way | inr before ↦ leads_way s before ]

  pub swapped_is_tree : IsTree t (swapped t old added turned)
  swapped_is_tree = record {
    each_switch = whole;
    leaves = leaves_still;
    ends = λ s. ends_still t old (swapped t old added turned) (tip t added) (tail t added) turned added (walk_of t old (tip t turned)) is_turned s (walk_of t old s) (walk_goes t old s x.is_tree);
  }

  pub swapped_leads : ClosesNone t used (swapped t old added turned) → LeadsTree t used to (swapped t old added turned)
  swapped_leads closes = record {
    is_tree = swapped_is_tree;
    none_there = others_stay to (λ e. may.not_destination (sym e)) (λ e. may.from (inl (sym e))) ∙ x.none_there;
    leads = λ s settled.
        let on : LeadsFrom t (swapped t old added turned) to s = leads_new s settled in
        subst (λ cs. LeadsAlong t s cs to) (sym (goes_walk_of t (swapped t old added turned) s on.0 whole on.1)) on.2;
    closes_none = closes;
  }

pub swaps_leads : (t : Topology) (used : ℕ → ℕ → Type 0) (to : ℕ) (old new : List (Option ℕ)) → IsWellFormed t → LeadsTree t used to old → Swaps t used to old new → LeadsTree t used to new
swaps_leads t used to old new good x step = subst (LeadsTree t used to) (sym step.changed) (swapped_leads t used to old step.added step.turned good x (may_turn t used to old step.added step.turned step.allowed) step.allowed.closes_none)

pub swapping_leads : SwappingLeads
swapping_leads t used to old new good x step = search_tree t used to new (swaps_leads t (IsListed used) to old new good (leads_tree t used to old x) step)

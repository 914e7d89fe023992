-- Tables whose entries for a LID are the ports of a tree: their routes are the tree's walks.
use Rattle.std.proofs.Common.{◌≡◌, ◌≢◌, ℕ, ◌+◌, ◌<◌, ◌≤◌, ◌⊎◌, inl, inr, List, [], length, cond, Option, Some, None, refl, sym, ◌∙◌, ap, subst, arith}
use Rattle.std.specs.Prelude.{Contains, IsSome, ◌==◌, slice_get}
use Rattle.std.specs.List.{list_any}
use Rattle.std.proofs.lemmas.Option.{none-some, same_Some}
use Rattle.fab_graph.proofs.Decided.{Decided}
use Rattle.fab_model.specs.declared.rows.ChannelRow.{ChannelRow}
use Rattle.fab_model.specs.declared.rows.Place.{Place}
use Rattle.fab_model.specs.declared.rows.TerminalRow.{TerminalRow}
use Rattle.fab_model.specs.Topology.{Topology, lids_of, place_of}
use Rattle.fab_model.specs.Connected.{AreConnected, IsConnectedTo}
use Rattle.fab_model.specs.WellFormed.{IsWellFormed}
use Rattle.fab_tables.specs.declared.end.End.TheVariants.{Delivered}
use Rattle.fab_tables.specs.Entries.{Entries, entry, with_entry}
use Rattle.fab_tables.specs.FixedEntries.{HasFixedEntries, IsChosen}
use Rattle.fab_tables.specs.Route.{hop_by, route}
use Rattle.fab_tables.specs.Route.Hop.{Stop}
use Rattle.fab_tables.specs.Trees.{next, LeavesSwitch}
use Rattle.fab_tables.specs.TreeWalks.{walk_of, terminals_through}
use Rattle.fab_tables.proofs.Joined.ConnectedDecided.{connected_to_decided}
use Rattle.fab_tables.proofs.Joined.Lids.{lid_in_use}
use Rattle.fab_tables.proofs.Paths.FallingRoutes.{own_delivers}
use Rattle.fab_tables.proofs.Paths.TreeWalks.{goes_walk_of}
use Rattle.fab_tables.proofs.Rows.EntriesSet.{entry_set, entry_kept, fixed_kept}
use Rattle.fab_sssp.specs.Carried.{terminals_carried}
use Rattle.fab_sssp.specs.Laying.{KeepsOtherLids}
use Rattle.fab_nue.specs.NuePlan.{IsPortInTree}
use Rattle.fab_nue.specs.Laying.{IsTreeToward, HasEntriesOf}
use Rattle.fab_nue.proofs.Searching.Growing.{same_or_other}
use Rattle.fab_nue.proofs.Searching.SameSearch.{sum_same}
use Rattle.fab_nue.proofs.Searching.SearchTrees.{some_there}
use Rattle.fab_nue.proofs.Laying.Carrying.{apart_route}
use Rattle.fab_nue.proofs.Laying.LaidRoutes.{route_is_walk}
use Rattle.fab_nue.proofs.Laying.Reaching.{tree_reaches}

module _ (t : Topology) (lid : ℕ) (tree : List (Option ℕ)) (toward : IsTreeToward t lid tree) where
  -- no channel at the destination, nor at a switch that isn't connected to it
  pub none_at_place : next tree toward.place.switch.0 ≡ None
  none_at_place = go (next tree toward.place.switch.0) refl
    where
      go : (o : Option ℕ) → next tree toward.place.switch.0 ≡ o → o ≡ None
      go None is = refl
      go (Some c) is = absurd ((toward.chosen toward.place.switch.0 c is).other refl)

  pub none_apart : (s : ℕ) → ¬ IsConnectedTo t s lid → next tree s ≡ None
  none_apart s apart = go (next tree s) refl
    where
      go : (o : Option ℕ) → next tree s ≡ o → o ≡ None
      go None is = refl
      go (Some c) is =
          let chosen : IsChosen t s lid toward.place.switch.0 = toward.chosen s c is in
          absurd (apart (toward.place, toward.in_use, chosen.connected))

  module _ (e : Entries) (good : IsWellFormed t) (fixed : HasFixedEntries t e) (ports : (s to : ℕ) → IsChosen t s lid to → IsPortInTree t tree s (entry e s lid)) where
    own : hop_by t lid toward.place.switch.0 (entry e toward.place.switch.0 lid) ≡ Stop Delivered
    own = own_delivers t e lid toward.place good fixed toward.in_use

    ports_at : (s : ℕ) → AreConnected t s toward.place.switch.0 → s ≢ toward.place.switch.0 → IsPortInTree t tree s (entry e s lid)
    ports_at s connected other = ports s toward.place.switch.0 (record { place = toward.place; in_use = toward.in_use; at_switch = refl; connected = connected; other = other })

    pub tree_route : (s : ℕ) → (route t e s lid).channels ≡ walk_of t tree s
    tree_route s = by_kind (connected_to_decided t s lid)
      where
        by_kind : Decided (IsConnectedTo t s lid) → (route t e s lid).channels ≡ walk_of t tree s
        by_kind (inl c) = route_is_walk t e lid toward.place tree good toward.in_use toward.is_tree own ports_at none_at_place s c
            (tree_reaches t e lid toward.place tree good toward.in_use toward.is_tree own ports_at s c)
        by_kind (inr apart) = apart_route t e lid s (fixed.apart s lid apart) ∙ sym (goes_walk_of t tree s [] toward.is_tree.each_switch (none_apart s apart))

    -- the tree's channels carry what the tables carry
    pub tree_carries : (c : ℕ) → terminals_carried t e lid c ≡ terminals_through t tree c
    tree_carries c = sum_same (λ (r : TerminalRow). cond {A = ℕ} (list_any (λ d. d == c) ((route t e r.switch.0 lid).channels)) 1 0)
        (λ (r : TerminalRow). cond {A = ℕ} (list_any (λ d. d == c) (walk_of t tree r.switch.0)) 1 0) t.terminals
        (λ r. ap (λ cs. cond {A = ℕ} (list_any (λ d. d == c) cs) 1 0) (tree_route r.switch.0))

-- ---- entries set switch by switch

-- the entry is the port of the switch's channel
abbrev pub HasPortAt : Topology → ℕ → List (Option ℕ) → Entries → ℕ → Type 0
HasPortAt t lid tree e s = (c : ℕ) (row : ChannelRow) → next tree s ≡ Some c → slice_get t.channels c ≡ Some row → entry e s lid ≡ row.port

pub record AreEntriesBelow (t : Topology) (lid : ℕ) (tree : List (Option ℕ)) (old now : Entries) (n : ℕ) : Type 0 where
  pub fixed : HasFixedEntries t now
  pub others : KeepsOtherLids lid old now
  pub ports : (s : ℕ) → s < n → HasPortAt t lid tree now s

pub entries_begin : (t : Topology) (lid : ℕ) (tree : List (Option ℕ)) (old : Entries) → HasFixedEntries t old → AreEntriesBelow t lid tree old old 0
entries_begin t lid tree old fixed = record { fixed = fixed; others = λ s other differ. refl; ports = λ s h. absurd (omega (arith, h)) }

pub no_entry_more : (t : Topology) (lid : ℕ) (tree : List (Option ℕ)) (old now : Entries) (n : ℕ) → next tree n ≡ None → AreEntriesBelow t lid tree old now n → AreEntriesBelow t lid tree old now (n + 1)
no_entry_more t lid tree old now n none x = record { fixed = x.fixed; others = x.others; ports = ports }
  where
    ports : (s : ℕ) → s < n + 1 → HasPortAt t lid tree now s
    ports s h c row own at = elim (same_or_other s n) [
      | inl e ↦ absurd (none-some c (sym none ∙ ap (λ k. next tree k) (sym e) ∙ own))
      | inr other ↦ x.ports s (omega (arith, h, other)) c row own at
    ]

pub one_entry_more : (t : Topology) (lid : ℕ) (tree : List (Option ℕ)) (old now : Entries) (n c : ℕ) (row : ChannelRow) → IsTreeToward t lid tree → n < length t.switches → row.port < 256 → next tree n ≡ Some c →
    slice_get t.channels c ≡ Some row → AreEntriesBelow t lid tree old now n → AreEntriesBelow t lid tree old (with_entry now n lid row.port) (n + 1)
one_entry_more t lid tree old now n c row toward low small own at x = record { fixed = fixed; others = others; ports = ports }
  where
    in_use : Contains (lids_of t) lid
    in_use = lid_in_use t lid toward.place toward.in_use

    fixed : HasFixedEntries t (with_entry now n lid row.port)
    fixed = fixed_kept t now n lid row.port toward.place.switch.0 x.fixed small low (toward.chosen n c own)

    others : KeepsOtherLids lid old (with_entry now n lid row.port)
    others s other differ = entry_kept t now n lid row.port x.fixed.fits low in_use s other (λ a b. differ b) ∙ x.others s other differ

    ports : (s : ℕ) → s < n + 1 → HasPortAt t lid tree (with_entry now n lid row.port) s
    ports s h d r its there = elim (same_or_other s n) [
      | inl e ↦
          (let same : c ≡ d = same_Some c d (sym own ∙ ap (λ k. next tree k) (sym e) ∙ its) in
          ap (λ k. entry (with_entry now n lid row.port) k lid) e ∙ entry_set t now n lid row.port x.fixed.fits low in_use
          ∙ ap (λ (z : ChannelRow). z.port) (same_Some row r (sym at ∙ ap (λ k. slice_get t.channels k) same ∙ there)))
      | inr other ↦ entry_kept t now n lid row.port x.fixed.fits low in_use s lid (λ a b. other a) ∙ x.ports s (omega (arith, h, other)) d r its there
    ]

pub entries_end : (t : Topology) (lid : ℕ) (tree : List (Option ℕ)) (old now : Entries) (n : ℕ) → IsTreeToward t lid tree → length t.switches ≤ n → ((s to : ℕ) → IsChosen t s lid to → s < length t.switches) →
    AreEntriesBelow t lid tree old now n → HasEntriesOf t lid tree old now
entries_end t lid tree old now n toward past low x = record { fixed = x.fixed; others = x.others; ports = ports }
  where
    ports : (s to : ℕ) → IsChosen t s lid to → IsPortInTree t tree s (entry now s lid)
    ports s to chosen =
        let same : toward.place ≡ chosen.place = same_Some toward.place chosen.place (sym toward.in_use ∙ chosen.in_use) in
        let at : to ≡ toward.place.switch.0 = sym chosen.at_switch ∙ ap (λ (p : Place). p.switch.0) (sym same) in
        let own : (c : ℕ) × (next tree s ≡ Some c) = some_there (next tree s) (toward.every s (subst (λ k. IsChosen t s lid k) at chosen)) in
        let leaves : LeavesSwitch t own.0 s = toward.is_tree.leaves s own.0 own.1 in
        (own.0, leaves.0, own.1, leaves.1, x.ports s (omega (arith, low s to chosen, past)) own.0 leaves.0 own.1 leaves.1)

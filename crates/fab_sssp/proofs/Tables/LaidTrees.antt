-- The tree and the entries of a LID that is laid: its walks end, and are the routes.
use Rattle.std.proofs.Common.{◌≡◌, ◌≢◌, ℕ, ◌+◌, ◌<◌, ◌≤◌, ◌⊎◌, inl, inr, Bool, true, false, List, length, set, Option, option_map, Some, None, refl, sym, ◌∙◌, ap, subst, arith, Contains, get_or-set_same, get_or-set_other}
use Rattle.std.specs.Prelude.{◌==◌, count_by, IfSome, if◌then◌else◌}
use Rattle.std.specs.List.{list_any}
use Rattle.std.proofs.Math.Path.{fun_ext}
use Rattle.std.proofs.lemmas.Bool.{cases_lt, cases_eq, eq-eqb, ne_eqb, and_from, cond-true, cond-false}
use Rattle.std.proofs.lemmas.List.{get_or_past}
use Rattle.std.proofs.lemmas.Option.{slice_get_within}
use Rattle.fab_model.specs.declared.rows.TerminalRow.{TerminalRow}
use Rattle.fab_model.specs.declared.rows.ChannelId.{ChannelId}
use Rattle.fab_model.specs.declared.rows.Place.{Place}
use Rattle.fab_model.specs.Topology.{Topology, place_of, lids_of, channel_at}
use Rattle.fab_model.specs.WellFormed.{IsWellFormed}
use Rattle.fab_model.proofs.Finds.{channels_are_found}
use Rattle.fab_tables.specs.declared.end.End.TheVariants.{Delivered, NoEntry}
use Rattle.fab_tables.specs.Entries.{Entries, entry, with_entry}
use Rattle.fab_tables.specs.Fit.{EntriesFit}
use Rattle.fab_tables.specs.Route.{hop_by, is_place, along_or_stop, tip}
use Rattle.fab_tables.specs.Route.Hop.{Stop}
use Rattle.fab_tables.specs.Trees.{next, LeavesSwitch}
use Rattle.fab_tables.specs.TreeWalks.{IsTree, terminals_through}
use Rattle.fab_tables.proofs.Paths.FallingRoutes.{goes_along, place_below, connected_below}
use Rattle.fab_tables.proofs.Paths.TreeRoutes.{channel_along, IsTreeOf, walk_of_route}
use Rattle.fab_sssp.specs.Carried.{terminals_carried}
use Rattle.fab_sssp.specs.LeastWeight.{IsDistance}
use Rattle.fab_sssp.specs.Laying.{IsLeastChannel, port_of_row, port_along, HasItsChannel, IsLaidAt, IsLaid}
use Rattle.fab_sssp.proofs.Tables.OneTable.{one_distance}
use Rattle.fab_sssp.proofs.Tables.FallingTrees.{falling_tree}
use Rattle.fab_tables.proofs.Rows.EntriesSet.{entry_set, entry_kept, entry_past}

-- the terminals whose walk along the tree of a LID contains a channel are those whose route does
pub through_carried : (t : Topology) (e : Entries) (lid : ℕ) (tree : List (Option ℕ)) → IsTreeOf t e lid tree → (channel : ℕ) → terminals_through t tree channel ≡ terminals_carried t e lid channel
through_carried t e lid tree is channel =
    ap (λ (of_switch : ℕ → List ℕ). count_by (λ (p : TerminalRow). list_any (λ c. c == channel) (of_switch p.switch.0)) t.terminals) (fun_ext (λ s. walk_of_route t e lid tree is s))

-- ---- one switch after the other

pub channel_low : (t : Topology) (weight : ℕ → ℕ) (s to : ℕ) (o : Option ChannelId) → HasItsChannel t weight s to (option_map (λ (c : ChannelId). c.0) o) → IfSome o (λ (c : ChannelId). c.0 < length t.channels)
channel_low t weight s to None has = tt
channel_low t weight s to (Some c) has = slice_get_within t.channels c.0 has.1.row has.1.there

module _ (t : Topology) (weight : ℕ → ℕ) (e : Entries) (lid : ℕ) (place : Place) (tree : List (Option ℕ)) (fits : EntriesFit t e) (each : length tree ≡ length t.switches) (in_use : Contains (lids_of t) lid)
    (s port : ℕ) (channel : Option ℕ) (low : s < length t.switches) (has : HasItsChannel t weight s place.switch.0 channel) (along : port ≡ port_along t place s channel) where
  abbrev laid_more : ℕ → Type 0
  laid_more q = IsLaidAt t weight (with_entry e s lid port) lid place (set tree s channel) q

  here : laid_more s
  here =
      let own : next (set tree s channel) s ≡ channel = get_or-set_same tree s channel None (omega (arith, each, low)) in
      record {
        channel = subst (λ o. HasItsChannel t weight s place.switch.0 o) (sym own) has;
        entry_is = entry_set t e s lid port fits low in_use ∙ along ∙ ap (λ o. port_along t place s o) (sym own);
      }

  pub one_laid : ((q : ℕ) → q < s → IsLaidAt t weight e lid place tree q) → (q : ℕ) → q < s + 1 → laid_more q
  one_laid before q h = elim (cases_lt q s) [
    | inl less ↦
        (let apart : q ≢ s = λ same. omega (arith, same, less) in
        let old : IsLaidAt t weight e lid place tree q = before q less in
        let still : next (set tree s channel) q ≡ next tree q = get_or-set_other tree s q channel None apart in
        record {
          channel = subst (λ o. HasItsChannel t weight q place.switch.0 o) (sym still) old.channel;
          entry_is = entry_kept t e s lid port fits low in_use q lid (λ same also. apart same) ∙ old.entry_is ∙ ap (λ o. port_along t place q o) (sym still);
        })
    | inr more ↦ (let same : q ≡ s = omega (arith, h, more) in subst laid_more (sym same) here)
  ]

-- all switches
pub all_laid : (t : Topology) (weight : ℕ → ℕ) (e : Entries) (lid : ℕ) (place : Place) (tree : List (Option ℕ)) → IsWellFormed t → EntriesFit t e → length tree ≡ length t.switches → place_of t lid ≡ Some place →
    ((q : ℕ) → q < length t.switches → IsLaidAt t weight e lid place tree q) → IsLaid t weight e lid tree
all_laid t weight e lid place tree good fits each is below = record { place = place; in_use = is; each = λ s. at s (cases_lt s (length t.switches)) }
  where
    at : (s : ℕ) → (s < length t.switches) ⊎ (length t.switches ≤ s) → IsLaidAt t weight e lid place tree s
    at s (inl low) = below s low
    at s (inr past) =
        let none : next tree s ≡ None = get_or_past tree s None (omega (arith, each, past)) in
        let other : s ≢ place.switch.0 = λ same. omega (arith, same, past, place_below t good lid place is) in
        record {
          channel = subst (λ o. HasItsChannel t weight s place.switch.0 o) (sym none) (inr (λ joined. omega (arith, past, connected_below t good s lid (place, is, joined))));
          entry_is = entry_past t e s lid fits past ∙ sym (cond-false (s == place.switch.0) place.port 255 (ne_eqb s place.switch.0 other)) ∙ ap (λ o. port_along t place s o) (sym none);
        }

-- ---- what is laid

module _ (t : Topology) (weight : ℕ → ℕ) (e : Entries) (lid : ℕ) (tree : List (Option ℕ)) (good : IsWellFormed t) (laid : IsLaid t weight e lid tree) where
  abbrev place : Place
  place = laid.place

  abbrev to : ℕ
  to = place.switch.0

  with_channel : (s c : ℕ) → next tree s ≡ Some c → HasItsChannel t weight s to (Some c)
  with_channel s c is = subst (λ o. HasItsChannel t weight s to o) is (laid.each s).channel

  pub laid_is_tree : length tree ≡ length t.switches → IsTree t tree
  laid_is_tree each = falling_tree t tree (λ s m. IsDistance t weight s to m) (λ s m n x y. one_distance t weight s to m n x y) falls each leaves
    where
      falls : (s c : ℕ) → next tree s ≡ Some c → (m n : ℕ) × IsDistance t weight s to m × IsDistance t weight (tip t c) to n × (n < m)
      falls s c is = (with_channel s c is).1.nearer

      leaves : (s c : ℕ) → next tree s ≡ Some c → LeavesSwitch t c s
      leaves s c is = let least : IsLeastChannel t weight s to c = (with_channel s c is).1 in (least.row, least.there, least.tail)

  -- where a switch has a channel, its entry is the port of that one
  pub entry_of_channel : (s c : ℕ) → next tree s ≡ Some c → (least : IsLeastChannel t weight s to c) → entry e s lid ≡ least.row.port
  entry_of_channel s c is least = (laid.each s).entry_is ∙ ap (λ o. port_along t place s o) is ∙ ap port_of_row least.there

  pub own_entry : (s : ℕ) → s ≡ to → next tree s ≡ None → entry e s lid ≡ place.port
  own_entry s same none = (laid.each s).entry_is ∙ ap (λ o. port_along t place s o) none ∙ cond-true (s == to) place.port 255 (eq-eqb s to same)

  pub other_entry : (s : ℕ) → s ≢ to → next tree s ≡ None → entry e s lid ≡ 255
  other_entry s other none = (laid.each s).entry_is ∙ ap (λ o. port_along t place s o) none ∙ cond-false (s == to) place.port 255 (ne_eqb s to other)

  stops_at_place : (s : ℕ) → s ≡ to → entry e s lid ≡ place.port → channel_along (hop_by t lid s (entry e s lid)) ≡ None
  stops_at_place s same port = go (entry e s lid == 255) (is_place (place_of t lid) s (entry e s lid)) there
    where
      there : is_place (place_of t lid) s (entry e s lid) ≡ true
      there = ap (λ o. is_place o s (entry e s lid)) laid.in_use ∙ and_from (to == s) (place.port == entry e s lid) (eq-eqb to s (sym same)) (eq-eqb place.port (entry e s lid) (sym port))

      go : (a b : Bool) → b ≡ true → channel_along (if a then Stop NoEntry else if b then Stop Delivered else along_or_stop t s (entry e s lid) (channel_at t s (entry e s lid))) ≡ None
      go true b x = refl
      go false true x = refl
      go false false x = cc

  -- its walks are the routes
  pub laid_is_tree_of : IsTreeOf t e lid tree
  laid_is_tree_of s = go (next tree s) refl
    where
      go : (o : Option ℕ) → next tree s ≡ o → next tree s ≡ channel_along (hop_by t lid s (entry e s lid))
      go None none = none ∙ sym (elim (cases_eq s to) [
        | inl same ↦ stops_at_place s same (own_entry s same none)
        | inr other ↦ ap (λ port. channel_along (hop_by t lid s port)) (other_entry s other none)
      ])
      go (Some c) is =
          let own : HasItsChannel t weight s to (Some c) = with_channel s c is in
          let least : IsLeastChannel t weight s to c = own.1 in
          let at : channel_at t s (entry e s lid) ≡ Some c = ap (λ p. channel_at t s p) (entry_of_channel s c is least) ∙ ap (λ x. channel_at t x least.row.port) (sym least.tail) ∙ channels_are_found t c least.row good least.there in
          is ∙ sym (ap channel_along (goes_along t lid s (entry e s lid) c place good laid.in_use own.0 at))

-- Entries are chosen for one LID after the other, at one switch.
use Rattle.std.proofs.Common.{◌≡◌, ◌≢◌, ℕ, zero, suc, ◌+◌, ◌<◌, ◌≤◌, ◌⊎◌, inl, inr, length, Some, refl, sym, ◌∙◌, ap, subst, arith, Contains}
use Rattle.std.specs.Prelude.{slice_index, slice_get}
use Rattle.std.proofs.lemmas.Bool.{cases_lt, cases_eq}
use Rattle.std.proofs.lemmas.List.{get_or_default}
use Rattle.std.proofs.lemmas.List.Kept.{AllPairs-from_increasing}
use Rattle.std.proofs.lemmas.Option.{same_Some, slice_get-get_or}
use Rattle.fab_model.specs.declared.rows.Place.{Place}
use Rattle.fab_model.specs.declared.rows.ChannelRow.{ChannelRow}
use Rattle.fab_model.specs.Topology.{Topology, place_of, lids_of, channel_at}
use Rattle.fab_model.specs.Connected.{LeadsTo, AreConnected}
use Rattle.fab_model.specs.WellFormed.{IsFabric, IsWellFormed}
use Rattle.fab_model.proofs.Finds.{channels_are_found}
use Rattle.fab_tables.specs.Entries.{Entries, entry, with_entry}
use Rattle.fab_tables.specs.Route.{tip_of_row}
use Rattle.fab_tables.specs.FixedEntries.{HasFixedEntries, IsChosen, HasChosenEntries}
use Rattle.fab_tables.proofs.Joined.Ascending.{lids_ascend}
use Rattle.fab_tables.proofs.Joined.Lids.{lid_in_use}
use Rattle.fab_tables.proofs.Paths.FallingRoutes.{connected_below}
use Rattle.fab_hops.specs.HopCounts.{IsHopCount}
use Rattle.fab_hops.proofs.HopLaws.{one_hop_count}
use Rattle.fab_hops.proofs.HopWalks.{connected_have_count, leads_nearer, no_hops}
use Rattle.fab_balance.specs.Eligible.{LeadsNearer, HasNoNearerPort}
use Rattle.fab_balance.specs.Choosing.{AreChosenAt, KeepsOtherSwitches}
use Rattle.fab_tables.proofs.Rows.EntriesSet.{fixed_kept, entry_set, entry_kept}
use Rattle.fab_balance.proofs.Placing.{IsAmongFirst}

-- ---- an entry is chosen exactly where some port leads nearer

-- a switch with a port that leads nearer to the LID's switch is connected to it, and another
pub nearer_is_chosen : (t : Topology) (s lid port : ℕ) (place : Place) → place_of t lid ≡ Some place → LeadsNearer t s place.switch.0 port → IsChosen t s lid place.switch.0
nearer_is_chosen t s lid port place at x = record { place = place; in_use = at; at_switch = refl; connected = (suc x.hops, x.from_here.holds); other = other }
  where
    other : s ≢ place.switch.0
    other same = omega (arith, one_hop_count t s place.switch.0 (suc x.hops) 0 x.from_here (no_hops t s place.switch.0 same))

pub chosen_has_nearer : (t : Topology) → IsWellFormed t → (s lid to : ℕ) → IsChosen t s lid to → (port : ℕ) × LeadsNearer t s to port
chosen_has_nearer t good s lid to is = go (connected_have_count t s to is.connected)
  where
    by_next : (hops : ℕ) → IsHopCount t s to (suc hops) → (next : ℕ) × LeadsTo t s next × IsHopCount t next to hops → (port : ℕ) × LeadsNearer t s to port
    by_next hops count found =
        let row : ChannelRow = found.1.0 in
        let at : slice_get t.channels found.1.1.0 ≡ Some row = slice_get-get_or t.channels found.1.1.0 row found.1.1.1 ∙ ap (λ r. Some r) found.1.1.2 in (
          row.port,
          record {
            channel = found.1.1.0;
            hops = hops;
            leaves = subst (λ x. channel_at t x row.port ≡ Some found.1.1.0) found.1.2 (channels_are_found t found.1.1.0 row good at);
            from_here = count;
            from_tip = subst (λ x. IsHopCount t x to hops) (sym (ap tip_of_row at ∙ found.1.3)) found.2;
          },
        )

    go : (n : ℕ) × IsHopCount t s to n → (port : ℕ) × LeadsNearer t s to port
    go (zero, count) = absurd (is.other count.holds)
    go (suc hops, count) = by_next hops count (leads_nearer t s to hops count)

pub none_is_chosen : (t : Topology) → IsWellFormed t → (s lid : ℕ) (place : Place) → place_of t lid ≡ Some place → HasNoNearerPort t s place.switch.0 → (to : ℕ) → ¬ IsChosen t s lid to
none_is_chosen t good s lid place at none to is =
    let found : (port : ℕ) × LeadsNearer t s to port = chosen_has_nearer t good s lid to is in
    let to_is : to ≡ place.switch.0 = sym is.at_switch ∙ ap (λ (p : Place). p.switch.0) (same_Some is.place place (sym is.in_use ∙ at)) in
    none found.0 (subst (λ x. LeadsNearer t s x found.0) to_is found.1)

-- ---- the LIDs so far

-- For the first so many LIDs the entries of this switch that are chosen meet the rule. It may speak of the tables.
pub record IsChoosing (t : Topology) (Rule : Entries → ℕ → ℕ → ℕ → ℕ → Type 0) (s : ℕ) (begun e : Entries) (count : ℕ) : Type 0 where
  pub fixed : HasFixedEntries t e
  pub others : KeepsOtherSwitches s begun e
  pub chosen : (lid to : ℕ) → IsAmongFirst t count lid → IsChosen t s lid to → Rule e s lid to (entry e s lid)

pub none_chosen : (t : Topology) (Rule : Entries → ℕ → ℕ → ℕ → ℕ → Type 0) (s : ℕ) (e : Entries) → HasFixedEntries t e → IsChoosing t Rule s e e 0
none_chosen t Rule s e fixed = record { fixed = fixed; others = λ o lid other. refl; chosen = λ lid to among is. absurd (omega (arith, among.1)) }

pub all_chosen : (t : Topology) (Rule : Entries → ℕ → ℕ → ℕ → ℕ → Type 0) (s : ℕ) (begun e : Entries) (count : ℕ) → IsChoosing t Rule s begun e count → length (lids_of t) ≤ count → AreChosenAt t e (Rule e) s
all_chosen t Rule s begun e count x end lid to is =
    let has : Contains (lids_of t) lid = lid_in_use t lid is.place is.in_use in
    x.chosen lid to (has.0, omega (arith, has.1, end), has.1, get_or_default (lids_of t) has.0 0 lid has.1 ∙ has.2) is

-- a LID among the first is the last of them or smaller
pub last_or_smaller : (t : Topology) → IsFabric t → (count lid n : ℕ) → count < length (lids_of t) → slice_index (lids_of t) count ≡ lid → IsAmongFirst t (count + 1) n → (n ≡ lid) ⊎ (IsAmongFirst t count n × (n < lid))
last_or_smaller t good count lid n low here among = go (cases_lt among.0 count)
  where
    go : (among.0 < count) ⊎ (count ≤ among.0) → (n ≡ lid) ⊎ (IsAmongFirst t count n × (n < lid))
    go (inl less) = inr ((among.0, less, among.2, among.3), omega (arith, among.3, here, AllPairs-from_increasing (lids_of t) (lids_ascend t good) among.0 count 0 less low))
    go (inr more) =
        let same : among.0 ≡ count = omega (arith, more, among.1) in
        inl (sym among.3 ∙ ap (λ j. slice_index (lids_of t) j) same ∙ here)

module _ (t : Topology) (good : IsFabric t) (Rule : Entries → ℕ → ℕ → ℕ → ℕ → Type 0) (s : ℕ) (begun e : Entries) (count lid : ℕ) (before : IsChoosing t Rule s begun e count)
    (low : count < length (lids_of t)) (here : slice_index (lids_of t) count ≡ lid) where
  -- the LID's entry is not chosen
  pub one_passed : ((to : ℕ) → ¬ IsChosen t s lid to) → IsChoosing t Rule s begun e (count + 1)
  one_passed none = record { fixed = before.fixed; others = before.others; chosen = λ n to among is. at n to is (last_or_smaller t good count lid n low here among) }
    where
      at : (n to : ℕ) → IsChosen t s n to → (n ≡ lid) ⊎ (IsAmongFirst t count n × (n < lid)) → Rule e s n to (entry e s n)
      at n to is (inl same) = absurd (none to (subst (λ m. IsChosen t s m to) same is))
      at n to is (inr smaller) = before.chosen n to smaller.0 is

  -- it is chosen, and meets the rule; those before meet it still
  pub one_chosen : (port : ℕ) (place : Place) → place_of t lid ≡ Some place → IsChosen t s lid place.switch.0 → port < 256 → s < length t.switches →
      ((n to p : ℕ) → n < lid → Rule e s n to p → Rule (with_entry e s lid port) s n to p) → Rule (with_entry e s lid port) s lid place.switch.0 port →
      IsChoosing t Rule s begun (with_entry e s lid port) (count + 1)
  one_chosen port place at is small switch kept meets = record {
    fixed = fixed_kept t e s lid port place.switch.0 before.fixed small switch is;
    others = λ o n other. entry_kept t e s lid port before.fixed.fits switch in_use o n (λ same same_lid. other same) ∙ before.others o n other;
    chosen = λ n to among was. of_lid n to was (last_or_smaller t good count lid n low here among);
  }
    where
      in_use : Contains (lids_of t) lid
      in_use = lid_in_use t lid place at

      of_lid : (n to : ℕ) → IsChosen t s n to → (n ≡ lid) ⊎ (IsAmongFirst t count n × (n < lid)) → Rule (with_entry e s lid port) s n to (entry (with_entry e s lid port) s n)
      of_lid n to was (inl same) =
          let one : place ≡ was.place = same_Some place was.place (sym at ∙ ap (λ m. place_of t m) (sym same) ∙ was.in_use) in
          let to_is : place.switch.0 ≡ to = ap (λ (p : Place). p.switch.0) one ∙ was.at_switch in
          let entry_is : entry (with_entry e s lid port) s n ≡ port = ap (λ m. entry (with_entry e s lid port) s m) same ∙ entry_set t e s lid port before.fixed.fits switch in_use in
          let P : ℕ → Type 0 = λ m. Rule (with_entry e s lid port) s m to (entry (with_entry e s lid port) s n) in
          let Q : ℕ → Type 0 = λ p. Rule (with_entry e s lid port) s lid to p in
          let R : ℕ → Type 0 = λ z. Rule (with_entry e s lid port) s lid z port in
          subst P (sym same) (subst Q (sym entry_is) (subst R to_is meets))
      of_lid n to was (inr smaller) =
          let as_it_was : entry (with_entry e s lid port) s n ≡ entry e s n = entry_kept t e s lid port before.fixed.fits switch in_use s n (λ a b. omega (arith, smaller.1, b)) in
          let P : ℕ → Type 0 = λ p. Rule (with_entry e s lid port) s n to p in
          subst P (sym as_it_was) (kept n to (entry e s n) smaller.1 (before.chosen n to smaller.0 was))

-- ---- the switches so far

-- all switches below this number have their entries
pub record IsChoosingSwitches (t : Topology) (Rule : Entries → ℕ → ℕ → ℕ → ℕ → Type 0) (e : Entries) (count : ℕ) : Type 0 where
  pub fixed : HasFixedEntries t e
  pub chosen : (s : ℕ) → s < count → AreChosenAt t e (Rule e) s

pub no_switches : (t : Topology) (Rule : Entries → ℕ → ℕ → ℕ → ℕ → Type 0) (e : Entries) → HasFixedEntries t e → IsChoosingSwitches t Rule e 0
no_switches t Rule e fixed = record { fixed = fixed; chosen = λ s low. absurd (omega (arith, low)) }

-- one switch more, where the rule speaks of the entries of its switch alone
pub one_switch_more : (t : Topology) (Rule : Entries → ℕ → ℕ → ℕ → ℕ → Type 0) (e f : Entries) (s : ℕ) → IsChoosingSwitches t Rule e s → HasFixedEntries t f → AreChosenAt t f (Rule f) s → KeepsOtherSwitches s e f →
    ((o lid to port : ℕ) → ((n : ℕ) → entry e o n ≡ entry f o n) → Rule e o lid to port → Rule f o lid to port) → IsChoosingSwitches t Rule f (s + 1)
one_switch_more t Rule e f s before fixed chosen others kept = record { fixed = fixed; chosen = λ o low. at o (cases_eq o s) low }
  where
    at : (o : ℕ) → (o ≡ s) ⊎ (o ≢ s) → o < s + 1 → AreChosenAt t f (Rule f) o
    at o (inl same) low lid to is = (subst (λ x. AreChosenAt t f (Rule f) x) (sym same) chosen) lid to is
    at o (inr other) low lid to is =
        let P : ℕ → Type 0 = λ port. Rule f o lid to port in
        subst P (sym (others o lid other)) (kept o lid to (entry e o lid) (λ n. sym (others o n other)) (before.chosen o (omega (arith, low, other)) lid to is))

pub all_switches : (t : Topology) → IsWellFormed t → (Rule : Entries → ℕ → ℕ → ℕ → ℕ → Type 0) (e : Entries) (count : ℕ) → IsChoosingSwitches t Rule e count → length t.switches ≤ count → HasChosenEntries t e (Rule e)
all_switches t good Rule e count done end = record { fixed = done.fixed; chosen = λ s lid to is. done.chosen s (omega (arith, end, below s lid to is)) lid to is }
  where
    below : (s lid to : ℕ) → IsChosen t s lid to → s < length t.switches
    below s lid to is = connected_below t good s lid (is.place, is.in_use, subst (λ x. AreConnected t s x) (sym is.at_switch) is.connected)

-- Balanced choices among eligible ports, as the LIDs are gone through at one switch.
use Rattle.std.proofs.Common.{◌≡◌, ◌≢◌, ℕ, ◌+◌, ◌<◌, ◌≤◌, List, [], length, Some, refl, sym, ◌∙◌, ap, subst, arith, Contains, set}
use Rattle.std.specs.Prelude.{slice_index, ◌↔◌, replicate}
use Rattle.std.proofs.lemmas.List.{length-replicate}
use Rattle.std.proofs.lemmas.Option.{same_Some}
use Rattle.fab_model.specs.declared.rows.Place.{Place}
use Rattle.fab_model.specs.Topology.{Topology, place_of, lids_of}
use Rattle.fab_model.specs.WellFormed.{IsFabric}
use Rattle.fab_tables.specs.Entries.{Entries, entry, with_entry}
use Rattle.fab_tables.specs.FixedEntries.{HasFixedEntries, IsChosen}
use Rattle.fab_tables.proofs.Joined.Lids.{lid_in_use}
use Rattle.fab_balance.specs.Loads.{IsBalancedChoice, IsPicked}
use Rattle.fab_balance.proofs.LoadCounts.{balanced_kept}
use Rattle.fab_tables.proofs.Rows.EntriesSet.{entry_kept}
use Rattle.fab_balance.proofs.Placing.{all_alike}
use Rattle.fab_balance.proofs.Choosing.{IsChoosing, none_chosen, one_passed, one_chosen}
use Rattle.fab_balance.proofs.Balancing.{HasLoads, none_sent, none_more_sent, one_more_sent, picked_is_balanced}

-- the balanced choice among the ports that are eligible at a switch for a destination's switch
abbrev pub IsChoice : Topology → (ℕ → ℕ → ℕ → Type 0) → Entries → ℕ → ℕ → ℕ → ℕ → Type 0
IsChoice t Eligible e s lid to port = IsBalancedChoice t e s lid (λ p. Eligible s to p) port

-- For the first so many LIDs the switch has its entries, and the counters hold the loads.
pub record IsBalancing (t : Topology) (Eligible : ℕ → ℕ → ℕ → Type 0) (s : ℕ) (begun e : Entries) (count : ℕ) (loads : List ℕ) : Type 0 where
  pub choosing : IsChoosing t (λ x. IsChoice t Eligible x) s begun e count
  pub counters : HasLoads t e s count loads

-- the entry of one LID more is chosen, and no other one of the switch changed
pub record IsOneMore (t : Topology) (Eligible : ℕ → ℕ → ℕ → Type 0) (s : ℕ) (begun e f : Entries) (count lid : ℕ) : Type 0 where
  pub choosing : IsChoosing t (λ x. IsChoice t Eligible x) s begun f (count + 1)
  pub same : (n : ℕ) → n ≢ lid → entry e s n ≡ entry f s n

-- the ports that are eligible at a switch are small, and there are some exactly where an entry is chosen
pub record IsEligibility (t : Topology) (Eligible : ℕ → ℕ → ℕ → Type 0) (s : ℕ) : Type 0 where
  pub small : (to port : ℕ) → Eligible s to port → port < 256
  pub chosen : (lid port : ℕ) (place : Place) → place_of t lid ≡ Some place → Eligible s place.switch.0 port → IsChosen t s lid place.switch.0
  pub some : (lid to : ℕ) → IsChosen t s lid to → (port : ℕ) × Eligible s to port

module _ (t : Topology) (good : IsFabric t) (Eligible : ℕ → ℕ → ℕ → Type 0) (s : ℕ) (is : IsEligibility t Eligible s) (begun e : Entries) (count lid : ℕ) (place : Place) (loads : List ℕ) (at : place_of t lid ≡ Some place) (low : count < length (lids_of t))
    (here : slice_index (lids_of t) count ≡ lid) (switch : s < length t.switches) (before : IsBalancing t Eligible s begun e count loads) (ports : List ℕ) (are : (port : ℕ) → Contains ports port ↔ Eligible s place.switch.0 port) where
  pub none_picked : ports ≡ [] → IsOneMore t Eligible s begun e e count lid
  none_picked none = record {
    choosing = one_passed t good (λ x. IsChoice t Eligible x) s begun e count lid before.choosing low here not_chosen;
    same = λ n other. refl;
  }
    where
      no_port : {port : ℕ} → Contains [] port → ⊥
      no_port has = omega (arith, has.1)

      not_chosen : (to : ℕ) → ¬ IsChosen t s lid to
      not_chosen to x =
          let found : (port : ℕ) × Eligible s to port = is.some lid to x in
          let to_is : to ≡ place.switch.0 = sym x.at_switch ∙ ap (λ (p : Place). p.switch.0) (same_Some x.place place (sym x.in_use ∙ at)) in
          no_port (subst (λ xs. Contains xs found.0) none ((are found.0).1 (subst (λ y. Eligible s y found.0) to_is found.1)))

  pub one_picked : (port : ℕ) → port < 256 → IsPicked loads ports port → IsOneMore t Eligible s begun e (with_entry e s lid port) count lid
  one_picked port small picked = record {
    choosing = one_chosen t good (λ x. IsChoice t Eligible x) s begun e count lid before.choosing low here port place at (is.chosen lid port place at ((are port).0 picked.listed)) small switch
        (λ n to p less meets. balanced_kept t e (with_entry e s lid port) s n (λ m below. same m (λ equal. omega (arith, less, below, equal))) (λ q. Eligible s to q) p meets)
        (picked_is_balanced t good e (with_entry e s lid port) s count lid place at low here same loads before.counters (λ q. Eligible s place.switch.0 q) ports port are (λ p x. is.small place.switch.0 p x) picked);
    same = same;
  }
    where
      same : (n : ℕ) → n ≢ lid → entry e s n ≡ entry (with_entry e s lid port) s n
      same n other = sym (entry_kept t e s lid port before.choosing.fixed.fits switch (lid_in_use t lid place at) s n (λ a b. other b))

-- then the LID is counted, if it is a terminal's
module _ (t : Topology) (good : IsFabric t) (Eligible : ℕ → ℕ → ℕ → Type 0) (s : ℕ) (begun e f : Entries) (count lid : ℕ) (place : Place) (loads : List ℕ) (at : place_of t lid ≡ Some place) (low : count < length (lids_of t))
    (here : slice_index (lids_of t) count ≡ lid) (before : HasLoads t e s count loads) (more : IsOneMore t Eligible s begun e f count lid) where
  pub not_counted : place.port ≤ 0 → IsBalancing t Eligible s begun f (count + 1) loads
  not_counted none = record { choosing = more.choosing; counters = none_more_sent t good e f s count lid place at low here more.same loads before none }

  pub counted : 0 < place.port → IsBalancing t Eligible s begun f (count + 1) (set loads (entry f s lid) (slice_index loads (entry f s lid) + 1))
  counted some = record { choosing = more.choosing; counters = one_more_sent t good e f s count lid place at low here more.same loads before some }

pub none_balanced : (t : Topology) → IsFabric t → (Eligible : ℕ → ℕ → ℕ → Type 0) (s : ℕ) (e : Entries) → HasFixedEntries t e → IsBalancing t Eligible s e e 0 (replicate 256 0)
none_balanced t good Eligible s e fixed = record {
  choosing = none_chosen t (λ x. IsChoice t Eligible x) s e fixed;
  counters = none_sent t good e s (replicate 256 0) (length-replicate {A = ℕ} 256 0) (λ port. all_alike 256 0 port);
}

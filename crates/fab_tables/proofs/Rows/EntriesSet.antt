-- What setting an entry changes, and that the fixed entries stay where a chosen one is set.
use Rattle.std.proofs.Common.{◌≡◌, ◌≢◌, ℕ, ◌<◌, ◌≤◌, ◌⊎◌, inl, inr, false, Option, Some, None, length, refl, sym, ◌∙◌, ap, subst, arith, Contains, length-set}
use Rattle.std.proofs.lemmas.List.{length-replicate}
use Rattle.std.proofs.lemmas.List.Elements.{All-set, All-replicate}
use Rattle.std.specs.Prelude.{◌==◌, ◌&&◌}
use Rattle.std.proofs.lemmas.Bool.{cases_eq, eq-eqb, ne_eqb, and_from, and_left, and_right}
use Rattle.std.proofs.lemmas.Option.{same_Some}
use Rattle.fab_model.specs.declared.rows.Place.{Place}
use Rattle.fab_model.specs.Topology.{Topology, place_of, lids_of}
use Rattle.fab_model.specs.Connected.{AreConnected, IsConnectedTo}
use Rattle.fab_model.specs.WellFormed.{IsFabric}
use Rattle.fab_tables.specs.Entries.{Entries, AreEntries, index_of, entry, with_port_in_column, with_entry, no_entries}
use Rattle.fab_tables.specs.Fit.{EntriesFit}
use Rattle.fab_tables.specs.FixedEntries.{HasFixedEntries, IsChosen}
use Rattle.fab_tables.proofs.Joined.Ascending.{lids_are}
use Rattle.fab_tables.proofs.Joined.Lids.{lid_in_use}
use Rattle.fab_tables.proofs.Rows.Cells.{one_entry_changes, port_past, chosen, passed}

-- the switches and the LIDs stay
pub entries_keep : (e : Entries) (s lid port : ℕ) → ((with_entry e s lid port).switches ≡ e.switches) × ((with_entry e s lid port).in_use ≡ e.in_use)
entries_keep e s lid port = go (index_of lid e.in_use)
  where
    go : (place : Option ℕ) → ((with_port_in_column e s port place).switches ≡ e.switches) × ((with_port_in_column e s port place).in_use ≡ e.in_use)
    go None = (refl, refl)
    go (Some i) = (refl, refl)

pub entries_whole : (e : Entries) (s lid port : ℕ) → AreEntries e → port < 256 → AreEntries (with_entry e s lid port)
entries_whole e s lid port are low = go (index_of lid e.in_use)
  where
    go : (place : Option ℕ) → AreEntries (with_port_in_column e s port place)
    go None = are
    go (Some i) = record {
      ascending = are.ascending;
      whole = length-set e.ports _ port ∙ are.whole;
      low_lids = are.low_lids;
      low_ports = All-set (λ p. p < 256) e.ports _ port low are.low_ports;
    }

-- tables of a fabric in which nothing is set
pub no_entries_fit : (t : Topology) → IsFabric t → EntriesFit t (no_entries (length t.switches) (lids_of t))
no_entries_fit t is = record {
  whole = record { ascending = (lids_are t is).ascending; whole = length-replicate _ 255; low_lids = (lids_are t is).fit; low_ports = All-replicate (λ p. p < 256) _ 255 (omega arith) };
  switches = refl;
  in_use = refl;
}

module _ (t : Topology) (e : Entries) (s lid port : ℕ) (fits : EntriesFit t e) (low : s < length t.switches) (in_use : Contains (lids_of t) lid) where
  pub within : s < e.switches
  within = omega (arith, low, fits.switches)

  pub has : Contains e.in_use lid
  has = subst (λ ns. Contains ns lid) (sym fits.in_use) in_use

  pub fits_kept : port < 256 → EntriesFit t (with_entry e s lid port)
  fits_kept small = record { whole = entries_whole e s lid port fits.whole small; switches = (entries_keep e s lid port).0 ∙ fits.switches; in_use = (entries_keep e s lid port).1 ∙ fits.in_use }

  pub entry_set : entry (with_entry e s lid port) s lid ≡ port
  entry_set = one_entry_changes e s lid port s lid fits.whole within has ∙ sym (chosen ((s == s) && (lid == lid)) port _ (and_from _ _ (eq-eqb s s refl) (eq-eqb lid lid refl)))

  pub entry_kept : (o n : ℕ) → (o ≡ s → n ≡ lid → ⊥) → entry (with_entry e s lid port) o n ≡ entry e o n
  entry_kept o n other = one_entry_changes e s lid port o n fits.whole within has ∙ sym (passed ((o == s) && (n == lid)) port (entry e o n) (differs (cases_eq o s)))
    where
      differs : (o ≡ s) ⊎ (o ≢ s) → ((o == s) && (n == lid)) ≡ false
      differs (inl same) = and_right (o == s) (n == lid) (ne_eqb n lid (other same))
      differs (inr not_same) = and_left (o == s) (n == lid) (ne_eqb o s not_same)

-- past the switches every entry is 255
pub entry_past : (t : Topology) (e : Entries) (s lid : ℕ) → EntriesFit t e → length t.switches ≤ s → entry e s lid ≡ 255
entry_past t e s lid fits past = port_past e s (index_of lid e.in_use) (omega (arith, past, fits.switches))

-- a chosen entry is none of the fixed ones
pub fixed_kept : (t : Topology) (e : Entries) (s lid port to : ℕ) → HasFixedEntries t e → port < 256 → s < length t.switches → IsChosen t s lid to →
    HasFixedEntries t (with_entry e s lid port)
fixed_kept t e s lid port to fixed small low is =
    let in_use : Contains (lids_of t) lid = lid_in_use t lid is.place is.in_use in
    record {
      fits = fits_kept t e s lid port fixed.fits low in_use small;
      own = λ n place at. entry_kept t e s lid port fixed.fits low in_use place.switch.0 n (not_own n place at) ∙ fixed.own n place at;
      apart = λ o n no_way. entry_kept t e s lid port fixed.fits low in_use o n (not_apart o n no_way) ∙ fixed.apart o n no_way;
    }
  where
    not_own : (n : ℕ) (place : Place) → place_of t n ≡ Some place → place.switch.0 ≡ s → n ≡ lid → ⊥
    not_own n place at same_switch same_lid =
        let one : place ≡ is.place = same_Some place is.place (sym at ∙ ap (λ m. place_of t m) same_lid ∙ is.in_use) in
        is.other (sym same_switch ∙ ap (λ (p : Place). p.switch.0) one ∙ is.at_switch)

    not_apart : (o n : ℕ) → ¬ IsConnectedTo t o n → o ≡ s → n ≡ lid → ⊥
    not_apart o n no_way same_switch same_lid =
        no_way (is.place, ap (λ m. place_of t m) same_lid ∙ is.in_use, subst (λ x. AreConnected t x is.place.switch.0) (sym same_switch) (subst (λ x. AreConnected t s x) (sym is.at_switch) is.connected))

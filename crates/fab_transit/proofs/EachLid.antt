-- The walks to the LIDs are found one LID after the other.
use Rattle.std.proofs.Common.{◌≡◌, ℕ, ◌+◌, ◌*◌, ◌<◌, ◌≤◌, List, [], length, replicate, Bool, false, sym, ◌∙◌, ap, subst, inl, inr, arith, Contains, Some, None, slice_get}
use Rattle.std.specs.Prelude.{slice_index_or}
use Rattle.std.proofs.lemmas.Bool.{cases_lt, false≢true}
use Rattle.std.proofs.lemmas.List.{length-replicate}
use Rattle.std.proofs.lemmas.Option.{same_Some, none-some, slice_get-get_or}
use Rattle.fab_model.specs.Topology.{Topology, lids_of}
use Rattle.fab_tables.proofs.Joined.Lids.{connected_in_use}
use Rattle.fab_certify.specs.Collected.{Collected}
use Rattle.fab_certify.proofs.Engines.Mapping.{all_alike}
use Rattle.fab_transit.specs.declared.walks.Walks.{Walks}
use Rattle.fab_transit.specs.MixedWalks.{Change, bound, Standing, ComesTo}
use Rattle.fab_transit.specs.Finding.{Findings, AreRooms}
use Rattle.fab_transit.specs.Walking.{Keeps, AreFromWalks, AreFoundFor, HasWalks, AreWalks}
use Rattle.fab_transit.proofs.Seeing.{walks_kept}

not_in_none : {A : Type 0} (x : A) → Contains [] x → ⊥
not_in_none x has = omega (arith, has.1)

-- nothing is noted at first
pub from_nothing : (t : Topology) (m : Change) (c : Collected) → c.used ≡ replicate (length t.channels * bound m) false → c.pairs ≡ [] → AreFromWalks t m (record { dependencies = c; fault = None })
from_nothing t m c used pairs = record {
  each = ap (λ (bs : List Bool). length bs) used ∙ length-replicate (length t.channels * bound m) false;
  used = λ n is. absurd (false≢true (sym (all_alike (length t.channels * bound m) n false) ∙ ap (λ (bs : List Bool). slice_index_or bs n false) (sym used) ∙ is));
  pairs = λ a b has. absurd (not_in_none (a, b) (subst (λ (ps : List (ℕ × ℕ)). Contains ps (a, b)) pairs has));
  fault = λ x is. absurd (none-some x is);
}

-- nor is anything found
pub found_nothing : (t : Topology) (m : Change) (lid : ℕ) (f : Findings) → AreRooms (record { fabric = t; change = m }) f → AreFoundFor t m lid (record f { taken = [] })
found_nothing t m lid f rooms = record { rooms = record { channels = rooms.channels; bound = rooms.bound }; taken = λ x has. absurd (not_in_none x has) }

-- the walks to the LIDs before this one are noted
abbrev pub HaveWalks : Topology → Change → Walks → ℕ → Type 0
HaveWalks t m w index = (k lid : ℕ) → k < index → slice_get (lids_of t) k ≡ Some lid → HasWalks t m lid w

pub one_lid_more : (t : Topology) (m : Change) (w y : Walks) (index lid : ℕ) → slice_get (lids_of t) index ≡ Some lid → Keeps w y → HaveWalks t m w index → HasWalks t m lid y → HaveWalks t m y (index + 1)
one_lid_more t m w y index lid at keeps before here k other low there = elim (cases_lt k index) [
  | inl less ↦ walks_kept t m other w y keeps (before k other less there)
  | inr same ↦
      (let eq : index ≡ k = omega (arith, low, same) in
      subst (λ n. HasWalks t m n y) (same_Some lid other (sym at ∙ ap (λ n. slice_get (lids_of t) n) eq ∙ there)) here)
]

pub all_walks : (t : Topology) (m : Change) (w : Walks) (index : ℕ) → length (lids_of t) ≤ index → AreFromWalks t m w → HaveWalks t m w index → AreWalks t m w
all_walks t m w index past from have = record { from_walks = from; has = has }
  where
    in_use : (lid of_level : ℕ) (there : Standing) → ComesTo t m lid of_level there → HasWalks t m lid w
    in_use lid of_level there comes =
        let place : Contains (lids_of t) lid = connected_in_use t comes.0.switch.0 lid comes.2.path.connected in
        have place.0 lid (omega (arith, past, place.1)) (slice_get-get_or (lids_of t) place.0 lid place.1 ∙ ap (λ (n : ℕ). Some n) place.2)

    has : (lid : ℕ) → HasWalks t m lid w
    has lid = record {
      used = λ x on. (in_use lid x.level on.0 on.1).used x on;
      pairs = λ x v on next. (in_use lid x.level on.0 on.1).pairs x v on next;
      faults = λ of_level there x comes wrong. (in_use lid of_level there comes).faults of_level there x comes wrong;
    }

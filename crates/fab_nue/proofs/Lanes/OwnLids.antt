-- Each switch has a LID of its own, whose place is the switch.
use Rattle.std.proofs.Common.{◌≡◌, ℕ, ◌<◌, [], length, sym, ap, Some, Option}
use Rattle.std.specs.Prelude.{◌==◌, slice_index_or, option_map, position}
use Rattle.std.specs.Option.{option_or}
use Rattle.std.proofs.lemmas.Bool.{ne_eqb, eq-eqb}
use Rattle.fab_model.specs.declared.rows.SwitchRow.{SwitchRow}
use Rattle.fab_model.specs.declared.rows.Place.{Place}
use Rattle.fab_model.specs.Topology.{Topology, switch_id, place_of, terminal_place}
use Rattle.fab_model.specs.WellFormed.{IsWellFormed}
use Rattle.fab_model.proofs.Finds.{position_is}
use Rattle.std.proofs.Common.{refl}

pub own_place : (t : Topology) (s : ℕ) → IsWellFormed t → s < length t.switches → (lid : ℕ) × (place : Place) × (place_of t lid ≡ Some place) × (place.switch.0 ≡ s)
own_place t s good low =
    (own, record { switch = switch_id s; port = 0 }, ap (λ o. option_or (option_map (λ number. record { switch = switch_id number; port = 0 }) o) (terminal_place t own)) first, refl)
  where
    some_row : SwitchRow
    some_row = record { guid = 0; lid = record { 0 = 0 }; ports = 0; desc = [] }

    own : ℕ
    own = (slice_index_or t.switches s some_row).lid.0

    first : position (λ (row : SwitchRow). row.lid.0 == own) t.switches ≡ Some s
    first = position_is (λ (row : SwitchRow). row.lid.0 == own) t.switches s some_row low (eq-eqb own own refl)
        (λ k less. ne_eqb _ _ (λ same. good.switch_lids_differ k s some_row less low same))

-- Switches are marked for levels.
use Rattle.std.proofs.Common.{◌≡◌, ℕ, ◌+◌, ◌*◌, ◌/◌, ◌%◌, ◌<◌, Bool, true, false, List, length, replicate, sym, ◌∙◌, ap, inl, inr, ◌⊎◌, arith, get_or-set_other}
use Rattle.std.specs.Prelude.{slice_set}
use Rattle.std.proofs.lemmas.Bool.{cases_eq, false≢true}
use Rattle.std.proofs.lemmas.List.{length-set}
use Rattle.std.proofs.lemmas.Nat.{div-mul-add, mod-mul-add, mul-add-lt}
use Rattle.fab_model.specs.Topology.{Topology}
use Rattle.fab_tables.specs.Entries.{Entries, cell}
use Rattle.fab_tables.specs.LaneTables.{LaneTables}
use Rattle.fab_tables.specs.Judged.{IsRoomFor}
use Rattle.fab_certify.specs.Collected.{Collected, IsMarkedAt, AreBehind}
use Rattle.fab_certify.proofs.Engines.Mapping.{all_alike}

-- nothing is marked at first
pub none_behind : (t : Topology) (e : Entries) (l : LaneTables) (lid n : ℕ) (c : Collected) → AreBehind t e l lid (replicate n false) c
none_behind t e l lid n c s of_level few is = absurd (false≢true (sym (all_alike n (cell 16 s of_level) false) ∙ is))

-- there is room for a mark at each switch and level
pub room_for : (t : Topology) (marks : List Bool) (s of_level : ℕ) → IsRoomFor t marks → s < length t.switches → of_level < 16 → s * 16 + of_level < length marks
room_for t marks s of_level room low few = omega (arith, room, mul-add-lt s 16 of_level (length t.switches) low few)

-- a mark that is new is that of this switch and this level
pub marks_only : (marks : List Bool) (s of_level other at : ℕ) → of_level < 16 → at < 16 → IsMarkedAt (slice_set marks (cell 16 s of_level) true) other at →
    IsMarkedAt marks other at ⊎ ((other ≡ s) × (at ≡ of_level))
marks_only marks s of_level other at few low is = elim (cases_eq (cell 16 other at) (cell 16 s of_level)) [
  | inr ne ↦ inl (sym (get_or-set_other marks (cell 16 s of_level) (cell 16 other at) true false ne) ∙ is)
  | inl same ↦ inr (
    sym (div-mul-add other 16 at low) ∙ ap (λ n. n / 16) same ∙ div-mul-add s 16 of_level few,
    sym (mod-mul-add other 16 at low) ∙ ap (λ n. n % 16) same ∙ mod-mul-add s 16 of_level few,
  )
]

pub room_still : (t : Topology) (marks : List Bool) (place : ℕ) → IsRoomFor t marks → IsRoomFor t (slice_set marks place true)
room_still t marks place room = length-set marks place true ∙ room

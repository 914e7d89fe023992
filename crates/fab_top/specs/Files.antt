-- What the files of the words say, and what else the words name. What can't be taken is refused with a text.
use Rattle.std.specs.Prelude.{ℕ, ◌+◌, ◌<◌, All, List, [], ◌∷◌, length, find, Bool, false, Option, Some, None, Result, Ok, Err, ok_or, nat_lt, ◌==◌, slice_get, if◌then◌else◌}
use Rattle.std.specs.List.{range_with_len}
use Rattle.fab_text.specs.Readings.{◌>>=◌}
use Rattle.fab_model.specs.declared.rows.Cable.{Cable}
use Rattle.fab_model.specs.declared.rows.Place.{Place}
use Rattle.fab_model.specs.declared.rows.TerminalRow.{TerminalRow}
use Rattle.fab_model.specs.Topology.{Topology, switch_of, place_of}
use Rattle.fab_model.specs.Built.{built}
use Rattle.fab_model.specs.Without.{taken_out}
use Rattle.fab_netdiscover.specs.Reading.{records_in}
use Rattle.fab_tables.specs.declared.plan.Plan.{Plan}
use Rattle.fab_dump.specs.Reading.{plan_of}
use Rattle.fab_repair.specs.FailedList.{cables_in}
use Rattle.fab_mcast.specs.GroupList.{Group}
use Rattle.fab_mcast.specs.GroupList as listed
use Rattle.fab_top.specs.FaultTexts.{too_long_text, read_fault_text, fabric_fault_text, plan_fault_text, failed_fault_text, group_fault_text, unknown_root_text, without_fault_text, unknown_lid_text, unknown_group_text, no_member_text}

-- the greatest lengths in bytes
abbrev pub fabric_limit : ℕ
fabric_limit = 67108864

abbrev pub plan_limit : ℕ
plan_limit = 536870912

-- of a list of failed cables, and of a list of groups
abbrev pub list_limit : ℕ
list_limit = 1048576

-- a fault by its text
abbrev pub by_text : {X E : Type 0} → (E → List ℕ) → Result X E → Result X (List ℕ)
by_text text (Ok x) = Ok x
by_text text (Err fault) = Err (text fault)

-- the reading of a file that is not too long
abbrev pub within : {X : Type 0} → ℕ → List ℕ → List ℕ → Result X (List ℕ) → Result X (List ℕ)
within limit name bytes read = if nat_lt limit (length bytes) then Err (too_long_text name) else read

-- the fabric that a file of this name says, a plan of a fabric, and the failed cables
abbrev pub fabric_in : List ℕ → List ℕ → Result Topology (List ℕ)
fabric_in name bytes = within fabric_limit name bytes (
    by_text (read_fault_text name) (records_in bytes) >>= λ records. by_text (fabric_fault_text name) (built records))

abbrev pub plan_in : Topology → List ℕ → List ℕ → Result Plan (List ℕ)
plan_in t name bytes = within plan_limit name bytes (by_text (plan_fault_text name) (plan_of t bytes))

abbrev pub failed_in : List ℕ → List ℕ → Result (List Cable) (List ℕ)
failed_in name bytes = within list_limit name bytes (by_text (failed_fault_text name) (cables_in bytes))

-- the groups of a fabric
abbrev pub groups_in : Topology → List ℕ → List ℕ → Result (List Group) (List ℕ)
groups_in t name bytes = within list_limit name bytes (by_text (group_fault_text name) (listed.groups_in t bytes))

-- their members are terminals of the fabric
abbrev pub AreKnown : Topology → List Group → Type 0
AreKnown t groups = All (λ (g : Group). All (λ n. n < length t.terminals) g.members) groups

-- ---- what is named

-- the fabric without the cables that a file of this name lists, which are all in it
abbrev pub without_failed : List ℕ → Topology → List Cable → Result Topology (List ℕ)
without_failed name t cables = by_text (without_fault_text name) (taken_out t cables)

-- the switches with these GUIDs, which are all in the fabric; the first has this number among the named ones
abbrev pub roots_from : ℕ → Topology → List ℕ → Result (List ℕ) (List ℕ)
roots_from index t [] = Ok []
roots_from index t (guid ∷ others) = ok_or (switch_of t guid) (unknown_root_text index) >>= λ root. roots_from (index + 1) t others >>= λ roots. Ok (root ∷ roots)

-- the place of a named LID
abbrev pub known_place : Topology → ℕ → Result Place (List ℕ)
known_place t lid = ok_or (place_of t lid) (unknown_lid_text lid)

-- the place in the list of the group of this number
abbrev pub has_number : ℕ → Option Group → Bool
has_number number None = false
has_number number (Some g) = g.number == number

abbrev pub known_group : List Group → ℕ → Result ℕ (List ℕ)
known_group groups number = ok_or (find (λ n. has_number number (slice_get groups n)) (range_with_len 0 (length groups))) (unknown_group_text number)

-- the members of a group
abbrev pub members_in : Option Group → List ℕ
members_in None = []
members_in (Some g) = g.members

-- the one of them that has a LID
abbrev pub has_lid : ℕ → Option TerminalRow → Bool
has_lid lid None = false
has_lid lid (Some row) = row.lid.0 == lid

abbrev pub known_member : Topology → List ℕ → ℕ → Result ℕ (List ℕ)
known_member t members lid = ok_or (find (λ n. has_lid lid (slice_get t.terminals n)) members) (no_member_text lid)

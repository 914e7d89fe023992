-- The plan that the three texts say: the ports of the tables' rows, the levels that the policy gives to the first terminal of each source,
-- and the written map at every switch. The numbers of the certificate are in no text.
use Rattle.std.specs.Prelude.{ℕ, List, [], ◌∷◌, map, flat_map, Option, None, option_map, if◌then◌else◌}
use Rattle.std.specs.List.{range_with_len}
use Rattle.fab_model.specs.Topology.{Topology, is_source}
use Rattle.fab_tables.specs.declared.plan.Plan.{Plan}
use Rattle.fab_tables.specs.Entries.{Entries, entry}
use Rattle.fab_tables.specs.LaneTables.{LaneTables}
use Rattle.fab_export.specs.PortGuids.{port_guid, terminal_guids}
use Rattle.fab_export.specs.Reached.{is_reached}
use Rattle.fab_export.specs.LevelsInUse.{written_map}
use Rattle.fab_export.specs.Policies.{Policy, policy_of, first_match}

-- the port of a LID's row, and 255 where it has none
abbrev pub port_said : Topology → Entries → ℕ → ℕ → ℕ
port_said t e s lid = if is_reached t e s lid then entry e s lid else 255

-- LID by LID, the value for each switch
abbrev pub by_lid : {A : Type 0} → ℕ → List ℕ → (ℕ → ℕ → A) → List A
by_lid switches lids value = flat_map (λ lid. map (λ s. value s lid) (range_with_len 0 switches)) lids

abbrev pub entries_said : Topology → Entries → Entries
entries_said t e = record e { ports = by_lid e.switches e.in_use (port_said t e) }

-- the GUID of a source's first terminal
abbrev pub first_guid : List ℕ → ℕ
first_guid [] = 0
first_guid (guid ∷ guids) = guid

-- the level of a source's first terminal for a LID
abbrev pub level_said : Topology → Policy → ℕ → ℕ → Option ℕ
level_said t policy s lid = if is_source t s then first_match policy (first_guid (terminal_guids t s)) (port_guid t lid) else None

abbrev pub lanes_by : Topology → LaneTables → Policy → List ℕ → LaneTables
lanes_by t l policy lanes =
    record l { levels = by_lid l.switches l.in_use (level_said t policy); general = flat_map (λ s. lanes) (range_with_len 0 l.switches); pairs = [] }

abbrev pub lanes_said : Topology → Entries → LaneTables → LaneTables
lanes_said t e l = lanes_by t l (policy_of t e l) (written_map t e l)

abbrev pub plan_said : Topology → Plan → Plan
plan_said t p = record { tables = entries_said t p.tables; lanes = option_map (lanes_said t p.tables) p.lanes }

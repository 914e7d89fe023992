-- The faults of a route's hops, one after the other.
use Rattle.std.specs.Prelude.{◌==◌, nat_le, Option, Some, None, if◌then◌else◌}
use Rattle.fab_model.specs.declared.rows.Lid.{Lid}
use Rattle.fab_model.specs.declared.rows.SwitchId.{SwitchId}
use Rattle.fab_tables.specs.declared.verdict.VirtualChannel.{VirtualChannel}
use Rattle.fab_tables.specs.declared.verdict.Verdict.{Verdict}
use Rattle.fab_tables.specs.declared.verdict.Verdict.TheVariants.{BadLane, NoNumber, NotRising}
use Rattle.fab_tables.specs.declared.lane_faults.LaneFaults.{LaneFaults}
use Rattle.fab_tables.specs.declared.lane_faults.LaneFaults.TheVariants.{Every, Structural}
use Rattle.fab_tables.specs.LaneTables.{LaneTables}
use Rattle.fab_tables.specs.Certified.{number_of}

-- a hop's number is not above that of the hop before
abbrev pub fault_after : LaneTables → Lid → SwitchId → Option VirtualChannel → VirtualChannel → Option Verdict
fault_after l lid source None hop = None
fault_after l lid source (Some first) hop =
    if nat_le (number_of l hop) (number_of l first) then Some (NotRising lid source first hop (number_of l first) (number_of l hop)) else None

-- it has none, or such a one
abbrev pub fault_of_number : LaneTables → Lid → SwitchId → Option VirtualChannel → VirtualChannel → Option Verdict
fault_of_number l lid source before hop = if number_of l hop == 0 then Some (NoNumber lid source hop) else fault_after l lid source before hop

abbrev pub fault_sought : LaneFaults → LaneTables → Lid → SwitchId → Option VirtualChannel → VirtualChannel → Option Verdict
fault_sought Every l lid source before hop = fault_of_number l lid source before hop
fault_sought Structural l lid source before hop = None

-- the fault of a hop that leaves this switch, if it has one of those that are looked for
abbrev pub fault_of_hop : LaneFaults → LaneTables → Lid → SwitchId → SwitchId → Option VirtualChannel → VirtualChannel → Option Verdict
fault_of_hop faults l lid source tail before hop =
    if nat_le l.count hop.lane then Some (BadLane lid source tail) else fault_sought faults l lid source before hop

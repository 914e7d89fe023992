-- How the lanes of a plan are read. A plan without lanes is read with one lane, level 0 for each source and LID connected to it, and
-- the engines' map of one lane.
use Rattle.std.specs.Prelude.{◌≡◌, ℕ, ◌<◌, List, map, Option, Some, None}
use Rattle.fab_model.specs.declared.rows.TerminalRow.{TerminalRow}
use Rattle.fab_model.specs.Topology.{Topology}
use Rattle.fab_model.specs.WellFormed.{IsFabric}
use Rattle.fab_tables.specs.declared.plan.Plan.{Plan}
use Rattle.fab_tables.specs.declared.verdict.VirtualChannel.{VirtualChannel}
use Rattle.fab_tables.specs.LaneTables.{LaneTables, level, lane_at, lane_of_level}
use Rattle.fab_tables.specs.Route.{route}
use Rattle.fab_tables.specs.VirtualChannels.{virtual_channel, virtual_channels}
use Rattle.fab_tables.specs.Dependencies.{IsPath, AreReadLanes}

abbrev pub count_read : Option LaneTables → ℕ
count_read None = 1
count_read (Some l) = l.count

-- the level of a source for a LID connected to it
abbrev pub level_read : Option LaneTables → ℕ → ℕ → Option ℕ
level_read None s lid = Some 0
level_read (Some l) s lid = level l s lid

-- the lane of a level for a packet that comes to a switch by one port and leaves it by another
abbrev pub lane_read : Option LaneTables → ℕ → ℕ → ℕ → ℕ → ℕ
lane_read None s from to of_level = lane_of_level 1 of_level
lane_read (Some l) s from to of_level = lane_at l s from to of_level

-- the virtual channels of the route from a terminal's switch to a LID connected to it
abbrev pub channels_read : Topology → Plan → Option LaneTables → TerminalRow → ℕ → List VirtualChannel
channels_read t plan None p lid = map (λ c. virtual_channel c 0) (route t plan.tables p.switch.0 lid).channels
channels_read t plan (Some l) p lid = virtual_channels t plan.tables l p lid

abbrev pub hops_read : Topology → Plan → TerminalRow → ℕ → List VirtualChannel
hops_read t plan p lid = channels_read t plan plan.lanes p lid

-- these are the lanes with which the plan is read
abbrev pub ReadingAgrees : Type 0
ReadingAgrees = (t : Topology) (plan : Plan) (l : LaneTables) → IsFabric t → AreReadLanes t plan.lanes l →
    (count_read plan.lanes ≡ l.count)
    × ((p : TerminalRow) (lid : ℕ) → IsPath t p lid → level_read plan.lanes p.switch.0 lid ≡ level l p.switch.0 lid)
    × ((s from to of_level : ℕ) → s < l.switches → of_level < 16 → lane_read plan.lanes s from to of_level ≡ lane_at l s from to of_level)
    × ((p : TerminalRow) (lid : ℕ) → IsPath t p lid → hops_read t plan p lid ≡ virtual_channels t plan.tables l p lid)

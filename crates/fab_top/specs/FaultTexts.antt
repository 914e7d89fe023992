-- The texts of what is wrong with a file, or with what was named.
use Rattle.std.specs.Prelude.{ℕ, ◌+◌, List, [], ◌++◌, codes, decimal}
use Rattle.fab_model.specs.declared.fault.FabricFault.{FabricFault}
use Rattle.fab_model.specs.declared.fault.FabricFault.TheVariants as build
use Rattle.fab_model.specs.declared.fault.WithoutFault.{WithoutFault}
use Rattle.fab_model.specs.declared.fault.WithoutFault.TheVariants as lost
use Rattle.fab_netdiscover.specs.declared.fault.ReadFault.{ReadFault}
use Rattle.fab_netdiscover.specs.declared.fault.ReadFault.TheVariants as read
use Rattle.fab_netdiscover.specs.declared.fault.BadKind.{BadKind}
use Rattle.fab_netdiscover.specs.declared.fault.BadKind.TheVariants as bad
use Rattle.fab_dump.specs.declared.fault.PlanFault.{PlanFault}
use Rattle.fab_dump.specs.Writing.{hex4}
use Rattle.fab_dump.specs.declared.fault.PlanFault.TheVariants as plan
use Rattle.fab_repair.specs.declared.fault.FailedFault.{FailedFault}
use Rattle.fab_repair.specs.declared.fault.FailedFault.TheVariants as failed
use Rattle.fab_mcast.specs.declared.fault.GroupFault.{GroupFault}
use Rattle.fab_mcast.specs.declared.fault.GroupFault.TheVariants as groups

-- behind the file's name, and behind its name and a line
abbrev pub in_file : List ℕ → List ℕ → List ℕ
in_file name what = name ++ codes ": " ++ what ++ codes "\n"

abbrev pub on_line : List ℕ → ℕ → List ℕ → List ℕ
on_line name line what = in_file (name ++ codes ":" ++ decimal line) what

abbrev pub too_long_text : List ℕ → List ℕ
too_long_text name = in_file name (codes "too long")

abbrev pub bad_text : BadKind → List ℕ
bad_text bad.Ports = codes "bad port count"
bad_text bad.Name = codes "bad name"
bad_text bad.Description = codes "bad description"
bad_text bad.Lid = codes "bad lid or lmc"
bad_text bad.Port = codes "bad port"

-- want of memory is no fault of a file
abbrev pub read_fault_text : List ℕ → ReadFault → List ℕ
read_fault_text name (read.BadLine line kind) = on_line name line (bad_text kind)
read_fault_text name (read.Router line) = on_line name line (codes "router")
read_fault_text name (read.Stray line) = on_line name line (codes "port line before any node")
read_fault_text name (read.Memory refused) = []

abbrev pub fabric_fault_text : List ℕ → FabricFault → List ℕ
fabric_fault_text name build.NoSwitch = in_file name (codes "no switch")
fabric_fault_text name build.TooManySwitches = in_file name (codes "too many switches")
fabric_fault_text name (build.TwiceGuid line) = on_line name line (codes "guid used twice")
fabric_fault_text name (build.PortRange line) = on_line name line (codes "port out of range")
fabric_fault_text name (build.TwicePort line) = on_line name line (codes "port used twice")
fabric_fault_text name (build.UnknownEnd line) = on_line name line (codes "unknown far end")
fabric_fault_text name (build.Unswitched line) = on_line name line (codes "adapter cabled to an adapter")
fabric_fault_text name (build.OneSided line) = on_line name line (codes "cable stated by one side only")
fabric_fault_text name (build.Lmc line) = on_line name line (codes "lmc is not 0")
fabric_fault_text name (build.BadLid line) = on_line name line (codes "lid out of range")
fabric_fault_text name (build.TwiceLid line) = on_line name line (codes "lid used twice")
fabric_fault_text name build.TooManyLids = in_file name (codes "too many lids")
fabric_fault_text name (build.Memory refused) = []

abbrev pub plan_fault_text : List ℕ → PlanFault → List ℕ
plan_fault_text name (plan.Version line) = on_line name line (codes "unknown version")
plan_fault_text name (plan.BadRow line) = on_line name line (codes "bad row")
plan_fault_text name (plan.TwiceBlock line) = on_line name line (codes "block given twice")
plan_fault_text name (plan.TwiceRow line) = on_line name line (codes "row given twice")
plan_fault_text name (plan.BadLevelRow line) = on_line name line (codes "bad level row")
plan_fault_text name (plan.BadLaneRow line) = on_line name line (codes "bad lane row")
plan_fault_text name (plan.BadNumber line) = on_line name line (codes "bad number row")
plan_fault_text name (plan.TooManyPairs line) = on_line name line (codes "too many pair maps")
plan_fault_text name plan.NoEnd = in_file name (codes "no end")
plan_fault_text name (plan.Memory refused) = []

abbrev pub failed_fault_text : List ℕ → FailedFault → List ℕ
failed_fault_text name (failed.BadLine line) = on_line name line (codes "bad line")
failed_fault_text name (failed.Memory refused) = []

abbrev pub group_fault_text : List ℕ → GroupFault → List ℕ
group_fault_text name (groups.BadLine line) = on_line name line (codes "bad line")
group_fault_text name (groups.TwiceGroup line) = on_line name line (codes "group given twice")
group_fault_text name (groups.UnknownMember line) = on_line name line (codes "unknown member")
group_fault_text name (groups.Memory refused) = []

-- ---- what was named and isn't in the fabric

-- a cable of a file, by its place in the list there, which is told from 1 on
abbrev pub unknown_cable_text : List ℕ → ℕ → List ℕ
unknown_cable_text name index = in_file name (codes "cable " ++ decimal (index + 1) ++ codes ": not in the fabric")

-- a root, by its place among the named ones, which is told from 1 on
abbrev pub unknown_root_text : ℕ → List ℕ
unknown_root_text index = in_file (codes "root " ++ decimal (index + 1)) (codes "not in the fabric")

abbrev pub without_fault_text : List ℕ → WithoutFault → List ℕ
without_fault_text name (lost.UnknownCable index) = unknown_cable_text name index
without_fault_text name (lost.Memory refused) = []

abbrev pub unknown_lid_text : ℕ → List ℕ
unknown_lid_text lid = in_file (codes "lid " ++ hex4 lid) (codes "not in the fabric")

-- ---- what was named and isn't in a list of groups

abbrev pub unknown_group_text : ℕ → List ℕ
unknown_group_text group = in_file (codes "group " ++ hex4 group) (codes "not in the list")

abbrev pub no_member_text : ℕ → List ℕ
no_member_text lid = in_file (codes "lid " ++ hex4 lid) (codes "not in the group")

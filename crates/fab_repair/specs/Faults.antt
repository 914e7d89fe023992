-- Why a plan isn't repaired.
use Rattle.fab_model.specs.declared.fault.WithoutFault.{WithoutFault}
use Rattle.fab_model.specs.declared.fault.WithoutFault.TheVariants as lost
use Rattle.fab_repair.specs.declared.fault.RepairFault.{RepairFault}
use Rattle.fab_repair.specs.declared.fault.RepairFault.TheVariants.{UnknownCable, Memory}

-- what taking cables out of the fabric refuses, as a refusal of the repair
abbrev pub repair_fault : WithoutFault → RepairFault
repair_fault (lost.UnknownCable index) = UnknownCable index
repair_fault (lost.Memory refused) = Memory refused

-- A repair has an answer, as each fabric has a plan of Nue.
use Rattle.std.proofs.Common.{Some}
use Rattle.fab_nue.proofs.Exists.Plans.{nue_plan_exists}
use Rattle.fab_repair.specs.Laws.{RepairExists}
use Rattle.fab_repair.proofs.Repairing.{left_fabric, left_has}

pub repair_exists : RepairExists
repair_exists t left old cables lanes fabric fits some few e = nue_plan_exists left lanes (Some old) (left_fabric t left cables fabric e) some few (left_has t left cables old e fits)

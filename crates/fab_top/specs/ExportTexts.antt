-- The texts of plans that are not exported. Each ends with a line feed.
use Rattle.std.specs.Prelude.{ℕ, ◌<◌, List, [], ◌++◌, codes, decimal}
use Rattle.fab_model.specs.Topology.{Topology}
use Rattle.fab_dump.specs.Writing.{hex4, hex16, port3, two}
use Rattle.fab_export.specs.declared.fault.Unfit.{Unfit}
use Rattle.fab_export.specs.declared.fault.Unfit.TheVariants as unfit
use Rattle.fab_top.specs.Texts.{guid_text, from_text, verdict_text, HasShortLanes}

-- what is wrong with a LID, a switch or a level
abbrev pub of_lid_text : ℕ → List ℕ → List ℕ
of_lid_text lid what = codes "no: lid " ++ hex4 lid ++ codes ": " ++ what ++ codes "\n"

abbrev pub of_switch_text : Topology → ℕ → List ℕ → List ℕ
of_switch_text t s what = codes "no: switch " ++ guid_text t s ++ codes ": " ++ what ++ codes "\n"

abbrev pub of_level_text : ℕ → List ℕ → List ℕ
of_level_text of_level what = codes "no: level " ++ two of_level ++ codes ": " ++ what ++ codes "\n"

abbrev pub ports_text : ℕ → ℕ → List ℕ
ports_text from to = codes "from port " ++ port3 from ++ codes " to port " ++ port3 to

abbrev pub lane_bound_text : ℕ → ℕ → List ℕ
lane_bound_text lane bound = codes "lane " ++ two lane ++ codes " is not below " ++ decimal bound

-- the level and the lanes that a reason names have at most two digits
abbrev pub CanBeTold : Unfit → Type 0
CanBeTold (unfit.Refused fault) = HasShortLanes fault
CanBeTold (unfit.HighLane of_level lane bound) = (of_level < 100) × (lane < 100)
CanBeTold other = Unit {0}

abbrev pub unfit_text : Topology → Unfit → List ℕ
unfit_text t (unfit.Refused fault) = verdict_text t fault
unfit_text t (unfit.NoPortGuid lid) = of_lid_text lid.0 (codes "no port guid")
unfit_text t (unfit.TwicePortGuid lid guid) = of_lid_text lid.0 (codes "port guid " ++ hex16 guid ++ codes " used twice")
unfit_text t (unfit.TooFar lid source) = from_text t lid.0 source.0 (codes "more than 64 switches")
unfit_text t (unfit.PairMap switch from to) = of_switch_text t switch.0 (codes "a lane map of its own " ++ ports_text from to)
unfit_text t (unfit.MapDiffers switch) = of_switch_text t switch.0 (codes "lane map is not that of switch " ++ guid_text t 0)
unfit_text t (unfit.HighLane of_level lane bound) = of_level_text of_level (lane_bound_text lane bound)
unfit_text t unfit.NoLevelZero = of_level_text 0 (codes "not in use")
unfit_text t unfit.NoSpareLevel = codes "no: every level is in use\n"
unfit_text t unfit.NoLanes = codes "no: no lanes\n"
unfit_text t (unfit.Memory refused) = []

-- The texts of changes of tables. Each ends with a line feed.
use Rattle.std.specs.Prelude.{◌≡◌, ℕ, List, ◌++◌, length, flat_map, codes}
use Rattle.std.specs.List.{enumerate_from}
use Rattle.fab_model.specs.declared.rows.ChannelRow.{ChannelRow}
use Rattle.fab_model.specs.Topology.{Topology}
use Rattle.fab_tables.specs.LaneTables.{LaneTables}
use Rattle.fab_dump.specs.Writing.{lines_text, number_lines}
use Rattle.fab_transit.specs.declared.mixed.Mixed.{Mixed}
use Rattle.fab_transit.specs.declared.mixed.Mixed.TheVariants.{Numbers, NoLevel, Lost, BadLane, RingMixed}
use Rattle.fab_transit.specs.declared.mixed.Side.{Side}
use Rattle.fab_transit.specs.declared.mixed.Side.TheVariants.{Old, New}
use Rattle.fab_top.specs.Texts.{from_text, at_text, end_text, ring_text}

-- the numbers of a channel, as the rows of a plan's certificate
abbrev pub numbers_text : Topology → LaneTables → ℕ × ChannelRow → List ℕ
numbers_text t l numbered = lines_text (number_lines t l numbered)

abbrev pub transit_text : Topology → LaneTables → List ℕ
transit_text t l = codes "ok: transit\n" ++ flat_map (numbers_text t l) (enumerate_from 0 t.channels)

-- what is wrong in one of the plans
abbrev pub side_text : Side → List ℕ
side_text Old = codes "old"
side_text New = codes "new"

abbrev pub in_plan : Side → List ℕ → List ℕ
in_plan side what = what ++ codes " in the " ++ side_text side ++ codes " plan"

-- numbers, where they are said, are those of each channel
abbrev pub HasNumbersOf : Topology → Mixed → Type 0
HasNumbersOf t (Numbers l) = l.channels ≡ length t.channels
HasNumbersOf t other = Unit {0}

-- what is said of a change, for so many lanes
abbrev pub mixed_text : Topology → ℕ → Mixed → List ℕ
mixed_text t count (Numbers l) = transit_text t l
mixed_text t count (NoLevel lid source side) = from_text t lid.0 source.0 (in_plan side (codes "no level"))
mixed_text t count (Lost lid at side end) = at_text t lid.0 at.0 (in_plan side (end_text end))
mixed_text t count (BadLane lid at side) = at_text t lid.0 at.0 (in_plan side (codes "bad lane"))
mixed_text t count (RingMixed ring) = ring_text t count ring

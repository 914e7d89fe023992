-- How the reader stands for what was read so far, and what its calls answer.
use Rattle.std.specs.Prelude.{◌≡◌, ℕ, ◌<◌, Bool, false, List, length, Some, None, IfSome, Result, Ok, Err, slice_index_or}
use Rattle.fab_text.specs.Readings.{Unless}
use Rattle.fab_model.specs.Topology.{Topology, lids_of}
use Rattle.fab_model.specs.WellFormed.{IsFabric}
use Rattle.fab_tables.specs.declared.plan.Plan.{Plan}
use Rattle.fab_tables.specs.Entries.{index_of}
use Rattle.fab_tables.specs.LaneTables.{LaneTables}
use Rattle.fab_dump.specs.declared.fault.PlanFault.{PlanFault}
use Rattle.fab_dump.specs.declared.form.Block.{Block}
use Rattle.fab_dump.specs.declared.form.Block.TheVariants.{Table, Levels, MapRow, Pairs}
use Rattle.fab_dump.specs.declared.form.Step.{Step}
use Rattle.fab_dump.specs.declared.form.Step.TheVariants as step
use Rattle.fab_dump.specs.declared.reader.PlanReader.{PlanReader}
use Rattle.fab_dump.specs.Given.{Given, was_given, plan_given}
use Rattle.fab_dump.specs.Given.Given.{TableBlock, Port, LevelBlock, Level, MapBlock, Certificate}
use Rattle.fab_dump.specs.Lines.{Form, State, Next}
use Rattle.fab_dump.specs.Lines.Next.{Goes, Ends, Fails}
use Rattle.fab_dump.specs.Orderly.{IsOrderly}
use Rattle.fab_dump.specs.Reading.{wants_memory}

-- the open block is of a switch of the fabric, which has so many
abbrev pub IsWithin : ℕ → Block → Type 0
IsWithin count (Table (Some s)) = s.0 < count
IsWithin count (Levels s) = s.0 < count
IsWithin count (MapRow s) = s.0 < count
IsWithin count (Pairs s) = s.0 < count
IsWithin count _ = Unit {0}

-- a mark for each switch says whether this was said of it
abbrev pub AreMarks : ℕ → (ℕ → Given) → List Given → List Bool → Type 0
AreMarks count statement given marks = (s : ℕ) → s < count → slice_index_or marks s false ≡ was_given given (statement s)

-- a mark for each LID in use says whether this was said of it
abbrev pub AreRowMarks : List ℕ → (ℕ → Given) → List Given → List Bool → Type 0
AreRowMarks lids statement given marks = (lid place : ℕ) → index_of lid lids ≡ Some place → slice_index_or marks place false ≡ was_given given (statement lid)

-- the marks of the rows of the open block
abbrev pub MarkRows : List ℕ → Block → List Given → List Bool → Type 0
MarkRows lids (Table (Some s)) given marks = AreRowMarks lids (λ lid. Port s.0 lid 0) given marks
MarkRows lids (Levels s) given marks = AreRowMarks lids (λ lid. Level s.0 lid None) given marks
MarkRows lids _ given marks = Unit {0}

-- the plan has a place for each switch, LID and channel of the fabric
pub record LanesAreOver (t : Topology) (l : LaneTables) : Type 0 where
  pub switches : l.switches ≡ length t.switches
  pub channels : l.channels ≡ length t.channels
  pub in_use : l.in_use ≡ lids_of t

pub record PlanIsOver (t : Topology) (p : Plan) : Type 0 where
  pub switches : p.tables.switches ≡ length t.switches
  pub in_use : p.tables.in_use ≡ lids_of t
  pub lanes : IfSome p.lanes (LanesAreOver t)

-- the reader is one for its fabric
pub record ReaderFits (r : PlanReader) : Type 0 where
  pub fabric : IsFabric r.fabric.now
  pub block : IsWithin (length r.fabric.now.switches) r.block
  pub plan : PlanIsOver r.fabric.now r.plan
  pub lids : r.lids ≡ lids_of r.fabric.now
  pub table_marks : length r.table_blocks.items ≡ length r.fabric.now.switches
  pub level_marks : length r.level_blocks.items ≡ length r.fabric.now.switches
  pub map_marks : length r.map_blocks.items ≡ length r.fabric.now.switches
  pub row_marks : length r.lids_read.items ≡ length (lids_of r.fabric.now)

-- the reader stands for what was read
pub record Stands (t : Topology) (f : Form) (s : State) (r : PlanReader) : Type 0 where
  pub fits : ReaderFits r
  pub same : r.fabric.now ≡ t
  pub version : r.version ≡ f.version
  pub block : r.block ≡ s.open_block
  pub plan : r.plan ≡ plan_given t f.count s.given
  pub tables : AreMarks (length t.switches) TableBlock s.given r.table_blocks.items
  pub levels : AreMarks (length t.switches) LevelBlock s.given r.level_blocks.items
  pub maps : AreMarks (length t.switches) MapBlock s.given r.map_blocks.items
  pub certificate : r.certificate ≡ was_given s.given Certificate
  pub rows : MarkRows (lids_of t) s.open_block s.given r.lids_read.items

-- a call that reads a line answers this
abbrev pub Says : Topology → Form → PlanReader → Result (Unit {0}) PlanFault → Next → Type 0
Says t f r (Ok done) next = (s : State) × (next ≡ Goes s) × Stands t f s r
Says t f r (Err why) next = Unless (wants_memory why) (next ≡ Fails why)

-- a call that reads a line answers so, whatever was read before it
abbrev pub ReadsAs : PlanReader → PlanReader → Result (Unit {0}) PlanFault → (Topology → Form → State → Next) → Type 0
ReadsAs old new result says = (f : Form) (s : State) → Stands old.fabric.now f s old → IsOrderly old.fabric.now f s →
    Says old.fabric.now f new result (says old.fabric.now f s)

-- the same of a line that may end the plan
abbrev pub SaysStep : Topology → Form → State → PlanReader → Result Step PlanFault → Next → Type 0
SaysStep t f s r (Ok step.Goes) next = (now : State) × (next ≡ Goes now) × Stands t f now r
SaysStep t f s r (Ok step.Ends) next = (next ≡ Ends) × Stands t f s r
SaysStep t f s r (Err why) next = Unless (wants_memory why) (next ≡ Fails why)

abbrev pub ReadsStepAs : PlanReader → PlanReader → Result Step PlanFault → (Topology → Form → State → Next) → Type 0
ReadsStepAs old new result says = (f : Form) (s : State) → Stands old.fabric.now f s old → IsOrderly old.fabric.now f s →
    SaysStep old.fabric.now f s new result (says old.fabric.now f s)

-- The reader after one statement more.
use Rattle.std.proofs.Common.{◌≡◌, ℕ, Bool, false, List, [], ◌∷◌, ◌++◌, length, sym, ◌∙◌, refl}
use Rattle.std.specs.Prelude.{Vec}
use Rattle.std.specs.Str.{bytes_eq}
use Rattle.std.specs.declared.alloc.Global.{Global}
use Rattle.fab_model.specs.Topology.{lids_of}
use Rattle.fab_tables.specs.declared.plan.Plan.{Plan}
use Rattle.fab_dump.specs.declared.form.Block.{Block}
use Rattle.fab_dump.specs.declared.reader.PlanReader.{PlanReader}
use Rattle.fab_dump.specs.Given.{Given, subject, was_given, plan_with}
use Rattle.fab_dump.specs.Given.Given.{TableBlock, Port, LevelBlock, Level, MapBlock, Map, PairMap, Certificate, Number}
use Rattle.fab_dump.specs.Lines.{Form, State}
use Rattle.fab_dump.specs.Standing.{Stands, AreMarks, MarkRows, IsWithin}
use Rattle.fab_dump.proofs.Reading.Marks.{marks_stay, not_of}
use Rattle.fab_dump.proofs.Reading.PlansOver.{plan_said, plan_over}

-- a statement that is no head
abbrev pub IsNoHead : Given → Type 0
IsNoHead (TableBlock s) = ⊥
IsNoHead (LevelBlock s) = ⊥
IsNoHead (MapBlock s) = ⊥
IsNoHead Certificate = ⊥
IsNoHead _ = Unit {0}

-- it speaks of other things than heads do
record SpeaksOfNoHead (new : Given) : Type 0 where
  tables : (k : ℕ) → bytes_eq (subject new) (subject (TableBlock k)) ≡ false
  levels : (k : ℕ) → bytes_eq (subject new) (subject (LevelBlock k)) ≡ false
  maps : (k : ℕ) → bytes_eq (subject new) (subject (MapBlock k)) ≡ false
  certificate : bytes_eq (subject new) (subject Certificate) ≡ false

no_head : (new : Given) → IsNoHead new → SpeaksOfNoHead new
no_head (TableBlock s) h = absurd h
no_head (Port s lid port) h = record { tables = λ k. refl; levels = λ k. refl; maps = λ k. refl; certificate = refl }
no_head (LevelBlock s) h = absurd h
no_head (Level s lid level) h = record { tables = λ k. refl; levels = λ k. refl; maps = λ k. refl; certificate = refl }
no_head (MapBlock s) h = absurd h
no_head (Map s lanes) h = record { tables = λ k. refl; levels = λ k. refl; maps = λ k. refl; certificate = refl }
no_head (PairMap row) h = record { tables = λ k. refl; levels = λ k. refl; maps = λ k. refl; certificate = refl }
no_head Certificate h = absurd h
no_head (Number channel lane number) h = record { tables = λ k. refl; levels = λ k. refl; maps = λ k. refl; certificate = refl }

-- marks of switches that say so much
abbrev pub MarksOf : PlanReader → List Given → (ℕ → Given) → List Bool → Type 0
MarksOf r given statement marks = (length marks ≡ length r.fabric.now.switches) × AreMarks (length r.fabric.now.switches) statement given marks

module _ (f : Form) (s : State) (r : PlanReader) (stands : Stands r.fabric.now f s r) (new : Given) where
  abbrev more : List Given
  more = s.given ++ new ∷ []

  kept : (statement : ℕ → Given) (marks : List Bool) → length marks ≡ length r.fabric.now.switches → AreMarks (length r.fabric.now.switches) statement s.given marks →
      ((k : ℕ) → bytes_eq (subject new) (subject (statement k)) ≡ false) → MarksOf r more statement marks
  kept statement marks size are other = (size, marks_stay (length r.fabric.now.switches) statement s.given new marks other are)

  -- the marks that stay as they are
  pub tables_kept : ((k : ℕ) → bytes_eq (subject new) (subject (TableBlock k)) ≡ false) → MarksOf r more TableBlock r.table_blocks.items
  tables_kept other = kept TableBlock r.table_blocks.items stands.fits.table_marks stands.tables other

  pub levels_kept : ((k : ℕ) → bytes_eq (subject new) (subject (LevelBlock k)) ≡ false) → MarksOf r more LevelBlock r.level_blocks.items
  levels_kept other = kept LevelBlock r.level_blocks.items stands.fits.level_marks stands.levels other

  pub maps_kept : ((k : ℕ) → bytes_eq (subject new) (subject (MapBlock k)) ≡ false) → MarksOf r more MapBlock r.map_blocks.items
  maps_kept other = kept MapBlock r.map_blocks.items stands.fits.map_marks stands.maps other

  pub certificate_kept : bytes_eq (subject new) (subject Certificate) ≡ false → r.certificate ≡ was_given more Certificate
  certificate_kept other = stands.certificate ∙ sym (not_of s.given new Certificate other)

  -- the reader with the plan, the block and the marks that the statement makes
  pub after : (plan : Plan) (b : Block) (tables levels maps : Vec Bool Global) (certificate : Bool) (read : Vec Bool Global) → plan ≡ plan_with r.plan new → IsWithin (length r.fabric.now.switches) b →
      MarksOf r more TableBlock tables.items → MarksOf r more LevelBlock levels.items → MarksOf r more MapBlock maps.items → certificate ≡ was_given more Certificate →
      length read.items ≡ length (lids_of r.fabric.now) → MarkRows (lids_of r.fabric.now) b more read.items →
      Stands r.fabric.now f (record { open_block = b; given = s.given ++ new ∷ [] })
      (record r { plan = plan; block = b; table_blocks = tables; level_blocks = levels; map_blocks = maps; certificate = certificate; lids_read = read })
  after plan b tables levels maps certificate read is within of_tables of_levels of_maps of_certificate size rows = record {
    fits = record {
      fabric = stands.fits.fabric;
      block = within;
      plan = plan_over r.fabric.now r.plan plan new is stands.fits.plan;
      lids = stands.fits.lids;
      table_marks = of_tables.0;
      level_marks = of_levels.0;
      map_marks = of_maps.0;
      row_marks = size;
    };
    same = refl;
    version = stands.version;
    block = refl;
    plan = plan_said r.fabric.now f.count s.given r.plan plan new stands.plan is;
    tables = of_tables.1;
    levels = of_levels.1;
    maps = of_maps.1;
    certificate = of_certificate;
    rows = rows;
  }

  -- what is no head leaves the marks of heads
  pub after_row : (plan : Plan) (b : Block) (read : Vec Bool Global) → IsNoHead new → plan ≡ plan_with r.plan new → IsWithin (length r.fabric.now.switches) b →
      length read.items ≡ length (lids_of r.fabric.now) → MarkRows (lids_of r.fabric.now) b more read.items →
      Stands r.fabric.now f (record { open_block = b; given = s.given ++ new ∷ [] }) (record r { plan = plan; block = b; lids_read = read })
  after_row plan b read row is within size rows =
      let other : SpeaksOfNoHead new = no_head new row in
      after plan b r.table_blocks r.level_blocks r.map_blocks r.certificate read is within (tables_kept other.tables) (levels_kept other.levels) (maps_kept other.maps) (certificate_kept other.certificate) size rows

-- The reader before the first line.
use Rattle.std.proofs.Common.{◌≡◌, ℕ, Bool, false, List, [], length, replicate, get_or, Some, None, Option, IfSome, refl, sym, ◌∙◌, ap, subst}
use Rattle.std.proofs.lemmas.List.{length-replicate, get_or-replicate}
use Rattle.fab_model.specs.Topology.{Topology, lids_of}
use Rattle.fab_model.specs.WellFormed.{IsFabric}
use Rattle.fab_dump.specs.declared.form.Block.{Block}
use Rattle.fab_dump.specs.declared.form.Block.TheVariants.{Nothing}
use Rattle.fab_dump.specs.declared.reader.PlanReader.{PlanReader}
use Rattle.fab_dump.specs.Given.{Given, empty_plan}
use Rattle.fab_dump.specs.Given.Given.{TableBlock, LevelBlock, MapBlock}
use Rattle.fab_dump.specs.Lines.{Form}
use Rattle.fab_dump.specs.Reading.{nothing_read}
use Rattle.fab_dump.specs.Standing.{Stands, PlanIsOver, LanesAreOver, AreMarks, IsWithin}

lanes_over : (t : Topology) (count : Option ℕ) → IfSome (empty_plan t count).lanes (LanesAreOver t)
lanes_over t None = tt
lanes_over t (Some n) = record { switches = refl; channels = refl; in_use = refl }

plan_over : (t : Topology) (count : Option ℕ) → PlanIsOver t (empty_plan t count)
plan_over t count = record { switches = refl; in_use = refl; lanes = lanes_over t count }

no_marks : (count : ℕ) (statement : ℕ → Given) (marks : List Bool) → marks ≡ replicate count false → AreMarks count statement [] marks
no_marks count statement marks e = λ s low. ap (λ (ms : List Bool). get_or ms s false) e ∙ get_or-replicate count s false false low

marks_of : (count : ℕ) (marks : List Bool) → marks ≡ replicate count false → length marks ≡ count
marks_of count marks e = ap length e ∙ length-replicate count false

pub begun : (f : Form) (r : PlanReader) → IsFabric r.fabric.now → r.version ≡ f.version → r.plan ≡ empty_plan r.fabric.now f.count → r.block ≡ Nothing → r.lids ≡ lids_of r.fabric.now →
    r.table_blocks.items ≡ replicate (length r.fabric.now.switches) false → r.level_blocks.items ≡ replicate (length r.fabric.now.switches) false →
    r.map_blocks.items ≡ replicate (length r.fabric.now.switches) false → r.certificate ≡ false → r.lids_read.items ≡ replicate (length (lids_of r.fabric.now)) false → Stands r.fabric.now f nothing_read r
begun f r fabric version plan block lids tables levels maps certificate read =
    let t : Topology = r.fabric.now in
    record {
      fits = record {
        fabric = fabric;
        block = subst (λ (b : Block). IsWithin (length t.switches) b) (sym block) tt;
        plan = subst (PlanIsOver t) (sym plan) (plan_over t f.count);
        lids = lids;
        table_marks = marks_of (length t.switches) r.table_blocks.items tables;
        level_marks = marks_of (length t.switches) r.level_blocks.items levels;
        map_marks = marks_of (length t.switches) r.map_blocks.items maps;
        row_marks = marks_of (length (lids_of t)) r.lids_read.items read;
      };
      same = refl;
      version = version;
      block = block;
      plan = plan;
      tables = no_marks (length t.switches) TableBlock r.table_blocks.items tables;
      levels = no_marks (length t.switches) LevelBlock r.level_blocks.items levels;
      maps = no_marks (length t.switches) MapBlock r.map_blocks.items maps;
      certificate = certificate;
      rows = tt;
    }

-- Where a line of a written plan stands: the versions that are written, and blocks that wait for no row.
use Rattle.std.proofs.Common.{◌≡◌, ◌<◌, ◌*◌, ℕ, false, List, length, Some, refl, sym, ◌∙◌, ap, subst, arith}
use Rattle.std.specs.Prelude.{if◌then◌else◌}
use Rattle.std.specs.Int.{div_ceil}
use Rattle.fab_text.specs.Fields.{fields, dec}
use Rattle.fab_model.specs.Topology.{Topology, lids_of, switch_id}
use Rattle.fab_dump.specs.declared.form.Version.{Version}
use Rattle.fab_dump.specs.declared.form.Version.TheVariants.{Dump, One, Two, Three}
use Rattle.fab_dump.specs.declared.form.Block.{Block}
use Rattle.fab_dump.specs.declared.form.Block.TheVariants.{Nothing, Table, Levels, MapRow, Pairs, Numbers}
use Rattle.fab_dump.specs.declared.line_kind.LineKind.{LineKind}
use Rattle.fab_dump.specs.declared.line_kind.LineKind.TheVariants.{Row}
use Rattle.fab_dump.specs.Lines.{Form, State, is_dump, says_one_lid, kind_of, line_says, plan_line, dump_line, line_of_plan, waiting_line, row_in, long_row, level_field, level_row, table_row, short_table_row, long_table_row, short_level_row, long_level_row}

-- the versions whose rows say up to 64 LIDs
abbrev pub IsLong : Version → Type 0
IsLong Two = Unit {0}
IsLong Three = Unit {0}
IsLong _ = ⊥

-- no lane map waits for its row
abbrev pub WaitsForNone : Block → Type 0
WaitsForNone (MapRow switch) = ⊥
WaitsForNone _ = Unit {0}

-- a row that is written has a LID
pub row_begins : (lids : List ℕ) (i : ℕ) → i < div_ceil (length lids) 64 → i * 64 < length lids
row_begins lids i h = omega arith

no_dump : (v : Version) → IsLong v → is_dump v ≡ false
no_dump Dump h = absurd h
no_dump One h = absurd h
no_dump Two h = refl
no_dump Three h = refl

no_short : (v : Version) → IsLong v → says_one_lid v ≡ false
no_short Dump h = absurd h
no_short One h = absurd h
no_short Two h = refl
no_short Three h = refl

module _ (t : Topology) (f : Form) (n : ℕ) (s : State) (line : List ℕ) (long : IsLong f.version) where
  in_plan : line_says t f n s line ≡ line_of_plan t f n s s.open_block line
  in_plan = ap (λ b. if b then dump_line t f n s line (kind_of line) else line_of_plan t f n s s.open_block line) (no_dump f.version long)

  of_block : (b : Block) → WaitsForNone b → line_of_plan t f n s b line ≡ plan_line t f n s line (kind_of line)
  of_block Nothing h = refl
  of_block (Table o) h = refl
  of_block (Levels switch) h = refl
  of_block (MapRow switch) h = absurd h
  of_block (Pairs switch) h = refl
  of_block Numbers h = refl

  -- a line of this kind, where no lane map waits
  pub kind_says : (kind : LineKind) → WaitsForNone s.open_block → kind_of line ≡ kind → line_says t f n s line ≡ plan_line t f n s line kind
  kind_says kind none is = in_plan ∙ of_block s.open_block none ∙ ap (plan_line t f n s line) is

  -- a row in a block
  pub row_says : (block : Block) → s.open_block ≡ block → WaitsForNone block → kind_of line ≡ Row → line_says t f n s line ≡ row_in t f n s block line
  row_says block at none is = kind_says Row (subst WaitsForNone (sym at) none) is ∙ ap (λ b. row_in t f n s b line) at

  pub table_says : (k : ℕ) → s.open_block ≡ Table (Some (switch_id k)) → kind_of line ≡ Row →
      line_says t f n s line ≡ long_table_row n s k (long_row (lids_of t) (dec 3 255) (fields line))
  table_says k at is =
      row_says (Table (Some (switch_id k))) at tt is
      ∙ ap (λ b. if b then short_table_row t n s k (table_row (fields line)) else long_table_row n s k (long_row (lids_of t) (dec 3 255) (fields line))) (no_short f.version long)

  pub levels_says : (k : ℕ) → s.open_block ≡ Levels (switch_id k) → kind_of line ≡ Row →
      line_says t f n s line ≡ long_level_row n s k (long_row (lids_of t) level_field (fields line))
  levels_says k at is =
      row_says (Levels (switch_id k)) at tt is
      ∙ ap (λ b. if b then short_level_row t n s k (level_row (fields line)) else long_level_row n s k (long_row (lids_of t) level_field (fields line))) (no_short f.version long)

  -- the line that a lane map waits for
  pub waited_says : (k : ℕ) (kind : LineKind) → s.open_block ≡ MapRow (switch_id k) → kind_of line ≡ kind → line_says t f n s line ≡ waiting_line f n s k line kind
  waited_says k kind at is = in_plan ∙ ap (λ b. line_of_plan t f n s b line) at ∙ ap (waiting_line f n s k line) is

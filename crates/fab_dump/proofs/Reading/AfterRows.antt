-- The reader after a row.
use Rattle.std.proofs.Common.{◌≡◌, ℕ, ◌<◌, Bool, true, false, List, [], ◌∷◌, ◌++◌, length, length-set, get_or, map, nat_eq, Some, None, refl, sym, ◌∙◌, ap, subst, arith}
use Rattle.std.specs.Prelude.{Vec, slice_get, if◌then◌else◌}
use Rattle.std.specs.Str.{bytes_eq}
use Rattle.std.specs.Vec.{with_item}
use Rattle.std.specs.declared.alloc.Global.{Global}
use Rattle.fab_model.specs.declared.rows.Lid.{Lid}
use Rattle.fab_model.specs.declared.rows.SwitchId.{SwitchId}
use Rattle.fab_model.specs.Topology.{Topology, lids_of, switch_id}
use Rattle.fab_model.proofs.LidsInUse.{lid_there, as_many}
use Rattle.fab_tables.proofs.Joined.Ascending.{lids_are}
use Rattle.fab_tables.specs.Entries.{index_of}
use Rattle.fab_tables.specs.declared.plan.Plan.{Plan}
use Rattle.fab_tables.specs.declared.lanes.PairRow.{PairRow}
use Rattle.fab_dump.specs.declared.form.Block.{Block}
use Rattle.fab_dump.specs.declared.form.Block.TheVariants.{Nothing, Table, Levels, Pairs, Numbers}
use Rattle.fab_dump.specs.declared.reader.PlanReader.{PlanReader}
use Rattle.fab_dump.specs.Given.{Given, subject, was_given, plan_with}
use Rattle.fab_dump.specs.Given.Given.{Port, Level, Map, PairMap, Number}
use Rattle.fab_dump.specs.Lines.{Form, State, after_map_row, has_pairs}
use Rattle.fab_dump.specs.Standing.{Stands, ReaderFits, AreRowMarks, MarkRows, IsWithin}
use Rattle.fab_dump.proofs.Reading.After.{IsNoHead, after_row}
use Rattle.fab_dump.proofs.Reading.LongRows.{index_at, same_there}
use Rattle.fab_dump.proofs.Reading.Marks.{row_mark_set, same_lid}

-- a block whose rows tell a value of each LID
pub record TellsEach {A : Type 0} (lids : List ℕ) (b : Block) (say : ℕ → A → Given) (none : A) : Type 0 where
  pub no_head : (lid : ℕ) (value : A) → IsNoHead (say lid value)
  pub same : (lid : ℕ) (value : A) (other : ℕ) → bytes_eq (subject (say lid value)) (subject (say other none)) ≡ nat_eq lid other
  pub alike : (given : List Given) (lid : ℕ) (value : A) → was_given given (say lid none) ≡ was_given given (say lid value)
  pub marks : (given : List Given) (read : List Bool) → MarkRows lids b given read → AreRowMarks lids (λ lid. say lid none) given read
  pub are_marks : (given : List Given) (read : List Bool) → AreRowMarks lids (λ lid. say lid none) given read → MarkRows lids b given read

pub tells_ports : (lids : List ℕ) (switch : SwitchId) → TellsEach lids (Table (Some switch)) (Port switch.0) 0
tells_ports lids switch = record { no_head = λ lid port. tt; same = λ lid port. same_lid switch.0 lid; alike = λ given lid port. refl; marks = λ given read h. h; are_marks = λ given read h. h }

pub tells_levels : (lids : List ℕ) (switch : SwitchId) → TellsEach lids (Levels switch) (Level switch.0) None
tells_levels lids switch = record { no_head = λ lid level. tt; same = λ lid level. same_lid switch.0 lid; alike = λ given lid level. refl; marks = λ given read h. h; are_marks = λ given read h. h }

module _ (f : Form) (s : State) (r : PlanReader) (stands : Stands r.fabric.now f s r) where
  abbrev lids : List ℕ
  lids = lids_of r.fabric.now

  abbrev switches : ℕ
  switches = length r.fabric.now.switches

  -- the marks of the rows of the open block
  open_rows : (b : Block) → r.block ≡ b → MarkRows lids b s.given r.lids_read.items
  open_rows b e = subst (λ (x : Block). MarkRows lids x s.given r.lids_read.items) (sym stands.block ∙ e) stands.rows

  -- the block stays as it is
  kept : (new : Given) (plan : Plan) (b : Block) (read : Vec Bool Global) → r.block ≡ b → IsNoHead new → plan ≡ plan_with r.plan new → IsWithin switches b →
      length read.items ≡ length lids → MarkRows lids b (s.given ++ new ∷ []) read.items →
      Stands r.fabric.now f (record { open_block = b; given = s.given ++ new ∷ [] }) (record r { plan = plan; lids_read = read })
  kept new plan b read e row is within size rows =
      subst (λ (x : Block). Stands r.fabric.now f (record { open_block = b; given = s.given ++ new ∷ [] }) (record r { plan = plan; block = x; lids_read = read })) (sym e)
      (after_row f s r stands new plan b read row is within size rows)

  within : (b : Block) → r.block ≡ b → IsWithin switches b
  within b e = subst (IsWithin switches) e stands.fits.block

  -- a row tells one LID more
  module _ {A : Type 0} (b : Block) (say : ℕ → A → Given) (none : A) (tells : TellsEach lids b say none) (block : r.block ≡ b) where
    pub after_value : (lid : ℕ) (value : A) (place : ℕ) (plan : Plan) → index_of lid lids ≡ Some place → place < length r.lids_read.items → plan ≡ plan_with r.plan (say lid value) →
        Stands r.fabric.now f (record { open_block = b; given = s.given ++ say lid value ∷ [] }) (record r { plan = plan; lids_read = with_item r.lids_read place true })
    after_value lid value place plan found low is =
        kept (say lid value) plan b (with_item r.lids_read place true) block (tells.no_head lid value) is (within b block) (length-set r.lids_read.items place true ∙ stands.fits.row_marks)
        (tells.are_marks (s.given ++ say lid value ∷ []) (with_item r.lids_read place true).items
        (row_mark_set lids (λ l. say l none) (say lid value) lid s.given r.lids_read.items place (tells.same lid value) found low (tells.marks s.given r.lids_read.items (open_rows b block))))

    pub value_mark : (place : ℕ) (mark : Bool) → mark ≡ get_or r.lids_read.items place false → (lid : ℕ) (value : A) → index_of lid lids ≡ Some place → mark ≡ was_given s.given (say lid value)
    value_mark place mark is lid value found = is ∙ tells.marks s.given r.lids_read.items (open_rows b block) lid place found ∙ tells.alike s.given lid value

  map_block : (switch : SwitchId) (lanes : List ℕ) (plan : Plan) (pairs : Bool) → switch.0 < switches → plan ≡ plan_with r.plan (Map switch.0 lanes) →
      Stands r.fabric.now f (record { open_block = if pairs then Pairs (switch_id switch.0) else Nothing; given = s.given ++ Map switch.0 lanes ∷ [] })
      (record r { plan = plan; block = if pairs then Pairs (switch_id switch.0) else Nothing })
  map_block switch lanes plan true low is = after_row f s r stands (Map switch.0 lanes) plan (Pairs (switch_id switch.0)) r.lids_read tt is low stands.fits.row_marks tt
  map_block switch lanes plan false low is = after_row f s r stands (Map switch.0 lanes) plan Nothing r.lids_read tt is tt stands.fits.row_marks tt

  pub after_map : (switch : SwitchId) (lanes : List ℕ) (plan : Plan) (block : Block) → switch.0 < switches → plan ≡ plan_with r.plan (Map switch.0 lanes) → block ≡ after_map_row f switch.0 →
      Stands r.fabric.now f (record { open_block = after_map_row f switch.0; given = s.given ++ Map switch.0 lanes ∷ [] }) (record r { plan = plan; block = block })
  after_map switch lanes plan block low is e =
      subst (λ (b : Block). Stands r.fabric.now f (record { open_block = after_map_row f switch.0; given = s.given ++ Map switch.0 lanes ∷ [] }) (record r { plan = plan; block = b })) (sym e)
      (map_block switch lanes plan (has_pairs f.version) low is)

  pub after_pair : (switch : SwitchId) (row : PairRow) (plan : Plan) → r.block ≡ Pairs switch → plan ≡ plan_with r.plan (PairMap row) →
      Stands r.fabric.now f (record { open_block = Pairs (switch_id switch.0); given = s.given ++ PairMap row ∷ [] }) (record r { plan = plan })
  after_pair switch row plan block is = kept (PairMap row) plan (Pairs switch) r.lids_read block tt is (within (Pairs switch) block) stands.fits.row_marks tt

  pub after_number : (channel lane number : ℕ) (plan : Plan) → r.block ≡ Numbers → plan ≡ plan_with r.plan (Number channel lane number) →
      Stands r.fabric.now f (record { open_block = Numbers; given = s.given ++ Number channel lane number ∷ [] }) (record r { plan = plan })
  after_number channel lane number plan block is = kept (Number channel lane number) plan Numbers r.lids_read block tt is tt stands.fits.row_marks tt

-- a row tells of the LID at a place, whatever was read before it
pub after_value_at : {A : Type 0} (r : PlanReader) (b : Block) (say : ℕ → A → Given) (none : A) → TellsEach (lids_of r.fabric.now) b say none → r.block ≡ b → ReaderFits r →
    (in_use : List Lid) (d : Lid) (value : A) (place : ℕ) (plan : Plan) → map (λ (l : Lid). l.0) in_use ≡ lids_of r.fabric.now → place < length (lids_of r.fabric.now) → plan ≡ plan_with r.plan (say (get_or in_use place d).0 value) →
    (t : Topology) (f : Form) (s : State) (lid : ℕ) → slice_get (lids_of t) place ≡ Some lid → Stands t f s r →
    Stands t f (record { open_block = b; given = s.given ++ say lid value ∷ [] }) (record r { plan = plan; lids_read = with_item r.lids_read place true })
after_value_at r b say none tells block fits in_use d value place plan are within is t f s lid got stands =
    let lids : List ℕ = lids_of r.fabric.now in
    let there : slice_get lids place ≡ Some lid = ap (λ (x : Topology). slice_get (lids_of x) place) stands.same ∙ got in
    subst (λ (x : Topology). Stands x f (record { open_block = b; given = s.given ++ say lid value ∷ [] }) (record r { plan = plan; lids_read = with_item r.lids_read place true })) stands.same
    (after_value f s r (subst (λ (x : Topology). Stands x f s r) (sym stands.same) stands) b say none tells block lid value place plan
    (index_at lids place lid (lids_are r.fabric.now fits.fabric).ascending there) (omega (arith, within, fits.row_marks))
    (is ∙ ap (λ (l : ℕ). plan_with r.plan (say l value)) (same_there lids place lid (get_or in_use place d).0 there (lid_there in_use lids are place d (omega (arith, within, as_many in_use lids are))))))

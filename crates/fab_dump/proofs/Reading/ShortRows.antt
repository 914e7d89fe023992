-- Rows of one LID.
use Rattle.std.proofs.Common.{◌≡◌, ℕ, ◌<◌, Bool, true, false, List, [], ◌∷◌, ◌++◌, length, get_or, Some, None, Option, IfSome, sym, ◌∙◌, ap, subst, arith}
use Rattle.std.specs.Prelude.{is_some, if◌then◌else◌, Contains}
use Rattle.std.proofs.lemmas.List.{get_or_read}
use Rattle.std.proofs.lemmas.Option.{get_or_from_slice_get}
use Rattle.std.specs.Vec.{with_item}
use Rattle.fab_model.specs.Topology.{Topology, lids_of}
use Rattle.fab_tables.specs.Entries.{index_of}
use Rattle.fab_tables.proofs.Rows.Cells.{index_found}
use Rattle.fab_tables.specs.LaneTables.{LaneTables}
use Rattle.fab_tables.specs.declared.plan.Plan.{Plan}
use Rattle.fab_dump.specs.declared.fault.PlanFault.{PlanFault}
use Rattle.fab_dump.specs.declared.fault.PlanFault.TheVariants.{TwiceRow}
use Rattle.fab_dump.specs.declared.form.Block.{Block}
use Rattle.fab_dump.specs.declared.reader.PlanReader.{PlanReader}
use Rattle.fab_dump.specs.Given.{Given, was_given, plan_with}
use Rattle.fab_dump.specs.Lines.{Form, State, Next, short_row, adds}
use Rattle.fab_dump.specs.Lines.Next.{Goes, Fails}
use Rattle.fab_dump.specs.Standing.{LanesAreOver, Stands}
use Rattle.fab_dump.proofs.Reading.AfterHeads.{new_added, old_refused}
use Rattle.fab_dump.proofs.Reading.AfterRows.{TellsEach, after_value, value_mark}

row_in_use : {A : Type 0} (t : Topology) (bad : PlanFault) (unused : Next) (n : ℕ) (s : State) (b : Block) (say : ℕ → A → Given) (lid : ℕ) (value : A) (place : ℕ) (row : Option (ℕ × A)) →
    Some (lid, value) ≡ row → Some place ≡ index_of lid (lids_of t) → short_row t bad unused n s b say row ≡ adds (TwiceRow n) s b (say lid value ∷ [])
row_in_use t bad unused n s b say lid value place row e found =
    ap (short_row t bad unused n s b say) (sym e) ∙ ap (λ (o : Option ℕ). if is_some o then adds (TwiceRow n) s b (say lid value ∷ []) else unused) (sym found)

-- a LID with a place is one of the list
pub has_place : (lids : List ℕ) (lid place : ℕ) → index_of lid lids ≡ Some place → Contains lids lid
has_place lids lid place found = let at = index_found lid lids place found in (place, at.0, get_or_from_slice_get lids place lid lid at.1)

pub lanes_contain : (t : Topology) (o : Option LaneTables) (lid : ℕ) → Contains (lids_of t) lid → IfSome o (LanesAreOver t) → IfSome o (λ l. Contains l.in_use lid)
lanes_contain t None lid there h = tt
lanes_contain t (Some l) lid there h = subst (λ lids. Contains lids lid) (sym h.in_use) there

-- a row of one LID, read in its block
module _ {A : Type 0} (f : Form) (s : State) (r : PlanReader) (stands : Stands r.fabric.now f s r) (b : Block) (say : ℕ → A → Given) (none : A) (tells : TellsEach (lids_of r.fabric.now) b say none) (block : r.block ≡ b)
    (bad : PlanFault) (unused : Next) (n lid : ℕ) (value : A) (place : ℕ) (row : Option (ℕ × A)) (mark : Bool) (is : Some (lid, value) ≡ row) (there : Some place ≡ index_of lid r.lids) (low : place < length r.lids)
    (read : mark ≡ get_or r.lids_read.items place mark) where
  found : Some place ≡ index_of lid (lids_of r.fabric.now)
  found = there ∙ ap (index_of lid) stands.fits.lids

  within : place < length r.lids_read.items
  within = omega (arith, low, ap length stands.fits.lids, stands.fits.row_marks)

  marked : mark ≡ was_given s.given (say lid value)
  marked = value_mark f s r stands b say none tells block place mark (get_or_read r.lids_read.items place mark within read false) lid value (sym found)

  pub short_twice : mark ≡ true → short_row r.fabric.now bad unused n s b say row ≡ Fails (TwiceRow n)
  short_twice e = row_in_use r.fabric.now bad unused n s b say lid value place row is found ∙ old_refused (TwiceRow n) s b (say lid value) [] (sym marked ∙ e)

  pub short_goes : mark ≡ false → (plan : Plan) → plan ≡ plan_with r.plan (say lid value) →
      (now : State) × (short_row r.fabric.now bad unused n s b say row ≡ Goes now) × Stands r.fabric.now f now (record r { plan = plan; lids_read = with_item r.lids_read place true })
  short_goes e plan so = (
    record { open_block = b; given = s.given ++ say lid value ∷ [] },
    row_in_use r.fabric.now bad unused n s b say lid value place row is found ∙ new_added (TwiceRow n) s b (say lid value) (sym marked ∙ e),
    after_value f s r stands b say none tells block lid value place plan (sym found) within so,
  )

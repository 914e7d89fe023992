-- Rows of up to 64 LIDs, read in their blocks.
use Rattle.std.proofs.Common.{◌≡◌, ℕ, ◌<◌, Bool, true, false, List, ◌∷◌, ◌++◌, length, take, drop, get_or, Some, Option, sym, ◌∙◌, ap, subst, arith}
use Rattle.std.specs.Prelude.{if◌then◌else◌}
use Rattle.std.specs.List.{zip}
use Rattle.std.proofs.lemmas.List.{length-drop, length-take-le, get_or_read}
use Rattle.std.proofs.lemmas.Option.{slice_get-get_or}
use Rattle.fab_text.specs.Fields.{all_read}
use Rattle.fab_model.specs.Topology.{lids_of}
use Rattle.fab_tables.specs.Entries.{index_of}
use Rattle.fab_tables.proofs.Joined.Ascending.{lids_are}
use Rattle.fab_dump.specs.declared.fault.PlanFault.{PlanFault}
use Rattle.fab_dump.specs.declared.fault.PlanFault.TheVariants.{TwiceRow}
use Rattle.fab_dump.specs.declared.form.Block.{Block}
use Rattle.fab_dump.specs.declared.reader.PlanReader.{PlanReader}
use Rattle.fab_dump.specs.FieldsLeft.{AreRowLids}
use Rattle.fab_dump.specs.Given.{Given, was_given, said_of}
use Rattle.fab_dump.specs.Lines.{Form, State, adds, goes, row_lids, long_row, values_row}
use Rattle.fab_dump.specs.Lines.Next.{Goes, Fails}
use Rattle.fab_dump.specs.Standing.{Stands}
use Rattle.fab_dump.proofs.Reading.AfterRows.{TellsEach, value_mark}
use Rattle.fab_dump.proofs.Reading.LongRows.{index_at, long_row_good, first_of, first_at}

module _ {A : Type 0} (f : Form) (s : State) (r : PlanReader) (stands : Stands r.fabric.now f s r) (b : Block) (say : ℕ → A → Given) (none : A) (tells : TellsEach (lids_of r.fabric.now) b say none) (block : r.block ≡ b)
    (bad : PlanFault) (n : ℕ) (read : List ℕ → Option A) (line whole rest : List (List ℕ)) (first count : ℕ) (values : List A) (mark : Bool) (same : whole ≡ line) (at : AreRowLids r.lids (first, count) (row_lids r.lids whole))
    (behind : rest ≡ drop 1 whole) (good : all_read read rest ≡ Some (take count values)) (long : length values ≡ 64) (is : mark ≡ get_or r.lids_read.items first mark) where
  abbrev lids : List ℕ
  lids = lids_of r.fabric.now

  abbrev said : List Given
  said = said_of say (zip (drop first lids) (take count values))

  are : AreRowLids lids (first, count) (row_lids lids line)
  are = subst (λ fs. AreRowLids lids (first, count) (row_lids lids fs)) same (subst (λ ls. AreRowLids ls (first, count) (row_lids ls whole)) stands.fits.lids at)

  all : length (take count values) ≡ count
  all = length-take-le count values (omega (arith, are.few, long))

  row : long_row lids read line ≡ Some (zip (drop first lids) (take count values))
  row = long_row_good lids read line (first, count) (take count values) are (ap (λ fs. all_read read (drop 1 fs)) (sym same) ∙ ap (all_read read) (sym behind) ∙ good) all

  -- what the row says of its first LID
  record First : Type 0 where
    new : Given
    more : List Given
    is_first : said ≡ new ∷ more
    marked : mark ≡ was_given s.given new

  the_first : First
  the_first =
      let within : first < length lids = omega (arith, are.some, are.within) in
      let front = first_of (drop first lids) (omega (arith, length-drop first lids, within)) in
      let given = first_of (take count values) (omega (arith, all, are.some)) in
      let place : index_of front.0 lids ≡ Some first
      = index_at lids first front.0 (lids_are r.fabric.now stands.fits.fabric).ascending (slice_get-get_or lids first front.0 within ∙ ap (λ k. Some k) (first_at lids first front.0 front.1 front.2 within)) in
      record {
        new = say front.0 given.0;
        more = said_of say (zip front.1 given.1);
        is_first = ap (λ ls. said_of say (zip ls (take count values))) front.2 ∙ ap (λ vs. said_of say (zip (front.0 ∷ front.1) vs)) given.2;
        marked = value_mark f s r stands b say none tells block first mark (get_or_read r.lids_read.items first mark (omega (arith, within, stands.fits.row_marks)) is false) front.0 given.0 place;
      }

  -- by whether that was said before
  answer : (before : Bool) → mark ≡ before → values_row bad n s b say (long_row lids read line) ≡ (if before then Fails (TwiceRow n) else goes s b said)
  answer before e =
      let x : First = the_first in
      ap (values_row bad n s b say) row ∙ ap (adds (TwiceRow n) s b) x.is_first ∙ ap (λ v. if v then Fails (TwiceRow n) else goes s b (x.new ∷ x.more)) (sym x.marked ∙ e)
      ∙ ap (λ gs. if before then Fails (TwiceRow n) else goes s b gs) (sym x.is_first)

  pub long_twice : mark ≡ true → values_row bad n s b say (long_row lids read line) ≡ Fails (TwiceRow n)
  long_twice e = answer true e

  pub long_new : mark ≡ false → values_row bad n s b say (long_row lids read line) ≡ Goes (record { open_block = b; given = s.given ++ said })
  long_new e = answer false e

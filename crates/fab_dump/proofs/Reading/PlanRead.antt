-- The lines of a text, read one after the other.
use Rattle.std.proofs.Common.{◌≡◌, ℕ, ◌+◌, Bool, true, false, List, drop, Ok, Err, Result, Some, None, sym, ◌∙◌, ap, subst}
use Rattle.std.specs.Prelude.{slice_range, if◌then◌else◌}
use Rattle.std.specs.Str.Lines.{lines}
use Rattle.fab_text.specs.Readings.{Unless}
use Rattle.fab_text.specs.Fronts.{line_at}
use Rattle.fab_text.specs.declared.fronts.Line.{Line}
use Rattle.fab_text.proofs.LinesMet.{line_first, no_line_left}
use Rattle.fab_model.specs.Topology.{Topology}
use Rattle.fab_tables.specs.declared.plan.Plan.{Plan}
use Rattle.fab_dump.specs.declared.fault.PlanFault.{PlanFault}
use Rattle.fab_dump.specs.declared.fault.PlanFault.TheVariants as fault
use Rattle.fab_dump.specs.declared.form.Step.{Step}
use Rattle.fab_dump.specs.declared.form.Step.TheVariants as answers
use Rattle.fab_dump.specs.declared.reader.PlanReader.{PlanReader}
use Rattle.fab_dump.specs.Given.{plan_given}
use Rattle.fab_dump.specs.Lines.{Form, State, Next, is_dump, line_says}
use Rattle.fab_dump.specs.Lines.Next.{Goes, Ends, Fails}
use Rattle.fab_dump.specs.Reading.{read_lines, after_line, at_text_end, wants_memory}
use Rattle.fab_dump.specs.Orderly.{IsOrderly}
use Rattle.fab_dump.specs.Standing.{Stands, SaysStep}
use Rattle.fab_dump.proofs.Reading.Orderly.{still_orderly}

-- what stands for the lines so far, and what the others make of it
pub record Reads (f : Form) (text : List ℕ) (from line : ℕ) (r : PlanReader) (wanted : Result Plan PlanFault) : Type 0 where
  pub read : State
  pub stands : Stands r.fabric.now f read r
  pub orderly : IsOrderly r.fabric.now f read
  pub left : read_lines r.fabric.now f (line + 1) read (lines (drop from text)) ≡ wanted

-- nothing was read behind the place yet
pub at_start : (t : Topology) (f : Form) (text : List ℕ) (from line : ℕ) (r : PlanReader) (s : State) → Stands t f s r → IsOrderly t f s →
    Reads f text from line r (read_lines t f (line + 1) s (lines (drop from text)))
at_start t f text from line r s stands orderly = record {
  read = s;
  stands = subst (λ (x : Topology). Stands x f s r) (sym stands.same) stands;
  orderly = subst (λ (x : Topology). IsOrderly x f s) (sym stands.same) orderly;
  left = ap (λ (x : Topology). read_lines x f (line + 1) s (lines (drop from text))) stands.same;
}

module _ (f : Form) (text : List ℕ) (from line : ℕ) (r : PlanReader) (wanted : Result Plan PlanFault) (before : Reads f text from line r wanted) where
  abbrev t : Topology
  t = r.fabric.now

  module _ (found : Line) (met : Some found ≡ line_at text from) where
    abbrev bytes : List ℕ
    bytes = slice_range text found.start found.end

    abbrev says : Next
    says = line_says t f (line + 1) before.read bytes

    step : (next : Next) → says ≡ next → after_line t f before.read (λ now. read_lines t f (line + 1 + 1) now (lines (drop found.next text))) next ≡ wanted
    step next e = sym (ap (read_lines t f (line + 1) before.read) (line_first text from found (sym met))
        ∙ ap (after_line t f before.read (λ now. read_lines t f (line + 1 + 1) now (lines (drop found.next text)))) e) ∙ before.left

    -- where the call answers so
    answered : (next : PlanReader) (answer known : Step) → answer ≡ known → SaysStep t f before.read next (Ok answer) says → SaysStep t f before.read next (Ok known) says
    answered next answer known is h = subst (λ (x : Step). SaysStep t f before.read next (Ok x) says) is h

    pub went_on : (next : PlanReader) (answer : Step) → answer ≡ answers.Goes → SaysStep t f before.read next (Ok answer) says → Reads f text found.next (line + 1) next wanted
    went_on next answer is h =
        let after : (now : State) × (says ≡ Goes now) × Stands t f now next = answered next answer answers.Goes is h in
        let same : t ≡ next.fabric.now = sym after.2.same in
        record {
          read = after.0;
          stands = subst (λ (x : Topology). Stands x f after.0 next) same after.2;
          orderly = subst (λ (x : Topology). IsOrderly x f after.0) same (still_orderly t f (line + 1) before.read after.0 bytes before.stands.fits.fabric before.orderly after.1);
          left = subst (λ (x : Topology). read_lines x f (line + 1 + 1) after.0 (lines (drop found.next text)) ≡ wanted) same (step (Goes after.0) after.1);
        }

    pub ended : (next : PlanReader) (answer : Step) → answer ≡ answers.Ends → SaysStep t f before.read next (Ok answer) says → wanted ≡ Ok next.plan
    ended next answer is h =
        let after : (says ≡ Ends) × Stands t f before.read next = answered next answer answers.Ends is h in
        sym (step Ends after.0) ∙ ap (λ (p : Plan). Ok p) (sym after.1.plan)

    unless_so : (b : Bool) {P Q : Type 0} → (P → Q) → Unless b P → Unless b Q
    unless_so true g h = tt
    unless_so false g h = g h

    pub refused : (why : PlanFault) → Unless (wants_memory why) (says ≡ Fails why) → Unless (wants_memory why) (wanted ≡ Err why)
    refused why h = unless_so (wants_memory why) (λ e. sym (step (Fails why) e)) h

  at_end : None ≡ line_at text from → wanted ≡ at_text_end t f before.read
  at_end none = sym before.left ∙ ap (read_lines t f (line + 1) before.read) (no_line_left text from (sym none))

  pub dump_ended : None ≡ line_at text from → is_dump r.version ≡ true → wanted ≡ Ok r.plan
  dump_ended none dump =
      at_end none ∙ ap (λ b. if b then Ok (plan_given t f.count before.read.given) else Err fault.NoEnd) (sym (ap is_dump before.stands.version) ∙ dump) ∙ ap (λ (p : Plan). Ok p) (sym before.stands.plan)

  pub no_end : None ≡ line_at text from → is_dump r.version ≡ false → wanted ≡ Err fault.NoEnd
  no_end none dump = at_end none ∙ ap (λ b. if b then Ok (plan_given t f.count before.read.given) else Err fault.NoEnd) (sym (ap is_dump before.stands.version) ∙ dump)

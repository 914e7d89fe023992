-- The first lines of a text, and what the whole text spells.
use Rattle.std.proofs.Common.{◌≡◌, ℕ, true, false, List, ◌∷◌, drop, Ok, Err, Result, Some, None, Option, sym, ◌∙◌, ap, subst}
use Rattle.std.specs.Prelude.{slice_range, IfOk, if◌then◌else◌}
use Rattle.std.specs.Str.Lines.{lines}
use Rattle.fab_text.specs.Readings.{Gives}
use Rattle.fab_text.specs.Fronts.{line_at}
use Rattle.fab_text.specs.declared.fronts.Line.{Line}
use Rattle.fab_text.proofs.LinesMet.{line_first, no_line_left}
use Rattle.fab_model.specs.Topology.{Topology}
use Rattle.fab_model.specs.WellFormed.{IsFabric}
use Rattle.fab_tables.specs.Fit.{PlanFits, IsTidy}
use Rattle.fab_tables.specs.declared.plan.Plan.{Plan}
use Rattle.fab_dump.specs.declared.fault.PlanFault.{PlanFault}
use Rattle.fab_dump.specs.declared.form.Version.{Version}
use Rattle.fab_dump.specs.Lines.{begins}
use Rattle.fab_dump.specs.Reading.{read_lines, nothing_read, plan_mark, version_named, version_read, lane_count, read_body, read_version, dump_form, read_first, plan_of, wants_memory}
use Rattle.fab_dump.proofs.Reading.ReadTidy.{read_is_tidy}

-- behind the first line
pub body_is : (t : Topology) (text : List ℕ) (from : ℕ) (version : Version) (named : Option Version) (second : Line) (count : Option (Option ℕ)) → Some version ≡ named → Some second ≡ line_at text from →
    count ≡ lane_count (slice_range text second.start second.end) → read_version t (lines (drop from text)) named ≡ read_body t version (lines (drop second.next text)) count
body_is t text from version named second count is met e =
    ap (read_version t (lines (drop from text))) (sym is) ∙ ap (λ ls. read_version t ls (Some version)) (line_first text from second (sym met)) ∙ ap (read_body t version (lines (drop second.next text))) (sym e)

-- a text whose first line begins with the mark
pub plan_is : (t : Topology) (text : List ℕ) (first : Line) → Some first ≡ line_at text 0 → begins (slice_range text first.start first.end) plan_mark ≡ true →
    plan_of t text ≡ read_version t (lines (drop first.next text)) (version_read t (version_named (slice_range text first.start first.end)))
plan_is t text first met e =
    let line = slice_range text first.start first.end in
    let others = lines (drop first.next text) in
    ap (read_first t) (line_first text 0 first (sym met)) ∙ ap (λ b. if b then read_version t others (version_read t (version_named line)) else read_lines t dump_form 1 nothing_read (line ∷ others)) e

-- any other
pub dump_is : (t : Topology) (text : List ℕ) (first : Line) → Some first ≡ line_at text 0 → begins (slice_range text first.start first.end) plan_mark ≡ false →
    plan_of t text ≡ read_lines t dump_form 1 nothing_read (lines text)
dump_is t text first met e =
    let line = slice_range text first.start first.end in
    let others = lines (drop first.next text) in
    ap (read_first t) (line_first text 0 first (sym met)) ∙ ap (λ b. if b then read_version t others (version_read t (version_named line)) else read_lines t dump_form 1 nothing_read (line ∷ others)) e
    ∙ ap (read_lines t dump_form 1 nothing_read) (sym (line_first text 0 first (sym met)))

pub nothing_is : (t : Topology) (text : List ℕ) → None ≡ line_at text 0 → plan_of t text ≡ read_lines t dump_form 1 nothing_read (lines text)
nothing_is t text none =
    ap (read_first t) (no_line_left text 0 (sym none)) ∙ ap (read_lines t dump_form 1 nothing_read) (sym (no_line_left text 0 (sym none)))

pub gives_same : (result x y : Result Plan PlanFault) → y ≡ x → Gives wants_memory result x → Gives wants_memory result y
gives_same result x y e h = subst (Gives wants_memory result) (sym e) h

-- a plan that was read fits, and is tidy
pub read_fits : (t : Topology) (text : List ℕ) (result : Result Plan PlanFault) → IfOk result (λ p. IsFabric t) → Gives wants_memory result (plan_of t text) → IfOk result (λ p. PlanFits t p)
read_fits t text (Ok p) fabric e = (read_is_tidy t text p fabric e).0
read_fits t text (Err why) fabric e = tt

pub read_tidy : (t : Topology) (text : List ℕ) (result : Result Plan PlanFault) → IfOk result (λ p. IsFabric t) → Gives wants_memory result (plan_of t text) → IfOk result (λ p. IsTidy t p)
read_tidy t text (Ok p) fabric e = (read_is_tidy t text p fabric e).1
read_tidy t text (Err why) fabric e = tt

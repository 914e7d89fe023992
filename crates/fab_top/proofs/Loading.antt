-- The loads of a plan as an answer.
use Rattle.std.proofs.Common.{◌≡◌, ℕ, ◌++◌, List, length, Option, None, Some, refl, sym, ap, ◌∙◌, codes, decimal}
use Rattle.std.specs.Prelude.{IfSome, slice_get, slice_index}
use Rattle.std.specs.List.{range_with_len}
use Rattle.std.proofs.lemmas.List.{length-map}
use Rattle.std.proofs.lemmas.List.FromFn.{length-range_with_len}
use Rattle.std.proofs.lemmas.Option.{get_or_from_slice_get}
use Rattle.fab_model.specs.declared.rows.ChannelRow.{ChannelRow}
use Rattle.fab_model.specs.Topology.{Topology}
use Rattle.fab_tables.specs.declared.plan.Plan.{Plan}
use Rattle.fab_tables.specs.Entries.{Entries}
use Rattle.fab_report.specs.Loads.{loads_of, load_of}
use Rattle.fab_top.specs.declared.outcome.Outcome.{Outcome}
use Rattle.fab_top.specs.Answer.{Answer, done}
use Rattle.fab_top.specs.Answers.{IsLoadAnswer}
use Rattle.fab_top.specs.Headline.{IsDone}
use Rattle.fab_top.specs.Outcomes.{IsRightOutcome, answer_of, CanBePut}
use Rattle.fab_top.specs.ReportTexts.{load_line, load_text}
use Rattle.fab_top.specs.Texts.{channel_row_text}
use Rattle.fab_top.proofs.Appends.{appended_three, appended_both}
use Rattle.fab_top.proofs.Steps.Concluding.{found_at_most_1}
use Rattle.fab_top.proofs.Generating.{done_is_small}

-- as many loads as channels
pub as_many_loads : (t : Topology) (e : Entries) (loads : List ℕ) → loads ≡ loads_of t e → length loads ≡ length t.channels
as_many_loads t e loads is = ap (λ (l : List ℕ). length l) is ∙ length-map (range_with_len 0 (length t.channels)) (load_of t e) ∙ length-range_with_len 0 (length t.channels)

-- the line of a channel, part by part
pub line_pushed : (t : Topology) (loads : List ℕ) (c load : ℕ) (found : Option ChannelRow) (old first second third now : List ℕ) → slice_get loads c ≡ Some load →
    first ≡ old ++ channel_row_text t found → second ≡ first ++ codes " " → third ≡ second ++ decimal load → now ≡ third ++ codes "\n" →
    IfSome found (λ row. now ≡ old ++ load_line t loads (c, row))
line_pushed t loads c load None old first second third now is channel blank number feed = tt
line_pushed t loads c load (Some row) old first second third now is channel blank number feed =
    let told : load ≡ slice_index loads c = sym (get_or_from_slice_get loads c load 0 is) in
    appended_both old third now (channel_row_text t (Some row) ++ codes " " ++ decimal load) (codes "\n") (codes "\n")
    (appended_three old first second third (channel_row_text t (Some row)) (codes " ") (decimal load) channel blank number) refl feed
    ∙ ap (λ (n : ℕ). old ++ (channel_row_text t (Some row) ++ codes " " ++ decimal n ++ codes "\n")) told

pub load_keeps : (t : Topology) (p : Plan) (a : Answer) → IsLoadAnswer t p a → IsDone t p a
load_keeps t p a is = ap (λ (b : Answer). b.status) is

pub loads_found : (t : Topology) (p : Plan) (loads text : List ℕ) (outcome : Outcome) → loads ≡ loads_of t p.tables → text ≡ load_text t loads → answer_of outcome ≡ done text → CanBePut outcome →
    IsRightOutcome (IsLoadAnswer t p) (IsDone t p) outcome
loads_found t p loads text outcome are is answer put =
    let right : IsLoadAnswer t p (answer_of outcome) = answer ∙ ap done (is ∙ ap (load_text t) are) in
    record {
      is = right;
      headline = load_keeps t p (answer_of outcome) right;
      status = found_at_most_1 (answer_of outcome).status (done_is_small text (answer_of outcome) answer);
      can_be_put = put;
    }

-- Sweeps as answers.
use Rattle.std.proofs.Common.{◌≡◌, ℕ, ◌+◌, ◌<◌, ◌≤◌, List, [], ◌++◌, length, take, refl, sym, ◌∙◌, ap, codes, arith}
use Rattle.std.specs.Prelude.{fold, flat_map, max, min, slice_index_or}
use Rattle.std.proofs.lemmas.List.Sums.{fold_more}
use Rattle.fab_model.specs.Topology.{Topology, lids_of}
use Rattle.fab_model.specs.WellFormed.{IsFabric}
use Rattle.fab_sweep.specs.declared.Failing.{Failing}
use Rattle.fab_sweep.specs.declared.rows.SweepRow.{SweepRow}
use Rattle.fab_sweep.specs.Sweeps.{AreSweepRows, AreRepairsCertified}
use Rattle.fab_sweep.proofs.SweepExists as made
use Rattle.fab_sweep.proofs.SweepRows.{repairs_certified}
use Rattle.fab_sweep.proofs.SweepRows as rows
use Rattle.fab_tables.specs.declared.plan.Plan.{Plan}
use Rattle.fab_top.specs.declared.outcome.Outcome.{Outcome}
use Rattle.fab_top.specs.Answer.{Answer, done}
use Rattle.fab_top.specs.Answers.{IsSweepAnswer}
use Rattle.fab_top.specs.Engines.{IsLaneCount}
use Rattle.fab_top.specs.Headline.{SweepsTruly}
use Rattle.fab_top.specs.Outcomes.{IsRightOutcome, CanBePut, answer_of}
use Rattle.fab_top.specs.ReportTexts.{count_line, failure_line, losing, least_kept, greatest_changed, sweep_text}
use Rattle.fab_top.proofs.Generating.{done_is_small}
use Rattle.fab_top.proofs.Steps.AfterFiles.{HasRightAnswer, IsReadPlan}
use Rattle.fab_top.proofs.Steps.Concluding.{found_at_most_1}

-- ---- the summary, one row after the other

-- stands where there is no row
abbrev pub no_row : SweepRow
no_row = record { switch = record { 0 = 0 }; port = 0; lost = 0; kept = 0; changed = 0; moved = 0 }

pub least_more : (most : ℕ) (rows : List SweepRow) (i least now : ℕ) → i < length rows → least ≡ fold (λ n (r : SweepRow). min n r.kept) most (take i rows) →
    now ≡ min least (slice_index_or rows i no_row).kept → now ≡ fold (λ n (r : SweepRow). min n r.kept) most (take (i + 1) rows)
least_more most rows i least now within so_far next =
    next ∙ ap (λ n. min n (slice_index_or rows i no_row).kept) so_far ∙ sym (fold_more (λ n (r : SweepRow). min n r.kept) most rows i no_row within)

pub greatest_more : (rows : List SweepRow) (i greatest now : ℕ) → i < length rows → greatest ≡ fold (λ n (r : SweepRow). max n r.changed) 0 (take i rows) →
    now ≡ max greatest (slice_index_or rows i no_row).changed → now ≡ fold (λ n (r : SweepRow). max n r.changed) 0 (take (i + 1) rows)
greatest_more rows i greatest now within so_far next =
    next ∙ ap (λ n. max n (slice_index_or rows i no_row).changed) so_far ∙ sym (fold_more (λ n (r : SweepRow). max n r.changed) 0 rows i no_row within)

-- the rows and their summary, one part put behind the other
pub sweep_told : (t : Topology) (rows : List SweepRow) (lost kept changed : ℕ) (empty lines one two three four : List ℕ) →
    lost ≡ losing rows → kept ≡ least_kept t rows → changed ≡ greatest_changed rows → empty ≡ [] → lines ≡ empty ++ flat_map (failure_line t) rows →
    one ≡ lines ++ count_line (codes "failures") (length rows) → two ≡ one ++ count_line (codes "losing") lost → three ≡ two ++ count_line (codes "least kept") kept →
    four ≡ three ++ count_line (codes "greatest changed") changed → four ≡ sweep_text t rows
sweep_told t rows lost kept changed empty lines one two three four lost_is kept_is changed_is none begun first second third fourth =
    let as_lost : two ≡ one ++ count_line (codes "losing") (losing rows) = second ∙ ap (λ n. one ++ count_line (codes "losing") n) lost_is in
    let as_kept : three ≡ two ++ count_line (codes "least kept") (least_kept t rows) = third ∙ ap (λ n. two ++ count_line (codes "least kept") n) kept_is in
    let as_changed : four ≡ three ++ count_line (codes "greatest changed") (greatest_changed rows) = fourth ∙ ap (λ n. three ++ count_line (codes "greatest changed") n) changed_is in
    as_changed
    ∙ ap (λ xs. xs ++ count_line (codes "greatest changed") (greatest_changed rows)) (as_kept
    ∙ ap (λ xs. xs ++ count_line (codes "least kept") (least_kept t rows)) (as_lost
    ∙ ap (λ xs. xs ++ count_line (codes "losing") (losing rows)) (first
    ∙ ap (λ xs. xs ++ count_line (codes "failures") (length rows)) (begun ∙ ap (λ xs. xs ++ flat_map (failure_line t) rows) none))))

-- ---- the answer

pub sweep_keeps : (what : Failing) (lanes : ℕ) (t : Topology) (p : Plan) (a : Answer) → IsFabric t → IsLaneCount lanes → IsSweepAnswer what lanes t p a → SweepsTruly what lanes t p a
sweep_keeps what lanes t p a fabric count is = (ap (λ (b : Answer). b.status) is.2, repairs_certified t p lanes what fabric count.0 count.1)

pub one_sweep : (what : Failing) (lanes : ℕ) (t : Topology) (p : Plan) (a b : Answer) → IsFabric t → IsLaneCount lanes → IsSweepAnswer what lanes t p a → IsSweepAnswer what lanes t p b → a ≡ b
one_sweep what lanes t p a b fabric count first second =
    first.2 ∙ ap (λ (r : List SweepRow). done (sweep_text t r)) (rows.one_sweep t p lanes what first.0 second.0 fabric count.0 first.1 second.1) ∙ sym second.2

pub sweep_is_small : (what : Failing) (lanes : ℕ) (t : Topology) (p : Plan) (a : Answer) → IsSweepAnswer what lanes t p a → a.status ≤ 1
sweep_is_small what lanes t p a is = done_is_small (sweep_text t is.0) a is.2

pub sweep_exists : (what : Failing) (lanes : ℕ) (t : Topology) (p : Plan) → IsReadPlan t p → IsLaneCount lanes → HasRightAnswer (IsSweepAnswer what lanes t p)
sweep_exists what lanes t p read count =
    let swept : (r : List SweepRow) × AreSweepRows t p lanes what r = made.sweep_exists t p lanes what read.fabric read.fits count.0 count.1 in
    (done (sweep_text t swept.0), (swept.0, swept.1, refl))

-- as an outcome
pub sweep_found : (what : Failing) (lanes : ℕ) (t : Topology) (p : Plan) (swept told : List SweepRow) (text : List ℕ) (outcome : Outcome) → AreSweepRows t p lanes what swept → AreRepairsCertified t p lanes what →
    told ≡ swept → text ≡ sweep_text t told → answer_of outcome ≡ done text → CanBePut outcome → IsRightOutcome (IsSweepAnswer what lanes t p) (SweepsTruly what lanes t p) outcome
sweep_found what lanes t p swept told text outcome are certified same is answer put =
    let right : answer_of outcome ≡ done (sweep_text t swept) = answer ∙ ap done (is ∙ ap (sweep_text t) same) in
    record {
      is = (swept, are, right);
      headline = (ap (λ (b : Answer). b.status) right, certified);
      status = found_at_most_1 (answer_of outcome).status (done_is_small text (answer_of outcome) answer);
      can_be_put = put;
    }

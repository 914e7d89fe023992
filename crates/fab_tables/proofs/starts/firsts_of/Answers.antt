use Rattle.std.proofs.Common.{◌≡◌, ◌+◌, ◌++◌, ◌∷◌, [], List, Some, slice_get, sym, ◌∙◌, ap, subst, arith}
use Rattle.std.proofs.lemmas.Bool.{eqb-true}
use Rattle.std.proofs.lemmas.Option.{slice_get-get_or}
use Rattle.fab_tables.specs.declared.starts.Start.{Start}
use Rattle.fab_tables.proofs.Faults.StartFaults.{same_option, start_at}
use Rattle.fab_tables.proofs.Faults.FirstStarts.{AreFirstsSoFar, all_firsts, same_source, next_source}
use Rattle.fab_tables.proofs.starts.firsts_of.Goals as goal
use Rattle.fab_tables.proofs.starts.firsts_of.Goals.{then-ne+in_ok-push, else-ne}

pub loop-start-preserved : goal.loop-start-preserved
loop-start-preserved c =
    let starts = c.args.starts.now in
    let k = c.loop-start.start-index in
    let start : Start = start_at starts k in
    let firsts = c.loop-start.firsts.items in
    let so = c.loop-start.invariant in
    let at : slice_get starts k ≡ Some start = slice_get-get_or starts k (record { switch = record { 0 = 0 }; port = 0 }) c.loop-start-test.true in
    elim c.if-ne.branch [
      | then-ne+in_ok-push w ↦
          (let items : c.if-ne.firsts.items ≡ firsts ++ start ∷ [] = ap (λ v. v.items) w.firsts-is ∙ w.in_ok-push.ensures.items in
          subst (λ source. AreFirstsSoFar starts c.if-ne.firsts.items (k + 1) source) (sym w.source-is)
          (subst (λ (xs : List Start). AreFirstsSoFar starts xs (k + 1) (Some start.switch)) (sym items) (next_source starts c.requires firsts k c.loop-start.source so start at)))
      | else-ne w ↦
          (let is : c.loop-start.source ≡ Some start.switch =
          same_option _ (λ x y same. ap (λ n. record { 0 = n }) (eqb-true x.0 y.0 same)) c.loop-start.source start.switch c.ne.result c.ne.ensures w.if-ne.false in
          subst (λ source. AreFirstsSoFar starts c.if-ne.firsts.items (k + 1) source) (sym w.source-is)
          (subst (λ (xs : List Start). AreFirstsSoFar starts xs (k + 1) c.loop-start.source) (sym (ap (λ v. v.items) w.firsts-is)) (same_source starts c.requires firsts k c.loop-start.source so start at is)))
    ]

pub returns : goal.returns
returns c = all_firsts c.args.starts.now c.loop-start.firsts.items c.loop-start.start-index c.loop-start.source c.loop-start.invariant (omega arith)

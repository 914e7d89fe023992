use Rattle.std.proofs.Common.{ℕ, List, ◌++◌, take, drop, sym, ap, ◌∙◌}
use Rattle.fab_io.proofs.KnownBytes.{appends_more, appends_kept, appends_prefix, written_more}
use Rattle.fab_io.proofs.stream.write_whole.Goals as goal

pub returns-in_err-count-clause-prefix : goal.returns-in_err-count-clause-prefix
returns-in_err-count-clause-prefix g c =
    let sent = c.loop-rest.invariant in
    appends_prefix _ _ _ sent.0 _ sent.1 (appends_kept _ _ _ sent.0 sent.2 c.in_err-count.ensures.bytes)

pub returns-then-count-eq0-clause-prefix : goal.returns-then-count-eq0-clause-prefix
returns-then-count-eq0-clause-prefix g c =
    let sent = c.loop-rest.invariant in
    let rest : List ℕ = c.loop-rest.rest.now in
    let n : ℕ = c.in_ok-count.count in
    appends_prefix _ _ _ (sent.0 ++ take n rest) (drop n rest) (written_more _ sent.0 rest n sent.1) (appends_more _ _ _ sent.0 (take n rest) sent.2 c.in_ok-count.ensures.bytes)

pub loop-rest-preserved : goal.loop-rest-preserved
loop-rest-preserved g c =
    let sent = c.loop-rest.invariant in
    let rest : List ℕ = c.loop-rest.rest.now in
    let n : ℕ = c.in_ok-count.count in (
      sent.0 ++ take n rest,
      written_more _ sent.0 rest n sent.1 ∙ ap (λ (xs : List ℕ). sent.0 ++ take n rest ++ xs) (sym c.split_at.ensures.back),
      appends_more _ _ _ sent.0 (take n rest) sent.2 c.in_ok-count.ensures.bytes,
    )

pub returns-clause-prefix : goal.returns-clause-prefix
returns-clause-prefix g c =
    let sent = c.loop-rest.invariant in
    appends_prefix _ _ _ sent.0 _ sent.1 (appends_kept _ _ _ sent.0 sent.2 c.flush.ensures.bytes)

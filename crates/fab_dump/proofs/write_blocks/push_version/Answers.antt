use Rattle.std.proofs.Common.{◌++◌, ℕ, List, ap, ◌∙◌, append_assoc}
use Rattle.std.specs.Prelude.{codes, decimal}
use Rattle.std.proofs.lemmas.Result.{IfOk-equal}
use Rattle.fab_dump.specs.Writing.{version_text}
use Rattle.fab_dump.proofs.write_blocks.push_version.Goals as goal

pub returns : goal.returns
unfolding version_text
returns c =
    IfOk-equal c.push_dec.result _ _ _ c.push_dec.ensures.ok
    (ap (λ (bytes : List ℕ). bytes ++ decimal c.version_of.result) c.in_ok-push.ensures ∙ append_assoc c.args.text.now.items (codes "fabroute plan ") (decimal c.version_of.result)
    ∙ ap (λ (n : ℕ). c.args.text.now.items ++ (codes "fabroute plan " ++ decimal n)) c.version_of.ensures)

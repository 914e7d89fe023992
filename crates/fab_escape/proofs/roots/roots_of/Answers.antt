use Rattle.std.proofs.Common.{◌≡◌, ◌∙◌, ◌+◌, ◌<◌, length, sym, subst, arith}
use Rattle.std.proofs.lemmas.List.{get_or_default}
use Rattle.std.specs.Prelude.{slice_index_or}
use Rattle.fab_escape.specs.Trees.{IsRoot, AreRoots}
use Rattle.fab_escape.proofs.Making.{root_pushed, root_of_connected, joined_by_count}
use Rattle.fab_escape.proofs.roots.roots_of.Goals as goal
use Rattle.fab_escape.proofs.roots.roots_of.Goals.{in-Some, in-None+in_ok-root-in-None}

pub loop-index-preserved : goal.loop-index-preserved
loop-index-preserved c =
    let t = c.args.fabric.now in
    let good = c.switches-index-end.ensures.kept.rows in
    let index = c.loop-index.index in
    let roots = c.loop-index.roots.items in
    let low : index < length t.switches = omega (arith, c.switches-index-end.ensures.count) in
    let is : IsRoot t c.args.lane index c.match-connected_before.root =
    elim c.match-connected_before.branch [
      | in-Some w ↦
          (let other = w.in-Some.other.0 in
          let known = w.in-Some.ensures in
          let same : w.index.result.now ≡ slice_index_or roots other other
          = w.index.ensures ∙ get_or_default roots other w.index.result.now other (omega (arith, c.loop-index.invariant.each, known.0)) in
          subst (λ r. IsRoot t c.args.lane index r) (sym (w.root-is ∙ same))
          (root_of_connected t good c.args.lane index other (slice_index_or roots other other)
          (joined_by_count t c.args.hops.now c.requires.hops index other low (omega (arith, known.0, low)) known.1)
          (c.loop-index.invariant.right other known.0)))
      | in-None+in_ok-root-in-None w ↦ subst (λ r. IsRoot t c.args.lane index r) (sym w.root-is) (w.in_ok-root-in-None.ensures t good c.requires.hops)
    ] in
    subst (λ xs. AreRoots t c.args.lane (index + 1) xs) (sym c.in_ok-push.ensures.items) (root_pushed t c.args.lane index c.match-connected_before.root roots c.loop-index.invariant is)

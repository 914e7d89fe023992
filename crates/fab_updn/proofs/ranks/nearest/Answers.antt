use Rattle.std.proofs.Common.{◌≡◌, ◌+◌, ◌++◌, ◌∷◌, [], suc, take, sym, ◌∙◌, ap, subst, arith}
use Rattle.std.specs.Prelude.{slice_index_or}
use Rattle.std.proofs.Math.Seq.{take-suc}
use Rattle.fab_model.specs.declared.rows.SwitchId.{SwitchId}
use Rattle.fab_updn.proofs.Nearest.{IsNearestOf, not_there, first_there, another_there}
use Rattle.fab_updn.proofs.ranks.nearest.Goals as goal
use Rattle.fab_updn.proofs.ranks.nearest.Goals.{in-Some+in-None, in-Some+in-Some-least, in_default}

pub loop-root-preserved : goal.loop-root-preserved
loop-root-preserved c =
    let h = c.args.hops.now in
    let s = c.args.s.0 in
    let roots = c.args.roots.now in
    let i = c.loop-root.root-index in
    let x : SwitchId = slice_index_or roots i (record { 0 = 0 }) in
    let next : suc i ≡ i + 1 = omega arith in
    let grown : take (i + 1) roots ≡ take i roots ++ x ∷ [] = ap (λ n. take n roots) (sym next) ∙ take-suc roots i (record { 0 = 0 }) c.loop-root-test.true in
    subst (λ xs. IsNearestOf h s xs c.match-hop.least) (sym grown) (elim c.match-hop.branch [
      | in-Some+in-None w ↦ rw w.least-is (first_there h s (take i roots) x c.loop-root.least w.in-Some.count c.loop-root.invariant w.in-None.is (sym c.hop.ensures ∙ w.in-Some.is))
      | in-Some+in-Some-least w ↦
          rw w.least-is (another_there h s (take i roots) x c.loop-root.least w.in-Some-least.kept w.in-Some.count w.min.result c.loop-root.invariant w.in-Some-least.is (sym c.hop.ensures ∙ w.in-Some.is)
          (grind (arith, w.min.ensures)) (omega (arith, w.min.ensures)) (omega (arith, w.min.ensures)))
      | in_default w ↦ rw w.least-is (not_there h s (take i roots) x c.loop-root.least c.loop-root.invariant (sym c.hop.ensures ∙ w.in_default.is))
    ])

use Rattle.std.proofs.Common.{◌≡◌, ℕ, ◌+◌, ◌<◌, Some, sym, ◌∙◌, subst, arith}
use Rattle.fab_hops.specs.HopCounts.{hop_count}
use Rattle.fab_hops.proofs.GreatestHops.{IsAttained, IsGreatest, attained_more, greatest_more, greatest_still}
use Rattle.fab_hops.proofs.hops.Hops.eccentricity.Goals as goal
use Rattle.fab_hops.proofs.hops.Hops.eccentricity.Goals.{in-Some, in_default}

pub loop-index-preserved : goal.loop-index-preserved
loop-index-preserved c =
    let h = c.args.self.now in
    let s = c.args.s.0 in
    let counts = λ (to : ℕ). hop_count h s to in
    let index = c.loop-index.index in
    let greatest = c.loop-index.greatest in
    let before = c.loop-index.invariant in
    let low : index < h.switches = omega (arith, c.switches-index-end.ensures) in
    elim c.match-hop.branch [
      | in-Some w ↦
          (let is : counts index ≡ Some w.in-Some.hops = sym c.hop.ensures ∙ w.in-Some.is in
          let same = w.greatest-is ∙ w.max-greatest.ensures in
          record {
            attained = subst (λ n. IsAttained counts h.switches n) (sym same) (attained_more counts h.switches index greatest low before.attained before.greatest w.in-Some.hops is);
            greatest = subst (λ n. IsGreatest counts (index + 1) n) (sym same) (greatest_more counts h.switches index greatest low before.attained before.greatest w.in-Some.hops is);
          })
      | in_default w ↦
          record {
            attained = subst (λ n. IsAttained counts h.switches n) (sym w.greatest-is) before.attained;
            greatest = subst (λ n. IsGreatest counts (index + 1) n) (sym w.greatest-is) (greatest_still counts h.switches index greatest low before.attained before.greatest (sym c.hop.ensures ∙ w.in_default.is));
          }
    ]

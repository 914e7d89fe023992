use Rattle.std.proofs.Common.{◌≡◌, ◌∙◌, ◌<◌, ◌+◌, ◌*◌, ℕ, length, sym, ap, subst, arith}
use Rattle.fab_depgraph.specs.Listed.{Dependencies}
use Rattle.fab_nue.specs.Arenas.{AreListing}
use Rattle.fab_nue.specs.Forests.{AreForests, forest_in, DependsTowards}
use Rattle.fab_nue.proofs.Lanes.LaneLists.{same_length}
use Rattle.fab_nue.proofs.Lanes.EscapeSets.{all_towards, none_towards}
use Rattle.fab_nue.proofs.arenas.add_escapes.Goals as goal

pub add_escape_tree-requires-clause-forests : goal.add_escape_tree-requires-clause-forests
add_escape_tree-requires-clause-forests g c =
    subst (λ k. AreForests c.args.fabric.now k c.args.forests.now) (sym (same_length c.args.used.now c.loop-s.used c.loop-s.invariant.channels)) c.requires.forests

pub add_escape_tree-requires-clause-before : goal.add_escape_tree-requires-clause-before
add_escape_tree-requires-clause-before g c =
    let t = c.args.fabric.now in
    subst (λ k. AreListing k (λ on_lane a b. DependsTowards t k (λ lane. forest_in c.args.forests.now lane) c.loop-s.s on_lane a b) c.loop-s.used) (sym (same_length c.args.used.now c.loop-s.used c.loop-s.invariant.channels))
    c.loop-s.invariant.listed

pub loop-s-preserved : goal.loop-s-preserved
loop-s-preserved g c =
    let t = c.args.fabric.now in
    record {
      tree = c.add_escape_tree.ensures.tree;
      channels = c.in_ok-add_escape_tree.ensures.channels ∙ c.loop-s.invariant.channels;
      short = c.in_ok-add_escape_tree.ensures.short;
      listed = subst (λ k. AreListing k (λ on_lane a b. DependsTowards t k (λ lane. forest_in c.args.forests.now lane) (c.loop-s.s + 1) on_lane a b) c.add_escape_tree.new.used)
          (same_length c.args.used.now c.loop-s.used c.loop-s.invariant.channels) c.in_ok-add_escape_tree.ensures.after;
    }

pub returns-clause-listed : goal.returns-clause-listed
returns-clause-listed g c =
    let t = c.args.fabric.now in
    let n = length c.args.used.now in
    let end : c.loop-s.s ≡ length t.switches = omega (arith, c.loop-s-test.false, c.loop-s.auto.s-end, c.switches-s-end.ensures.count) in
    all_towards t n (λ lane. forest_in c.args.forests.now lane) c.switches-s-end.ensures.kept.rows c.loop-s.used
    (subst (λ k. AreListing n (λ on_lane a b. DependsTowards t n (λ lane. forest_in c.args.forests.now lane) k on_lane a b) c.loop-s.used) end c.loop-s.invariant.listed)

use Rattle.std.proofs.Common.{◌≡◌, ◌<◌, length, refl, sym, subst, arith, Some, get_or}
use Rattle.fab_escape.specs.Forest.{Forest, link_of}
use Rattle.fab_escape.specs.Climbing.{AreDepths, AreJumps, depth_at}
use Rattle.fab_escape.proofs.LinksInto.{IsHigher, depth_read, link_read, jump_higher, stands_on, link_found, no_link_past}
use Rattle.fab_escape.proofs.escape.Escape.link_into.Goals as goal

pub loop-link-smaller-then-index-depth : goal.loop-link-smaller-then-index-depth
loop-link-smaller-then-index-depth c =
    let f = c.args.self.now in
    let at = c.loop-link.at in
    let low = c.loop-link.invariant.low in
    let depths = c.self.inside.depths.items in
    let are : AreDepths f depths = subst (λ v. AreDepths v depths) c.self.view_is c.self.invariant.1 in
    let js : AreJumps f c.self.inside.jumps.items = subst (λ v. AreJumps v c.self.inside.jumps.items) c.self.view_is c.self.invariant.2 in
    let has : link_of f at ≡ Some c.in-Some.link = link_read f at c.index.result.now c.in-Some.link low
    (subst (λ (v : Forest). c.index.result.now ≡ get_or v.links at c.index.result.now) c.self.view_is c.index.ensures) c.in-Some.is in
    (jump_higher f depths c.self.inside.jumps.items are js at c.index-jump.result.now c.in-Some.link low has c.index-jump.ensures).less

pub loop-link-preserved-then-index-depth : goal.loop-link-preserved-then-index-depth
loop-link-preserved-then-index-depth c =
    let f = c.args.self.now in
    let at = c.loop-link.at in
    let low = c.loop-link.invariant.low in
    let depths = c.self.inside.depths.items in
    let roots : length f.roots ≡ length f.links = sym (subst (λ (v : Forest). length v.links ≡ length v.roots) c.self.view_is c.self.invariant.0.each) in
    let are : AreDepths f depths = subst (λ v. AreDepths v depths) c.self.view_is c.self.invariant.1 in
    let js : AreJumps f c.self.inside.jumps.items = subst (λ v. AreJumps v c.self.inside.jumps.items) c.self.view_is c.self.invariant.2 in
    let has : link_of f at ≡ Some c.in-Some.link = link_read f at c.index.result.now c.in-Some.link low
    (subst (λ (v : Forest). c.index.result.now ≡ get_or v.links at c.index.result.now) c.self.view_is c.index.ensures) c.in-Some.is in
    let jump : IsHigher f depths at c.index-jump.result.now = jump_higher f depths c.self.inside.jumps.items are js at c.index-jump.result.now c.in-Some.link low has c.index-jump.ensures in
    let here : c.index-depth.result.now ≡ depth_at depths c.args.from.0 = depth_read depths c.args.from.0 c.index-depth.result.now (omega (arith, c.requires.from, roots, are.each)) c.index-depth.ensures in
    let there : c.index-in-Some.result.now ≡ depth_at depths c.index-jump.result.now = depth_read depths c.index-jump.result.now c.index-in-Some.result.now (omega (arith, jump.low, are.each)) c.index-in-Some.ensures in
    record {
      stands = stands_on f depths c.args.from.0 c.args.to.0 at jump.links c.index-jump.result.now c.loop-link.invariant.stands jump.climbs (omega (arith, here, there, c.if-index-depth.true));
      low = jump.low;
    }

pub loop-link-preserved : goal.loop-link-preserved
loop-link-preserved c =
    let f = c.args.self.now in
    let at = c.loop-link.at in
    let low = c.loop-link.invariant.low in
    let depths = c.self.inside.depths.items in
    let roots : length f.roots ≡ length f.links = sym (subst (λ (v : Forest). length v.links ≡ length v.roots) c.self.view_is c.self.invariant.0.each) in
    let are : AreDepths f depths = subst (λ v. AreDepths v depths) c.self.view_is c.self.invariant.1 in
    let has : link_of f at ≡ Some c.in-Some.link = link_read f at c.index.result.now c.in-Some.link low
    (subst (λ (v : Forest). c.index.result.now ≡ get_or v.links at c.index.result.now) c.self.view_is c.index.ensures) c.in-Some.is in
    let parent = c.in-Some.link.parent in
    let within : parent < length f.links = (are.others at c.in-Some.link low has).0 in
    let here : c.index-depth.result.now ≡ depth_at depths c.args.from.0 = depth_read depths c.args.from.0 c.index-depth.result.now (omega (arith, c.requires.from, roots, are.each)) c.index-depth.ensures in
    let there : c.index-else-index-depth.result.now ≡ depth_at depths parent = depth_read depths parent c.index-else-index-depth.result.now (omega (arith, within, are.each)) c.index-else-index-depth.ensures in
    record {
      stands = stands_on f depths c.args.from.0 c.args.to.0 at 1 parent c.loop-link.invariant.stands (c.in-Some.link, has, refl) (omega (arith, here, there, c.if-index-depth-2.true));
      low = within;
    }

pub returns-then-link-from : goal.returns-then-link-from
returns-then-link-from c =
    let f = c.args.self.now in
    let at = c.loop-link.at in
    let low = c.loop-link.invariant.low in
    let depths = c.self.inside.depths.items in
    let roots : length f.roots ≡ length f.links = sym (subst (λ (v : Forest). length v.links ≡ length v.roots) c.self.view_is c.self.invariant.0.each) in
    let are : AreDepths f depths = subst (λ v. AreDepths v depths) c.self.view_is c.self.invariant.1 in
    let has : link_of f at ≡ Some c.in-Some.link = link_read f at c.index.result.now c.in-Some.link low
    (subst (λ (v : Forest). c.index.result.now ≡ get_or v.links at c.index.result.now) c.self.view_is c.index.ensures) c.in-Some.is in
    let parent = c.in-Some.link.parent in
    let within : parent < length f.links = (are.others at c.in-Some.link low has).0 in
    let here : c.index-depth.result.now ≡ depth_at depths c.args.from.0 = depth_read depths c.args.from.0 c.index-depth.result.now (omega (arith, c.requires.from, roots, are.each)) c.index-depth.ensures in
    let there : c.index-else-index-depth.result.now ≡ depth_at depths parent = depth_read depths parent c.index-else-index-depth.result.now (omega (arith, within, are.each)) c.index-else-index-depth.ensures in
    link_found f depths are c.args.from.0 c.args.to.0 at (omega (arith, c.requires.to, roots)) c.loop-link.invariant.stands c.in-Some.link has (omega (arith, here, there, c.if-index-depth-2.false)) c.if-link-from.true

pub returns-else-link-from : goal.returns-else-link-from
returns-else-link-from c =
    let f = c.args.self.now in
    let at = c.loop-link.at in
    let low = c.loop-link.invariant.low in
    let depths = c.self.inside.depths.items in
    let roots : length f.roots ≡ length f.links = sym (subst (λ (v : Forest). length v.links ≡ length v.roots) c.self.view_is c.self.invariant.0.each) in
    let are : AreDepths f depths = subst (λ v. AreDepths v depths) c.self.view_is c.self.invariant.1 in
    let has : link_of f at ≡ Some c.in-Some.link = link_read f at c.index.result.now c.in-Some.link low
    (subst (λ (v : Forest). c.index.result.now ≡ get_or v.links at c.index.result.now) c.self.view_is c.index.ensures) c.in-Some.is in
    let parent = c.in-Some.link.parent in
    let within : parent < length f.links = (are.others at c.in-Some.link low has).0 in
    let here : c.index-depth.result.now ≡ depth_at depths c.args.from.0 = depth_read depths c.args.from.0 c.index-depth.result.now (omega (arith, c.requires.from, roots, are.each)) c.index-depth.ensures in
    let there : c.index-else-index-depth.result.now ≡ depth_at depths parent = depth_read depths parent c.index-else-index-depth.result.now (omega (arith, within, are.each)) c.index-else-index-depth.ensures in
    no_link_past f depths are c.args.from.0 c.args.to.0 at (omega (arith, c.requires.to, roots)) c.loop-link.invariant.stands c.in-Some.link has (omega (arith, here, there, c.if-index-depth-2.false)) c.if-link-from.false

use Rattle.std.proofs.Common.{◌∙◌, ◌+◌, ◌-◌, ◌<◌, ◌≤◌, List, [], length, Option, refl, sym, ap, subst, arith}
use Rattle.std.specs.Prelude.{slice_index_or}
use Rattle.std.proofs.lemmas.Grind.{get_or_default_zero}
use Rattle.fab_escape.specs.declared.links.Link.{Link}
use Rattle.fab_escape.specs.Forest.{Forest, climbed}
use Rattle.fab_escape.specs.Climbing.{AreDepths}
use Rattle.fab_escape.proofs.Climbed.{AreJumpsBelow, parents_within, jump_pushed, are_jumps}
use Rattle.fab_escape.proofs.jumps.jumps_of.Goals as goal

abbrev forest : List (Option Link) → Forest
forest links = record { roots = []; links = links }

pub overflow_cast-depths : goal.overflow_cast-depths
overflow_cast-depths c = omega (arith, c.requires.few, (c.requires.depths (forest c.args.links.now) refl).each)

pub index-requires : goal.index-requires
index-requires c =
    let are = c.requires.depths (forest c.args.links.now) refl in
    omega (arith, are.each, are.small c.loop-s.s (omega (arith, are.each)), c.in_ok-landings.ensures.many, c.in_ok-landings.landings.ok.0)

pub overflow_sub-steps : goal.overflow_sub-steps
overflow_sub-steps c =
    let are = c.requires.depths (forest c.args.links.now) refl in
    let depth = slice_index_or c.args.depths.now c.loop-s.s 0 in
    let low : depth < length c.in_ok-landings.landings.items = omega (arith, are.each, are.small c.loop-s.s (omega (arith, are.each)), c.in_ok-landings.ensures.many) in
    omega (arith, c.index.ensures, get_or_default_zero c.in_ok-landings.landings.items depth c.index.result.now low, c.in_ok-landings.ensures.above depth)

pub overflow_cast-s : goal.overflow_cast-s
overflow_cast-s c = omega (arith, c.requires.few, (c.requires.depths (forest c.args.links.now) refl).each)

pub climb-requires-clause-start : goal.climb-requires-clause-start
climb-requires-clause-start c = omega (arith, (c.requires.depths (forest c.args.links.now) refl).each)

pub climb-requires-clause-within : goal.climb-requires-clause-within
climb-requires-clause-within c = parents_within (forest c.args.links.now) c.args.depths.now (c.requires.depths (forest c.args.links.now) refl)

pub loop-s-preserved : goal.loop-s-preserved
loop-s-preserved c = λ f same.
    let are : AreDepths f c.args.depths.now = c.requires.depths f same in
    let depth = slice_index_or c.args.depths.now c.loop-s.s 0 in
    let low : depth < length c.in_ok-landings.landings.items = omega (arith, are.each, are.small c.loop-s.s (omega (arith, are.each)), c.in_ok-landings.ensures.many) in
    let land : c.index.result.now ≤ depth - 1 = omega (arith, c.index.ensures, get_or_default_zero c.in_ok-landings.landings.items depth c.index.result.now low, c.in_ok-landings.ensures.above depth) in
    subst (λ xs. AreJumpsBelow f (c.loop-s.s + 1) xs) (sym c.in_ok-push.ensures.items)
    (jump_pushed f c.args.depths.now are c.loop-s.s c.index.result.now c.climb.result c.loop-s.jumps.items (omega (arith, are.each)) land
    (c.climb.ensures ∙ ap (λ links. climbed links (depth - c.index.result.now) c.loop-s.s) (sym same)) (c.loop-s.invariant f same))

pub returns : goal.returns
returns c = λ f same.
    let are : AreDepths f c.args.depths.now = c.requires.depths f same in
    are_jumps f c.loop-s.jumps.items (subst (λ n. AreJumpsBelow f n c.loop-s.jumps.items) (omega (arith, are.each)) (c.loop-s.invariant f same))

use Rattle.std.proofs.Common.{◌≡◌, ◌+◌, ◌++◌, ◌∷◌, [], List, Err, ap, sym, subst, ◌∙◌, arith, rules}
use Rattle.fab_model.specs.declared.rows.SwitchId.{SwitchId}
use Rattle.fab_top.proofs.Laying.Roots.{RootsSoFar, none_so_far, unknown, known, all_known}
use Rattle.fab_top.proofs.up_down.known_roots.Goals as goal

pub loop-guid-init : goal.loop-guid-init
loop-guid-init c = subst (λ xs. RootsSoFar c.args.fabric.now c.args.guids.now 0 xs) (sym c.new-roots.ensures.items) (none_so_far c.args.fabric.now c.args.guids.now)

pub returns-in_default-clause-taken : goal.returns-in_default-clause-taken
returns-in_default-clause-taken c =
    unknown c.args.fabric.now c.args.guids.now c.loop-guid.guid-index _ c.loop-guid.roots.items (omega (arith, c.loop-guid-test.true)) (search rules) c.loop-guid.invariant (sym c.in_default.is ∙ c.switch_of.ensures)
    ∙ ap (λ text. Err text) (search rules)

pub loop-guid-preserved : goal.loop-guid-preserved
loop-guid-preserved c =
    let items : c.push.new.self.items ≡ c.loop-guid.roots.items ++ c.in-Some.root ∷ [] = search rules in
    subst (λ (xs : List SwitchId). RootsSoFar c.args.fabric.now c.args.guids.now (c.loop-guid.guid-index + 1) xs) (sym items)
    (known c.args.fabric.now c.args.guids.now c.loop-guid.guid-index _ c.loop-guid.roots.items (omega (arith, c.loop-guid-test.true)) (search rules) c.loop-guid.invariant c.in-Some.root (sym c.in-Some.is ∙ c.switch_of.ensures))

pub returns-clause-taken : goal.returns-clause-taken
returns-clause-taken c = all_known c.args.fabric.now c.args.guids.now c.loop-guid.guid-index c.loop-guid.roots.items (omega (arith, c.loop-guid-test.false)) c.loop-guid.invariant

pub returns-clause-within : goal.returns-clause-within
returns-clause-within c = c.loop-guid.invariant.within

use Rattle.std.proofs.Common.{◌≡◌, ◌∙◌, ℕ, Option, None, Vec, Global, ap, subst, arith}
use Rattle.std.specs.Prelude.{IsSome}
use Rattle.std.proofs.lemmas.List.{get_or_read, with_items_is}
use Rattle.fab_tables.specs.Components.{component_of}
use Rattle.fab_tables.proofs.Joined.Search.{some_found, is_there, one_more_has, components_found}
use Rattle.fab_tables.proofs.components.number_components.Goals as goal
use Rattle.fab_tables.proofs.components.number_components.Goals.{then-is_none+in_ok-number_component, else-is_none}

pub loop-start-preserved : goal.loop-start-preserved
loop-start-preserved c =
    let before = c.loop-start.invariant in
    let numbers = c.loop-start.numbers.items in
    let read : c.index.result.now ≡ component_of numbers c.loop-start.start =
    get_or_read numbers c.loop-start.start c.index.result.now (omega (arith, before.0.whole, c.switches-count.ensures.count)) c.index.ensures None in
    elim c.if-is_none.branch [
      | then-is_none+in_ok-number_component w ↦
          (let after = w.in_ok-number_component.ensures in
          let same : c.if-is_none.numbers.items ≡ w.number_component.new.numbers =
          ap (λ (v : Vec (Option ℕ) Global). v.items) w.numbers-is ∙ with_items_is c.loop-start.numbers w.number_component.new.numbers (omega (arith, after.searched.whole, before.0.whole, c.loop-start.numbers.ok.0)) in
          rw same (after.searched, one_more_has numbers w.number_component.new.numbers c.loop-start.start before.1 (rw (← w.deref_mut.ensures.value) after.kept) (is_there _ c.loop-start.start after.begun)))
      | else-is_none w ↦
          rw w.numbers-is (before.0, one_more_has numbers numbers c.loop-start.start before.1 (λ s r e. e) (subst (λ o. IsSome o) read (some_found _ _ c.is_none.ensures w.if-is_none.false)))
    ]

pub returns : goal.returns
returns c = components_found c.args.fabric.now c.switches-count.ensures.kept c.loop-start.numbers.items c.loop-start.invariant.0 (λ s low. c.loop-start.invariant.1 s (omega (arith, c.switches-count.ensures.count)))

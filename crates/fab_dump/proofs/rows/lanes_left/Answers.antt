use Rattle.std.proofs.Common.{◌≡◌, ◌+◌, ◌<◌, length, length-set, take, get_or, Some, sym, ◌∙◌, ap, arith}
use Rattle.std.proofs.lemmas.List.{take_all}
use Rattle.std.proofs.lemmas.Grind.{take-set_at, common_steps}
use Rattle.fab_text.specs.Fields.{all_read, dec_up_to}
use Rattle.fab_dump.specs.FieldsLeft.{prepended}
use Rattle.fab_dump.specs.Lines.{sixteen}
use Rattle.fab_dump.proofs.Reading.RowValues.{one_value, too_many, just, not_sixteen, are_sixteen}
use Rattle.fab_dump.proofs.rows.lanes_left.Goals as goal

pub loop-level-preserved : goal.loop-level-preserved
loop-level-preserved c =
    let lanes = c.loop-level.lanes in
    let level = c.loop-level.level in
    let lane = c.in_ok-lanes.field-0 in
    let within : level < length lanes = omega (arith, c.loop-level.invariant.long) in
    record {
      long = length-set lanes level lane ∙ c.loop-level.invariant.long;
      read = ap (λ ys. prepended ys (all_read (dec_up_to 15) c.next.new.self)) (take-set_at lanes level (level + 1) lane (omega arith) within)
          ∙ sym (one_value (dec_up_to 15) (take level lanes) lane c.in_ok-next.field-0.now c.next.new.self c.in_ok-lanes.ensures.number)
          ∙ ap (λ fs. prepended (take level lanes) (all_read (dec_up_to 15) fs)) (sym c.in_ok-next.ensures) ∙ c.loop-level.invariant.read;
      below = grind (arith, common_steps, c.loop-level.invariant.below);
    }

pub returns-in-Some-clause-lanes : goal.returns-in-Some-clause-lanes
returns-in-Some-clause-lanes c =
    let lanes = c.loop-level.lanes in
    let level = c.loop-level.level in
    let whole : take level lanes ≡ lanes = take_all level lanes (omega (arith, c.loop-level.invariant.long)) in
    sym (ap sixteen (sym c.loop-level.invariant.read ∙ ap (λ fs. prepended (take level lanes) (all_read (dec_up_to 15) fs)) c.in-Some.ensures)
    ∙ not_sixteen _ (too_many (dec_up_to 15) 16 (take level lanes) c.in-Some.field-0.now c.next-2.new.self (ap length whole ∙ c.loop-level.invariant.long)))

pub returns-in-None-clause-lanes : goal.returns-in-None-clause-lanes
returns-in-None-clause-lanes c =
    let lanes = c.loop-level.lanes in
    let level = c.loop-level.level in
    let whole : take level lanes ≡ lanes = take_all level lanes (omega (arith, c.loop-level.invariant.long)) in
    sym (ap sixteen (sym c.loop-level.invariant.read ∙ ap (λ fs. prepended (take level lanes) (all_read (dec_up_to 15) fs)) c.in-None.ensures.0 ∙ just (take level lanes) ∙ ap (λ xs. Some xs) whole)
    ∙ are_sixteen lanes c.loop-level.invariant.long)

pub returns-in-None-clause-below : goal.returns-in-None-clause-below
returns-in-None-clause-below c = λ k d h.
    let low : get_or c.loop-level.lanes k 0 < 16 = c.loop-level.invariant.below k (omega (arith, c.loop-level.invariant.long, h)) in
    grind (arith, common_steps, low)

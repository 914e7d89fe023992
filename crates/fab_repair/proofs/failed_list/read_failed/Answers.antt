use Rattle.std.proofs.Common.{◌≡◌, ◌≤◌, ℕ, ◌∙◌, ◌+◌, ◌++◌, ◌∷◌, [], List, length, length-append, sym, ap, arith, rules}
use Rattle.fab_model.specs.declared.rows.Cable.{Cable}
use Rattle.fab_repair.proofs.ListSoFar.{list_from, ended, passed_over, cable_read, bad_line}
use Rattle.fab_repair.proofs.failed_list.read_failed.Goals as goal

one_more : (cables : List Cable) (cable : Cable) (now : List Cable) (line : ℕ) → now ≡ cables ++ cable ∷ [] → length cables ≤ line → length now ≤ line + 1
one_more cables cable now line is few = let more : length now ≡ length cables + 1 = ap (λ (all : List Cable). length all) is ∙ length-append cables (cable ∷ []) in omega (arith, more, few)

pub returns-in_default-cable_in-clause-cables : goal.returns-in_default-cable_in-clause-cables
returns-in_default-cable_in-clause-cables c =
    sym c.loop-found.invariant.rest
    ∙ bad_line c.loop-found.cables.items c.loop-found.line c.args.text.now c.loop-found.from c.in-Some.found (sym c.in-Some.ensures.line)
    (sym c.is_passed_over.ensures ∙ c.if-not-is_passed_over.true) (sym c.in_default-cable_in.ensures)

pub loop-found-preserved-in_ok-map_err : goal.loop-found-preserved-in_ok-map_err
loop-found-preserved-in_ok-map_err c =
    let cable = c.in-Some-cable_in.cable in
    let items : c.push.new.self.items ≡ c.loop-found.cables.items ++ cable ∷ [] = search rules in
    record {
      rest = ap (λ found. list_from found (c.loop-found.line + 1) c.args.text.now c.in-Some.found.next) items
          ∙ sym (cable_read c.loop-found.cables.items c.loop-found.line c.args.text.now c.loop-found.from c.in-Some.found (sym c.in-Some.ensures.line) cable
          (sym c.is_passed_over.ensures ∙ c.if-not-is_passed_over.true) (sym c.in-Some-cable_in.ensures))
          ∙ c.loop-found.invariant.rest;
      few = one_more c.loop-found.cables.items cable c.push.new.self.items c.loop-found.line items c.loop-found.invariant.few;
      count = omega (arith, c.loop-found.invariant.count, c.in-Some.ensures.within.later);
      within = c.in-Some.ensures.within.next;
    }

pub loop-found-preserved : goal.loop-found-preserved
loop-found-preserved c = record {
  rest = sym (passed_over c.loop-found.cables.items c.loop-found.line c.args.text.now c.loop-found.from c.in-Some.found (sym c.in-Some.ensures.line)
      (sym c.is_passed_over.ensures ∙ c.if-not-is_passed_over.false))
      ∙ c.loop-found.invariant.rest;
  few = omega (arith, c.loop-found.invariant.few);
  count = omega (arith, c.loop-found.invariant.count, c.in-Some.ensures.within.later);
  within = c.in-Some.ensures.within.next;
}

pub returns-clause-cables : goal.returns-clause-cables
returns-clause-cables c = sym c.loop-found.invariant.rest ∙ ended c.loop-found.cables.items c.loop-found.line c.args.text.now c.loop-found.from (sym c.in_default.ensures.line)

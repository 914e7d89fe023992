use Rattle.std.proofs.Common.{◌≡◌, ◌∙◌, ℕ, ◌<◌, ◌≤◌, ◌+◌, ◌++◌, ◌∷◌, [], List, length, map, nat_eq, cond, true, Result, Ok, Err, All, sym, ap, subst, arith, rules}
use Rattle.std.specs.Prelude.{◌==◌, slice_range}
use Rattle.std.specs.List.{list_any}
use Rattle.std.specs.HashSet.{contains}
use Rattle.std.proofs.lemmas.List.{length-map, map-append}
use Rattle.fab_text.specs.Readings.{Unless}
use Rattle.fab_mcast.specs.declared.fault.GroupFault.{GroupFault}
use Rattle.fab_mcast.specs.declared.groups.Group.{Group as Kept}
use Rattle.fab_mcast.specs.GroupList.{Group, AreGroups, groups_in, wants_memory}
use Rattle.fab_mcast.specs.Reading.{seen_group}
use Rattle.fab_mcast.proofs.ReadingGroups.{IsRead, groups_left, passed_over, group_read, group_is_read, one_group_more, one_known_more, number_kept, fault_of_line, passed_on, fault_given}
use Rattle.fab_mcast.proofs.group_list.read_groups.Goals as goal

pub returns-in_err-group-clause-groups : goal.returns-in_err-group-clause-groups
returns-in_err-group-clause-groups c =
    let t = c.args.fabric.now in
    let earlier = map seen_group c.loop-found.list.items in
    let fault = c.in_err-group.field-0.0 in
    fault_given c.from_residual.result (groups_in t c.args.text.now) fault c.from_residual.ensures.1
    (subst (λ (wanted : Result (List Group) GroupFault). Unless (wants_memory fault) (wanted ≡ Err fault)) c.loop-found.invariant.rest
    (fault_of_line t earlier c.loop-found.line c.args.text.now c.loop-found.from c.in-Some.found (sym c.in-Some.ensures.line) (sym c.is_passed_over.ensures ∙ c.if-not-is_passed_over.true) (wants_memory fault) fault
    (c.in_err-group.ensures.group earlier c.loop-found.invariant.numbers)))

pub loop-found-preserved-in_ok-map_err-2 : goal.loop-found-preserved-in_ok-map_err-2
loop-found-preserved-in_ok-map_err-2 c =
    let t = c.args.fabric.now in
    let earlier = map seen_group c.loop-found.list.items in
    let group = seen_group c.in_ok-group.group in
    let some = sym c.is_passed_over.ensures ∙ c.if-not-is_passed_over.true in
    let is = c.in_ok-group.ensures.group earlier c.loop-found.invariant.numbers in
    let items : c.push.new.self.items ≡ c.loop-found.list.items ++ c.in_ok-group.group ∷ [] = search rules in
    let seen : map seen_group c.push.new.self.items ≡ earlier ++ group ∷ [] = ap (λ (xs : List Kept). map seen_group xs) items ∙ map-append seen_group c.loop-found.list.items (c.in_ok-group.group ∷ []) in
    let count : length earlier ≡ length c.loop-found.list.items = length-map c.loop-found.list.items seen_group in
    let more : length c.push.new.self.items ≡ length c.loop-found.list.items + 1 = search rules in
    let read : IsRead t earlier group = group_is_read t (omega (arith, c.in_ok-group.ensures.fabric.rows.lid_count)) earlier (c.loop-found.line + 1) (slice_range c.args.text.now c.in-Some.found.start c.in-Some.found.end) group is in
    record {
      rest = ap (λ (all : List Group). groups_left t all (c.loop-found.line + 1) c.args.text.now c.in-Some.found.next) seen
          ∙ sym (group_read t earlier c.loop-found.line c.args.text.now c.loop-found.from c.in-Some.found (sym c.in-Some.ensures.line) group some is) ∙ c.loop-found.invariant.rest;
      numbers = λ n. number_kept earlier group n (contains nat_eq c.loop-found.numbers n) (contains nat_eq c.insert.new.self n) (c.loop-found.invariant.numbers n)
          ((passed_on _ c.insert.result c.map_err.result c.in_ok-map_err.field-0 c.map_err.ensures.variant c.in_ok-map_err.was c.insert.ensures.updates).0 n)
          ∙ ap (λ (all : List Group). list_any (λ (g : Group). g.number == n) all) (sym seen);
      are = subst AreGroups (sym seen) (one_group_more t earlier group c.loop-found.invariant.are (omega (arith, count, c.loop-found.invariant.few, c.loop-found.invariant.count, c.loop-found.invariant.within, c.requires)) read);
      known = subst (λ (all : List Group). All (λ (g : Group). All (λ n. n < length t.terminals) g.members) all) (sym seen) (one_known_more t earlier group c.loop-found.invariant.known read);
      few = omega (arith, more, c.loop-found.invariant.few);
      count = omega (arith, c.loop-found.invariant.count, c.in-Some.ensures.within.later);
      within = c.in-Some.ensures.within.next;
    }

pub loop-found-preserved : goal.loop-found-preserved
loop-found-preserved c = record {
  rest = sym (passed_over c.args.fabric.now (map seen_group c.loop-found.list.items) c.loop-found.line c.args.text.now c.loop-found.from c.in-Some.found (sym c.in-Some.ensures.line) (sym c.is_passed_over.ensures ∙ c.if-not-is_passed_over.false))
      ∙ c.loop-found.invariant.rest;
  numbers = c.loop-found.invariant.numbers;
  are = c.loop-found.invariant.are;
  known = c.loop-found.invariant.known;
  few = omega (arith, c.loop-found.invariant.few);
  count = omega (arith, c.loop-found.invariant.count, c.in-Some.ensures.within.later);
  within = c.in-Some.ensures.within.next;
}

use Rattle.std.proofs.Common.{◌≡◌, ◌+◌, ◌*◌, ◌<◌, ◌≤◌, Bool, true, false, List, length, sym, ◌∙◌, ap, subst, arith, slice_index_or, slice_set}
use Rattle.std.specs.Prelude.{◌==◌}
use Rattle.std.proofs.lemmas.Bool.{eq-eqb, ne_eqb}
use Rattle.std.proofs.lemmas.List.{get_or_read, length-map}
use Rattle.std.proofs.lemmas.List.Elements.{All-set}
use Rattle.fab_transit.specs.declared.found.Taken.{Taken}
use Rattle.fab_transit.specs.Finding.{Findings, IsTakenIn, AreFindings, FindsOneMore, mark_of}
use Rattle.fab_transit.specs.Marks.{standing_marks}
use Rattle.fab_transit.proofs.Marking.{mark_low, found_more, one_more, one_again, stands_as, stands_more}
use Rattle.fab_transit.proofs.found.Found.add.Goals as goal

pub invariant_of-self-then-index-self : goal.invariant_of-self-then-index-self
invariant_of-self-then-index-self c =
    let f = c.self.inside in
    let x = c.args.taken in
    let standing : List Bool = standing_marks f.stamp f.marks.items in
    let low : IsTakenIn f.channels f.bound x = subst (λ (g : Findings). IsTakenIn g.channels g.bound x) (sym c.self.view_is) c.requires in
    let place : c.node_of.result * 16 + x.level ≡ mark_of f.bound x = ap (λ n. n * 16 + x.level) c.node_of.ensures in
    let within : c.node_of.result * 16 + x.level < length f.marks.items = omega (arith, place, mark_low f.channels f.bound standing f.taken.items c.self.invariant.0 x low, length-map f.marks.items (λ mark. mark == f.stamp)) in
    let unmarked : slice_index_or standing (mark_of f.bound x) false ≡ false = ap (λ n. slice_index_or standing n false) (sym place)
    ∙ stands_as f.stamp f.marks.items (c.node_of.result * 16 + x.level) c.index.result.now false within (get_or_read f.marks.items (c.node_of.result * 16 + x.level) c.index.result.now within c.index.ensures 0) (ne_eqb c.index.result.now f.stamp c.if-index-self.true) in (
      subst (λ bs. AreFindings f.channels f.bound bs c.push.new.self.items) (sym (stands_more f.stamp f.marks.items (c.node_of.result * 16 + x.level) ∙ ap (λ n. slice_set standing n true) place))
          (subst (λ xs. AreFindings f.channels f.bound (slice_set standing (mark_of f.bound x) true) xs) (sym c.in_ok-push.ensures.items) (found_more f.channels f.bound standing f.taken.items c.self.invariant.0 x low unmarked)),
      All-set (λ mark. mark ≤ f.stamp) f.marks.items (c.node_of.result * 16 + x.level) f.stamp (omega arith) c.self.invariant.1,
    )

pub returns-in_ok-push : goal.returns-in_ok-push
returns-in_ok-push c =
    let f = c.self.inside in
    let x = c.args.taken in
    let low : IsTakenIn f.channels f.bound x = subst (λ (g : Findings). IsTakenIn g.channels g.bound x) (sym c.self.view_is) c.requires in
    subst (λ (g : Findings). FindsOneMore g x (record { channels = f.channels; bound = f.bound; taken = c.push.new.self.items })) c.self.view_is
    (subst (λ (xs : List Taken). FindsOneMore (record { channels = f.channels; bound = f.bound; taken = f.taken.items }) x (record { channels = f.channels; bound = f.bound; taken = xs })) (sym c.in_ok-push.ensures.items)
    (one_more f.channels f.bound (standing_marks f.stamp f.marks.items) f.taken.items c.self.invariant.0 x low))

pub returns-else-index-self : goal.returns-else-index-self
returns-else-index-self c =
    let f = c.self.inside in
    let x = c.args.taken in
    let standing : List Bool = standing_marks f.stamp f.marks.items in
    let low : IsTakenIn f.channels f.bound x = subst (λ (g : Findings). IsTakenIn g.channels g.bound x) (sym c.self.view_is) c.requires in
    let place : c.node_of.result * 16 + x.level ≡ mark_of f.bound x = ap (λ n. n * 16 + x.level) c.node_of.ensures in
    let within : c.node_of.result * 16 + x.level < length f.marks.items = omega (arith, place, mark_low f.channels f.bound standing f.taken.items c.self.invariant.0 x low, length-map f.marks.items (λ mark. mark == f.stamp)) in
    let marked : slice_index_or standing (mark_of f.bound x) false ≡ true = ap (λ n. slice_index_or standing n false) (sym place)
    ∙ stands_as f.stamp f.marks.items (c.node_of.result * 16 + x.level) c.index.result.now true within (get_or_read f.marks.items (c.node_of.result * 16 + x.level) c.index.result.now within c.index.ensures 0) (eq-eqb c.index.result.now f.stamp c.if-index-self.false) in
    subst (λ (g : Findings). FindsOneMore g x g) c.self.view_is (one_again f.channels f.bound standing f.taken.items c.self.invariant.0 x low marked)

use Rattle.std.proofs.Common.{◌≡◌, ◌∙◌, List, [], ◌∷◌, ◌++◌, sym, ap, subst, length, arith}
use Rattle.std.specs.Prelude.{slice_set}
use Rattle.std.proofs.lemmas.List.{length-set, nil_from_length}
use Rattle.fab_model.specs.declared.rows.SwitchId.{SwitchId}
use Rattle.fab_hops.specs.Searching.{IsQueue}
use Rattle.fab_hops.proofs.Queue.{IsTaken, is_taken, begun, done}
use Rattle.fab_hops.proofs.hop_search.count_hops.Goals as goal

pub bounds-row-switch : goal.bounds-row-switch
bounds-row-switch c =
    let whole : length c.loop-switch.row ≡ length c.args.fabric.now.switches = c.loop-switch.auto.row ∙ length-set c.args.row.now c.args.start.0 0 ∙ c.requires.whole in
    let is : IsTaken c.args.fabric.now c.args.start.0 c.loop-switch.row c.in-Some.switch c.pop_front.new.self.items =
    is_taken c.args.fabric.now c.requires.fabric.rows c.args.start.0 c.loop-switch.row c.loop-switch.queue.items c.in-Some.switch c.pop_front.new.self.items c.requires.start whole c.in-Some.ensures.items c.loop-switch.invariant in
    omega (arith, is.within, whole)

pub overflow_add-hops : goal.overflow_add-hops
overflow_add-hops c =
    let whole : length c.loop-switch.row ≡ length c.args.fabric.now.switches = c.loop-switch.auto.row ∙ length-set c.args.row.now c.args.start.0 0 ∙ c.requires.whole in
    omega (
      arith,
      (is_taken c.args.fabric.now c.requires.fabric.rows c.args.start.0 c.loop-switch.row c.loop-switch.queue.items c.in-Some.switch c.pop_front.new.self.items c.requires.start whole c.in-Some.ensures.items c.loop-switch.invariant).small,
    )

pub reach_tips-requires : goal.reach_tips-requires
reach_tips-requires c =
    let whole : length c.loop-switch.row ≡ length c.args.fabric.now.switches = c.loop-switch.auto.row ∙ length-set c.args.row.now c.args.start.0 0 ∙ c.requires.whole in
    let is : IsTaken c.args.fabric.now c.args.start.0 c.loop-switch.row c.in-Some.switch c.pop_front.new.self.items =
    is_taken c.args.fabric.now c.requires.fabric.rows c.args.start.0 c.loop-switch.row c.loop-switch.queue.items c.in-Some.switch c.pop_front.new.self.items c.requires.start whole c.in-Some.ensures.items c.loop-switch.invariant in
    record { fabric = c.requires.fabric; switch = is.within; whole = whole; small = is.small }

pub loop-switch-init : goal.loop-switch-init
loop-switch-init c =
    let items : c.push_back.new.self.items ≡ c.args.start ∷ [] = c.in_ok-push_back.ensures.items ∙ ap (λ (q : List SwitchId). q ++ c.args.start ∷ []) c.requires.empty in
    subst (λ q. IsQueue c.args.fabric.now c.args.start.0 (slice_set c.args.row.now c.args.start.0 0) q) (sym items) (begun c.args.fabric.now c.args.start c.args.row.now (omega (arith, c.requires.whole, c.requires.start)) c.requires.none)

pub loop-switch-preserved : goal.loop-switch-preserved
loop-switch-preserved c =
    let whole : length c.loop-switch.row ≡ length c.args.fabric.now.switches = c.loop-switch.auto.row ∙ length-set c.args.row.now c.args.start.0 0 ∙ c.requires.whole in
    c.in_ok-reach_tips.ensures.looked c.args.start.0
    (is_taken c.args.fabric.now c.requires.fabric.rows c.args.start.0 c.loop-switch.row c.loop-switch.queue.items c.in-Some.switch c.pop_front.new.self.items c.requires.start whole c.in-Some.ensures.items c.loop-switch.invariant).looking

pub returns-clause-row : goal.returns-clause-row
returns-clause-row c =
    let none : c.loop-switch.queue.items ≡ [] = nil_from_length c.loop-switch.queue.items (omega (arith, c.loop-switch.queue.ok.0, c.in_default.ensures.cases.0)) in
    done c.args.fabric.now c.requires.fabric.rows c.args.start.0 c.loop-switch.row c.requires.start (subst (λ q. IsQueue c.args.fabric.now c.args.start.0 c.loop-switch.row q) none c.loop-switch.invariant)

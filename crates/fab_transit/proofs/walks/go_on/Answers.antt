use Rattle.std.proofs.Common.{rules, ◌≡◌, ℕ, ◌*◌, ◌^◌, ◌<◌, length, Some, None, slice_get, sym, ◌∙◌, ap, subst, arith, Contains}
use Rattle.std.specs.Prelude.{IfSome}
use Rattle.std.proofs.lemmas.Option.{slice_get_within, get_or_from_slice_get}
use Rattle.fab_model.specs.declared.rows.Lid.{Lid}
use Rattle.fab_model.specs.Topology.{lids_of}
use Rattle.fab_certify.proofs.Collected.CollectingHops.{node_low}
use Rattle.fab_transit.specs.declared.found.Taken.{Taken}
use Rattle.fab_transit.specs.MixedWalks.{bound}
use Rattle.fab_transit.specs.Finding.{Findings, IsTakenIn}
use Rattle.fab_transit.specs.Walking.{AreFoundFor}
use Rattle.fab_transit.proofs.Bounds.{change_few}
use Rattle.fab_transit.proofs.Numbering.{taken_in}
use Rattle.fab_transit.proofs.GoingOn.{looked_behind, one_more_seen, all_seen}
use Rattle.fab_transit.specs.Changing.{Changing, IsChanging}
use Rattle.fab_transit.proofs.walks.go_on.Goals as goal

-- what stands at a place of the list is within the ranges
within : (g : Changing) → IsChanging g → (lid place : ℕ) (f : Findings) (x : Taken) → AreFoundFor g.fabric g.change lid f → slice_get f.taken place ≡ Some x → IsTakenIn (length g.fabric.channels) (bound g.change) x
within g is lid place f x are at = taken_in g is lid x (are.taken x (place, slice_get_within f.taken place x at, get_or_from_slice_get f.taken place x x at))

-- and the list is short
short : (g : Changing) → IsChanging g → (f : Findings) → f.channels ≡ length g.fabric.channels → f.bound ≡ bound g.change → f.channels * f.bound < 2 ^ 28
short g is f a b = subst (λ n. n * f.bound < 2 ^ 28) (sym a) (subst (λ n. length g.fabric.channels * n < 2 ^ 28) (sym b) (change_few g is))

pub packet_on-requires : goal.packet_on-requires
packet_on-requires c =
    within c.args.plans.now c.requires.changing c.args.lid.0 c.loop-taken.place c.loop-taken.found c.in-Some.taken c.loop-taken.invariant.found (sym c.get.ensures.there ∙ c.in-Some.is)

pub look-requires-clause-packet : goal.look-requires-clause-packet
look-requires-clause-packet c =
    let g = c.args.plans.now in
    let x = c.in-Some.taken in
    let low = within g c.requires.changing c.args.lid.0 c.loop-taken.place c.loop-taken.found x c.loop-taken.invariant.found (sym c.get.ensures.there ∙ c.in-Some.is) in
    record {
      changing = c.requires.changing;
      switch = c.packet_on.ensures.switch;
      in_use = subst (λ (l : Lid). Contains (lids_of g.fabric) l.0) (sym c.packet_on.ensures.lid) c.requires.in_use;
      level = subst (λ n. n < 16) (sym c.packet_on.ensures.level) low.level;
      held = subst (λ o. IfSome o (λ n. n < length g.fabric.channels * bound g.change)) (sym c.packet_on.ensures.held) (node_low (length g.fabric.channels) (bound g.change) x.hop.channel.0 x.hop.lane low.channel low.lane);
    }

pub overflow_add-place : goal.overflow_add-place
overflow_add-place c =
    let g = c.args.plans.now in
    let f = c.loop-taken.found in
    let rooms = c.loop-taken.invariant.found.rooms in
    omega (arith, slice_get_within f.taken c.loop-taken.place c.in-Some.taken (sym c.get.ensures.there ∙ c.in-Some.is), c.get.ensures.few, short g c.requires.changing f rooms.channels rooms.bound)

pub loop-taken-smaller : goal.loop-taken-smaller
loop-taken-smaller c =
    let f = c.loop-taken.found in
    let h = c.look.new.found in
    let same : h.channels * h.bound ≡ f.channels * f.bound = ap (λ n. n * h.bound) c.in_ok-look.ensures.advances.found.channels ∙ ap (λ n. f.channels * n) c.in_ok-look.ensures.advances.found.bound in
    omega (arith, same, slice_get_within f.taken c.loop-taken.place c.in-Some.taken (sym c.get.ensures.there ∙ c.in-Some.is), c.get.ensures.few)

pub loop-taken-preserved : goal.loop-taken-preserved
loop-taken-preserved c =
    let g = c.args.plans.now in
    let x = c.in-Some.taken in
    one_more_seen g.fabric g.change c.args.lid.0 c.args.walks.now c.loop-taken.found c.look.new.found c.loop-taken.walks c.look.new.walks c.loop-taken.place c.loop-taken.invariant x (sym c.get.ensures.there ∙ c.in-Some.is)
    (looked_behind g.fabric g.change c.args.lid.0 c.packet_on.result x c.loop-taken.found c.look.new.found c.loop-taken.walks c.look.new.walks
    (ap (λ (l : Lid). l.0) c.packet_on.ensures.lid) c.packet_on.ensures.level c.packet_on.ensures.here c.packet_on.ensures.held c.in_ok-look.ensures)

pub returns-clause-has : goal.returns-clause-has
returns-clause-has c =
    let g = c.args.plans.now in
    let none : c.get.result ≡ None = search rules in
    all_seen g.fabric g.change c.args.lid.0 c.args.walks.now c.loop-taken.found c.loop-taken.walks c.loop-taken.place c.loop-taken.invariant (sym c.get.ensures.there ∙ none)

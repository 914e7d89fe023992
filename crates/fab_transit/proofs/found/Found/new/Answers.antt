use Rattle.std.proofs.Common.{◌≡◌, ◌*◌, ◌^◌, ◌<◌, ℕ, length, replicate, sym, ◌∙◌, ap, subst}
use Rattle.fab_model.specs.Topology.{Topology}
use Rattle.fab_transit.specs.MixedWalks.{bound}
use Rattle.fab_transit.proofs.Bounds.{change_few}
use Rattle.fab_transit.proofs.Marking.{first_stamp}
use Rattle.fab_transit.proofs.found.Found.new.Goals as goal

pub invariant_of-result : goal.invariant_of-result
invariant_of-result c =
    let g = c.args.plans.now in
    let count : c.channels.result ≡ length g.fabric.channels = c.channels.ensures.count ∙ ap (λ (t : Topology). length t.channels) c.fabric.ensures.fabric in
    let rooms : c.channels.result * c.bound.result ≡ length g.fabric.channels * bound g.change = ap (λ n. n * c.bound.result) count ∙ ap (λ n. length g.fabric.channels * n) c.bound.ensures.bound in
    let items : c.in_ok-vec.field-0.items ≡ replicate (c.channels.result * c.bound.result * 16) 0
    = c.in_ok-vec.ensures.items_if_clones_equal (λ y same. same) ∙ ap {A = ℕ} (λ n. replicate {A = ℕ} (n * 16) 0) (c.virtual_channels.ensures ∙ sym rooms) in
    first_stamp c.channels.result c.bound.result c.in_ok-vec.field-0.items c.new.result.items items (subst (λ n. n < 2 ^ 28) (sym rooms) (change_few g c.fabric.ensures.kept)) c.new.ensures.items

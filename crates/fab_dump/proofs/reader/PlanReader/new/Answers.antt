use Rattle.std.proofs.Common.{◌≡◌, ◌∙◌, ap, refl, false, replicate, length}
use Rattle.fab_model.specs.Topology.{lids_of}
use Rattle.fab_dump.proofs.Reading.Begun.{begun}
use Rattle.fab_dump.proofs.reader.PlanReader.new.Goals as goal

pub returns : goal.returns
returns c =
    let t = c.args.fabric.now in
    let lids : c.lids.inside.lids.items ≡ lids_of t = c.lids.view_is ∙ c.in_ok-lids.ensures.lids in
    let switches = ap (λ n. replicate n false) c.switches-switches.ensures.count in
    record {
      stands = begun (record { version = c.args.version; count = c.args.count }) _ c.switches-switches.ensures.kept refl c.in_ok-empty_plan.ensures refl lids
          (c.in_ok-vec.ensures.items_if_clones_equal (λ y same. same) ∙ switches) (c.in_ok-vec-2.ensures.items_if_clones_equal (λ y same. same) ∙ switches)
          (c.in_ok-vec-3.ensures.items_if_clones_equal (λ y same. same) ∙ switches) refl
          (c.in_ok-vec-4.ensures.items_if_clones_equal (λ y same. same) ∙ ap (λ n. replicate n false) (c.len-places.ensures.count ∙ ap length c.in_ok-lids.ensures.lids));
    }

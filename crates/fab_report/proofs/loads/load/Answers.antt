use Rattle.std.proofs.Common.{◌<◌, ℕ, List, length, subst, sym, ap, arith, length-take, length-append, length-drop}
use Rattle.std.specs.Prelude.{All}
use Rattle.fab_model.specs.Topology.{lids_of}
use Rattle.fab_model.proofs.LidsInUse.{as_many, number_at}
use Rattle.fab_report.proofs.Reporting.LoadSums.{lid_added, loads_small, loads_are, same_counts, whole_counts}
use Rattle.fab_report.proofs.loads.load.Goals as goal

pub add_routes-requires-clause-small : goal.add_routes-requires-clause-small
add_routes-requires-clause-small c =
    subst (λ (xs : List ℕ). All (λ n. n < 4294967296) xs) (sym c.deref_mut-in-loop-lid.ensures.value)
    (loads_small c.args.fabric.now c.args.tables.now c.loop-lid.lid-index c.loop-lid.counts.items c.channels.ensures.kept c.loop-lid.invariant.counts)

pub loop-lid-preserved : goal.loop-lid-preserved
loop-lid-preserved c =
    let t = c.args.fabric.now in
    let lids = c.lids_in_use-lid-items.result.now in
    let k = c.loop-lid.lid-index in
    let added = c.in_ok-add_routes.ensures.added in
    record {
      counts =
          whole_counts (length t.channels) _ c.add_routes.new.counts _ (omega (arith, c.deref_mut-in-loop-lid.ensures.len, ap (λ (xs : List ℕ). length xs) c.deref_mut-in-loop-lid.ensures.value, c.loop-lid.invariant.counts.whole, added.whole))
          (lid_added t c.args.tables.now k _ c.deref_mut-in-loop-lid.result.now _ (omega (arith, as_many lids (lids_of t) c.lids_in_use-lid-items.ensures.lids, c.loop-lid-test.true))
          (sym (number_at lids (lids_of t) c.lids_in_use-lid-items.ensures.lids k _ 0 c.loop-lid-test.true))
          (same_counts (length t.channels) c.deref_mut-in-loop-lid.result.now c.loop-lid.counts.items c.deref_mut-in-loop-lid.ensures.value c.loop-lid.invariant.counts) added);
      amounts = omega (arith, length-take {A = ℕ}, length-append {A = ℕ}, length-drop {A = ℕ}, c.copy_from_slice.new.self.ok.0, c.copy_from_slice.ensures.len, c.deref_mut.ensures.len, ap (λ (xs : List ℕ). length xs) c.deref_mut.ensures.value, c.add_routes.auto.amounts, c.loop-lid.invariant.amounts);
      marks = c.in_ok-add_routes.ensures.marks;
    }

pub returns : goal.returns
returns c =
    let t = c.args.fabric.now in
    loads_are t c.args.tables.now c.loop-lid.lid-index c.loop-lid.counts.items (omega (arith, as_many c.lids_in_use-lid-items.result.now (lids_of t) c.lids_in_use-lid-items.ensures.lids, c.loop-lid-test.false)) c.loop-lid.invariant.counts

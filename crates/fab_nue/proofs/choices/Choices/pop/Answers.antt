use Rattle.std.proofs.Common.{heap_items, ◌∷◌, refl}
use Rattle.std.proofs.lemmas.List.Sorted.{IsPermutation-map}
use Rattle.std.specs.declared.cmp.Reverse.{Reverse}
use Rattle.fab_nue.specs.declared.choices.Choice.{Choice}
use Rattle.fab_nue.proofs.Heaps.HeapOrder.{least_of}
use Rattle.fab_nue.proofs.choices.Choices.pop.Goals as goal

pub returns : goal.returns
returns c =
    let top : Reverse Choice = c.in_ok-choice.field-0 in
    let items = heap_items c.self.inside.heap in
    rw (← c.self.view_is) (record {
      room = refl;
      entries = IsPermutation-map (λ (r : Reverse Choice). r.0) items (top ∷ heap_items c.pop.new.self) c.in_ok-choice.ensures.permutation;
      least = least_of top items (c.in_ok-choice.ensures.heap_order c.self.invariant.ordered).1;
    })

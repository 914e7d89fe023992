use Rattle.std.proofs.Common.{◌∷◌, refl, subst, heap_items}
use Rattle.std.specs.Prelude.{IsPermutation}
use Rattle.std.specs.Result.{OnOk}
use Rattle.std.specs.declared.cmp.Reverse.{Reverse}
use Rattle.std.proofs.lemmas.List.Sorted.{IsPermutation-map, IsPermutation-sym}
use Rattle.fab_nue.specs.declared.choices.Choice.{Choice}
use Rattle.fab_nue.proofs.choices.Choices.push.Goals as goal

pub returns : goal.returns
returns c =
    let item : Reverse Choice = record { 0 = c.args.choice } in
    let gained : IsPermutation (item ∷ heap_items c.self.inside.heap) (heap_items c.push.new.self) =
    subst (λ r. OnOk r (IsPermutation (item ∷ heap_items c.self.inside.heap) (heap_items c.push.new.self))) c.unwrap.ensures c.push.ensures.permutation in
    rw (← c.self.view_is) (record {
      room = refl;
      entries = IsPermutation-map (λ (r : Reverse Choice). r.0) (heap_items c.push.new.self) (item ∷ heap_items c.self.inside.heap) (IsPermutation-sym (item ∷ heap_items c.self.inside.heap) (heap_items c.push.new.self) gained);
    })

use Rattle.std.proofs.Common.{◌≡◌, ℕ, List, [], false, length, replicate, sym, ◌∙◌, ap, subst, arith}
use Rattle.std.proofs.lemmas.List.{length-replicate}
use Rattle.std.proofs.lemmas.List.FromFn.{length-range_with_len}
use Rattle.fab_depgraph.specs.declared.dep.Dep.{Dep}
use Rattle.fab_depgraph.specs.Search.{Search}
use Rattle.fab_depgraph.specs.Listed.{AreDependencies}
use Rattle.fab_depgraph.specs.Arena.{rows_of}
use Rattle.fab_depgraph.proofs.Listing.Kept.{first_dependencies}
use Rattle.fab_depgraph.proofs.arena.DepGraph.new.Goals as goal

pub returns-clause-channels : goal.returns-clause-channels
returns-clause-channels c = ap (length {A = ℕ}) c.in_ok-new-2.ensures.own ∙ length-range_with_len 0 c.args.channels

pub invariant_of-result : goal.invariant_of-result
invariant_of-result c =
    let numbers = c.in_ok-new-2.field-0 in
    let count : length numbers ≡ c.args.channels = ap (length {A = ℕ}) c.in_ok-new-2.ensures.own ∙ length-range_with_len 0 c.args.channels in
    let empty : c.new-4.result.items ≡ [] = c.new-4.ensures.items in
    record {
      dependencies = subst (λ (ds : List Dep). AreDependencies (record { channels = length numbers; listed = ds; spare = 0; numbers = numbers })) (sym empty) (first_dependencies numbers c.in_ok-new-2.ensures.numbers);
      rows = c.in_ok-new.ensures ∙ (ap (λ n. replicate n []) (sym count) ∙ ap (rows_of (length numbers)) (sym empty));
      marks = ap (λ (s : Search). length s.marks) c.in_ok-new-3.ensures ∙ (length-replicate c.args.channels false ∙ sym count);
      edge_room = omega (arith, ap (length {A = Dep}) empty);
      trail_room = omega (arith, ap (length {A = Dep}) empty);
    }

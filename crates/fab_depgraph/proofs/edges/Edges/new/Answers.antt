use Rattle.std.proofs.Common.{◌≡◌, ℕ, List, [], Option, None, replicate, sym, subst}
use Rattle.fab_model.proofs.Tables.{clone_of_none}
use Rattle.fab_depgraph.specs.Edges.{Slots, AreLinked, rows_in}
use Rattle.fab_depgraph.proofs.Linking.Empty.{none_linked, none_rows}
use Rattle.fab_depgraph.proofs.edges.Edges.new.Goals as goal

pub invariant_of-result : goal.invariant_of-result
invariant_of-result c =
    let none : c.in_ok-vec.field-0.items ≡ replicate c.args.channels None = c.in_ok-vec.ensures.items_if_clones_equal (clone_of_none _ (λ x h. h)) in
    (replicate c.args.channels [], subst (λ (s : Slots). AreLinked s c.in_ok-vec.field-0.items (replicate c.args.channels [])) (sym c.new.ensures.empty) (subst (λ (newest : List (Option ℕ)). AreLinked [] newest (replicate c.args.channels [])) (sym none) (none_linked c.args.channels)))

pub returns : goal.returns
returns c =
    let none : c.in_ok-vec.field-0.items ≡ replicate c.args.channels None = c.in_ok-vec.ensures.items_if_clones_equal (clone_of_none _ (λ x h. h)) in
    subst (λ (s : Slots). rows_in s c.in_ok-vec.field-0.items ≡ replicate c.args.channels []) (sym c.new.ensures.empty) (subst (λ (newest : List (Option ℕ)). rows_in [] newest ≡ replicate c.args.channels []) (sym none) (none_rows c.args.channels))

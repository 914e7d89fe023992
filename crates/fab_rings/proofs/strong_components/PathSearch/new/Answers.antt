use Rattle.std.proofs.Common.{◌≡◌, ℕ, replicate, ◌∙◌, ap}
use Rattle.fab_rings.proofs.Searching.Starting.{started}
use Rattle.fab_rings.proofs.strong_components.PathSearch.new.Goals as goal

pub returns-clause-search : goal.returns-clause-search
returns-clause-search c =
    let n = c.args.successors.now.nodes in
    let places : c.in_ok-vec.field-0.items ≡ replicate n 0 = c.in_ok-vec.ensures.items_if_clones_equal (λ y e. e) ∙ ap {A = ℕ} (λ n. replicate {A = ℕ} n 0) c.requires.nodes in
    let components : c.in_ok-vec-2.field-0.items ≡ replicate n 0 = c.in_ok-vec-2.ensures.items_if_clones_equal (λ y e. e) ∙ ap {A = ℕ} (λ n. replicate {A = ℕ} n 0) c.requires.nodes in
    rw (places, components, c.new.ensures.items, c.new-2.ensures.items, c.in_ok-all_nodes.ensures, c.requires.nodes) (started c.args.successors.now c.requires.kept)

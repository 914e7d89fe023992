use Rattle.std.proofs.Common.{◌<◌, ◌∙◌, ℕ, length, slice_index_or, ap, sym, arith}
use Rattle.std.proofs.lemmas.Bool.{eqb-true, eqb-false}
use Rattle.fab_rings.specs.Layers.{level_of}
use Rattle.fab_rings.proofs.Layering.ClosedWalks.{closed_behind, all_taken}
use Rattle.fab_rings.proofs.layers.find_levels.Goals as goal

pub returns-then-contains : goal.returns-then-contains
returns-then-contains c =
    let levels = c.in_ok-levels.levels.items in
    let found = c.if-contains.ensures.cases in
    closed_behind c.args.graph.now levels c.in_ok-levels.ensures found.0 (ap (λ ns. level_of ns found.0) (sym c.deref.ensures.value) ∙ eqb-true (slice_index_or c.deref.result.now found.0 1) 0 (found.2 1))

pub returns : goal.returns
returns c =
    let levels = c.in_ok-levels.levels.items in
    let none = c.if-contains.ensures.cases in
    all_taken c.args.graph.now levels c.in_ok-levels.ensures
    (λ b low. let within : b < length c.deref.result.now = omega (arith, low, c.in_ok-levels.ensures.each, ap (length {A = ℕ}) c.deref.ensures.value) in
    omega (arith, ap (λ ns. level_of ns b) c.deref.ensures.value, eqb-false (slice_index_or c.deref.result.now b 1) 0 (none b 1 (omega arith) within)))

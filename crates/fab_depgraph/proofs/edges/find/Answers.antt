use Rattle.std.proofs.Common.{◌≡◌, ◌≢◌, ℕ, Option, None, IsSome, length, ◌<◌, refl, sym, subst}
use Rattle.std.proofs.lemmas.Bool.{eqb-true, eqb-false}
use Rattle.slab.specs.Slab.{slab_len}
use Rattle.fab_depgraph.specs.declared.edges.Edge.{Edge}
use Rattle.fab_depgraph.specs.Edges.{linked_row}
use Rattle.fab_depgraph.proofs.Linking.Chains.{IsSeeking, seek_first, seek_none, seek_at, seek_found, seek_next, seek_falls}
use Rattle.fab_depgraph.proofs.edges.find.Goals as goal

pub loop-next-init : goal.loop-next-init
loop-next-init c = seek_first c.args.edges.now.slots (slab_len c.args.edges.now) c.args.second.0 c.args.newest c.requires.0 c.requires.1 c.requires.2

pub index-edge-requires : goal.index-edge-requires
index-edge-requires c =
    let P : Option ℕ → Type 0 = IsSeeking c.args.edges.now.slots (slab_len c.args.edges.now) c.args.second.0 c.args.newest in
    let at = seek_at c.args.edges.now.slots (slab_len c.args.edges.now) c.args.second.0 c.args.newest c.in-Some.key (subst P c.in-Some.is c.loop-next.invariant) in
    let Q : Option Edge → Type 0 = λ e. IsSome e in
    subst Q (sym at.there) refl

pub returns-then-eq : goal.returns-then-eq
returns-then-eq c =
    let P : Option ℕ → Type 0 = IsSeeking c.args.edges.now.slots (slab_len c.args.edges.now) c.args.second.0 c.args.newest in
    let same : c.index-edge.result.now.second.0 ≡ c.args.second.0 = eqb-true c.index-edge.result.now.second.0 c.args.second.0 (sym c.if-eq.ensures) in
    seek_found c.args.edges.now.slots (slab_len c.args.edges.now) c.args.second.0 c.args.newest c.in-Some.key c.index-edge.result.now (subst P c.in-Some.is c.loop-next.invariant) c.index-edge.ensures same

pub loop-next-smaller : goal.loop-next-smaller
loop-next-smaller c =
    let P : Option ℕ → Type 0 = IsSeeking c.args.edges.now.slots (slab_len c.args.edges.now) c.args.second.0 c.args.newest in
    let Q : Option ℕ → Type 0 = λ at. length (linked_row (slab_len c.args.edges.now) c.args.edges.now.slots c.index-edge.result.now.next) < length (linked_row (slab_len c.args.edges.now) c.args.edges.now.slots at) in
    subst Q (sym c.in-Some.is) (seek_falls c.args.edges.now.slots (slab_len c.args.edges.now) c.args.second.0 c.args.newest c.in-Some.key c.index-edge.result.now (subst P c.in-Some.is c.loop-next.invariant) c.index-edge.ensures)

pub loop-next-preserved : goal.loop-next-preserved
loop-next-preserved c =
    let P : Option ℕ → Type 0 = IsSeeking c.args.edges.now.slots (slab_len c.args.edges.now) c.args.second.0 c.args.newest in
    let differs : c.index-edge.result.now.second.0 ≢ c.args.second.0 = eqb-false c.index-edge.result.now.second.0 c.args.second.0 (sym c.if-eq.ensures) in
    seek_next c.args.edges.now.slots (slab_len c.args.edges.now) c.args.second.0 c.args.newest c.in-Some.key c.index-edge.result.now (subst P c.in-Some.is c.loop-next.invariant) c.index-edge.ensures differs

pub returns : goal.returns
returns c =
    let P : Option ℕ → Type 0 = IsSeeking c.args.edges.now.slots (slab_len c.args.edges.now) c.args.second.0 c.args.newest in
    let none : c.loop-next.next ≡ None = c.in_default.is in
    seek_none c.args.edges.now.slots (slab_len c.args.edges.now) c.args.second.0 c.args.newest (subst P none c.loop-next.invariant)

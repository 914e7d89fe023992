use Rattle.std.proofs.Common.{◌≡◌, ℕ, length, arith, subst}
use Rattle.fab_dfsssp.specs.Breaking.{ring_edges}
use Rattle.fab_dfsssp.specs.CountedEdges.{times_of}
use Rattle.fab_dfsssp.proofs.Weakest.{IsFirstLeastOf, first_least_one, first_least_smaller, first_least_stays, first_least_all}
use Rattle.fab_dfsssp.proofs.PathCounts.{ring_edges-length}
use Rattle.fab_dfsssp.proofs.least_edge.weakest_edge.Goals as goal
use Rattle.fab_dfsssp.proofs.least_edge.weakest_edge.Goals.{then-paths-fewest, else-paths-fewest}

pub loop-index-init : goal.loop-index-init
loop-index-init c =
    let count : ℕ × ℕ → ℕ = λ edge. times_of c.args.edges.now edge in
    (c.times-fewest.ensures, first_least_one count (ring_edges c.args.ring.now) c.edge_at-weakest.result c.edge_at-weakest.ensures)

pub loop-index-preserved : goal.loop-index-preserved
loop-index-preserved c =
    let count : ℕ × ℕ → ℕ = λ edge. times_of c.args.edges.now edge in
    let edges = ring_edges c.args.ring.now in
    elim c.if-paths-fewest.branch [
      | then-paths-fewest w ↦
          (rw (w.weakest-is, w.fewest-is) (
            c.times-paths.ensures,
            first_least_smaller count edges c.loop-index.index c.loop-index.weakest c.edge_at-edge.result c.loop-index.invariant.1 c.edge_at-edge.ensures
                (omega (arith, w.if-paths-fewest.true, c.times-paths.ensures, c.loop-index.invariant.0)),
          ))
      | else-paths-fewest w ↦
          (rw (w.weakest-is, w.fewest-is) (
            c.loop-index.invariant.0,
            first_least_stays count edges c.loop-index.index c.loop-index.weakest c.edge_at-edge.result c.loop-index.invariant.1 c.edge_at-edge.ensures
                (omega (arith, w.if-paths-fewest.false, c.times-paths.ensures, c.loop-index.invariant.0)),
          ))
    ]

pub returns : goal.returns
returns c =
    let count : ℕ × ℕ → ℕ = λ edge. times_of c.args.edges.now edge in
    let edges = ring_edges c.args.ring.now in
    let all : c.loop-index.index ≡ length edges =
    omega (arith, ring_edges-length c.args.ring.now, c.loop-index-test.false, c.loop-index.auto.index-end, c.requires.ring) in
    first_least_all count edges c.loop-index.weakest (subst (λ n. IsFirstLeastOf count edges n c.loop-index.weakest) all c.loop-index.invariant.1)

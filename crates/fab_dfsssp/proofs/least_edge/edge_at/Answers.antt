use Rattle.std.proofs.Common.{◌≡◌, ◌+◌, arith, slice_get, slice_index_or, Some}
use Rattle.std.proofs.lemmas.Option.{slice_get-get_or}
use Rattle.fab_dfsssp.proofs.PathCounts.{edge_between, edge_back}
use Rattle.fab_dfsssp.proofs.least_edge.edge_at.Goals as goal
use Rattle.fab_dfsssp.proofs.least_edge.edge_at.Goals.{then-index-ring, else-index-ring}

pub returns : goal.returns
returns c =
    let ring = c.args.ring.now in
    let k = c.args.index in
    let here : slice_get ring k ≡ Some (slice_index_or ring k 0) = slice_get-get_or ring k 0 c.requires in
    elim c.if-index-ring.branch [
      | then-index-ring w ↦ rw w.next-is (edge_between ring k (slice_index_or ring k 0) (slice_index_or ring (k + 1) 0) here (slice_get-get_or ring (k + 1) 0 w.if-index-ring.true))
      | else-index-ring w ↦
          rw w.next-is (edge_back ring k (slice_index_or ring k 0) (slice_index_or ring 0 0) here (slice_get-get_or ring 0 0 (omega (arith, c.requires))) (omega (arith, w.if-index-ring.false)))
    ]

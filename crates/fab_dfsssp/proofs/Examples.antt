-- A worked example: RING5. Each edge of each ring has two paths, so the first edge is taken, first from channel 0 to channel 2, then from 1 to 9.
use Rattle.std.proofs.Common.{◌≡◌, ℕ, [], ◌∷◌, map, refl}
use Rattle.fab_tables.proofs.Examples.MoreFabrics.{ring5, ring5_entries}
use Rattle.fab_dfsssp.specs.Assignments.{paths_over, moved}
use Rattle.fab_dfsssp.specs.Breaking.{ring_edges}

abbrev at_first : ℕ → ℕ → ℕ
at_first s lid = 0

edges_of_ring : ring_edges (0 ∷ 2 ∷ 4 ∷ 6 ∷ 8 ∷ []) ≡ (0, 2) ∷ (2, 4) ∷ (4, 6) ∷ (6, 8) ∷ (8, 0) ∷ []
edges_of_ring = refl

two_paths_each : map (λ edge. paths_over ring5 ring5_entries at_first 0 edge) (ring_edges (0 ∷ 2 ∷ 4 ∷ 6 ∷ 8 ∷ [])) ≡ 2 ∷ 2 ∷ 2 ∷ 2 ∷ 2 ∷ []
two_paths_each = refl

-- after the first step
abbrev after_one : ℕ → ℕ → ℕ
after_one s lid = moved ring5 ring5_entries at_first 0 (0, 2) s lid

of_source_0 : map (λ lid. after_one 0 lid) (1 ∷ 2 ∷ 3 ∷ 4 ∷ 5 ∷ 6 ∷ 7 ∷ 8 ∷ 9 ∷ 10 ∷ []) ≡ 0 ∷ 0 ∷ 1 ∷ 0 ∷ 0 ∷ 0 ∷ 0 ∷ 1 ∷ 0 ∷ 0 ∷ []
of_source_0 = refl

other_ring_first : map (λ edge. paths_over ring5 ring5_entries after_one 0 edge) (ring_edges (1 ∷ 9 ∷ 7 ∷ 5 ∷ 3 ∷ [])) ≡ 2 ∷ 2 ∷ 2 ∷ 2 ∷ 2 ∷ []
other_ring_first = refl

-- after the second: level 1 at switch 0 for LIDs 3, 8 and 4, 9
abbrev after_two : ℕ → ℕ → ℕ
after_two s lid = moved ring5 ring5_entries after_one 0 (1, 9) s lid

of_source_0_last : map (λ lid. after_two 0 lid) (1 ∷ 2 ∷ 3 ∷ 4 ∷ 5 ∷ 6 ∷ 7 ∷ 8 ∷ 9 ∷ 10 ∷ []) ≡ 0 ∷ 0 ∷ 1 ∷ 1 ∷ 0 ∷ 0 ∷ 0 ∷ 1 ∷ 1 ∷ 0 ∷ []
of_source_0_last = refl

of_source_1_last : map (λ lid. after_two 1 lid) (1 ∷ 2 ∷ 3 ∷ 4 ∷ 5 ∷ 6 ∷ 7 ∷ 8 ∷ 9 ∷ 10 ∷ []) ≡ 0 ∷ 0 ∷ 0 ∷ 0 ∷ 0 ∷ 0 ∷ 0 ∷ 0 ∷ 0 ∷ 0 ∷ []
of_source_1_last = refl

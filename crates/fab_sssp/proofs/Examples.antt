-- Worked examples. On REAL the start weight is 55; at LID 3 the second leaf's port 21 already carries LID 1 of two terminals.
use Rattle.std.proofs.Common.{◌≡◌, ℕ, List, [], ◌∷◌, refl, Option, Some, None}
use Rattle.fab_tables.proofs.Examples.MoreFabrics.{pair, real, real_entries}
use Rattle.fab_sssp.specs.WeightTables.{start_weight}
use Rattle.fab_tables.specs.TreeWalks.{walk_of, terminals_through}
use Rattle.fab_sssp.specs.Carried.{terminals_carried}
use Rattle.fab_sssp.specs.LeastWeightTables.{weight_at}

start_of_real : start_weight real ≡ 55
start_of_real = refl

start_of_pair : start_weight pair ≡ 17
start_of_pair = refl

-- channel 1 leaves the second leaf by port 21, channel 2 by port 22
port_21_at_3 : weight_at real real_entries 3 1 ≡ 57
port_21_at_3 = refl

port_22_at_3 : weight_at real real_entries 3 2 ≡ 55
port_22_at_3 = refl

-- at LID 4 both carry two
port_21_at_4 : weight_at real real_entries 4 1 ≡ 57
port_21_at_4 = refl

port_22_at_4 : weight_at real real_entries 4 2 ≡ 57
port_22_at_4 = refl

-- at LID 5 the core's port 3 weighs 55 against 56 of port 2, and at LID 6 both weigh 56
core_port_2_at_5 : weight_at real real_entries 5 4 ≡ 56
core_port_2_at_5 = refl

core_port_3_at_5 : weight_at real real_entries 5 5 ≡ 55
core_port_3_at_5 = refl

core_port_2_at_6 : weight_at real real_entries 6 4 ≡ 56
core_port_2_at_6 = refl

core_port_3_at_6 : weight_at real real_entries 6 5 ≡ 56
core_port_3_at_6 = refl

-- the tree of LID 1, and what it adds: one for the first leaf's terminal nowhere, two for the second leaf's terminals
abbrev tree_1 : List (Option ℕ)
tree_1 = None ∷ Some 1 ∷ Some 3 ∷ []

walk_from_second_leaf : walk_of real tree_1 1 ≡ 1 ∷ 3 ∷ []
walk_from_second_leaf = refl

adds_two : terminals_through real tree_1 1 ≡ 2
adds_two = refl

-- what raising along the tree adds is what the finished tables carry
same_as_carried : terminals_through real tree_1 1 ≡ terminals_carried real real_entries 1 1
same_as_carried = refl

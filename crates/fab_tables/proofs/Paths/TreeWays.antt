-- The walks of a tree are ways, so terminals are carried along them as along routes.
use Rattle.std.proofs.Common.{◌≡◌, ℕ, ◌<◌, ◌⊎◌, inl, inr, List, [], ◌∷◌, length, Some, None, Option, refl}
use Rattle.std.specs.Prelude.{◌==◌, count_by, slice_index}
use Rattle.fab_model.specs.declared.rows.TerminalRow.{TerminalRow}
use Rattle.fab_model.specs.Topology.{Topology}
use Rattle.fab_model.specs.WellFormed.{IsWellFormed}
use Rattle.fab_model.proofs.Lists.Members.{in_all}
use Rattle.fab_tables.specs.Route.{tip}
use Rattle.fab_tables.specs.Trees.{next}
use Rattle.fab_tables.specs.TreeWalks.{IsTree, walk_of, terminals_through}
use Rattle.fab_tables.proofs.Paths.Carried.{AreWays, all_added, terminals_added}
use Rattle.fab_tables.proofs.Paths.TreeWalks.{goes_walk_of, walk_of_next}

pub tree_ways : (t : Topology) (tree : List (Option ℕ)) → IsTree t tree → AreWays (tip t) (walk_of t tree)
tree_ways t tree is s = go (next tree s) refl
  where
    go : (o : Option ℕ) → next tree s ≡ o → (walk_of t tree s ≡ []) ⊎ ((c : ℕ) × (walk_of t tree s ≡ c ∷ walk_of t tree (tip t c)))
    go None none = inl (goes_walk_of t tree s [] is.each_switch none)
    go (Some c) some = inr (c, walk_of_next t tree s c is some)

-- what the terminals of all switches add to a channel are those whose walk contains it
pub through_tree : (t : Topology) (tree : List (Option ℕ)) (terminals : List ℕ) → IsWellFormed t → length terminals ≡ length t.switches →
    ((s : ℕ) → s < length t.switches → slice_index terminals s ≡ count_by (λ (row : TerminalRow). row.switch.0 == s) t.terminals) → (channel : ℕ) →
    all_added (walk_of t tree) (length t.switches) terminals channel ≡ terminals_through t tree channel
through_tree t tree terminals good room each channel =
    terminals_added (walk_of t tree) t.terminals (length t.switches) terminals room each
    (λ row at. in_all (λ (r : TerminalRow). r.switch.0 < length t.switches) t.terminals good.terminal_switches row at) channel

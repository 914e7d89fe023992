-- Escape routes repeat no switch: what lies behind a switch of a walk is told by the switch, and gets shorter along it.
use Rattle.std.proofs.Common.{◌≡◌, ◌≢◌, ℕ, zero, suc, ◌+◌, ◌≤◌, List, [], ◌∷◌, length, ap, subst, arith, Option}
use Rattle.std.specs.Prelude.{AllPairs, slice_index_or}
use Rattle.std.proofs.lemmas.List.{length-map}
use Rattle.fab_model.specs.Topology.{Topology}
use Rattle.fab_tables.specs.Route.{tip}
use Rattle.fab_tables.specs.TreeWalks.{GoesAlong, walk_of}
use Rattle.fab_tables.proofs.Paths.TreeWalks.{one_walk, walk_goes}
use Rattle.fab_escape.specs.Forest.{escape_tree}
use Rattle.fab_escape.specs.Laws.{switches_along, EscapeRoutesRepeatNoSwitch}
use Rattle.fab_escape.proofs.EscapeTrees.{escape_tree_is_tree}

module _ (t : Topology) (tree : List (Option ℕ)) where
  -- the walk from a switch on it, so much shorter
  behind : (cs : List ℕ) (s j d : ℕ) → GoesAlong t tree s cs → j ≤ length cs → (rest : List ℕ) × GoesAlong t tree (slice_index_or (switches_along t s cs) j d) rest × (length rest + j ≡ length cs)
  behind cs s zero d goes low = (cs, goes, omega arith)
  behind [] s (suc j) d goes low = absurd (omega (arith, low))
  behind (c ∷ cs) s (suc j) d goes low =
      let rest : (rest : List ℕ) × GoesAlong t tree (slice_index_or (switches_along t (tip t c) cs) j d) rest × (length rest + j ≡ length cs) = behind cs (tip t c) j d goes.1 (omega (arith, low)) in
      (rest.0, rest.1, omega (arith, rest.2))

  pub no_repeat : (cs : List ℕ) (s : ℕ) → GoesAlong t tree s cs → AllPairs (λ a b. a ≢ b) (switches_along t s cs)
  no_repeat cs s goes i j d less low same =
      let most : j ≤ length cs = omega (arith, low, length-map cs (λ c. tip t c)) in
      let first : (rest : List ℕ) × GoesAlong t tree (slice_index_or (switches_along t s cs) i d) rest × (length rest + i ≡ length cs) = behind cs s i d goes (omega (arith, less, most)) in
      let second : (rest : List ℕ) × GoesAlong t tree (slice_index_or (switches_along t s cs) j d) rest × (length rest + j ≡ length cs) = behind cs s j d goes most in
      let one : first.0 ≡ second.0 = one_walk t tree (slice_index_or (switches_along t s cs) j d) first.0 second.0 (subst (λ x. GoesAlong t tree x first.0) same first.1) second.1 in
      omega (arith, less, first.2, second.2, ap (λ (xs : List ℕ). length xs) one)

pub escape_routes_repeat_no_switch : EscapeRoutesRepeatNoSwitch
escape_routes_repeat_no_switch t lane f good forest from to low =
    no_repeat t (escape_tree f to) (walk_of t (escape_tree f to) from) from (walk_goes t (escape_tree f to) from (escape_tree_is_tree t lane f to good forest low))

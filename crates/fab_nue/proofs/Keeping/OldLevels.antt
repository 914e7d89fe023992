-- Whether packets keep their lane on the way along a tree, switch by switch.
use Rattle.std.proofs.Common.{◌≡◌, ◌≢◌, ℕ, ◌<◌, inl, inr, Bool, true, false, List, [], Option, Some, None, refl, sym, ◌∙◌, ap, subst, arith}
use Rattle.std.specs.Prelude.{Contains, MatchBool}
use Rattle.std.proofs.lemmas.Option.{same_Some}
use Rattle.fab_model.specs.Topology.{Topology}
use Rattle.fab_model.specs.Connected.{IsConnectedTo}
use Rattle.fab_model.specs.WellFormed.{IsWellFormed}
use Rattle.fab_tables.specs.declared.plan.Plan.{Plan}
use Rattle.fab_tables.specs.Route.{tip, visited, route}
use Rattle.fab_tables.specs.Trees.{next}
use Rattle.fab_tables.specs.TreeWalks.{IsTree, walk_of}
use Rattle.fab_tables.proofs.Paths.TreeWalks.{goes_walk_of}
use Rattle.fab_nue.specs.Kept.{old_level, old_lane, KeepsLevel}
use Rattle.fab_nue.specs.OldRoutes.{IsRouteTree, KeepsLaneFrom, KeepsLevelAlong}
use Rattle.fab_nue.proofs.Searching.Growing.{same_or_other}
use Rattle.fab_nue.proofs.Searching.Passing.{passes_later, passes_before}
use Rattle.fab_nue.proofs.Laying.Members.{first, first_or_later}
use Rattle.fab_nue.proofs.Keeping.RouteTrees.{route_walk}

module _ (t : Topology) (old : Plan) (tree : List (Option ℕ)) (level : ℕ) (is : IsTree t tree) where
  pub keeps_later : (s c : ℕ) → next tree s ≡ Some c → KeepsLaneFrom t old tree level s → KeepsLaneFrom t old tree level (tip t c)
  keeps_later s c own keeps at has = keeps at (passes_later t tree is s at c own has)

  pub keeps_before : (s c : ℕ) → next tree s ≡ Some c → old_lane old.lanes s level ≡ level → KeepsLaneFrom t old tree level (tip t c) → KeepsLaneFrom t old tree level s
  keeps_before s c own here keeps at has = elim (same_or_other s at) [
    | inl e ↦ subst (λ k. old_lane old.lanes k level ≡ level) e here
    | inr differ ↦ keeps at (passes_before t tree is s at c own differ has)
  ]

  pub keeps_end : (s : ℕ) → next tree s ≡ None → old_lane old.lanes s level ≡ level → KeepsLaneFrom t old tree level s
  keeps_end s none here at has =
      let alone : walk_of t tree s ≡ [] = goes_walk_of t tree s [] is.each_switch none in
      elim (first_or_later s at [] (subst (λ cs. Contains (visited t s cs) at) alone has)) [
        | inl e ↦ subst (λ k. old_lane old.lanes k level ≡ level) e here
        | inr rest ↦ absurd (omega (arith, rest.1))
      ]

  pub keeps_here : (s : ℕ) → KeepsLaneFrom t old tree level s → old_lane old.lanes s level ≡ level
  keeps_here s keeps = keeps s (0, omega arith, refl)

-- the walk of a tree of routes is the route
module _ (t : Topology) (lanes : ℕ) (old : Plan) (lid : ℕ) (tree : List (Option ℕ)) (good : IsWellFormed t) (routes : IsRouteTree t old.tables lid tree) (s : ℕ) (connected : IsConnectedTo t s lid) where
  same_walk : walk_of t tree s ≡ (route t old.tables s lid).channels
  same_walk = route_walk t old.tables lid tree good routes s connected

  pub along_route : KeepsLevelAlong t lanes old tree s lid → KeepsLevel t lanes old s lid
  along_route x = record { level = x.level; is = x.is; below = x.below; same_lane = λ at has. x.same_lane at (subst (λ cs. Contains (visited t s cs) at) (sym same_walk) has) }

  pub route_along : KeepsLevel t lanes old s lid → KeepsLevelAlong t lanes old tree s lid
  route_along x = record { level = x.level; is = x.is; below = x.below; same_lane = λ at has. x.same_lane at (subst (λ cs. Contains (visited t s cs) at) same_walk has) }

-- an answer to one question answers another one
pub answers_also : (b : Bool) (P Q : Type 0) → (P → Q) → (¬ P → ¬ Q) → MatchBool b P (¬ P) → MatchBool b Q (¬ Q)
answers_also true P Q to from x = to x
answers_also false P Q to from x = from x

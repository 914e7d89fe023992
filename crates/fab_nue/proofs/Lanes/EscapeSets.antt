-- The escape sets of the lanes, switch by switch.
use Rattle.std.proofs.Common.{◌≡◌, ◌≢◌, ℕ, suc, ◌+◌, ◌*◌, ◌%◌, ◌<◌, ◌≤◌, ◌⊎◌, inl, inr, List, [], length, Option, Some, refl, sym, ◌∙◌, ap, subst, arith}
use Rattle.std.specs.Prelude.{Contains, option_map, unwrap_or}
use Rattle.fab_graph.specs.Walks.{SameGraph}
use Rattle.fab_graph.proofs.Parts.{part_acyclic}
use Rattle.fab_model.specs.declared.rows.Place.{Place}
use Rattle.fab_model.specs.Topology.{Topology, place_of}
use Rattle.fab_model.specs.WellFormed.{IsWellFormed}
use Rattle.fab_tables.specs.TreeWalks.{DependsInTree}
use Rattle.fab_tables.proofs.Paths.FallingRoutes.{place_below}
use Rattle.fab_depgraph.specs.declared.dep.Dep.{Dep}
use Rattle.fab_depgraph.specs.Listed.{Dependencies, IsListed}
use Rattle.fab_escape.specs.Forest.{Forest, escape_tree}
use Rattle.fab_escape.specs.EscapeSet.{home}
use Rattle.fab_escape.proofs.Numbers.{escape_is_acyclic}
use Rattle.fab_nue.specs.Search.{ClosesNone}
use Rattle.fab_nue.specs.NuePlan.{DependsToEscapeIn}
use Rattle.fab_nue.specs.Arenas.{listed_in, AreListing, AreShort, ChangesLane, ListsTree}
use Rattle.fab_nue.specs.Forests.{forest_in, AreForests, DependsTowards}
use Rattle.fab_nue.proofs.Searching.Growing.{same_or_other}
use Rattle.fab_nue.proofs.Lanes.OwnLids.{own_place}

-- the home lane of a LID is that of its switch
pub home_at : (t : Topology) (lid lanes : ℕ) (place : Place) → place_of t lid ≡ Some place → home t lid lanes ≡ place.switch.0 % lanes
home_at t lid lanes place is = ap (λ (o : Option Place). unwrap_or (option_map (λ (p : Place). p.switch.0 % lanes) o) 0) is

module _ (t : Topology) (lanes : ℕ) (forest : ℕ → Forest) (good : IsWellFormed t) where
  -- those towards all switches are the escape set
  pub towards_escapes : (before on_lane c d : ℕ) → before ≤ length t.switches → DependsTowards t lanes forest before on_lane c d → DependsToEscapeIn t lanes forest on_lane c d
  towards_escapes before on_lane c d few x =
      let own : (lid : ℕ) × (place : Place) × (place_of t lid ≡ Some place) × (place.switch.0 ≡ x.0) = own_place t x.0 good (omega (arith, x.1, few)) in (
        own.0,
        own.1,
        own.2,
        home_at t own.0 lanes own.1 own.2 ∙ ap (λ s. s % lanes) own.3 ∙ x.2,
        subst (λ s. DependsInTree t (escape_tree (forest on_lane) s) c d) (sym own.3) x.3,
      )

  pub escapes_towards : (on_lane c d : ℕ) → DependsToEscapeIn t lanes forest on_lane c d → DependsTowards t lanes forest (length t.switches) on_lane c d
  escapes_towards on_lane c d x = (x.1.switch.0, place_below t good x.0 x.1 x.2, sym (home_at t x.0 lanes x.1 x.2) ∙ x.3, x.4)

  pub all_towards : (used : List Dependencies) → AreListing lanes (λ on_lane c d. DependsTowards t lanes forest (length t.switches) on_lane c d) used →
      AreListing lanes (λ on_lane c d. DependsToEscapeIn t lanes forest on_lane c d) used
  all_towards used lists on_lane below c d = (
    (λ l. towards_escapes (length t.switches) on_lane c d (omega arith) ((lists on_lane below c d).0 l)),
    (λ x. (lists on_lane below c d).1 (escapes_towards on_lane c d x)),
  )

  -- one switch more
  grows : (n on_lane c d : ℕ) → DependsTowards t lanes forest n on_lane c d → DependsTowards t lanes forest (n + 1) on_lane c d
  grows n on_lane c d x = (x.0, omega (arith, x.1), x.2, x.3)

  old_or_new : (n on_lane c d : ℕ) → DependsTowards t lanes forest (n + 1) on_lane c d → DependsTowards t lanes forest n on_lane c d ⊎ ((n % lanes ≡ on_lane) × DependsInTree t (escape_tree (forest on_lane) n) c d)
  old_or_new n on_lane c d x = elim (same_or_other x.0 n) [
    | inl e ↦ inr (subst (λ s. s % lanes ≡ on_lane) e x.2, subst (λ s. DependsInTree t (escape_tree (forest on_lane) s) c d) e x.3)
    | inr other ↦ inl (x.0, omega (arith, x.1, other), x.2, x.3)
  ]

  pub one_more_towards : (n lane : ℕ) (old new : List Dependencies) → n % lanes ≡ lane → lane < lanes →
      AreListing lanes (λ on_lane c d. DependsTowards t lanes forest n on_lane c d) old → ChangesLane lane old new → ListsTree t (escape_tree (forest lane) n) (listed_in old lane) (listed_in new lane) →
      AreListing lanes (λ on_lane c d. DependsTowards t lanes forest (n + 1) on_lane c d) new
  one_more_towards n lane old new at low lists changes tree on_lane below c d = elim (same_or_other on_lane lane) [
    | inl e ↦ subst (λ k. (IsListed (listed_in new k) c d → DependsTowards t lanes forest (n + 1) k c d) × (DependsTowards t lanes forest (n + 1) k c d → IsListed (listed_in new k) c d)) (sym e) (here_to, here_from)
    | inr other ↦
        (let same : listed_in new on_lane ≡ listed_in old on_lane = changes.listed on_lane other in (
          (λ l. grows n on_lane c d ((lists on_lane below c d).0 (subst (λ xs. IsListed xs c d) same l))),
          (λ x. elim (old_or_new n on_lane c d x) [
            | inl o ↦ subst (λ xs. IsListed xs c d) (sym same) ((lists on_lane below c d).1 o)
            | inr own ↦ absurd (other (sym own.0 ∙ at))
          ]),
        ))
  ]
    where
      here_to : IsListed (listed_in new lane) c d → DependsTowards t lanes forest (n + 1) lane c d
      here_to l = elim ((tree.union c d).1 l) [
        | inl o ↦ grows n lane c d ((lists lane low c d).0 o)
        | inr own ↦ (n, omega arith, at, own)
      ]

      here_from : DependsTowards t lanes forest (n + 1) lane c d → IsListed (listed_in new lane) c d
      here_from x = elim (old_or_new n lane c d x) [
        | inl o ↦ (tree.union c d).0 (inl ((lists lane low c d).1 o))
        | inr own ↦ (tree.union c d).0 (inr own.1)
      ]

-- with the escape trees towards smaller switches one closes no walk
pub escape_closes_none : (t : Topology) (lanes n lane : ℕ) (forests : List Forest) (used : List Dependencies) → IsWellFormed t → AreForests t lanes forests → n < length t.switches → n % lanes ≡ lane → lane < lanes →
    AreListing lanes (λ on_lane c d. DependsTowards t lanes (λ k. forest_in forests k) n on_lane c d) used → ClosesNone t (IsListed (listed_in used lane)) (escape_tree (forest_in forests lane) n)
escape_closes_none t lanes n lane forests used good are few at low lists = part_acyclic
    (λ (c d : ℕ). IsListed (listed_in used lane) c d ⊎ DependsInTree t (escape_tree (forest_in forests lane) n) c d)
    (λ (c d : ℕ). DependsToEscapeIn t lanes (λ k. forest_in forests k) lane c d)
    (λ c d x. elim x [
      | inl l ↦ towards_escapes t lanes (λ k. forest_in forests k) good n lane c d (omega (arith, few)) ((lists lane low c d).0 l)
      | inr own ↦ towards_escapes t lanes (λ k. forest_in forests k) good (n + 1) lane c d (omega (arith, few)) (n, omega arith, at, own)
    ])
    (escape_is_acyclic t lane (forest_in forests lane) good (are.right lane low) lanes)

-- empty arenas list nothing
pub none_towards : (t : Topology) (lanes : ℕ) (forest : ℕ → Forest) (used : List Dependencies) → AreShort 0 used → AreListing lanes (λ on_lane c d. DependsTowards t lanes forest 0 on_lane c d) used
none_towards t lanes forest used empty on_lane below c d = ((λ l. absurd (omega (arith, l.1, empty on_lane))), (λ x. absurd (omega (arith, x.1))))

-- One LID more is laid.
use Rattle.std.proofs.Common.{◌≡◌, ◌≢◌, ℕ, zero, suc, ◌+◌, ◌-◌, ◌<◌, ◌≤◌, ◌⊎◌, inl, inr, Bool, true, false, ◌||◌, List, [], ◌∷◌, cond, length, Option, Some, refl, sym, ◌∙◌, ap, subst, arith}
use Rattle.std.specs.Prelude.{Contains, IfSome, if◌then◌else◌, ◌==◌, nat_lt, sum_by}
use Rattle.std.specs.List.{list_any}
use Rattle.std.specs.List.Sorted.{IsStrictlyIncreasing}
use Rattle.std.proofs.lemmas.Option.{same_Some}
use Rattle.std.proofs.lemmas.Bool.{cases_lt, cond-true, cond-false, eq-eqb, ne_eqb, eqb-true, ltb-true}
use Rattle.fab_graph.specs.Walks.{SameGraph}
use Rattle.fab_model.specs.declared.rows.Place.{Place}
use Rattle.fab_model.specs.Topology.{Topology, lids_of, place_of}
use Rattle.fab_model.specs.Connected.{IsConnectedTo}
use Rattle.fab_model.specs.WellFormed.{IsWellFormed}
use Rattle.fab_tables.specs.declared.plan.Plan.{Plan}
use Rattle.fab_tables.specs.Entries.{Entries, entry}
use Rattle.fab_tables.specs.FixedEntries.{IsChosen}
use Rattle.fab_tables.specs.TreeWalks.{DependsInTree}
use Rattle.fab_depgraph.specs.declared.dep.Dep.{Dep}
use Rattle.fab_depgraph.specs.Listed.{Dependencies, IsListed}
use Rattle.fab_sssp.specs.Carried.{terminals_carried, weight_after}
use Rattle.fab_sssp.specs.WeightTables.{WeightTable, weight_of, start_weight}
use Rattle.fab_escape.specs.Forest.{Forest}
use Rattle.fab_escape.specs.EscapeSet.{home}
use Rattle.fab_nue.specs.NuePlan.{IsLaid, IsInUse, laid_before, IsLaidTree, IsPortInTree}
use Rattle.fab_nue.specs.Arenas.{listed_in, AreListing}
use Rattle.fab_nue.specs.Laying.{HasEntriesOf, WeighsMore, IsLaidIn, AreLaidBelow}
use Rattle.fab_nue.proofs.Searching.Growing.{same_or_other}
use Rattle.fab_nue.proofs.Searching.Choosing.{contains_decided}
use Rattle.fab_nue.proofs.Laying.Members.{from_filter, sum_members, found}
use Rattle.fab_nue.proofs.Laying.InUse.{InUseBelow, one_laid}
use Rattle.fab_nue.proofs.Laying.LayingSteps.{laid_adds, elsewhere_adds_none}
use Rattle.fab_nue.proofs.Laying.Weighing.{none_laid, laid_weighs, laid_counts, carried_same}
use Rattle.fab_nue.proofs.Laying.WeightsAlike.{laid_alike}

-- the tree of one LID is another
abbrev pub with_tree : (ℕ → List (Option ℕ)) → ℕ → List (Option ℕ) → ℕ → List (Option ℕ)
with_tree laid lid tree other = if other == lid then tree else laid other

pub tree_here : (laid : ℕ → List (Option ℕ)) (lid : ℕ) (tree : List (Option ℕ)) → with_tree laid lid tree lid ≡ tree
tree_here laid lid tree = cond-true (lid == lid) tree (laid lid) (eq-eqb lid lid refl)

pub tree_elsewhere : (laid : ℕ → List (Option ℕ)) (lid other : ℕ) (tree : List (Option ℕ)) → other ≢ lid → with_tree laid lid tree other ≡ laid other
tree_elsewhere laid lid other tree differ = cond-false (other == lid) tree (laid other) (ne_eqb other lid differ)

module _ (t : Topology) (lanes : ℕ) (old : Option Plan) (kept : List ℕ) (forest : ℕ → Forest) where
  -- what is in use looks at the trees of the LIDs below
  in_use_alike : (laid other : ℕ → List (Option ℕ)) (before on_lane : ℕ) → ((lid : ℕ) → lid < before → laid lid ≡ other lid) →
      SameGraph (λ (c d : ℕ). InUseBelow t lanes old kept forest laid before on_lane c d) (λ (c d : ℕ). InUseBelow t lanes old kept forest other before on_lane c d)
  in_use_alike laid other before on_lane same c d = (to, from)
    where
      to : InUseBelow t lanes old kept forest laid before on_lane c d → InUseBelow t lanes old kept forest other before on_lane c d
      to (inl e) = inl e
      to (inr (inl o)) = inr (inl o)
      to (inr (inr l)) = inr (inr (l.0, l.1, l.2, l.3, subst (λ tree. DependsInTree t tree c d) (same l.0 l.2) l.4))

      from : InUseBelow t lanes old kept forest other before on_lane c d → InUseBelow t lanes old kept forest laid before on_lane c d
      from (inl e) = inl e
      from (inr (inl o)) = inr (inl o)
      from (inr (inr l)) = inr (inr (l.0, l.1, l.2, l.3, subst (λ tree. DependsInTree t tree c d) (sym (same l.0 l.2)) l.4))

  -- numbers between that aren't laid change nothing
  in_use_passes : (laid : ℕ → List (Option ℕ)) (n m on_lane : ℕ) → n ≤ m → ((lid : ℕ) → n ≤ lid → lid < m → ¬ IsLaid t kept lid) →
      SameGraph (λ (c d : ℕ). InUseBelow t lanes old kept forest laid n on_lane c d) (λ (c d : ℕ). InUseBelow t lanes old kept forest laid m on_lane c d)
  in_use_passes laid n m on_lane low none c d = (to, from)
    where
      to : InUseBelow t lanes old kept forest laid n on_lane c d → InUseBelow t lanes old kept forest laid m on_lane c d
      to (inl e) = inl e
      to (inr (inl o)) = inr (inl o)
      to (inr (inr l)) = inr (inr (l.0, l.1, omega (arith, l.2, low), l.3, l.4))

      from : InUseBelow t lanes old kept forest laid m on_lane c d → InUseBelow t lanes old kept forest laid n on_lane c d
      from (inl e) = inl e
      from (inr (inl o)) = inr (inl o)
      from (inr (inr l)) = elim (cases_lt l.0 n) [ inl less ↦ inr (inr (l.0, l.1, less, l.3, l.4)) | inr more ↦ absurd (none l.0 more l.2 l.1) ]

-- ---- LIDs laid before

laid_before_passes : (t : Topology) (kept : List ℕ) (rise : IsStrictlyIncreasing (lids_of t)) (k n : ℕ) → ((lid : ℕ) → n ≤ lid → lid < n + k → ¬ IsLaid t kept lid) →
    laid_before t kept (n + k) ≡ laid_before t kept n
laid_before_passes t kept rise zero n none = ap (λ m. laid_before t kept m) {x = n + 0} {y = n} (omega arith)
laid_before_passes t kept rise (suc k) n none =
    ap (λ m. laid_before t kept m) {x = n + suc k} {y = suc (n + k)} (omega arith)
    ∙ none_laid t kept rise (n + k) (none (n + k) (omega arith) (omega arith))
    ∙ laid_before_passes t kept rise k n (λ lid low high. none lid low (omega (arith, high)))

module _ (t : Topology) (kept : List ℕ) (e new : Entries) (n : ℕ) (is : IsLaid t kept n) (others : (s other : ℕ) → other ≢ n → entry new s other ≡ entry e s other) where
  not_it : (before lid : ℕ) → before ≤ n → Contains (laid_before t kept before) lid → lid ≢ n
  not_it before lid low has same = go (from_filter (λ z. nat_lt z before || list_any (λ one. one == z) kept) (lids_of t) lid has).1
    where
      go : (nat_lt lid before || list_any (λ one. one == lid) kept) ≡ true → ⊥
      go h = either (nat_lt lid before) (list_any (λ one. one == lid) kept) refl refl h
        where
          either : (a b : Bool) → nat_lt lid before ≡ a → list_any (λ one. one == lid) kept ≡ b → (a || b) ≡ true → ⊥
          either true b x y z = omega (arith, ltb-true lid before x, same, low)
          either false true x y z = is.1 (subst (λ k. Contains kept k) same (found kept lid y))
          either false false x y z = cc

  -- entries for a LID change nothing for the weights at its own turn and before
  pub weights_stay : (before : ℕ) → before ≤ n → (c : ℕ) → weight_after t e (laid_before t kept before) c ≡ weight_after t new (laid_before t kept before) c
  weights_stay before low c = ap (λ m. start_weight t + m) (sum_members (λ lid. terminals_carried t e lid c) (λ lid. terminals_carried t new lid c) (laid_before t kept before)
      (λ lid has. carried_same t e new lid c (λ s. sym (others s lid (not_it before lid low has)))))

-- ---- the step

module _ (t : Topology) (lanes : ℕ) (old : Option Plan) (kept : List ℕ) (forest : ℕ → Forest) (laid : ℕ → List (Option ℕ)) (n : ℕ) (e new : Entries) (w heavy : WeightTable) (used after : List Dependencies) (tree : List (Option ℕ))
    (good : IsWellFormed t) (rise : IsStrictlyIncreasing (lids_of t)) (so_far : AreLaidBelow t lanes old kept forest laid n e w used) (is : IsLaid t kept n) (low : home t n lanes < lanes)
    (has : IsLaidIn t (λ c. weight_of w c) (forest (home t n lanes)) n (home t n lanes) used after tree) (entries : HasEntriesOf t n tree e new) (weighs : WeighsMore t new n w heavy) where
  abbrev laid_now : ℕ → List (Option ℕ)
  laid_now = with_tree laid n tree

  stays_below : (before : ℕ) → before ≤ n → (lid : ℕ) → lid < before → laid lid ≡ laid_now lid
  stays_below before most lid h = sym (tree_elsewhere laid n lid tree (λ same. omega (arith, same, h, most)))

  own_tree : (place : Place) → place_of t n ≡ Some place → IsLaidTree t (λ c. weight_after t new (laid_before t kept n) c) (λ c d. InUseBelow t lanes old kept forest laid_now n (home t n lanes) c d)
      (forest (home t n lanes)) place.switch.0 (laid_now n)
  own_tree place at =
      subst (λ x. IsLaidTree t (λ c. weight_after t new (laid_before t kept n) c) (λ c d. InUseBelow t lanes old kept forest laid_now n (home t n lanes) c d) (forest (home t n lanes)) place.switch.0 x)
      (sym (tree_here laid n tree))
      (laid_alike t (λ c. weight_of w c) (λ c. weight_after t new (laid_before t kept n) c) (λ (c d : ℕ). IsListed (listed_in used (home t n lanes)) c d)
      (λ (c d : ℕ). InUseBelow t lanes old kept forest laid_now n (home t n lanes) c d) (forest (home t n lanes)) place.switch.0 tree good
      (λ c h. so_far.weights c h ∙ weights_stay t kept e new n is entries.others n (omega arith) c) graph
      (subst (λ (p : Place). IsLaidTree t (λ c. weight_of w c) (λ (c d : ℕ). IsListed (listed_in used (home t n lanes)) c d) (forest (home t n lanes)) p.switch.0 tree) same_place has.laid))
    where
      same_place : has.place ≡ place
      same_place = same_Some has.place place (sym has.in_use ∙ at)

      graph : SameGraph (λ (c d : ℕ). IsListed (listed_in used (home t n lanes)) c d) (λ (c d : ℕ). InUseBelow t lanes old kept forest laid_now n (home t n lanes) c d)
      graph c d =
          let stands = in_use_alike t lanes old kept forest laid laid_now n (home t n lanes) (stays_below n (omega arith)) c d in (
            (λ l. stands.0 ((so_far.listed (home t n lanes) low c d).0 l)),
            (λ u. (so_far.listed (home t n lanes) low c d).1 (stands.1 u)),
          )

  trees : (lid : ℕ) (place : Place) → lid < suc n → IsLaid t kept lid → place_of t lid ≡ Some place →
      IsLaidTree t (λ c. weight_after t new (laid_before t kept lid) c) (λ c d. InUseBelow t lanes old kept forest laid_now lid (home t lid lanes) c d) (forest (home t lid lanes)) place.switch.0 (laid_now lid)
  trees lid place h laid_is at = elim (same_or_other lid n) [
    | inl same ↦
        (let P : ℕ → Type 0 = λ k. IsLaidTree t (λ c. weight_after t new (laid_before t kept k) c) (λ c d. InUseBelow t lanes old kept forest laid_now k (home t k lanes) c d) (forest (home t k lanes)) place.switch.0 (laid_now k) in
        subst P (sym same) (own_tree place (ap (λ k. place_of t k) (sym same) ∙ at)))
    | inr other ↦
        (let less : lid < n = omega (arith, h, other) in
        subst (λ x. IsLaidTree t (λ c. weight_after t new (laid_before t kept lid) c) (λ c d. InUseBelow t lanes old kept forest laid_now lid (home t lid lanes) c d) (forest (home t lid lanes)) place.switch.0 x)
        (stays_below (suc lid) (omega (arith, less)) lid (omega arith))
        (laid_alike t (λ c. weight_after t e (laid_before t kept lid) c) (λ c. weight_after t new (laid_before t kept lid) c) (λ (c d : ℕ). InUseBelow t lanes old kept forest laid lid (home t lid lanes) c d)
        (λ (c d : ℕ). InUseBelow t lanes old kept forest laid_now lid (home t lid lanes) c d) (forest (home t lid lanes)) place.switch.0 (laid lid) good
        (λ c k. weights_stay t kept e new n is entries.others lid (omega (arith, less)) c) (in_use_alike t lanes old kept forest laid laid_now lid (home t lid lanes) (stays_below lid (omega (arith, less))))
        (so_far.trees lid place less laid_is at)))
  ]

  of_kept : (s lid : ℕ) → Contains kept lid → IsConnectedTo t s lid → IfSome old (λ p. entry new s lid ≡ entry p.tables s lid)
  of_kept s lid k c = subst (λ x. IfSome old (λ p. x ≡ entry p.tables s lid)) (sym (entries.others s lid (λ same. is.1 (subst (λ z. Contains kept z) same k)))) (so_far.of_kept s lid k c)

  of_laid : (s lid to : ℕ) → lid < suc n → IsLaid t kept lid → IsChosen t s lid to → IsPortInTree t (laid_now lid) s (entry new s lid)
  of_laid s lid to h laid_is chosen = elim (same_or_other lid n) [
    | inl same ↦
        (let P : ℕ → Type 0 = λ k. IsPortInTree t (laid_now k) s (entry new s k) in
        subst P (sym same) (subst (λ x. IsPortInTree t x s (entry new s n)) (sym (tree_here laid n tree)) (entries.ports s to (subst (λ k. IsChosen t s k to) same chosen))))
    | inr other ↦
        subst (λ x. IsPortInTree t x s (entry new s lid)) (sym (tree_elsewhere laid n lid tree other))
        (subst (λ x. IsPortInTree t (laid lid) s x) (sym (entries.others s lid other)) (so_far.of_laid s lid to (omega (arith, h, other)) laid_is chosen))
  ]

  listed : AreListing lanes (λ on_lane c d. InUseBelow t lanes old kept forest laid_now (suc n) on_lane c d) after
  listed on_lane below c d = elim (same_or_other on_lane (home t n lanes)) [
    | inl same ↦
        (let P : ℕ → Type 0 = λ k. (IsListed (listed_in after k) c d → InUseBelow t lanes old kept forest laid_now (suc n) k c d) × (InUseBelow t lanes old kept forest laid_now (suc n) k c d → IsListed (listed_in after k) c d) in
        subst P (sym same) (here_to, here_from))
    | inr other ↦
        (let same = has.changes.listed on_lane other in
        let stands = in_use_alike t lanes old kept forest laid laid_now n on_lane (stays_below n (omega arith)) c d in
        let none = elsewhere_adds_none t lanes old kept forest laid_now n on_lane (λ x. other (sym x.1)) c d in (
          (λ l. none.0 (stands.0 ((so_far.listed on_lane below c d).0 (subst (λ xs. IsListed xs c d) same l)))),
          (λ u. subst (λ xs. IsListed xs c d) (sym same) ((so_far.listed on_lane below c d).1 (stands.1 (none.1 u)))),
        ))
  ]
    where
      stands : (InUseBelow t lanes old kept forest laid n (home t n lanes) c d → InUseBelow t lanes old kept forest laid_now n (home t n lanes) c d) ×
          (InUseBelow t lanes old kept forest laid_now n (home t n lanes) c d → InUseBelow t lanes old kept forest laid n (home t n lanes) c d)
      stands = in_use_alike t lanes old kept forest laid laid_now n (home t n lanes) (stays_below n (omega arith)) c d

      here_to : IsListed (listed_in after (home t n lanes)) c d → InUseBelow t lanes old kept forest laid_now (suc n) (home t n lanes) c d
      here_to l = (laid_adds t lanes old kept forest laid_now n is c d).0 (elim ((has.union c d).1 l) [
        | inl o ↦ inl (stands.0 ((so_far.listed (home t n lanes) low c d).0 o))
        | inr own ↦ inr (subst (λ x. DependsInTree t x c d) (sym (tree_here laid n tree)) own)
      ])

      here_from : InUseBelow t lanes old kept forest laid_now (suc n) (home t n lanes) c d → IsListed (listed_in after (home t n lanes)) c d
      here_from u = (has.union c d).0 (elim ((laid_adds t lanes old kept forest laid_now n is c d).1 u) [
        | inl o ↦ inl ((so_far.listed (home t n lanes) low c d).1 (stands.1 o))
        | inr own ↦ inr (subst (λ x. DependsInTree t x c d) (tree_here laid n tree) own)
      ])

  pub one_lid_more : AreLaidBelow t lanes old kept forest laid_now (suc n) new heavy after
  one_lid_more = record {
    trees = trees;
    fixed = entries.fixed;
    of_kept = of_kept;
    of_laid = of_laid;
    made_for = weighs.made_for;
    raised = omega (arith, weighs.raised, so_far.raised, laid_counts t kept rise n is);
    weights = λ c h. omega (arith, weighs.weights c h, so_far.weights c h, weights_stay t kept e new n is entries.others n (omega arith) c, laid_weighs t kept rise new n c is);
    listed = listed;
  }

-- ---- numbers that aren't laid are passed over

pub passes : (t : Topology) (lanes : ℕ) (old : Option Plan) (kept : List ℕ) (forest : ℕ → Forest) (laid : ℕ → List (Option ℕ)) (n m : ℕ) (e : Entries) (w : WeightTable) (used : List Dependencies) →
    IsStrictlyIncreasing (lids_of t) → n ≤ m → ((lid : ℕ) → n ≤ lid → lid < m → ¬ IsLaid t kept lid) → AreLaidBelow t lanes old kept forest laid n e w used → AreLaidBelow t lanes old kept forest laid m e w used
passes t lanes old kept forest laid n m e w used rise low none x = record {
  trees = λ lid place h is at. x.trees lid place (below lid h is) is at;
  fixed = x.fixed;
  of_kept = x.of_kept;
  of_laid = λ s lid to h is chosen. x.of_laid s lid to (below lid h is) is chosen;
  made_for = x.made_for;
  raised = x.raised ∙ ap (λ (xs : List ℕ). length xs) (sym same);
  weights = λ c h. x.weights c h ∙ ap (λ xs. weight_after t e xs c) (sym same);
  listed = λ on_lane h c d. let stands = in_use_passes t lanes old kept forest laid n m on_lane low none c d in (
    (λ l. stands.0 ((x.listed on_lane h c d).0 l)),
    (λ u. (x.listed on_lane h c d).1 (stands.1 u)),
  );
}
  where
    below : (lid : ℕ) → lid < m → IsLaid t kept lid → lid < n
    below lid h is = elim (cases_lt lid n) [ inl less ↦ less | inr more ↦ absurd (none lid more h is) ]

    same : laid_before t kept m ≡ laid_before t kept n
    same = ap (λ k. laid_before t kept k) {x = m} {y = n + (m - n)} (omega (arith, low)) ∙ laid_before_passes t kept rise (m - n) n (λ lid a b. none lid a (omega (arith, b, low)))

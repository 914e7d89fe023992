-- Of lanes there are those whose levels are given anew for decided pairs of a switch and a LID.
use Rattle.std.proofs.Common.{◌≡◌, ℕ, zero, suc, ◌+◌, ◌<◌, ◌≤◌, inl, inr, List, [], ◌∷◌, length, refl, subst, arith, Some}
use Rattle.std.specs.Prelude.{slice_get}
use Rattle.fab_graph.proofs.Decided.{Decided}
use Rattle.fab_model.specs.Topology.{Topology, lids_of}
use Rattle.fab_tables.specs.LaneTables.{LaneTables, HasLanePerLevel, with_level}
use Rattle.fab_tables.specs.Fit.{LanesFit}
use Rattle.fab_tables.proofs.Verdicts.CertifiedLaws.{contains_of}
use Rattle.fab_dfsssp.proofs.Releveling.{IsReleveled, IsOfFirst, IsSoFar, releveled_begins, lid_begins, lid_ends, level_left, level_set}

-- what stands at a place of a list
pub element_at : {A : Type 0} (xs : List A) (k : ℕ) → k < length xs → (x : A) × (slice_get xs k ≡ Some x)
element_at [] k h = absurd (omega (arith, h))
element_at (x ∷ xs) zero h = (x, refl)
element_at (x ∷ xs) (suc k) h = element_at xs k (omega (arith, h))

module _ (t : Topology) (Over : ℕ → ℕ → Type 0) (decide : (s lid : ℕ) → Decided (Over s lid)) (within : (s lid : ℕ) → Over s lid → s < length t.switches) (n : ℕ) (small : n < 16) (old : LaneTables)
    (fits : LanesFit t old) (maps : HasLanePerLevel old) where
  abbrev Releveled : (ℕ → ℕ → Type 0) → Type 0
  Releveled Done = (now : LaneTables) × IsReleveled t Over Done n old now

  one_more : (k s lid : ℕ) → slice_get (lids_of t) k ≡ Some lid → s < length t.switches → Decided (Over s lid) → Releveled (IsSoFar (lids_of t) k s) → Releveled (IsSoFar (lids_of t) k (s + 1))
  one_more k s lid at low (inl over) x =
      (with_level x.0 s lid (Some n), level_set t Over n old x.0 (lids_of t) k s lid at x.1 low (contains_of (lids_of t) k lid at) small over)
  one_more k s lid at low (inr none) x = (x.0, level_left t Over n old x.0 (lids_of t) k s lid at x.1 (λ over. absurd (none over)))

  switches : (k lid : ℕ) → slice_get (lids_of t) k ≡ Some lid → Releveled (IsOfFirst (lids_of t) k) → (s : ℕ) → s ≤ length t.switches → Releveled (IsSoFar (lids_of t) k s)
  switches k lid at before zero h = (before.0, lid_begins t Over n old before.0 (lids_of t) k before.1)
  switches k lid at before (suc s) h =
      let next : s + 1 ≡ suc s = omega arith in
      subst (λ below. Releveled (IsSoFar (lids_of t) k below)) next (one_more k s lid at (omega (arith, h)) (decide s lid) (switches k lid at before s (omega (arith, h))))

  first_lids : (k : ℕ) → k ≤ length (lids_of t) → Releveled (IsOfFirst (lids_of t) k)
  first_lids zero h = (old, releveled_begins t Over n (lids_of t) old fits maps)
  first_lids (suc k) h =
      let lid : (lid : ℕ) × (slice_get (lids_of t) k ≡ Some lid) = element_at (lids_of t) k (omega (arith, h)) in
      let all : Releveled (IsSoFar (lids_of t) k (length t.switches)) = switches k lid.0 lid.1 (first_lids k (omega (arith, h))) (length t.switches) (omega arith) in
      let next : k + 1 ≡ suc k = omega arith in
      (all.0, subst (λ j. IsReleveled t Over (IsOfFirst (lids_of t) j) n old all.0) next (lid_ends t Over n old all.0 (lids_of t) k (length t.switches) within all.1))

  pub releveled_exists : (now : LaneTables) × IsReleveled t Over (IsOfFirst (lids_of t) (length (lids_of t))) n old now
  releveled_exists = first_lids (length (lids_of t)) (omega arith)

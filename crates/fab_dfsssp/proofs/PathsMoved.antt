-- The levels of the paths over an edge go up by one, path after path.
use Rattle.std.proofs.Common.{◌≡◌, ℕ, ◌+◌, ◌<◌, ◌≤◌, inl, inr, length, sym, ◌∙◌, subst, arith, Some, Contains, true, false, List}
use Rattle.std.specs.Prelude.{slice_get, nat_eq}
use Rattle.std.specs.Option.{option_eq}
use Rattle.std.proofs.lemmas.Option.{same_Some}
use Rattle.fab_model.specs.Topology.{Topology, lids_of}
use Rattle.fab_model.specs.WellFormed.{IsWellFormed}
use Rattle.fab_tables.specs.Entries.{Entries}
use Rattle.fab_tables.specs.Fit.{LanesFit}
use Rattle.fab_tables.specs.LaneTables.{LaneTables, level, with_level}
use Rattle.fab_tables.specs.Route.{route}
use Rattle.fab_tables.proofs.Verdicts.CertifiedLaws.{contains_of, get_of}
use Rattle.fab_sssp.specs.LeastWeightTables.{AreLeastWeightTables}
use Rattle.fab_dfsssp.specs.declared.counted_edges.CountedEdges.{CountedEdges}
use Rattle.fab_dfsssp.specs.declared.paths_over.Path.{Path}
use Rattle.fab_dfsssp.specs.Assignments.{contains_edge}
use Rattle.fab_dfsssp.specs.CountedEdges.{times_of, IsWhole}
use Rattle.fab_dfsssp.specs.LaneCounts.{times_along, CountsLane}
use Rattle.fab_dfsssp.specs.LevelPaths.{level_paths_over}
use Rattle.fab_dfsssp.specs.Moving.{IsLevelOver, MovesLevels}
use Rattle.fab_dfsssp.specs.PathsOver.{IsPathOf, HasPath, ArePathsOver}
use Rattle.fab_dfsssp.proofs.LaneCounts.{path_leaves}
use Rattle.fab_dfsssp.proofs.Levels.{leveled, level_other}
use Rattle.fab_dfsssp.proofs.Releveling.{IsReleveled, IsOfFirst, IsAmongFirst, all_releveled, path_left, path_set}

module _ (t : Topology) (e : Entries) (lane : ℕ) (edge : ℕ × ℕ) (old : LaneTables) (fits : LanesFit t old) where
  abbrev pub Over : ℕ → ℕ → Type 0
  Over s lid = IsLevelOver t e old lane edge s lid

  pub over_low : (s lid : ℕ) → Over s lid → s < length t.switches
  over_low s lid over = omega (arith, fits.switches, (leveled old s lid lane over.0).0)

  over_in_use : (s lid : ℕ) → Over s lid → Contains (lids_of t) lid
  over_in_use s lid over = subst (λ ns. Contains ns lid) fits.in_use (leveled old s lid lane over.0).1

  module _ (Done : ℕ → ℕ → Type 0) (now : LaneTables) (so_far : IsReleveled t Over Done (lane + 1) old now) (s lid : ℕ) where
    pub over_now : level now s lid ≡ Some lane → contains_edge edge (route t e s lid).channels ≡ true → Over s lid
    over_now on there = elim (so_far.either s lid) [
      | inl given ↦ absurd (let same : lane + 1 ≡ lane = same_Some (lane + 1) lane (sym given.1 ∙ on) in omega (arith, same))
      | inr stays ↦ (sym stays ∙ on, there)
    ]

    pub left_now : option_eq nat_eq (level now s lid) (Some lane) ≡ false → Over s lid → level now s lid ≡ Some (lane + 1)
    left_now off over = elim (so_far.either s lid) [ inl given ↦ given.1 | inr stays ↦ absurd (level_other (level now s lid) lane off (stays ∙ over.0)) ]

  pub paths_moved : (k : ℕ) (new : LaneTables) → length (lids_of t) ≤ k → IsReleveled t Over (IsOfFirst (lids_of t) k) (lane + 1) old new → MovesLevels t e lane edge old new
  paths_moved k new past so_far = record {
    over = λ s lid over. all_releveled t Over (lane + 1) old new (lids_of t) k past so_far s lid (over_in_use s lid over) over;
    stays = λ s lid not. elim (so_far.either s lid) [ inl given ↦ absurd (not given.0) | inr stays ↦ stays ];
  }

  -- all paths of the level over the edge are among these
  pub listed_moved : (paths : List Path) → ArePathsOver t e edge paths → (k : ℕ) (new : LaneTables) → length paths ≤ k → IsReleveled t Over (IsAmongFirst paths k) (lane + 1) old new →
      MovesLevels t e lane edge old new
  listed_moved paths lists k new past so_far = record {
    over = λ s lid over.
        (let p : HasPath paths s lid = lists.complete s lid (over_in_use s lid over) over.1 in
        so_far.done s lid (p.0, p.1.0, omega (arith, p.1.1, past), get_of paths p.1.0 p.0 p.1.1 p.1.2, p.2, p.3) over);
    stays = λ s lid not. elim (so_far.either s lid) [ inl given ↦ absurd (not given.0) | inr stays ↦ stays ];
  }

-- the next path over the edge
module _ (t : Topology) (e : Entries) (good : IsWellFormed t) (tables : AreLeastWeightTables t e) (lane : ℕ) (small : lane < 15) (edge : ℕ × ℕ) (old : LaneTables) (fits : LanesFit t old) (paths : List Path)
    (lists : ArePathsOver t e edge paths) (now : LaneTables) (k : ℕ) (path : Path) (at : slice_get paths k ≡ Some path)
    (so_far : IsReleveled t (λ s lid. IsLevelOver t e old lane edge s lid) (IsAmongFirst paths k) (lane + 1) old now) where
  pub listed_here : IsPathOf t path × (contains_edge edge (route t e path.from.0 path.lid.0).channels ≡ true)
  listed_here = lists.sound path (contains_of paths k path at)

  -- stays where it left the lane before
  pub stays_here : option_eq nat_eq (level now path.from.0 path.lid.0) (Some lane) ≡ false → IsReleveled t (λ s lid. IsLevelOver t e old lane edge s lid) (IsAmongFirst paths (k + 1)) (lane + 1) old now
  stays_here off =
      path_left t (λ s lid. IsLevelOver t e old lane edge s lid) (lane + 1) old now paths k path at so_far
      (left_now t e lane edge old fits (IsAmongFirst paths k) now so_far path.from.0 path.lid.0 off)

  module _ (on : level now path.from.0 path.lid.0 ≡ Some lane) where
    -- or moves
    pub moves_here : IsReleveled t (λ s lid. IsLevelOver t e old lane edge s lid) (IsAmongFirst paths (k + 1)) (lane + 1) old (with_level now path.from.0 path.lid.0 (Some (lane + 1)))
    moves_here =
        path_set t (λ s lid. IsLevelOver t e old lane edge s lid) (lane + 1) old now paths k path at so_far listed_here.0.0 listed_here.0.1 (omega (arith, small))
        (over_now t e lane edge old fits (IsAmongFirst paths k) now so_far path.from.0 path.lid.0 on listed_here.1)

    pub leaves_here : (other : ℕ × ℕ) →
        level_paths_over t e (with_level now path.from.0 path.lid.0 (Some (lane + 1))) lane other + times_along other (route t e path.from.0 path.lid.0).channels ≡ level_paths_over t e now lane other
    leaves_here other =
        let in_use : Contains (lids_of t) path.lid.0 = listed_here.0.1 in
        path_leaves t e good tables now so_far.fits path.from.0 path.lid.0 in_use.0 lane (lane + 1) listed_here.0.0 (get_of (lids_of t) in_use.0 path.lid.0 in_use.1 in_use.2) (λ same. omega (arith, same)) on other

    -- the counts of the lane follow
    pub counts_here : (counted new : CountedEdges) → CountsLane t e now lane counted → IsWhole new → length new.heads ≡ length counted.heads →
        ((other : ℕ × ℕ) → times_of new other + times_along other (route t e path.from.0 path.lid.0).channels ≡ times_of counted other) →
        CountsLane t e (with_level now path.from.0 path.lid.0 (Some (lane + 1))) lane new
    counts_here counted new counts whole nodes lowered = record {
      whole = whole;
      nodes = nodes ∙ counts.nodes;
      counts = λ other. omega (arith, lowered other, counts.counts other, leaves_here other);
    }

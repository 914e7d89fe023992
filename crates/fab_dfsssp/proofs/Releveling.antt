-- Levels are set one after another, LID by LID and switch by switch: each is as it was, or the given one.
use Rattle.std.proofs.Common.{◌≡◌, ℕ, ◌+◌, ◌<◌, ◌≤◌, ◌⊎◌, inl, inr, List, length, sym, ◌∙◌, subst, arith, Some, Option, None, Contains, slice_get, refl, ap}
use Rattle.std.specs.Prelude.{◌==◌, ◌&&◌, if◌then◌else◌}
use Rattle.std.proofs.lemmas.Bool.{cases_lt, cases_eq, eq-eqb, ne_eqb, and_from, and_left, and_right, cond-true, cond-false}
use Rattle.std.proofs.lemmas.Option.{same_Some}
use Rattle.fab_model.specs.Topology.{Topology, lids_of}
use Rattle.fab_tables.specs.Entries.{index_of, cell}
use Rattle.fab_tables.specs.LaneTables.{LaneTables, HasLanePerLevel, level, with_level, with_level_in_column}
use Rattle.fab_tables.specs.Fit.{LanesFit}
use Rattle.fab_tables.proofs.Rows.LaneSets.{level_set_kept}
use Rattle.fab_tables.proofs.Rows.Cells.{one_level_changes}
use Rattle.fab_tables.proofs.Verdicts.CertifiedLaws.{get_of}
use Rattle.fab_dfsssp.specs.declared.paths_over.Path.{Path}

-- a level that is over is given where it is done
pub record IsReleveled (t : Topology) (Over : ℕ → ℕ → Type 0) (Done : ℕ → ℕ → Type 0) (n : ℕ) (old now : LaneTables) : Type 0 where
  pub fits : LanesFit t now
  pub lane_count : now.count ≡ old.count
  pub maps : HasLanePerLevel now
  pub either : (s lid : ℕ) → (Over s lid × (level now s lid ≡ Some n)) ⊎ (level now s lid ≡ level old s lid)
  pub done : (s lid : ℕ) → Done s lid → Over s lid → level now s lid ≡ Some n

-- the first LIDs are done, and then the first switches of one more
abbrev pub IsOfFirst : List ℕ → ℕ → ℕ → ℕ → Type 0
IsOfFirst lids k s lid = (j : ℕ) × (j < k) × (slice_get lids j ≡ Some lid)

abbrev pub IsSoFar : List ℕ → ℕ → ℕ → ℕ → ℕ → Type 0
IsSoFar lids k below s lid = IsOfFirst lids k s lid ⊎ ((slice_get lids k ≡ Some lid) × (s < below))

-- the first paths of a list are done
abbrev pub IsAmongFirst : List Path → ℕ → ℕ → ℕ → Type 0
IsAmongFirst paths k s lid = (p : Path) × (j : ℕ) × (j < k) × (slice_get paths j ≡ Some p) × (p.from.0 ≡ s) × (p.lid.0 ≡ lid)

pub paths_begin : (t : Topology) (Over : ℕ → ℕ → Type 0) (n : ℕ) (paths : List Path) (l : LaneTables) → LanesFit t l → HasLanePerLevel l → IsReleveled t Over (IsAmongFirst paths 0) n l l
paths_begin t Over n paths l fits maps = record { fits = fits; lane_count = refl; maps = maps; either = λ s lid. inr refl; done = λ s lid d over. absurd (omega (arith, d.2)) }

pub releveled_begins : (t : Topology) (Over : ℕ → ℕ → Type 0) (n : ℕ) (lids : List ℕ) (l : LaneTables) → LanesFit t l → HasLanePerLevel l → IsReleveled t Over (IsOfFirst lids 0) n l l
releveled_begins t Over n lids l fits maps = record { fits = fits; lane_count = refl; maps = maps; either = λ s lid. inr refl; done = λ s lid d over. absurd (omega (arith, d.1)) }

module _ (t : Topology) (Over : ℕ → ℕ → Type 0) (n : ℕ) (old now : LaneTables) where
  redone : (Done More : ℕ → ℕ → Type 0) → IsReleveled t Over Done n old now → ((s lid : ℕ) → More s lid → Over s lid → level now s lid ≡ Some n) → IsReleveled t Over More n old now
  redone Done More so_far done = record { fits = so_far.fits; lane_count = so_far.lane_count; maps = so_far.maps; either = so_far.either; done = done }

  pub lid_begins : (lids : List ℕ) (k : ℕ) → IsReleveled t Over (IsOfFirst lids k) n old now → IsReleveled t Over (IsSoFar lids k 0) n old now
  lid_begins lids k so_far = redone (IsOfFirst lids k) (IsSoFar lids k 0) so_far done
    where
      done : (s lid : ℕ) → IsSoFar lids k 0 s lid → Over s lid → level now s lid ≡ Some n
      done s lid (inl d) over = so_far.done s lid d over
      done s lid (inr none) over = absurd (omega (arith, none.1))

  pub lid_ends : (lids : List ℕ) (k below : ℕ) → ((s lid : ℕ) → Over s lid → s < below) → IsReleveled t Over (IsSoFar lids k below) n old now → IsReleveled t Over (IsOfFirst lids (k + 1)) n old now
  lid_ends lids k below low so_far = redone (IsSoFar lids k below) (IsOfFirst lids (k + 1)) so_far done
    where
      done : (s lid : ℕ) → IsOfFirst lids (k + 1) s lid → Over s lid → level now s lid ≡ Some n
      done s lid d over = elim (cases_lt d.0 k) [
        | inl before ↦ so_far.done s lid (inl (d.0, before, d.2)) over
        | inr past ↦ (let here : d.0 ≡ k = omega (arith, past, d.1) in so_far.done s lid (inr (subst (λ j. slice_get lids j ≡ Some lid) here d.2, low s lid over)) over)
      ]

  pub all_releveled : (lids : List ℕ) (k : ℕ) → length lids ≤ k → IsReleveled t Over (IsOfFirst lids k) n old now → (s lid : ℕ) → Contains lids lid → Over s lid → level now s lid ≡ Some n
  all_releveled lids k past so_far s lid has over = so_far.done s lid (has.0, omega (arith, has.1, past), get_of lids has.0 lid has.1 has.2) over

  -- one more level is looked at
  module _ (Done More : ℕ → ℕ → Type 0) (s lid : ℕ) (split : (o m : ℕ) → More o m → Done o m ⊎ ((o ≡ s) × (m ≡ lid))) (so_far : IsReleveled t Over Done n old now) where
    -- what isn't over, or has the level, is left
    pub left_by : (Over s lid → level now s lid ≡ Some n) → IsReleveled t Over More n old now
    left_by left = redone Done More so_far (λ o m d over. go o m over (split o m d))
      where
        go : (o m : ℕ) → Over o m → Done o m ⊎ ((o ≡ s) × (m ≡ lid)) → level now o m ≡ Some n
        go o m over (inl d) = so_far.done o m d over
        go o m over (inr here) = there o m (sym here.0) (sym here.1) over
          where
            there : (o m : ℕ) → s ≡ o → lid ≡ m → Over o m → level now o m ≡ Some n
            there o m x y over =
                subst (λ a. Over a m → level now a m ≡ Some n) x (subst (λ b. Over s b → level now s b ≡ Some n) y left) over

    -- what is over is set
    module _ (low : s < length t.switches) (in_use : Contains (lids_of t) lid) (small : n < 16) (over : Over s lid) where
      abbrev new : LaneTables
      new = with_level now s lid (Some n)

      changed : (o m : ℕ) → level new o m ≡ (if (o == s) && (m == lid) then Some n else level now o m)
      changed o m = one_level_changes now s lid o m (Some n) so_far.fits.whole (omega (arith, low, so_far.fits.switches)) (subst (λ ns. Contains ns lid) (sym so_far.fits.in_use) in_use)

      here_or_other : (o m : ℕ) → (((o ≡ s) × (m ≡ lid)) × (level new o m ≡ Some n)) ⊎ (level new o m ≡ level now o m)
      here_or_other o m = elim (cases_eq o s) [
        | inr ne ↦ inr (changed o m ∙ cond-false ((o == s) && (m == lid)) (Some n) (level now o m) (and_left (o == s) (m == lid) (ne_eqb o s ne)))
        | inl same ↦ elim (cases_eq m lid) [
          | inr ne ↦ inr (changed o m ∙ cond-false ((o == s) && (m == lid)) (Some n) (level now o m) (and_right (o == s) (m == lid) (ne_eqb m lid ne)))
          | inl there ↦ inl ((same, there), changed o m ∙ cond-true ((o == s) && (m == lid)) (Some n) (level now o m) (and_from (o == s) (m == lid) (eq-eqb o s same) (eq-eqb m lid there)))
        ]
      ]

      in_column : (o : Option ℕ) → LanesFit t (with_level_in_column now s (Some n) o) × ((with_level_in_column now s (Some n) o).count ≡ old.count) × HasLanePerLevel (with_level_in_column now s (Some n) o)
      in_column None = (so_far.fits, so_far.lane_count, so_far.maps)
      in_column (Some i) = (
        record {
          whole = level_set_kept now so_far.fits.whole (cell now.switches i s) (Some n) small;
          switches = so_far.fits.switches;
          channels = so_far.fits.channels;
          in_use = so_far.fits.in_use;
          pairs = so_far.fits.pairs;
        },
        so_far.lane_count,
        record { general = so_far.maps.general; no_pair = so_far.maps.no_pair },
      )

      pub set_by : IsReleveled t Over More n old new
      set_by = record {
        fits = (in_column (index_of lid now.in_use)).0;
        lane_count = (in_column (index_of lid now.in_use)).1;
        maps = (in_column (index_of lid now.in_use)).2;
        either = λ o m. elim (here_or_other o m) [
          | inl here ↦ inl (moved_over o m (sym here.0.0) (sym here.0.1), here.1)
          | inr same ↦ elim (so_far.either o m) [ inl given ↦ inl (given.0, same ∙ given.1) | inr stays ↦ inr (same ∙ stays) ]
        ];
        done = λ o m d is. elim (here_or_other o m) [
          | inl here ↦ here.1
          | inr same ↦ same ∙ before o m is same (split o m d)
        ];
      }
        where
          moved_over : (o m : ℕ) → s ≡ o → lid ≡ m → Over o m
          moved_over o m x y = subst (λ a. Over a m) x (subst (λ b. Over s b) y over)

          given_here : level new s lid ≡ Some n
          given_here = changed s lid ∙ cond-true ((s == s) && (lid == lid)) (Some n) (level now s lid) (and_from (s == s) (lid == lid) (eq-eqb s s refl) (eq-eqb lid lid refl))

          before : (o m : ℕ) → Over o m → level new o m ≡ level now o m → Done o m ⊎ ((o ≡ s) × (m ≡ lid)) → level now o m ≡ Some n
          before o m is same (inl d) = so_far.done o m d is
          before o m is same (inr here) = sym same ∙ there o m (sym here.0) (sym here.1)
            where
              there : (o m : ℕ) → s ≡ o → lid ≡ m → level new o m ≡ Some n
              there o m x y = subst (λ a. level new a m ≡ Some n) x (subst (λ b. level new s b ≡ Some n) y given_here)

  -- the next switch of a LID
  module _ (lids : List ℕ) (k s lid : ℕ) (at : slice_get lids k ≡ Some lid) (so_far : IsReleveled t Over (IsSoFar lids k s) n old now) where
    next_switch : (o m : ℕ) → IsSoFar lids k (s + 1) o m → IsSoFar lids k s o m ⊎ ((o ≡ s) × (m ≡ lid))
    next_switch o m (inl d) = inl (inl d)
    next_switch o m (inr here) = elim (cases_lt o s) [
      | inl before ↦ inl (inr (here.0, before))
      | inr past ↦ inr (omega (arith, here.1, past), same_Some m lid (sym here.0 ∙ at))
    ]

    pub level_left : (Over s lid → level now s lid ≡ Some n) → IsReleveled t Over (IsSoFar lids k (s + 1)) n old now
    level_left left = left_by (IsSoFar lids k s) (IsSoFar lids k (s + 1)) s lid next_switch so_far left

    pub level_set : s < length t.switches → Contains (lids_of t) lid → n < 16 → Over s lid → IsReleveled t Over (IsSoFar lids k (s + 1)) n old (with_level now s lid (Some n))
    level_set low in_use small over = set_by (IsSoFar lids k s) (IsSoFar lids k (s + 1)) s lid next_switch so_far low in_use small over

  -- the next path of a list
  module _ (paths : List Path) (k : ℕ) (path : Path) (at : slice_get paths k ≡ Some path) (so_far : IsReleveled t Over (IsAmongFirst paths k) n old now) where
    next_path : (o m : ℕ) → IsAmongFirst paths (k + 1) o m → IsAmongFirst paths k o m ⊎ ((o ≡ path.from.0) × (m ≡ path.lid.0))
    next_path o m d = elim (cases_lt d.1 k) [
      | inl before ↦ inl (d.0, d.1, before, d.3, d.4, d.5)
      | inr past ↦
          (let here : k ≡ d.1 = omega (arith, d.2, past) in
          let same : path ≡ d.0 = same_Some path d.0 (sym at ∙ ap (λ j. slice_get paths j) here ∙ d.3) in
          inr (sym d.4 ∙ ap (λ (p : Path). p.from.0) (sym same), sym d.5 ∙ ap (λ (p : Path). p.lid.0) (sym same)))
    ]

    pub path_left : (Over path.from.0 path.lid.0 → level now path.from.0 path.lid.0 ≡ Some n) → IsReleveled t Over (IsAmongFirst paths (k + 1)) n old now
    path_left left = left_by (IsAmongFirst paths k) (IsAmongFirst paths (k + 1)) path.from.0 path.lid.0 next_path so_far left

    pub path_set : path.from.0 < length t.switches → Contains (lids_of t) path.lid.0 → n < 16 → Over path.from.0 path.lid.0 →
        IsReleveled t Over (IsAmongFirst paths (k + 1)) n old (with_level now path.from.0 path.lid.0 (Some n))
    path_set low in_use small over = set_by (IsAmongFirst paths k) (IsAmongFirst paths (k + 1)) path.from.0 path.lid.0 next_path so_far low in_use small over

-- Lanes of an engine have their levels LID by LID, and switch by switch.
use Rattle.std.proofs.Common.{◌≡◌, ◌≢◌, ℕ, zero, suc, ◌+◌, ◌<◌, ◌≤◌, inl, inr, List, [], ◌∷◌, length, Option, Some, None, refl, sym, ◌∙◌, subst, arith, Contains, IfSome}
use Rattle.std.specs.Prelude.{◌==◌, ◌&&◌, if◌then◌else◌}
use Rattle.std.proofs.lemmas.Bool.{cases_lt, eq-eqb, ne_eqb, and_from, and_left, and_right, cond-true, cond-false}
use Rattle.fab_graph.proofs.Members.{first, later, first_or_later}
use Rattle.fab_model.specs.Topology.{Topology, lids_of}
use Rattle.fab_model.specs.Connected.{IsConnectedTo}
use Rattle.fab_model.specs.WellFormed.{IsFabric}
use Rattle.fab_tables.specs.Entries.{index_of, cell}
use Rattle.fab_tables.specs.LaneTables.{LaneTables, HasLanePerLevel, level, with_level, with_level_in_column, with_lane, no_lanes}
use Rattle.fab_tables.specs.Fit.{LanesFit, IsSource}
use Rattle.fab_tables.proofs.Joined.Lids.{connected_in_use}
use Rattle.fab_tables.proofs.Paths.FallingRoutes.{connected_below}
use Rattle.fab_tables.proofs.Rows.Cells.{one_level_changes}
use Rattle.fab_tables.proofs.Rows.LaneSets.{level_set_kept}
use Rattle.fab_certify.specs.EnginePlans.{AreEngineLanes, HasLevels}
use Rattle.fab_certify.specs.Mapping.{IsMapping}
use Rattle.fab_certify.proofs.Engines.Mapping.{mapping_begins, one_more_level, one_more_switch, all_mapped}
use Rattle.fab_nue.proofs.Searching.Choosing.{contains_decided}
use Rattle.fab_nue.proofs.Searching.Growing.{same_or_other}

-- ---- lanes without levels

module _ (t : Topology) (fabric : IsFabric t) (count : ℕ) (few : (0 < count) × (count ≤ 15)) where
  switch_mapped : (switch : ℕ) → switch < length t.switches → (l : LaneTables) → IsMapping t count l switch 0 → (below : ℕ) → below ≤ count → (new : LaneTables) × IsMapping t count new switch below
  switch_mapped switch low l begins zero within = (l, begins)
  switch_mapped switch low l begins (suc below) within = go (switch_mapped switch low l begins below (omega (arith, within)))
    where
      go : (new : LaneTables) × IsMapping t count new switch below → (new : LaneTables) × IsMapping t count new switch (suc below)
      go x =
          let next : below + 1 ≡ suc below = omega arith in
          (with_lane x.0 switch below below, subst (λ n. IsMapping t count (with_lane x.0 switch below below) switch n) next (one_more_level t count x.0 switch below x.1 low (omega (arith, within, few.1))))

  mapped : (switch : ℕ) → switch ≤ length t.switches → (l : LaneTables) × IsMapping t count l switch 0
  mapped zero low = (no_lanes count (length t.switches) (length t.channels) (lids_of t), mapping_begins t fabric count few)
  mapped (suc switch) low = go (mapped switch (omega (arith, low)))
    where
      go : (l : LaneTables) × IsMapping t count l switch 0 → (l : LaneTables) × IsMapping t count l (suc switch) 0
      go before =
          let new : (new : LaneTables) × IsMapping t count new switch count = switch_mapped switch (omega (arith, low)) before.0 before.1 count (omega arith) in
          let next : switch + 1 ≡ suc switch = omega arith in
          (new.0, subst (λ s. IsMapping t count new.0 s 0) next (one_more_switch t count new.0 switch count new.1 refl))

  engine_lanes_exist : (l : LaneTables) × AreEngineLanes t count l
  engine_lanes_exist = let all : (l : LaneTables) × IsMapping t count l (length t.switches) 0 = mapped (length t.switches) (omega arith) in (all.0, all_mapped t count all.0 (length t.switches) all.1 refl)

-- ---- levels are set

-- a level of a source that is connected to the LID, or none of another switch
abbrev pub IsLevelFor : Topology → (ℕ → ℕ → ℕ → Type 0) → ℕ → ℕ → Option ℕ → Type 0
IsLevelFor t Given s lid None = ¬ (IsSource t s × IsConnectedTo t s lid)
IsLevelFor t Given s lid (Some n) = (IsSource t s × IsConnectedTo t s lid) × (Given s lid n × (n < 16))

module _ (t : Topology) (Given : ℕ → ℕ → ℕ → Type 0) (wanted : (s lid : ℕ) → (o : Option ℕ) × IsLevelFor t Given s lid o) where
  abbrev want : ℕ → ℕ → Option ℕ
  want s lid = (wanted s lid).0

  small : (s lid : ℕ) → IfSome (want s lid) (λ n. n < 16)
  small s lid = go (wanted s lid).0 (wanted s lid).1
    where
      go : (o : Option ℕ) → IsLevelFor t Given s lid o → IfSome o (λ n. n < 16)
      go None is = tt
      go (Some n) is = is.1.1

  record Fitting (l : LaneTables) (count : ℕ) : Type 0 where
    fits : LanesFit t l
    lane_count : l.count ≡ count
    maps : HasLanePerLevel l

  fitting_kept : (l : LaneTables) (count s lid : ℕ) → Fitting l count → Fitting (with_level l s lid (want s lid)) count
  fitting_kept l count s lid is = go (index_of lid l.in_use)
    where
      go : (o : Option ℕ) → Fitting (with_level_in_column l s (want s lid) o) count
      go None = is
      go (Some i) = record {
        fits = record {
          whole = level_set_kept l is.fits.whole (cell l.switches i s) (want s lid) (small s lid);
          switches = is.fits.switches;
          channels = is.fits.channels;
          in_use = is.fits.in_use;
          pairs = is.fits.pairs;
        };
        lane_count = is.lane_count;
        maps = record { general = is.maps.general; no_pair = is.maps.no_pair };
      }

  module _ (count lid : ℕ) (in_use : Contains (lids_of t) lid) (old : LaneTables) (begins : Fitting old count) where
    record LeveledBelow (below : ℕ) : Type 0 where
      lanes : LaneTables
      fitting : Fitting lanes count
      others : (s other : ℕ) → other ≢ lid → level lanes s other ≡ level old s other
      here : (s : ℕ) → s < below → level lanes s lid ≡ want s lid
      behind : (s : ℕ) → below ≤ s → level lanes s lid ≡ level old s lid

    leveled_below : (below : ℕ) → below ≤ length t.switches → LeveledBelow below
    leveled_below zero low = record { lanes = old; fitting = begins; others = λ s other apart. refl; here = λ s less. absurd (omega (arith, less)); behind = λ s past. refl }
    leveled_below (suc k) low = go (leveled_below k (omega (arith, low)))
      where
        go : LeveledBelow k → LeveledBelow (suc k)
        go x = record {
          lanes = new;
          fitting = fitting_kept x.lanes count k lid x.fitting;
          others = λ s other apart. changed s other ∙ cond-false ((s == k) && (other == lid)) (want k lid) (level x.lanes s other) (and_right (s == k) (other == lid) (ne_eqb other lid apart)) ∙ x.others s other apart;
          here = here;
          behind = λ s past. passed s (λ same. omega (arith, same, past)) ∙ x.behind s (omega (arith, past));
        }
          where
            new : LaneTables
            new = with_level x.lanes k lid (want k lid)

            changed : (s n : ℕ) → level (with_level x.lanes k lid (want k lid)) s n ≡ (if (s == k) && (n == lid) then want k lid else level x.lanes s n)
            changed s n = one_level_changes x.lanes k lid s n (want k lid) x.fitting.fits.whole (omega (arith, low, x.fitting.fits.switches)) (subst (λ ns. Contains ns lid) (sym x.fitting.fits.in_use) in_use)

            passed : (s : ℕ) → s ≢ k → level (with_level x.lanes k lid (want k lid)) s lid ≡ level x.lanes s lid
            passed s other = changed s lid ∙ cond-false ((s == k) && (lid == lid)) (want k lid) (level x.lanes s lid) (and_left (s == k) (lid == lid) (ne_eqb s k other))

            here : (s : ℕ) → s < suc k → level (with_level x.lanes k lid (want k lid)) s lid ≡ want s lid
            here s less = elim (same_or_other s k) [
              | inl same ↦ (let P : ℕ → Type 0 = λ z. level (with_level x.lanes k lid (want k lid)) z lid ≡ want z lid in
                  subst P (sym same) (changed k lid ∙ cond-true ((k == k) && (lid == lid)) (want k lid) (level x.lanes k lid) (and_from (k == k) (lid == lid) (eq-eqb k k refl) (eq-eqb lid lid refl))))
              | inr other ↦ passed s other ∙ x.here s (omega (arith, less, other))
            ]

  record Leveled (count : ℕ) (lids : List ℕ) : Type 0 where
    lanes : LaneTables
    fitting : Fitting lanes count
    has : (s lid : ℕ) → Contains lids lid → s < length t.switches → level lanes s lid ≡ want s lid
    past : (s lid : ℕ) → length t.switches ≤ s → level lanes s lid ≡ None
    unused : (s lid : ℕ) → ¬ Contains lids lid → level lanes s lid ≡ None

  all_lids : (count : ℕ) (begins : LaneTables) → AreEngineLanes t count begins → (lids : List ℕ) → ((lid : ℕ) → Contains lids lid → Contains (lids_of t) lid) → Leveled count lids
  all_lids count begins engine [] among = record {
    lanes = begins;
    fitting = record { fits = engine.fits; lane_count = engine.lane_count; maps = engine.maps };
    has = λ s lid none. absurd (omega (arith, none.1));
    past = λ s lid high. engine.no_level s lid;
    unused = λ s lid not. engine.no_level s lid;
  }
  all_lids count begins engine (lid ∷ lids) among = go (all_lids count begins engine lids (λ n has. among n (later lid lids n has)))
    where
      go : Leveled count lids → Leveled count (lid ∷ lids)
      go rest = record { lanes = all.lanes; fitting = all.fitting; has = has; past = past; unused = unused }
        where
          all : LeveledBelow count lid (among lid (first lid lids)) rest.lanes rest.fitting (length t.switches)
          all = leveled_below count lid (among lid (first lid lids)) rest.lanes rest.fitting (length t.switches) (omega arith)

          has : (s n : ℕ) → Contains (lid ∷ lids) n → s < length t.switches → level all.lanes s n ≡ want s n
          has s n of low = elim (same_or_other n lid) [
            | inl same ↦ (let P : ℕ → Type 0 = λ m. level all.lanes s m ≡ want s m in subst P (sym same) (all.here s low))
            | inr other ↦ all.others s n other ∙ rest.has s n (elim (first_or_later lid lids n of) [ inl e ↦ absurd (other (sym e)) | inr there ↦ there ]) low
          ]

          past : (s n : ℕ) → length t.switches ≤ s → level all.lanes s n ≡ None
          past s n high = elim (same_or_other n lid) [
            | inl same ↦ (let P : ℕ → Type 0 = λ m. level all.lanes s m ≡ None in subst P (sym same) (all.behind s high ∙ rest.past s lid high))
            | inr other ↦ all.others s n other ∙ rest.past s n high
          ]

          unused : (s n : ℕ) → ¬ Contains (lid ∷ lids) n → level all.lanes s n ≡ None
          unused s n not =
              all.others s n (λ same. not (subst (λ m. Contains (lid ∷ lids) m) (sym same) (first lid lids))) ∙ rest.unused s n (λ of. not (later lid lids n of))

  -- lanes of this count whose levels are given
  pub levels_exist : IsFabric t → (count : ℕ) → (0 < count) × (count ≤ 15) → (l : LaneTables) × LanesFit t l × (l.count ≡ count) × HasLanePerLevel l × HasLevels t l Given
  levels_exist fabric count few = go (engine_lanes_exist t fabric count few)
    where
      go : (l : LaneTables) × AreEngineLanes t count l → (l : LaneTables) × LanesFit t l × (l.count ≡ count) × HasLanePerLevel l × HasLevels t l Given
      go begins = (all.lanes, all.fitting.fits, all.fitting.lane_count, all.fitting.maps, record { levels = levels; no_other = no_other })
        where
          all : Leveled count (lids_of t)
          all = all_lids count begins.0 begins.1 (lids_of t) (λ lid has. has)

          levels : (s lid : ℕ) → IsSource t s → IsConnectedTo t s lid → (n : ℕ) × Given s lid n × (level all.lanes s lid ≡ Some n)
          levels s lid source joined = told (wanted s lid).0 (wanted s lid).1 (all.has s lid (connected_in_use t s lid joined) (connected_below t fabric.rows s lid joined))
            where
              told : (o : Option ℕ) → IsLevelFor t Given s lid o → level all.lanes s lid ≡ o → (n : ℕ) × Given s lid n × (level all.lanes s lid ≡ Some n)
              told None is at = absurd (is (source, joined))
              told (Some n) is at = (n, is.1.0, at)

          no_other : (s lid : ℕ) → ¬ (IsSource t s × IsConnectedTo t s lid) → level all.lanes s lid ≡ None
          no_other s lid apart = elim (contains_decided (lids_of t) lid) [
            | inl used ↦ (elim (cases_lt s (length t.switches)) [
              | inl low ↦ told (wanted s lid).0 (wanted s lid).1 (all.has s lid used low)
              | inr high ↦ all.past s lid high
            ])
            | inr not ↦ all.unused s lid not
          ]
            where
              told : (o : Option ℕ) → IsLevelFor t Given s lid o → level all.lanes s lid ≡ o → level all.lanes s lid ≡ None
              told None is at = at
              told (Some n) is at = absurd (apart is.0)

-- Levels that are given to sources, LID by LID and switch by switch.
use Rattle.std.proofs.Common.{◌≡◌, ◌≢◌, ℕ, suc, ◌+◌, ◌<◌, ◌≤◌, ◌⊎◌, inl, inr, List, length, Option, Some, None, refl, sym, ◌∙◌, ap, subst, arith}
use Rattle.std.specs.Prelude.{Contains, ◌==◌, ◌&&◌, if◌then◌else◌, slice_index_or}
use Rattle.std.proofs.lemmas.Bool.{cases_eq, eq-eqb, ne_eqb, and_from, and_left, and_right, cond-true, cond-false}
use Rattle.std.proofs.lemmas.List.{get_or_default}
use Rattle.fab_model.specs.Topology.{Topology, lids_of}
use Rattle.fab_model.specs.Connected.{IsConnectedTo}
use Rattle.fab_tables.specs.LaneTables.{LaneTables, HasLanePerLevel, level, with_level, with_level_in_column}
use Rattle.fab_tables.specs.Entries.{index_of, cell}
use Rattle.fab_tables.specs.Fit.{LanesFit, IsSource}
use Rattle.fab_tables.proofs.Rows.LaneSets.{level_set_kept}
use Rattle.fab_tables.proofs.Rows.Cells.{one_level_changes}
use Rattle.fab_tables.proofs.Joined.Lids.{connected_in_use}
use Rattle.fab_certify.specs.EnginePlans.{AreEngineLanes, HasLevels}
use Rattle.fab_nue.proofs.Searching.Growing.{same_or_other}

-- Those for which this holds have the levels that are given, no other source and LID has another one, and nobody else has one.
pub record AreLeveled (t : Topology) (count : ℕ) (given : ℕ → ℕ → Option ℕ) (Done : ℕ → ℕ → Type 0) (l : LaneTables) : Type 0 where
  pub fits : LanesFit t l
  pub maps : HasLanePerLevel l
  pub lane_count : l.count ≡ count
  pub has : (s lid : ℕ) → Done s lid → IsSource t s → IsConnectedTo t s lid → level l s lid ≡ given s lid
  pub only : (s lid : ℕ) → (level l s lid ≡ None) ⊎ ((level l s lid ≡ given s lid) × IsSource t s × IsConnectedTo t s lid)

-- of the first LIDs all switches, and of the next one the first
abbrev pub IsBefore : List ℕ → ℕ → ℕ → ℕ → ℕ → Type 0
IsBefore lids index first s lid = ((k : ℕ) × (k < index) × (k < length lids) × (slice_index_or lids k 0 ≡ lid)) ⊎ ((index < length lids) × (slice_index_or lids index 0 ≡ lid) × (s < first))

pub none_leveled : (t : Topology) (count : ℕ) (given : ℕ → ℕ → Option ℕ) (l : LaneTables) → AreEngineLanes t count l → AreLeveled t count given (IsBefore (lids_of t) 0 0) l
none_leveled t count given l x = record {
  fits = x.fits;
  maps = x.maps;
  lane_count = x.lane_count;
  has = λ s lid done. absurd (elim done [ inl k ↦ omega (arith, k.1) | inr f ↦ omega (arith, f.2) ]);
  only = λ s lid. inl (x.no_level s lid);
}

-- which are done may be said in another way
pub leveled_same : (t : Topology) (count : ℕ) (given : ℕ → ℕ → Option ℕ) (Done Also : ℕ → ℕ → Type 0) (l : LaneTables) → ((s lid : ℕ) → IsSource t s → IsConnectedTo t s lid → Also s lid → Done s lid) → AreLeveled t count given Done l →
    AreLeveled t count given Also l
leveled_same t count given Done Also l fewer x = record {
  fits = x.fits;
  maps = x.maps;
  lane_count = x.lane_count;
  has = λ s lid also source connected. x.has s lid (fewer s lid source connected also) source connected;
  only = x.only;
}

-- one level is set
module _ (t : Topology) (count : ℕ) (given : ℕ → ℕ → Option ℕ) (Done : ℕ → ℕ → Type 0) (l : LaneTables) (s lid n : ℕ) (so_far : AreLeveled t count given Done l) (low : s < length t.switches) (in_use : Contains (lids_of t) lid)
    (source : IsSource t s) (connected : IsConnectedTo t s lid) (is : given s lid ≡ Some n) (small : n < 16) where
  abbrev leveled : LaneTables
  leveled = with_level l s lid (Some n)

  changed : (other other_lid : ℕ) → level leveled other other_lid ≡ (if (other == s) && (other_lid == lid) then Some n else level l other other_lid)
  changed other other_lid = one_level_changes l s lid other other_lid (Some n) so_far.fits.whole (omega (arith, low, so_far.fits.switches)) (subst (λ ns. Contains ns lid) (sym so_far.fits.in_use) in_use)

  here_or_other : (other other_lid : ℕ) → (((other ≡ s) × (other_lid ≡ lid)) × (level leveled other other_lid ≡ given other other_lid)) ⊎ (level leveled other other_lid ≡ level l other other_lid)
  here_or_other other other_lid = elim (cases_eq other s) [
    | inr ne ↦ inr (changed other other_lid ∙ cond-false ((other == s) && (other_lid == lid)) (Some n) (level l other other_lid) (and_left (other == s) (other_lid == lid) (ne_eqb other s ne)))
    | inl same ↦ elim (cases_eq other_lid lid) [
      | inr ne ↦ inr (changed other other_lid ∙ cond-false ((other == s) && (other_lid == lid)) (Some n) (level l other other_lid) (and_right (other == s) (other_lid == lid) (ne_eqb other_lid lid ne)))
      | inl at ↦
          inl (
            (same, at),
            changed other other_lid ∙ cond-true ((other == s) && (other_lid == lid)) (Some n) (level l other other_lid) (and_from (other == s) (other_lid == lid) (eq-eqb other s same) (eq-eqb other_lid lid at))
                ∙ sym is ∙ ap (λ k. given k lid) (sym same) ∙ ap (λ k. given other k) (sym at),
          )
    ]
  ]

  in_column : (o : Option ℕ) → LanesFit t (with_level_in_column l s (Some n) o) × ((with_level_in_column l s (Some n) o).count ≡ l.count) × HasLanePerLevel (with_level_in_column l s (Some n) o)
  in_column None = (so_far.fits, refl, so_far.maps)
  in_column (Some i) = (
    record {
      whole = level_set_kept l so_far.fits.whole (cell l.switches i s) (Some n) small;
      switches = so_far.fits.switches;
      channels = so_far.fits.channels;
      in_use = so_far.fits.in_use;
      pairs = so_far.fits.pairs;
    },
    refl,
    record { general = so_far.maps.general; no_pair = so_far.maps.no_pair },
  )

  pub one_leveled : AreLeveled t count given (λ x k. Done x k ⊎ ((x ≡ s) × (k ≡ lid))) leveled
  one_leveled = record {
    fits = (in_column (index_of lid l.in_use)).0;
    maps = (in_column (index_of lid l.in_use)).2;
    lane_count = (in_column (index_of lid l.in_use)).1 ∙ so_far.lane_count;
    has = has;
    only = only;
  }
    where
      has : (x k : ℕ) → Done x k ⊎ ((x ≡ s) × (k ≡ lid)) → IsSource t x → IsConnectedTo t x k → level leveled x k ≡ given x k
      has x k done so co = elim (here_or_other x k) [
        | inl here ↦ here.1
        | inr same ↦ (elim done [
          | inl before ↦ same ∙ so_far.has x k before so co
          | inr it ↦ (elim (so_far.only x k) [
            | inl none ↦ it_is x k it
            | inr some ↦ same ∙ some.0
          ])
        ])
      ]
        where
          it_is : (x k : ℕ) → (x ≡ s) × (k ≡ lid) → level leveled x k ≡ given x k
          it_is x k it =
              changed x k ∙ cond-true ((x == s) && (k == lid)) (Some n) (level l x k) (and_from (x == s) (k == lid) (eq-eqb x s it.0) (eq-eqb k lid it.1))
              ∙ sym is ∙ ap (λ z. given z lid) (sym it.0) ∙ ap (λ z. given x z) (sym it.1)

      only : (x k : ℕ) → (level leveled x k ≡ None) ⊎ ((level leveled x k ≡ given x k) × IsSource t x × IsConnectedTo t x k)
      only x k = elim (here_or_other x k) [
        | inl here ↦ inr (here.1, subst (IsSource t) (sym here.0.0) source, subst (λ z. IsConnectedTo t z k) (sym here.0.0) (subst (λ z. IsConnectedTo t s z) (sym here.0.1) connected))
        | inr same ↦ (elim (so_far.only x k) [ inl none ↦ inl (same ∙ none) | inr some ↦ inr (same ∙ some.0, some.1, some.2) ])
      ]

-- ---- the loops

module _ (t : Topology) (lids : List ℕ) (index : ℕ) where
  -- the first switch of a LID is to come
  pub lid_begins : (s lid : ℕ) → IsSource t s → IsConnectedTo t s lid → IsBefore lids index 0 s lid → IsBefore lids index 0 s lid
  lid_begins s lid source connected x = x

  pub switch_passes : (first at lid : ℕ) → index < length lids → slice_index_or lids index 0 ≡ at → (s : ℕ) → ¬ (IsSource t first × IsConnectedTo t first at) → IsSource t s → IsConnectedTo t s lid →
      IsBefore lids index (first + 1) s lid → IsBefore lids index first s lid
  switch_passes first at lid low is s none source connected (inl before) = inl before
  switch_passes first at lid low is s none source connected (inr here) = elim (same_or_other s first) [
    | inl e ↦ absurd (none (subst (IsSource t) e source, subst (λ z. IsConnectedTo t z at) e (subst (λ z. IsConnectedTo t s z) (sym here.1 ∙ is) connected)))
    | inr other ↦ inr (here.0, here.1, omega (arith, here.2, other))
  ]

  pub switch_set : (first at lid s : ℕ) → slice_index_or lids index 0 ≡ at → IsBefore lids index (first + 1) s lid → IsBefore lids index first s lid ⊎ ((s ≡ first) × (lid ≡ at))
  switch_set first at lid s is (inl before) = inl (inl before)
  switch_set first at lid s is (inr here) = elim (same_or_other s first) [
    | inl e ↦ inr (e, sym here.1 ∙ is)
    | inr other ↦ inl (inr (here.0, here.1, omega (arith, here.2, other)))
  ]

  -- behind the last switch the LID is done
  pub lid_ends : (first s lid : ℕ) → length t.switches ≤ first → s < length t.switches → IsBefore lids (index + 1) 0 s lid → IsBefore lids index first s lid
  lid_ends first s lid past low (inr here) = absurd (omega (arith, here.2))
  lid_ends first s lid past low (inl before) = elim (same_or_other before.0 index) [
    | inl e ↦ inr (omega (arith, before.2, e), ap (λ z. slice_index_or lids z 0) (sym e) ∙ before.3, omega (arith, low, past))
    | inr other ↦ inl (before.0, omega (arith, before.1, other), before.2, before.3)
  ]

pub all_leveled : (t : Topology) (count : ℕ) (given : ℕ → ℕ → Option ℕ) (Given : ℕ → ℕ → ℕ → Type 0) (l : LaneTables) (index first : ℕ) → length (lids_of t) ≤ index → AreLeveled t count given (IsBefore (lids_of t) index first) l →
    ((s lid : ℕ) → IsSource t s → IsConnectedTo t s lid → (n : ℕ) × (given s lid ≡ Some n) × Given s lid n) → HasLevels t l Given
all_leveled t count given Given l index first past x each = record {
  levels = λ s lid source connected.
      let in_use : Contains (lids_of t) lid = connected_in_use t s lid connected in
      let g : (n : ℕ) × (given s lid ≡ Some n) × Given s lid n = each s lid source connected in
      (g.0, g.2, x.has s lid (inl (in_use.0, omega (arith, in_use.1, past), in_use.1, get_or_default (lids_of t) in_use.0 0 lid in_use.1 ∙ in_use.2)) source connected ∙ g.1);
  no_other = λ s lid none. elim (x.only s lid) [ inl has_none ↦ has_none | inr some ↦ absurd (none (some.1, some.2)) ];
}

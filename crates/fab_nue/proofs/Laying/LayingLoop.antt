-- LID after LID: those before a place of the ascending list are kept or laid, and there is room for the others.
use Rattle.std.proofs.Common.{◌≡◌, ◌≢◌, ℕ, zero, suc, ◌+◌, ◌*◌, ◌<◌, ◌≤◌, ◌⊎◌, inl, inr, Bool, true, false, ◌&&◌, ◌||◌, List, [], ◌∷◌, ◌++◌, map, length, length-append, cond, drop, Option, Some, refl, sym, ◌∙◌, ap, subst, arith}
use Rattle.std.specs.Prelude.{Contains, ◌==◌, not, count_by, filter, nat_lt, slice_index_or}
use Rattle.std.specs.List.{list_any}
use Rattle.std.specs.List.Sorted.{IsStrictlyIncreasing}
use Rattle.std.proofs.lemmas.Bool.{cases_lt, cases_eq, eq-eqb, ne_eqb}
use Rattle.std.proofs.lemmas.List.{get_or_default, length-map}
use Rattle.fab_model.specs.declared.rows.SwitchRow.{SwitchRow}
use Rattle.fab_model.specs.declared.rows.TerminalRow.{TerminalRow}
use Rattle.fab_model.proofs.Order.{length-in_order}
use Rattle.std.proofs.lemmas.Option.{slice_get_within}
use Rattle.std.proofs.lemmas.List.Sums.{sum_by-cons}
use Rattle.std.proofs.lemmas.List.Kept.{AllPairs-from_increasing}
use Rattle.fab_model.specs.Topology.{Topology, lids_of}
use Rattle.fab_tables.specs.declared.plan.Plan.{Plan}
use Rattle.fab_tables.specs.Entries.{Entries}
use Rattle.fab_model.specs.WellFormed.{IsWellFormed}
use Rattle.fab_depgraph.specs.Listed.{Dependencies, IsListed}
use Rattle.fab_sssp.specs.WeightTables.{WeightTable, weight_of}
use Rattle.fab_escape.specs.Forest.{Forest}
use Rattle.fab_escape.specs.EscapeSet.{home}
use Rattle.fab_escape.specs.Trees.{IsEscapeForest}
use Rattle.fab_nue.specs.Kept.{AreKept}
use Rattle.fab_nue.specs.NuePlan.{DependsToEscapeIn, IsLaid, IsInUse, laid_before, AreUsed}
use Rattle.fab_nue.specs.Arenas.{listed_in, spare_in, HaveChannels, ChangesLane}
use Rattle.fab_nue.specs.Laying.{AreLaid, IsBetween, AreLaidBelow, HasEntriesOf, WeighsMore, IsLaidIn, HasRoomToLay, is_laid_in, left_to_lay}
use Rattle.fab_nue.proofs.Searching.Growing.{same_or_other}
use Rattle.fab_nue.proofs.Lanes.LaneLists.{channels_at, listed_at}
use Rattle.fab_nue.proofs.Laying.InUse.{InUseBelow}
use Rattle.fab_nue.proofs.Laying.LayingSteps.{at_last}
use Rattle.fab_nue.proofs.Laying.Weighing.{not_among, laid_counts}
use Rattle.fab_nue.proofs.Laying.LidAfterLid.{with_tree, one_lid_more, passes}

-- ---- places of the ascending list

module _ (lids : List ℕ) (rise : IsStrictlyIncreasing lids) where
  at_place : (lid : ℕ) → (has : Contains lids lid) → slice_index_or lids has.0 0 ≡ lid
  at_place lid has = get_or_default lids has.0 0 lid has.1 ∙ has.2

  ordered : (j k : ℕ) → j < k → k < length lids → slice_index_or lids j 0 < slice_index_or lids k 0
  ordered j k less low = AllPairs-from_increasing lids rise j k 0 less low

  pub between_begins : IsBetween lids 0 0
  between_begins = record { before = λ k h low. absurd (omega (arith, h)); behind = λ k h low. omega arith }

  pub between_on : (i n x : ℕ) → i < length lids → slice_index_or lids i 0 ≡ x → IsBetween lids i n → IsBetween lids (i + 1) (suc x)
  between_on i n x low at b = record {
    before = λ k h in_list. elim (same_or_other k i) [
      | inl e ↦ omega (arith, ap (λ z. slice_index_or lids z 0) e, at)
      | inr other ↦ omega (arith, b.before k (omega (arith, h, other)) in_list, b.behind i (omega arith) low, at)
    ];
    behind = λ k h in_list. omega (arith, ordered i k (omega (arith, h)) in_list, at);
  }

  -- no LID stands between
  pub none_between : (i n x : ℕ) → i < length lids → slice_index_or lids i 0 ≡ x → IsBetween lids i n → (lid : ℕ) → n ≤ lid → lid < x → ¬ Contains lids lid
  none_between i n x low at b lid more less has = elim (cases_lt has.0 i) [
    | inl before ↦ omega (arith, b.before has.0 before has.1, at_place lid has, more)
    | inr past ↦ (elim (same_or_other has.0 i) [
      | inl e ↦ omega (arith, ap (λ z. slice_index_or lids z 0) e, at_place lid has, at, less)
      | inr other ↦ omega (arith, ordered i has.0 (omega (arith, past, other)) has.1, at_place lid has, at, less)
    ])
  ]

  pub next_behind : (i n : ℕ) → i < length lids → IsBetween lids i n → n ≤ slice_index_or lids i 0
  next_behind i n low b = b.behind i (omega arith) low

  pub all_before : (i n : ℕ) → length lids ≤ i → IsBetween lids i n → (lid : ℕ) → Contains lids lid → lid < n
  all_before i n past b lid has = omega (arith, b.before has.0 (omega (arith, has.1, past)) has.1, at_place lid has)

-- ---- the loop

abbrev pub IsSoFar : Topology → ℕ → Option Plan → List ℕ → (ℕ → Forest) → ℕ → Entries → WeightTable → List Dependencies → Type 0
IsSoFar t lanes old kept forest index e w used = (n : ℕ) × (laid : ℕ → List (Option ℕ)) × IsBetween (lids_of t) index n × AreLaidBelow t lanes old kept forest laid n e w used

module _ (t : Topology) (lanes : ℕ) (old : Option Plan) (kept : List ℕ) (forest : ℕ → Forest) (rise : IsStrictlyIncreasing (lids_of t)) where
  pub so_far_begins : (laid : ℕ → List (Option ℕ)) (e : Entries) (w : WeightTable) (used : List Dependencies) → AreLaidBelow t lanes old kept forest laid 0 e w used → IsSoFar t lanes old kept forest 0 e w used
  so_far_begins laid e w used x = (0, laid, between_begins (lids_of t) rise, x)

  -- at its place all is laid up to the LID
  pub up_to : (i lid : ℕ) (e : Entries) (w : WeightTable) (used : List Dependencies) → i < length (lids_of t) → slice_index_or (lids_of t) i 0 ≡ lid → (x : IsSoFar t lanes old kept forest i e w used) →
      AreLaidBelow t lanes old kept forest x.1 lid e w used
  up_to i lid e w used low at x =
      passes t lanes old kept forest x.1 x.0 lid e w used rise (omega (arith, next_behind (lids_of t) rise i x.0 low x.2, at))
      (λ other more less is. none_between (lids_of t) rise i x.0 lid low at x.2 other more less is.0) x.3

  -- a kept one is passed over
  pub kept_passes : (i lid : ℕ) (e : Entries) (w : WeightTable) (used : List Dependencies) → i < length (lids_of t) → slice_index_or (lids_of t) i 0 ≡ lid → Contains kept lid → IsSoFar t lanes old kept forest i e w used →
      IsSoFar t lanes old kept forest (i + 1) e w used
  kept_passes i lid e w used low at has x = (
    suc lid,
    x.1,
    between_on (lids_of t) rise i x.0 lid low at x.2,
    passes t lanes old kept forest x.1 lid (suc lid) e w used rise (omega arith)
        (λ other more less is. is.1 (subst (λ z. Contains kept z) (let same : lid ≡ other = omega (arith, more, less) in same) has)) (up_to i lid e w used low at x),
  )

  pub laid_goes_on : (i lid : ℕ) (e new : Entries) (w heavy : WeightTable) (used after : List Dependencies) (tree : List (Option ℕ)) → IsWellFormed t → i < length (lids_of t) → slice_index_or (lids_of t) i 0 ≡ lid →
      IsLaid t kept lid → home t lid lanes < lanes → IsLaidIn t (λ c. weight_of w c) (forest (home t lid lanes)) lid (home t lid lanes) used after tree → HasEntriesOf t lid tree e new → WeighsMore t new lid w heavy →
      IsSoFar t lanes old kept forest i e w used → IsSoFar t lanes old kept forest (i + 1) new heavy after
  laid_goes_on i lid e new w heavy used after tree good low at is below has entries weighs x = (
    suc lid,
    with_tree x.1 lid tree,
    between_on (lids_of t) rise i x.0 lid low at x.2,
    one_lid_more t lanes old kept forest x.1 lid e new w heavy used after tree good rise (up_to i lid e w used low at x) is below has entries weighs,
  )

-- ---- room

one_first : (p : ℕ → Bool) (xs : List ℕ) (i : ℕ) → i < length xs → count_by p (drop i xs) ≡ cond (p (slice_index_or xs i 0)) 1 0 + count_by p (drop (i + 1) xs)
one_first p [] i h = absurd (omega (arith, h))
one_first p (x ∷ xs) zero h = sum_by-cons (λ y. cond {A = ℕ} (p y) 1 0) x xs
one_first p (x ∷ xs) (suc i) h =
    one_first p xs i (omega (arith, h)) ∙ ap (λ k. cond (p (slice_index_or xs i 0)) 1 0 + count_by p (drop k (x ∷ xs))) {x = suc (i + 1)} {y = suc i + 1} (omega arith)

module _ (t : Topology) (lanes : ℕ) (kept : List ℕ) (i lid : ℕ) (low : i < length (lids_of t)) (at : slice_index_or (lids_of t) i 0 ≡ lid) where
  left_first : (on_lane : ℕ) → left_to_lay t lanes kept on_lane i ≡ cond (is_laid_in t lanes kept on_lane lid) 1 0 + left_to_lay t lanes kept on_lane (i + 1)
  left_first on_lane = one_first (is_laid_in t lanes kept on_lane) (lids_of t) i low ∙ ap (λ x. cond (is_laid_in t lanes kept on_lane x) 1 0 + left_to_lay t lanes kept on_lane (i + 1)) at

  is_here : ¬ Contains kept lid → is_laid_in t lanes kept (home t lid lanes) lid ≡ true
  is_here none = both (home t lid lanes == home t lid lanes) (list_any (λ one. one == lid) kept) (eq-eqb _ _ refl) (not_among kept lid none)
    where
      both : (a b : Bool) → a ≡ true → b ≡ false → (a && not b) ≡ true
      both true false x y = refl
      both true true x y = cc
      both false b x y = cc

  pub room_here : ¬ Contains kept lid → (used : List Dependencies) → home t lid lanes < lanes → HasRoomToLay t lanes kept i used → length t.switches ≤ spare_in used (home t lid lanes)
  room_here none used below room =
      let more : left_to_lay t lanes kept (home t lid lanes) i ≡ 1 + left_to_lay t lanes kept (home t lid lanes) (i + 1)
      = left_first (home t lid lanes) ∙ ap (λ b. cond b 1 0 + left_to_lay t lanes kept (home t lid lanes) (i + 1)) (is_here none) in
      omega (arith, room (home t lid lanes) below, ap (λ k. k * length t.switches) more)

  no_more_left : (on_lane : ℕ) → left_to_lay t lanes kept on_lane (i + 1) * length t.switches ≤ left_to_lay t lanes kept on_lane i * length t.switches
  no_more_left on_lane = go (is_laid_in t lanes kept on_lane lid) (left_first on_lane)
    where
      go : (b : Bool) → left_to_lay t lanes kept on_lane i ≡ cond b 1 0 + left_to_lay t lanes kept on_lane (i + 1) →
          left_to_lay t lanes kept on_lane (i + 1) * length t.switches ≤ left_to_lay t lanes kept on_lane i * length t.switches
      go true is = omega (arith, ap (λ k. k * length t.switches) is)
      go false is = omega (arith, ap (λ k. k * length t.switches) is)

  pub room_passes : (used : List Dependencies) → HasRoomToLay t lanes kept i used → HasRoomToLay t lanes kept (i + 1) used
  room_passes used room on_lane below = omega (arith, room on_lane below, no_more_left on_lane)

  pub room_goes_on : ¬ Contains kept lid → (used after : List Dependencies) → ChangesLane (home t lid lanes) used after → spare_in used (home t lid lanes) ≤ spare_in after (home t lid lanes) + length t.switches →
      HasRoomToLay t lanes kept i used → HasRoomToLay t lanes kept (i + 1) after
  room_goes_on none used after changes fell room on_lane below = elim (same_or_other on_lane (home t lid lanes)) [
    | inl e ↦
        (let more : left_to_lay t lanes kept on_lane i ≡ 1 + left_to_lay t lanes kept on_lane (i + 1)
        = left_first on_lane ∙ ap (λ b. cond b 1 0 + left_to_lay t lanes kept on_lane (i + 1)) (ap (λ k. is_laid_in t lanes kept k lid) e ∙ is_here none) in
        omega (arith, room on_lane below, ap (λ k. k * length t.switches) more, fell, ap (λ k. spare_in used k) e, ap (λ k. spare_in after k) e))
    | inr other ↦ omega (arith, room on_lane below, no_more_left on_lane, changes.spare on_lane other)
  ]

-- ---- what the steps need

-- a LID that is laid is none of those laid before, so these are fewer than all
pub few_before : (t : Topology) (kept : List ℕ) (lid : ℕ) → IsStrictlyIncreasing (lids_of t) → IsLaid t kept lid → length (laid_before t kept lid) < length (lids_of t)
few_before t kept lid rise is = omega (arith, laid_counts t kept rise lid is, no_longer (λ other. nat_lt other (suc lid) || list_any (λ one. one == other) kept) (lids_of t))
  where
    no_longer : (p : ℕ → Bool) (xs : List ℕ) → length (filter p xs) ≤ length xs
    no_longer p [] = omega arith
    no_longer p (x ∷ xs) = go (p x) (no_longer p xs)
      where
        go : (b : Bool) → length (filter p xs) ≤ length xs → length (cond b (x ∷ filter p xs) (filter p xs)) ≤ length (x ∷ xs)
        go true h = omega (arith, h)
        go false h = omega (arith, h)

-- room that is made changes nothing that is listed
pub same_lists_laid : (t : Topology) (lanes : ℕ) (old : Option Plan) (kept : List ℕ) (forest : ℕ → Forest) (laid : ℕ → List (Option ℕ)) (n : ℕ) (e : Entries) (w : WeightTable) (used other : List Dependencies) →
    ((on_lane : ℕ) → listed_in other on_lane ≡ listed_in used on_lane) → AreLaidBelow t lanes old kept forest laid n e w used → AreLaidBelow t lanes old kept forest laid n e w other
same_lists_laid t lanes old kept forest laid n e w used other same x = record {
  trees = x.trees;
  fixed = x.fixed;
  of_kept = x.of_kept;
  of_laid = x.of_laid;
  made_for = x.made_for;
  raised = x.raised;
  weights = x.weights;
  listed = λ on_lane below c d.
      subst (λ xs. (IsListed xs c d → InUseBelow t lanes old kept forest laid n on_lane c d) × (InUseBelow t lanes old kept forest laid n on_lane c d → IsListed xs c d)) (sym (same on_lane)) (x.listed on_lane below c d);
}

-- ---- all LIDs

pub all_laid : (t : Topology) (lanes : ℕ) (old : Option Plan) (kept : List ℕ) (forest : ℕ → Forest) (laid : ℕ → List (Option ℕ)) (n : ℕ) (e : Entries) (w : WeightTable) (used : List Dependencies) →
    ((on_lane : ℕ) → on_lane < lanes → IsEscapeForest t on_lane (forest on_lane)) → AreKept t lanes (λ on_lane c d. DependsToEscapeIn t lanes forest on_lane c d) old kept →
    ((lid : ℕ) → Contains (lids_of t) lid → lid < n) → AreLaidBelow t lanes old kept forest laid n e w used → AreLaid t lanes old kept forest laid e
all_laid t lanes old kept forest laid n e w used forests keeps all x = record {
  forests = forests;
  keeps = keeps;
  trees = λ lid place is at. x.trees lid place (all lid is.0) is at;
  tables = record {
    fixed = x.fixed;
    of_kept = x.of_kept;
    of_laid = λ s lid to is chosen. x.of_laid s lid to (all lid is.0) is chosen;
  };
}

pub all_used : (t : Topology) (lanes : ℕ) (old : Option Plan) (kept : List ℕ) (forest : ℕ → Forest) (laid : ℕ → List (Option ℕ)) (n : ℕ) (e : Entries) (w : WeightTable) (used : List Dependencies) → length used ≡ lanes → HaveChannels t used →
    ((lid : ℕ) → Contains (lids_of t) lid → lid < n) → AreLaidBelow t lanes old kept forest laid n e w used → AreUsed t lanes old kept forest laid used
all_used t lanes old kept forest laid n e w used each channels all x = record {
  each_lane = each;
  channels = λ on_lane g at. channels_at t used on_lane g channels at;
  listed = λ on_lane g at c d.
      let below : on_lane < lanes = omega (arith, slice_get_within used on_lane g at, each) in
      let same = at_last t lanes old kept forest laid n on_lane all c d in
      subst (λ xs. (IsListed xs c d → IsInUse t lanes old kept forest laid (λ other. Unit {0}) on_lane c d) × (IsInUse t lanes old kept forest laid (λ other. Unit {0}) on_lane c d → IsListed xs c d)) (listed_at used on_lane g at)
      ((λ l. same.0 ((x.listed on_lane below c d).0 l)), (λ u. (x.listed on_lane below c d).1 (same.1 u)));
}

-- ---- counting those that are laid

pub few_lids : (t : Topology) → IsWellFormed t → length (lids_of t) ≤ 16384
few_lids t good = omega (
  arith,
  good.lid_count,
  length-in_order nat_lt (map (λ (row : SwitchRow). row.lid.0) t.switches ++ map (λ (row : TerminalRow). row.lid.0) t.terminals),
  length-append (map (λ (row : SwitchRow). row.lid.0) t.switches) (map (λ (row : TerminalRow). row.lid.0) t.terminals),
  length-map t.switches (λ (row : SwitchRow). row.lid.0),
  length-map t.terminals (λ (row : TerminalRow). row.lid.0),
)

pub one_counted : (t : Topology) (lanes : ℕ) (kept : List ℕ) (i lid on_lane n : ℕ) (b : Bool) → i < length (lids_of t) → slice_index_or (lids_of t) i 0 ≡ lid → is_laid_in t lanes kept on_lane lid ≡ b →
    n + left_to_lay t lanes kept on_lane i ≡ left_to_lay t lanes kept on_lane 0 → (n + cond b 1 0) + left_to_lay t lanes kept on_lane (i + 1) ≡ left_to_lay t lanes kept on_lane 0
one_counted t lanes kept i lid on_lane n b low at is so_far = omega (arith, so_far, left_first t lanes kept i lid low at on_lane, ap (λ x. cond {A = ℕ} x 1 0) is)

pub all_counted : (t : Topology) (lanes : ℕ) (kept : List ℕ) (i on_lane n : ℕ) → length (lids_of t) ≤ i → n + left_to_lay t lanes kept on_lane i ≡ left_to_lay t lanes kept on_lane 0 → n ≡ left_to_lay t lanes kept on_lane 0
all_counted t lanes kept i on_lane n past so_far = omega (arith, so_far, ap (λ xs. count_by (is_laid_in t lanes kept on_lane) xs) (none_left i (lids_of t) past))
  where
    none_left : (i : ℕ) (xs : List ℕ) → length xs ≤ i → drop i xs ≡ []
    none_left zero [] h = refl
    none_left zero (x ∷ xs) h = absurd (omega (arith, h))
    none_left (suc i) [] h = refl
    none_left (suc i) (x ∷ xs) h = none_left i xs (omega (arith, h))

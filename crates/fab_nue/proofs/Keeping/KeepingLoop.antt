-- LID after LID is kept or not.
use Rattle.std.proofs.Common.{◌≡◌, ◌≢◌, ℕ, zero, suc, ◌+◌, ◌*◌, ◌<◌, ◌≤◌, ◌⊎◌, inl, inr, Bool, true, false, List, [], ◌∷◌, ◌++◌, length, Option, Some, refl, sym, ◌∙◌, ap, subst, arith, length-append}
use Rattle.std.specs.Prelude.{Contains, All, sum_by, slice_index_or}
use Rattle.std.specs.List.Sorted.{IsStrictlyIncreasing}
use Rattle.std.proofs.lemmas.Bool.{cases_lt}
use Rattle.std.proofs.lemmas.List.{length-replicate, get_or-replicate}
use Rattle.std.proofs.lemmas.List.Sums.{sum_by-cons, sum_by-append}
use Rattle.std.proofs.lemmas.List.Elements.{Contains-append_cases}
use Rattle.fab_graph.specs.Walks.{SameGraph, IsAcyclic}
use Rattle.fab_graph.proofs.Parts.{part_acyclic}
use Rattle.fab_model.specs.declared.rows.Place.{Place}
use Rattle.fab_model.specs.Topology.{Topology, lids_of, place_of}
use Rattle.fab_model.specs.Connected.{AreConnected, IsConnectedTo}
use Rattle.std.proofs.lemmas.Option.{same_Some}
use Rattle.fab_model.specs.WellFormed.{IsWellFormed}
use Rattle.fab_tables.specs.declared.plan.Plan.{Plan}
use Rattle.fab_tables.specs.Entries.{Entries, entry}
use Rattle.fab_tables.specs.FixedEntries.{HasFixedEntries}
use Rattle.fab_depgraph.specs.declared.dep.Dep.{Dep}
use Rattle.fab_depgraph.specs.Listed.{Dependencies, IsListed}
use Rattle.fab_sssp.specs.Carried.{terminals_carried, weight_after}
use Rattle.fab_sssp.specs.WeightTables.{WeightTable, WeightsFit, weight_of, start_weight, start_weights}
use Rattle.fab_escape.specs.Forest.{Forest}
use Rattle.fab_nue.specs.Kept.{DependsOnOldRoute, DependsOnKept, CanStay, AreKept}
use Rattle.fab_nue.specs.NuePlan.{DependsToEscapeIn, laid_before}
use Rattle.fab_nue.specs.Arenas.{listed_in, channel_counts, AreListing, AreShort}
use Rattle.fab_nue.specs.OldRoutes.{CanJoin, JoinsLane, IsKeptOrNot, IsRouteTree}
use Rattle.fab_nue.specs.Laying.{IsBetween, HasEntriesOf, WeighsMore, AreLaidBelow, KeepsOldLids}
use Rattle.fab_nue.proofs.Searching.Growing.{same_or_other}
use Rattle.fab_nue.proofs.Lanes.LaneLists.{same_length}
use Rattle.fab_nue.proofs.Laying.Members.{first_or_later, sum_members}
use Rattle.fab_nue.proofs.Laying.KeepingLids.{KeptBelow, none_kept, passes_unused, not_kept, one_kept_more, all_looked_at, kept_depends}
use Rattle.fab_nue.proofs.Laying.LayingSteps.{at_first}
use Rattle.fab_nue.proofs.Laying.LayingLoop.{between_begins, between_on, none_between, next_behind, all_before}
use Rattle.fab_nue.proofs.Laying.Weighing.{first_laid, carried_same}
use Rattle.fab_nue.proofs.Keeping.RouteTrees.{same_entry}

-- the escape dependencies and those of the kept LIDs
abbrev pub InUseWithKept : Topology → ℕ → Plan → (ℕ → Forest) → List ℕ → ℕ → ℕ → ℕ → Type 0
InUseWithKept t lanes old forest kept on_lane c d = DependsToEscapeIn t lanes forest on_lane c d ⊎ DependsOnKept t old kept on_lane c d

-- LIDs below a number are decided, whatever the escape dependencies are that the arenas listed at first
abbrev pub HasDecided : Topology → ℕ → Plan → List Dependencies → List ℕ → ℕ → List Dependencies → Type 0
HasDecided t lanes old before kept n used = (forest : ℕ → Forest) → AreListing lanes (λ on_lane c d. DependsToEscapeIn t lanes forest on_lane c d) before →
    KeptBelow t lanes (λ on_lane c d. DependsToEscapeIn t lanes forest on_lane c d) old kept n × AreListing lanes (λ on_lane c d. InUseWithKept t lanes old forest kept on_lane c d) used

-- the entries and weights of the kept LIDs
pub record AreTaken (t : Topology) (old : Plan) (kept : List ℕ) (e : Entries) (w : WeightTable) : Type 0 where
  pub fixed : HasFixedEntries t e
  pub of_kept : (s lid : ℕ) → Contains kept lid → IsConnectedTo t s lid → entry e s lid ≡ entry old.tables s lid
  pub made_for : WeightsFit t w
  pub raised : w.raised ≡ length kept
  pub weights : (c : ℕ) → c < length t.channels → weight_of w c ≡ weight_after t e kept c

module _ (t : Topology) (lanes : ℕ) (old : Plan) (forest : ℕ → Forest) (kept : List ℕ) (used : List Dependencies) (lists : AreListing lanes (λ on_lane c d. InUseWithKept t lanes old forest kept on_lane c d) used) (lid : ℕ) where
  -- it can stay beside what the arenas list, or beside the LIDs kept before: that is the same
  joins_stays : CanJoin t lanes old used lid → CanStay t lanes (λ on_lane c d. DependsToEscapeIn t lanes forest on_lane c d) old kept lid
  joins_stays x = record {
    delivered = x.delivered;
    levels = x.levels;
    closes_none = λ on_lane below. part_acyclic
        (λ (c d : ℕ). DependsToEscapeIn t lanes forest on_lane c d ⊎ DependsOnKept t old kept on_lane c d ⊎ DependsOnOldRoute t old lid on_lane c d)
        (λ (c d : ℕ). IsListed (listed_in used on_lane) c d ⊎ DependsOnOldRoute t old lid on_lane c d)
        (λ c d y. elim y [
          | inl a ↦ inl ((lists on_lane below c d).1 (inl a))
          | inr (inl k) ↦ inl ((lists on_lane below c d).1 (inr k))
          | inr (inr own) ↦ inr own
        ])
        (x.closes_none on_lane below);
  }

  stays_joins : CanStay t lanes (λ on_lane c d. DependsToEscapeIn t lanes forest on_lane c d) old kept lid → CanJoin t lanes old used lid
  stays_joins x = record {
    delivered = x.delivered;
    levels = x.levels;
    closes_none = λ on_lane below. part_acyclic
        (λ (c d : ℕ). IsListed (listed_in used on_lane) c d ⊎ DependsOnOldRoute t old lid on_lane c d)
        (λ (c d : ℕ). DependsToEscapeIn t lanes forest on_lane c d ⊎ DependsOnKept t old kept on_lane c d ⊎ DependsOnOldRoute t old lid on_lane c d)
        (λ c d y. elim y [
          | inl l ↦ (elim ((lists on_lane below c d).0 l) [ inl a ↦ inl a | inr k ↦ inr (inl k) ])
          | inr own ↦ inr (inr own)
        ])
        (x.closes_none on_lane below);
  }

  joined_lists : (after : List Dependencies) → ((on_lane : ℕ) → on_lane < lanes → JoinsLane t old lid on_lane (listed_in used on_lane) (listed_in after on_lane)) →
      AreListing lanes (λ on_lane c d. InUseWithKept t lanes old forest (kept ++ lid ∷ []) on_lane c d) after
  joined_lists after joined on_lane below c d = (to, from)
    where
      union : (IsListed (listed_in used on_lane) c d ⊎ DependsOnOldRoute t old lid on_lane c d → IsListed (listed_in after on_lane) c d) ×
          (IsListed (listed_in after on_lane) c d → IsListed (listed_in used on_lane) c d ⊎ DependsOnOldRoute t old lid on_lane c d)
      union = (joined on_lane below).union c d

      more : (DependsOnKept t old kept on_lane c d ⊎ DependsOnOldRoute t old lid on_lane c d → DependsOnKept t old (kept ++ lid ∷ []) on_lane c d) ×
          (DependsOnKept t old (kept ++ lid ∷ []) on_lane c d → DependsOnKept t old kept on_lane c d ⊎ DependsOnOldRoute t old lid on_lane c d)
      more = kept_depends t lanes (λ lane a b. DependsToEscapeIn t lanes forest lane a b) old kept lid on_lane c d

      to : IsListed (listed_in after on_lane) c d → InUseWithKept t lanes old forest (kept ++ lid ∷ []) on_lane c d
      to l = elim (union.1 l) [
        | inl o ↦ (elim ((lists on_lane below c d).0 o) [ inl a ↦ inl a | inr k ↦ inr (more.0 (inl k)) ])
        | inr own ↦ inr (more.0 (inr own))
      ]

      from : InUseWithKept t lanes old forest (kept ++ lid ∷ []) on_lane c d → IsListed (listed_in after on_lane) c d
      from (inl a) = union.0 (inl ((lists on_lane below c d).1 (inl a)))
      from (inr k) = elim (more.1 k) [
        | inl o ↦ union.0 (inl ((lists on_lane below c d).1 (inr o)))
        | inr own ↦ union.0 (inr own)
      ]

-- ---- one LID

module _ (t : Topology) (lanes : ℕ) (old : Plan) (start : List Dependencies) (kept : List ℕ) (n lid : ℕ) (used after : List Dependencies) (whole : List (Option ℕ)) (few : length used ≡ lanes)
    (most : n ≤ lid) (none : (other : ℕ) → n ≤ other → other < lid → ¬ Contains (lids_of t) other) (so_far : HasDecided t lanes old start kept n used) where
  pub kept_more : Contains (lids_of t) lid → IsKeptOrNot t old lid used after whole true → HasDecided t lanes old start (kept ++ lid ∷ []) (suc lid) after
  kept_more in_use x forest at_start =
      let was = so_far forest at_start in
      let stays : CanStay t lanes (λ on_lane c d. DependsToEscapeIn t lanes forest on_lane c d) old kept lid
      = joins_stays t lanes old forest kept used was.1 lid (subst (λ k. CanJoin t k old used lid) few (x.stays refl)) in (
        one_kept_more t lanes (λ on_lane c d. DependsToEscapeIn t lanes forest on_lane c d) old kept lid in_use stays
            (passes_unused t lanes (λ on_lane c d. DependsToEscapeIn t lanes forest on_lane c d) old kept n lid most none was.0),
        joined_lists t lanes old forest kept used was.1 lid after (λ on_lane below. x.joined refl on_lane (omega (arith, below, few))),
      )

  pub kept_no_more : IsKeptOrNot t old lid used after whole false → HasDecided t lanes old start kept (suc lid) after
  kept_no_more x forest at_start =
      let was = so_far forest at_start in (
        not_kept t lanes (λ on_lane c d. DependsToEscapeIn t lanes forest on_lane c d) old kept lid
            (λ stays. x.refused refl (subst (λ k. CanJoin t k old used lid) (sym few) (stays_joins t lanes old forest kept used was.1 lid stays)))
            (passes_unused t lanes (λ on_lane c d. DependsToEscapeIn t lanes forest on_lane c d) old kept n lid most none was.0),
        (λ on_lane below c d. subst (λ xs. (IsListed xs c d → InUseWithKept t lanes old forest kept on_lane c d) × (InUseWithKept t lanes old forest kept on_lane c d → IsListed xs c d)) (sym (x.same refl on_lane))
            (was.1 on_lane below c d)),
      )

-- past the last lane nothing is listed
none_listed : (used : List Dependencies) (lane : ℕ) → length used ≤ lane → listed_in used lane ≡ []
none_listed [] zero h = refl
none_listed [] (suc lane) h = refl
none_listed (x ∷ xs) zero h = absurd (omega (arith, h))
none_listed (x ∷ xs) (suc lane) h = none_listed xs lane (omega (arith, h))

-- a try lengthens no list by more than one for each switch
pub tried_short : (t : Topology) (old : Plan) (lid most : ℕ) (used after : List Dependencies) (whole : List (Option ℕ)) (answer : Bool) → IsKeptOrNot t old lid used after whole answer → AreShort most used →
    AreShort (most + length t.switches) after
tried_short t old lid most used after whole false x short on_lane = omega (arith, short on_lane, ap (λ (zs : List Dep). length zs) (x.same refl on_lane))
tried_short t old lid most used after whole true x short on_lane = elim (cases_lt on_lane (length used)) [
  | inl below ↦ omega (arith, (x.joined refl on_lane below).few, short on_lane)
  | inr past ↦ omega (arith, ap (λ (zs : List Dep). length zs) (none_listed after on_lane (omega (arith, past, same_length used after x.channels))))
]

-- one more is kept, which is greater
pub still_below : (kept : List ℕ) (n lid : ℕ) → n ≤ lid → ((x : ℕ) → Contains kept x → x < n) → (x : ℕ) → Contains (kept ++ lid ∷ []) x → x < suc lid
still_below kept n lid most below x c = elim (Contains-append_cases kept (lid ∷ []) x c) [
  | inl k ↦ omega (arith, below x k, most)
  | inr one ↦ (elim (first_or_later lid x [] one) [ inl same ↦ omega (arith, same) | inr none ↦ absurd (omega (arith, none.1)) ])
]

pub decided_begins : (t : Topology) (lanes : ℕ) (old : Plan) (start : List Dependencies) → HasDecided t lanes old start [] 0 start
decided_begins t lanes old start forest at_start = (
  none_kept t lanes (λ on_lane c d. DependsToEscapeIn t lanes forest on_lane c d) old,
  (λ on_lane below c d. (
    (λ l. inl ((at_start on_lane below c d).0 l)),
    (λ x. elim x [ inl a ↦ (at_start on_lane below c d).1 a | inr k ↦ absurd (omega (arith, k.1.1)) ]),
  )),
)

-- ---- entries and weights

module _ (t : Topology) (old : Plan) (kept : List ℕ) (lid : ℕ) (e new : Entries) (w heavy : WeightTable) (tree : List (Option ℕ)) (place : Place) (good : IsWellFormed t) (at : place_of t lid ≡ Some place)
    (other : (x : ℕ) → Contains kept x → x ≢ lid) (routes : IsRouteTree t old.tables lid tree) (taken : AreTaken t old kept e w) (entries : HasEntriesOf t lid tree e new) (weighs : WeighsMore t new lid w heavy) where
  old_or_it : (x : ℕ) → Contains (kept ++ lid ∷ []) x → Contains kept x ⊎ (x ≡ lid)
  old_or_it x c = elim (Contains-append_cases kept (lid ∷ []) x c) [
    | inl k ↦ inl k
    | inr one ↦ (elim (first_or_later lid x [] one) [ inl same ↦ inr (sym same) | inr none ↦ absurd (omega (arith, none.1)) ])
  ]

  of_kept : (s x : ℕ) → Contains (kept ++ lid ∷ []) x → IsConnectedTo t s x → entry new s x ≡ entry old.tables s x
  of_kept s x c connected = elim (old_or_it x c) [
    | inl k ↦ entries.others s x (other x k) ∙ taken.of_kept s x k connected
    | inr same ↦
        (let P : ℕ → Type 0 = λ z. IsConnectedTo t s z → entry new s z ≡ entry old.tables s z in
        subst P (sym same) (λ joined. same_entry t old.tables lid tree good routes place at new s (entries.fixed.own lid place at)
        (λ differ. entries.ports s place.switch.0 (record { place = place; in_use = at; at_switch = refl; connected = joined_at joined; other = differ })) joined (same_or_other s place.switch.0)) connected)
  ]
    where
      joined_at : (c : IsConnectedTo t s lid) → AreConnected t s place.switch.0
      joined_at c = subst (λ (p : Place). AreConnected t s p.switch.0) (same_Some c.0 place (sym c.1 ∙ at)) c.2

  weights : (c : ℕ) → c < length t.channels → weight_of heavy c ≡ weight_after t new (kept ++ lid ∷ []) c
  weights c low = omega (
    arith,
    weighs.weights c low,
    taken.weights c low,
    sum_members (λ x. terminals_carried t e x c) (λ x. terminals_carried t new x c) kept (λ x k. carried_same t e new x c (λ s. sym (entries.others s x (other x k)))),
    sum_by-append (λ x. terminals_carried t new x c) kept (lid ∷ []),
    sum_by-cons (λ x. terminals_carried t new x c) lid [],
  )

  pub taken_more : AreTaken t old (kept ++ lid ∷ []) new heavy
  taken_more = record {
    fixed = entries.fixed;
    of_kept = of_kept;
    made_for = weighs.made_for;
    raised = omega (arith, weighs.raised, taken.raised, length-append kept (lid ∷ []));
    weights = weights;
  }

-- no LID is kept yet
pub taken_begins : (t : Topology) (old : Plan) (e : Entries) → HasFixedEntries t e → AreTaken t old [] e (start_weights t)
taken_begins t old e fixed = record {
  fixed = fixed;
  of_kept = λ s lid k c. absurd (omega (arith, k.1));
  made_for = record { channels = length-replicate (length t.channels) (start_weight t); switches = refl };
  raised = refl;
  weights = λ c low. omega (arith, get_or-replicate (length t.channels) c (start_weight t) 0 low);
}

-- ---- all LIDs

pub all_decided : (t : Topology) (lanes : ℕ) (old : Plan) (start : List Dependencies) (kept : List ℕ) (n : ℕ) (e : Entries) (w : WeightTable) (used : List Dependencies) → IsStrictlyIncreasing (lids_of t) →
    ((lid : ℕ) → Contains (lids_of t) lid → lid < n) → HasDecided t lanes old start kept n used → AreTaken t old kept e w → KeepsOldLids t lanes old kept start e w used
all_decided t lanes old start kept n e w used rise all decided taken forest laid at_start =
    let was = decided forest at_start in
    let first = first_laid t kept rise was.0.ascending was.0.in_use in (
      all_looked_at t lanes (λ on_lane c d. DependsToEscapeIn t lanes forest on_lane c d) old kept n all was.0,
      record {
        trees = λ lid place h. absurd (omega (arith, h));
        fixed = taken.fixed;
        of_kept = λ s lid k c. taken.of_kept s lid k c;
        of_laid = λ s lid to h. absurd (omega (arith, h));
        made_for = taken.made_for;
        raised = taken.raised ∙ ap (λ (xs : List ℕ). length xs) (sym first);
        weights = λ c low. taken.weights c low ∙ ap (λ xs. weight_after t e xs c) (sym first);
        listed = λ on_lane below c d.
            let same = at_first t lanes (Some old) kept forest laid on_lane c d in (
              (λ l. same.0 ((was.1 on_lane below c d).0 l)),
              (λ u. (was.1 on_lane below c d).1 (same.1 u)),
            );
      },
    )

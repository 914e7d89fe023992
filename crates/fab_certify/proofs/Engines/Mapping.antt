-- The engines' maps are set switch by switch, and level by level.
use Rattle.std.proofs.Common.{◌≡◌, ◌≢◌, ℕ, ◌+◌, ◌*◌, ◌<◌, ◌≤◌, length, replicate, refl, sym, ◌∙◌, ap, inl, inr, arith, length-set}
use Rattle.std.specs.Prelude.{◌==◌, ◌&&◌, nat_lt, if◌then◌else◌, slice_index_or}
use Rattle.std.proofs.lemmas.Bool.{cases_lt, cases_eq, eq-eqb, ne_eqb, and_from, and_left, and_right, cond-true, cond-false, lt-ltb, le-ltb}
use Rattle.std.proofs.lemmas.List.{get_or-replicate, get_or_past, length-replicate}
use Rattle.std.proofs.lemmas.List.Elements.{All-set, All-nil}
use Rattle.fab_model.specs.Topology.{Topology, lids_of}
use Rattle.fab_model.specs.WellFormed.{IsFabric}
use Rattle.fab_tables.specs.declared.verdict.VirtualChannel.{VirtualChannel}
use Rattle.fab_tables.specs.Entries.{index_of, cell}
use Rattle.fab_tables.specs.LaneTables.{LaneTables, AreLaneTables, lane_of_level, no_lanes, lane, with_lane}
use Rattle.fab_tables.specs.Fit.{PairFits}
use Rattle.fab_tables.specs.Certified.{number_of}
use Rattle.fab_tables.proofs.Joined.Ascending.{lids_are}
use Rattle.fab_tables.proofs.Rows.Cells.{no_level}
use Rattle.fab_tables.proofs.Rows.LaneSets.{new_kept}
use Rattle.fab_tables.proofs.Rows.LanesChange.{one_lane_changes}
use Rattle.fab_certify.specs.EnginePlans.{AreEngineLanes}
use Rattle.fab_certify.specs.Mapping.{lane_so_far, IsMapping}

-- in a list of one element each place has that element
pub all_alike : {A : Type 0} (n i : ℕ) (x : A) → slice_index_or (replicate n x) i x ≡ x
all_alike n i x = elim (cases_lt i n) [ inl low ↦ get_or-replicate n i x x low | inr past ↦ get_or_past (replicate n x) i x (omega (arith, length-replicate n x)) ]

-- ---- the lane of a level so far

-- no level is below 0
none_below : (of_level : ℕ) → lane_of_level 0 of_level ≡ 15
none_below of_level = cond-false (nat_lt of_level 0) of_level 15 (le-ltb of_level 0 (omega arith))

before_switch : (count switch below s of_level : ℕ) → s < switch → lane_so_far count switch below s of_level ≡ lane_of_level count of_level
before_switch count switch below s of_level less =
    cond-true (nat_lt s switch) (lane_of_level count of_level) (if s == switch then lane_of_level below of_level else 15) (lt-ltb s switch less)

at_switch : (count switch below s of_level : ℕ) → s ≡ switch → lane_so_far count switch below s of_level ≡ lane_of_level below of_level
at_switch count switch below s of_level same =
    cond-false (nat_lt s switch) (lane_of_level count of_level) (if s == switch then lane_of_level below of_level else 15) (le-ltb s switch (omega (arith, same)))
    ∙ cond-true (s == switch) (lane_of_level below of_level) 15 (eq-eqb s switch same)

after_switch : (count switch below s of_level : ℕ) → switch < s → lane_so_far count switch below s of_level ≡ 15
after_switch count switch below s of_level more =
    cond-false (nat_lt s switch) (lane_of_level count of_level) (if s == switch then lane_of_level below of_level else 15) (le-ltb s switch (omega arith))
    ∙ cond-false (s == switch) (lane_of_level below of_level) 15 (ne_eqb s switch (λ same. omega (arith, same, more)))

-- at another switch the levels so far make no difference
elsewhere : (count switch a b s of_level : ℕ) → s ≢ switch → lane_so_far count switch a s of_level ≡ lane_so_far count switch b s of_level
elsewhere count switch a b s of_level other = elim (cases_lt s switch) [
  | inl less ↦ before_switch count switch a s of_level less ∙ sym (before_switch count switch b s of_level less)
  | inr not ↦ (let more : switch < s = omega (arith, not, other) in after_switch count switch a s of_level more ∙ sym (after_switch count switch b s of_level more))
]

-- with all its levels a switch has its map
next_switch : (count switch s of_level : ℕ) → lane_so_far count switch count s of_level ≡ lane_so_far count (switch + 1) 0 s of_level
next_switch count switch s of_level = elim (cases_lt s switch) [
  | inl less ↦ before_switch count switch count s of_level less ∙ sym (before_switch count (switch + 1) 0 s of_level (omega arith))
  | inr not ↦ elim (cases_eq s switch) [
    | inl same ↦ at_switch count switch count s of_level same ∙ sym (before_switch count (switch + 1) 0 s of_level (omega (arith, same)))
    | inr other ↦ after_switch count switch count s of_level (omega (arith, not, other)) ∙ sym (elim (cases_eq s (switch + 1)) [
      | inl next ↦ at_switch count (switch + 1) 0 s of_level next ∙ none_below of_level
      | inr later ↦ after_switch count (switch + 1) 0 s of_level (omega (arith, not, other, later))
    ])
  ]
]

-- ---- nothing is set at first

module _ (t : Topology) (fabric : IsFabric t) (count : ℕ) (few : (0 < count) × (count ≤ 15)) where
  abbrev first : LaneTables
  first = no_lanes count (length t.switches) (length t.channels) (lids_of t)

  none_at_first : (s of_level : ℕ) → lane_so_far count 0 0 s of_level ≡ 15
  none_at_first s of_level = elim (cases_eq s 0) [
    | inl same ↦ at_switch count 0 0 s of_level same ∙ none_below of_level
    | inr other ↦ after_switch count 0 0 s of_level (omega (arith, other))
  ]

  pub mapping_begins : IsMapping t count first 0 0
  mapping_begins = record {
    fits = record { whole = new_kept count (length t.switches) (length t.channels) (lids_of t) few (lids_are t fabric); switches = refl; channels = refl; in_use = refl; pairs = All-nil (PairFits t) };
    lane_count = refl;
    no_pair = refl;
    no_level = λ s lid. no_level count (length t.switches) (length t.channels) (lids_of t) s (index_of lid (lids_of t));
    no_number = no_number;
    general = λ s of_level low few_levels. all_alike (length t.switches * 16) (s * 16 + of_level) 15 ∙ sym (none_at_first s of_level);
  }
    where
      no_number : (v : VirtualChannel) → number_of first v ≡ 0
      no_number v = elim (cases_lt v.lane 15) [
        | inl low ↦ cond-true (nat_lt v.lane 15) (slice_index_or first.numbers (cell 15 v.channel.0 v.lane) 0) 0 (lt-ltb v.lane 15 low) ∙ all_alike (length t.channels * 15) (cell 15 v.channel.0 v.lane) 0
        | inr high ↦ cond-false (nat_lt v.lane 15) (slice_index_or first.numbers (cell 15 v.channel.0 v.lane) 0) 0 (le-ltb v.lane 15 high)
      ]

-- ---- a lane is set

lane_kept : (l : LaneTables) (s of_level new : ℕ) → AreLaneTables l → new < 16 → AreLaneTables (with_lane l s of_level new)
lane_kept l s of_level new are low = record {
  count = are.count;
  ascending = are.ascending;
  all_levels = are.all_levels;
  low_levels = are.low_levels;
  all_general = length-set l.general (s * 16 + of_level) new ∙ are.all_general;
  lanes = All-set (λ n. n < 16) l.general (s * 16 + of_level) new low are.lanes;
  in_order = are.in_order;
  few_pairs = are.few_pairs;
  pairs = are.pairs;
  all_numbers = are.all_numbers;
  low_numbers = are.low_numbers;
}

module _ (t : Topology) (count : ℕ) (l : LaneTables) (switch below : ℕ) (so_far : IsMapping t count l switch below) where
  pub one_more_level : switch < length t.switches → below < 15 → IsMapping t count (with_lane l switch below below) switch (below + 1)
  one_more_level low few = record {
    fits = record {
      whole = lane_kept l switch below below so_far.fits.whole (omega arith);
      switches = so_far.fits.switches;
      channels = so_far.fits.channels;
      in_use = so_far.fits.in_use;
      pairs = so_far.fits.pairs;
    };
    lane_count = so_far.lane_count;
    no_pair = so_far.no_pair;
    no_level = so_far.no_level;
    no_number = so_far.no_number;
    general = λ s of_level there level_low. changed s of_level level_low ∙ now_at s of_level there level_low;
  }
    where
      changed : (s of_level : ℕ) → of_level < 16 → lane (with_lane l switch below below) s of_level ≡ (if (s == switch) && (of_level == below) then below else lane l s of_level)
      changed s of_level level_low = one_lane_changes l switch below below s of_level so_far.fits.whole (omega (arith, low, so_far.fits.switches)) (omega arith) level_low

      by_other : (x : ℕ) → x ≢ below → nat_lt x below ≡ nat_lt x (below + 1)
      by_other x other = elim (cases_lt x below) [
        | inl less ↦ lt-ltb x below less ∙ sym (lt-ltb x (below + 1) (omega arith))
        | inr not ↦ le-ltb x below not ∙ sym (le-ltb x (below + 1) (omega (arith, not, other)))
      ]

      now_at : (s of_level : ℕ) → s < l.switches → of_level < 16 → (if (s == switch) && (of_level == below) then below else lane l s of_level) ≡ lane_so_far count switch (below + 1) s of_level
      now_at s of_level there level_low = elim (cases_eq s switch) [
        | inr other ↦
            cond-false ((s == switch) && (of_level == below)) below (lane l s of_level) (and_left (s == switch) (of_level == below) (ne_eqb s switch other))
            ∙ so_far.general s of_level there level_low ∙ elsewhere count switch below (below + 1) s of_level other
        | inl same ↦ elim (cases_eq of_level below) [
          | inl here ↦
              cond-true ((s == switch) && (of_level == below)) below (lane l s of_level) (and_from (s == switch) (of_level == below) (eq-eqb s switch same) (eq-eqb of_level below here))
              ∙ sym (at_switch count switch (below + 1) s of_level same ∙ cond-true (nat_lt of_level (below + 1)) of_level 15 (lt-ltb of_level (below + 1) (omega (arith, here))) ∙ here)
          | inr another ↦
              cond-false ((s == switch) && (of_level == below)) below (lane l s of_level) (and_right (s == switch) (of_level == below) (ne_eqb of_level below another))
              ∙ so_far.general s of_level there level_low ∙ at_switch count switch below s of_level same
              ∙ ap (λ b. if b then of_level else 15) (by_other of_level another) ∙ sym (at_switch count switch (below + 1) s of_level same)
        ]
      ]

  pub one_more_switch : below ≡ count → IsMapping t count l (switch + 1) 0
  one_more_switch all = record {
    fits = so_far.fits;
    lane_count = so_far.lane_count;
    no_pair = so_far.no_pair;
    no_level = so_far.no_level;
    no_number = so_far.no_number;
    general = λ s of_level there low. so_far.general s of_level there low ∙ ap (λ n. lane_so_far count switch n s of_level) all ∙ next_switch count switch s of_level;
  }

pub all_mapped : (t : Topology) (count : ℕ) (l : LaneTables) (switch : ℕ) → IsMapping t count l switch 0 → switch ≡ length t.switches → AreEngineLanes t count l
all_mapped t count l switch so_far all = record {
  fits = so_far.fits;
  lane_count = so_far.lane_count;
  maps = record { general = general; no_pair = so_far.no_pair };
  no_level = so_far.no_level;
  no_number = so_far.no_number;
}
  where
    general : (s of_level : ℕ) → s < l.switches → of_level < 16 → lane l s of_level ≡ lane_of_level l.count of_level
    general s of_level low few =
        so_far.general s of_level low few ∙ before_switch count switch 0 s of_level (omega (arith, low, so_far.fits.switches, all)) ∙ ap (λ n. lane_of_level n of_level) (sym so_far.lane_count)

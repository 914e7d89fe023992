-- The levels of the dependencies, as numbers, answer a change; or their first ring does.
use Rattle.std.proofs.Common.{◌≡◌, ℕ, ◌+◌, ◌*◌, ◌<◌, ◌≤◌, Bool, true, false, List, length, refl, sym, ◌∙◌, ap, subst, inl, inr, suc, arith}
use Rattle.std.specs.Prelude.{nat_lt, if◌then◌else◌, slice_index_or}
use Rattle.std.proofs.lemmas.Bool.{cases_lt, cond-true, cond-false, lt-ltb, le-ltb}
use Rattle.std.proofs.lemmas.List.{get_or_past, get_or_default}
use Rattle.fab_graph.specs.Walks.{IsEdge}
use Rattle.fab_graph.specs.Rings.{IsFirstRing}
use Rattle.fab_graph.proofs.Same.{same_first_ring}
use Rattle.fab_model.specs.Topology.{Topology, lids_of}
use Rattle.fab_tables.specs.declared.verdict.VirtualChannel.{VirtualChannel}
use Rattle.fab_tables.specs.Entries.{entry, cell}
use Rattle.fab_tables.specs.LaneTables.{LaneTables, AreLaneTables, no_lanes}
use Rattle.fab_tables.specs.Dependencies.{node_of}
use Rattle.fab_tables.specs.Certified.{number_of}
use Rattle.fab_tables.proofs.Paths.FallingRoutes.{channel_found}
use Rattle.fab_tables.proofs.Paths.RouteTurns.{along_channel}
use Rattle.fab_tables.proofs.Verdicts.CertifiedLaws.{contains_of}
use Rattle.fab_rings.specs.EdgeList.{AreNodeLevels}
use Rattle.fab_certify.specs.Collected.{Collected}
use Rattle.fab_certify.specs.Numbers.{number_given, HasNumbers}
use Rattle.fab_certify.specs.Numbered.{IsNumberedBy}
use Rattle.fab_certify.proofs.Collected.CollectingHops.{node_low}
use Rattle.fab_certify.proofs.Numbered.NumberedPlan.{one_node}
use Rattle.fab_certify.proofs.Engines.Mapping.{mapping_begins}
use Rattle.fab_transit.specs.Changing.{Changing, IsChanging}
use Rattle.fab_transit.proofs.Bounds.{bound_low, level_small}
use Rattle.fab_transit.specs.MixedWalks.{Change, plan_of, bound, MayTake, IsOnMixedWalk, DependsMixed, DependsMixedByNode}
use Rattle.fab_transit.specs.Answers.{bare_lanes}
use Rattle.fab_transit.specs.Walking.{IsTakenOn, AreDependencies}
use Rattle.fab_transit.specs.declared.found.Taken.{Taken}
use Rattle.fab_transit.specs.Finding.{IsTakenIn}
use Rattle.fab_transit.proofs.WalkSteps.{on_walk, taken_on_walk}

pub mixed_ring : (t : Topology) (m : Change) (c : Collected) (edges : List (ℕ × ℕ)) (ring : List ℕ) → AreDependencies t m c → edges ≡ c.pairs → IsFirstRing (IsEdge edges) ring →
    IsFirstRing (DependsMixedByNode t m) ring
mixed_ring t m c edges ring are same first =
    same_first_ring (IsEdge c.pairs) (DependsMixedByNode t m) are.pairs ring (subst (λ ps. IsFirstRing (IsEdge ps) ring) same first)

module _ (t : Topology) (m : Change) where
  -- the virtual channels of mixed walks are those of the fabric, on good lanes
  lane_low : (v : VirtualChannel) → IsOnMixedWalk t m v → v.lane < bound m
  lane_low v on = let x = taken_on_walk t m v on in x.2.2.good

  channel_low : (v : VirtualChannel) → IsOnMixedWalk t m v → v.channel.0 < length t.channels
  channel_low v on =
      let x = taken_on_walk t m v on in
      let s : ℕ = x.2.0.at in
      let may : MayTake t m x.0 x.1 x.2.0 v = x.2.2 in
      (channel_found t s (entry (plan_of m may.enters.0).tables s x.0) v.channel.0 (along_channel t x.0 s (entry (plan_of m may.enters.0).tables s x.0) v.channel.0 may.enters.1)).1

  first_on : (v w : VirtualChannel) → DependsMixed t m v w → IsOnMixedWalk t m v
  first_on v w d = (d.0, d.1, d.2, d.3, d.4, d.5, contains_of d.3 d.6.0 v d.6.1)

  second_on : (v w : VirtualChannel) → DependsMixed t m v w → IsOnMixedWalk t m w
  second_on v w d = (d.0, d.1, d.2, d.3, d.4, d.5, contains_of d.3 (suc d.6.0) w d.6.2)

module _ (t : Topology) (m : Change) (few : bound m ≤ 15) (new : LaneTables) (c : Collected) (levels : List ℕ) (are : AreDependencies t m c)
    (found : AreNodeLevels (record { nodes = length t.channels * bound m; edges = c.pairs }) levels) (set : HasNumbers c levels (bare_lanes t m) new) where
  abbrev node : VirtualChannel → ℕ
  node v = node_of (bound m) v

  -- the level of a virtual channel on a good lane is that of its number, and 1 otherwise
  abbrev level : VirtualChannel → ℕ
  level v = if nat_lt v.lane (bound m) then slice_index_or levels (node v) 1 else 1

  level_there : (v : VirtualChannel) → v.lane < bound m → level v ≡ slice_index_or levels (node v) 1
  level_there v low = cond-true (nat_lt v.lane (bound m)) (slice_index_or levels (node v) 1) 1 (lt-ltb v.lane (bound m) low)

  positive : (v : VirtualChannel) → 0 < level v
  positive v = elim (cases_lt v.lane (bound m)) [
    | inl low ↦ omega (arith, level_there v low, found.levels.positive (node v))
    | inr high ↦ omega (arith, cond-false (nat_lt v.lane (bound m)) (slice_index_or levels (node v) 1) 1 (le-ltb v.lane (bound m) high))
  ]

  above : (v w : VirtualChannel) → DependsMixed t m v w → level v < level w
  above v w d =
      omega (arith, level_there v (lane_low t m v (first_on t m v w d)), level_there w (lane_low t m w (second_on t m v w d)), found.levels.above (node v) (node w) ((are.pairs (node v) (node w)).1 (v, w, d, refl, refl)))

  attained : (w : VirtualChannel) → 1 < level w → (v : VirtualChannel) × DependsMixed t m v w × (level w ≡ level v + 1)
  attained w more = elim (cases_lt w.lane (bound m)) [
    | inr high ↦ absurd (omega (arith, cond-false (nat_lt w.lane (bound m)) (slice_index_or levels (node w) 1) 1 (le-ltb w.lane (bound m) high)))
    | inl low ↦
        (let before : (n : ℕ) × IsEdge c.pairs n (node w) × (slice_index_or levels (node w) 1 ≡ slice_index_or levels n 1 + 1) = found.levels.attained (node w) (omega (arith, level_there w low, more)) in
        let d : DependsMixedByNode t m before.0 (node w) = (are.pairs before.0 (node w)).0 before.1 in
        let same : d.1 ≡ w = one_node (bound m) d.1 w (lane_low t m d.1 (second_on t m d.0 d.1 d.2)) low d.4 in
        let first : level d.0 ≡ slice_index_or levels before.0 1 = level_there d.0 (lane_low t m d.0 (first_on t m d.0 d.1 d.2)) ∙ ap (λ n. slice_index_or levels n 1) d.3 in
        (d.0, subst (λ y. DependsMixed t m d.0 y) same d.2, omega (arith, level_there w low, before.2, first)))
  ]

  below : (v : VirtualChannel) → v.channel.0 < length t.channels → v.lane < bound m → node v < length levels
  below v there low = omega (arith, node_low (length t.channels) (bound m) v.channel.0 v.lane there low, found.each)

  -- the number of one that is used
  numbers : (v : VirtualChannel) → IsOnMixedWalk t m v → number_of new v ≡ level v
  numbers v on =
      let low : v.lane < bound m = lane_low t m v on in
      let there : v.channel.0 < length t.channels = channel_low t m v on in
      set.numbers v there (omega (arith, low, few))
      ∙ cond-true (nat_lt v.lane (bound m)) (if slice_index_or c.used (node v) false then slice_index_or levels (node v) 0 else 0) 0 (lt-ltb v.lane (bound m) low)
      ∙ cond-true (slice_index_or c.used (node v) false) (slice_index_or levels (node v) 0) 0 (are.used v on)
      ∙ get_or_default levels (node v) 0 1 (below v there low)
      ∙ sym (level_there v low)

  -- and of one that isn't
  none_given : (v : VirtualChannel) → ¬ IsOnMixedWalk t m v → number_given (bound m) c levels v ≡ 0
  none_given v un = elim (cases_lt v.lane (bound m)) [
    | inr high ↦ cond-false (nat_lt v.lane (bound m)) (if slice_index_or c.used (node v) false then slice_index_or levels (node v) 0 else 0) 0 (le-ltb v.lane (bound m) high)
    | inl low ↦
        cond-true (nat_lt v.lane (bound m)) (if slice_index_or c.used (node v) false then slice_index_or levels (node v) 0 else 0) 0 (lt-ltb v.lane (bound m) low) ∙ by_mark low (slice_index_or c.used (node v) false) refl
  ]
    where
      by_mark : v.lane < bound m → (b : Bool) → slice_index_or c.used (node v) false ≡ b → (if b then slice_index_or levels (node v) 0 else 0) ≡ 0
      by_mark low false is = refl
      by_mark low true is =
          let w : (w : VirtualChannel) × IsOnMixedWalk t m w × (node_of (bound m) w ≡ node v) = are.used_by (node v) is in
          absurd (un (subst (λ y. IsOnMixedWalk t m y) (one_node (bound m) w.0 v (lane_low t m w.0 w.1) low w.2) w.1))

  no_number_past : (v : VirtualChannel) → length t.channels ≤ v.channel.0 → v.lane < 15 → number_of new v ≡ 0
  no_number_past v past low =
      cond-true (nat_lt v.lane 15) (slice_index_or new.numbers (cell 15 v.channel.0 v.lane) 0) 0 (lt-ltb v.lane 15 low)
      ∙ get_or_past new.numbers (cell 15 v.channel.0 v.lane) 0 (omega (arith, set.whole.all_numbers, channels_kept, past))
    where
      channels_kept : new.channels ≡ length t.channels
      channels_kept = ap (λ (l : LaneTables). l.channels) set.same

  others : (v : VirtualChannel) → ¬ IsOnMixedWalk t m v → number_of new v ≡ 0
  others v un = elim (cases_lt v.lane 15) [
    | inr high ↦ cond-false (nat_lt v.lane 15) (slice_index_or new.numbers (cell 15 v.channel.0 v.lane) 0) 0 (le-ltb v.lane 15 high)
    | inl low ↦ elim (cases_lt v.channel.0 (length t.channels)) [ inl there ↦ set.numbers v there low ∙ none_given v un | inr past ↦ no_number_past v past low ]
  ]

  pub is_numbered : IsNumberedBy (IsOnMixedWalk t m) (DependsMixed t m) (bare_lanes t m) new
  is_numbered = record { whole = set.whole; same = set.same; level = level; levels = record { positive = positive; above = above; attained = attained }; numbers = numbers; others = others }

-- lanes without levels, maps and numbers are whole
pub bare_whole : (g : Changing) → IsChanging g → AreLaneTables (bare_lanes g.fabric g.change)
bare_whole g is = (mapping_begins g.fabric is.fabric (bound g.change) (bound_low g.fabric g.change is.before is.after)).fits.whole

-- what packets take is within the ranges of the fabric
pub taken_in : (g : Changing) → IsChanging g → (lid : ℕ) (x : Taken) → IsTakenOn g.fabric g.change lid x → IsTakenIn (length g.fabric.channels) (bound g.change) x
taken_in g is lid x on =
    let walked : IsOnMixedWalk g.fabric g.change x.hop = on_walk g.fabric g.change lid x.level on.0 x.hop on.1 on.2 in
    record {
      channel = channel_low g.fabric g.change x.hop walked;
      lane = lane_low g.fabric g.change x.hop walked;
      level = level_small g is on.1.2.level.0 on.1.0.switch.0 lid x.level on.1.2.level.1;
    }

-- lanes made for the change are those
pub bare_there : (g : Changing) (t : Topology) (count : ℕ) (l : LaneTables) → t ≡ g.fabric → count ≡ bound g.change → l ≡ no_lanes count (length t.switches) (length t.channels) (lids_of t) →
    l ≡ bare_lanes g.fabric g.change
bare_there g t count l fabric lanes is =
    is ∙ ap (λ n. no_lanes n (length t.switches) (length t.channels) (lids_of t)) lanes
    ∙ ap (λ (x : Topology). no_lanes (bound g.change) (length x.switches) (length x.channels) (lids_of x)) fabric

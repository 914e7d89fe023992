-- The levels of the joint dependencies, as numbers, answer a plan; or their first ring does.
use Rattle.std.proofs.Common.{◌≡◌, ℕ, ◌+◌, ◌*◌, ◌<◌, ◌≤◌, Bool, true, false, List, length, refl, sym, ◌∙◌, ap, subst, inl, inr, arith}
use Rattle.std.specs.Prelude.{nat_lt, if◌then◌else◌, slice_index_or}
use Rattle.std.proofs.lemmas.Bool.{cases_lt, cond-true, cond-false, lt-ltb, le-ltb}
use Rattle.std.proofs.lemmas.List.{get_or_past, get_or_default}
use Rattle.fab_graph.specs.Walks.{IsEdge}
use Rattle.fab_graph.specs.Rings.{IsFirstRing}
use Rattle.fab_graph.proofs.Same.{same_first_ring}
use Rattle.fab_model.specs.Topology.{Topology}
use Rattle.fab_tables.specs.declared.verdict.VirtualChannel.{VirtualChannel}
use Rattle.fab_tables.specs.Entries.{Entries, cell}
use Rattle.fab_tables.specs.LaneTables.{LaneTables}
use Rattle.fab_tables.specs.Dependencies.{node_of}
use Rattle.fab_tables.specs.Certified.{number_of}
use Rattle.fab_rings.specs.EdgeList.{AreNodeLevels}
use Rattle.fab_certify.specs.Collected.{Collected}
use Rattle.fab_certify.specs.Numbers.{number_given, HasNumbers}
use Rattle.fab_certify.specs.Numbered.{IsNumberedBy, IsSound}
use Rattle.fab_certify.proofs.Collected.CollectingHops.{node_low}
use Rattle.fab_certify.proofs.Numbered.NumberedPlan.{one_node}
use Rattle.fab_replies.specs.Replies.{IsUsedJointly, DependsJointly, DependsJointlyByNode}
use Rattle.fab_replies.specs.Answers.{HasGoodReplies, bare_lanes}
use Rattle.fab_replies.specs.Jointly.{AreJointly}
use Rattle.fab_replies.proofs.SentHops.{lane_sent, first_sent, second_sent, channel_sent}

pub joint_ring : (t : Topology) (e : Entries) (l : LaneTables) (c : Collected) (edges : List (ℕ × ℕ)) (ring : List ℕ) → AreJointly t e l c → edges ≡ c.pairs → IsFirstRing (IsEdge edges) ring →
    IsFirstRing (DependsJointlyByNode t e l) ring
joint_ring t e l c edges ring are same first =
    same_first_ring (IsEdge c.pairs) (DependsJointlyByNode t e l) (λ m n. (are.from_both.pairs m n, are.pairs m n)) ring (subst (λ ps. IsFirstRing (IsEdge ps) ring) same first)

module _ (t : Topology) (e : Entries) (l : LaneTables) (few : l.count ≤ 15) (sound : IsSound t e l) (good : HasGoodReplies t e l) (new : LaneTables) (c : Collected) (levels : List ℕ)
    (are : AreJointly t e l c) (found : AreNodeLevels (record { nodes = length t.channels * l.count; edges = c.pairs }) levels) (set : HasNumbers c levels (bare_lanes t l.count) new) where
  abbrev node : VirtualChannel → ℕ
  node v = node_of l.count v

  -- the level of a virtual channel on a lane below the count is that of its number, and 1 otherwise
  abbrev level : VirtualChannel → ℕ
  level v = if nat_lt v.lane l.count then slice_index_or levels (node v) 1 else 1

  level_there : (v : VirtualChannel) → v.lane < l.count → level v ≡ slice_index_or levels (node v) 1
  level_there v low = cond-true (nat_lt v.lane l.count) (slice_index_or levels (node v) 1) 1 (lt-ltb v.lane l.count low)

  lane_of_first : (v w : VirtualChannel) → DependsJointly t e l v w → v.lane < l.count
  lane_of_first v w d = lane_sent t e l sound good v (first_sent t e l v w d)

  lane_of_second : (v w : VirtualChannel) → DependsJointly t e l v w → w.lane < l.count
  lane_of_second v w d = lane_sent t e l sound good w (second_sent t e l v w d)

  positive : (v : VirtualChannel) → 0 < level v
  positive v = elim (cases_lt v.lane l.count) [
    | inl low ↦ omega (arith, level_there v low, found.levels.positive (node v))
    | inr high ↦ omega (arith, cond-false (nat_lt v.lane l.count) (slice_index_or levels (node v) 1) 1 (le-ltb v.lane l.count high))
  ]

  above : (v w : VirtualChannel) → DependsJointly t e l v w → level v < level w
  above v w d =
      omega (arith, level_there v (lane_of_first v w d), level_there w (lane_of_second v w d), found.levels.above (node v) (node w) (are.pairs (node v) (node w) (v, w, d, refl, refl)))

  attained : (w : VirtualChannel) → 1 < level w → (v : VirtualChannel) × DependsJointly t e l v w × (level w ≡ level v + 1)
  attained w more = elim (cases_lt w.lane l.count) [
    | inr high ↦ absurd (omega (arith, cond-false (nat_lt w.lane l.count) (slice_index_or levels (node w) 1) 1 (le-ltb w.lane l.count high), more))
    | inl low ↦
        (let before : (n : ℕ) × IsEdge c.pairs n (node w) × (slice_index_or levels (node w) 1 ≡ slice_index_or levels n 1 + 1) = found.levels.attained (node w) (omega (arith, level_there w low, more)) in
        let d : DependsJointlyByNode t e l before.0 (node w) = are.from_both.pairs before.0 (node w) before.1 in
        let same : d.1 ≡ w = one_node l.count d.1 w (lane_of_second d.0 d.1 d.2) low d.4 in
        let first : level d.0 ≡ slice_index_or levels before.0 1 = level_there d.0 (lane_of_first d.0 d.1 d.2) ∙ ap (λ n. slice_index_or levels n 1) d.3 in
        (d.0, subst (λ y. DependsJointly t e l d.0 y) same d.2, omega (arith, level_there w low, before.2, first)))
  ]

  below : (v : VirtualChannel) → v.channel.0 < length t.channels → v.lane < l.count → node v < length levels
  below v there low = omega (arith, node_low (length t.channels) l.count v.channel.0 v.lane there low, found.each)

  -- the number of one that is used
  numbers : (v : VirtualChannel) → IsUsedJointly t e l v → number_of new v ≡ level v
  numbers v on =
      let low : v.lane < l.count = lane_sent t e l sound good v on in
      let there : v.channel.0 < length t.channels = channel_sent t e l v on in
      set.numbers v there (omega (arith, low, few))
      ∙ cond-true (nat_lt v.lane l.count) (if slice_index_or c.used (node v) false then slice_index_or levels (node v) 0 else 0) 0 (lt-ltb v.lane l.count low)
      ∙ cond-true (slice_index_or c.used (node v) false) (slice_index_or levels (node v) 0) 0 (are.used v on)
      ∙ get_or_default levels (node v) 0 1 (below v there low)
      ∙ sym (level_there v low)

  -- and of one that isn't
  none_given : (v : VirtualChannel) → ¬ IsUsedJointly t e l v → number_given l.count c levels v ≡ 0
  none_given v un = elim (cases_lt v.lane l.count) [
    | inr high ↦ cond-false (nat_lt v.lane l.count) (if slice_index_or c.used (node v) false then slice_index_or levels (node v) 0 else 0) 0 (le-ltb v.lane l.count high)
    | inl low ↦
        cond-true (nat_lt v.lane l.count) (if slice_index_or c.used (node v) false then slice_index_or levels (node v) 0 else 0) 0 (lt-ltb v.lane l.count low) ∙ by_mark low (slice_index_or c.used (node v) false) refl
  ]
    where
      by_mark : v.lane < l.count → (b : Bool) → slice_index_or c.used (node v) false ≡ b → (if b then slice_index_or levels (node v) 0 else 0) ≡ 0
      by_mark low false is = refl
      by_mark low true is =
          let w : (w : VirtualChannel) × IsUsedJointly t e l w × (w.lane < l.count) × (node_of l.count w ≡ node v) = are.from_both.used (node v) is in
          absurd (un (subst (λ y. IsUsedJointly t e l y) (one_node l.count w.0 v w.2 low w.3) w.1))

  no_number_past : (v : VirtualChannel) → length t.channels ≤ v.channel.0 → v.lane < 15 → number_of new v ≡ 0
  no_number_past v past low =
      cond-true (nat_lt v.lane 15) (slice_index_or new.numbers (cell 15 v.channel.0 v.lane) 0) 0 (lt-ltb v.lane 15 low)
      ∙ get_or_past new.numbers (cell 15 v.channel.0 v.lane) 0 (omega (arith, set.whole.all_numbers, channels_kept, past))
    where
      channels_kept : new.channels ≡ length t.channels
      channels_kept = ap (λ (k : LaneTables). k.channels) set.same

  others : (v : VirtualChannel) → ¬ IsUsedJointly t e l v → number_of new v ≡ 0
  others v un = elim (cases_lt v.lane 15) [
    | inr high ↦ cond-false (nat_lt v.lane 15) (slice_index_or new.numbers (cell 15 v.channel.0 v.lane) 0) 0 (le-ltb v.lane 15 high)
    | inl low ↦ elim (cases_lt v.channel.0 (length t.channels)) [ inl there ↦ set.numbers v there low ∙ none_given v un | inr past ↦ no_number_past v past low ]
  ]

  pub is_jointly_numbered : IsNumberedBy (IsUsedJointly t e l) (DependsJointly t e l) (bare_lanes t l.count) new
  is_jointly_numbered = record { whole = set.whole; same = set.same; level = level; levels = record { positive = positive; above = above; attained = attained }; numbers = numbers; others = others }

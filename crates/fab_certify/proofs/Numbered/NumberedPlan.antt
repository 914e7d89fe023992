-- The levels of the dependencies, as numbers, make the numbered plan.
use Rattle.std.proofs.Common.{◌≡◌, ℕ, ◌+◌, ◌*◌, ◌/◌, ◌%◌, ◌<◌, ◌≤◌, Bool, true, false, List, length, refl, sym, ◌∙◌, ap, subst, inl, inr, arith}
use Rattle.std.specs.Prelude.{nat_lt, if◌then◌else◌, slice_index_or}
use Rattle.std.proofs.lemmas.Bool.{cases_lt, cond-true, cond-false, lt-ltb, le-ltb}
use Rattle.std.proofs.lemmas.List.{get_or_past, get_or_default}
use Rattle.std.proofs.lemmas.Nat.{div-mul-add, mod-mul-add}
use Rattle.fab_graph.specs.Walks.{IsEdge, SameGraph}
use Rattle.fab_graph.specs.Rings.{IsFirstRing}
use Rattle.fab_graph.proofs.Same.{same_first_ring}
use Rattle.fab_model.specs.Topology.{Topology}
use Rattle.fab_tables.specs.declared.verdict.VirtualChannel.{VirtualChannel}
use Rattle.fab_tables.specs.Entries.{Entries, cell}
use Rattle.fab_tables.specs.LaneTables.{LaneTables}
use Rattle.fab_tables.specs.Fit.{LanesFit}
use Rattle.fab_tables.specs.Dependencies.{IsUsed, Depends, DependsByNode, node_of}
use Rattle.fab_tables.specs.Certified.{number_of}
use Rattle.fab_certify.specs.Collected.{Collected, AreDependencies}
use Rattle.fab_rings.specs.EdgeList.{AreNodeLevels}
use Rattle.fab_certify.specs.Numbers.{number_given, HasNumbers}
use Rattle.fab_certify.specs.Numbered.{IsNumberedBy, IsSound}
use Rattle.fab_certify.proofs.Collected.CollectingHops.{node_low}
use Rattle.fab_certify.proofs.Collected.HopChannels.{used_channel}
use Rattle.fab_certify.proofs.Numbered.Numbering.{first_used, second_used}

-- what is collected is the graph of the dependencies
pub same_dependencies : (t : Topology) (e : Entries) (l : LaneTables) (c : Collected) → AreDependencies t e l c → SameGraph (IsEdge c.pairs) (DependsByNode t e l)
same_dependencies t e l c are m n = (are.from_routes.pairs m n, are.pairs m n)

pub dependency_ring : (t : Topology) (e : Entries) (l : LaneTables) (c : Collected) (edges : List (ℕ × ℕ)) (ring : List ℕ) → AreDependencies t e l c → edges ≡ c.pairs → IsFirstRing (IsEdge edges) ring → IsFirstRing (DependsByNode t e l) ring
dependency_ring t e l c edges ring are same first =
    same_first_ring (IsEdge c.pairs) (DependsByNode t e l) (same_dependencies t e l c are) ring (subst (λ ps. IsFirstRing (IsEdge ps) ring) same first)

-- virtual channels on lanes below the count have numbers of their own
pub one_node : (count : ℕ) (v w : VirtualChannel) → v.lane < count → w.lane < count → node_of count v ≡ node_of count w → v ≡ w
one_node count v w a b same =
    let channels : v.channel.0 ≡ w.channel.0 = sym (div-mul-add v.channel.0 count v.lane a) ∙ ap (λ n. n / count) same ∙ div-mul-add w.channel.0 count w.lane b in
    let lanes : v.lane ≡ w.lane = sym (mod-mul-add v.channel.0 count v.lane a) ∙ ap (λ n. n % count) same ∙ mod-mul-add w.channel.0 count w.lane b in
    ap (λ k. record { channel = record { 0 = k }; lane = v.lane }) channels ∙ ap (λ k. record { channel = w.channel; lane = k }) lanes

module _ (t : Topology) (e : Entries) (l new : LaneTables) (c : Collected) (levels : List ℕ) (fits : LanesFit t l) (sound : IsSound t e l) (are : AreDependencies t e l c) (found : AreNodeLevels (record { nodes = length t.channels * l.count; edges = c.pairs }) levels)
    (set : HasNumbers c levels l new) where
  abbrev node : VirtualChannel → ℕ
  node v = node_of l.count v

  -- the level of a virtual channel on a lane below the count is that of its number, and 1 otherwise
  abbrev level : VirtualChannel → ℕ
  level v = if nat_lt v.lane l.count then slice_index_or levels (node v) 1 else 1

  level_there : (v : VirtualChannel) → v.lane < l.count → level v ≡ slice_index_or levels (node v) 1
  level_there v low = cond-true (nat_lt v.lane l.count) (slice_index_or levels (node v) 1) 1 (lt-ltb v.lane l.count low)

  lane_of_first : (v w : VirtualChannel) → Depends t e l v w → v.lane < l.count
  lane_of_first v w d = sound.lane v (first_used t e l v w d)

  lane_of_second : (v w : VirtualChannel) → Depends t e l v w → w.lane < l.count
  lane_of_second v w d = sound.lane w (second_used t e l v w d)

  positive : (v : VirtualChannel) → 0 < level v
  positive v = elim (cases_lt v.lane l.count) [
    | inl low ↦ omega (arith, level_there v low, found.levels.positive (node v))
    | inr high ↦ omega (arith, cond-false (nat_lt v.lane l.count) (slice_index_or levels (node v) 1) 1 (le-ltb v.lane l.count high))
  ]

  above : (v w : VirtualChannel) → Depends t e l v w → level v < level w
  above v w d =
      omega (arith, level_there v (lane_of_first v w d), level_there w (lane_of_second v w d), found.levels.above (node v) (node w) (are.pairs (node v) (node w) (v, w, d, refl, refl)))

  attained : (w : VirtualChannel) → 1 < level w → (v : VirtualChannel) × Depends t e l v w × (level w ≡ level v + 1)
  attained w more = elim (cases_lt w.lane l.count) [
    | inr high ↦ absurd (omega (arith, cond-false (nat_lt w.lane l.count) (slice_index_or levels (node w) 1) 1 (le-ltb w.lane l.count high)))
    | inl low ↦
        (let before : (m : ℕ) × IsEdge c.pairs m (node w) × (slice_index_or levels (node w) 1 ≡ slice_index_or levels m 1 + 1) = found.levels.attained (node w) (omega (arith, level_there w low, more)) in
        let d : DependsByNode t e l before.0 (node w) = are.from_routes.pairs before.0 (node w) before.1 in
        let same : d.1 ≡ w = one_node l.count d.1 w (lane_of_second d.0 d.1 d.2) low d.4 in
        let first : level d.0 ≡ slice_index_or levels before.0 1 = level_there d.0 (lane_of_first d.0 d.1 d.2) ∙ ap (λ n. slice_index_or levels n 1) d.3 in
        (d.0, subst (Depends t e l d.0) same d.2, omega (arith, level_there w low, before.2, first)))
  ]

  few : l.count ≤ 15
  few = fits.whole.count.1

  below : (v : VirtualChannel) → v.channel.0 < length t.channels → v.lane < l.count → node v < length levels
  below v there low = omega (arith, node_low (length t.channels) l.count v.channel.0 v.lane there low, found.each)

  number_there : (v : VirtualChannel) → v.channel.0 < length t.channels → v.lane < 15 → number_of new v ≡ number_given l.count c levels v
  number_there v there low = set.numbers v (omega (arith, there, fits.channels)) low

  -- the number of one that is used
  numbers : (v : VirtualChannel) → IsUsed t e l v → number_of new v ≡ level v
  numbers v u =
      let low : v.lane < l.count = sound.lane v u in
      let there : v.channel.0 < length t.channels = used_channel t e l v u in
      number_there v there (omega (arith, low, few))
      ∙ cond-true (nat_lt v.lane l.count) (if slice_index_or c.used (node v) false then slice_index_or levels (node v) 0 else 0) 0 (lt-ltb v.lane l.count low)
      ∙ cond-true (slice_index_or c.used (node v) false) (slice_index_or levels (node v) 0) 0 (are.used v u)
      ∙ get_or_default levels (node v) 0 1 (below v there low)
      ∙ sym (level_there v low)

  -- and of one that isn't
  none_given : (v : VirtualChannel) → ¬ IsUsed t e l v → number_given l.count c levels v ≡ 0
  none_given v un = elim (cases_lt v.lane l.count) [
    | inr high ↦ cond-false (nat_lt v.lane l.count) (if slice_index_or c.used (node v) false then slice_index_or levels (node v) 0 else 0) 0 (le-ltb v.lane l.count high)
    | inl low ↦ cond-true (nat_lt v.lane l.count) (if slice_index_or c.used (node v) false then slice_index_or levels (node v) 0 else 0) 0 (lt-ltb v.lane l.count low) ∙ by_mark low (slice_index_or c.used (node v) false) refl
  ]
    where
      by_mark : v.lane < l.count → (b : Bool) → slice_index_or c.used (node v) false ≡ b → (if b then slice_index_or levels (node v) 0 else 0) ≡ 0
      by_mark low false is = refl
      by_mark low true is =
          let w : (w : VirtualChannel) × IsUsed t e l w × (node_of l.count w ≡ node v) = are.from_routes.used (node v) is in
          absurd (un (subst (IsUsed t e l) (one_node l.count w.0 v (sound.lane w.0 w.1) low w.2) w.1))

  no_number_past : (v : VirtualChannel) → length t.channels ≤ v.channel.0 → v.lane < 15 → number_of new v ≡ 0
  no_number_past v past low =
      cond-true (nat_lt v.lane 15) (slice_index_or new.numbers (cell 15 v.channel.0 v.lane) 0) 0 (lt-ltb v.lane 15 low)
      ∙ get_or_past new.numbers (cell 15 v.channel.0 v.lane) 0 (omega (arith, set.whole.all_numbers, channels_kept, fits.channels, past))
    where
      channels_kept : new.channels ≡ l.channels
      channels_kept = ap (λ (m : LaneTables). m.channels) set.same

  others : (v : VirtualChannel) → ¬ IsUsed t e l v → number_of new v ≡ 0
  others v un = elim (cases_lt v.lane 15) [
    | inr high ↦ cond-false (nat_lt v.lane 15) (slice_index_or new.numbers (cell 15 v.channel.0 v.lane) 0) 0 (le-ltb v.lane 15 high)
    | inl low ↦ elim (cases_lt v.channel.0 (length t.channels)) [ inl there ↦ number_there v there low ∙ none_given v un | inr past ↦ no_number_past v past low ]
  ]

  pub is_numbered : IsNumberedBy (IsUsed t e l) (Depends t e l) l new
  is_numbered = record { whole = set.whole; same = set.same; level = level; levels = record { positive = positive; above = above; attained = attained }; numbers = numbers; others = others }

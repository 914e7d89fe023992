-- A change has one answer.
use Rattle.std.proofs.Common.{◌≡◌, ℕ, List, ◌∷◌, [], refl, sym, ◌∙◌, ap}
use Rattle.fab_graph.proofs.Graphs
use Rattle.fab_model.specs.Topology.{Topology}
use Rattle.fab_model.specs.declared.rows.Lid.{Lid}
use Rattle.fab_model.specs.declared.rows.SwitchId.{SwitchId}
use Rattle.fab_tables.specs.declared.end.End.{End}
use Rattle.fab_tables.specs.First.{IsFirst}
use Rattle.fab_tables.specs.LaneTables.{LaneTables}
use Rattle.fab_tables.specs.Route.{Hop, Stop}
use Rattle.fab_tables.proofs.Faults.Firsts.{one_first}
use Rattle.fab_certify.specs.Numbered.{IsNumberedBy}
use Rattle.fab_certify.proofs.SameLanes.{same_numbers}
use Rattle.fab_transit.specs.declared.mixed.Mixed.{Mixed}
use Rattle.fab_transit.specs.declared.mixed.Mixed.TheVariants.{Numbers, NoLevel, Lost, BadLane, RingMixed}
use Rattle.fab_transit.specs.declared.mixed.Side.{Side}
use Rattle.fab_transit.specs.declared.mixed.Side.TheVariants.{Old, New}
use Rattle.fab_transit.specs.MixedWalks.{Change, hop_of, IsOnMixedWalk, DependsMixed, DependsMixedByNode}
use Rattle.fab_transit.specs.Answers.{side_number, IsFaultAt, HasNoFault, IsAnswerTo, bare_lanes}
use Rattle.fab_transit.specs.Laws.{OneAnswer}
use Rattle.fab_transit.proofs.MixedRings.{numbers_acyclic, ring_is_mixed}

one_side : (a b : Side) → side_number a ≡ side_number b → a ≡ b
one_side Old Old e = refl
one_side Old New e = cc
one_side New Old e = cc
one_side New New e = refl

one_end : (h : Hop) (a b : End) → h ≡ Stop a → h ≡ Stop b → a ≡ b
one_end h a b x y = cc

same_place : (p a b c q d e f : ℕ) → p ∷ a ∷ b ∷ c ∷ [] ≡ q ∷ d ∷ e ∷ f ∷ [] → (p ≡ q) × (a ≡ d) × (b ≡ e) × (c ≡ f)
same_place p a b c q d e f same = (cc, cc, cc, cc)

module _ (t : Topology) (m : Change) where
  no_level_same : (lid other : Lid) (s r : SwitchId) (x y : Side) → lid.0 ≡ other.0 → s.0 ≡ r.0 → x ≡ y → NoLevel lid s x ≡ NoLevel other r y
  no_level_same lid other s r x y a b c =
      ap (λ (n : ℕ). NoLevel (record { 0 = n }) s x) a ∙ ap (λ (n : ℕ). NoLevel other (record { 0 = n }) x) b ∙ ap (λ (z : Side). NoLevel other r z) c

  lost_same : (lid other : Lid) (s r : SwitchId) (x y : Side) (u v : End) → lid.0 ≡ other.0 → s.0 ≡ r.0 → x ≡ y → u ≡ v → Lost lid s x u ≡ Lost other r y v
  lost_same lid other s r x y u v a b c d =
      ap (λ (n : ℕ). Lost (record { 0 = n }) s x u) a ∙ ap (λ (n : ℕ). Lost other (record { 0 = n }) x u) b ∙ ap (λ (z : Side). Lost other r z u) c ∙ ap (λ (e : End). Lost other r y e) d

  bad_same : (lid other : Lid) (s r : SwitchId) (x y : Side) → lid.0 ≡ other.0 → s.0 ≡ r.0 → x ≡ y → BadLane lid s x ≡ BadLane other r y
  bad_same lid other s r x y a b c =
      ap (λ (n : ℕ). BadLane (record { 0 = n }) s x) a ∙ ap (λ (n : ℕ). BadLane other (record { 0 = n }) x) b ∙ ap (λ (z : Side). BadLane other r z) c

  one_stop : (lid s k r : ℕ) (x y : Side) (u v : End) → lid ≡ k → s ≡ r → x ≡ y → hop_of t m lid x s ≡ Stop u → hop_of t m k y r ≡ Stop v → u ≡ v
  one_stop lid s k r x y u v a b c p q = one_end (hop_of t m lid x s) u v p (ap (λ (n : ℕ). hop_of t m n x s) a ∙ ap (λ (n : ℕ). hop_of t m k x n) b ∙ ap (λ (z : Side). hop_of t m k z r) c ∙ q)

  -- at one place stands one fault
  one_fault_at : (place : List ℕ) (x y : Mixed) → IsFaultAt t m place x → IsFaultAt t m place y → x ≡ y
  one_fault_at place (NoLevel lid s side) (NoLevel other r also) x y =
      let e = same_place 0 lid.0 s.0 (side_number side) 0 other.0 r.0 (side_number also) (sym x.0 ∙ y.0) in
      no_level_same lid other s r side also e.1 e.2 (one_side side also e.3)
  one_fault_at place (Lost lid s side end) (Lost other r also last) x y =
      let e = same_place 1 lid.0 s.0 (side_number side) 1 other.0 r.0 (side_number also) (sym x.0 ∙ y.0) in
      lost_same lid other s r side also end last e.1 e.2 (one_side side also e.3)
      (one_stop lid.0 s.0 other.0 r.0 side also end last e.1 e.2 (one_side side also e.3) x.1.stops y.1.stops)
  one_fault_at place (BadLane lid s side) (BadLane other r also) x y =
      let e = same_place 2 lid.0 s.0 (side_number side) 2 other.0 r.0 (side_number also) (sym x.0 ∙ y.0) in
      bad_same lid other s r side also e.1 e.2 (one_side side also e.3)
  one_fault_at place (NoLevel lid s side) (Lost other r also last) x y = let e = sym x.0 ∙ y.0 in cc
  one_fault_at place (NoLevel lid s side) (BadLane other r also) x y = let e = sym x.0 ∙ y.0 in cc
  one_fault_at place (Lost lid s side end) (NoLevel other r also) x y = let e = sym x.0 ∙ y.0 in cc
  one_fault_at place (Lost lid s side end) (BadLane other r also) x y = let e = sym x.0 ∙ y.0 in cc
  one_fault_at place (BadLane lid s side) (NoLevel other r also) x y = let e = sym x.0 ∙ y.0 in cc
  one_fault_at place (BadLane lid s side) (Lost other r also last) x y = let e = sym x.0 ∙ y.0 in cc
  one_fault_at place (Numbers l) y x z = absurd x
  one_fault_at place (RingMixed ring) y x z = absurd x
  one_fault_at place x (Numbers l) y z = absurd z
  one_fault_at place x (RingMixed ring) y z = absurd z

  one_numbers : (x y : LaneTables) → IsNumberedBy (IsOnMixedWalk t m) (DependsMixed t m) (bare_lanes t m) x → IsNumberedBy (IsOnMixedWalk t m) (DependsMixed t m) (bare_lanes t m) y → x ≡ y
  one_numbers x y a b = a.same ∙ ap (λ (ns : List ℕ). record (bare_lanes t m) { numbers = ns }) numbers ∙ sym b.same
    where
      numbers : x.numbers ≡ y.numbers
      numbers = same_numbers (IsOnMixedWalk t m) (DependsMixed t m) (bare_lanes t m) (bare_lanes t m) x y (ap (λ (k : LaneTables). k.channels) a.same ∙ sym (ap (λ (k : LaneTables). k.channels) b.same)) a b

  faulty : (x : Mixed) → IsFirst (IsFaultAt t m) x → ¬ HasNoFault t m
  faulty x a none = none a.0 x a.1

  pub one_mixed : (x y : Mixed) → IsAnswerTo t m x → IsAnswerTo t m y → x ≡ y
  one_mixed (Numbers l) (Numbers n) x y = ap (λ k. Numbers k) (one_numbers l n x.1 y.1)
  one_mixed (Numbers l) (RingMixed ring) x y = absurd (ring_is_mixed t m ring y.1 (numbers_acyclic t m l x.1))
  one_mixed (RingMixed ring) (Numbers l) x y = absurd (ring_is_mixed t m ring x.1 (numbers_acyclic t m l y.1))
  one_mixed (RingMixed ring) (RingMixed other) x y = ap (λ r. RingMixed r) (Graphs.one_first_ring (DependsMixedByNode t m) ring other x.1 y.1)
  one_mixed (Numbers l) (NoLevel a b c) x y = absurd (faulty (NoLevel a b c) y x.0)
  one_mixed (Numbers l) (Lost a b c d) x y = absurd (faulty (Lost a b c d) y x.0)
  one_mixed (Numbers l) (BadLane a b c) x y = absurd (faulty (BadLane a b c) y x.0)
  one_mixed (RingMixed ring) (NoLevel a b c) x y = absurd (faulty (NoLevel a b c) y x.0)
  one_mixed (RingMixed ring) (Lost a b c d) x y = absurd (faulty (Lost a b c d) y x.0)
  one_mixed (RingMixed ring) (BadLane a b c) x y = absurd (faulty (BadLane a b c) y x.0)
  one_mixed (NoLevel a b c) (Numbers l) x y = absurd (faulty (NoLevel a b c) x y.0)
  one_mixed (Lost a b c d) (Numbers l) x y = absurd (faulty (Lost a b c d) x y.0)
  one_mixed (BadLane a b c) (Numbers l) x y = absurd (faulty (BadLane a b c) x y.0)
  one_mixed (NoLevel a b c) (RingMixed ring) x y = absurd (faulty (NoLevel a b c) x y.0)
  one_mixed (Lost a b c d) (RingMixed ring) x y = absurd (faulty (Lost a b c d) x y.0)
  one_mixed (BadLane a b c) (RingMixed ring) x y = absurd (faulty (BadLane a b c) x y.0)
  one_mixed (NoLevel a b c) (NoLevel d e f) x y = one_first (IsFaultAt t m) one_fault_at (NoLevel a b c) (NoLevel d e f) x y
  one_mixed (NoLevel a b c) (Lost d e f g) x y = one_first (IsFaultAt t m) one_fault_at (NoLevel a b c) (Lost d e f g) x y
  one_mixed (NoLevel a b c) (BadLane d e f) x y = one_first (IsFaultAt t m) one_fault_at (NoLevel a b c) (BadLane d e f) x y
  one_mixed (Lost a b c h) (NoLevel d e f) x y = one_first (IsFaultAt t m) one_fault_at (Lost a b c h) (NoLevel d e f) x y
  one_mixed (Lost a b c h) (Lost d e f g) x y = one_first (IsFaultAt t m) one_fault_at (Lost a b c h) (Lost d e f g) x y
  one_mixed (Lost a b c h) (BadLane d e f) x y = one_first (IsFaultAt t m) one_fault_at (Lost a b c h) (BadLane d e f) x y
  one_mixed (BadLane a b c) (NoLevel d e f) x y = one_first (IsFaultAt t m) one_fault_at (BadLane a b c) (NoLevel d e f) x y
  one_mixed (BadLane a b c) (Lost d e f g) x y = one_first (IsFaultAt t m) one_fault_at (BadLane a b c) (Lost d e f g) x y
  one_mixed (BadLane a b c) (BadLane d e f) x y = one_first (IsFaultAt t m) one_fault_at (BadLane a b c) (BadLane d e f) x y

pub one_answer : OneAnswer
one_answer t m x y before after a b = one_mixed t m x y a b

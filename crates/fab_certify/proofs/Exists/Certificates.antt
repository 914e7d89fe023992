-- A plan has a certificate.
use Rattle.std.proofs.Common.{ℕ, suc, ◌*◌, ◌<◌, ◌^◌, ◌⊎◌, inl, inr, Bool, true, false, List, length, Option, Some, None, refl, arith}
use Rattle.std.specs.Prelude.{IfSome, nat_lt, if◌then◌else◌, slice_index_or}
use Rattle.std.proofs.Math.Nat.{mul-le-mul_left}
use Rattle.std.proofs.lemmas.Bool.{cases_lt}
use Rattle.std.proofs.lemmas.List.{get_or_past, get_or_default}
use Rattle.fab_graph.specs.Walks.{IsEdge, IsAcyclic}
use Rattle.fab_graph.specs.Rings.{IsFirstRing}
use Rattle.fab_graph.proofs.FirstRings.{ring_or_acyclic}
use Rattle.fab_model.specs.Topology.{Topology}
use Rattle.fab_model.specs.WellFormed.{IsFabric}
use Rattle.fab_tables.specs.declared.verdict.Verdict.{Verdict}
use Rattle.fab_tables.specs.declared.verdict.VirtualChannel.{VirtualChannel}
use Rattle.fab_tables.specs.Entries.{Entries}
use Rattle.fab_tables.specs.LaneTables.{LaneTables}
use Rattle.fab_tables.specs.Fit.{LanesFit}
use Rattle.fab_tables.specs.Dependencies.{IsUsed, Depends, DependsByNode, AreReadLanes, IsOneLane, node_of}
use Rattle.fab_tables.specs.Verdicts.{IsFaultAt, IsStructural}
use Rattle.fab_tables.proofs.Verdicts.VerdictExists.{refusal_or_none}
use Rattle.fab_certify.specs.declared.certified.Certified.{Certified}
use Rattle.fab_certify.specs.declared.certified.Certified.TheVariants.{Numbers, Refused, RingUsed}
use Rattle.fab_certify.specs.Collected.{Collected, AreDependencies}
use Rattle.fab_certify.specs.Numbers.{number_given, HasNumbers}
use Rattle.fab_certify.specs.Numbered.{IsNumberedBy, IsSound}
use Rattle.fab_certify.specs.Certificate.{IsCertificateBy}
use Rattle.fab_certify.specs.Laws.{CertificateExists}
use Rattle.fab_certify.proofs.Numbered.Numbering.{first_used, second_used}
use Rattle.fab_certify.proofs.Numbered.NumberedPlan.{dependency_ring, is_numbered}
use Rattle.fab_certify.proofs.Refusals.{of_route, of_lanes, is_sound}
use Rattle.fab_certify.proofs.Exists.ByLevels.{levels, listed_low, node_levels}
use Rattle.fab_certify.proofs.Exists.Collecting.{collected, used_low, are_collected}
use Rattle.fab_certify.proofs.Exists.Lanes.{one_lane_exists}
use Rattle.fab_certify.proofs.Exists.Numbers.{numbers_exist}

-- ---- the numbers given are small

small_if : (b : Bool) (m n : ℕ) → m < n → (if b then m else 0) < n
small_if true m n low = low
small_if false m n low = omega (arith, low)

small_at : (levels : List ℕ) (n bound : ℕ) → slice_index_or levels n 1 < bound → slice_index_or levels n 0 < bound
small_at levels n bound low = elim (cases_lt n (length levels)) [
  | inl there ↦ omega (arith, get_or_default levels n 0 1 there, low)
  | inr past ↦ omega (arith, get_or_past levels n 0 past, low)
]

given_small : (count : ℕ) (c : Collected) (levels : List ℕ) (bound : ℕ) → ((n : ℕ) → slice_index_or levels n 1 < bound) → (v : VirtualChannel) → number_given count c levels v < bound
given_small count c levels bound low v =
    let node : ℕ = node_of count v in
    let zero_low : 0 < bound = omega (arith, low 0) in
    small_if (nat_lt v.lane count) (if slice_index_or c.used node false then slice_index_or levels node 0 else 0) bound
    (small_if (slice_index_or c.used node false) (slice_index_or levels node 0) bound (small_at levels node bound (low node)))

module _ (t : Topology) (fabric : IsFabric t) (e : Entries) (l : LaneTables) (fits : LanesFit t l) where
  abbrev size : ℕ
  size = length t.channels * l.count

  size_small : suc size < 2 ^ 32
  size_small = omega (arith, fabric.rows.channel_count, mul-le-mul_left (length t.channels) fits.whole.count.1)

  -- ---- a sound plan

  module _ (sound : IsSound t e l) where
    abbrev c : Collected
    c = collected t e l

    are : AreDependencies t e l c
    are = are_collected t e l sound

    from_low : (m n : ℕ) → IsEdge c.pairs m n → m < size
    from_low m n edge = let d : DependsByNode t e l m n = are.from_routes.pairs m n edge in omega (arith, d.3, used_low t e l sound d.0 (first_used t e l d.0 d.1 d.2))

    to_low : (m n : ℕ) → IsEdge c.pairs m n → n < size
    to_low m n edge = let d : DependsByNode t e l m n = are.from_routes.pairs m n edge in omega (arith, d.4, used_low t e l sound d.1 (second_used t e l d.0 d.1 d.2))

    numbered : IsAcyclic (IsEdge c.pairs) → (new : LaneTables) × IsNumberedBy (IsUsed t e l) (Depends t e l) l new
    numbered acyclic =
        let ns : List ℕ = levels c.pairs size from_low acyclic to_low in
        let low : (n : ℕ) → slice_index_or ns n 1 < 2 ^ 32 = λ n. omega (arith, listed_low c.pairs size from_low acyclic to_low n, size_small) in
        let set : (new : LaneTables) × HasNumbers c ns l new = numbers_exist c ns l fits.whole (given_small l.count c ns (2 ^ 32) low) in
        (set.0, is_numbered t e l set.0 c ns fits sound are (node_levels c.pairs size from_low acyclic to_low) set.1)

    by_ring : ((ring : List ℕ) × IsFirstRing (IsEdge c.pairs) ring) ⊎ IsAcyclic (IsEdge c.pairs) → (answer : Certified) × IsCertificateBy t e l answer
    by_ring (inl ring) = (RingUsed ring.0, (sound, dependency_ring t e l c c.pairs ring.0 are refl ring.1))
    by_ring (inr acyclic) =
        let new : (new : LaneTables) × IsNumberedBy (IsUsed t e l) (Depends t e l) l new = numbered acyclic in
        (Numbers (record { tables = e; lanes = Some new.0 }), (sound, record { tables = refl; lanes = new.0; has_lanes = refl; numbered = new.1 }))

  -- ---- any plan

  abbrev NoneStructural : Type 0
  NoneStructural = (place : List ℕ) (fault : Verdict) → IsStructural fault → ¬ IsFaultAt t e (Some l) place fault

  sound_by : NoneStructural → IsSound t e l
  sound_by none = is_sound t e l
      (λ place fault x. let r = of_route t e l place fault x in none place fault r.0 r.1)
      (λ place fault x. let r = of_lanes t e l place fault x in none place fault r.0 r.1)

  pub certificate_by_lanes : (answer : Certified) × IsCertificateBy t e l answer
  certificate_by_lanes = elim (refusal_or_none t e l fabric) [
    | inl refusal ↦ (Refused refusal.0, refusal.1)
    | inr none ↦ (let sound : IsSound t e l = sound_by none in by_ring sound (ring_or_acyclic (collected t e l).pairs))
  ]

-- the lanes with which a plan is read
read_lanes : (t : Topology) → IsFabric t → (o : Option LaneTables) → IfSome o (LanesFit t) → (l : LaneTables) × AreReadLanes t o l × LanesFit t l
read_lanes t fabric (Some l) fits = (l, refl, fits)
read_lanes t fabric None fits = let one : (l : LaneTables) × IsOneLane t l = one_lane_exists t fabric in (one.0, one.1, one.1.fits)

pub certificate_exists : CertificateExists
certificate_exists t p fabric fits =
    let l : (l : LaneTables) × AreReadLanes t p.lanes l × LanesFit t l = read_lanes t fabric p.lanes fits.lanes in
    let answer : (answer : Certified) × IsCertificateBy t p.tables l.0 answer = certificate_by_lanes t fabric p.tables l.0 l.2 in
    (answer.0, (l.0, l.1, answer.1))

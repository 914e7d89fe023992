-- A plan has one answer.
use Rattle.std.proofs.Common.{◌≡◌, ℕ, ◌<◌, List, [], ◌∷◌, refl, sym, ◌∙◌, ap, subst, arith, inl, inr}
use Rattle.std.specs.Prelude.{slice_get, Contains}
use Rattle.std.proofs.lemmas.Option.{same_Some}
use Rattle.fab_graph.specs.Rings.{IsFirstRing}
use Rattle.fab_graph.proofs.Graphs
use Rattle.fab_graph.proofs.Same
use Rattle.fab_model.specs.declared.rows.ChannelRow.{ChannelRow}
use Rattle.fab_model.specs.declared.rows.Lid.{Lid}
use Rattle.fab_model.specs.declared.rows.Place.{Place}
use Rattle.fab_model.specs.declared.rows.SwitchId.{SwitchId}
use Rattle.fab_model.specs.declared.rows.TerminalRow.{TerminalRow}
use Rattle.fab_model.specs.Topology.{Topology, place_of}
use Rattle.fab_model.specs.WellFormed.{IsFabric}
use Rattle.fab_model.proofs.Lists.Members.{In, Pairs, pairs_from_AllPairs, in_from_Contains}
use Rattle.fab_tables.specs.declared.plan.Plan.{Plan}
use Rattle.fab_tables.specs.declared.verdict.VirtualChannel.{VirtualChannel}
use Rattle.fab_tables.specs.Entries.{Entries}
use Rattle.fab_tables.specs.LaneTables.{LaneTables}
use Rattle.fab_tables.specs.Dependencies.{AreReadLanes, node_of}
use Rattle.fab_tables.specs.First.{IsFirst}
use Rattle.fab_tables.specs.Verdicts.{Leaves, IsRefusal}
use Rattle.fab_tables.specs.declared.verdict.Verdict.{Verdict}
use Rattle.fab_tables.specs.Fit.{PlanFits}
use Rattle.fab_tables.proofs.Faults.Firsts.{one_first}
use Rattle.fab_tables.proofs.Verdicts.CertifiedLaws.{contains_of}
use Rattle.fab_certify.specs.declared.certified.Certified.TheVariants.{Refused as RefusedAs}
use Rattle.fab_certify.specs.Numbered.{IsNumberedBy, IsSound}
use Rattle.fab_certify.proofs.OneCertificate.{one_certificate}
use Rattle.fab_certify.proofs.Plainly.{refusal_is_unsound}
use Rattle.fab_certify.proofs.ReadAlike.{renumbered, sound_alike}
use Rattle.fab_certify.proofs.SameLanes.{same_lanes, same_numbers}
use Rattle.fab_replies.specs.declared.replied.Replied.{Replied}
use Rattle.fab_replies.specs.declared.replied.Replied.TheVariants.{Numbers, Refused, BadLane, RingReplies}
use Rattle.fab_replies.specs.Replies.{reply_hops, IsUsedJointly, DependsJointly, DependsJointlyByNode}
use Rattle.fab_replies.specs.Answers.{IsBadAt, IsFaultAt, HasGoodReplies, IsAnswerBy, bare_lanes}
use Rattle.fab_replies.specs.Laws.{OneAnswer}
use Rattle.fab_replies.proofs.SentHops.{replies_aside, good_aside, joint_used_aside, joint_used_back, same_joint, joint_ring_is_cyclic}

-- a LID is one terminal's
abbrev Rises : TerminalRow → TerminalRow → Type 0
Rises first second = first.lid.0 < second.lid.0

one_of : (xs : List TerminalRow) → Pairs Rises xs → (p q : TerminalRow) → In p xs → In q xs → p.lid.0 ≡ q.lid.0 → p ≡ q
one_of [] pairs p q h k same = absurd h
one_of (x ∷ xs) pairs p q (inl h) (inl k) same = sym h ∙ k
one_of (x ∷ xs) pairs p q (inl h) (inr k) same = absurd (omega (arith, pairs.0 q k, ap (λ (r : TerminalRow). r.lid.0) h, same))
one_of (x ∷ xs) pairs p q (inr h) (inl k) same = absurd (omega (arith, pairs.0 p h, ap (λ (r : TerminalRow). r.lid.0) k, same))
one_of (x ∷ xs) pairs p q (inr h) (inr k) same = one_of xs pairs.1 p q h k same

pub one_terminal : (t : Topology) → IsFabric t → (p q : TerminalRow) → Contains t.terminals p → Contains t.terminals q → p.lid.0 ≡ q.lid.0 → p ≡ q
one_terminal t fabric p q a b same =
    one_of t.terminals (pairs_from_AllPairs Rises t.terminals fabric.rows.terminal_lids_rise) p q (in_from_Contains t.terminals p a) (in_from_Contains t.terminals q b) same

same_place : (a b c d e f : ℕ) → a ∷ b ∷ c ∷ [] ≡ d ∷ e ∷ f ∷ [] → (a ≡ d) × (b ≡ e) × (c ≡ f)
same_place a b c d e f same = (cc, cc, cc)

bad_same : (lid other from also : Lid) (at there : SwitchId) → lid.0 ≡ other.0 → from.0 ≡ also.0 → at ≡ there → BadLane lid from at ≡ BadLane other also there
bad_same lid other from also at there a b c =
    ap (λ (n : ℕ). BadLane (record { 0 = n }) from at) a ∙ ap (λ (n : ℕ). BadLane other (record { 0 = n }) at) b ∙ ap (λ (s : SwitchId). BadLane other also s) c

-- where the lane of a reply is bad, not all are good
pub faulty_replies : (t : Topology) (e : Entries) (l : LaneTables) (lid from : Lid) (at : SwitchId) → IsFirst (IsFaultAt t e l) (BadLane lid from at) → ¬ HasGoodReplies t e l
faulty_replies t e l lid from at x good =
    let b : IsBadAt t e l x.0 lid from at = x.1 in
    let hops : List VirtualChannel = reply_hops t e l b.terminal from.0 b.source in
    omega (arith, b.bad, good hops b.taken (b.terminal, from.0, b.source, b.reply, refl) (contains_of hops b.hop b.taken b.at_hop))

module _ (t : Topology) (fabric : IsFabric t) (e : Entries) (l : LaneTables) where
  hop_same : (p q : TerminalRow) (a b : ℕ) (u v : Place) (h k : ℕ) → p ≡ q → a ≡ b → u ≡ v → h ≡ k → slice_get (reply_hops t e l p a u) h ≡ slice_get (reply_hops t e l q b v) k
  hop_same p q a b u v h k w x y z =
      ap (λ (r : TerminalRow). slice_get (reply_hops t e l r a u) h) w ∙ ap (λ (n : ℕ). slice_get (reply_hops t e l q n u) h) x
      ∙ ap (λ (r : Place). slice_get (reply_hops t e l q b r) h) y ∙ ap (λ (n : ℕ). slice_get (reply_hops t e l q b v) n) z

  one_leaves : (v w : VirtualChannel) (at there : SwitchId) → v ≡ w → Leaves t v at → Leaves t w there → at ≡ there
  one_leaves v w at there same x y =
      let rows : x.0 ≡ y.0 = same_Some x.0 y.0 (sym x.1 ∙ ap (λ (u : VirtualChannel). slice_get t.channels u.channel.0) same ∙ y.1) in
      sym x.2 ∙ ap (λ (r : ChannelRow). r.tail) rows ∙ y.2

  one_bad : (place : List ℕ) (lid other from also : Lid) (at there : SwitchId) → IsBadAt t e l place lid from at → IsBadAt t e l place other also there → BadLane lid from at ≡ BadLane other also there
  one_bad place lid other from also at there x y =
      let places = same_place lid.0 from.0 x.hop other.0 also.0 y.hop (sym x.is_place ∙ y.is_place) in
      let terminals : x.terminal ≡ y.terminal = one_terminal t fabric x.terminal y.terminal x.reply.path.terminal y.reply.path.terminal
      (ap (λ (k : Lid). k.0) x.to_lid ∙ places.0 ∙ sym (ap (λ (k : Lid). k.0) y.to_lid)) in
      let sources : x.source ≡ y.source = same_Some x.source y.source (sym x.reply.place ∙ ap (λ (n : ℕ). place_of t n) places.1 ∙ y.reply.place) in
      let taken : x.taken ≡ y.taken = same_Some x.taken y.taken (sym x.at_hop ∙ hop_same x.terminal y.terminal from.0 also.0 x.source y.source x.hop y.hop terminals places.1 sources places.2 ∙ y.at_hop) in
      bad_same lid other from also at there places.0 places.1 (one_leaves x.taken y.taken at there taken x.leaves y.leaves)

  one_fault_at : (place : List ℕ) (x y : Replied) → IsFaultAt t e l place x → IsFaultAt t e l place y → x ≡ y
  one_fault_at place (BadLane lid from at) (BadLane other also there) x y = one_bad place lid other from also at there x y
  one_fault_at place (Numbers n) y x z = absurd x
  one_fault_at place (Refused n) y x z = absurd x
  one_fault_at place (RingReplies n) y x z = absurd x
  one_fault_at place x (Numbers n) y z = absurd z
  one_fault_at place x (Refused n) y z = absurd z
  one_fault_at place x (RingReplies n) y z = absurd z

  abbrev IsNumbered : LaneTables → Type 0
  IsNumbered n = IsNumberedBy (IsUsedJointly t e l) (DependsJointly t e l) (bare_lanes t l.count) n

  one_numbering : (m n : LaneTables) → IsNumbered m → IsNumbered n → m ≡ n
  one_numbering m n x y = x.same ∙ ap (λ (ns : List ℕ). record (bare_lanes t l.count) { numbers = ns }) numbers ∙ sym y.same
    where
      numbers : m.numbers ≡ n.numbers
      numbers = same_numbers (IsUsedJointly t e l) (DependsJointly t e l) (bare_lanes t l.count) (bare_lanes t l.count) m n
          (ap (λ (k : LaneTables). k.channels) x.same ∙ sym (ap (λ (k : LaneTables). k.channels) y.same)) x y

  ring_or_numbers : (ring : List ℕ) (new : LaneTables) → IsSound t e l → HasGoodReplies t e l → IsFirstRing (DependsJointlyByNode t e l) ring → IsNumbered new → ⊥
  ring_or_numbers ring new sound good first numbered = joint_ring_is_cyclic t e l ring sound good first (Graphs.levels_rise (DependsJointly t e l) numbered.level numbered.levels)

-- an answer by lanes is one by the same lanes with other numbers
fault_aside : (t : Topology) (e : Entries) (l : LaneTables) (ns : List ℕ) (place : List ℕ) (x : Replied) → IsFaultAt t e l place x → IsFaultAt t e (renumbered l ns) place x
fault_aside t e l ns place (BadLane lid from at) x = record {
  terminal = x.terminal;
  source = x.source;
  hop = x.hop;
  taken = x.taken;
  is_place = x.is_place;
  reply = x.reply;
  to_lid = x.to_lid;
  at_hop = ap (λ (vs : List VirtualChannel). slice_get vs x.hop) (replies_aside t e l ns x.terminal from.0 x.source) ∙ x.at_hop;
  leaves = x.leaves;
  bad = x.bad;
}
fault_aside t e l ns place (Numbers n) x = x
fault_aside t e l ns place (Refused n) x = x
fault_aside t e l ns place (RingReplies n) x = x

module _ (t : Topology) (e : Entries) (l : LaneTables) (ns : List ℕ) where
  abbrev other : LaneTables
  other = renumbered l ns

  first_aside : (lid from : Lid) (at : SwitchId) → IsFirst (IsFaultAt t e l) (BadLane lid from at) → IsFirst (IsFaultAt t e other) (BadLane lid from at)
  first_aside lid from at x = (x.0, fault_aside t e l ns x.0 (BadLane lid from at) x.1, λ earlier f before is. x.2 earlier f before (fault_aside t e other l.numbers earlier f is))

  ring_aside : (ring : List ℕ) → IsFirstRing (DependsJointlyByNode t e l) ring → IsFirstRing (DependsJointlyByNode t e other) ring
  ring_aside ring x =
      Same.same_first_ring (DependsJointlyByNode t e l) (DependsJointlyByNode t e other) (Same.same_image (node_of l.count) (DependsJointly t e l) (DependsJointly t e other) (same_joint t e l ns)) ring x

  numbered_aside : (new : LaneTables) → IsNumberedBy (IsUsedJointly t e l) (DependsJointly t e l) (bare_lanes t l.count) new → IsNumberedBy (IsUsedJointly t e other) (DependsJointly t e other) (bare_lanes t l.count) new
  numbered_aside new x = record {
    whole = x.whole;
    same = x.same;
    level = x.level;
    levels = Same.same_levels (DependsJointly t e l) (DependsJointly t e other) (same_joint t e l ns) x.level x.levels;
    numbers = λ v u. x.numbers v (joint_used_back t e l ns v u);
    others = λ v unused. x.others v (λ u. unused (joint_used_aside t e l ns v u));
  }

same_fault : (f g : Verdict) → RefusedAs f ≡ RefusedAs g → f ≡ g
same_fault f g same = cc

-- the lanes with which a plan is read, twice
module _ (t : Topology) (fabric : IsFabric t) (p : Plan) (fits : PlanFits t p) (l m : LaneTables) (x : AreReadLanes t p.lanes l) (y : AreReadLanes t p.lanes m) where
  abbrev e : Entries
  e = p.tables

  same : m ≡ renumbered l m.numbers
  same = same_lanes t p.lanes l m x y

  refusal_or_sound : (f : Verdict) → IsRefusal t e l f → IsSound t e m → ⊥
  refusal_or_sound f refused sound = refusal_is_unsound t e l f refused (sound_alike t e p.lanes m l y x sound)

  sound_or_refusal : (f : Verdict) → IsSound t e l → IsRefusal t e m f → ⊥
  sound_or_refusal f sound refused = refusal_is_unsound t e m f refused (sound_alike t e p.lanes l m x y sound)

  good_back : HasGoodReplies t e m → HasGoodReplies t e l
  good_back good = good_aside t e (renumbered l m.numbers) l.numbers (subst (HasGoodReplies t e) same good)

  first_back : (lid from : Lid) (at : SwitchId) → IsFirst (IsFaultAt t e m) (BadLane lid from at) → IsFirst (IsFaultAt t e l) (BadLane lid from at)
  first_back lid from at first = first_aside t e (renumbered l m.numbers) l.numbers lid from at (subst (λ k. IsFirst (IsFaultAt t e k) (BadLane lid from at)) same first)

  ring_back : (ring : List ℕ) → IsFirstRing (DependsJointlyByNode t e m) ring → IsFirstRing (DependsJointlyByNode t e l) ring
  ring_back ring first = ring_aside t e (renumbered l m.numbers) l.numbers ring (subst (λ k. IsFirstRing (DependsJointlyByNode t e k) ring) same first)

  numbered_back : (new : LaneTables) → IsNumberedBy (IsUsedJointly t e m) (DependsJointly t e m) (bare_lanes t m.count) new → IsNumberedBy (IsUsedJointly t e l) (DependsJointly t e l) (bare_lanes t l.count) new
  numbered_back new numbered =
      numbered_aside t e (renumbered l m.numbers) l.numbers new (subst (λ k. IsNumberedBy (IsUsedJointly t e k) (DependsJointly t e k) (bare_lanes t k.count) new) same numbered)

  one_by : (a b : Replied) → IsAnswerBy t e l a → IsAnswerBy t e m b → a ≡ b
  one_by (Refused f) (Refused g) u v = ap (λ k. Refused k) (same_fault f g (one_certificate t p (RefusedAs f) (RefusedAs g) fits (l, x, u) (m, y, v)))
  one_by (Refused f) (BadLane a b c) u v = absurd (refusal_or_sound f u v.0)
  one_by (Refused f) (RingReplies ring) u v = absurd (refusal_or_sound f u v.0)
  one_by (Refused f) (Numbers new) u v = absurd (refusal_or_sound f u v.0)
  one_by (BadLane a b c) (Refused f) u v = absurd (sound_or_refusal f u.0 v)
  one_by (RingReplies ring) (Refused f) u v = absurd (sound_or_refusal f u.0 v)
  one_by (Numbers new) (Refused f) u v = absurd (sound_or_refusal f u.0 v)
  one_by (BadLane a b c) (BadLane f g h) u v = one_first (IsFaultAt t e l) (one_fault_at t fabric e l) (BadLane a b c) (BadLane f g h) u.1 (first_back f g h v.1)
  one_by (BadLane a b c) (RingReplies ring) u v = absurd (faulty_replies t e l a b c u.1 (good_back v.1))
  one_by (BadLane a b c) (Numbers new) u v = absurd (faulty_replies t e l a b c u.1 (good_back v.1))
  one_by (RingReplies ring) (BadLane a b c) u v = absurd (faulty_replies t e l a b c (first_back a b c v.1) u.1)
  one_by (Numbers new) (BadLane a b c) u v = absurd (faulty_replies t e l a b c (first_back a b c v.1) u.1)
  one_by (RingReplies ring) (RingReplies more) u v = ap (λ r. RingReplies r) (Graphs.one_first_ring (DependsJointlyByNode t e l) ring more u.2 (ring_back more v.2))
  one_by (RingReplies ring) (Numbers new) u v = absurd (ring_or_numbers t fabric e l ring new u.0 u.1 u.2 (numbered_back new v.2))
  one_by (Numbers new) (RingReplies ring) u v = absurd (ring_or_numbers t fabric e l ring new u.0 u.1 (ring_back ring v.2) u.2)
  one_by (Numbers new) (Numbers more) u v = ap (λ k. Numbers k) (one_numbering t fabric e l new more u.2 (numbered_back more v.2))

pub one_answer : OneAnswer
one_answer t p a b fabric fits x y = one_by t fabric p fits x.0 y.0 x.1 y.1 a b x.2 y.2

-- A plan has an answer: packets and replies are finitely many, so that what they use, the joint dependencies and the faults can be listed.
use Rattle.std.proofs.Common.{◌≡◌, ℕ, zero, suc, ◌*◌, ◌^◌, ◌<◌, ◌≤◌, ◌⊎◌, inl, inr, Bool, true, false, List, [], ◌∷◌, length, map, refl, sym, ◌∙◌, ap, subst, arith, Some, None, Option, Contains}
use Rattle.std.specs.Prelude.{IfSome, slice_get, slice_index_or, nat_lt, if◌then◌else◌}
use Rattle.std.specs.List.{range_with_len}
use Rattle.std.proofs.Math.Nat.{mul-le-mul_left}
use Rattle.std.proofs.lemmas.Bool.{cases_lt, false≢true}
use Rattle.std.proofs.lemmas.List.{get_or_past, get_or_default}
use Rattle.std.proofs.lemmas.List.FromFn.{length-map-range_with_len, get_or-map-range_with_len}
use Rattle.std.proofs.lemmas.Option.{none-some, same_Some}
use Rattle.fab_graph.specs.Walks.{IsEdge, IsAcyclic}
use Rattle.fab_graph.specs.Rings.{IsFirstRing}
use Rattle.fab_graph.proofs.Decided.{Decided, contains_decided}
use Rattle.fab_graph.proofs.FirstRings.{ring_or_acyclic}
use Rattle.fab_graph.proofs.Members.{first, later, first_or_later}
use Rattle.fab_model.specs.declared.rows.ChannelRow.{ChannelRow}
use Rattle.fab_model.specs.declared.rows.Lid.{Lid}
use Rattle.fab_model.specs.declared.rows.Place.{Place}
use Rattle.fab_model.specs.declared.rows.SwitchId.{SwitchId}
use Rattle.fab_model.specs.declared.rows.TerminalRow.{TerminalRow}
use Rattle.fab_model.specs.Topology.{Topology, lids_of, lid_id, place_of}
use Rattle.fab_model.specs.WellFormed.{IsFabric}
use Rattle.fab_model.proofs.Lists.Found.{in_range}
use Rattle.fab_model.proofs.Lists.Members.{Contains_from_in}
use Rattle.fab_tables.specs.declared.plan.Plan.{Plan}
use Rattle.fab_tables.specs.declared.verdict.VirtualChannel.{VirtualChannel}
use Rattle.fab_tables.specs.Entries.{Entries}
use Rattle.fab_tables.specs.First.{IsBefore}
use Rattle.fab_tables.specs.Fit.{LanesFit}
use Rattle.fab_tables.specs.LaneTables.{LaneTables, AreLaneTables}
use Rattle.fab_tables.specs.Dependencies.{AreReadLanes, node_of}
use Rattle.fab_tables.specs.VirtualChannels.{virtual_channels}
use Rattle.fab_tables.proofs.Faults.Firsts.{first_in}
use Rattle.fab_tables.proofs.Verdicts.CertifiedLaws.{get_of}
use Rattle.fab_tables.proofs.Verdicts.DeadlockLaws.{some_at}
use Rattle.fab_tables.proofs.Joined.Ascending.{lids_are}
use Rattle.fab_tables.proofs.Rows.LaneSets.{new_kept}
use Rattle.fab_certify.specs.declared.certified.Certified.{Certified}
use Rattle.fab_certify.specs.declared.certified.Certified.TheVariants.{Numbers as NumberedAs, Refused as RefusedAs, RingUsed}
use Rattle.fab_certify.specs.Certificate.{IsCertificateBy}
use Rattle.fab_certify.specs.Collected.{Collected, IsMarked}
use Rattle.fab_certify.specs.Numbers.{number_given, HasNumbers}
use Rattle.fab_certify.specs.Numbered.{IsNumberedBy, IsSound}
use Rattle.fab_certify.proofs.Collected.CollectingHops.{node_low}
use Rattle.fab_certify.proofs.Exists.ByLevels.{levels, listed_low, node_levels}
use Rattle.fab_certify.proofs.Exists.Certificates.{certificate_exists}
use Rattle.fab_certify.proofs.Exists.Collecting.{paths_listed, OnPath}
use Rattle.fab_certify.proofs.Exists.Listed.{Listed, none_listed, one_listed, same_listed, either_listed, where_listed, some_listed, images_listed, FollowAs, follow_listed}
use Rattle.fab_certify.proofs.Exists.Numbers.{numbers_exist}
use Rattle.fab_replies.specs.declared.replied.Replied.{Replied}
use Rattle.fab_replies.specs.declared.replied.Replied.TheVariants.{Numbers, Refused, BadLane, RingReplies}
use Rattle.fab_replies.specs.Replies.{IsReply, reply_hops, AreOfPacket, AreOfReply, AreSent, IsUsedJointly, DependsJointly, DependsJointlyByNode}
use Rattle.fab_replies.specs.Answers.{IsBadAt, IsFaultAt, HasGoodReplies, IsAnswerBy, IsAnswerTo, bare_lanes}
use Rattle.fab_replies.specs.Jointly.{AreJointly}
use Rattle.fab_replies.specs.Laws.{AnswerExists}
use Rattle.fab_replies.proofs.SentHops.{lane_sent, channel_sent, first_sent, second_sent}
use Rattle.fab_replies.proofs.JointNumbers.{joint_ring, is_jointly_numbered}

-- ---- lists

of_listed : {A B : Type 0} (Q : B → Type 0) (P : B → A → Type 0) → Listed Q → ((b : B) → Listed (P b)) → Listed (λ a. (b : B) × Q b × P b a)
of_listed Q P l each =
    same_listed (λ a. (b : _) × Contains l.list b × P b a) (λ a. (b : _) × Q b × P b a) (λ a s. (s.0, l.only s.0 s.1, s.2)) (λ a s. (s.0, l.all s.0 s.1, s.2)) (some_listed P each l.list)

-- where an option has a value
given_listed : {A B : Type 0} (o : Option B) (P : B → A → Type 0) → ((b : B) → Listed (P b)) → Listed (λ a. (b : B) × (o ≡ Some b) × P b a)
given_listed None P each = none_listed _ (λ a s. none-some s.0 s.1)
given_listed (Some x) P each = same_listed (P x) _ (λ a p. (x, refl, p)) (λ a s. subst (λ b. P b a) (sym (same_Some x s.0 s.1)) s.2) (each x)

below : (n k : ℕ) → k < n → Contains (range_with_len 0 n) k
below n k low = Contains_from_in (range_with_len 0 n) k (in_range 0 n k (omega arith) (omega (arith, low)))

-- the places of a list, with what stands there
at_listed : {A B : Type 0} (xs : List B) (P : ℕ → B → A → Type 0) → ((k : ℕ) (b : B) → Listed (P k b)) → Listed (λ a. (k : ℕ) × (b : B) × (slice_get xs k ≡ Some b) × P k b a)
at_listed {A} {B} xs P each =
    same_listed (λ a. (k : ℕ) × Contains (range_with_len 0 (length xs)) k × ((b : B) × (slice_get xs k ≡ Some b) × P k b a)) _
    (λ a s. (s.0, s.2.0, s.2.1, s.2.2)) (λ a s. (s.0, below (length xs) s.0 (within xs s.0 s.1 s.2), (s.1, s.2, s.3)))
    (some_listed (λ k a. (b : B) × (slice_get xs k ≡ Some b) × P k b a) (λ k. given_listed (slice_get xs k) (P k) (each k)) (range_with_len 0 (length xs)))
  where
    within : (ys : List B) (k : ℕ) (b : B) → slice_get ys k ≡ Some b → k < length ys
    within [] k b at = absurd (none-some b at)
    within (y ∷ ys) zero b at = omega arith
    within (y ∷ ys) (suc k) b at = let low : k < length ys = within ys k b at in omega (arith, low)

not_below_decided : (a b : ℕ) → Decided (a ≤ b)
not_below_decided a b = elim (cases_lt b a) [ inl less ↦ inr (λ e. omega (arith, less, e)) | inr more ↦ inl more ]

truth : {P : Type 0} → Decided P → Bool
truth (inl p) = true
truth (inr refuted) = false

holds : {P : Type 0} (d : Decided P) → truth d ≡ true → P
unfolding truth
holds (inl p) is = p
holds (inr refuted) is = absurd (false≢true is)

is_true : {P : Type 0} (d : Decided P) → P → truth d ≡ true
unfolding truth
is_true (inl p) q = refl
is_true (inr refuted) q = absurd (refuted q)

-- ---- the first of listed places

pub record Placed : Type 0 where
  pub place : List ℕ
  pub fault : Replied

abbrev placed : List ℕ → Replied → Placed
placed place fault = record { place = place; fault = fault }

-- ---- numbers that are given are small

small_if : (b : Bool) (m n : ℕ) → m < n → (if b then m else 0) < n
small_if true m n low = low
small_if false m n low = omega (arith, low)

small_at : (levels : List ℕ) (n bound : ℕ) → slice_index_or levels n 1 < bound → slice_index_or levels n 0 < bound
small_at levels n bound low = elim (cases_lt n (length levels)) [
  | inl there ↦ omega (arith, get_or_default levels n 0 1 there, low)
  | inr past ↦ omega (arith, get_or_past levels n 0 past, low)
]

given_small : (count : ℕ) (c : Collected) (levels : List ℕ) (bound : ℕ) → ((n : ℕ) → slice_index_or levels n 1 < bound) → (v : VirtualChannel) → number_given count c levels v < bound
given_small count c levels bound low v =
    let node : ℕ = node_of count v in
    let zero_low : 0 < bound = omega (arith, low 0) in
    small_if (nat_lt v.lane count) (if slice_index_or c.used node false then slice_index_or levels node 0 else 0) bound
    (small_if (slice_index_or c.used node false) (slice_index_or levels node 0) bound (small_at levels node bound (low node)))

module _ (t : Topology) (e : Entries) (l : LaneTables) where
  -- ---- packets and replies

  packets : Listed (AreOfPacket t e l)
  packets = same_listed (OnPath t (λ p lid hops. virtual_channels t e l p lid ≡ hops) (λ p lid. one_listed (virtual_channels t e l p lid))) (AreOfPacket t e l)
      (λ hops s. (s.0, s.1, s.2, sym s.3)) (λ hops s. (s.0, s.1, s.2, sym s.3))
      (paths_listed t (λ p lid hops. virtual_channels t e l p lid ≡ hops) (λ p lid. one_listed (virtual_channels t e l p lid)))

  -- what holds of replies
  module _ {A : Type 0} (P : TerminalRow → ℕ → Place → A → Type 0) (each : (p : TerminalRow) (lid : ℕ) (from : Place) → Listed (P p lid from)) where
    abbrev OnReply : A → Type 0
    OnReply a = (p : TerminalRow) × (lid : ℕ) × (from : Place) × IsReply t p lid from × P p lid from a

    abbrev From : TerminalRow → ℕ → A → Type 0
    From p lid a = (from : Place) × (place_of t lid ≡ Some from) × P p lid from a

    from_listed : (p : TerminalRow) (lid : ℕ) → Listed (From p lid)
    from_listed p lid = given_listed (place_of t lid) (P p lid) (each p lid)

    on_replies : Listed OnReply
    on_replies = same_listed (OnPath t From from_listed) OnReply
        (λ a s. (s.0, s.1, s.3.0, record { path = s.2; place = s.3.1 }, s.3.2)) (λ a s. (s.0, s.1, s.3.path, (s.2, s.3.place, s.4)))
        (paths_listed t From from_listed)

  replied : Listed (AreOfReply t e l)
  replied = same_listed (OnReply (λ p lid from hops. reply_hops t e l p lid from ≡ hops) (λ p lid from. one_listed (reply_hops t e l p lid from))) (AreOfReply t e l)
      (λ hops s. (s.0, s.1, s.2, s.3, sym s.4)) (λ hops s. (s.0, s.1, s.2, s.3, sym s.4))
      (on_replies (λ p lid from hops. reply_hops t e l p lid from ≡ hops) (λ p lid from. one_listed (reply_hops t e l p lid from)))

  sent : Listed (AreSent t e l)
  sent = either_listed (AreOfPacket t e l) (AreOfReply t e l) packets replied

  -- ---- what they use, and the joint dependencies

  abbrev UsedAs : ℕ → Type 0
  UsedAs n = (hops : List VirtualChannel) × AreSent t e l hops × ((v : VirtualChannel) × Contains hops v × (node_of l.count v ≡ n))

  used_nodes : Listed UsedAs
  used_nodes = of_listed (AreSent t e l) (λ hops n. (v : VirtualChannel) × Contains hops v × (node_of l.count v ≡ n)) sent (λ hops. images_listed (node_of l.count) hops)

  abbrev EdgeOf : ℕ × ℕ → Type 0
  EdgeOf x = (hops : List VirtualChannel) × AreSent t e l hops × FollowAs (node_of l.count) hops x

  edges : Listed EdgeOf
  edges = of_listed (AreSent t e l) (FollowAs (node_of l.count)) sent (λ hops. follow_listed (node_of l.count) hops)

  mark : ℕ → Bool
  mark n = truth (contains_decided used_nodes.list n)

  abbrev size : ℕ
  size = length t.channels * l.count

  collected : Collected
  collected = record { used = map mark (range_with_len 0 size); pairs = edges.list }

  each_node : length collected.used ≡ size
  unfolding collected
  each_node = length-map-range_with_len mark 0 size

  mark_at : (n : ℕ) → n < size → slice_index_or collected.used n false ≡ mark n
  unfolding collected
  mark_at n low = get_or-map-range_with_len mark 0 size n n false low (omega arith)

  used_by_mark : (n : ℕ) → IsMarked collected n → (v : VirtualChannel) × IsUsedJointly t e l v × (node_of l.count v ≡ n)
  unfolding mark
  used_by_mark n is = elim (cases_lt n size) [
    | inl low ↦
        (let s : UsedAs n = used_nodes.only n (holds (contains_decided used_nodes.list n) (sym (mark_at n low) ∙ is)) in
        (s.2.0, (s.0, s.1, s.2.1), s.2.2))
    | inr past ↦ absurd (false≢true (sym (get_or_past collected.used n false (omega (arith, each_node, past))) ∙ is))
  ]

  pairs : (m n : ℕ) → Contains collected.pairs (m, n) → DependsJointlyByNode t e l m n
  unfolding collected
  pairs m n has = let s : EdgeOf (m, n) = edges.only (m, n) has in (s.2.0, s.2.1, (s.0, s.1, s.2.2), s.2.3, s.2.4)

  has_pairs : (m n : ℕ) → DependsJointlyByNode t e l m n → Contains collected.pairs (m, n)
  unfolding collected
  has_pairs m n d = edges.all (m, n) (d.2.0, d.2.1, (d.0, d.1, d.2.2, d.3, d.4))

  module _ (sound : IsSound t e l) (good : HasGoodReplies t e l) where
    used_low : (v : VirtualChannel) → IsUsedJointly t e l v → node_of l.count v < size
    used_low v u = node_low (length t.channels) l.count v.channel.0 v.lane (channel_sent t e l v u) (lane_sent t e l sound good v u)

    marked : (v : VirtualChannel) → IsUsedJointly t e l v → IsMarked collected (node_of l.count v)
    unfolding mark
    marked v u =
        mark_at (node_of l.count v) (used_low v u)
        ∙ is_true (contains_decided used_nodes.list (node_of l.count v)) (used_nodes.all (node_of l.count v) (u.0, u.1, (v, u.2, refl)))

    are : AreJointly t e l collected
    are = record {
      from_both = record {
        each = each_node;
        used = λ n is. let s = used_by_mark n is in (s.0, s.1, lane_sent t e l sound good s.0 s.1, s.2);
        pairs = pairs;
      };
      used = marked;
      pairs = has_pairs;
    }

    from_low : (m n : ℕ) → IsEdge collected.pairs m n → m < size
    from_low m n edge = let d : DependsJointlyByNode t e l m n = pairs m n edge in omega (arith, d.3, used_low d.0 (first_sent t e l d.0 d.1 d.2))

    to_low : (m n : ℕ) → IsEdge collected.pairs m n → n < size
    to_low m n edge = let d : DependsJointlyByNode t e l m n = pairs m n edge in omega (arith, d.4, used_low d.1 (second_sent t e l d.0 d.1 d.2))

  -- ---- faults

  abbrev Faulty : Placed → Type 0
  Faulty x = IsFaultAt t e l x.place x.fault

  abbrev bad_at : TerminalRow → ℕ → ℕ → ChannelRow → Placed
  bad_at p lid k row = placed (p.lid.0 ∷ lid ∷ k ∷ []) (BadLane p.lid (lid_id lid) row.tail)

  abbrev Leaving : TerminalRow → ℕ → ℕ → VirtualChannel → Placed → Type 0
  Leaving p lid k v x = (row : ChannelRow) × (slice_get t.channels v.channel.0 ≡ Some row) × (bad_at p lid k row ≡ x)

  abbrev BadHop : TerminalRow → ℕ → Place → Placed → Type 0
  BadHop p lid from x = (k : ℕ) × (v : VirtualChannel) × (slice_get (reply_hops t e l p lid from) k ≡ Some v) × ((l.count ≤ v.lane) × Leaving p lid k v x)

  bad_hops : (p : TerminalRow) (lid : ℕ) (from : Place) → Listed (BadHop p lid from)
  bad_hops p lid from =
      at_listed (reply_hops t e l p lid from) (λ k v x. (l.count ≤ v.lane) × Leaving p lid k v x)
      (λ k v. where_listed (l.count ≤ v.lane) (Leaving p lid k v) (not_below_decided l.count v.lane) (given_listed (slice_get t.channels v.channel.0) (λ row x. bad_at p lid k row ≡ x) (λ row. one_listed (bad_at p lid k row))))

  bad_there : (p : TerminalRow) (lid : ℕ) (from : Place) → IsReply t p lid from → (k : ℕ) (v : VirtualChannel) → slice_get (reply_hops t e l p lid from) k ≡ Some v →
      (row : ChannelRow) → slice_get t.channels v.channel.0 ≡ Some row → l.count ≤ v.lane → IsBadAt t e l (p.lid.0 ∷ lid ∷ k ∷ []) p.lid (lid_id lid) row.tail
  bad_there p lid from reply k v at row there bad = record {
    terminal = p;
    source = from;
    hop = k;
    taken = v;
    is_place = refl;
    reply = reply;
    to_lid = refl;
    at_hop = at;
    leaves = (row, there, refl);
    bad = bad;
  }

  faulty : Listed Faulty
  faulty = same_listed (OnReply BadHop bad_hops) Faulty to back (on_replies BadHop bad_hops)
    where
      to : (x : Placed) → OnReply BadHop bad_hops x → Faulty x
      to x s = subst Faulty s.4.3.1.2 (bad_there s.0 s.1 s.2 s.3 s.4.0 s.4.1 s.4.2 s.4.3.1.0 s.4.3.1.1 s.4.3.0)

      back_by : (place : List ℕ) (fault : Replied) → IsFaultAt t e l place fault → OnReply BadHop bad_hops (placed place fault)
      back_by place (Numbers n) f = absurd f
      back_by place (Refused n) f = absurd f
      back_by place (RingReplies n) f = absurd f
      back_by place (BadLane lid from at) f =
          let terminal : TerminalRow = f.terminal in
          let row : ChannelRow = f.leaves.0 in
          let k : ℕ = f.hop in
          let places : terminal.lid.0 ∷ from.0 ∷ k ∷ [] ≡ place = ap (λ (x : Lid). x.0 ∷ from.0 ∷ k ∷ []) f.to_lid ∙ sym f.is_place in
          let by_lid : bad_at terminal from.0 k row ≡ placed (terminal.lid.0 ∷ from.0 ∷ k ∷ []) (BadLane lid from row.tail) =
          ap (λ (x : Lid). placed (terminal.lid.0 ∷ from.0 ∷ k ∷ []) (BadLane x from row.tail)) f.to_lid in
          let by_switch : placed (terminal.lid.0 ∷ from.0 ∷ k ∷ []) (BadLane lid from row.tail) ≡ placed (terminal.lid.0 ∷ from.0 ∷ k ∷ []) (BadLane lid from at) =
          ap (λ (x : SwitchId). placed (terminal.lid.0 ∷ from.0 ∷ k ∷ []) (BadLane lid from x)) f.leaves.2 in
          let by_place : placed (terminal.lid.0 ∷ from.0 ∷ k ∷ []) (BadLane lid from at) ≡ placed place (BadLane lid from at) =
          ap (λ (x : List ℕ). placed x (BadLane lid from at)) places in
          (terminal, from.0, f.source, f.reply, (k, f.taken, f.at_hop, (f.bad, (row, f.leaves.1, by_lid ∙ by_switch ∙ by_place))))

      back : (x : Placed) → Faulty x → OnReply BadHop bad_hops x
      back x f = back_by x.place x.fault f

  -- ---- a sound plan

  module _ (fabric : IsFabric t) (fits : LanesFit t l) (sound : IsSound t e l) where
    size_small : suc size < 2 ^ 32
    size_small = omega (arith, fabric.rows.channel_count, mul-le-mul_left (length t.channels) fits.whole.count.1)

    whole : AreLaneTables (bare_lanes t l.count)
    whole = new_kept l.count (length t.switches) (length t.channels) (lids_of t) fits.whole.count (lids_are t fabric)

    numbered : (good : HasGoodReplies t e l) → IsAcyclic (IsEdge collected.pairs) → (new : LaneTables) × IsNumberedBy (IsUsedJointly t e l) (DependsJointly t e l) (bare_lanes t l.count) new
    numbered good acyclic =
        let ns : List ℕ = levels collected.pairs size (from_low sound good) acyclic (to_low sound good) in
        let low : (n : ℕ) → slice_index_or ns n 1 < 2 ^ 32 = λ n. omega (arith, listed_low collected.pairs size (from_low sound good) acyclic (to_low sound good) n, size_small) in
        let set : (new : LaneTables) × HasNumbers collected ns (bare_lanes t l.count) new = numbers_exist collected ns (bare_lanes t l.count) whole (given_small l.count collected ns (2 ^ 32) low) in
        (set.0, is_jointly_numbered t e l fits.whole.count.1 sound good set.0 collected ns (are sound good) (node_levels collected.pairs size (from_low sound good) acyclic (to_low sound good)) set.1)

    by_ring : HasGoodReplies t e l → ((ring : List ℕ) × IsFirstRing (IsEdge collected.pairs) ring) ⊎ IsAcyclic (IsEdge collected.pairs) → (answer : Replied) × IsAnswerBy t e l answer
    by_ring good (inl ring) = (RingReplies ring.0, (sound, good, joint_ring t e l collected collected.pairs ring.0 (are sound good) refl ring.1))
    by_ring good (inr acyclic) =
        let new : (new : LaneTables) × IsNumberedBy (IsUsedJointly t e l) (DependsJointly t e l) (bare_lanes t l.count) new = numbered good acyclic in
        (Numbers new.0, (sound, good, new.1))

    answers_first : (x : Placed) → Faulty x → ((earlier : List ℕ) (other : Replied) → IsBefore earlier x.place → ¬ IsFaultAt t e l earlier other) → IsAnswerBy t e l x.fault
    answers_first x f none = by x.place x.fault f none
      where
        by : (place : List ℕ) (fault : Replied) → IsFaultAt t e l place fault → ((earlier : List ℕ) (other : Replied) → IsBefore earlier place → ¬ IsFaultAt t e l earlier other) → IsAnswerBy t e l fault
        by place (Numbers n) f none = absurd f
        by place (Refused n) f none = absurd f
        by place (RingReplies n) f none = absurd f
        by place (BadLane lid from at) f none = (sound, (place, f, none))

    -- a bad lane would be a fault
    good_without : ((y : Placed) → ¬ Contains faulty.list y) → HasGoodReplies t e l
    good_without none hops v x has = elim (cases_lt v.lane l.count) [ inl low ↦ low | inr bad ↦ absurd (none _ (faulty.all (record { place = x.0.lid.0 ∷ x.1 ∷ at.0 ∷ []; fault = BadLane x.0.lid (lid_id x.1) row.0.tail }) (fault bad))) ]
      where
        at : (k : ℕ) × (slice_get (reply_hops t e l x.0 x.1 x.2) k ≡ Some v)
        at = let inside = subst (λ vs. Contains vs v) x.4 has in (inside.0, get_of (reply_hops t e l x.0 x.1 x.2) inside.0 v inside.1 inside.2)

        row : (row : ChannelRow) × (slice_get t.channels v.channel.0 ≡ Some row)
        row = some_at t.channels v.channel.0 (channel_sent t e l v (hops, inr x, has))

        fault : l.count ≤ v.lane → IsBadAt t e l (x.0.lid.0 ∷ x.1 ∷ at.0 ∷ []) x.0.lid (lid_id x.1) row.0.tail
        fault bad = record {
          terminal = x.0;
          source = x.2;
          hop = at.0;
          taken = v;
          is_place = refl;
          reply = x.3;
          to_lid = refl;
          at_hop = at.1;
          leaves = (row.0, row.1, refl);
          bad = bad;
        }

    answered : (answer : Replied) × IsAnswerBy t e l answer
    answered = elim (first_in (λ (q : Placed). q.place) faulty.list) [
      | inl f ↦
          (f.0.fault, answers_first f.0 (faulty.only f.0 f.1) (λ earlier other sooner stands. f.2 (record { place = earlier; fault = other }) (faulty.all (record { place = earlier; fault = other }) stands) sooner))
      | inr none ↦ by_ring (good_without none) (ring_or_acyclic collected.pairs)
    ]

-- with the lanes of a plan's certificate
by_certificate : (t : Topology) (p : Plan) (l : LaneTables) → IsFabric t → LanesFit t l → AreReadLanes t p.lanes l → (answer : Certified) → IsCertificateBy t p.tables l answer → (x : Replied) × IsAnswerTo t p x
by_certificate t p l fabric fits read (RefusedAs fault) is = (Refused fault, (l, read, is))
by_certificate t p l fabric fits read (RingUsed ring) is = let x = answered t p.tables l fabric fits is.0 in (x.0, (l, read, x.1))
by_certificate t p l fabric fits read (NumberedAs new) is = let x = answered t p.tables l fabric fits is.0 in (x.0, (l, read, x.1))

read_fits : (t : Topology) (o : Option LaneTables) (l : LaneTables) → IfSome o (LanesFit t) → AreReadLanes t o l → LanesFit t l
read_fits t None l fits read = read.fits
read_fits t (Some kept) l fits read = subst (LanesFit t) read fits

pub answer_exists : AnswerExists
answer_exists t p fabric fits =
    let found = certificate_exists t p fabric fits in
    by_certificate t p found.1.0 fabric (read_fits t p.lanes found.1.0 fits.lanes found.1.1) found.1.1 found.0 found.1.2

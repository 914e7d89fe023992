-- The hops of a way are collected one after the other, up to one with a bad lane, or until those behind are collected already.
use Rattle.std.proofs.Common.{◌≡◌, ℕ, zero, suc, ◌+◌, ◌-◌, ◌*◌, ◌<◌, ◌≤◌, ◌^◌, ◌⊎◌, Bool, true, false, List, [], ◌∷◌, length, drop, refl, sym, ◌∙◌, ap, subst, inl, inr, arith, Contains, Some, None, Option}
use Rattle.std.specs.Prelude.{IfSome, slice_get, slice_index_or, slice_set}
use Rattle.std.proofs.lemmas.Bool.{cases_lt, false≢true}
use Rattle.std.proofs.lemmas.List.{length-drop}
use Rattle.std.proofs.lemmas.List.Elements.{All-contains}
use Rattle.std.proofs.lemmas.Option.{same_Some, none-some, slice_get_within, get_or_from_slice_get}
use Rattle.fab_model.specs.WellFormed.{IsFabric}
use Rattle.fab_model.specs.declared.rows.ChannelRow.{ChannelRow}
use Rattle.fab_model.specs.Topology.{Topology}
use Rattle.fab_tables.specs.declared.verdict.VirtualChannel.{VirtualChannel}
use Rattle.fab_tables.specs.Entries.{Entries, cell}
use Rattle.fab_tables.specs.LaneTables.{LaneTables}
use Rattle.fab_tables.specs.Fit.{LanesFit}
use Rattle.fab_tables.specs.Route.{route}
use Rattle.fab_tables.specs.VirtualChannels.{on_channels, arrival}
use Rattle.fab_tables.specs.Dependencies.{node_of}
use Rattle.fab_tables.proofs.Verdicts.CertifiedLaws.{contains_of}
use Rattle.fab_tables.proofs.Paths.Routes.{channel_there}
use Rattle.fab_tables.proofs.Paths.Ways.{drop_step}
use Rattle.fab_tables.proofs.Paths.RoutesBehind.{behind_tail, hops_dropped, channel_of_hop, slice_dropped}
use Rattle.fab_tables.proofs.Verdicts.PlainLaws.{same_hops}
use Rattle.fab_tables.specs.Judged.{IsRoomFor, hops_from, hops_behind}
use Rattle.fab_certify.specs.Numbered.{IsSound}
use Rattle.fab_certify.specs.Collected.{Collected, IsMarked, Grows, AddsHop, HasHops, HasFirstHops, IsMarkedAt, HasBehind}
use Rattle.fab_certify.proofs.Collected.BehindHops.{hops_grow, has_rest, joined, all_first}
use Rattle.fab_certify.proofs.Collected.CollectingHops.{IsLastNode, grows_none, grows_on, node_low, node_fits}
use Rattle.fab_certify.proofs.Collected.MarksSet.{marks_only, room_for, room_still}
use Rattle.fab_replies.specs.declared.collecting.Way.{Way}
use Rattle.fab_replies.specs.Replies.{IsUsedJointly, DependsJointly, DependsJointlyByNode}
use Rattle.fab_replies.specs.Jointly.{hops_of, IsWay, IsFromBoth, AreGood, AreMarked, AreDone, IsFirstBad}

-- those behind a switch and a level are good, and are collected; without maps of pairs all from there on
pub record IsBehind (t : Topology) (e : Entries) (l : LaneTables) (lid : ℕ) (c : Collected) (s of_level : ℕ) : Type 0 where
  pub has : HasBehind t e l lid c s of_level
  pub good : AreGood l (hops_behind t e l lid s of_level)
  pub whole : l.pairs ≡ [] → AreDone l (hops_from t e l lid s 0 of_level) c

-- packets of this level have come to the switch on the way: the route from there is the rest of theirs
abbrev pub IsPassed : Topology → Entries → Way → ℕ → ℕ → ℕ → Type 0
IsPassed t e way passed s at =
    (at ≡ way.level) × ((k : ℕ) × (k < passed) × ((route t e s way.lid.0).channels ≡ drop k (route t e way.start.switch.0 way.lid.0).channels))

-- So many hops are good, and are collected. Behind each switch that is marked all is, or the packets have come to it on their way.
-- Where all from the last hop on is known to be collected, one hop is left to do.
pub record IsCollecting (t : Topology) (e : Entries) (l : LaneTables) (way : Way) (old now : Collected) (marks : List Bool) (passed : ℕ) (before : Option ℕ) (known : Bool) : Type 0 where
  pub from_both : IsFromBoth t e l now
  pub grows : Grows old now
  pub has : HasFirstHops l.count (hops_of t e l way) passed now
  pub good : (k : ℕ) (v : VirtualChannel) → k < passed → slice_get (hops_of t e l way) k ≡ Some v → v.lane < l.count
  pub last : IsLastNode l.count (hops_of t e l way) passed before
  pub before_low : IfSome before (λ m. m < length now.used)
  pub room : IsRoomFor t marks
  pub marked : (s at : ℕ) → at < 16 → IsMarkedAt marks s at → IsBehind t e l way.lid.0 now s at ⊎ IsPassed t e way passed s at
  pub rest : known ≡ true → AreDone l (drop passed (hops_of t e l way)) now

-- the iterator has these hops before it
pub record IsCollectingOn (t : Topology) (e : Entries) (l : LaneTables) (way : Way) (left : List VirtualChannel) (old now : Collected) (marks : List Bool) (before : Option ℕ) (known : Bool) : Type 0 where
  pub passed : ℕ
  pub ahead : left ≡ drop passed (hops_of t e l way)
  pub so_far : IsCollecting t e l way old now marks passed before known

behind_grows : (t : Topology) (e : Entries) (l : LaneTables) (lid s of_level : ℕ) (a b : Collected) → Grows a b → IsBehind t e l lid a s of_level → IsBehind t e l lid b s of_level
behind_grows t e l lid s of_level a b grows is = record {
  has = hops_grow l.count (hops_behind t e l lid s of_level) a b grows is.has;
  good = is.good;
  whole = λ none. record { good = (is.whole none).good; has = hops_grow l.count (hops_from t e l lid s 0 of_level) a b grows (is.whole none).has };
}

pub begins : (t : Topology) (e : Entries) (l : LaneTables) (way : Way) (left : List VirtualChannel) (c : Collected) (marks : List Bool) → left ≡ hops_of t e l way →
    IsFromBoth t e l c → AreMarked t e l way.lid.0 marks c → IsCollectingOn t e l way left c c marks None false
begins t e l way left c marks all from are = record {
  passed = 0;
  ahead = all;
  so_far = record {
    from_both = from;
    grows = grows_none c;
    has = record { used = λ k v low at. absurd (omega arith); pairs = λ k v w low a b. absurd (omega arith) };
    good = λ k v low at. absurd (omega arith);
    last = refl;
    before_low = tt;
    room = are.room;
    marked = λ s at few is. inl (record { has = are.behind s at few is; good = are.good s at few is; whole = λ none. are.whole none s at few is });
    rest = λ is. absurd (false≢true is);
  };
}

-- without maps of pairs the hops don't depend on the port, and those of the rest are the rest of them
from_any_port : (t : Topology) (l : LaneTables) (of_level p q : ℕ) (cs : List ℕ) → l.pairs ≡ [] → on_channels t l of_level p cs ≡ on_channels t l of_level q cs
from_any_port t l of_level p q cs none = same_hops t l of_level p cs none ∙ sym (same_hops t l of_level q cs none)

from_dropped : (t : Topology) (l : LaneTables) (of_level p q n : ℕ) (cs : List ℕ) → l.pairs ≡ [] → on_channels t l of_level q (drop n cs) ≡ drop n (on_channels t l of_level p cs)
from_dropped t l of_level p q zero cs none = from_any_port t l of_level q p cs none
from_dropped t l of_level p q (suc n) [] none = refl
from_dropped t l of_level p q (suc n) (c ∷ cs) none = from_dropped t l of_level (arrival (slice_get t.channels c)) q n cs none

-- from a switch that is marked all is done then
pub marked_done : (t : Topology) (e : Entries) (l : LaneTables) (way : Way) (marks : List Bool) (c : Collected) → IsWay t e l way → AreMarked t e l way.lid.0 marks c → l.pairs ≡ [] →
    IsMarkedAt marks way.start.switch.0 way.level → AreDone l (hops_of t e l way) c
marked_done t e l way marks c is are none marked =
    subst (λ vs. AreDone l vs c) (from_any_port t l way.level 0 way.start.port (route t e way.start.switch.0 way.lid.0).channels none)
    (are.whole none way.start.switch.0 way.level is.level marked)

-- the rest of good hops is good
good_rest : (l : LaneTables) (hops : List VirtualChannel) (n : ℕ) → AreGood l hops → AreGood l (drop n hops)
good_rest l hops n good k v at = good (n + k) v (sym (slice_dropped hops n k) ∙ at)

module _ (t : Topology) (fabric : IsFabric t) (e : Entries) (l : LaneTables) (lanes : LanesFit t l) (way : Way) (is_way : IsWay t e l way) (sound : IsSound t e l) where
  abbrev hops : List VirtualChannel
  hops = hops_of t e l way

  abbrev lid : ℕ
  lid = way.lid.0

  abbrev channels : List ℕ
  channels = (route t e way.start.switch.0 lid).channels

  hop_used : (k : ℕ) (v : VirtualChannel) → slice_get hops k ≡ Some v → IsUsedJointly t e l v
  hop_used k v at = (hops, is_way.sent, contains_of hops k v at)

  hop_depends : (k : ℕ) (v w : VirtualChannel) → slice_get hops k ≡ Some v → slice_get hops (suc k) ≡ Some w → DependsJointly t e l v w
  hop_depends k v w a b = (hops, is_way.sent, (k, a, b))

  channel_at : (k : ℕ) (v : VirtualChannel) → slice_get hops k ≡ Some v → slice_get channels k ≡ Some v.channel.0
  channel_at k v at = channel_of_hop t l way.level channels way.start.port k v at

  -- the next hop has a channel of the fabric, and leaves a switch of the fabric
  pub channel_low : (k : ℕ) (v : VirtualChannel) → slice_get hops k ≡ Some v → v.channel.0 < length t.channels
  channel_low k v at = channel_there t e lid fabric.rows k way.start.switch.0 v.channel.0 (channel_at k v at)

  pub small_node : (k : ℕ) (v : VirtualChannel) → slice_get hops k ≡ Some v → v.lane < l.count → node_of l.count v < 2 ^ 32
  small_node k v at low = node_fits t fabric l.count v.channel.0 v.lane lanes.whole.count.1 (channel_low k v at) low

  pub tail_low : (v : VirtualChannel) (r : ChannelRow) → slice_get t.channels v.channel.0 ≡ Some r → r.tail.0 < length t.switches
  tail_low v r is = All-contains (λ (x : ChannelRow). x.tail.0 < length t.switches) t.channels r fabric.rows.channel_tails
      (v.channel.0, slice_get_within t.channels v.channel.0 r is, get_or_from_slice_get t.channels v.channel.0 r r is)

  -- from there the route is the rest of this one
  rest_at : (k : ℕ) (v : VirtualChannel) (r : ChannelRow) → slice_get hops k ≡ Some v → slice_get t.channels v.channel.0 ≡ Some r → (route t e r.tail.0 lid).channels ≡ drop k channels
  rest_at k v r at is = behind_tail t e lid way.start.switch.0 k v.channel.0 r (sound.reaches way.start.switch.0 lid is_way.connected) (channel_at k v at) is

  -- what is behind a switch on the way
  behind_at : (k s : ℕ) → (route t e s lid).channels ≡ drop k channels → hops_behind t e l lid s way.level ≡ drop (suc k) hops
  behind_at k s same = ap (λ cs. drop 1 (on_channels t l way.level 0 cs)) same ∙ sym (hops_dropped t l way.level k way.start.port 0 channels)

  -- all from it on
  whole_at : (k s : ℕ) → (route t e s lid).channels ≡ drop k channels → l.pairs ≡ [] → hops_from t e l lid s 0 way.level ≡ drop k hops
  whole_at k s same none = ap (λ cs. on_channels t l way.level 0 cs) same ∙ from_dropped t l way.level way.start.port 0 k channels none

  -- a switch is passed but once
  passed_once : (j k s : ℕ) (v : VirtualChannel) → j < k → slice_get hops k ≡ Some v → (route t e s lid).channels ≡ drop j channels → (route t e s lid).channels ≡ drop k channels → ⊥
  passed_once j k s v less at a b = omega (
    arith,
    less,
    slice_get_within channels k v.channel.0 (channel_at k v at),
    length-drop j channels,
    length-drop k channels,
    ap (λ (xs : List ℕ). length xs) (sym a ∙ b),
  )

  -- with all hops collected, behind each mark all is
  behind_all : (old now : Collected) (marks : List Bool) (passed : ℕ) (before : Option ℕ) (known : Bool) → IsCollecting t e l way old now marks passed before known → AreDone l hops now →
      AreMarked t e l lid marks now
  behind_all old now marks passed before known so_far all = record {
    room = so_far.room;
    behind = λ s at few is. (each s at few is).has;
    good = λ s at few is. (each s at few is).good;
    whole = λ none s at few is. (each s at few is).whole none;
  }
    where
      each : (s at : ℕ) → at < 16 → IsMarkedAt marks s at → IsBehind t e l lid now s at
      each s at few is = elim (so_far.marked s at few is) [
        | inl behind ↦ behind
        | inr passing ↦
            (let at_level_is : hops_behind t e l lid s at ≡ drop (suc passing.1.0) hops = ap (λ n. hops_behind t e l lid s n) passing.0 ∙ behind_at passing.1.0 s passing.1.2 in
            record {
              has = subst (λ vs. HasHops l.count vs now) (sym at_level_is) (has_rest l.count hops (suc passing.1.0) now all.has);
              good = subst (AreGood l) (sym at_level_is) (good_rest l hops (suc passing.1.0) all.good);
              whole = λ none.
                  let whole_is : hops_from t e l lid s 0 at ≡ drop passing.1.0 hops = ap (λ n. hops_from t e l lid s 0 n) passing.0 ∙ whole_at passing.1.0 s passing.1.2 none in
                  record {
                    good = subst (AreGood l) (sym whole_is) (good_rest l hops passing.1.0 all.good);
                    has = subst (λ vs. HasHops l.count vs now) (sym whole_is) (has_rest l.count hops passing.1.0 now all.has);
                  };
            })
      ]

  -- there is room for the mark
  pub mark_low : (v : VirtualChannel) (r : ChannelRow) (marks : List Bool) → slice_get t.channels v.channel.0 ≡ Some r → IsRoomFor t marks → r.tail.0 * 16 + way.level < length marks
  mark_low v r marks is room = room_for t marks r.tail.0 way.level room (tail_low v r is) is_way.level

  -- the number of the next hop is below the count of numbers
  pub node_below : (now : Collected) (passed : ℕ) (v : VirtualChannel) → IsFromBoth t e l now → slice_get hops passed ≡ Some v → v.lane < l.count → node_of l.count v < length now.used
  node_below now passed v from at low = omega (arith, node_low (length t.channels) l.count v.channel.0 v.lane (channel_low passed v at) low, from.each)

  -- the first hop that is bad
  pub bad_found : (old now : Collected) (marks : List Bool) (passed : ℕ) (before : Option ℕ) (known : Bool) (v : VirtualChannel) (r : ChannelRow) → IsCollecting t e l way old now marks passed before known →
      slice_get hops passed ≡ Some v → slice_get t.channels v.channel.0 ≡ Some r → l.count ≤ v.lane → IsFirstBad t l hops r.tail
  bad_found old now marks passed before known v r so_far at is bad = record { hop = passed; taken = v; at_hop = at; leaves = (r, is, refl); bad = bad; none_before = λ k w less there. so_far.good k w less there }

  -- a hop is added
  module _ (old now new : Collected) (marks : List Bool) (passed : ℕ) (before : Option ℕ) (known : Bool) (v : VirtualChannel) (so_far : IsCollecting t e l way old now marks passed before known)
      (at : slice_get hops passed ≡ Some v) (low : v.lane < l.count) (adds : AddsHop before (node_of l.count v) now new) where
    used : (n : ℕ) → IsMarked new n → (w : VirtualChannel) × IsUsedJointly t e l w × (w.lane < l.count) × (node_of l.count w ≡ n)
    used n is = elim (adds.marked_only n is) [ inl was ↦ so_far.from_both.used n was | inr same ↦ (v, hop_used passed v at, low, sym same) ]

    depends : (o : Option ℕ) (m : ℕ) → IsLastNode l.count hops passed o → o ≡ Some m → (u : VirtualChannel) × DependsJointly t e l u v × (node_of l.count u ≡ m)
    depends None m last is = absurd (none-some m is)
    depends (Some k) m last is =
        (last.1, hop_depends last.0 last.1 v last.3 (ap (λ i. slice_get hops i) (sym last.2) ∙ at), last.4 ∙ same_Some k m is)

    pairs : (m n : ℕ) → Contains new.pairs (m, n) → DependsJointlyByNode t e l m n
    pairs m n has = elim (adds.paired_only (m, n) has) [
      | inl was ↦ so_far.from_both.pairs m n was
      | inr is ↦ (let u : (u : VirtualChannel) × DependsJointly t e l u v × (node_of l.count u ≡ m) = depends before m so_far.last is.0 in (u.0, v, u.1, u.2, sym is.1))
    ]

    has_used : (k : ℕ) (w : VirtualChannel) → k < suc passed → slice_get hops k ≡ Some w → IsMarked new (node_of l.count w)
    has_used k w less there_w = elim (cases_lt k passed) [
      | inl sooner ↦ adds.grows.used (node_of l.count w) (so_far.has.used k w sooner there_w)
      | inr now_at ↦
          (let same : passed ≡ k = omega arith in
          let is : v ≡ w = same_Some v w (sym at ∙ ap (λ i. slice_get hops i) same ∙ there_w) in
          subst (λ (x : VirtualChannel). IsMarked new (node_of l.count x)) is adds.marked)
    ]

    has_pairs : (k : ℕ) (u w : VirtualChannel) → suc k < suc passed → slice_get hops k ≡ Some u → slice_get hops (suc k) ≡ Some w → Contains new.pairs (node_of l.count u, node_of l.count w)
    has_pairs k u w less a b = elim (cases_lt (suc k) passed) [
      | inl sooner ↦ adds.grows.pairs (node_of l.count u, node_of l.count w) (so_far.has.pairs k u w sooner a b)
      | inr now_at ↦ (let same : passed ≡ suc k = omega arith in by_before same before so_far.last adds.paired)
    ]
      where
        by_before : passed ≡ suc k → (o : Option ℕ) → IsLastNode l.count hops passed o → IfSome o (λ m. Contains new.pairs (m, node_of l.count v)) → Contains new.pairs (node_of l.count u, node_of l.count w)
        by_before same None last paired = absurd (omega (arith, last, same))
        by_before same (Some m) last paired =
            let index : last.0 ≡ k = omega (arith, last.2, same) in
            let first : m ≡ node_of l.count u = sym last.4 ∙ ap (λ (x : VirtualChannel). node_of l.count x) (same_Some last.1 u (sym last.3 ∙ ap (λ i. slice_get hops i) index ∙ a)) in
            let second : v ≡ w = same_Some v w (sym at ∙ ap (λ i. slice_get hops i) same ∙ b) in
            subst (λ (x : VirtualChannel). Contains new.pairs (node_of l.count u, node_of l.count x)) second (subst (λ n. Contains new.pairs (n, node_of l.count v)) first paired)

    good_now : (k : ℕ) (w : VirtualChannel) → k < suc passed → slice_get hops k ≡ Some w → w.lane < l.count
    good_now k w less there_w = elim (cases_lt k passed) [
      | inl sooner ↦ so_far.good k w sooner there_w
      | inr now_at ↦
          (let same : passed ≡ k = omega arith in
          subst (λ (x : VirtualChannel). x.lane < l.count) (same_Some v w (sym at ∙ ap (λ i. slice_get hops i) same ∙ there_w)) low)
    ]

    pub from_both_now : IsFromBoth t e l new
    from_both_now = record { each = adds.grows.each ∙ so_far.from_both.each; used = used; pairs = pairs }

    pub grows_now : Grows old new
    grows_now = grows_on old now new so_far.grows adds.grows

    has_now : HasFirstHops l.count hops (suc passed) new
    has_now = record { used = has_used; pairs = has_pairs }

    -- what was behind a mark stays there
    marked_still : (s on : ℕ) → on < 16 → IsMarkedAt marks s on → IsBehind t e l lid new s on ⊎ IsPassed t e way (suc passed) s on
    marked_still s on few is = elim (so_far.marked s on few is) [
      | inl behind ↦ inl (behind_grows t e l lid s on now new adds.grows behind)
      | inr passing ↦ inr (passing.0, (passing.1.0, omega (arith, passing.1.1), passing.1.2))
    ]

    before_low_now : node_of l.count v < length new.used
    before_low_now = omega (arith, node_below now passed v so_far.from_both at low, adds.grows.each)

    hop_added : IsCollecting t e l way old new marks (suc passed) (Some (node_of l.count v)) false
    hop_added = record {
      from_both = from_both_now;
      grows = grows_now;
      has = has_now;
      good = good_now;
      last = (passed, v, refl, at, refl);
      before_low = before_low_now;
      room = so_far.room;
      marked = marked_still;
      rest = λ is. absurd (false≢true is);
    }

    -- where all from here on was known to be collected, the way is
    pub known_done : known ≡ true → AreDone l hops new
    known_done is = record {
      has = joined l.count hops passed new has_now (hops_grow l.count (drop passed hops) now new adds.grows (so_far.rest is).has);
      good = λ k w there_w. elim (cases_lt k passed) [
        | inl sooner ↦ so_far.good k w sooner there_w
        | inr past ↦
            (let offset : passed + (k - passed) ≡ k = omega (arith, past) in
            (so_far.rest is).good (k - passed) w (slice_dropped hops passed (k - passed) ∙ ap (λ i. slice_get hops i) offset ∙ there_w))
      ];
    }

    pub known_marked : known ≡ true → AreMarked t e l lid marks new
    known_marked is = behind_all old new marks (suc passed) (Some (node_of l.count v)) false hop_added (known_done is)

    -- the switch that the hop leaves is marked
    module _ (r : ChannelRow) (is_row : slice_get t.channels v.channel.0 ≡ Some r) (was : Bool) (read : was ≡ slice_index_or marks (cell 16 r.tail.0 way.level) false) where
      on_way : (route t e r.tail.0 lid).channels ≡ drop passed channels
      on_way = rest_at passed v r at is_row

      behind_here : was ≡ true → AreDone l (drop (suc passed) hops) new
      behind_here is = elim (so_far.marked r.tail.0 way.level is_way.level (sym read ∙ is)) [
        | inl behind ↦
            (let still : IsBehind t e l lid new r.tail.0 way.level = behind_grows t e l lid r.tail.0 way.level now new adds.grows behind in
            subst (λ vs. AreDone l vs new) (behind_at passed r.tail.0 on_way) (record { good = still.good; has = still.has }))
        | inr passing ↦ absurd (passed_once passing.1.0 passed r.tail.0 v passing.1.1 at passing.1.2 on_way)
      ]

      pub hop_marked : IsCollecting t e l way old new (slice_set marks (cell 16 r.tail.0 way.level) true) (suc passed) (Some (node_of l.count v)) was
      hop_marked = record {
        from_both = from_both_now;
        grows = grows_now;
        has = has_now;
        good = good_now;
        last = (passed, v, refl, at, refl);
        before_low = before_low_now;
        room = room_still t marks (cell 16 r.tail.0 way.level) so_far.room;
        marked = λ s on few is. elim (marks_only marks r.tail.0 way.level s on is_way.level few is) [
          | inl before_it ↦ marked_still s on few before_it
          | inr here ↦ inr (here.1, (passed, omega arith, ap (λ x. (route t e x lid).channels) here.0 ∙ on_way))
        ];
        rest = behind_here;
      }

  -- the iterator gives a hop
  pub next_hop : (left after : List VirtualChannel) (passed : ℕ) (v : VirtualChannel) → left ≡ drop passed hops → left ≡ v ∷ after → (slice_get hops passed ≡ Some v) × (after ≡ drop (suc passed) hops)
  next_hop left after passed v ahead takes = drop_step hops after passed v (sym takes ∙ ahead)

  -- at the end of the way all is collected
  module _ (old now : Collected) (marks : List Bool) (before : Option ℕ) (known : Bool) (left : List VirtualChannel) (on : IsCollectingOn t e l way left old now marks before known) (over : left ≡ []) where
    ended : length hops ≤ on.passed
    ended = omega (arith, length-drop on.passed hops, ap (λ (xs : List VirtualChannel). length xs) (sym over ∙ on.ahead))

    pub all_done : AreDone l hops now
    all_done = record { has = all_first l.count hops on.passed now on.so_far.has ended; good = λ k v at. on.so_far.good k v (omega (arith, ended, slice_get_within hops k v at)) at }

    pub all_marked : AreMarked t e l lid marks now
    all_marked = behind_all old now marks on.passed before known on.so_far all_done

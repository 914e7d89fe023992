-- The hops of a route are collected one after the other, until those behind are collected already.
use Rattle.std.proofs.Common.{◌≡◌, ℕ, suc, ◌+◌, ◌*◌, ◌<◌, ◌≤◌, ◌^◌, ◌⊎◌, Bool, true, false, List, [], ◌∷◌, length, drop, refl, sym, ◌∙◌, ap, subst, inl, inr, arith, Contains, Some, None, Option}
use Rattle.std.specs.Prelude.{IfSome, slice_get, slice_index_or, slice_set}
use Rattle.std.proofs.lemmas.Bool.{cases_lt, false≢true}
use Rattle.std.proofs.lemmas.List.{length-drop}
use Rattle.std.proofs.lemmas.List.Elements.{All-contains}
use Rattle.std.proofs.lemmas.Nat.{mul-add-lt}
use Rattle.std.proofs.lemmas.Option.{same_Some, none-some, slice_get_within, get_or_from_slice_get}
use Rattle.std.proofs.Math.Nat.{mul-le-mul_left}
use Rattle.fab_model.specs.Connected.{IsConnectedTo}
use Rattle.fab_model.specs.WellFormed.{IsFabric}
use Rattle.fab_model.specs.declared.rows.ChannelRow.{ChannelRow}
use Rattle.fab_model.specs.declared.rows.Lid.{Lid}
use Rattle.fab_model.specs.declared.rows.TerminalRow.{TerminalRow}
use Rattle.fab_model.specs.Topology.{Topology}
use Rattle.fab_tables.specs.declared.verdict.VirtualChannel.{VirtualChannel}
use Rattle.fab_tables.specs.Entries.{Entries, cell}
use Rattle.fab_tables.specs.LaneTables.{LaneTables, level}
use Rattle.fab_tables.specs.Route.{route}
use Rattle.fab_tables.specs.VirtualChannels.{virtual_channels, on_channels, at_level}
use Rattle.fab_tables.specs.Dependencies.{IsPath, IsUsed, Depends, DependsByNode, node_of}
use Rattle.fab_tables.proofs.Verdicts.CertifiedLaws.{contains_of}
use Rattle.fab_tables.proofs.Paths.Routes.{channel_there}
use Rattle.fab_tables.proofs.Paths.Ways.{drop_step}
use Rattle.fab_tables.proofs.Rows.LevelsLow.{level_low}
use Rattle.fab_tables.proofs.Paths.RoutesBehind.{behind_tail, hops_dropped, channel_of_hop}
use Rattle.fab_tables.specs.Judged.{IsRoomFor, hops_from, hops_behind}
use Rattle.fab_tables.specs.declared.starts.Start.{Start}
use Rattle.fab_tables.specs.Starts.{StartsAt}
use Rattle.fab_certify.specs.Numbered.{IsSound}
use Rattle.fab_certify.specs.Collected.{Collected, IsMarked, Grows, AddsHop, IsFromRoutes, HasHops, HasFirstHops, HasRoutes, IsMarkedAt, HasBehind, AreBehind}
use Rattle.fab_certify.proofs.Collected.BehindHops.{hops_grow, has_rest, joined, all_first}
use Rattle.fab_certify.proofs.Collected.MarksSet.{marks_only, room_for, room_still}

-- the hops of the route from a start
abbrev pub start_hops : Topology → Entries → LaneTables → Lid → Start → ℕ → List VirtualChannel
start_hops t e l lid start of_level = hops_from t e l lid.0 start.switch.0 start.port of_level

-- the number of the hop before, if there is one
abbrev pub IsLastNode : ℕ → List VirtualChannel → ℕ → Option ℕ → Type 0
IsLastNode count hops passed None = passed ≡ 0
IsLastNode count hops passed (Some m) = (k : ℕ) × (v : VirtualChannel) × (passed ≡ suc k) × (slice_get hops k ≡ Some v) × (node_of count v ≡ m)

-- packets of this level have come to the switch on the way: the route from there is the rest of theirs
abbrev pub IsPassed : Topology → Entries → Lid → Start → ℕ → ℕ → ℕ → ℕ → Type 0
IsPassed t e lid start of_level passed s at =
    (at ≡ of_level) × ((k : ℕ) × (k < passed) × ((route t e s lid.0).channels ≡ drop k (route t e start.switch.0 lid.0).channels))

-- So many hops are collected. Behind each switch that is marked all is collected, or the packets have come to it on their way.
-- Where all from the last hop on is known to be collected, one hop is left to do.
pub record IsCollecting (t : Topology) (e : Entries) (l : LaneTables) (lid : Lid) (start : Start) (of_level : ℕ) (old now : Collected) (marks : List Bool) (passed : ℕ) (before : Option ℕ) (known : Bool) : Type 0 where
  pub from_routes : IsFromRoutes t e l now
  pub grows : Grows old now
  pub has : HasFirstHops l.count (start_hops t e l lid start of_level) passed now
  pub last : IsLastNode l.count (start_hops t e l lid start of_level) passed before
  pub before_low : IfSome before (λ m. m < length now.used)
  pub room : IsRoomFor t marks
  pub marked : (s at : ℕ) → at < 16 → IsMarkedAt marks s at → HasBehind t e l lid.0 now s at ⊎ IsPassed t e lid start of_level passed s at
  pub rest : known ≡ true → HasHops l.count (drop passed (start_hops t e l lid start of_level)) now

-- the iterator has these hops before it
pub record IsCollectingOn (t : Topology) (e : Entries) (l : LaneTables) (lid : Lid) (start : Start) (of_level : ℕ) (left : List VirtualChannel) (old now : Collected) (marks : List Bool) (before : Option ℕ) (known : Bool) : Type 0 where
  pub passed : ℕ
  pub ahead : left ≡ drop passed (start_hops t e l lid start of_level)
  pub so_far : IsCollecting t e l lid start of_level old now marks passed before known

pub grows_none : (c : Collected) → Grows c c
grows_none c = record { each = refl; used = λ n h. h; pairs = λ x h. h }

pub grows_on : (a b c : Collected) → Grows a b → Grows b c → Grows a c
grows_on a b c x y = record { each = y.each ∙ x.each; used = λ n h. y.used n (x.used n h); pairs = λ p h. y.pairs p (x.pairs p h) }

-- what is behind a mark stays collected
pub behind_grows : (t : Topology) (e : Entries) (l : LaneTables) (lid : ℕ) (marks : List Bool) (a b : Collected) → Grows a b → AreBehind t e l lid marks a → AreBehind t e l lid marks b
behind_grows t e l lid marks a b grows are s at few is = hops_grow l.count (hops_behind t e l lid s at) a b grows (are s at few is)

pub begins : (t : Topology) (e : Entries) (l : LaneTables) (lid : Lid) (start : Start) (of_level : ℕ) (left : List VirtualChannel) (c : Collected) (marks : List Bool) → left ≡ start_hops t e l lid start of_level →
    IsRoomFor t marks → IsFromRoutes t e l c → AreBehind t e l lid.0 marks c → IsCollectingOn t e l lid start of_level left c c marks None false
begins t e l lid start of_level left c marks all each from behind = record {
  passed = 0;
  ahead = all;
  so_far = record {
    from_routes = from;
    grows = grows_none c;
    has = record { used = λ k v low at. absurd (omega arith); pairs = λ k v w low a b. absurd (omega arith) };
    last = refl;
    before_low = tt;
    room = each;
    marked = λ s at few is. inl (behind s at few is);
    rest = λ is. absurd (false≢true is);
  };
}

-- a number by channel and lane is small
pub node_low : (channels count c lane : ℕ) → c < channels → lane < count → c * count + lane < channels * count
node_low channels count c lane a b = omega (arith, mul-add-lt c count lane channels a b)

pub node_fits : (t : Topology) → IsFabric t → (count c lane : ℕ) → count ≤ 15 → c < length t.channels → lane < count → c * count + lane < 2 ^ 32
node_fits t fabric count c lane few a b = omega (arith, fabric.rows.channel_count, mul-le-mul_left c few)

module _ (t : Topology) (e : Entries) (l : LaneTables) (lid : Lid) (start : Start) (of_level : ℕ) (starts : StartsAt t e l lid.0 start of_level) (sound : IsSound t e l) where
  abbrev hops : List VirtualChannel
  hops = start_hops t e l lid start of_level

  abbrev channels : List ℕ
  channels = (route t e start.switch.0 lid.0).channels

  abbrev row : TerminalRow
  row = starts.terminal.0

  -- a terminal of the start has just these hops
  same_hops : (p : TerminalRow) → p.switch.0 ≡ start.switch.0 → p.port ≡ start.port → virtual_channels t e l p lid.0 ≡ hops
  same_hops p a b =
      ap (λ x. at_level t l p.port ((route t e x lid.0).channels) (level l x lid.0)) a
      ∙ ap (λ x. at_level t l x ((route t e start.switch.0 lid.0).channels) (level l start.switch.0 lid.0)) b
      ∙ ap (λ o. at_level t l start.port ((route t e start.switch.0 lid.0).channels) o) starts.has_level

  there : virtual_channels t e l row lid.0 ≡ hops
  there = same_hops row (ap (λ (x : Start). x.switch.0) starts.terminal.2) (ap (λ (x : Start). x.port) starts.terminal.2)

  path : IsPath t row lid.0
  path = record { terminal = starts.terminal.1; connected = subst (λ (x : Start). IsConnectedTo t x.switch.0 lid.0) (sym starts.terminal.2) starts.connected }

  hop_used : (k : ℕ) (v : VirtualChannel) → slice_get hops k ≡ Some v → IsUsed t e l v
  hop_used k v at = (row, lid.0, path, contains_of (virtual_channels t e l row lid.0) k v (ap (λ vs. slice_get vs k) there ∙ at))

  hop_depends : (k : ℕ) (v w : VirtualChannel) → slice_get hops k ≡ Some v → slice_get hops (suc k) ≡ Some w → Depends t e l v w
  hop_depends k v w a b = (row, lid.0, path, (k, ap (λ vs. slice_get vs k) there ∙ a, ap (λ vs. slice_get vs (suc k)) there ∙ b))

  channel_at : (k : ℕ) (v : VirtualChannel) → slice_get hops k ≡ Some v → slice_get channels k ≡ Some v.channel.0
  channel_at k v at = channel_of_hop t l of_level channels start.port k v at

  -- the next hop has a channel of the fabric and a lane below the count, and leaves a switch of the fabric
  pub channel_low : (k : ℕ) (v : VirtualChannel) → slice_get hops k ≡ Some v → v.channel.0 < length t.channels
  channel_low k v at = channel_there t e lid.0 starts.toward.fabric.rows k start.switch.0 v.channel.0 (channel_at k v at)

  pub start_low : start.switch.0 < length t.switches
  start_low = subst (λ (x : Start). x.switch.0 < length t.switches) starts.terminal.2 (All-contains (λ (r : TerminalRow). r.switch.0 < length t.switches) t.terminals row starts.toward.fabric.rows.terminal_switches starts.terminal.1)

  pub level_few : of_level < 16
  level_few = level_low l start.switch.0 lid.0 of_level starts.lanes.whole starts.has_level

  pub lane_low : (k : ℕ) (v : VirtualChannel) → slice_get hops k ≡ Some v → v.lane < l.count
  lane_low k v at = sound.lane v (hop_used k v at)

  pub small_node : (k : ℕ) (v : VirtualChannel) → slice_get hops k ≡ Some v → node_of l.count v < 2 ^ 32
  small_node k v at = node_fits t starts.toward.fabric l.count v.channel.0 v.lane starts.lanes.whole.count.1 (channel_low k v at) (lane_low k v at)

  tail_low : (v : VirtualChannel) (r : ChannelRow) → slice_get t.channels v.channel.0 ≡ Some r → r.tail.0 < length t.switches
  tail_low v r is = All-contains (λ (x : ChannelRow). x.tail.0 < length t.switches) t.channels r starts.toward.fabric.rows.channel_tails
      (v.channel.0, slice_get_within t.channels v.channel.0 r is, get_or_from_slice_get t.channels v.channel.0 r r is)

  -- from there the route is the rest of this one
  rest_at : (k : ℕ) (v : VirtualChannel) (r : ChannelRow) → slice_get hops k ≡ Some v → slice_get t.channels v.channel.0 ≡ Some r → (route t e r.tail.0 lid.0).channels ≡ drop k channels
  rest_at k v r at is = behind_tail t e lid.0 start.switch.0 k v.channel.0 r (sound.reaches start.switch.0 lid.0 starts.connected) (channel_at k v at) is

  -- what is behind a switch on the way
  behind_at : (k s : ℕ) → (route t e s lid.0).channels ≡ drop k channels → hops_behind t e l lid.0 s of_level ≡ drop (suc k) hops
  behind_at k s same = ap (λ cs. drop 1 (on_channels t l of_level 0 cs)) same ∙ sym (hops_dropped t l of_level k start.port 0 channels)

  -- a switch is passed but once
  passed_once : (j k s : ℕ) (v : VirtualChannel) → j < k → slice_get hops k ≡ Some v → (route t e s lid.0).channels ≡ drop j channels → (route t e s lid.0).channels ≡ drop k channels → ⊥
  passed_once j k s v less at a b = omega (
    arith,
    less,
    slice_get_within channels k v.channel.0 (channel_at k v at),
    length-drop j channels,
    length-drop k channels,
    ap (λ (xs : List ℕ). length xs) (sym a ∙ b),
  )

  -- with all hops collected, behind each mark all is
  behind_all : (old now : Collected) (marks : List Bool) (passed : ℕ) (before : Option ℕ) (known : Bool) → IsCollecting t e l lid start of_level old now marks passed before known → HasHops l.count hops now →
      AreBehind t e l lid.0 marks now
  behind_all old now marks passed before known so_far all s at few is = elim (so_far.marked s at few is) [
    | inl behind ↦ behind
    | inr way ↦
        (let at_level_is : hops_behind t e l lid.0 s at ≡ drop (suc way.1.0) hops = ap (λ n. hops_behind t e l lid.0 s n) way.0 ∙ behind_at way.1.0 s way.1.2 in
        subst (λ vs. HasHops l.count vs now) (sym at_level_is) (has_rest l.count hops (suc way.1.0) now all))
  ]

  -- and so have all terminals of the start
  routes_of : (now : Collected) → HasHops l.count hops now → HasRoutes t e l lid.0 start now
  routes_of now all p to_lid is =
      subst (λ vs. HasHops l.count vs now) (sym (same_hops p (ap (λ (x : Start). x.switch.0) is) (ap (λ (x : Start). x.port) is))) all

  -- there is room for the mark
  pub mark_low : (v : VirtualChannel) (r : ChannelRow) (marks : List Bool) → slice_get t.channels v.channel.0 ≡ Some r → IsRoomFor t marks → r.tail.0 * 16 + of_level < length marks
  mark_low v r marks is room = room_for t marks r.tail.0 of_level room (tail_low v r is) level_few

  -- the number of the next hop is below the count of numbers
  pub node_below : (now : Collected) (passed : ℕ) (v : VirtualChannel) → IsFromRoutes t e l now → slice_get hops passed ≡ Some v → node_of l.count v < length now.used
  node_below now passed v from at = omega (arith, node_low (length t.channels) l.count v.channel.0 v.lane (channel_low passed v at) (lane_low passed v at), from.each)

  -- a hop is added
  module _ (old now new : Collected) (marks : List Bool) (passed : ℕ) (before : Option ℕ) (known : Bool) (v : VirtualChannel) (so_far : IsCollecting t e l lid start of_level old now marks passed before known)
      (at : slice_get hops passed ≡ Some v) (adds : AddsHop before (node_of l.count v) now new) where
    used : (n : ℕ) → IsMarked new n → (w : VirtualChannel) × IsUsed t e l w × (node_of l.count w ≡ n)
    used n is = elim (adds.marked_only n is) [ inl was ↦ so_far.from_routes.used n was | inr same ↦ (v, hop_used passed v at, sym same) ]

    depends : (o : Option ℕ) (m : ℕ) → IsLastNode l.count hops passed o → o ≡ Some m → (u : VirtualChannel) × Depends t e l u v × (node_of l.count u ≡ m)
    depends None m last is = absurd (none-some m is)
    depends (Some k) m last is =
        (last.1, hop_depends last.0 last.1 v last.3 (ap (λ i. slice_get hops i) (sym last.2) ∙ at), last.4 ∙ same_Some k m is)

    pairs : (m n : ℕ) → Contains new.pairs (m, n) → DependsByNode t e l m n
    pairs m n has = elim (adds.paired_only (m, n) has) [
      | inl was ↦ so_far.from_routes.pairs m n was
      | inr is ↦ (let u : (u : VirtualChannel) × Depends t e l u v × (node_of l.count u ≡ m) = depends before m so_far.last is.0 in (u.0, v, u.1, u.2, sym is.1))
    ]

    has_used : (k : ℕ) (w : VirtualChannel) → k < suc passed → slice_get hops k ≡ Some w → IsMarked new (node_of l.count w)
    has_used k w less there_w = elim (cases_lt k passed) [
      | inl sooner ↦ adds.grows.used (node_of l.count w) (so_far.has.used k w sooner there_w)
      | inr now_at ↦
          (let same : passed ≡ k = omega arith in
          let is : v ≡ w = same_Some v w (sym at ∙ ap (λ i. slice_get hops i) same ∙ there_w) in
          subst (λ (x : VirtualChannel). IsMarked new (node_of l.count x)) is adds.marked)
    ]

    has_pairs : (k : ℕ) (u w : VirtualChannel) → suc k < suc passed → slice_get hops k ≡ Some u → slice_get hops (suc k) ≡ Some w → Contains new.pairs (node_of l.count u, node_of l.count w)
    has_pairs k u w less a b = elim (cases_lt (suc k) passed) [
      | inl sooner ↦ adds.grows.pairs (node_of l.count u, node_of l.count w) (so_far.has.pairs k u w sooner a b)
      | inr now_at ↦ (let same : passed ≡ suc k = omega arith in by_before same before so_far.last adds.paired)
    ]
      where
        by_before : passed ≡ suc k → (o : Option ℕ) → IsLastNode l.count hops passed o → IfSome o (λ m. Contains new.pairs (m, node_of l.count v)) → Contains new.pairs (node_of l.count u, node_of l.count w)
        by_before same None last paired = absurd (omega (arith, last, same))
        by_before same (Some m) last paired =
            let index : last.0 ≡ k = omega (arith, last.2, same) in
            let first : m ≡ node_of l.count u = sym last.4 ∙ ap (λ (x : VirtualChannel). node_of l.count x) (same_Some last.1 u (sym last.3 ∙ ap (λ i. slice_get hops i) index ∙ a)) in
            let second : v ≡ w = same_Some v w (sym at ∙ ap (λ i. slice_get hops i) same ∙ b) in
            subst (λ (x : VirtualChannel). Contains new.pairs (node_of l.count u, node_of l.count x)) second (subst (λ n. Contains new.pairs (n, node_of l.count v)) first paired)

    from_routes_now : IsFromRoutes t e l new
    from_routes_now = record { each = adds.grows.each ∙ so_far.from_routes.each; used = used; pairs = pairs }

    grows_now : Grows old new
    grows_now = grows_on old now new so_far.grows adds.grows

    has_now : HasFirstHops l.count hops (suc passed) new
    has_now = record { used = has_used; pairs = has_pairs }

    -- what was behind a mark stays there
    marked_still : (s on : ℕ) → on < 16 → IsMarkedAt marks s on → HasBehind t e l lid.0 new s on ⊎ IsPassed t e lid start of_level (suc passed) s on
    marked_still s on few is = elim (so_far.marked s on few is) [
      | inl behind ↦ inl (hops_grow l.count (hops_behind t e l lid.0 s on) now new adds.grows behind)
      | inr way ↦ inr (way.0, (way.1.0, omega (arith, way.1.1), way.1.2))
    ]

    hop_added : IsCollecting t e l lid start of_level old new marks (suc passed) (Some (node_of l.count v)) false
    hop_added = record {
      from_routes = from_routes_now;
      grows = grows_now;
      has = has_now;
      last = (passed, v, refl, at, refl);
      before_low = omega (arith, node_below now passed v so_far.from_routes at, adds.grows.each);
      room = so_far.room;
      marked = marked_still;
      rest = λ is. absurd (false≢true is);
    }

    -- where all from here on was known to be collected, the route is
    known_hops : known ≡ true → HasHops l.count hops new
    known_hops is = joined l.count hops passed new has_now (hops_grow l.count (drop passed hops) now new adds.grows (so_far.rest is))

    pub known_routes : known ≡ true → HasRoutes t e l lid.0 start new
    known_routes is = routes_of new (known_hops is)

    pub known_behind : known ≡ true → AreBehind t e l lid.0 marks new
    known_behind is = behind_all old new marks (suc passed) (Some (node_of l.count v)) false hop_added (known_hops is)

    pub known_from_routes : IsFromRoutes t e l new
    known_from_routes = from_routes_now

    pub known_grows : Grows old new
    known_grows = grows_now

    -- the switch that the hop leaves is marked
    module _ (r : ChannelRow) (is_row : slice_get t.channels v.channel.0 ≡ Some r) (was : Bool) (read : was ≡ slice_index_or marks (cell 16 r.tail.0 of_level) false) where
      on_way : (route t e r.tail.0 lid.0).channels ≡ drop passed channels
      on_way = rest_at passed v r at is_row

      behind_here : was ≡ true → HasHops l.count (drop (suc passed) hops) new
      behind_here is = elim (so_far.marked r.tail.0 of_level level_few (sym read ∙ is)) [
        | inl behind ↦ subst (λ vs. HasHops l.count vs new) (behind_at passed r.tail.0 on_way) (hops_grow l.count (hops_behind t e l lid.0 r.tail.0 of_level) now new adds.grows behind)
        | inr way ↦ absurd (passed_once way.1.0 passed r.tail.0 v way.1.1 at way.1.2 on_way)
      ]

      pub hop_marked : IsCollecting t e l lid start of_level old new (slice_set marks (cell 16 r.tail.0 of_level) true) (suc passed) (Some (node_of l.count v)) was
      hop_marked = record {
        from_routes = from_routes_now;
        grows = grows_now;
        has = has_now;
        last = (passed, v, refl, at, refl);
        before_low = hop_added.before_low;
        room = room_still t marks (cell 16 r.tail.0 of_level) so_far.room;
        marked = λ s on few is. elim (marks_only marks r.tail.0 of_level s on level_few few is) [
          | inl before_it ↦ marked_still s on few before_it
          | inr here ↦ inr (here.1, (passed, omega arith, ap (λ x. (route t e x lid.0).channels) here.0 ∙ on_way))
        ];
        rest = behind_here;
      }

  -- the iterator gives a hop
  pub next_hop : (left after : List VirtualChannel) (passed : ℕ) (v : VirtualChannel) → left ≡ drop passed hops → left ≡ v ∷ after → (slice_get hops passed ≡ Some v) × (after ≡ drop (suc passed) hops)
  next_hop left after passed v ahead takes = drop_step hops after passed v (sym takes ∙ ahead)

  -- at the end of the route all is collected
  module _ (old now : Collected) (marks : List Bool) (before : Option ℕ) (known : Bool) (left : List VirtualChannel) (on : IsCollectingOn t e l lid start of_level left old now marks before known) (over : left ≡ []) where
    all_hops : HasHops l.count hops now
    all_hops = all_first l.count hops on.passed now on.so_far.has
        (omega (arith, length-drop on.passed hops, ap (λ (xs : List VirtualChannel). length xs) (sym over ∙ on.ahead)))

    pub has_routes : HasRoutes t e l lid.0 start now
    has_routes = routes_of now all_hops

    pub are_behind : AreBehind t e l lid.0 marks now
    are_behind = behind_all old now marks on.passed before known on.so_far all_hops

-- Packets are collected from start to start, replies from LID to LID, and both from LID to LID.
use Rattle.std.proofs.Common.{◌≡◌, ℕ, ◌+◌, ◌*◌, ◌<◌, ◌≤◌, Bool, false, List, [], length, replicate, refl, sym, ◌∙◌, ap, subst, inl, inr, arith, Contains, Some, None, Option, slice_get}
use Rattle.std.specs.Prelude.{MatchOption, IsSome, slice_index_or}
use Rattle.std.proofs.lemmas.Bool.{cases_lt, false≢true}
use Rattle.std.proofs.lemmas.List.{length-replicate}
use Rattle.std.proofs.lemmas.List.Elements.{All-contains}
use Rattle.std.proofs.lemmas.Option.{same_Some}
use Rattle.fab_model.specs.declared.rows.Lid.{Lid}
use Rattle.fab_model.specs.declared.rows.Place.{Place}
use Rattle.fab_model.specs.declared.rows.SwitchId.{SwitchId}
use Rattle.fab_model.specs.declared.rows.TerminalRow.{TerminalRow}
use Rattle.fab_model.specs.Topology.{Topology, lids_of}
use Rattle.fab_model.specs.Connected.{IsConnectedTo}
use Rattle.fab_model.specs.WellFormed.{IsFabric}
use Rattle.fab_tables.specs.declared.starts.Start.{Start}
use Rattle.fab_tables.specs.declared.verdict.VirtualChannel.{VirtualChannel}
use Rattle.fab_tables.specs.Entries.{Entries, cell}
use Rattle.fab_tables.specs.Fit.{LanesFit}
use Rattle.fab_tables.specs.LaneTables.{LaneTables, level}
use Rattle.fab_tables.specs.Judged.{IsRoomFor}
use Rattle.fab_tables.specs.Route.{route}
use Rattle.fab_tables.specs.Starts.{start_of, IsOfTerminal, StandsFor, AreStartsFor}
use Rattle.fab_tables.specs.Dependencies.{node_of}
use Rattle.fab_tables.specs.VirtualChannels.{virtual_channels, at_level}
use Rattle.fab_tables.specs.Plain.{plain_channels}
use Rattle.fab_tables.proofs.Joined.Lids.{connected_in_use, lid_in_use}
use Rattle.fab_tables.proofs.Rows.LevelsLow.{level_low}
use Rattle.fab_tables.proofs.Verdicts.CertifiedLaws.{contains_of, get_of}
use Rattle.fab_tables.proofs.Verdicts.PlainLaws.{same_channels}
use Rattle.fab_certify.specs.Collected.{Collected, Grows, HasHops, HasRoutes}
use Rattle.fab_certify.specs.Numbered.{IsSound}
use Rattle.fab_certify.proofs.Collected.BehindHops.{hops_grow}
use Rattle.fab_certify.proofs.Collected.CollectingHops.{grows_none, grows_on}
use Rattle.fab_certify.proofs.Collected.MarksSet.{none_behind}
use Rattle.fab_certify.proofs.Engines.Mapping.{all_alike}
use Rattle.fab_replies.specs.declared.collecting.Way.{Way}
use Rattle.fab_replies.specs.Replies.{IsReply, reply_hops, AreOfPacket, AreOfReply, AreSent, DependsJointly}
use Rattle.fab_replies.specs.Answers.{HasGoodReplies}
use Rattle.fab_replies.specs.Jointly.{hops_of, IsWay, IsFromBoth, AreGood, AreMarked, AreDone, IsFirstBad, HasPacketsTo, AreJointly}
use Rattle.fab_replies.specs.ReplyTo.{HasReply, IsBadReply, HasReplies, FindsReplyWay}
use Rattle.fab_replies.proofs.OneReplied.{one_terminal}
use Rattle.fab_replies.proofs.TerminalPlaces.{place_of_terminal}

-- the starts of smaller index are collected
pub record ArePacketsFrom (t : Topology) (e : Entries) (l : LaneTables) (lid : ℕ) (starts : List Start) (old now : Collected) (index : ℕ) : Type 0 where
  pub from_both : IsFromBoth t e l now
  pub grows : Grows old now
  pub has : (k : ℕ) (start : Start) → k < index → slice_get starts k ≡ Some start → HasRoutes t e l lid start now

-- the replies from the LIDs of smaller index are
pub record AreRepliesFrom (t : Topology) (e : Entries) (l : LaneTables) (lid : ℕ) (old now : Collected) (index : ℕ) : Type 0 where
  pub from_both : IsFromBoth t e l now
  pub grows : Grows old now
  pub has : (k from : ℕ) → k < index → slice_get (lids_of t) k ≡ Some from → HasReply t e l lid from now

-- the LIDs of smaller index are
pub record AreCollectedTo (t : Topology) (e : Entries) (l : LaneTables) (marks : List Bool) (now : Collected) (index : ℕ) : Type 0 where
  pub room : IsRoomFor t marks
  pub from_both : IsFromBoth t e l now
  pub packets : (k lid : ℕ) → k < index → slice_get (lids_of t) k ≡ Some lid → HasPacketsTo t e l lid now
  pub replies : (k lid : ℕ) → k < index → slice_get (lids_of t) k ≡ Some lid → HasReplies t e l lid now

-- ---- packets

-- lanes of packets are good
packet_good : (t : Topology) (e : Entries) (l : LaneTables) → IsSound t e l → (hops : List VirtualChannel) → AreOfPacket t e l hops → AreGood l hops
packet_good t e l sound hops x k v at = sound.lane v (x.0, x.1, x.2, contains_of (virtual_channels t e l x.0 x.1) k v (ap (λ vs. slice_get vs k) (sym x.3) ∙ at))

-- so they are collected up to the last hop
all_collected : (t : Topology) (l : LaneTables) (hops : List VirtualChannel) (c : Collected) (bad : Option SwitchId) → AreGood l hops → MatchOption bad (AreDone l hops c) (IsFirstBad t l hops) →
    (bad ≡ None) × HasHops l.count hops c
all_collected t l hops c None good done = (refl, done.has)
all_collected t l hops c (Some at) good first = absurd (omega (arith, first.bad, good first.hop first.taken first.at_hop))

pub start_low : (t : Topology) → IsFabric t → (start : Start) → IsOfTerminal t start → start.switch.0 < length t.switches
start_low t fabric start of_terminal =
    subst (λ (x : Start). x.switch.0 < length t.switches) of_terminal.2 (All-contains (λ (r : TerminalRow). r.switch.0 < length t.switches) t.terminals of_terminal.0 fabric.rows.terminal_switches of_terminal.1)

module _ (t : Topology) (e : Entries) (l : LaneTables) (start : Start) (of_terminal : IsOfTerminal t start) (switch : start.switch.0 < length t.switches) (lanes : LanesFit t l) (sound : IsSound t e l)
    (lid : Lid) (in_use : Contains (lids_of t) lid.0) (connected : IsConnectedTo t start.switch.0 lid.0) (of_level : ℕ) (has_level : level l start.switch.0 lid.0 ≡ Some of_level) where
  abbrev way : Way
  way = record { start = start; lid = lid; level = of_level }

  -- packets of a terminal of the start have just the hops of the way
  same_hops : (p : TerminalRow) → start_of p ≡ start → virtual_channels t e l p lid.0 ≡ hops_of t e l way
  same_hops p is =
      ap (λ (x : Start). at_level t l x.port ((route t e x.switch.0 lid.0).channels) (level l x.switch.0 lid.0)) is
      ∙ ap (λ o. at_level t l start.port ((route t e start.switch.0 lid.0).channels) o) has_level

  of_packet : AreOfPacket t e l (hops_of t e l way)
  of_packet = (
    of_terminal.0,
    lid.0,
    record { terminal = of_terminal.1; connected = subst (λ (x : Start). IsConnectedTo t x.switch.0 lid.0) (sym of_terminal.2) connected },
    sym (same_hops of_terminal.0 of_terminal.2),
  )

  pub packet_way : IsWay t e l way
  packet_way = record { in_use = in_use; switch = switch; connected = connected; level = level_low l start.switch.0 lid.0 of_level lanes.whole has_level; sent = inl of_packet }

  -- none of them is bad, and the start's packets are collected
  pub packets_done : (c : Collected) (bad : Option SwitchId) → MatchOption bad (AreDone l (hops_of t e l way) c) (IsFirstBad t l (hops_of t e l way)) → (bad ≡ None) × HasRoutes t e l lid.0 start c
  packets_done c bad found =
      let all = all_collected t l (hops_of t e l way) c bad (packet_good t e l sound (hops_of t e l way) of_packet) found in
      (all.0, λ p path is. subst (λ vs. HasHops l.count vs c) (sym (same_hops p is)) all.1)

-- a start that has no level for the LID has no packets
pub unleveled : (t : Topology) (e : Entries) (l : LaneTables) → IsSound t e l → (lid : ℕ) (start : Start) (c : Collected) → level l start.switch.0 lid ≡ None → HasRoutes t e l lid start c
unleveled t e l sound lid start c none p path is = absurd (not_none (level l p.switch.0 lid) (sound.level p lid path) (ap (λ (x : Start). level l x.switch.0 lid) is ∙ none))
  where
    not_none : (o : Option ℕ) → IsSome o → o ≡ None → ⊥
    not_none None a b = cc
    not_none (Some n) a b = cc

pub no_packets : (t : Topology) (e : Entries) (l : LaneTables) (lid : ℕ) (starts : List Start) (c : Collected) → IsFromBoth t e l c → ArePacketsFrom t e l lid starts c c 0
no_packets t e l lid starts c from = record { from_both = from; grows = grows_none c; has = λ k start low at. absurd (omega arith) }

module _ (t : Topology) (e : Entries) (l : LaneTables) (lid : ℕ) (starts : List Start) (index : ℕ) (start : Start) (at : slice_get starts index ≡ Some start) (old now : Collected)
    (so_far : ArePacketsFrom t e l lid starts old now index) where
  one_start_more : (new : Collected) → Grows now new → HasRoutes t e l lid start new → (k : ℕ) (other : Start) → k < index + 1 → slice_get starts k ≡ Some other → HasRoutes t e l lid other new
  one_start_more new grows here k other low there = elim (cases_lt k index) [
    | inl less ↦ (λ p path is. hops_grow l.count (virtual_channels t e l p lid) now new grows (so_far.has k other less there p path is))
    | inr same ↦
        (let eq : index ≡ k = omega arith in
        subst (λ x. HasRoutes t e l lid x new) (same_Some start other (sym at ∙ ap (λ n. slice_get starts n) eq ∙ there)) here)
  ]

  pub packets_more : (new : Collected) → IsFromBoth t e l new → Grows now new → HasRoutes t e l lid start new → ArePacketsFrom t e l lid starts old new (index + 1)
  packets_more new from grows here = record { from_both = from; grows = grows_on old now new so_far.grows grows; has = one_start_more new grows here }

  -- nothing is to be collected from this start
  pub packets_same : HasRoutes t e l lid start now → ArePacketsFrom t e l lid starts old now (index + 1)
  packets_same here = packets_more now so_far.from_both (grows_none now) here

-- packets of a terminal have the hops of the start that stands for it
hops_alike : (t : Topology) (e : Entries) (l : LaneTables) (start : Start) (q p : TerminalRow) (lid : ℕ) → start_of q ≡ start → StandsFor l start p → virtual_channels t e l q lid ≡ virtual_channels t e l p lid
hops_alike t e l start q p lid of stands = elim stands.alike [
  | inl port ↦
      (let ports : q.port ≡ p.port = ap (λ (x : Start). x.port) of ∙ port in
      ap (λ x. at_level t l q.port ((route t e x lid).channels) (level l x lid)) switches ∙ ap (λ x. at_level t l x ((route t e p.switch.0 lid).channels) (level l p.switch.0 lid)) ports)
  | inr plain ↦ same_channels t e l plain q lid ∙ ap (λ s. plain_channels t e l s lid) switches ∙ sym (same_channels t e l plain p lid)
]
  where
    switches : q.switch.0 ≡ p.switch.0
    switches = ap (λ (x : Start). x.switch.0) of ∙ stands.switch

-- all starts are collected
pub has_packets : (t : Topology) (e : Entries) (l : LaneTables) (lid : ℕ) (starts : List Start) → AreStartsFor t l starts → (old now : Collected) (index : ℕ) →
    ArePacketsFrom t e l lid starts old now index → length starts ≤ index → HasPacketsTo t e l lid now
has_packets t e l lid starts are old now index so_far all p path =
    let stands : (start : Start) × Contains starts start × StandsFor l start p =
    All-contains (λ (r : TerminalRow). (start : Start) × Contains starts start × StandsFor l start r) t.terminals p are.all path.terminal in
    let of_terminal : IsOfTerminal t stands.0 = All-contains (IsOfTerminal t) starts stands.0 are.terminals stands.1 in
    let connected : IsConnectedTo t of_terminal.0.switch.0 lid =
    subst (λ s. IsConnectedTo t s lid) (sym (ap (λ (x : Start). x.switch.0) of_terminal.2 ∙ stands.2.switch)) path.connected in
    subst (λ vs. HasHops l.count vs now) (hops_alike t e l stands.0 of_terminal.0 p lid of_terminal.2 stands.2)
    (so_far.has stands.1.0 stands.0 (omega (arith, stands.1.1, all)) (get_of starts stands.1.0 stands.0 stands.1.1 stands.1.2) of_terminal.0 (record { terminal = of_terminal.1; connected = connected }) of_terminal.2)

-- ---- replies

-- the reply to a terminal's LID is one
pub one_reply : (t : Topology) → IsFabric t → (lid from : ℕ) (p q : TerminalRow) (source other : Place) → p.lid.0 ≡ lid → q.lid.0 ≡ lid → IsReply t p from source → IsReply t q from other → (p ≡ q) × (source ≡ other)
one_reply t fabric lid from p q source other a b x y = (one_terminal t fabric p q x.path.terminal y.path.terminal (a ∙ sym b), same_Some source other (sym x.place ∙ y.place))

module _ (t : Topology) (e : Entries) (l : LaneTables) (lid from : ℕ) where
  -- no reply comes from a LID that isn't connected
  pub no_reply : (c : Collected) → FindsReplyWay t e l lid from None → HasReply t e l lid from c
  no_reply c none p source is reply = absurd (none p is reply.path)

  reply_done : (way : Way) (c : Collected) → FindsReplyWay t e l lid from (Some way) → AreDone l (hops_of t e l way) c → HasReply t e l lid from c
  reply_done w c found done p source is reply = subst (λ vs. AreDone l vs c) (sym (found.6 p source is reply)) done

  reply_bad : (way : Way) (at : SwitchId) → FindsReplyWay t e l lid from (Some way) → IsFirstBad t l (hops_of t e l way) at → IsBadReply t e l lid from at
  reply_bad w at found bad = (found.2, found.3, found.4, found.5, subst (λ vs. IsFirstBad t l vs at) (sym (found.6 found.2 found.3 found.4 found.5)) bad)

  pub reply_told : (way : Way) (c : Collected) (bad : Option SwitchId) → FindsReplyWay t e l lid from (Some way) → MatchOption bad (AreDone l (hops_of t e l way) c) (IsFirstBad t l (hops_of t e l way)) →
      MatchOption bad (HasReply t e l lid from c) (IsBadReply t e l lid from)
  reply_told way c None found told = reply_done way c found told
  reply_told way c (Some at) found told = reply_bad way at found told

done_grows : (l : LaneTables) (hops : List VirtualChannel) (a b : Collected) → Grows a b → AreDone l hops a → AreDone l hops b
done_grows l hops a b grows done = record { good = done.good; has = hops_grow l.count hops a b grows done.has }

pub no_replies : (t : Topology) (e : Entries) (l : LaneTables) (lid : ℕ) (c : Collected) → IsFromBoth t e l c → AreRepliesFrom t e l lid c c 0
no_replies t e l lid c from = record { from_both = from; grows = grows_none c; has = λ k other low at. absurd (omega arith) }

pub replies_more : (t : Topology) (e : Entries) (l : LaneTables) (lid index from : ℕ) → slice_get (lids_of t) index ≡ Some from → (old now new : Collected) → AreRepliesFrom t e l lid old now index →
    IsFromBoth t e l new → Grows now new → HasReply t e l lid from new → AreRepliesFrom t e l lid old new (index + 1)
replies_more t e l lid index from at old now new so_far from_both grows here = record {
  from_both = from_both;
  grows = grows_on old now new so_far.grows grows;
  has = λ k other low there. elim (cases_lt k index) [
    | inl less ↦ (λ p source is reply. done_grows l (reply_hops t e l p other source) now new grows (so_far.has k other less there p source is reply))
    | inr same ↦
        (let eq : index ≡ k = omega arith in
        subst (λ n. HasReply t e l lid n new) (same_Some from other (sym at ∙ ap (λ n. slice_get (lids_of t) n) eq ∙ there)) here)
  ];
}

-- all replies are collected: what sends one is connected, so that its LID is in use
pub has_replies : (t : Topology) (e : Entries) (l : LaneTables) (lid : ℕ) (old now : Collected) (index : ℕ) → AreRepliesFrom t e l lid old now index → length (lids_of t) ≤ index → HasReplies t e l lid now
has_replies t e l lid old now index so_far all from p source is reply =
    let in_use : Contains (lids_of t) from = connected_in_use t p.switch.0 from reply.path.connected in
    so_far.has in_use.0 from (omega (arith, in_use.1, all)) (get_of (lids_of t) in_use.0 from in_use.1 in_use.2) p source is reply

-- ---- both

-- a terminal's LID is in use
pub terminal_in_use : (t : Topology) → IsFabric t → (p : TerminalRow) → Contains t.terminals p → Contains (lids_of t) p.lid.0
terminal_in_use t fabric p there = lid_in_use t p.lid.0 (record { switch = p.switch; port = p.port }) (place_of_terminal t fabric p there)

-- nothing is collected at first
pub from_neither : (t : Topology) (e : Entries) (l : LaneTables) (c : Collected) → c.used ≡ replicate (length t.channels * l.count) false → c.pairs ≡ [] → IsFromBoth t e l c
from_neither t e l c none empty = record {
  each = ap (λ (bs : List Bool). length bs) none ∙ length-replicate {A = Bool} (length t.channels * l.count) false;
  used = λ n is. absurd (false≢true (sym (unmarked n) ∙ is));
  pairs = λ m n has. absurd (omega (arith, has.1, ap (λ (xs : List (ℕ × ℕ)). length xs) empty));
}
  where
    unmarked : (n : ℕ) → slice_index_or c.used n false ≡ false
    unmarked n = ap (λ (bs : List Bool). slice_index_or bs n false) none ∙ all_alike (length t.channels * l.count) n false

-- with all marks taken away nothing is said of them
pub none_marked : (t : Topology) (e : Entries) (l : LaneTables) (lid : ℕ) (marks : List Bool) (c : Collected) → IsRoomFor t marks → AreMarked t e l lid (replicate (length marks) false) c
none_marked t e l lid marks c room = record {
  room = length-replicate {A = Bool} (length marks) false ∙ room;
  behind = none_behind t e l lid (length marks) c;
  good = λ s of_level few is. absurd (false≢true (sym (all_alike (length marks) (cell 16 s of_level) false) ∙ is));
  whole = λ none s of_level few is. absurd (false≢true (sym (all_alike (length marks) (cell 16 s of_level) false) ∙ is));
}

pub none_to : (t : Topology) (e : Entries) (l : LaneTables) (marks : List Bool) (c : Collected) → IsRoomFor t marks → IsFromBoth t e l c → AreCollectedTo t e l marks c 0
none_to t e l marks c room from = record { room = room; from_both = from; packets = λ k lid low at. absurd (omega arith); replies = λ k lid low at. absurd (omega arith) }

module _ (t : Topology) (e : Entries) (l : LaneTables) (index lid : ℕ) (at : slice_get (lids_of t) index ≡ Some lid) (old_marks : List Bool) (old : Collected)
    (so_far : AreCollectedTo t e l old_marks old index) (between new : Collected) (first : Grows old between) (second : Grows between new) where
  grows : Grows old new
  grows = grows_on old between new first second

  eq_at : (k other : ℕ) → k < index + 1 → index ≤ k → slice_get (lids_of t) k ≡ Some other → lid ≡ other
  eq_at k other low past there = let eq : index ≡ k = omega arith in same_Some lid other (sym at ∙ ap (λ n. slice_get (lids_of t) n) eq ∙ there)

  pub one_lid_more : (marks : List Bool) → IsRoomFor t marks → IsFromBoth t e l new → HasPacketsTo t e l lid between → HasReplies t e l lid new → AreCollectedTo t e l marks new (index + 1)
  one_lid_more marks room from packets replies = record {
    room = room;
    from_both = from;
    packets = λ k other low there. elim (cases_lt k index) [
      | inl less ↦ (λ p path. hops_grow l.count (virtual_channels t e l p other) old new grows (so_far.packets k other less there p path))
      | inr past ↦
          subst (λ n. HasPacketsTo t e l n new) (eq_at k other low past there) (λ p path. hops_grow l.count (virtual_channels t e l p lid) between new second (packets p path))
    ];
    replies = λ k other low there. elim (cases_lt k index) [
      | inl less ↦ (λ from_lid p source is reply. done_grows l (reply_hops t e l p from_lid source) old new grows (so_far.replies k other less there from_lid p source is reply))
      | inr past ↦ subst (λ n. HasReplies t e l n new) (eq_at k other low past there) replies
    ];
  }

-- all LIDs are collected
module _ (t : Topology) (e : Entries) (l : LaneTables) (marks : List Bool) (c : Collected) (index : ℕ) (so_far : AreCollectedTo t e l marks c index) (all : length (lids_of t) ≤ index)
    (fabric : IsFabric t) where
  packet_hops : (hops : List VirtualChannel) → AreOfPacket t e l hops → HasHops l.count hops c
  packet_hops hops x =
      let in_use : Contains (lids_of t) x.1 = connected_in_use t x.0.switch.0 x.1 x.2.connected in
      subst (λ vs. HasHops l.count vs c) (sym x.3) (so_far.packets in_use.0 x.1 (omega (arith, in_use.1, all)) (get_of (lids_of t) in_use.0 x.1 in_use.1 in_use.2) x.0 x.2)

  reply_all : (hops : List VirtualChannel) → AreOfReply t e l hops → AreDone l hops c
  reply_all hops x =
      let in_use : Contains (lids_of t) x.0.lid.0 = terminal_in_use t fabric x.0 x.3.path.terminal in
      subst (λ vs. AreDone l vs c) (sym x.4) (so_far.replies in_use.0 x.0.lid.0 (omega (arith, in_use.1, all)) (get_of (lids_of t) in_use.0 x.0.lid.0 in_use.1 in_use.2) x.1 x.0 x.2 refl x.3)

  sent_hops : (hops : List VirtualChannel) → AreSent t e l hops → HasHops l.count hops c
  sent_hops hops (inl x) = packet_hops hops x
  sent_hops hops (inr x) = (reply_all hops x).has

  pub good_replies : HasGoodReplies t e l
  good_replies hops v x has = (reply_all hops x).good has.0 v (get_of hops has.0 v has.1 has.2)

  pub are_jointly : AreJointly t e l c
  are_jointly = record {
    from_both = so_far.from_both;
    used = λ v u. (sent_hops u.0 u.1).used u.2.0 v (get_of u.0 u.2.0 v u.2.1 u.2.2);
    pairs = λ m n x.
        (let d : DependsJointly t e l x.0 x.1 = x.2 in
        let has_pair : Contains c.pairs (node_of l.count x.0, node_of l.count x.1) = (sent_hops d.0 d.1).pairs d.2.0 x.0 x.1 d.2.1 d.2.2 in
        subst (λ k. Contains c.pairs (m, k)) x.4 (subst (λ k. Contains c.pairs (k, node_of l.count x.1)) x.3 has_pair));
  }

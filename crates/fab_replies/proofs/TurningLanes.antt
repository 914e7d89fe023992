-- Where the joint dependencies close no walk, the answer is numbers. They close none where lanes go by level and no level closes a walk.
use Rattle.std.proofs.Common.{◌≡◌, ℕ, zero, suc, ◌<◌, ◌⊎◌, List, [], ◌∷◌, length, refl, sym, ◌∙◌, ap, subst, arith, inl, inr, Some, None, Option}
use Rattle.std.specs.Prelude.{IsSome, slice_get, nat_lt}
use Rattle.std.proofs.lemmas.Bool.{cond-true, lt-ltb}
use Rattle.std.proofs.lemmas.List.Elements.{All-contains}
use Rattle.std.proofs.lemmas.Option.{same_Some, none-some, slice_get-get_or}
use Rattle.fab_graph.specs.Walks.{IsAcyclic}
use Rattle.fab_graph.proofs.Parts.{part_acyclic}
use Rattle.fab_model.specs.declared.rows.ChannelRow.{ChannelRow}
use Rattle.fab_model.specs.Topology.{Topology}
use Rattle.fab_model.specs.WellFormed.{IsWellFormed}
use Rattle.fab_tables.specs.declared.verdict.VirtualChannel.{VirtualChannel}
use Rattle.fab_tables.specs.Certified.{HasRisingNumbers}
use Rattle.fab_tables.specs.Dependencies.{AreReadLanes}
use Rattle.fab_tables.specs.Entries.{Entries}
use Rattle.fab_tables.specs.Fit.{LanesFit}
use Rattle.fab_tables.specs.LaneTables.{LaneTables, level, HasLanePerLevel}
use Rattle.fab_tables.specs.Route.{route}
use Rattle.fab_tables.specs.VirtualChannels.{virtual_channel, hop_lane, arrival, on_channels, at_level, Follow}
use Rattle.fab_tables.proofs.Paths.RoutesBehind.{channel_of_hop}
use Rattle.fab_tables.proofs.Verdicts.CertifiedLaws.{contains_of, get_of}
use Rattle.fab_tables.proofs.Verdicts.PlainLaws.{general_lane}
use Rattle.fab_certify.specs.Numbered.{IsSound}
use Rattle.fab_certify.proofs.Engines.Lanewise.{lanewise_acyclic}
use Rattle.fab_certify.proofs.Plainly.{refusal_is_unsound}
use Rattle.fab_replies.specs.declared.replied.Replied.TheVariants.{Numbers, Refused, BadLane, RingReplies}
use Rattle.fab_replies.specs.Replies.{hops_at, AreSent, DependsJointly}
use Rattle.fab_replies.specs.Answers.{HasGoodReplies, IsAnswerBy}
use Rattle.fab_replies.specs.Turning.{TurnsOfPackets, TurnsOfReplies, IsAcyclicByLevel}
use Rattle.fab_replies.specs.Laws.{AcyclicIsNumbered, AcyclicByLevelIsNumbered}
use Rattle.fab_replies.proofs.OneReplied.{faulty_replies}
use Rattle.fab_replies.proofs.SentHops.{channel_sent, joint_ring_is_cyclic}

pub acyclic_is_numbered : AcyclicIsNumbered
acyclic_is_numbered t e l (Numbers new) sound good acyclic answer = (new, refl)
acyclic_is_numbered t e l (Refused fault) sound good acyclic answer = absurd (refusal_is_unsound t e l fault answer sound)
acyclic_is_numbered t e l (BadLane lid from at) sound good acyclic answer = absurd (faulty_replies t e l lid from at answer.1 good)
acyclic_is_numbered t e l (RingReplies ring) sound good acyclic answer = absurd (joint_ring_is_cyclic t e l ring sound good answer.2 acyclic)

-- a level that is there
missing : (o : Option ℕ) → IsSome o → o ≡ None → ⊥
missing None a b = cc
missing (Some n) a b = cc

has_level : (o : Option ℕ) → IsSome o → (n : ℕ) × (o ≡ Some n)
has_level None some = absurd (missing None some refl)
has_level (Some n) some = (n, refl)

-- ---- the hops of a level are on the lane of its number

module _ (t : Topology) (good : IsWellFormed t) (l : LaneTables) (fits : LanesFit t l) (maps : HasLanePerLevel l) (n : ℕ) (below : n < l.count) where
  lane_of_row : (from : ℕ) (row : ChannelRow) → row.tail.0 < length t.switches → hop_lane l n from (Some row) ≡ n
  lane_of_row from row there =
      general_lane l row.tail.0 from row.port n maps.no_pair
      ∙ maps.general row.tail.0 n (omega (arith, there, fits.switches)) (omega (arith, below, fits.whole.count))
      ∙ cond-true (nat_lt n l.count) n 15 (lt-ltb n l.count below)

  lane_of_channel : (from c : ℕ) → c < length t.channels → hop_lane l n from (slice_get t.channels c) ≡ n
  lane_of_channel from c there = go (slice_get t.channels c) refl
    where
      some_row : ChannelRow
      some_row = record { tail = record { 0 = 0 }; port = 0; tip = record { 0 = 0 }; tip_port = 0 }

      go : (o : Option ChannelRow) → slice_get t.channels c ≡ o → hop_lane l n from o ≡ n
      go None is = absurd (none-some _ (sym is ∙ slice_get-get_or t.channels c some_row there))
      go (Some row) is =
          lane_of_row from row (All-contains (λ (r : ChannelRow). r.tail.0 < length t.switches) t.channels row good.channel_tails (contains_of t.channels c row is))

  lane_of_hop : (cs : List ℕ) (from k : ℕ) (v : VirtualChannel) → slice_get (on_channels t l n from cs) k ≡ Some v → v.channel.0 < length t.channels → v.lane ≡ n
  lane_of_hop [] from k v at there = absurd (none-some v at)
  lane_of_hop (c ∷ cs) from zero v at there =
      let same : virtual_channel c (hop_lane l n from (slice_get t.channels c)) ≡ v = same_Some _ v at in
      let low : c < length t.channels = omega (arith, ap (λ (w : VirtualChannel). w.channel.0) same, there) in
      sym (ap (λ (w : VirtualChannel). w.lane) same) ∙ lane_of_channel from c low
  lane_of_hop (c ∷ cs) from (suc k) v at there = lane_of_hop cs (arrival (slice_get t.channels c)) k v at there

-- ---- packets and replies turn as their level does

module _ (t : Topology) (good : IsWellFormed t) (e : Entries) (l : LaneTables) (fits : LanesFit t l) (maps : HasLanePerLevel l) (sound : IsSound t e l)
    (by_level : IsAcyclicByLevel t e l) where
  abbrev Turns : ℕ → ℕ → ℕ → Type 0
  Turns n c d = TurnsOfPackets t e l n c d ⊎ TurnsOfReplies t e l n c d

  -- the hops are those of a route at a level
  record IsLeveled (hops : List VirtualChannel) : Type 0 where
    of_level : ℕ
    below : of_level < l.count
    from : ℕ
    channels : List ℕ
    are : hops ≡ on_channels t l of_level from channels
    turn : (c d : ℕ) → Follow channels c d → Turns of_level c d

  leveled : (hops : List VirtualChannel) → AreSent t e l hops → IsLeveled hops
  leveled hops (inl x) =
      let given : (n : ℕ) × (level l x.0.switch.0 x.1 ≡ Some n) = has_level (level l x.0.switch.0 x.1) (sound.level x.0 x.1 x.2) in
      record {
        of_level = given.0;
        below = by_level.low x.0 x.1 given.0 x.2 given.1;
        from = x.0.port;
        channels = (route t e x.0.switch.0 x.1).channels;
        are = x.3 ∙ ap (λ o. at_level t l x.0.port (route t e x.0.switch.0 x.1).channels o) given.1;
        turn = λ c d f. inl (x.0, x.1, x.2, given.1, f);
      }
  leveled hops (inr x) =
      let given : (n : ℕ) × (level l x.0.switch.0 x.1 ≡ Some n) = has_level (level l x.0.switch.0 x.1) (sound.level x.0 x.1 x.3.path) in
      record {
        of_level = given.0;
        below = by_level.low x.0 x.1 given.0 x.3.path given.1;
        from = x.2.port;
        channels = (route t e x.2.switch.0 x.0.lid.0).channels;
        are = x.4 ∙ ap (λ o. hops_at t e l x.0 x.2 o) given.1;
        turn = λ c d f. inr (x.0, x.1, x.2, x.3, given.1, f);
      }

  at_hop : (hops : List VirtualChannel) (x : IsLeveled hops) (k : ℕ) (v : VirtualChannel) → slice_get hops k ≡ Some v → slice_get (on_channels t l x.of_level x.from x.channels) k ≡ Some v
  at_hop hops x k v at = ap (λ vs. slice_get vs k) (sym x.are) ∙ at

  on_level : (hops : List VirtualChannel) (sent : AreSent t e l hops) (k : ℕ) (v : VirtualChannel) → slice_get hops k ≡ Some v → v.lane ≡ (leveled hops sent).of_level
  on_level hops sent k v at =
      let x : IsLeveled hops = leveled hops sent in
      lane_of_hop t good l fits maps x.of_level x.below x.channels x.from k v (at_hop hops x k v at) (channel_sent t e l v (hops, sent, contains_of hops k v at))

  same_lanes : (v w : VirtualChannel) → DependsJointly t e l v w → v.lane ≡ w.lane
  same_lanes v w d = on_level d.0 d.1 d.2.0 v d.2.1 ∙ sym (on_level d.0 d.1 (suc d.2.0) w d.2.2)

  turn_of : (n c d : ℕ) → DependsJointly t e l (virtual_channel c n) (virtual_channel d n) → Turns n c d
  turn_of n c d x =
      let hops : IsLeveled x.0 = leveled x.0 x.1 in
      let first : slice_get hops.channels x.2.0 ≡ Some c = channel_of_hop t l hops.of_level hops.channels hops.from x.2.0 (virtual_channel c n) (at_hop x.0 hops x.2.0 (virtual_channel c n) x.2.1) in
      let second : slice_get hops.channels (suc x.2.0) ≡ Some d
      = channel_of_hop t l hops.of_level hops.channels hops.from (suc x.2.0) (virtual_channel d n) (at_hop x.0 hops (suc x.2.0) (virtual_channel d n) x.2.2) in
      subst (λ m. Turns m c d) (sym (on_level x.0 x.1 x.2.0 (virtual_channel c n) x.2.1)) (hops.turn c d (x.2.0, first, second))

  pub joint_acyclic : IsAcyclic (DependsJointly t e l)
  joint_acyclic = lanewise_acyclic (DependsJointly t e l) same_lanes
      (λ n. part_acyclic (λ (c d : ℕ). DependsJointly t e l (virtual_channel c n) (virtual_channel d n)) (λ (c d : ℕ). Turns n c d) (λ c d. turn_of n c d) (by_level.acyclic n))

  pub good_replies : HasGoodReplies t e l
  good_replies hops v reply has =
      let at : slice_get hops has.0 ≡ Some v = get_of hops has.0 v has.1 has.2 in
      omega (arith, on_level hops (inr reply) has.0 v at, (leveled hops (inr reply)).below)

pub acyclic_by_level_is_numbered : AcyclicByLevelIsNumbered
acyclic_by_level_is_numbered t p l answer good certified has fits maps by_level is =
    acyclic_is_numbered t p.tables l answer sound (good_replies t good p.tables l fits maps sound by_level) (joint_acyclic t good p.tables l fits maps sound by_level) by_lanes
  where
    rising : HasRisingNumbers t p.tables l
    rising = subst (λ m. HasRisingNumbers t p.tables m) (same_Some certified.0 l (sym certified.1 ∙ has)) certified.3

    sound : IsSound t p.tables l
    sound = record { reaches = certified.2; level = rising.level; lane = rising.lane }

    read : l ≡ is.0
    read = subst (λ o. AreReadLanes t o is.0) has is.1

    by_lanes : IsAnswerBy t p.tables l answer
    by_lanes = subst (λ m. IsAnswerBy t p.tables m answer) (sym read) is.2

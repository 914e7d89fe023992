-- The hops of packets and replies: they are the same whichever numbers the lanes have, and those that follow each other are used.
use Rattle.std.proofs.Common.{◌≡◌, ℕ, suc, ◌<◌, List, [], ◌∷◌, length, arith, refl, sym, ◌∙◌, ap, subst, inl, inr, Some, None, Option}
use Rattle.std.specs.Prelude.{Contains, slice_get}
use Rattle.fab_graph.specs.Walks.{SameGraph, IsAcyclic, HasClosedWalk}
use Rattle.fab_graph.specs.Rings.{IsFirstRing}
use Rattle.fab_graph.proofs.Graphs
use Rattle.fab_model.specs.declared.rows.ChannelRow.{ChannelRow}
use Rattle.fab_model.specs.declared.rows.Place.{Place}
use Rattle.fab_model.specs.declared.rows.TerminalRow.{TerminalRow}
use Rattle.fab_model.specs.Topology.{Topology}
use Rattle.fab_tables.specs.declared.verdict.VirtualChannel.{VirtualChannel}
use Rattle.fab_tables.specs.Entries.{Entries}
use Rattle.fab_tables.specs.LaneTables.{LaneTables, level}
use Rattle.fab_tables.specs.Route.{route}
use Rattle.fab_tables.specs.VirtualChannels.{virtual_channel, on_channels, hop_lane, arrival}
use Rattle.fab_tables.specs.Dependencies.{node_of}
use Rattle.fab_tables.proofs.Paths.RoutesBehind.{channel_of_hop}
use Rattle.fab_tables.proofs.Verdicts.CertifiedLaws.{contains_of, get_of, route_there}
use Rattle.fab_certify.specs.Numbered.{IsSound}
use Rattle.fab_certify.proofs.Collected.HopChannels.{used_channel}
use Rattle.fab_certify.proofs.ImageWalks.{closed_of_image}
use Rattle.fab_certify.proofs.Numbered.NumberedPlan.{one_node}
use Rattle.fab_certify.proofs.Numbered.Numbering.{numbers_aside}
use Rattle.fab_certify.proofs.ReadAlike.{renumbered}
use Rattle.fab_replies.specs.Replies.{hops_at, reply_hops, AreSent, IsUsedJointly, DependsJointly, DependsJointlyByNode}
use Rattle.fab_replies.specs.Answers.{HasGoodReplies}

same_lane : (l : LaneTables) (ns : List ℕ) (of_level from : ℕ) (c : Option ChannelRow) → hop_lane (renumbered l ns) of_level from c ≡ hop_lane l of_level from c
same_lane l ns of_level from None = refl
same_lane l ns of_level from (Some c) = refl

same_on : (t : Topology) (l : LaneTables) (ns : List ℕ) (of_level from : ℕ) (cs : List ℕ) → on_channels t (renumbered l ns) of_level from cs ≡ on_channels t l of_level from cs
same_on t l ns of_level from [] = refl
same_on t l ns of_level from (c ∷ cs) =
    ap (λ on_lane. virtual_channel c on_lane ∷ on_channels t (renumbered l ns) of_level (arrival (slice_get t.channels c)) cs) (same_lane l ns of_level from (slice_get t.channels c))
    ∙ ap (λ vs. virtual_channel c (hop_lane l of_level from (slice_get t.channels c)) ∷ vs) (same_on t l ns of_level (arrival (slice_get t.channels c)) cs)

same_at : (t : Topology) (e : Entries) (l : LaneTables) (ns : List ℕ) (p : TerminalRow) (from : Place) (o : Option ℕ) → hops_at t e (renumbered l ns) p from o ≡ hops_at t e l p from o
same_at t e l ns p from None = refl
same_at t e l ns p from (Some of_level) = same_on t l ns of_level from.port (route t e from.switch.0 p.lid.0).channels

-- the numbers don't touch the hops of replies
pub replies_aside : (t : Topology) (e : Entries) (l : LaneTables) (ns : List ℕ) (p : TerminalRow) (lid : ℕ) (from : Place) → reply_hops t e (renumbered l ns) p lid from ≡ reply_hops t e l p lid from
replies_aside t e l ns p lid from = same_at t e l ns p from (level l p.switch.0 lid)

pub sent_aside : (t : Topology) (e : Entries) (l : LaneTables) (ns : List ℕ) (hops : List VirtualChannel) → AreSent t e l hops → AreSent t e (renumbered l ns) hops
sent_aside t e l ns hops (inl x) = inl (x.0, x.1, x.2, x.3 ∙ sym (numbers_aside t e l ns x.0 x.1))
sent_aside t e l ns hops (inr x) = inr (x.0, x.1, x.2, x.3, x.4 ∙ sym (replies_aside t e l ns x.0 x.1 x.2))

module _ (t : Topology) (e : Entries) (l : LaneTables) (ns : List ℕ) where
  -- and back
  pub sent_back : (hops : List VirtualChannel) → AreSent t e (renumbered l ns) hops → AreSent t e l hops
  sent_back hops x = sent_aside t e (renumbered l ns) l.numbers hops x

  pub good_aside : HasGoodReplies t e l → HasGoodReplies t e (renumbered l ns)
  good_aside good hops v x has = good hops v (x.0, x.1, x.2, x.3, x.4 ∙ replies_aside t e l ns x.0 x.1 x.2) has

  pub joint_used_aside : (v : VirtualChannel) → IsUsedJointly t e l v → IsUsedJointly t e (renumbered l ns) v
  joint_used_aside v u = (u.0, sent_aside t e l ns u.0 u.1, u.2)

  pub joint_used_back : (v : VirtualChannel) → IsUsedJointly t e (renumbered l ns) v → IsUsedJointly t e l v
  joint_used_back v u = (u.0, sent_back u.0 u.1, u.2)

  pub same_joint : SameGraph (DependsJointly t e l) (DependsJointly t e (renumbered l ns))
  same_joint v w = ((λ d. (d.0, sent_aside t e l ns d.0 d.1, d.2)), (λ d. (d.0, sent_back d.0 d.1, d.2)))

module _ (t : Topology) (e : Entries) (l : LaneTables) where
  -- those that follow each other are used
  pub first_sent : (v w : VirtualChannel) → DependsJointly t e l v w → IsUsedJointly t e l v
  first_sent v w d = (d.0, d.1, contains_of d.0 d.2.0 v d.2.1)

  pub second_sent : (v w : VirtualChannel) → DependsJointly t e l v w → IsUsedJointly t e l w
  second_sent v w d = (d.0, d.1, contains_of d.0 (suc d.2.0) w d.2.2)

  -- their lanes are below the lane count
  pub lane_sent : IsSound t e l → HasGoodReplies t e l → (v : VirtualChannel) → IsUsedJointly t e l v → v.lane < l.count
  lane_sent sound good v (hops, inl x, has) = sound.lane v (x.0, x.1, x.2, subst (λ vs. Contains vs v) x.3 has)
  lane_sent sound good v (hops, inr x, has) = good hops v x has

  -- a ring of numbers comes from a closed walk of virtual channels
  pub joint_ring_is_cyclic : (ring : List ℕ) → IsSound t e l → HasGoodReplies t e l → IsFirstRing (DependsJointlyByNode t e l) ring → ¬ IsAcyclic (DependsJointly t e l)
  joint_ring_is_cyclic ring sound good first acyclic =
      Graphs.ring_is_cyclic (DependsJointlyByNode t e l) ring first (λ n closed. none (closed_of_image (DependsJointly t e l) (node_of l.count) apart n closed))
    where
      apart : (a b c d : VirtualChannel) → DependsJointly t e l a b → DependsJointly t e l c d → node_of l.count b ≡ node_of l.count c → b ≡ c
      apart a b c d p q = one_node l.count b c (lane_sent sound good b (second_sent a b p)) (lane_sent sound good c (first_sent c d q))

      none : HasClosedWalk (DependsJointly t e l) → ⊥
      none w = acyclic w.0 w.1

  -- their channels are those of the fabric
  pub channel_sent : (v : VirtualChannel) → IsUsedJointly t e l v → v.channel.0 < length t.channels
  channel_sent v (hops, inl x, has) = used_channel t e l v (x.0, x.1, x.2, subst (λ vs. Contains vs v) x.3 has)
  channel_sent v (hops, inr x, has) = replied (level l x.0.switch.0 x.1) (subst (λ vs. Contains vs v) x.4 has)
    where
      replied : (o : Option ℕ) → Contains (hops_at t e l x.0 x.2 o) v → v.channel.0 < length t.channels
      replied None none = absurd (omega (arith, none.1))
      replied (Some of_level) within =
          let at = get_of (hops_at t e l x.0 x.2 (Some of_level)) within.0 v within.1 within.2 in
          route_there t e x.0.lid.0 (length t.switches) x.2.switch.0 within.0 v.channel.0 (channel_of_hop t l of_level (route t e x.2.switch.0 x.0.lid.0).channels x.2.port within.0 v at)

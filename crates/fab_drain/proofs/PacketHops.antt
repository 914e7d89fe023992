-- The hops of a packet are virtual channels of the fabric, on lanes below the count.
use Rattle.std.proofs.Common.{◌≡◌, ℕ, ◌<◌, length, refl, sym, ◌∙◌, ap, subst, arith, Some}
use Rattle.std.specs.Prelude.{slice_get}
use Rattle.fab_model.specs.Topology.{Topology}
use Rattle.fab_model.specs.WellFormed.{IsFabric}
use Rattle.fab_tables.specs.declared.plan.Plan.{Plan}
use Rattle.fab_tables.specs.declared.verdict.VirtualChannel.{VirtualChannel}
use Rattle.fab_tables.specs.LaneTables.{LaneTables}
use Rattle.fab_tables.specs.VirtualChannels.{virtual_channels, Follow}
use Rattle.fab_tables.specs.Dependencies.{IsUsed, Depends, AreReadLanes}
use Rattle.fab_tables.specs.Reading.{count_read}
use Rattle.fab_tables.specs.Certified.{HasRisingNumbers, IsCertified}
use Rattle.fab_tables.proofs.Verdicts.CertifiedLaws.{contains_of}
use Rattle.fab_tables.proofs.Rows.ReadLanes.{reading_agrees}
use Rattle.fab_certify.proofs.Collected.HopChannels.{used_channel}
use Rattle.fab_drain.specs.declared.packet.Packet.{Packet}
use Rattle.fab_certify.specs.Certificate.{IsSoundPlan}
use Rattle.fab_drain.specs.Loads.{hops_of, hops_of_row, stand_of, next_of, IsPacket}

module _ (t : Topology) (p : Plan) (is : IsFabric t) (l : LaneTables) (read : AreReadLanes t p.lanes l) where
  pub hops_are : (packet : Packet) → (x : IsPacket t p packet) → hops_of t p packet ≡ virtual_channels t p.tables l x.row packet.lid.0
  hops_are packet x = ap (λ o. hops_of_row t p packet.lid.0 o) x.terminal ∙ (reading_agrees t p l is read).3 x.row packet.lid.0 x.path

  pub hop_used : (packet : Packet) (k : ℕ) (v : VirtualChannel) → IsPacket t p packet → slice_get (hops_of t p packet) k ≡ Some v → IsUsed t p.tables l v
  hop_used packet k v x at =
      let there : slice_get (virtual_channels t p.tables l x.row packet.lid.0) k ≡ Some v = subst (λ vs. slice_get vs k ≡ Some v) (hops_are packet x) at in
      (x.row, packet.lid.0, x.path, contains_of (virtual_channels t p.tables l x.row packet.lid.0) k v there)

  -- where it stands comes before where it goes next
  pub stand_before_next : (packet : Packet) (v w : VirtualChannel) → IsPacket t p packet → stand_of t p packet ≡ Some v → next_of t p packet ≡ Some w → Depends t p.tables l v w
  stand_before_next packet v w x at after =
      let follow : Follow (hops_of t p packet) v w = (packet.position, at, after) in
      (x.row, packet.lid.0, x.path, subst (λ vs. Follow vs v w) (hops_are packet x) follow)

pub hop_there : (t : Topology) (p : Plan) → IsFabric t → IsSoundPlan t p → (packet : Packet) (k : ℕ) (v : VirtualChannel) → IsPacket t p packet →
    slice_get (hops_of t p packet) k ≡ Some v → (v.channel.0 < length t.channels) × (v.lane < count_read p.lanes)
hop_there t p is admitted packet k v x at =
    let used : IsUsed t p.tables admitted.0 v = hop_used t p is admitted.0 admitted.1 packet k v x at in
    (used_channel t p.tables admitted.0 v used, omega (arith, (reading_agrees t p admitted.0 is admitted.1).0, admitted.2.lane v used))

-- a certified plan is admitted
pub certified_admitted : (t : Topology) (p : Plan) → IsCertified t p → IsSoundPlan t p
certified_admitted t p c =
    let rising : HasRisingNumbers t p.tables c.0 = c.3 in
    (c.0, subst (λ o. AreReadLanes t o c.0) (sym c.1) refl, record { reaches = c.2; level = rising.level; lane = rising.lane })

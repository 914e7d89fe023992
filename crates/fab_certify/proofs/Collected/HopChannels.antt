-- The hops of a route go along channels of the fabric.
use Rattle.std.proofs.Common.{◌≡◌, ℕ, zero, suc, ◌<◌, List, [], ◌∷◌, length, refl, arith, Some, None, Option, slice_get}
use Rattle.std.proofs.lemmas.Option.{none-some}
use Rattle.fab_model.specs.declared.rows.ChannelRow.{ChannelRow}
use Rattle.fab_model.specs.declared.rows.TerminalRow.{TerminalRow}
use Rattle.fab_model.specs.Topology.{Topology}
use Rattle.fab_tables.specs.declared.verdict.VirtualChannel.{VirtualChannel}
use Rattle.fab_tables.specs.Entries.{Entries}
use Rattle.fab_tables.specs.LaneTables.{LaneTables, level}
use Rattle.fab_tables.specs.Route.{route}
use Rattle.fab_tables.specs.VirtualChannels.{virtual_channels, at_level}
use Rattle.fab_tables.specs.Dependencies.{IsUsed}
use Rattle.fab_tables.proofs.Verdicts.CertifiedLaws.{get_of, route_there}
use Rattle.fab_tables.proofs.Paths.RoutesBehind.{channel_of_hop}

at_a_level : (t : Topology) (e : Entries) (l : LaneTables) (p : TerminalRow) (lid k : ℕ) (o : Option ℕ) (v : VirtualChannel) →
    slice_get (at_level t l p.port ((route t e p.switch.0 lid).channels) o) k ≡ Some v → v.channel.0 < length t.channels
at_a_level t e l p lid k None v at = absurd (none-some v at)
at_a_level t e l p lid k (Some of_level) v at = route_there t e lid (length t.switches) p.switch.0 k v.channel.0 (channel_of_hop t l of_level ((route t e p.switch.0 lid).channels) p.port k v at)

pub hop_channel : (t : Topology) (e : Entries) (l : LaneTables) (p : TerminalRow) (lid k : ℕ) (v : VirtualChannel) → slice_get (virtual_channels t e l p lid) k ≡ Some v → v.channel.0 < length t.channels
hop_channel t e l p lid k v at = at_a_level t e l p lid k (level l p.switch.0 lid) v at

some_at : {A : Type 0} (xs : List A) (k : ℕ) → k < length xs → (x : A) × (slice_get xs k ≡ Some x)
some_at [] k low = absurd (omega arith)
some_at (x ∷ xs) zero low = (x, refl)
some_at (x ∷ xs) (suc k) low = some_at xs k (omega arith)

pub row_of : (t : Topology) (e : Entries) (l : LaneTables) (p : TerminalRow) (lid k : ℕ) (v : VirtualChannel) → slice_get (virtual_channels t e l p lid) k ≡ Some v → (row : ChannelRow) × (slice_get t.channels v.channel.0 ≡ Some row)
row_of t e l p lid k v at = some_at t.channels v.channel.0 (hop_channel t e l p lid k v at)

pub used_channel : (t : Topology) (e : Entries) (l : LaneTables) (v : VirtualChannel) → IsUsed t e l v → v.channel.0 < length t.channels
used_channel t e l v u = hop_channel t e l u.0 u.1 u.3.0 v (get_of (virtual_channels t e l u.0 u.1) u.3.0 v u.3.1 u.3.2)

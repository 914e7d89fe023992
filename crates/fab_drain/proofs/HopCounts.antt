-- No route has more hops than there are switches, so positions and sums of hops are small.
use Rattle.std.proofs.Common.{◌≡◌, ℕ, suc, ◌*◌, ◌<◌, ◌≤◌, inl, inr, List, [], ◌∷◌, length, refl, sym, ap, subst, arith, Some, None, Option}
use Rattle.std.specs.Prelude.{slice_index_or, IfSome}
use Rattle.std.proofs.lemmas.Bool.{cases_lt}
use Rattle.std.proofs.lemmas.List.{length-map, get_or_default}
use Rattle.std.proofs.lemmas.List.Sums.{sum_by-le}
use Rattle.std.proofs.lemmas.Option.{slice_get-get_or}
use Rattle.fab_model.specs.declared.rows.TerminalRow.{TerminalRow}
use Rattle.fab_model.specs.Topology.{Topology}
use Rattle.fab_model.specs.WellFormed.{IsFabric}
use Rattle.fab_tables.specs.declared.plan.Plan.{Plan}
use Rattle.fab_tables.specs.declared.verdict.VirtualChannel.{VirtualChannel}
use Rattle.fab_tables.specs.LaneTables.{LaneTables, level}
use Rattle.fab_tables.specs.Reading.{channels_read, hops_read}
use Rattle.fab_tables.specs.Route.{route}
use Rattle.fab_tables.specs.VirtualChannels.{virtual_channel, on_channels, at_level}
use Rattle.fab_tables.proofs.Paths.Routes.{goes_on}
use Rattle.fab_drain.specs.declared.packet.Packet.{Packet}
use Rattle.fab_drain.specs.Loads.{hops_of, hops_of_row, IsPacket, Load, Loaded, loaded_at, channel_of_cell, hops_in_cell, hops_left, StandsOn, IsLoad}
use Rattle.fab_drain.proofs.Cells.{read_cell}

route_short : (t : Topology) (p : Plan) (s lid : ℕ) → length (route t p.tables s lid).channels ≤ length t.switches
route_short t p s lid = elim (cases_lt (length t.switches) (length (route t p.tables s lid).channels)) [
  | inr h ↦ h
  | inl h ↦
      absurd (omega (arith, (goes_on t p.tables lid (length t.switches) (length t.switches) s (slice_index_or (route t p.tables s lid).channels (length t.switches) 0) (slice_get-get_or (route t p.tables s lid).channels (length t.switches) 0 h)).0))
]

as_many : (t : Topology) (l : LaneTables) (of_level from : ℕ) (cs : List ℕ) → length (on_channels t l of_level from cs) ≡ length cs
as_many t l of_level from [] = refl
as_many t l of_level from (c ∷ cs) = ap suc (as_many t l of_level _ cs)

pub hops_short : (t : Topology) (p : Plan) (row : TerminalRow) (lid : ℕ) → length (hops_read t p row lid) ≤ length t.switches
hops_short t p row lid = go p.lanes
  where
    short : length (route t p.tables row.switch.0 lid).channels ≤ length t.switches
    short = route_short t p row.switch.0 lid

    leveled : (l : LaneTables) (o : Option ℕ) → length (at_level t l row.port (route t p.tables row.switch.0 lid).channels o) ≤ length t.switches
    leveled l None = omega arith
    leveled l (Some n) = omega (arith, as_many t l n row.port (route t p.tables row.switch.0 lid).channels, short)

    go : (o : Option LaneTables) → length (channels_read t p o row lid) ≤ length t.switches
    go None = omega (arith, length-map (route t p.tables row.switch.0 lid).channels (λ c. virtual_channel c 0), short)
    go (Some l) = leveled l (level l row.switch.0 lid)

pub hops_of_short : (t : Topology) (p : Plan) (packet : Packet) → IsPacket t p packet → length (hops_of t p packet) ≤ length t.switches
hops_of_short t p packet x =
    subst (λ vs. length vs ≤ length t.switches) (sym (ap (λ o. hops_of_row t p packet.lid.0 o) x.terminal)) (hops_short t p x.row packet.lid.0)

pub position_small : (t : Topology) (p : Plan) (packet : Packet) → IsFabric t → IsPacket t p packet → packet.position < 2048
position_small t p packet is x = omega (arith, x.position, hops_of_short t p packet x, is.rows.switch_count)

-- each packet has few remaining hops
pub hops_few : (t : Topology) (p : Plan) (load : Load) → IsLoad t p load → hops_left load ≤ length load.cells * 2048
hops_few t p load good = sum_by-le hops_in_cell 2048 load.cells (λ k d low. subst (λ o. hops_in_cell o ≤ 2048) (get_or_default load.cells k None d low) (cell k low))
  where
    few : (v : VirtualChannel) (o : Option Loaded) → IfSome o (StandsOn t p v) → hops_in_cell o ≤ 2048
    few v None x = omega arith
    few v (Some y) x = omega (arith, x.remaining, hops_of_short t p y.packet x.is_packet, good.fabric.rows.switch_count)

    cell : (k : ℕ) → k < length load.cells → hops_in_cell (slice_index_or load.cells k None) ≤ 2048
    cell k low = subst (λ o. hops_in_cell o ≤ 2048) (read_cell load (length t.channels) k good.each low) (few (channel_of_cell load.count k) (loaded_at load (channel_of_cell load.count k)) (good.stand (channel_of_cell load.count k)))

-- The lanes with which a plan is read, and how they are read.
use Rattle.std.proofs.Common.{◌≡◌, ℕ, suc, ◌<◌, List, [], ◌∷◌, length, map, Option, Some, None, refl, sym, ◌∙◌, ap, subst, arith}
use Rattle.std.specs.Prelude.{slice_get}
use Rattle.std.proofs.lemmas.Option.{slice_get-get_or}
use Rattle.std.specs.Prelude.{slice_index_or}
use Rattle.fab_model.specs.declared.rows.ChannelRow.{ChannelRow}
use Rattle.fab_model.specs.declared.rows.TerminalRow.{TerminalRow}
use Rattle.fab_model.specs.Topology.{Topology}
use Rattle.fab_model.specs.WellFormed.{IsFabric}
use Rattle.fab_tables.specs.declared.plan.Plan.{Plan}
use Rattle.fab_tables.specs.LaneTables.{LaneTables, level, lane_at, lane_of_level}
use Rattle.fab_tables.specs.Route.{route}
use Rattle.fab_tables.specs.VirtualChannels.{virtual_channel, virtual_channels, at_level}
use Rattle.fab_tables.specs.Dependencies.{IsPath, IsOneLane, AreReadLanes}
use Rattle.fab_tables.specs.Plain.{plain_lane}
use Rattle.fab_tables.specs.Reading.{count_read, level_read, lane_read, channels_read, ReadingAgrees}
use Rattle.fab_tables.proofs.Verdicts.CertifiedLaws.{route_there}
use Rattle.fab_tables.proofs.Verdicts.PlainLaws.{general_lane, same_hops, source_of}

mapped_same : {A : Type 0} (f g : ℕ → A) (cs : List ℕ) → ((k c : ℕ) → slice_get cs k ≡ Some c → f c ≡ g c) → map f cs ≡ map g cs
mapped_same f g [] each = refl
mapped_same f g (c ∷ cs) each = ap (λ x. x ∷ map f cs) (each 0 c refl) ∙ ap (λ xs. g c ∷ xs) (mapped_same f g cs (λ k d h. each (suc k) d h))

module _ (t : Topology) (is : IsFabric t) (plan : Plan) (l : LaneTables) where
  abbrev Agrees : Option LaneTables → Type 0
  Agrees o =
      (count_read o ≡ l.count)
      × ((p : TerminalRow) (lid : ℕ) → IsPath t p lid → level_read o p.switch.0 lid ≡ level l p.switch.0 lid)
      × ((s from to of_level : ℕ) → s < l.switches → of_level < 16 → lane_read o s from to of_level ≡ lane_at l s from to of_level)
      × ((p : TerminalRow) (lid : ℕ) → IsPath t p lid → channels_read t plan o p lid ≡ virtual_channels t plan.tables l p lid)

  module _ (one : IsOneLane t l) where
    level_is_0 : (p : TerminalRow) (lid : ℕ) → IsPath t p lid → Some 0 ≡ level l p.switch.0 lid
    level_is_0 p lid path = sym (one.level_0 p.switch.0 lid (source_of t.terminals p path.terminal.0 path.terminal.1 path.terminal.2) path.connected)

    lane_is_0 : (c : ℕ) → c < length t.channels → 0 ≡ plain_lane l 0 (slice_get t.channels c)
    lane_is_0 c low =
        let row : ChannelRow = slice_index_or t.channels c some_channel in
        let there : slice_get t.channels c ≡ Some row = slice_get-get_or t.channels c some_channel low in
        let tail : row.tail.0 < l.switches = omega (arith, is.rows.channel_tails c some_channel low, one.fits.switches) in
        sym (ap (λ o. plain_lane l 0 o) there ∙ one.maps.general row.tail.0 0 tail (omega arith) ∙ ap (λ n. lane_of_level n 0) one.count)
      where
        some_channel : ChannelRow
        some_channel = record { tail = record { 0 = 0 }; port = 0; tip = record { 0 = 0 }; tip_port = 0 }

    hops_are : (p : TerminalRow) (lid : ℕ) → IsPath t p lid → map (λ c. virtual_channel c 0) (route t plan.tables p.switch.0 lid).channels ≡ virtual_channels t plan.tables l p lid
    hops_are p lid path =
        let cs : List ℕ = (route t plan.tables p.switch.0 lid).channels in
        mapped_same (λ c. virtual_channel c 0) (λ c. virtual_channel c (plain_lane l 0 (slice_get t.channels c))) cs
        (λ k c h. ap (λ on_lane. virtual_channel c on_lane) (lane_is_0 c (route_there t plan.tables lid (length t.switches) p.switch.0 k c h)))
        ∙ sym (same_hops t l 0 p.port cs one.maps.no_pair)
        ∙ ap (λ o. at_level t l p.port cs o) (level_is_0 p lid path)

  agrees : (o : Option LaneTables) → AreReadLanes t o l → Agrees o
  agrees None one = (
    sym one.count,
    level_is_0 one,
    λ s from to of_level a b. sym (general_lane l s from to of_level one.maps.no_pair ∙ one.maps.general s of_level a b ∙ ap (λ n. lane_of_level n of_level) one.count),
    hops_are one,
  )
  agrees (Some kept) same = subst (λ k. (k.count ≡ l.count)
      × ((p : TerminalRow) (lid : ℕ) → IsPath t p lid → level k p.switch.0 lid ≡ level l p.switch.0 lid)
      × ((s from to of_level : ℕ) → s < l.switches → of_level < 16 → lane_at k s from to of_level ≡ lane_at l s from to of_level)
      × ((p : TerminalRow) (lid : ℕ) → IsPath t p lid → virtual_channels t plan.tables k p lid ≡ virtual_channels t plan.tables l p lid)) (sym same)
      (refl, λ p lid path. refl, λ s from to of_level a b. refl, λ p lid path. refl)

pub reading_agrees : ReadingAgrees
reading_agrees t plan l is lanes = agrees t is plan l plan.lanes lanes

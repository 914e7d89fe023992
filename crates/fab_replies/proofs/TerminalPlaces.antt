-- The place of a terminal's LID is the terminal's.
use Rattle.std.proofs.Common.{◌≡◌, ◌≢◌, ℕ, ◌∙◌, refl, sym, ap, Some, None, Option, option_map, position, find, Contains}
use Rattle.std.specs.Prelude.{◌==◌, slice_index_or}
use Rattle.std.specs.Option.{option_or}
use Rattle.std.proofs.lemmas.Bool.{eq-eqb, eqb-true, ne_eqb}
use Rattle.std.proofs.lemmas.Option.{same_Some}
use Rattle.fab_model.specs.declared.rows.Place.{Place}
use Rattle.fab_model.specs.declared.rows.SwitchRow.{SwitchRow}
use Rattle.fab_model.specs.declared.rows.TerminalRow.{TerminalRow}
use Rattle.fab_model.specs.Topology.{Topology, switch_id, terminal_place, place_of}
use Rattle.fab_model.specs.WellFormed.{IsFabric}
use Rattle.fab_model.proofs.Finds.{position_none}
use Rattle.fab_model.proofs.Lists.Found.{find_only}
use Rattle.fab_model.proofs.Lists.Members.{in_all, in_from_Contains, Contains_from_in}
use Rattle.fab_tables.specs.Entries.{Entries}
use Rattle.fab_tables.specs.LaneTables.{LaneTables, level}
use Rattle.fab_tables.specs.Route.{route}
use Rattle.fab_tables.specs.VirtualChannels.{at_level}
use Rattle.fab_replies.specs.Replies.{hops_at}
use Rattle.fab_replies.specs.Laws.{SameLevelIsPacket}
use Rattle.fab_replies.proofs.OneReplied.{one_terminal}

module _ (t : Topology) (fabric : IsFabric t) (q : TerminalRow) (there : Contains t.terminals q) where
  no_switch : position (λ (row : SwitchRow). row.lid.0 == q.lid.0) t.switches ≡ None
  no_switch = position_none (λ (row : SwitchRow). row.lid.0 == q.lid.0) t.switches
      (λ k d low. ne_eqb _ _ (in_all (λ (r : TerminalRow). (slice_index_or t.switches k d).lid.0 ≢ r.lid.0) t.terminals (fabric.rows.other_lids k d low) q (in_from_Contains t.terminals q there)))

  found : find (λ (row : TerminalRow). row.lid.0 == q.lid.0) t.terminals ≡ Some q
  found = find_only (λ (row : TerminalRow). row.lid.0 == q.lid.0) t.terminals q (in_from_Contains t.terminals q there) (eq-eqb q.lid.0 q.lid.0 refl)
      (λ y within is. one_terminal t fabric y q (Contains_from_in t.terminals y within) there (eqb-true y.lid.0 q.lid.0 is))

  pub place_of_terminal : place_of t q.lid.0 ≡ Some (record { switch = q.switch; port = q.port })
  place_of_terminal =
      ap (λ (o : Option ℕ). option_or (option_map (λ number. record { switch = switch_id number; port = 0 }) o) (terminal_place t q.lid.0)) no_switch
      ∙ ap (λ (o : Option TerminalRow). option_map (λ (row : TerminalRow). record { switch = row.switch; port = row.port }) o) found

-- where two terminals have the same level for each other, a reply is a packet
module _ (t : Topology) (e : Entries) (l : LaneTables) (p q : TerminalRow) where
  at_place : (o : Option ℕ) → hops_at t e l p (record { switch = q.switch; port = q.port }) o ≡ at_level t l q.port (route t e q.switch.0 p.lid.0).channels o
  at_place None = refl
  at_place (Some n) = refl

pub same_level_is_packet : SameLevelIsPacket
same_level_is_packet t e l p q from fabric there back same reply =
    let place : from ≡ record { switch = q.switch; port = q.port } = same_Some from _ (sym reply.place ∙ place_of_terminal t fabric q back.terminal) in
    ap (λ (f : Place). hops_at t e l p f (level l p.switch.0 q.lid.0)) place
    ∙ at_place t e l p q (level l p.switch.0 q.lid.0)
    ∙ ap (λ (o : Option ℕ). at_level t l q.port (route t e q.switch.0 p.lid.0).channels o) same

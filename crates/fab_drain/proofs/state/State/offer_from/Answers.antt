use Rattle.std.proofs.Common.{◌≡◌, ◌∙◌, ◌+◌, ◌-◌, ℕ, refl, sym, ap, subst, arith, Some, None, Option}
use Rattle.std.specs.Prelude.{option_map, slice_get}
use Rattle.std.proofs.lemmas.Option.{same_Some, slice_get_within, get_or_from_slice_get}
use Rattle.fab_model.specs.declared.rows.TerminalId.{TerminalId}
use Rattle.fab_model.specs.declared.rows.TerminalRow.{TerminalRow}
use Rattle.fab_model.specs.Topology.{Topology, terminal_id, terminal_at}
use Rattle.fab_model.specs.Connected.{IsConnectedTo}
use Rattle.fab_tables.specs.declared.starts.Start.{Start}
use Rattle.fab_tables.specs.Dependencies.{IsPath}
use Rattle.fab_tables.specs.HopsAhead.{HopsAhead}
use Rattle.fab_tables.specs.Reading.{hops_read}
use Rattle.fab_tables.specs.Starts.{start_of}
use Rattle.fab_tables.proofs.Rows.Cells.{unsome}
use Rattle.fab_drain.specs.Offers.{IsFilledBefore, before_start, behind_start}
use Rattle.fab_drain.proofs.FillingOn.{IsOffering, terminal_missed, terminal_found, offering_begins, offering_goes, offering_ends, offer_place, some_remain, hop_low}
use Rattle.fab_drain.proofs.HopCounts.{hops_short}
use Rattle.fab_drain.proofs.state.State.offer_from.Goals as goal

mapped_none : (o : Option ℕ) → option_map terminal_id o ≡ None → o ≡ None
mapped_none None e = refl
mapped_none (Some k) e = cc

mapped_some : (o : Option ℕ) (x : TerminalId) → option_map terminal_id o ≡ Some x → o ≡ Some x.0
mapped_some None x e = cc
mapped_some (Some k) x e = ap (λ (y : TerminalId). Some y.0) (same_Some (terminal_id k) x e)

row_path : (t : Topology) (start : Start) (lid : ℕ) (row : TerminalRow) (k : ℕ) → slice_get t.terminals k ≡ Some row → start_of row ≡ start → IsConnectedTo t start.switch.0 lid → IsPath t row lid
row_path t start lid row k at is connected = record {
  terminal = (k, slice_get_within t.terminals k row at, get_or_from_slice_get t.terminals k row row at);
  connected = subst (λ (s : Start). IsConnectedTo t s.switch.0 lid) (sym is) connected;
}

pub returns-in_default : goal.returns-in_default
returns-in_default c =
    absurd (terminal_missed c.args.fabric.now c.args.start c.requires.start (mapped_none (terminal_at c.args.fabric.now c.args.start.switch.0 c.args.start.port) (sym c.terminal_at.ensures ∙ c.in_default.is)))

pub hop_count-remaining-requires-clause-path : goal.hop_count-remaining-requires-clause-path
hop_count-remaining-requires-clause-path c =
    let t = c.args.fabric.now in
    let p = c.args.plan.now in
    let row = c.terminal-row.result in
    let lid = c.args.lid in
    let own : start_of row ≡ c.args.start = terminal_found c.args.fabric.now c.args.start c.in-Some.terminal.0 c.terminal-row.result (mapped_some (terminal_at c.args.fabric.now c.args.start.switch.0 c.args.start.port) c.in-Some.terminal (sym c.terminal_at.ensures ∙ c.in-Some.is)) c.terminal-row.ensures in
    let path : IsPath t row lid.0 = row_path t c.args.start lid.0 row c.in-Some.terminal.0 c.terminal-row.ensures own c.requires.connected in
    path

pub packet_hops-at-items-requires-clause-path : goal.packet_hops-at-items-requires-clause-path
packet_hops-at-items-requires-clause-path c =
    let t = c.args.fabric.now in
    let p = c.args.plan.now in
    let row = c.terminal-row.result in
    let lid = c.args.lid in
    let own : start_of row ≡ c.args.start = terminal_found c.args.fabric.now c.args.start c.in-Some.terminal.0 c.terminal-row.result (mapped_some (terminal_at c.args.fabric.now c.args.start.switch.0 c.args.start.port) c.in-Some.terminal (sym c.terminal_at.ensures ∙ c.in-Some.is)) c.terminal-row.ensures in
    let path : IsPath t row lid.0 = row_path t c.args.start lid.0 row c.in-Some.terminal.0 c.terminal-row.ensures own c.requires.connected in
    path

pub loop-at-init : goal.loop-at-init
loop-at-init c =
    let t = c.args.fabric.now in
    let p = c.args.plan.now in
    let row = c.terminal-row.result in
    let lid = c.args.lid in
    let own : start_of row ≡ c.args.start = terminal_found c.args.fabric.now c.args.start c.in-Some.terminal.0 c.terminal-row.result (mapped_some (terminal_at c.args.fabric.now c.args.start.switch.0 c.args.start.port) c.in-Some.terminal (sym c.terminal_at.ensures ∙ c.in-Some.is)) c.terminal-row.ensures in
    let path : IsPath t row lid.0 = row_path t c.args.start lid.0 row c.in-Some.terminal.0 c.terminal-row.ensures own c.requires.connected in
    let hops : c.into_iter-at-iterator.result.hops ≡ hops_read t p row lid.0 = ap (λ (a : HopsAhead). a.hops) c.into_iter-at-iterator.ensures.into_iter_gives ∙ c.packet_hops-at-items.ensures in (
      tt,
      tt,
      λ r e. subst (λ y. IsOffering t p y lid c.into_iter-at-iterator.result.hops 0 c.hop_count-remaining.result c.args.self.now) (unsome row r (sym c.terminal-row.ensures ∙ e)) (subst (λ vs. IsOffering t p row lid vs 0 c.hop_count-remaining.result c.args.self.now) (sym hops)
          (offering_begins t p c.requires.admitted c.in-Some.terminal row c.terminal-row.ensures lid path c.args.self.now c.hop_count-remaining.result c.hop_count-remaining.ensures
          (subst (λ s. IsFilledBefore t p (before_start lid.0 s) c.args.self.now) (sym own) c.requires.before))),
    )

pub offer-requires : goal.offer-requires
offer-requires c =
    let t = c.args.fabric.now in
    let p = c.args.plan.now in
    let row = c.terminal-row.result in
    let lid = c.args.lid in
    let own : start_of row ≡ c.args.start = terminal_found c.args.fabric.now c.args.start c.in-Some.terminal.0 c.terminal-row.result (mapped_some (terminal_at c.args.fabric.now c.args.start.switch.0 c.args.start.port) c.in-Some.terminal (sym c.terminal_at.ensures ∙ c.in-Some.is)) c.terminal-row.ensures in
    let path : IsPath t row lid.0 = row_path t c.args.start lid.0 row c.in-Some.terminal.0 c.terminal-row.ensures own c.requires.connected in
    offer_place t p c.requires.admitted c.in-Some.terminal row c.terminal-row.ensures lid path c.loop-at.at-iterator.hops c.in-Some-at.at c.next.new.self.hops c.loop-at.position c.loop-at.remaining c.loop-at.self (c.loop-at.invariant.2 row c.terminal-row.ensures) c.in-Some-at.ensures.steps

pub overflow_add-position : goal.overflow_add-position
overflow_add-position c =
    let t = c.args.fabric.now in
    let p = c.args.plan.now in
    let row = c.terminal-row.result in
    let lid = c.args.lid in
    let own : start_of row ≡ c.args.start = terminal_found c.args.fabric.now c.args.start c.in-Some.terminal.0 c.terminal-row.result (mapped_some (terminal_at c.args.fabric.now c.args.start.switch.0 c.args.start.port) c.in-Some.terminal (sym c.terminal_at.ensures ∙ c.in-Some.is)) c.terminal-row.ensures in
    let path : IsPath t row lid.0 = row_path t c.args.start lid.0 row c.in-Some.terminal.0 c.terminal-row.ensures own c.requires.connected in
    omega (arith, hop_low t p c.requires.admitted c.in-Some.terminal row c.terminal-row.ensures lid path c.loop-at.at-iterator.hops c.in-Some-at.at c.next.new.self.hops c.loop-at.position c.loop-at.remaining c.loop-at.self (c.loop-at.invariant.2 row c.terminal-row.ensures) c.in-Some-at.ensures.steps, hops_short t p row lid.0, c.requires.before.is_load.fabric.rows.switch_count)

pub overflow_sub-remaining : goal.overflow_sub-remaining
overflow_sub-remaining c =
    let t = c.args.fabric.now in
    let p = c.args.plan.now in
    let row = c.terminal-row.result in
    let lid = c.args.lid in
    let own : start_of row ≡ c.args.start = terminal_found c.args.fabric.now c.args.start c.in-Some.terminal.0 c.terminal-row.result (mapped_some (terminal_at c.args.fabric.now c.args.start.switch.0 c.args.start.port) c.in-Some.terminal (sym c.terminal_at.ensures ∙ c.in-Some.is)) c.terminal-row.ensures in
    let path : IsPath t row lid.0 = row_path t c.args.start lid.0 row c.in-Some.terminal.0 c.terminal-row.ensures own c.requires.connected in
    omega (arith, some_remain t p c.requires.admitted c.in-Some.terminal row c.terminal-row.ensures lid path c.loop-at.at-iterator.hops c.in-Some-at.at c.next.new.self.hops c.loop-at.position c.loop-at.remaining c.loop-at.self (c.loop-at.invariant.2 row c.terminal-row.ensures) c.in-Some-at.ensures.steps)

pub loop-at-preserved : goal.loop-at-preserved
loop-at-preserved c =
    let t = c.args.fabric.now in
    let p = c.args.plan.now in
    let row = c.terminal-row.result in
    let lid = c.args.lid in
    let own : start_of row ≡ c.args.start = terminal_found c.args.fabric.now c.args.start c.in-Some.terminal.0 c.terminal-row.result (mapped_some (terminal_at c.args.fabric.now c.args.start.switch.0 c.args.start.port) c.in-Some.terminal (sym c.terminal_at.ensures ∙ c.in-Some.is)) c.terminal-row.ensures in
    let path : IsPath t row lid.0 = row_path t c.args.start lid.0 row c.in-Some.terminal.0 c.terminal-row.ensures own c.requires.connected in
    (tt, tt, λ r e. subst (λ y. IsOffering t p y lid c.next.new.self.hops (c.loop-at.position + 1) (c.loop-at.remaining - 1) c.offer.new.self) (unsome row r (sym c.terminal-row.ensures ∙ e)) (offering_goes t p c.requires.admitted c.in-Some.terminal row c.terminal-row.ensures lid path c.loop-at.at-iterator.hops c.in-Some-at.at c.next.new.self.hops c.loop-at.position c.loop-at.remaining c.loop-at.self (c.loop-at.invariant.2 row c.terminal-row.ensures) c.in-Some-at.ensures.steps c.offer.new.self c.offer.ensures))

pub returns : goal.returns
returns c =
    let t = c.args.fabric.now in
    let p = c.args.plan.now in
    let row = c.terminal-row.result in
    let lid = c.args.lid in
    let own : start_of row ≡ c.args.start = terminal_found c.args.fabric.now c.args.start c.in-Some.terminal.0 c.terminal-row.result (mapped_some (terminal_at c.args.fabric.now c.args.start.switch.0 c.args.start.port) c.in-Some.terminal (sym c.terminal_at.ensures ∙ c.in-Some.is)) c.terminal-row.ensures in
    let path : IsPath t row lid.0 = row_path t c.args.start lid.0 row c.in-Some.terminal.0 c.terminal-row.ensures own c.requires.connected in
    subst (λ s. IsFilledBefore t p (behind_start lid.0 s) c.loop-at.self) own
    (offering_ends t p c.requires.admitted c.in-Some.terminal row c.terminal-row.ensures lid path c.loop-at.at-iterator.hops c.loop-at.position c.loop-at.remaining c.loop-at.self (c.loop-at.invariant.2 row c.terminal-row.ensures) c.in-None.ensures.steps.0)

use Rattle.std.proofs.Common.{◌≡◌, ◌<◌, ◌∙◌, ℕ, Bool, false, List, [], ◌∷◌, replicate, Vec, Global, length, map, sym, ap, subst, arith}
use Rattle.std.specs.Prelude.{filter}
use Rattle.std.specs.List.{range_with_len}
use Rattle.std.proofs.lemmas.List.{with_items_is, length-replicate, nil_from_length}
use Rattle.std.proofs.lemmas.Option.{same_Some}
use Rattle.std.proofs.lemmas.Result.{IfOk-weaker}
use Rattle.fab_model.specs.declared.rows.TerminalId.{TerminalId}
use Rattle.fab_model.specs.declared.rows.TerminalRow.{TerminalRow}
use Rattle.fab_model.specs.WellFormed.{IsWellFormed}
use Rattle.fab_model.proofs.Faultless.Facts.{slice_get_in}
use Rattle.fab_mcast.specs.declared.copies.PacketCopy.{PacketCopy}
use Rattle.fab_mcast.specs.GroupTrees.{entries_at, members_at}
use Rattle.fab_mcast.specs.Sending.{seen_copies, is_marked}
use Rattle.fab_mcast.specs.Spreads.{first_copy, IsSpread, ReachesMembers}
use Rattle.fab_mcast.proofs.KeptTables.{all_alike, group_entries, member_low, group_reaches, group_whole}
use Rattle.fab_mcast.proofs.PlantedTrees.{terminal_low}
use Rattle.fab_mcast.proofs.Spreading.{IsSpreading, spreading_begins, pending_low, one_sent, one_fewer, spread_is}
use Rattle.fab_mcast.proofs.copies.spread.Goals as goal

pub terminal-row-requires : goal.terminal-row-requires
terminal-row-requires c = member_low c.args.fabric.now c.args.tables.now c.requires.planted c.args.index c.requires.index c.requires.known c.args.from.0 c.requires.member

pub loop-copy-init : goal.loop-copy-init
loop-copy-init c = λ good row at.
    let t = c.args.fabric.now in
    let tables = c.args.tables.now in
    let ports : List (List ℕ) = entries_at tables c.args.index in
    let marks : List Bool = c.in_ok-reached.reached.items in
    let same : c.terminal-row.result ≡ row = same_Some c.terminal-row.result row (sym c.terminal-row.ensures ∙ at) in
    let pending : seen_copies c.in_ok-pending.pending.items ≡ first_copy row ∷ [] =
    ap (λ (cs : List PacketCopy). seen_copies cs) c.in_ok-pending.ensures.items ∙ ap (λ (r : TerminalRow). first_copy r ∷ []) same in
    let all : marks ≡ replicate c.terminals.result false = c.in_ok-reached.ensures.items_if_clones_equal (λ y same. same) in
    subst (λ cs. IsSpreading t good ports (first_copy row) cs marks) (sym pending)
    (spreading_begins t good ports (first_copy row) marks (terminal_low t good row (slice_get_in t.terminals c.args.from.0 row at))
    (group_whole t tables c.requires.planted c.args.index c.requires.index c.requires.known c.args.from.0 c.requires.member c.terminals.ensures.kept good row at)
    (ap (λ (ms : List Bool). length ms) all ∙ length-replicate c.terminals.result false ∙ c.terminals.ensures.count)
    (λ n. ap (λ (ms : List Bool). is_marked ms n) all ∙ all_alike c.terminals.result n false))

pub ports-ports-requires : goal.ports-ports-requires
ports-ports-requires c =
    let t = c.args.fabric.now in
    let good : IsWellFormed t = c.terminals.ensures.kept.rows in
    let row = c.terminal-row.result in
    let low : c.in-Some.copy.at.0 < length t.switches =
    pending_low t good (entries_at c.args.tables.now c.args.index) (first_copy row) c.loop-copy.pending.items c.pop.new.self.items c.in-Some.copy c.loop-copy.reached.items
    (c.loop-copy.invariant good row c.terminal-row.ensures) c.in-Some.ensures.items in
    record { index = c.requires.index; switch = omega (arith, low, group_entries t c.args.tables.now c.requires.planted c.args.index c.requires.index) }

pub mark_reached-requires : goal.mark_reached-requires
mark_reached-requires c =
    let t = c.args.fabric.now in
    let good : IsWellFormed t = c.terminals.ensures.kept.rows in
    let row = c.terminal-row.result in
    let is : IsSpreading t good (entries_at c.args.tables.now c.args.index) (first_copy row) (seen_copies c.loop-copy.pending.items) c.loop-copy.reached.items = c.loop-copy.invariant good row c.terminal-row.ensures in
    record {
      switch = pending_low t good (entries_at c.args.tables.now c.args.index) (first_copy row) c.loop-copy.pending.items c.pop.new.self.items c.in-Some.copy c.loop-copy.reached.items is c.in-Some.ensures.items;
      each = ap (λ (ms : List Bool). length ms) c.deref_mut.ensures.value ∙ is.each;
    }

pub push_copies-requires : goal.push_copies-requires
push_copies-requires c =
    let t = c.args.fabric.now in
    let good : IsWellFormed t = c.terminals.ensures.kept.rows in
    let row = c.terminal-row.result in
    pending_low t good (entries_at c.args.tables.now c.args.index) (first_copy row) c.loop-copy.pending.items c.pop.new.self.items c.in-Some.copy c.loop-copy.reached.items
    (c.loop-copy.invariant good row c.terminal-row.ensures) c.in-Some.ensures.items

pub loop-copy-preserved : goal.loop-copy-preserved
loop-copy-preserved c = λ good row at.
    let t = c.args.fabric.now in
    let ports : List (List ℕ) = entries_at c.args.tables.now c.args.index in
    let copy : PacketCopy = c.in-Some.copy in
    let old : List Bool = c.loop-copy.reached.items in
    let new : List Bool = c.mark_reached.new.reached in
    let before : IsSpreading t good ports (first_copy row) (seen_copies c.loop-copy.pending.items) old = c.loop-copy.invariant good row at in
    let same : c.deref_mut.result.now ≡ old = c.deref_mut.ensures.value in
    let each : length new ≡ length old = c.mark_reached.ensures.each ∙ ap (λ (ms : List Bool). length ms) same in
    let whole = with_items_is c.loop-copy.reached new (omega (arith, each, c.loop-copy.reached.ok.0)) in
    rw whole (one_sent t good ports c.loop-copy.pending.items c.pop.new.self.items c.push_copies.new.pending.items copy c.ports-ports.result.now c.in-Some.ensures.items c.ports-ports.ensures c.in_ok-push_copies.ensures
    (first_copy row) old new before each (rw same at c.mark_reached.ensures.marked))

pub loop-copy-smaller : goal.loop-copy-smaller
loop-copy-smaller c =
    let t = c.args.fabric.now in
    let good : IsWellFormed t = c.terminals.ensures.kept.rows in
    let row = c.terminal-row.result in
    one_fewer t good (entries_at c.args.tables.now c.args.index) c.loop-copy.pending.items c.pop.new.self.items c.push_copies.new.pending.items c.in-Some.copy c.ports-ports.result.now c.in-Some.ensures.items c.ports-ports.ensures
    c.in_ok-push_copies.ensures (first_copy row) c.loop-copy.reached.items (c.loop-copy.invariant good row c.terminal-row.ensures)

pub marked-requires : goal.marked-requires
marked-requires c =
    let t = c.args.fabric.now in
    let good : IsWellFormed t = c.terminals.ensures.kept.rows in
    let row = c.terminal-row.result in
    let is : IsSpreading t good (entries_at c.args.tables.now c.args.index) (first_copy row) (seen_copies c.loop-copy.pending.items) c.loop-copy.reached.items = c.loop-copy.invariant good row c.terminal-row.ensures in
    omega (arith, ap (λ (ms : List Bool). length ms) c.deref.ensures.value, is.each, c.terminals.ensures.count, c.terminals.type_inv)

pub returns : goal.returns
returns c =
    let t = c.args.fabric.now in
    let tables = c.args.tables.now in
    let ports : List (List ℕ) = entries_at tables c.args.index in
    let good : IsWellFormed t = c.terminals.ensures.kept.rows in
    let row = c.terminal-row.result in
    let marks : List Bool = c.loop-copy.reached.items in
    let rest : List PacketCopy = c.pop.new.self.items in
    let none : c.loop-copy.pending.items ≡ [] = nil_from_length c.loop-copy.pending.items (omega (arith, c.in_default.ensures.cases, c.loop-copy.pending.ok.0)) in
    let is : IsSpreading t good ports (first_copy row) [] marks =
    subst (λ (cs : List PacketCopy). IsSpreading t good ports (first_copy row) (seen_copies cs) marks) none (c.loop-copy.invariant good row c.terminal-row.ensures) in
    let spread : IsSpread t ports c.args.from.0 (filter (is_marked marks) (range_with_len 0 (length marks))) =
    spread_is t good ports c.args.from.0 row marks c.terminal-row.ensures
    (group_whole t tables c.requires.planted c.args.index c.requires.index c.requires.known c.args.from.0 c.requires.member c.terminals.ensures.kept good row c.terminal-row.ensures) is in
    let listed : (found : Vec TerminalId Global) → map (λ (id : TerminalId). id.0) found.items ≡ filter (is_marked c.deref.result.now) (range_with_len 0 (length c.deref.result.now)) →
    IsSpread t ports c.args.from.0 (map (λ (id : TerminalId). id.0) found.items) =
    λ found told. subst (λ ns. IsSpread t ports c.args.from.0 ns) (sym (subst (λ ms. map (λ (id : TerminalId). id.0) found.items ≡ filter (is_marked ms) (range_with_len 0 (length ms))) c.deref.ensures.value told)) spread in
    let IsListed : Vec TerminalId Global → Type 0 =
    λ found. map (λ (id : TerminalId). id.0) found.items ≡ filter (is_marked c.deref.result.now) (range_with_len 0 (length c.deref.result.now)) in
    record {
      reached = IfOk-weaker c.marked.result IsListed (λ found. IsSpread t ports c.args.from.0 (map (λ (id : TerminalId). id.0) found.items)) listed c.marked.ensures;
      members = IfOk-weaker c.marked.result IsListed (λ found. ReachesMembers t (members_at tables c.args.index) ports c.args.from.0)
          (λ found told. group_reaches t tables c.requires.planted c.args.index c.requires.index c.requires.known c.args.from.0 c.requires.member c.terminals.ensures.kept) c.marked.ensures;
    }

use Rattle.std.proofs.Common.{◌∙◌, ◌<◌, All, List, ℕ, length, Contains, ap, subst, sym, flat_map, arith}
use Rattle.fab_model.specs.declared.rows.TerminalId.{TerminalId}
use Rattle.fab_top.specs.GroupTexts.{lid_row}
use Rattle.fab_top.proofs.Spreading.{as_many_tables, planted_for_own, tables_known, members_there, found_low, from_found}
use Rattle.fab_top.proofs.commands.groups.reached_from.Goals as goal

pub spread-requires-clause-planted : goal.spread-requires-clause-planted
spread-requires-clause-planted c = planted_for_own c.args.fabric.now c.args.groups.now _ c.in_ok-tables.ensures.planted

pub spread-requires-clause-known : goal.spread-requires-clause-known
spread-requires-clause-known c = tables_known c.args.fabric.now c.args.groups.now _ c.requires.known c.in_ok-tables.ensures.planted

pub spread-requires-clause-index : goal.spread-requires-clause-index
spread-requires-clause-index c = omega (arith, c.requires.index, as_many_tables c.args.fabric.now c.args.groups.now _ c.in_ok-tables.ensures.planted)

pub spread-requires-clause-member : goal.spread-requires-clause-member
spread-requires-clause-member c =
    subst (λ (ns : List ℕ). Contains ns c.args.from.0) (sym (members_there c.args.fabric.now c.args.groups.now _ c.requires.known c.in_ok-tables.ensures.planted c.args.index)) c.requires.member

pub spread_text-requires : goal.spread_text-requires
spread_text-requires c =
    subst (λ (ids : List TerminalId). All (λ (id : TerminalId). id.0 < length c.args.fabric.now.terminals) ids) (sym c.deref.ensures.value)
    (found_low c.args.fabric.now _ _ c.args.from.0 _ c.in_ok-found.ensures.members c.in_ok-found.ensures.reached)

pub returns : goal.returns
returns c =
    from_found c.args.fabric.now c.args.groups.now c.args.index c.args.from.0 _ c.in_ok-found.found.items _ _ c.requires.fabric c.requires.known c.requires.member c.in_ok-tables.ensures.planted c.in_ok-found.ensures.reached
    (c.in_ok-text.ensures ∙ ap (λ (ids : List TerminalId). flat_map (λ (id : TerminalId). lid_row c.args.fabric.now id.0) ids) c.deref.ensures.value) c.done.ensures.answer c.done.ensures.can_be_put

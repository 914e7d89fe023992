use Rattle.std.proofs.Common.{◌≡◌, ◌∙◌, ℕ, None, Some, sym, ap, arith}
use Rattle.std.specs.Prelude.{option_map}
use Rattle.fab_model.specs.declared.rows.TerminalId.{TerminalId}
use Rattle.fab_tables.proofs.Paths.FallingRoutes.{place_below}
use Rattle.fab_mcast.proofs.MemberPorts.{seen_terminal}
use Rattle.fab_mcast.proofs.MembersByLid.{lid_missing, lid_placed}
use Rattle.fab_mcast.proofs.group_list.terminal_with.Goals as goal

pub returns-in_err-place : goal.returns-in_err-place
returns-in_err-place c = ap (λ o. option_map (λ (id : TerminalId). id.0) o) c.from_residual.ensures ∙ sym (lid_missing c.args.fabric.now c.requires.rows c.args.lid.0 (sym c.place_of.ensures ∙ c.in_err-place.was))

pub terminal_at-requires : goal.terminal_at-requires
terminal_at-requires c = place_below c.args.fabric.now c.requires.rows c.args.lid.0 c.in_ok-place.place (sym c.place_of.ensures ∙ c.in_ok-place.was)

pub returns : goal.returns
returns c = ap (λ o. option_map (λ (id : TerminalId). id.0) o) c.terminal_at.ensures ∙ seen_terminal _ ∙ lid_placed c.args.fabric.now c.requires.rows c.args.lid.0 c.in_ok-place.place (sym c.place_of.ensures ∙ c.in_ok-place.was)

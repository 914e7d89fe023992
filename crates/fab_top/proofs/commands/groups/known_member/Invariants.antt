use Rattle.std.proofs.Common.{◌≡◌, map, drop}
use Rattle.std.specs.Prelude.{find, slice_get}
use Rattle.fab_model.specs.declared.rows.TerminalId.{TerminalId}
use Rattle.fab_top.specs.Files.{has_lid}
use Rattle.fab_top.proofs.commands.groups.known_member.Given as goal

-- no member before has the LID
abbrev pub invariant-loop-member : goal.invariant-loop-member
invariant-loop-member l =
    find (λ n. has_lid l.lid.0 (slice_get l.fabric.terminals n)) (map (λ (id : TerminalId). id.0) (drop l.member-index l.members))
    ≡ find (λ n. has_lid l.lid.0 (slice_get l.fabric.terminals n)) (map (λ (id : TerminalId). id.0) l.members)

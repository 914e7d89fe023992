use Rattle.std.proofs.Common.{◌≡◌, take}
use Rattle.fab_model.specs.Built as build
use Rattle.fab_model.proofs.Made.Links.{is_under_adapter, rows_of}
use Rattle.fab_model.proofs.building.terminal_rows.Given as goal

abbrev pub invariant-loop-link : goal.invariant-loop-link
invariant-loop-link l = l.rows.items ≡ rows_of (build.terminal_row l.switches l.adapters) is_under_adapter l.raw (take l.link-index l.raw.links)

use Rattle.std.proofs.Common.{◌≡◌, take}
use Rattle.fab_model.specs.Built as build
use Rattle.fab_model.proofs.Made.Links.{joins_switches, rows_of}
use Rattle.fab_model.proofs.building.channel_rows.Given as goal

abbrev pub invariant-loop-link : goal.invariant-loop-link
invariant-loop-link l = l.rows.items ≡ rows_of (build.channel_row l.switches) joins_switches l.raw (take l.link-index l.raw.links)

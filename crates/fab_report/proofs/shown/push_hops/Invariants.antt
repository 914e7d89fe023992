use Rattle.std.proofs.Common.{◌≡◌, ◌++◌}
use Rattle.std.specs.Prelude.{All, flat_map}
use Rattle.fab_tables.specs.Route.{route}
use Rattle.fab_tables.specs.VirtualChannels.{on_channels}
use Rattle.fab_report.specs.Shown.{numbered_line}
use Rattle.fab_report.proofs.Reporting.HopLines.{IsHop}
use Rattle.fab_report.proofs.shown.push_hops.Given as goal

abbrev pub invariant-loop-hop : goal.invariant-loop-hop
invariant-loop-hop l =
    (goal.iterator-loop-hop).can_next l.hop-iterator × (goal.iterator-loop-hop).is_finite l.hop-iterator
    × All (IsHop l.fabric) l.hop-iterator.hops
    × (l.text.items ++ flat_map (numbered_line l.fabric l.lanes) l.hop-iterator.hops
    ≡ l.initial.text.items ++ flat_map (numbered_line l.fabric l.lanes) (on_channels l.fabric l.lanes l.level l.fn.from.port (route l.fabric l.tables l.fn.from.switch.0 l.fn.lid.0).channels))

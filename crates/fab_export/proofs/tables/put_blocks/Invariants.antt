use Rattle.std.proofs.Common.{take, Ok}
use Rattle.std.specs.List.{flat_map, enumerate_from}
use Rattle.fab_dump.specs.Writing.{PutsText, lines_text}
use Rattle.fab_export.specs.TablesText.{exported_block}
use Rattle.fab_export.proofs.tables.put_blocks.Given as goal

abbrev pub invariant-loop-switch : goal.invariant-loop-switch
invariant-loop-switch g l =
    PutsText (lines_text (flat_map (exported_block l.reached.fabric l.reached.entries) (take l.switch (enumerate_from 0 l.reached.fabric.switches)))) (g.S.Sink.told l.initial.sink) (g.S.Sink.told l.sink) (g.S.Sink.faults l.initial.sink) (g.S.Sink.faults l.sink) (Ok tt)

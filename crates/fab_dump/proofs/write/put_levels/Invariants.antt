use Rattle.std.proofs.Common.{take, Ok}
use Rattle.std.specs.List.{flat_map, enumerate_from}
use Rattle.fab_dump.specs.Writing.{PutsText, lines_text, levels_block}
use Rattle.fab_dump.proofs.write.put_levels.Given as goal

abbrev pub invariant-loop-switch : goal.invariant-loop-switch
invariant-loop-switch g l =
    PutsText (lines_text (flat_map (levels_block l.fabric l.lanes) (take l.switch (enumerate_from 0 l.fabric.switches)))) (g.S.Sink.told l.initial.sink) (g.S.Sink.told l.sink) (g.S.Sink.faults l.initial.sink) (g.S.Sink.faults l.sink) (Ok tt)

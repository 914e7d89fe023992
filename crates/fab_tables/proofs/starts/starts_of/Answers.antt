use Rattle.std.proofs.Common.{◌∙◌, ap, map, arith}
use Rattle.std.proofs.lemmas.List.{take_all}
use Rattle.fab_tables.specs.Starts.{start_of}
use Rattle.fab_tables.proofs.Faults.StartsSorted.{one_start_more, sorted_starts}
use Rattle.fab_tables.proofs.starts.starts_of.Goals as goal

pub loop-index-preserved : goal.loop-index-preserved
loop-index-preserved c = c.in_ok-push.ensures.items ∙ one_start_more c.args.fabric.now c.loop-index.starts.items c.loop-index.index c.terminal-row.result c.loop-index.invariant c.terminal-row.ensures

pub returns : goal.returns
returns c =
    sorted_starts c.args.fabric.now c.loop-index.starts.items c.sort_unstable.new.self.items
    (c.loop-index.invariant ∙ ap (λ rows. map start_of rows) (take_all c.loop-index.index c.args.fabric.now.terminals (omega (arith, c.terminals-index-end.ensures.count))))
    c.sort_unstable.ensures.permutation c.sort_unstable.ensures.sorted

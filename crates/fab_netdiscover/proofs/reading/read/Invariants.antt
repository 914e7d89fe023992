use Rattle.std.proofs.Common.{◌≡◌, ◌+◌, ◌-◌, ◌≤◌, length, drop}
use Rattle.std.specs.Str.Lines.{lines}
use Rattle.fab_model.specs.Records.{last_line}
use Rattle.fab_netdiscover.specs.Reading.{lines_read, records_in}
use Rattle.fab_netdiscover.proofs.reading.read.Given as goal

abbrev pub invariant-loop-found : goal.invariant-loop-found
invariant-loop-found l = record {
  rest : lines_read (l.line + 1) l.raw (lines (drop l.from l.text)) ≡ records_in l.fn.text;
  below : last_line l.raw ≤ l.line;
  count : l.line ≤ l.from;
  within : l.from ≤ length l.text;
}

abbrev pub decreases-loop-found : goal.decreases-loop-found
decreases-loop-found l = length l.text - l.from

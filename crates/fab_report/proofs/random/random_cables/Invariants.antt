use Rattle.std.proofs.Common.{◌≡◌, ◌-◌}
use Rattle.fab_report.specs.Cabling.{random_cables}
use Rattle.fab_report.proofs.Cabling.Drawing.{joined_from, crossed_from}
use Rattle.fab_report.proofs.random.random_cables.Given as goal

abbrev pub invariant-loop-s : goal.invariant-loop-s
invariant-loop-s l = record {
  count : l.laid.switches ≡ l.switches;
  drawn : joined_from l.switches l.more l.s l.laid.cables l.words ≡ random_cables l.switches l.more l.seed;
}

abbrev pub invariant-loop : goal.invariant-loop
invariant-loop l = record {
  count : l.laid.switches ≡ l.switches;
  drawn : crossed_from l.switches (l.more - l.counter) l.laid.cables l.words ≡ random_cables l.switches l.more l.seed;
}

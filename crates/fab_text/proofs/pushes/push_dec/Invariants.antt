use Rattle.std.proofs.Common.{◌≡◌, ◌≤◌, ◌++◌, length, drop}
use Rattle.std.specs.Prelude.{decimal}
use Rattle.fab_text.proofs.pushes.push_dec.Given as goal

abbrev pub invariant-loop-rest : goal.invariant-loop-rest
invariant-loop-rest l = record {
  told : decimal l.rest ++ drop l.place l.digits ≡ decimal l.fn.n;
  room : length (decimal l.rest) ≤ l.place;
  within : l.place ≤ 20;
  size : length l.digits ≡ 20;
}

abbrev pub decreases-loop-rest : goal.decreases-loop-rest
decreases-loop-rest l = l.rest

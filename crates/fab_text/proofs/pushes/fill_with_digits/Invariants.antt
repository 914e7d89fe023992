use Rattle.std.proofs.Common.{◌≡◌, ◌≤◌, ◌++◌, length, drop}
use Rattle.fab_text.specs.Digits.{last_digits}
use Rattle.fab_text.proofs.pushes.fill_with_digits.Given as goal

abbrev pub invariant-loop-place : goal.invariant-loop-place
invariant-loop-place l = record {
  told : last_digits l.base l.place l.rest ++ drop l.place l.into ≡ last_digits l.base (length l.fn.into) l.fn.n;
  place : l.place ≤ length l.into;
  same : length l.into ≡ length l.fn.into;
}

abbrev pub decreases-loop-place : goal.decreases-loop-place
decreases-loop-place l = l.place

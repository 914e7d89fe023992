use Rattle.std.proofs.Common.{◌≡◌, ◌<◌, ◌^◌, length}
use Rattle.std.specs.List.{list_all}
use Rattle.std.specs.Char.{is_digit}
use Rattle.fab_text.specs.Digits.{number_after, number_spelled}
use Rattle.fab_dump.proofs.fields.spelled_in.Given as goal

abbrev pub invariant-loop-rest : goal.invariant-loop-rest
invariant-loop-rest l = record {
  told : number_after l.base l.number l.rest ≡ number_spelled l.base l.fn.field;
  all : list_all (λ byte. is_digit byte l.base) l.rest ≡ list_all (λ byte. is_digit byte l.base) l.fn.field;
  fits : l.number < 2 ^ 64;
}

abbrev pub decreases-loop-rest : goal.decreases-loop-rest
decreases-loop-rest l = length l.rest

use Rattle.std.proofs.Common.{length, ap, arith}
use Rattle.std.specs.Prelude.{List}
use Rattle.fab_nue.specs.declared.choices.Choice.{Choice}
use Rattle.fab_nue.proofs.Heaps.Counts.{one_more}
use Rattle.fab_tests.proofs.nue.the_least_choice_comes_first.Goals as goal

pub push-requires-2 : goal.push-requires-2
push-requires-2 g c = omega (
  arith,
  one_more c.in_ok-choices.choices c.push.new.self c.choice.result c.push.ensures,
  c.push.ensures.room,
  c.in_ok-choices.ensures.room,
  ap (λ (cs : List Choice). length cs) c.in_ok-choices.ensures.empty,
)

pub push-requires-3 : goal.push-requires-3
push-requires-3 g c = omega (
  arith,
  one_more c.in_ok-choices.choices c.push.new.self c.choice.result c.push.ensures,
  one_more c.push.new.self c.push-2.new.self c.choice-2.result c.push-2.ensures,
  c.push.ensures.room,
  c.push-2.ensures.room,
  c.in_ok-choices.ensures.room,
  ap (λ (cs : List Choice). length cs) c.in_ok-choices.ensures.empty,
)

use Rattle.fab_drain.proofs.Readying.{least_taken, none_left}
use Rattle.fab_drain.proofs.turns.Turns.take_first.Goals as goal

pub returns-clause-least : goal.returns-clause-least
returns-clause-least c = least_taken c.pop_first.result c.pop_first.new.self.keys c.pop_first.ensures.all_above

pub returns-clause-none : goal.returns-clause-none
returns-clause-none c = none_left c.pop_first.result c.args.self.now.ready.keys c.pop_first.ensures.variant.1

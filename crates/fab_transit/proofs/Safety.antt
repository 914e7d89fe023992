-- Numbers on a change make it safe.
use Rattle.std.proofs.Common.{◌≡◌, subst, Result, Ok, Err}
use Rattle.std.specs.Prelude.{IfOk}
use Rattle.fab_model.specs.Topology.{Topology}
use Rattle.fab_tables.specs.LaneTables.{LaneTables}
use Rattle.fab_tables.specs.Certified.{number_of}
use Rattle.fab_transit.specs.declared.mixed.Mixed.{Mixed}
use Rattle.fab_transit.specs.declared.mixed.Mixed.TheVariants.{Numbers}
use Rattle.fab_transit.specs.MixedWalks.{Change}
use Rattle.fab_transit.specs.Answers.{IsAnswerTo}
use Rattle.fab_transit.specs.Safe.{IsSafe}
use Rattle.fab_transit.specs.Laws.{NumbersAreSafe}
use Rattle.fab_transit.proofs.SafeLaws.{numbers_rise, delivered_there, free_of_deadlock}
use Rattle.fab_transit.proofs.Bounded.{bounded}

pub numbers_safe : NumbersAreSafe
numbers_safe t m l answer = record {
  rises = numbers_rise t m l answer.1;
  bounded = bounded t m l answer.1;
  delivered = delivered_there t m answer.0;
  free = free_of_deadlock t m (number_of l) (numbers_rise t m l answer.1);
}

-- so does an answer
pub safe_answer : {E : Type 0} (t : Topology) (m : Change) (r : Result Mixed E) → IfOk r (IsAnswerTo t m) → IfOk r (λ mixed. (l : LaneTables) → mixed ≡ Numbers l → IsSafe t m l)
safe_answer t m (Ok x) answer = λ l is. numbers_safe t m l (subst (IsAnswerTo t m) is answer)
safe_answer t m (Err e) answer = tt

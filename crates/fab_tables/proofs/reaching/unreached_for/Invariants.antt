-- No fault stands at the switches so far.
use Rattle.std.proofs.Common.{◌<◌, ℕ, [], ◌∷◌, None}
use Rattle.fab_tables.specs.Verdicts.{IsFaultAt}
use Rattle.fab_tables.specs.First.{FindsFirst, Beneath}
use Rattle.fab_tables.specs.Reaching.{AreDelivered}
use Rattle.fab_tables.proofs.reaching.unreached_for.Given as goal

abbrev pub invariant-loop-s : goal.invariant-loop-s
invariant-loop-s l =
    AreDelivered l.fabric l.tables l.lid.0 l.s l.delivered × ((s : ℕ) → s < l.s → FindsFirst (Beneath (0 ∷ l.lid.0 ∷ s ∷ []) (IsFaultAt l.fabric l.tables None)) None)

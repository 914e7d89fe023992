-- The LIDs so far have their own entries, and no other entry is set.
use Rattle.fab_balance.proofs.Placing.{HasPlaced}
use Rattle.fab_balance.proofs.fixed_entries.with_fixed_entries.Given as goal

abbrev pub invariant-loop-lid : goal.invariant-loop-lid
invariant-loop-lid l = HasPlaced l.fabric l.tables l.lid-index

use Rattle.fab_tables.proofs.Rows.Places.{AreWritten}
use Rattle.fab_tables.proofs.columns.places_of.Given as goal

abbrev pub invariant-loop-place : goal.invariant-loop-place
invariant-loop-place l = AreWritten l.lids l.places.items l.place

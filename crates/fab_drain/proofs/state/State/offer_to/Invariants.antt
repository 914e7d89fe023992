-- The packets from the starts so far are offered, and the source is the switch of one of them.
use Rattle.std.proofs.Common.{◌≤◌, length}
use Rattle.fab_drain.specs.Offers.{IsFilledBefore, behind_starts}
use Rattle.fab_drain.proofs.OfferPlaces.{HasSource}
use Rattle.fab_drain.proofs.state.State.offer_to.Given as goal

abbrev pub invariant-loop-start : goal.invariant-loop-start
invariant-loop-start l = record {
  within : l.start-index ≤ length l.starts;
  filled : IsFilledBefore l.fabric l.plan (behind_starts l.fn.lid.0 l.starts l.start-index) l.self;
  source : HasSource l.starts l.start-index l.source;
}

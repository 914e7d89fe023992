use Rattle.std.proofs.Common.{◌≡◌, ◌≤◌, ℕ, None, Some, refl, inl, inr}
use Rattle.std.specs.Prelude.{slice_index_or}
use Rattle.fab_sssp.proofs.Walks.Nearing.{offered_before}
use Rattle.fab_sssp.proofs.search.offer_to.Goals as goal

pub returns-then-is_offered-clause-offer : goal.returns-then-is_offered-clause-offer
returns-then-is_offered-clause-offer c =
    let kept : (m : ℕ) × (slice_index_or c.args.least.now c.args.s.0 None ≡ Some m) × (m ≤ c.args.distance) =
    offered_before (slice_index_or c.args.least.now c.args.s.0 None) c.args.distance (c.is_offered.ensures.0 c.if-is_offered.true) in
    inl (kept.0, kept.1, kept.2, refl, refl)

pub returns-clause-offer : goal.returns-clause-offer
returns-clause-offer c = inr (c.in_ok-push.ensures.permutation, refl)

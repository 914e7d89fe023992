use Rattle.std.proofs.Common.{◌≡◌, ◌≢◌, ◌<◌, ◌≤◌, ◌+◌, ◌*◌, ◌⊎◌, inl, inr, ℕ, length, slice_set, sym, ◌∙◌, ap, subst, arith}
use Rattle.fab_nue.specs.Arenas.{listed_in, spare_in, channel_counts, ChangesLane}
use Rattle.fab_nue.specs.Laying.{left_to_lay}
use Rattle.fab_nue.proofs.Searching.Growing.{same_or_other}
use Rattle.fab_nue.proofs.Lanes.LaneLists.{same_length, changed, listed_here, listed_at, spare_here}
use Rattle.fab_nue.proofs.laid_lids.make_room.Goals as goal

pub returns-in_err-reserve-clause-channels : goal.returns-in_err-reserve-clause-channels
returns-in_err-reserve-clause-channels c =
    (changed c.loop-lane.lane c.loop-lane.used c.lane_mut.result.now c.reserve.new.self c.lane_mut.ensures.value c.reserve.ensures.channels).channels ∙ c.loop-lane.invariant.channels

pub loop-lane-preserved : goal.loop-lane-preserved
loop-lane-preserved c =
    let t = c.args.fabric.now in
    let lane = c.loop-lane.lane in
    let used = c.loop-lane.used in
    let was = c.loop-lane.invariant in
    let kept = c.args.kept.now in
    let arena = c.lane_mut.result.now in
    let h = c.reserve.new.self in
    let at = c.lane_mut.ensures.value in
    let n = length c.args.used.now in
    let lanes : c.lanes.result ≡ n = c.lanes.ensures ∙ same_length c.args.used.now used was.channels in
    let changes : ChangesLane lane used (slice_set used lane h) = changed lane used arena h at c.reserve.ensures.channels in
    let count : c.count_laid-laid.result ≡ left_to_lay t n kept lane 0 = c.count_laid-laid.ensures.count ∙ ap (λ m. left_to_lay t m kept lane 0) lanes in
    record {
      channels = changes.channels ∙ was.channels;
      listed = λ on_lane. elim (same_or_other on_lane lane) [
        | inl e ↦ subst (λ k. listed_in (slice_set used lane h) k ≡ listed_in c.args.used.now k) (sym e) (listed_here used lane arena h at ∙ c.reserve.ensures.listed ∙ sym (listed_at used lane arena at) ∙ was.listed lane)
        | inr other ↦ changes.listed on_lane other ∙ was.listed on_lane
      ];
      room = λ on_lane low. elim (same_or_other on_lane lane) [
        | inl e ↦
            subst (λ k. left_to_lay t n kept k 0 * length t.switches ≤ spare_in (slice_set used lane h) k) (sym e)
            (omega (arith, c.in_ok-reserve.ensures.ok, spare_here used lane arena h at, ap (λ k. k * length t.switches) count, ap (λ k. c.count_laid-laid.result * k) c.switches.ensures.count))
        | inr other ↦ omega (arith, was.room on_lane (omega (arith, low, other)), changes.spare on_lane other)
      ];
    }

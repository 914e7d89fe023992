use Rattle.std.proofs.Common.{◌≡◌, ◌<◌, ◌+◌, ℕ, get_or, set, ap, ◌∙◌, arith, length-set}
use Rattle.std.proofs.lemmas.List.Edits.{fill_by_more}
use Rattle.std.proofs.lemmas.List.FromFn.{fill_by_all}
use Rattle.fab_tables.specs.LaneTables.{lane}
use Rattle.fab_dump.specs.Writing.{general_map}
use Rattle.fab_dump.proofs.write_blocks.general_map.Goals as goal

pub loop-level-preserved : goal.loop-level-preserved
loop-level-preserved c =
    let f = λ (k : ℕ). lane c.args.lanes.now c.args.switch.0 k in
    let step : (k : ℕ) → k < c.loop-level.level + 1 → get_or (set c.loop-level.map c.loop-level.level (f c.loop-level.level)) k 0 ≡ f k =
    fill_by_more f c.loop-level.map c.loop-level.level 0 (omega (arith, c.loop-level.invariant.long)) c.loop-level.invariant.filled in
    record {
      long = length-set c.loop-level.map c.from.result c.lane.result ∙ c.loop-level.invariant.long;
      filled = λ k h. ap (λ (i : ℕ). get_or (set c.loop-level.map i c.lane.result) k 0) c.from.ensures ∙ ap (λ (v : ℕ). get_or (set c.loop-level.map c.loop-level.level v) k 0) c.lane.ensures ∙ step k h;
    }

pub returns : goal.returns
unfolding general_map
returns c = fill_by_all (λ (k : ℕ). lane c.args.lanes.now c.args.switch.0 k) c.loop-level.map 16 0 c.loop-level.invariant.long (λ k h. c.loop-level.invariant.filled k (omega arith))

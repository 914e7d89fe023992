use Rattle.std.proofs.Common.{◌≡◌, ◌++◌, ◌∷◌, ◌-◌, ℕ, List, length, get_or, take, drop, sym, ap, ◌∙◌, arith}
use Rattle.std.proofs.lemmas.List.{drop_more, take_rest}
use Rattle.fab_dump.specs.Writing.{lanes_text}
use Rattle.fab_dump.proofs.Writing.Rows.{lanes_done}
use Rattle.fab_dump.proofs.write_blocks.push_lanes.Goals as goal

pub returns : goal.returns
returns c =
    let all : get_or c.args.lanes.now 0 0 ∷ take (length c.args.lanes.now - 1) (drop 1 c.args.lanes.now) ≡ c.args.lanes.now =
    ap (λ (some : List ℕ). get_or c.args.lanes.now 0 0 ∷ some) (take_rest c.args.lanes.now 1) ∙ sym (drop_more c.args.lanes.now 0 0 (omega (arith, c.in-len1-up.len_at_least))) in
    lanes_done (get_or c.args.lanes.now 0 0) (take (length c.args.lanes.now - 1) (drop 1 c.args.lanes.now)) c.args.text.now.items c.push_lane.new.text.items c.loop-lane.text.items c.loop-lane.lane-index c.loop-lane-test.false c.in_ok-push_lane.ensures c.loop-lane.invariant
    ∙ ap (λ (some : List ℕ). c.args.text.now.items ++ lanes_text some) all

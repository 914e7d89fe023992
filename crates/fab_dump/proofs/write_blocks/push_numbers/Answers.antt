use Rattle.std.proofs.Common.{◌≡◌, ◌++◌, ℕ, Option, ap, ◌∙◌, sym}
use Rattle.std.specs.Prelude.{option_map, unwrap_or}
use Rattle.fab_model.specs.declared.rows.SwitchRow.{SwitchRow}
use Rattle.fab_model.specs.Topology.{guid_of}
use Rattle.fab_dump.specs.Writing.{lines_text, number_row, number_line}
use Rattle.fab_dump.proofs.Writing.Rows.{lines_of_number}
use Rattle.fab_dump.proofs.write_blocks.push_numbers.Goals as goal

pub loop-lane-preserved : goal.loop-lane-preserved
loop-lane-preserved c =
    let guid : c.switch.result.now.guid ≡ guid_of c.args.fabric.now c.channel-row.result.tail.0 = ap (λ (o : Option SwitchRow). unwrap_or (option_map (λ (row : SwitchRow). row.guid) o) 0) (sym c.switch.ensures) in
    let one = c.in_ok-push_number_line.ensures
    ∙ ap (λ (guid : ℕ). c.loop-lane.text.items ++ lines_text (number_row guid c.channel-row.result.port c.loop-lane.lane c.number.result)) guid
    ∙ ap (λ (number : ℕ). c.loop-lane.text.items ++ lines_text (number_row (guid_of c.args.fabric.now c.channel-row.result.tail.0) c.channel-row.result.port c.loop-lane.lane number)) c.number.ensures in
    lines_of_number (number_line c.args.fabric.now c.args.lanes.now (c.args.channel.0, c.channel-row.result)) c.loop-lane.lane c.args.text.now.items c.loop-lane.text.items c.push_number_line.new.text.items c.loop-lane.invariant one

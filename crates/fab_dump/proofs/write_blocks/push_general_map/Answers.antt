use Rattle.std.proofs.Common.{refl, ◌++◌, ◌∷◌, [], ap, List, ℕ, ◌∙◌}
use Rattle.std.proofs.lemmas.Result.{IfOk-equal}
use Rattle.fab_dump.specs.Lines.{map_head}
use Rattle.fab_dump.specs.Writing.{guid_head_text, general_map, lanes_text}
use Rattle.fab_dump.proofs.Writing.Lanes.{general_lanes}
use Rattle.fab_dump.proofs.Writing.Rows.{two_lines}
use Rattle.fab_dump.proofs.write_blocks.push_general_map.Goals as goal

pub push_lanes-requires : goal.push_lanes-requires
push_lanes-requires c = general_lanes c.args.lanes.now c.args.switch.0 c.general_map.result c.requires.lanes c.general_map.ensures

pub returns : goal.returns
returns c =
    IfOk-equal c.push-2.result _ _ _ c.push-2.ensures
    (two_lines (guid_head_text map_head c.args.guid) (lanes_text (general_map c.args.lanes.now c.args.switch.0)) c.args.text.now.items
    c.push_guid_head.new.text.items c.push.new.to.items c.push_lanes.new.text.items (c.push_lanes.new.text.items ++ 10 ∷ [])
    c.in_ok-push_guid_head.ensures c.in_ok-push.ensures
    (c.in_ok-push_lanes.ensures ∙ ap (λ (lanes : List ℕ). c.push.new.to.items ++ lanes_text lanes) c.general_map.ensures) refl)

use Rattle.std.proofs.Common.{◌++◌, List, ℕ, ap, ◌∙◌}
use Rattle.std.specs.Prelude.{codes}
use Rattle.std.proofs.lemmas.Result.{on_ok_weaker}
use Rattle.fab_text.specs.Digits.{last_digits}
use Rattle.fab_report.proofs.Reporting.HopLines.{two_parts, channel_text_is}
use Rattle.fab_report.proofs.shown.push_channel.Goals as goal

pub returns : goal.returns
returns c =
    let text = c.args.text.now.items in
    let guid = last_digits 16 16 c.switch.result.now.guid in
    let hex = two_parts text (codes "0x") guid c.extend_from_slice.new.self.items c.push_hex16.new.to.items c.in_ok-extend_from_slice.ensures.items c.in_ok-push_hex16.ensures.ok in
    let spaced = two_parts text (codes "0x" ++ guid) (codes " ") c.push_hex16.new.to.items c.extend_from_slice-2.new.self.items hex c.in_ok-extend_from_slice-2.ensures.items in
    on_ok_weaker c.push_port3.result
    (λ e. two_parts text (codes "0x" ++ guid ++ codes " ") (last_digits 10 3 c.channel-row.result.port) c.extend_from_slice-2.new.self.items c.push_port3.new.to.items spaced e
    ∙ ap (λ (bytes : List ℕ). text ++ bytes) (channel_text_is c.args.fabric.now c.args.channel.0 c.channel-row.result c.switch.result.now c.channel-row.ensures c.switch.ensures))
    c.push_port3.ensures.ok

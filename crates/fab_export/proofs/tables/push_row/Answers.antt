use Rattle.std.proofs.Common.{◌++◌, ◌∷◌, [], ℕ, ap, ◌∙◌}
use Rattle.std.specs.Prelude.{codes}
use Rattle.std.specs.List.{concat}
use Rattle.std.proofs.lemmas.Result.{IfOk-equal}
use Rattle.fab_model.specs.Topology.{Topology}
use Rattle.fab_tables.specs.Entries.{entry}
use Rattle.fab_dump.specs.Writing.{hex4, hex16, port3}
use Rattle.fab_dump.proofs.Writing.Rows.{five_pieces}
use Rattle.fab_export.specs.PortGuids.{port_guid}
use Rattle.fab_export.specs.TablesText.{table_row_text}
use Rattle.fab_export.proofs.tables.push_row.Goals as goal

pub returns : goal.returns
unfolding table_row_text
returns c =
    IfOk-equal c.push_guid.result _ _ _ c.push_guid.ensures
    (five_pieces c.args.text.now.items (hex4 c.args.lid.0) (codes " ") (port3 c.port.result) (codes " : portguid ") (hex16 c.port_guid_of.result)
    c.push_lid.new.text.items c.push.new.to.items c.push_port.new.text.items c.push-2.new.to.items c.in_ok-push_lid.ensures c.in_ok-push.ensures c.in_ok-push_port.ensures c.in_ok-push-2.ensures
    ∙ ap (λ (port : ℕ). c.args.text.now.items ++ concat (hex4 c.args.lid.0 ∷ codes " " ∷ port3 port ∷ codes " : portguid " ∷ hex16 c.port_guid_of.result ∷ [])) c.port.ensures
    ∙ ap (λ (guid : ℕ). c.args.text.now.items ++ concat (hex4 c.args.lid.0 ∷ codes " " ∷ port3 (entry c.args.reached.now.entries c.args.switch.0 c.args.lid.0) ∷ codes " : portguid " ∷ hex16 guid ∷ []))
    (c.port_guid_of.ensures ∙ ap (λ (t : Topology). port_guid t c.args.lid.0) c.fabric.ensures.fabric))

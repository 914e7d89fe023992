use Rattle.std.proofs.Common.{◌≡◌, ◌<◌, ◌++◌, ◌∷◌, [], List, Vec, ℕ, None, length, get_or, ap, sym, ◌∙◌, arith}
use Rattle.std.proofs.lemmas.List.{get_or-map, length-map}
use Rattle.fab_model.specs.declared.rows.Lid.{Lid}
use Rattle.fab_model.specs.Topology.{lids_of}
use Rattle.fab_dump.specs.Writing.{lines_text}
use Rattle.fab_export.specs.LevelsText.{port_guid_line}
use Rattle.fab_export.specs.PortGuids.{port_guid}
use Rattle.fab_export.proofs.GroupLines.{level_there, level_elsewhere}
use Rattle.fab_export.proofs.port_groups.push_ports_with.Goals as goal
use Rattle.fab_export.proofs.port_groups.push_ports_with.Goals.{then-eq+in_ok-push_port, else-eq}

pub loop-place-preserved : goal.loop-place-preserved
loop-place-preserved c =
    let lids = c.lids_in_use-lid-items.result.now in
    let n = c.loop-place.place in
    let many : length lids ≡ length (lids_of c.args.fabric.now) = sym (length-map lids (λ (lid : Lid). lid.0)) ∙ ap (λ (ns : List ℕ). length ns) c.lids_in_use-lid-items.ensures.lids in
    let in_row : n < length c.args.row.now = omega (arith, c.loop-place-test.true, many, c.requires) in
    let in_lids : n < length (lids_of c.args.fabric.now) = omega (arith, c.loop-place-test.true, many) in
    let lid_at : get_or (lids_of c.args.fabric.now) n 0 ≡ (get_or lids n _).0 = ap (λ (ns : List ℕ). get_or ns n 0) (sym c.lids_in_use-lid-items.ensures.lids) ∙ get_or-map (λ (lid : Lid). lid.0) lids n _ 0 c.loop-place-test.true in
    elim c.if-eq.branch [
      | then-eq+in_ok-push_port w ↦
          ap (λ (v : Vec _ _). v.items) w.text-is
          ∙ level_there port_guid_line (port_guid c.args.fabric.now) c.args.level c.args.row.now (lids_of c.args.fabric.now) n None 0 in_row in_lids c.args.text.now.items c.loop-place.text.items w.push_port.new.text.items
          (sym c.eq.ensures ∙ w.if-eq.true) c.loop-place.invariant
          (w.in_ok-push_port.ensures ∙ ap (λ guid. c.loop-place.text.items ++ lines_text (port_guid_line guid ∷ [])) (w.port_guid_of.ensures ∙ ap (port_guid c.args.fabric.now) (sym lid_at)))
      | else-eq w ↦
          ap (λ (v : Vec _ _). v.items) w.text-is
          ∙ level_elsewhere port_guid_line (port_guid c.args.fabric.now) c.args.level c.args.row.now (lids_of c.args.fabric.now) n None 0 in_row in_lids c.args.text.now.items c.loop-place.text.items
          (sym c.eq.ensures ∙ w.if-eq.false) c.loop-place.invariant
    ]

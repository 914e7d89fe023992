-- The texts of two small plans.
use Rattle.std.proofs.Common.{◌≡◌, [], ◌∷◌, refl, codes, Some, None, Ok}
use Rattle.std.specs.Fmt.{digits}
use Rattle.fab_tables.proofs.Examples.MoreFabrics.{ring5_entries}
use Rattle.fab_dump.specs.Writing.{hex4, hex16, port3, lids_text, switch_text, table_head_text, lines_text}
use Rattle.fab_dump.specs.Reading.{plan_of}
use Rattle.fab_export.specs.declared.part.Part.TheVariants.{Tables, Levels, Config}
use Rattle.fab_export.specs.LevelsInUse.{written_map}
use Rattle.fab_export.specs.Classes.{least_sources, class_of}
use Rattle.fab_export.specs.TablesText.{table_row_text}
use Rattle.fab_export.specs.Policies.{policy_of, first_match}
use Rattle.fab_export.specs.LevelsText.{port_guid_line}
use Rattle.fab_export.specs.Parts.{part_text}
use Rattle.fab_export.specs.SaidPlan.{plan_said}
use Rattle.fab_export.proofs.ExamplePlans.{stub, stub_plan, stub_dump, ring5, ring5_plan, ring5_lanes}

-- STUB
stub_tables : part_text Tables stub stub_plan ≡ lines_text (
    codes "# fabroute tables"
    ∷ codes "Unicast lids [0x0001-0x0003] of switch Lid 1 guid 0x0000000000010000 (switch 0):"
    ∷ codes "0x0001 000 : portguid 0x0000000000010000"
    ∷ codes "0x0002 001 : portguid 0x0000000000010001"
    ∷ codes "0x0003 002 : portguid 0x0000000000020000"
    ∷ codes "Unicast lids [0x0001-0x0003] of switch Lid 2 guid 0x0000000000010001 (switch 1):"
    ∷ codes "0x0001 001 : portguid 0x0000000000010000"
    ∷ codes "0x0002 000 : portguid 0x0000000000010001"
    ∷ codes "0x0003 001 : portguid 0x0000000000020000"
    ∷ [])
unfolding digits hex4 hex16 port3 lids_text switch_text table_head_text table_row_text port_guid_line written_map policy_of first_match
stub_tables = refl

-- one class, that has one level
stub_levels : part_text Levels stub stub_plan ≡ lines_text (
    codes "# fabroute levels"
    ∷ codes "port-groups"
    ∷ codes "port-group"
    ∷ codes "name: class0"
    ∷ codes "port-guid: 0x0000000000010000"
    ∷ codes "port-guid: 0x0000000000020000"
    ∷ codes "end-port-group"
    ∷ codes "port-group"
    ∷ codes "name: class0level0"
    ∷ codes "port-guid: 0x0000000000010000"
    ∷ codes "port-guid: 0x0000000000010001"
    ∷ codes "port-guid: 0x0000000000020000"
    ∷ codes "end-port-group"
    ∷ codes "end-port-groups"
    ∷ codes "qos-levels"
    ∷ codes "qos-level"
    ∷ codes "name: default"
    ∷ codes "sl: 15"
    ∷ codes "end-qos-level"
    ∷ codes "qos-level"
    ∷ codes "name: level0"
    ∷ codes "sl: 0"
    ∷ codes "end-qos-level"
    ∷ codes "end-qos-levels"
    ∷ codes "qos-match-rules"
    ∷ codes "qos-match-rule"
    ∷ codes "source: class0"
    ∷ codes "destination: class0level0"
    ∷ codes "qos-level-name: level0"
    ∷ codes "end-qos-match-rule"
    ∷ codes "end-qos-match-rules"
    ∷ [])
unfolding digits hex4 hex16 port3 lids_text switch_text table_head_text table_row_text port_guid_line written_map policy_of first_match
stub_levels = refl

-- one lane
stub_config : part_text Config stub stub_plan ≡ lines_text (
    codes "# fabroute config"
    ∷ codes "routing_engine file,no_fallback"
    ∷ codes "lfts_file /etc/opensm/fabroute.tables"
    ∷ codes "lid_matrix_dump_file (null)"
    ∷ codes "use_ucast_cache FALSE"
    ∷ codes "lmc 0"
    ∷ codes "reassign_lids FALSE"
    ∷ codes "honor_guid2lid_file TRUE"
    ∷ codes "max_op_vls 5"
    ∷ codes "qos TRUE"
    ∷ codes "qos_policy_file /etc/opensm/fabroute.levels"
    ∷ codes "qos_max_vls 1"
    ∷ codes "qos_high_limit 0"
    ∷ codes "qos_vlarb_high 0:64"
    ∷ codes "qos_vlarb_low 0:64"
    ∷ codes "qos_sl2vl 0,15,15,15,15,15,15,15,15,15,15,15,15,15,15,15"
    ∷ codes "qos_ca_max_vls 1"
    ∷ codes "qos_ca_high_limit 0"
    ∷ codes "qos_ca_vlarb_high 0:64"
    ∷ codes "qos_ca_vlarb_low 0:64"
    ∷ codes "qos_ca_sl2vl 0,15,15,15,15,15,15,15,15,15,15,15,15,15,15,15"
    ∷ codes "qos_sw0_max_vls 1"
    ∷ codes "qos_sw0_high_limit 0"
    ∷ codes "qos_sw0_vlarb_high 0:64"
    ∷ codes "qos_sw0_vlarb_low 0:64"
    ∷ codes "qos_sw0_sl2vl 0,15,15,15,15,15,15,15,15,15,15,15,15,15,15,15"
    ∷ codes "qos_swe_max_vls 1"
    ∷ codes "qos_swe_high_limit 0"
    ∷ codes "qos_swe_vlarb_high 0:64"
    ∷ codes "qos_swe_vlarb_low 0:64"
    ∷ codes "qos_swe_sl2vl 0,15,15,15,15,15,15,15,15,15,15,15,15,15,15,15"
    ∷ codes "qos_rtr_max_vls 1"
    ∷ codes "qos_rtr_high_limit 0"
    ∷ codes "qos_rtr_vlarb_high 0:64"
    ∷ codes "qos_rtr_vlarb_low 0:64"
    ∷ codes "qos_rtr_sl2vl 0,15,15,15,15,15,15,15,15,15,15,15,15,15,15,15"
    ∷ [])
unfolding digits hex4 hex16 port3 lids_text switch_text table_head_text table_row_text port_guid_line written_map policy_of first_match
stub_config = refl

-- without lanes the same tables, and nothing on lanes
dump_tables : part_text Tables stub stub_dump ≡ part_text Tables stub stub_plan
dump_tables = refl

-- the lines on routing alone
dump_config : part_text Config stub stub_dump ≡ lines_text (
    codes "# fabroute config"
    ∷ codes "routing_engine file,no_fallback"
    ∷ codes "lfts_file /etc/opensm/fabroute.tables"
    ∷ codes "lid_matrix_dump_file (null)"
    ∷ codes "use_ucast_cache FALSE"
    ∷ codes "lmc 0"
    ∷ codes "reassign_lids FALSE"
    ∷ codes "honor_guid2lid_file TRUE"
    ∷ [])
unfolding digits hex4 hex16 port3 lids_text switch_text table_head_text table_row_text port_guid_line written_map policy_of first_match
dump_config = refl

-- RING5
ring5_tables : part_text Tables ring5 ring5_plan ≡ lines_text (
    codes "# fabroute tables"
    ∷ codes "Unicast lids [0x0001-0x000a] of switch Lid 1 guid 0x0000000000010000 (switch 0):"
    ∷ codes "0x0001 000 : portguid 0x0000000000010000"
    ∷ codes "0x0002 001 : portguid 0x0000000000010001"
    ∷ codes "0x0003 001 : portguid 0x0000000000010002"
    ∷ codes "0x0004 002 : portguid 0x0000000000010003"
    ∷ codes "0x0005 002 : portguid 0x0000000000010004"
    ∷ codes "0x0006 003 : portguid 0x0000000000020000"
    ∷ codes "0x0007 001 : portguid 0x0000000000020001"
    ∷ codes "0x0008 001 : portguid 0x0000000000020002"
    ∷ codes "0x0009 002 : portguid 0x0000000000020003"
    ∷ codes "0x000a 002 : portguid 0x0000000000020004"
    ∷ codes "Unicast lids [0x0001-0x000a] of switch Lid 2 guid 0x0000000000010001 (switch 1):"
    ∷ codes "0x0001 002 : portguid 0x0000000000010000"
    ∷ codes "0x0002 000 : portguid 0x0000000000010001"
    ∷ codes "0x0003 001 : portguid 0x0000000000010002"
    ∷ codes "0x0004 001 : portguid 0x0000000000010003"
    ∷ codes "0x0005 002 : portguid 0x0000000000010004"
    ∷ codes "0x0006 002 : portguid 0x0000000000020000"
    ∷ codes "0x0007 003 : portguid 0x0000000000020001"
    ∷ codes "0x0008 001 : portguid 0x0000000000020002"
    ∷ codes "0x0009 001 : portguid 0x0000000000020003"
    ∷ codes "0x000a 002 : portguid 0x0000000000020004"
    ∷ codes "Unicast lids [0x0001-0x000a] of switch Lid 3 guid 0x0000000000010002 (switch 2):"
    ∷ codes "0x0001 002 : portguid 0x0000000000010000"
    ∷ codes "0x0002 002 : portguid 0x0000000000010001"
    ∷ codes "0x0003 000 : portguid 0x0000000000010002"
    ∷ codes "0x0004 001 : portguid 0x0000000000010003"
    ∷ codes "0x0005 001 : portguid 0x0000000000010004"
    ∷ codes "0x0006 002 : portguid 0x0000000000020000"
    ∷ codes "0x0007 002 : portguid 0x0000000000020001"
    ∷ codes "0x0008 003 : portguid 0x0000000000020002"
    ∷ codes "0x0009 001 : portguid 0x0000000000020003"
    ∷ codes "0x000a 001 : portguid 0x0000000000020004"
    ∷ codes "Unicast lids [0x0001-0x000a] of switch Lid 4 guid 0x0000000000010003 (switch 3):"
    ∷ codes "0x0001 001 : portguid 0x0000000000010000"
    ∷ codes "0x0002 002 : portguid 0x0000000000010001"
    ∷ codes "0x0003 002 : portguid 0x0000000000010002"
    ∷ codes "0x0004 000 : portguid 0x0000000000010003"
    ∷ codes "0x0005 001 : portguid 0x0000000000010004"
    ∷ codes "0x0006 001 : portguid 0x0000000000020000"
    ∷ codes "0x0007 002 : portguid 0x0000000000020001"
    ∷ codes "0x0008 002 : portguid 0x0000000000020002"
    ∷ codes "0x0009 003 : portguid 0x0000000000020003"
    ∷ codes "0x000a 001 : portguid 0x0000000000020004"
    ∷ codes "Unicast lids [0x0001-0x000a] of switch Lid 5 guid 0x0000000000010004 (switch 4):"
    ∷ codes "0x0001 001 : portguid 0x0000000000010000"
    ∷ codes "0x0002 001 : portguid 0x0000000000010001"
    ∷ codes "0x0003 002 : portguid 0x0000000000010002"
    ∷ codes "0x0004 002 : portguid 0x0000000000010003"
    ∷ codes "0x0005 000 : portguid 0x0000000000010004"
    ∷ codes "0x0006 001 : portguid 0x0000000000020000"
    ∷ codes "0x0007 001 : portguid 0x0000000000020001"
    ∷ codes "0x0008 002 : portguid 0x0000000000020002"
    ∷ codes "0x0009 002 : portguid 0x0000000000020003"
    ∷ codes "0x000a 003 : portguid 0x0000000000020004"
    ∷ [])
unfolding digits hex4 hex16 port3 lids_text switch_text table_head_text table_row_text port_guid_line written_map policy_of first_match
ring5_tables = refl

-- three classes
ring5_levels : part_text Levels ring5 ring5_plan ≡ lines_text (
    codes "# fabroute levels"
    ∷ codes "port-groups"
    ∷ codes "port-group"
    ∷ codes "name: class0"
    ∷ codes "port-guid: 0x0000000000010000"
    ∷ codes "port-guid: 0x0000000000020000"
    ∷ codes "port-guid: 0x0000000000010001"
    ∷ codes "port-guid: 0x0000000000020001"
    ∷ codes "port-guid: 0x0000000000010003"
    ∷ codes "port-guid: 0x0000000000020003"
    ∷ codes "end-port-group"
    ∷ codes "port-group"
    ∷ codes "name: class0level0"
    ∷ codes "port-guid: 0x0000000000010000"
    ∷ codes "port-guid: 0x0000000000010001"
    ∷ codes "port-guid: 0x0000000000010002"
    ∷ codes "port-guid: 0x0000000000010003"
    ∷ codes "port-guid: 0x0000000000010004"
    ∷ codes "port-guid: 0x0000000000020000"
    ∷ codes "port-guid: 0x0000000000020001"
    ∷ codes "port-guid: 0x0000000000020002"
    ∷ codes "port-guid: 0x0000000000020003"
    ∷ codes "port-guid: 0x0000000000020004"
    ∷ codes "end-port-group"
    ∷ codes "port-group"
    ∷ codes "name: class1"
    ∷ codes "port-guid: 0x0000000000010002"
    ∷ codes "port-guid: 0x0000000000020002"
    ∷ codes "end-port-group"
    ∷ codes "port-group"
    ∷ codes "name: class1level0"
    ∷ codes "port-guid: 0x0000000000010000"
    ∷ codes "port-guid: 0x0000000000010001"
    ∷ codes "port-guid: 0x0000000000010002"
    ∷ codes "port-guid: 0x0000000000010003"
    ∷ codes "port-guid: 0x0000000000020000"
    ∷ codes "port-guid: 0x0000000000020001"
    ∷ codes "port-guid: 0x0000000000020002"
    ∷ codes "port-guid: 0x0000000000020003"
    ∷ codes "end-port-group"
    ∷ codes "port-group"
    ∷ codes "name: class1level1"
    ∷ codes "port-guid: 0x0000000000010004"
    ∷ codes "port-guid: 0x0000000000020004"
    ∷ codes "end-port-group"
    ∷ codes "port-group"
    ∷ codes "name: class2"
    ∷ codes "port-guid: 0x0000000000010004"
    ∷ codes "port-guid: 0x0000000000020004"
    ∷ codes "end-port-group"
    ∷ codes "port-group"
    ∷ codes "name: class2level0"
    ∷ codes "port-guid: 0x0000000000010000"
    ∷ codes "port-guid: 0x0000000000010001"
    ∷ codes "port-guid: 0x0000000000010003"
    ∷ codes "port-guid: 0x0000000000010004"
    ∷ codes "port-guid: 0x0000000000020000"
    ∷ codes "port-guid: 0x0000000000020001"
    ∷ codes "port-guid: 0x0000000000020003"
    ∷ codes "port-guid: 0x0000000000020004"
    ∷ codes "end-port-group"
    ∷ codes "port-group"
    ∷ codes "name: class2level1"
    ∷ codes "port-guid: 0x0000000000010002"
    ∷ codes "port-guid: 0x0000000000020002"
    ∷ codes "end-port-group"
    ∷ codes "end-port-groups"
    ∷ codes "qos-levels"
    ∷ codes "qos-level"
    ∷ codes "name: default"
    ∷ codes "sl: 15"
    ∷ codes "end-qos-level"
    ∷ codes "qos-level"
    ∷ codes "name: level0"
    ∷ codes "sl: 0"
    ∷ codes "end-qos-level"
    ∷ codes "qos-level"
    ∷ codes "name: level1"
    ∷ codes "sl: 1"
    ∷ codes "end-qos-level"
    ∷ codes "end-qos-levels"
    ∷ codes "qos-match-rules"
    ∷ codes "qos-match-rule"
    ∷ codes "source: class0"
    ∷ codes "destination: class0level0"
    ∷ codes "qos-level-name: level0"
    ∷ codes "end-qos-match-rule"
    ∷ codes "qos-match-rule"
    ∷ codes "source: class1"
    ∷ codes "destination: class1level0"
    ∷ codes "qos-level-name: level0"
    ∷ codes "end-qos-match-rule"
    ∷ codes "qos-match-rule"
    ∷ codes "source: class1"
    ∷ codes "destination: class1level1"
    ∷ codes "qos-level-name: level1"
    ∷ codes "end-qos-match-rule"
    ∷ codes "qos-match-rule"
    ∷ codes "source: class2"
    ∷ codes "destination: class2level0"
    ∷ codes "qos-level-name: level0"
    ∷ codes "end-qos-match-rule"
    ∷ codes "qos-match-rule"
    ∷ codes "source: class2"
    ∷ codes "destination: class2level1"
    ∷ codes "qos-level-name: level1"
    ∷ codes "end-qos-match-rule"
    ∷ codes "end-qos-match-rules"
    ∷ [])
unfolding digits hex4 hex16 port3 lids_text switch_text table_head_text table_row_text port_guid_line written_map policy_of first_match
ring5_levels = refl

-- two lanes
ring5_config : part_text Config ring5 ring5_plan ≡ lines_text (
    codes "# fabroute config"
    ∷ codes "routing_engine file,no_fallback"
    ∷ codes "lfts_file /etc/opensm/fabroute.tables"
    ∷ codes "lid_matrix_dump_file (null)"
    ∷ codes "use_ucast_cache FALSE"
    ∷ codes "lmc 0"
    ∷ codes "reassign_lids FALSE"
    ∷ codes "honor_guid2lid_file TRUE"
    ∷ codes "max_op_vls 5"
    ∷ codes "qos TRUE"
    ∷ codes "qos_policy_file /etc/opensm/fabroute.levels"
    ∷ codes "qos_max_vls 2"
    ∷ codes "qos_high_limit 0"
    ∷ codes "qos_vlarb_high 0:64,1:64"
    ∷ codes "qos_vlarb_low 0:64,1:64"
    ∷ codes "qos_sl2vl 0,1,15,15,15,15,15,15,15,15,15,15,15,15,15,15"
    ∷ codes "qos_ca_max_vls 2"
    ∷ codes "qos_ca_high_limit 0"
    ∷ codes "qos_ca_vlarb_high 0:64,1:64"
    ∷ codes "qos_ca_vlarb_low 0:64,1:64"
    ∷ codes "qos_ca_sl2vl 0,1,15,15,15,15,15,15,15,15,15,15,15,15,15,15"
    ∷ codes "qos_sw0_max_vls 2"
    ∷ codes "qos_sw0_high_limit 0"
    ∷ codes "qos_sw0_vlarb_high 0:64,1:64"
    ∷ codes "qos_sw0_vlarb_low 0:64,1:64"
    ∷ codes "qos_sw0_sl2vl 0,1,15,15,15,15,15,15,15,15,15,15,15,15,15,15"
    ∷ codes "qos_swe_max_vls 2"
    ∷ codes "qos_swe_high_limit 0"
    ∷ codes "qos_swe_vlarb_high 0:64,1:64"
    ∷ codes "qos_swe_vlarb_low 0:64,1:64"
    ∷ codes "qos_swe_sl2vl 0,1,15,15,15,15,15,15,15,15,15,15,15,15,15,15"
    ∷ codes "qos_rtr_max_vls 2"
    ∷ codes "qos_rtr_high_limit 0"
    ∷ codes "qos_rtr_vlarb_high 0:64,1:64"
    ∷ codes "qos_rtr_vlarb_low 0:64,1:64"
    ∷ codes "qos_rtr_sl2vl 0,1,15,15,15,15,15,15,15,15,15,15,15,15,15,15"
    ∷ [])
unfolding digits hex4 hex16 port3 lids_text switch_text table_head_text table_row_text port_guid_line written_map policy_of first_match
ring5_config = refl

-- switches 0, 1 and 3 are of one class, 2 and 4 are classes of their own
ring5_classes : least_sources ring5 ring5_entries ring5_lanes ≡ 0 ∷ 2 ∷ 4 ∷ []
ring5_classes = refl

ring5_first_class : class_of ring5 ring5_entries ring5_lanes 0 ≡ 0 ∷ 1 ∷ 3 ∷ []
ring5_first_class = refl

-- the text of the tables is read again as the same tables
stub_read : plan_of stub (part_text Tables stub stub_plan) ≡ Ok stub_dump
unfolding digits hex4 hex16 port3 lids_text switch_text table_head_text table_row_text port_guid_line written_map policy_of first_match
stub_read = refl

ring5_read : plan_of ring5 (part_text Tables ring5 ring5_plan) ≡ Ok (record { tables = ring5_entries; lanes = None })
unfolding digits hex4 hex16 port3 lids_text switch_text table_head_text table_row_text port_guid_line written_map policy_of first_match
ring5_read = refl

-- each plan is all that its texts say
stub_said : plan_said stub stub_plan ≡ stub_plan
unfolding digits hex4 hex16 port3 lids_text switch_text table_head_text table_row_text port_guid_line written_map policy_of first_match
stub_said = refl

ring5_said : plan_said ring5 ring5_plan ≡ ring5_plan
unfolding digits hex4 hex16 port3 lids_text switch_text table_head_text table_row_text port_guid_line written_map policy_of first_match
ring5_said = refl

-- from the second terminal of a ring to the fifth, and from an adapter that the plan doesn't know
known_level : first_match (policy_of ring5 ring5_entries ring5_lanes) 0x20002 0x20004 ≡ Some 1
unfolding digits hex4 hex16 port3 lids_text switch_text table_head_text table_row_text port_guid_line written_map policy_of first_match
known_level = refl

unknown_from : first_match (policy_of ring5 ring5_entries ring5_lanes) 0x30000 0x20004 ≡ Some 15
unfolding digits hex4 hex16 port3 lids_text switch_text table_head_text table_row_text port_guid_line written_map policy_of first_match
unknown_from = refl

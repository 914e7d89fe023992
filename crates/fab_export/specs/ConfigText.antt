-- The lines for the subnet manager's own file.
use Rattle.std.specs.Prelude.{ℕ, List, [], ◌∷◌, ◌++◌, map, flat_map, Option, Some, None, codes, decimal, ◌==◌, if◌then◌else◌}
use Rattle.std.specs.List.{join_with_byte, range_with_len}
use Rattle.fab_model.specs.Topology.{Topology}
use Rattle.fab_tables.specs.declared.plan.Plan.{Plan}
use Rattle.fab_tables.specs.Entries.{Entries}
use Rattle.fab_tables.specs.LaneTables.{LaneTables}
use Rattle.fab_dump.specs.Writing.{lines_text}
use Rattle.fab_export.specs.LevelsInUse.{written_map, written_count}

-- with commas between
abbrev pub with_commas : List (List ℕ) → List ℕ
with_commas words = join_with_byte 44 words

-- what stands in front of the word at a place
abbrev pub comma_before : ℕ → List ℕ
comma_before place = if place == 0 then [] else codes ","

-- each lane below the count, with equal weights
abbrev pub weight_text : ℕ → List ℕ
weight_text on_lane = decimal on_lane ++ codes ":64"

abbrev pub weights_text : ℕ → List ℕ
weights_text count = with_commas (map weight_text (range_with_len 0 count))

abbrev pub map_text : List ℕ → List ℕ
map_text lanes = with_commas (map decimal lanes)

-- the five lines of a kind of ports: a lane count and a map
abbrev pub kind_lines : ℕ → List ℕ → List ℕ → List (List ℕ)
kind_lines count lanes kind =
    (kind ++ codes "_max_vls " ++ decimal count)
    ∷ (kind ++ codes "_high_limit 0")
    ∷ (kind ++ codes "_vlarb_high " ++ weights_text count)
    ∷ (kind ++ codes "_vlarb_low " ++ weights_text count)
    ∷ (kind ++ codes "_sl2vl " ++ map_text lanes)
    ∷ []

-- all ports, and then adapters', switches' own, switches' and routers' ports
abbrev pub kinds_of_ports : List (List ℕ)
kinds_of_ports = codes "qos" ∷ codes "qos_ca" ∷ codes "qos_sw0" ∷ codes "qos_swe" ∷ codes "qos_rtr" ∷ []

abbrev pub routing_lines : List (List ℕ)
routing_lines =
    codes "# fabroute config"
    ∷ codes "routing_engine file,no_fallback"
    ∷ codes "lfts_file /etc/opensm/fabroute.tables"
    ∷ codes "lid_matrix_dump_file (null)"
    ∷ codes "use_ucast_cache FALSE"
    ∷ codes "lmc 0"
    ∷ codes "reassign_lids FALSE"
    ∷ codes "honor_guid2lid_file TRUE"
    ∷ []

abbrev pub quality_lines : List (List ℕ)
quality_lines = codes "max_op_vls 5" ∷ codes "qos TRUE" ∷ codes "qos_policy_file /etc/opensm/fabroute.levels" ∷ []

abbrev pub lane_lines : Topology → Entries → Option LaneTables → List (List ℕ)
lane_lines t e None = []
lane_lines t e (Some l) = quality_lines ++ flat_map (kind_lines (written_count t e l) (written_map t e l)) kinds_of_ports

abbrev pub config_text : Topology → Plan → List ℕ
config_text t p = lines_text (routing_lines ++ lane_lines t p.tables p.lanes)

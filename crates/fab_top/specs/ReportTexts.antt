-- The texts of reports, of what a repair kept, and of a sweep. Each ends with a line feed.
use Rattle.std.specs.Prelude.{ℕ, List, ◌++◌, length, fold, count_by, max, min, nat_lt, flat_map, slice_index, Some, codes, decimal}
use Rattle.std.specs.List.{enumerate_from}
use Rattle.fab_model.specs.declared.rows.ChannelRow.{ChannelRow}
use Rattle.fab_model.specs.Topology.{Topology, lids_of}
use Rattle.fab_dump.specs.Writing.{hex4}
use Rattle.fab_report.specs.declared.rows.SummaryRow.{SummaryRow}
use Rattle.fab_report.specs.Loads.{greatest}
use Rattle.fab_sweep.specs.declared.rows.SweepRow.{SweepRow}
use Rattle.fab_top.specs.Texts.{port_text, channel_row_text}

-- ---- repair

-- how many LIDs are kept, of how many
abbrev pub kept_front : ℕ → ℕ → List ℕ
kept_front kept lids = codes "kept " ++ decimal kept ++ codes " of " ++ decimal lids ++ codes ":"

abbrev pub kept_lid : ℕ → List ℕ
kept_lid lid = codes " " ++ hex4 lid

-- which LIDs a repair kept, of all in use
abbrev pub kept_text : Topology → List ℕ → List ℕ
kept_text t kept = kept_front (length kept) (length (lids_of t)) ++ flat_map kept_lid kept ++ codes "\n"

-- ---- load

-- a channel and its load, by the loads of all channels
abbrev pub load_line : Topology → List ℕ → ℕ × ChannelRow → List ℕ
load_line t loads numbered = channel_row_text t (Some numbered.1) ++ codes " " ++ decimal (slice_index loads numbered.0) ++ codes "\n"

-- the channels by number, and the greatest load
abbrev pub load_text : Topology → List ℕ → List ℕ
load_text t loads = flat_map (load_line t loads) (enumerate_from 0 t.channels) ++ codes "greatest " ++ decimal (greatest loads) ++ codes "\n"

-- ---- the counts of a plan

abbrev pub count_line : List ℕ → ℕ → List ℕ
count_line word n = word ++ codes " " ++ decimal n ++ codes "\n"

abbrev pub summary_text : SummaryRow → List ℕ
summary_text row =
    count_line (codes "switches") row.switches
    ++ count_line (codes "terminals") row.terminals
    ++ count_line (codes "channels") row.channels
    ++ count_line (codes "lids") row.lids
    ++ count_line (codes "lanes") row.lanes
    ++ count_line (codes "numbers") row.numbers
    ++ count_line (codes "greatest number") row.greatest_number
    ++ count_line (codes "hops") row.hops
    ++ count_line (codes "greatest load") row.greatest_load

-- ---- sweep

abbrev pub cost_text : List ℕ → ℕ → List ℕ
cost_text word n = word ++ decimal n

-- a failure, by its switch and port, and what it costs
abbrev pub failure_line : Topology → SweepRow → List ℕ
failure_line t row =
    port_text t row.switch.0 row.port
    ++ cost_text (codes " lost ") row.lost
    ++ cost_text (codes " kept ") row.kept
    ++ cost_text (codes " changed ") row.changed
    ++ cost_text (codes " moved ") row.moved
    ++ codes "\n"

-- how many failures lose a pair
abbrev pub losing : List SweepRow → ℕ
losing rows = count_by (λ (row : SweepRow). nat_lt 0 row.lost) rows

-- the least number of LIDs that a repair keeps, that of all LIDs where there is no failure
abbrev pub least_kept : Topology → List SweepRow → ℕ
least_kept t rows = fold (λ n (row : SweepRow). min n row.kept) (length (lids_of t)) rows

-- the greatest number of entries that a repair changes, 0 where there is no failure
abbrev pub greatest_changed : List SweepRow → ℕ
greatest_changed rows = fold (λ n (row : SweepRow). max n row.changed) 0 rows

abbrev pub sweep_text : Topology → List SweepRow → List ℕ
sweep_text t rows =
    flat_map (failure_line t) rows
    ++ count_line (codes "failures") (length rows)
    ++ count_line (codes "losing") (losing rows)
    ++ count_line (codes "least kept") (least_kept t rows)
    ++ count_line (codes "greatest changed") (greatest_changed rows)

-- The texts of draining. Each ends with a line feed.
use Rattle.std.specs.Prelude.{ℕ, List, ◌++◌, flat_map, codes, decimal}
use Rattle.fab_model.specs.Topology.{Topology}
use Rattle.fab_top.specs.ReportTexts.{count_line}
use Rattle.fab_top.specs.Texts.{ring_front, ring_line}

-- how many packets there were, and how many moves emptied the fabric
abbrev pub drained_text : ℕ → ℕ → List ℕ
drained_text packets moves = count_line (codes "packets") packets ++ count_line (codes "moves") moves ++ codes "empty\n"

-- how many packets wait at the end, and the ring of virtual channels on so many lanes to which they lead
abbrev pub waiting_front : ℕ → ℕ → List ℕ
waiting_front packets moves = codes "no: " ++ decimal packets ++ codes " packets wait after " ++ decimal moves ++ codes " moves, ring of "

abbrev pub waiting_text : Topology → ℕ → ℕ → ℕ → List ℕ → List ℕ
waiting_text t count packets moves ring = ring_front (waiting_front packets moves) ring ++ flat_map (ring_line t count) ring

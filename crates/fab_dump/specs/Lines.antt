-- What one line of a plan text says, by what it begins with and by the block that is open.
use Rattle.std.specs.Prelude.{ℕ, ◌%◌, Bool, true, false, List, [], ◌∷◌, ◌++◌, length, take, drop, Option, Some, None, is_some, ◌==◌, if◌then◌else◌, codes, find, option_and_then, count_by}
use Rattle.std.specs.List.{starts_with, zip}
use Rattle.std.specs.Str.{bytes_eq}
use Rattle.fab_text.specs.Fields.{fields, dec, dec_up_to, hex, without_last, only_field, read_only, all_read, after_word}
use Rattle.fab_model.specs.declared.rows.SwitchId.{SwitchId}
use Rattle.fab_model.specs.Topology.{Topology, lids_of, switch_of, channel_at, is_source, ports_of, switch_id}
use Rattle.fab_tables.specs.declared.lanes.PairRow.{PairRow}
use Rattle.fab_tables.specs.Entries.{index_of}
use Rattle.fab_dump.specs.declared.fault.PlanFault.{PlanFault}
use Rattle.fab_dump.specs.declared.fault.PlanFault.TheVariants.{BadRow, TwiceBlock, TwiceRow, BadLevelRow, BadLaneRow, BadNumber, TooManyPairs}
use Rattle.fab_dump.specs.declared.form.Version.{Version}
use Rattle.fab_dump.specs.declared.form.Version.TheVariants.{Dump, One, Three}
use Rattle.fab_dump.specs.declared.form.Block.{Block}
use Rattle.fab_dump.specs.declared.form.Block.TheVariants.{Nothing, Table, Levels, MapRow, Pairs, Numbers}
use Rattle.fab_dump.specs.declared.line_kind.LineKind.{LineKind}
use Rattle.fab_dump.specs.declared.line_kind.LineKind.TheVariants.{Comment, TableHead, Row, LevelsHead, MapHead, CertificateHead, PairLine, EndPlan, Other}
use Rattle.fab_dump.specs.Given.{Given, was_given, said_of}
use Rattle.fab_dump.specs.Given.Given.{TableBlock, Port, LevelBlock, Level, MapBlock, Map, PairMap, Certificate, Number}

-- the form of a text: its version, and the lane count where the plan has lanes
pub record Form : Type 0 where
  pub version : Version
  pub count : Option ℕ

abbrev pub is_dump : Version → Bool
is_dump Dump = true
is_dump _ = false

-- the rows of plain dumps and of version 1 say one LID each
abbrev pub says_one_lid : Version → Bool
says_one_lid Dump = true
says_one_lid One = true
says_one_lid _ = false

abbrev pub has_pairs : Version → Bool
has_pairs Three = true
has_pairs _ = false

-- what was read so far
pub record State : Type 0 where
  pub open_block : Block
  pub given : List Given

-- after a line: go on, the end of the plan, or a fault
pub data Next : Type 0 where
  Goes : (state : State) → Next
  Ends : Next
  Fails : (fault : PlanFault) → Next

abbrev pub begins : List ℕ → List ℕ → Bool
begins line text = starts_with (λ x y. x == y) line text

abbrev pub levels_head : List ℕ
levels_head = codes "Levels of switch guid "

abbrev pub map_head : List ℕ
map_head = codes "Lane map of switch guid "

abbrev pub kinds : List (List ℕ × LineKind)
kinds = (codes "#", Comment) ∷ (codes "Unicast lids", TableHead) ∷ (codes "0x", Row) ∷ (levels_head, LevelsHead) ∷ (map_head, MapHead)
    ∷ (codes "Certificate:", CertificateHead) ∷ (codes "[", PairLine) ∷ (codes "end plan", EndPlan) ∷ []

abbrev pub kind_found : Option (List ℕ × LineKind) → LineKind
kind_found None = Other
kind_found (Some found) = found.1

-- an empty line is passed over like a comment
abbrev pub kind_of : List ℕ → LineKind
kind_of [] = Comment
kind_of line = kind_found (find (λ (k : List ℕ × LineKind). begins line k.0) kinds)

-- statements are added
abbrev pub goes : State → Block → List Given → Next
goes s now_open new = Goes (record { open_block = now_open; given = s.given ++ new })

-- statements are added, unless the first of them speaks of something for the second time
abbrev pub adds : PlanFault → State → Block → List Given → Next
adds twice s now_open [] = goes s now_open []
adds twice s now_open (new ∷ more) = if was_given s.given new then Fails twice else goes s now_open (new ∷ more)

-- a block of this switch is opened by its head; None is a head of another form, or of no switch that may have such a block
abbrev pub opens : PlanFault → PlanFault → State → (SwitchId → Block) → (ℕ → Given) → Option ℕ → Next
opens bad twice s block given None = Fails bad
opens bad twice s block given (Some switch) = adds twice s (block (switch_id switch)) (given switch ∷ [])

-- a table head: the word after the first word `guid` names the switch
abbrev pub table_guid : List ℕ → Option ℕ
table_guid line = read_only (hex 16) (after_word (codes "guid") (fields line))

-- the head of another block: after its text the GUID and a colon, and nothing more
abbrev pub head_guid : List ℕ → List ℕ → Option ℕ
head_guid text line = read_only (λ field. hex 16 (without_last 58 field)) (only_field (fields (drop (length text) line)))

abbrev pub a_source : Topology → Option ℕ → Option ℕ
a_source t None = None
a_source t (Some s) = if is_source t s then Some s else None

-- the rows of version 1 and of a plain dump say one LID each
abbrev pub both : {A : Type 0} → Option ℕ → Option A → Option (ℕ × A)
both None y = None
both (Some x) None = None
both (Some x) (Some y) = Some (x, y)

abbrev pub table_row : List (List ℕ) → Option (ℕ × ℕ)
table_row (lid ∷ port ∷ others) = both (hex 4 lid) (dec 3 255 port)
table_row _ = None

abbrev pub level_or_none : Bool → Option ℕ → Option (Option ℕ)
level_or_none true level = Some None
level_or_none false None = None
level_or_none false (Some level) = Some (Some level)

-- a service level: two dashes for none
abbrev pub level_field : List ℕ → Option (Option ℕ)
level_field field = level_or_none (bytes_eq field (codes "--")) (dec_up_to 15 field)

abbrev pub level_row : List (List ℕ) → Option (ℕ × Option ℕ)
level_row (lid ∷ level ∷ []) = both (hex 4 lid) (level_field level)
level_row _ = None

-- the rows from version 2 on say up to 64 LIDs each: those in use from each 64th on
abbrev pub lids_from : List ℕ → Option ℕ → List ℕ
lids_from lids None = []
lids_from lids (Some place) = if place % 64 == 0 then take 64 (drop place lids) else []

abbrev pub lids_at : List ℕ → Option ℕ → List ℕ
lids_at lids None = []
lids_at lids (Some lid) = lids_from lids (index_of lid lids)

-- the LIDs of the row that begins with this field; none where no row does
abbrev pub row_lids : List ℕ → List (List ℕ) → List ℕ
row_lids lids [] = []
row_lids lids (lid ∷ values) = lids_at lids (hex 4 lid)

-- each LID of a row with its value, where there are as many values as LIDs
abbrev pub paired : {A : Type 0} → List ℕ → Option (List A) → Option (List (ℕ × A))
paired [] values = None
paired lids None = None
paired lids (Some values) = if length values == length lids then Some (zip lids values) else None

-- a row of LIDs in use with their values
abbrev pub long_row : {A : Type 0} → List ℕ → (List ℕ → Option A) → List (List ℕ) → Option (List (ℕ × A))
long_row lids read row = paired (row_lids lids row) (all_read read (drop 1 row))

abbrev pub is_in_use : Topology → ℕ → Bool
is_in_use t lid = is_some (index_of lid (lids_of t))

-- a row of one LID; one that isn't in use has an answer of its own
abbrev pub short_row : {A : Type 0} → Topology → PlanFault → Next → ℕ → State → Block → (ℕ → A → Given) → Option (ℕ × A) → Next
short_row t bad unused n s block say None = Fails bad
short_row t bad unused n s block say (Some row) = if is_in_use t row.0 then adds (TwiceRow n) s block (say row.0 row.1 ∷ []) else unused

-- a row of up to 64 LIDs
abbrev pub values_row : {A : Type 0} → PlanFault → ℕ → State → Block → (ℕ → A → Given) → Option (List (ℕ × A)) → Next
values_row bad n s block say None = Fails bad
values_row bad n s block say (Some rows) = adds (TwiceRow n) s block (said_of say rows)

-- in a table block a LID that isn't in use is passed over
abbrev pub short_table_row : Topology → ℕ → State → ℕ → Option (ℕ × ℕ) → Next
short_table_row t n s switch row = short_row t (BadRow n) (Goes s) n s (Table (Some (switch_id switch))) (Port switch) row

abbrev pub long_table_row : ℕ → State → ℕ → Option (List (ℕ × ℕ)) → Next
long_table_row n s switch rows = values_row (BadRow n) n s (Table (Some (switch_id switch))) (Port switch) rows

abbrev pub short_level_row : Topology → ℕ → State → ℕ → Option (ℕ × Option ℕ) → Next
short_level_row t n s switch row = short_row t (BadLevelRow n) (Fails (BadLevelRow n)) n s (Levels (switch_id switch)) (Level switch) row

abbrev pub long_level_row : ℕ → State → ℕ → Option (List (ℕ × Option ℕ)) → Next
long_level_row n s switch rows = values_row (BadLevelRow n) n s (Levels (switch_id switch)) (Level switch) rows

-- a row of a block whose switch isn't in the fabric must have the form, and is passed over
abbrev pub strange_row : ℕ → State → Option (ℕ × ℕ) → Next
strange_row n s None = Fails (BadRow n)
strange_row n s (Some row) = Goes s

-- the channel that leaves the switch of this GUID by this port
abbrev pub channel_named : Topology → Option ℕ → Option ℕ → Option ℕ
channel_named t (Some guid) (Some port) = option_and_then (λ s. channel_at t s port) (switch_of t guid)
channel_named t _ _ = None

abbrev pub positive : Option ℕ → Option ℕ
positive None = None
positive (Some n) = if n == 0 then None else Some n

abbrev pub numbered : Option ℕ → Option ℕ → Option ℕ → Option Given
numbered (Some channel) (Some lane) (Some number) = Some (Number channel lane number)
numbered _ _ _ = None

abbrev pub number_row : Topology → List (List ℕ) → Option Given
number_row t (guid ∷ port ∷ lane ∷ number ∷ []) =
    numbered (channel_named t (hex 16 guid) (dec_up_to 254 port)) (dec_up_to 14 lane) (positive (dec_up_to 4294967295 number))
number_row t _ = None

abbrev pub adds_number : ℕ → State → Option Given → Next
adds_number n s None = Fails (BadNumber n)
adds_number n s (Some new) = adds (TwiceRow n) s Numbers (new ∷ [])

-- a line that begins with `0x`
abbrev pub row_in : Topology → Form → ℕ → State → Block → List ℕ → Next
row_in t f n s (Table None) line = strange_row n s (table_row (fields line))
row_in t f n s (Table (Some switch)) line =
    if says_one_lid f.version then short_table_row t n s switch.0 (table_row (fields line))
    else long_table_row n s switch.0 (long_row (lids_of t) (dec 3 255) (fields line))
row_in t f n s (Levels switch) line =
    if says_one_lid f.version then short_level_row t n s switch.0 (level_row (fields line))
    else long_level_row n s switch.0 (long_row (lids_of t) level_field (fields line))
row_in t f n s Numbers line = adds_number n s (number_row t (fields line))
row_in t f n s _ line = Fails (BadRow n)

-- sixteen lanes
abbrev pub sixteen : Option (List ℕ) → Option (List ℕ)
sixteen None = None
sixteen (Some lanes) = if length lanes == 16 then Some lanes else None

abbrev pub lanes_read : List (List ℕ) → Option (List ℕ)
lanes_read values = sixteen (all_read (dec_up_to 15) values)

-- the row of a lane map: after it no block is open, but in version 3 the map stays open for pair rows
abbrev pub after_map_row : Form → ℕ → Block
after_map_row f switch = if has_pairs f.version then Pairs (switch_id switch) else Nothing

abbrev pub map_row : Form → ℕ → State → ℕ → Option (List ℕ) → Next
map_row f n s switch None = Fails (BadLaneRow n)
map_row f n s switch (Some lanes) = goes s (after_map_row f switch) (Map switch lanes ∷ [])

-- a pair row: both ports in brackets, and sixteen lanes
abbrev pub pair_of : ℕ → Option ℕ → Option ℕ → Option (List ℕ) → Option PairRow
pair_of switch (Some from) (Some to) (Some lanes) = Some (record { switch = switch_id switch; from_port = from; to_port = to; map = lanes })
pair_of switch _ _ _ = None

abbrev pub pair_row : Topology → ℕ → List (List ℕ) → Option PairRow
pair_row t switch (from ∷ to ∷ lanes) =
    pair_of switch (dec_up_to (ports_of t switch) (drop 1 from)) (dec_up_to (ports_of t switch) (without_last 93 to)) (lanes_read lanes)
pair_row t switch _ = None

abbrev pub is_pair_map : Given → Bool
is_pair_map (PairMap row) = true
is_pair_map _ = false

abbrev pub adds_pair : ℕ → State → ℕ → Option PairRow → Next
adds_pair n s switch None = Fails (BadLaneRow n)
adds_pair n s switch (Some row) =
    if was_given s.given (PairMap row) then Fails (TwiceRow n) else
    if count_by is_pair_map s.given == 65536 then Fails (TooManyPairs n) else
    goes s (Pairs (switch_id switch)) (PairMap row ∷ [])

abbrev pub pair_in : Topology → ℕ → State → Block → List ℕ → Next
pair_in t n s (Pairs switch) line = adds_pair n s switch.0 (pair_row t switch.0 (fields line))
pair_in t n s _ line = Fails (BadRow n)

-- A table block of a switch, or of none of the fabric. From version 2 on its switch must be in the fabric.
abbrev pub table_of : Form → ℕ → State → Option ℕ → Next
table_of f n s None = if says_one_lid f.version then Goes (record { open_block = Table None; given = s.given }) else Fails (BadRow n)
table_of f n s (Some switch) = adds (TwiceBlock n) s (Table (Some (switch_id switch))) (TableBlock switch ∷ [])

-- a table head
abbrev pub table_head : Topology → Form → ℕ → State → Option ℕ → Next
table_head t f n s None = Fails (BadRow n)
table_head t f n s (Some guid) = table_of f n s (switch_of t guid)

-- a line of a plain dump: only table heads and rows count
abbrev pub dump_line : Topology → Form → ℕ → State → List ℕ → LineKind → Next
dump_line t f n s line TableHead = table_head t f n s (table_guid line)
dump_line t f n s line Row = row_in t f n s s.open_block line
dump_line t f n s line _ = Goes s

-- a line of a plan, where no lane map waits for its row
abbrev pub plan_line : Topology → Form → ℕ → State → List ℕ → LineKind → Next
plan_line t f n s line Comment = Goes s
plan_line t f n s line TableHead = table_head t f n s (table_guid line)
plan_line t f n s line Row = row_in t f n s s.open_block line
plan_line t f n s line LevelsHead =
    if is_some f.count then opens (BadLevelRow n) (TwiceBlock n) s Levels LevelBlock (a_source t (option_and_then (switch_of t) (head_guid levels_head line)))
    else Fails (BadRow n)
plan_line t f n s line MapHead =
    if is_some f.count then opens (BadLaneRow n) (TwiceBlock n) s MapRow MapBlock (option_and_then (switch_of t) (head_guid map_head line))
    else Fails (BadRow n)
plan_line t f n s line CertificateHead =
    if is_some f.count then adds (TwiceBlock n) s Numbers (Certificate ∷ []) else Fails (BadRow n)
plan_line t f n s line PairLine = pair_in t n s s.open_block line
plan_line t f n s line EndPlan = Ends
plan_line t f n s line Other = Fails (BadRow n)

-- the row of a lane map is the next line that is neither empty nor a comment, whatever it begins with
abbrev pub waiting_line : Form → ℕ → State → ℕ → List ℕ → LineKind → Next
waiting_line f n s switch line Comment = Goes s
waiting_line f n s switch line _ = map_row f n s switch (lanes_read (fields line))

abbrev pub line_of_plan : Topology → Form → ℕ → State → Block → List ℕ → Next
line_of_plan t f n s (MapRow switch) line = waiting_line f n s switch.0 line (kind_of line)
line_of_plan t f n s _ line = plan_line t f n s line (kind_of line)

-- what line n says after what was read so far
abbrev pub line_says : Topology → Form → ℕ → State → List ℕ → Next
line_says t f n s line = if is_dump f.version then dump_line t f n s line (kind_of line) else line_of_plan t f n s s.open_block line

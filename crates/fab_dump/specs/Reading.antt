-- The plan that a text spells, or the fault of its first faulty line.
use Rattle.std.specs.Prelude.{ℕ, ◌+◌, Bool, true, false, ◌&&◌, List, [], ◌∷◌, length, drop, Option, Some, None, Result, Ok, Err, nat_le, ◌==◌, if◌then◌else◌, codes}
use Rattle.std.specs.Str.Lines.{lines}
use Rattle.std.specs.Str.{bytes_eq}
use Rattle.fab_text.specs.Fields.{fields, dec_up_to, only_field, read_only}
use Rattle.fab_model.specs.Topology.{Topology, lids_of}
use Rattle.fab_tables.specs.declared.plan.Plan.{Plan}
use Rattle.fab_dump.specs.declared.fault.PlanFault.{PlanFault}
use Rattle.fab_dump.specs.declared.fault.PlanFault.TheVariants as fault
use Rattle.fab_dump.specs.declared.form.Version.{Version}
use Rattle.fab_dump.specs.declared.form.Version.TheVariants.{Dump, One, Two, Three}
use Rattle.fab_dump.specs.declared.form.Block.TheVariants.{Nothing}
use Rattle.fab_dump.specs.Given.{plan_given}
use Rattle.fab_dump.specs.Lines.{Form, State, Next, is_dump, begins, line_says}
use Rattle.fab_dump.specs.Lines.Next.{Goes, Ends, Fails}

-- a plan must have its end; a plain dump ends with the text
abbrev pub at_text_end : Topology → Form → State → Result Plan PlanFault
at_text_end t f s = if is_dump f.version then Ok (plan_given t f.count s.given) else Err fault.NoEnd

abbrev pub after_line : Topology → Form → State → (State → Result Plan PlanFault) → Next → Result Plan PlanFault
after_line t f s rest (Goes now) = rest now
after_line t f s rest Ends = Ok (plan_given t f.count s.given)
after_line t f s rest (Fails why) = Err why

-- the plan of the lines from number n on
abbrev pub read_lines : Topology → Form → ℕ → State → List (List ℕ) → Result Plan PlanFault
read_lines t f n s [] = at_text_end t f s
read_lines t f n s (line ∷ others) = after_line t f s (λ now. read_lines t f (n + 1) now others) (line_says t f n s line)

abbrev pub nothing_read : State
nothing_read = record { open_block = Nothing; given = [] }

abbrev pub plan_mark : List ℕ
plan_mark = codes "fabroute plan "

-- the version that the first line names
abbrev pub version_named : List ℕ → Option ℕ
version_named line = read_only (dec_up_to 3) (only_field (fields (drop (length plan_mark) line)))

-- version 1 is read for fabrics of at most 512 switches and 4,096 LIDs
abbrev pub version_of_number : Topology → ℕ → Option Version
version_of_number t number =
    if number == 1 then (if nat_le (length t.switches) 512 && nat_le (length (lids_of t)) 4096 then Some One else None) else
    if number == 2 then Some Two else if number == 3 then Some Three else None

abbrev pub version_read : Topology → Option ℕ → Option Version
version_read t None = None
version_read t (Some number) = version_of_number t number

abbrev pub some_count : Option ℕ → Option (Option ℕ)
some_count None = None
some_count (Some n) = if n == 0 then None else Some (Some n)

abbrev pub count_field : Bool → Option (List ℕ) → Option (Option ℕ)
count_field true (Some field) = if bytes_eq field (codes "none") then Some None else some_count (dec_up_to 15 field)
count_field _ _ = None

abbrev pub lanes_mark : List ℕ
lanes_mark = codes "lanes "

-- what line 2 says of lanes: none, or how many
abbrev pub lane_count : List ℕ → Option (Option ℕ)
lane_count line = count_field (begins line lanes_mark) (only_field (fields (drop (length lanes_mark) line)))

abbrev pub read_body : Topology → Version → List (List ℕ) → Option (Option ℕ) → Result Plan PlanFault
read_body t version others None = Err (fault.BadRow 2)
read_body t version others (Some count) = read_lines t (record { version = version; count = count }) 3 nothing_read others

abbrev pub read_version : Topology → List (List ℕ) → Option Version → Result Plan PlanFault
read_version t others None = Err (fault.Version 1)
read_version t [] (Some version) = Err fault.NoEnd
read_version t (second ∷ others) (Some version) = read_body t version others (lane_count second)

abbrev pub dump_form : Form
dump_form = record { version = Dump; count = None }

abbrev pub read_first : Topology → List (List ℕ) → Result Plan PlanFault
read_first t [] = read_lines t dump_form 1 nothing_read []
read_first t (first ∷ others) =
    if begins first plan_mark then read_version t others (version_read t (version_named first)) else read_lines t dump_form 1 nothing_read (first ∷ others)

-- A text whose first line begins with the mark is a plan, and any other is a plain dump.
abbrev pub plan_of : Topology → List ℕ → Result Plan PlanFault
plan_of t text = read_first t (lines text)

-- whether the fault is want of memory
abbrev pub wants_memory : PlanFault → Bool
wants_memory (fault.Memory refused) = true
wants_memory other = false

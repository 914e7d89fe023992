-- The list of failed cables. A line is empty, begins with `#`, or has a switch's GUID, `0x` and hexadecimal digits, and a
-- decimal port, with blanks between them and perhaps around them. The first line of another form is a fault.
use Rattle.std.specs.Prelude.{ℕ, ◌+◌, ◌-◌, ◌^◌, Bool, true, false, List, [], ◌∷◌, Option, None, Some, Result, Ok, Err, if◌then◌else◌}
use Rattle.std.specs.Str.Lines.{lines}
use Rattle.fab_text.specs.Fields.{is_passed_over, words_of, hex, dec_up_to}
use Rattle.fab_model.specs.declared.rows.Cable.{Cable}
use Rattle.fab_repair.specs.declared.fault.FailedFault.{FailedFault}
use Rattle.fab_repair.specs.declared.fault.FailedFault.TheVariants.{BadLine, Memory}

-- a cable, where both its GUID and its port could be read
abbrev pub cable_of : Option ℕ → Option ℕ → Option Cable
cable_of (Some guid) (Some port) = Some (record { guid = guid; port = port })
cable_of _ _ = None

-- the cable that the words of a line name, where they are two
abbrev pub cable_of_words : List (List ℕ) → Option Cable
cable_of_words (guid ∷ port ∷ []) = cable_of (hex 16 guid) (dec_up_to (2 ^ 32 - 1) port)
cable_of_words _ = None

-- the cable that a line names
abbrev pub cable_in : List ℕ → Option Cable
cable_in line = cable_of_words (words_of line)

-- a cable in front of others
abbrev pub with_cable : Cable → Result (List Cable) FailedFault → Result (List Cable) FailedFault
with_cable cable (Ok cables) = Ok (cable ∷ cables)
with_cable cable (Err fault) = Err fault

-- what a line gives that isn't passed over: its cable in front of those of the later lines, or the fault of this line
abbrev pub unless_bad : ℕ → Option Cable → Result (List Cable) FailedFault → Result (List Cable) FailedFault
unless_bad line None others = Err (BadLine line)
unless_bad line (Some cable) others = with_cable cable others

-- the cables of the lines, which are numbered from this one on
abbrev pub cables_from : ℕ → List (List ℕ) → Result (List Cable) FailedFault
cables_from line [] = Ok []
cables_from line (bytes ∷ others) =
    if is_passed_over bytes then cables_from (line + 1) others else unless_bad line (cable_in bytes) (cables_from (line + 1) others)

-- the cables of a text, or its first bad line
abbrev pub cables_in : List ℕ → Result (List Cable) FailedFault
cables_in text = cables_from 1 (lines text)

-- whether the fault is want of memory
abbrev pub wants_memory : FailedFault → Bool
wants_memory (Memory refused) = true
wants_memory fault = false

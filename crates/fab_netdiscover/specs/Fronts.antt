-- What stands at the front of a line's bytes, and the bytes after it; or what is wrong there.
use Rattle.std.specs.Prelude.{ℕ, ◌+◌, ◌^◌, Bool, true, false, ◌&&◌, not, List, [], ◌∷◌, length, take, drop, Result, Ok, Err, nat_eq, nat_lt, ◌==◌, slice_index, codes, position, ok_or, if◌then◌else◌}
use Rattle.std.specs.List.{starts_with, prefix_len, list_any, before_last, after_last}
use Rattle.std.specs.Str.{byte, bytes_eq}
use Rattle.fab_text.specs.Bytes.{is_blank, is_quote}
use Rattle.fab_text.specs.Fields.{words_of}
use Rattle.fab_text.specs.Readings.{◌>>=◌}
use Rattle.fab_text.specs.Digits.{digits_at_front, number_spelled}
use Rattle.fab_model.specs.declared.raw.NodeKind.{NodeKind}
use Rattle.fab_model.specs.declared.raw.NodeKind.TheVariants as nodes
use Rattle.fab_netdiscover.specs.declared.fault.LineFault.{LineFault}
use Rattle.fab_netdiscover.specs.declared.fault.LineFault.TheVariants.{Bad}
use Rattle.fab_netdiscover.specs.declared.fault.BadKind.{BadKind}
use Rattle.fab_netdiscover.specs.declared.fault.BadKind.TheVariants as kinds
use Rattle.fab_netdiscover.specs.declared.fronts.Name.{Name}
use Rattle.fab_netdiscover.specs.declared.fronts.NameKind.{NameKind}
use Rattle.fab_netdiscover.specs.declared.fronts.NameKind.TheVariants.{Switch, Adapter, Router}
use Rattle.fab_netdiscover.specs.declared.words.Address.{Address}

-- what is read, and the bytes after it
abbrev pub Read : Type 0 → Type 0
Read A = Result (A × List ℕ) LineFault

abbrev pub past_blanks : List ℕ → List ℕ
past_blanks bytes = drop (prefix_len is_blank bytes) bytes

-- one blank or more; where none stands, the part that follows is the faulty one
abbrev pub blanks : BadKind → List ℕ → Result (List ℕ) LineFault
blanks part bytes = if is_blank (slice_index bytes 0) then Ok (past_blanks bytes) else Err (Bad part)

-- whether this text stands at the front
abbrev pub begins_with : List ℕ → List ℕ → Bool
begins_with text bytes = starts_with nat_eq bytes text

abbrev pub exactly : BadKind → List ℕ → List ℕ → Result (List ℕ) LineFault
exactly part text bytes = if begins_with text bytes then Ok (drop (length text) bytes) else Err (Bad part)

-- a decimal number of at most 4,294,967,295
abbrev pub number_from : BadKind → List ℕ → List ℕ → Read ℕ
number_from part digits bytes =
    if not (length digits == 0) && nat_lt (number_spelled 10 digits) (2 ^ 32) then Ok (number_spelled 10 digits, drop (length digits) bytes) else Err (Bad part)

unfoldable pub number_at : BadKind → List ℕ → Read ℕ
number_at part bytes = number_from part (digits_at_front 10 bytes) bytes

-- 1 to 16 hexadecimal digits
abbrev pub guid_from : BadKind → List ℕ → List ℕ → Read ℕ
guid_from part digits bytes =
    if not (length digits == 0) && nat_lt (length digits) 17 then Ok (number_spelled 16 digits, drop (length digits) bytes) else Err (Bad part)

unfoldable pub guid_at : BadKind → List ℕ → Read ℕ
guid_at part bytes = guid_from part (digits_at_front 16 bytes) bytes

-- a number in brackets
unfoldable pub port_at : List ℕ → Read ℕ
port_at bytes = do
  inner ← exactly kinds.Port (codes "[") bytes
  port ← number_at kinds.Port inner
  rest ← exactly kinds.Port (codes "]") port.1
  Ok (port.0, rest)

-- a node's name in quotes: its kind, by a letter, and its GUID
abbrev pub name_kind_at : List ℕ → Read NameKind
name_kind_at bytes =
    if begins_with (codes "S-") bytes then Ok (Switch, drop 2 bytes)
    else if begins_with (codes "H-") bytes then Ok (Adapter, drop 2 bytes)
    else if begins_with (codes "R-") bytes then Ok (Router, drop 2 bytes)
    else Err (Bad kinds.Name)

unfoldable pub name_at : List ℕ → Read Name
name_at bytes = do
  inner ← exactly kinds.Name (codes "\"") bytes
  kind ← name_kind_at inner
  guid ← guid_at kinds.Name kind.1
  rest ← exactly kinds.Name (codes "\"") guid.1
  Ok (record { kind = kind.0; guid = guid.0 }, rest)

-- whether it is the name of a node of this kind
abbrev pub names : NodeKind → NameKind → Bool
names nodes.Switch Switch = true
names nodes.Switch name = false
names nodes.Adapter Adapter = true
names nodes.Adapter name = false

abbrev pub if_named : NodeKind → Name × List ℕ → Read Name
if_named kind name = if names kind name.0.kind then Ok name else Err (Bad kinds.Name)

unfoldable pub name_of : NodeKind → List ℕ → Read Name
name_of kind bytes = name_at bytes >>= if_named kind

-- what stands in quotes up to the last quote
abbrev pub to_last_quote : List ℕ → Read (List ℕ)
to_last_quote bytes = if list_any is_quote bytes then Ok (before_last is_quote bytes, after_last is_quote bytes) else Err (Bad kinds.Description)

abbrev pub in_quotes : List ℕ → Read (List ℕ)
in_quotes bytes = exactly kinds.Description (codes "\"") bytes >>= to_last_quote

-- blanks, `#`, blanks, and a description in quotes that runs to the last quote of the line; it is cut to
-- its first 64 bytes
unfoldable pub description_at : List ℕ → Read (List ℕ)
description_at bytes = do
  mark ← blanks kinds.Description bytes
  gap ← exactly kinds.Description (codes "#") mark
  quote ← blanks kinds.Description gap
  text ← in_quotes quote
  Ok (take 64 text.0, text.1)

-- the words after the first word that is this one
abbrev pub words_after : List ℕ → List (List ℕ) → List (List ℕ)
words_after key [] = []
words_after key (word ∷ words) = if bytes_eq word key then words else words_after key words

-- a decimal number that is the whole of a word
abbrev pub whole_number : List ℕ → Result ℕ LineFault
whole_number word = number_at kinds.Lid word >>= λ number. if length number.1 == 0 then Ok number.0 else Err (Bad kinds.Lid)

-- the number that is the first word, and the words after it
abbrev pub first_number : List (List ℕ) → Result (ℕ × List (List ℕ)) LineFault
first_number [] = Err (Bad kinds.Lid)
first_number (word ∷ words) = whole_number word >>= λ number. Ok (number, words)

-- the number after the first word `lid`, and then the number after the next word `lmc`
unfoldable pub address_in : List ℕ → Result Address LineFault
address_in bytes = do
  lid ← first_number (words_after (codes "lid") (words_of bytes))
  lmc ← first_number (words_after (codes "lmc") lid.1)
  Ok (record { lid = lid.0; lmc = lmc.0 })

-- the same behind the next `#`
unfoldable pub address_behind_mark : List ℕ → Result Address LineFault
address_behind_mark bytes = do
  gap ← ok_or (position (λ one. one == byte "#") bytes) (Bad kinds.Lid)
  address_in (drop (gap + 1) bytes)

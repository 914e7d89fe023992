-- The list of groups. A line is empty, begins with `#`, or has a group's number in four hexadecimal digits and then the LIDs of its members,
-- with blanks between them and none around them. The first faulty line decides.
use Rattle.std.specs.Prelude.{◌≢◌, ℕ, ◌+◌, ◌-◌, ◌^◌, ◌<◌, ◌≤◌, All, AllPairs, Bool, false, ◌&&◌, not, List, [], ◌∷◌, ◌++◌, length, filter, Option, None, Some, Result, Ok, Err, option_map, slice_get, slice_index, ◌==◌, nat_le, if◌then◌else◌, true}
use Rattle.std.specs.List.{list_any, range_with_len}
use Rattle.std.specs.List.Sorted.{IsStrictlyIncreasing}
use Rattle.std.specs.Option.{option_or}
use Rattle.std.specs.Str.Lines.{lines}
use Rattle.fab_text.specs.Bytes.{is_blank}
use Rattle.fab_text.specs.Fields.{is_passed_over, words_of, hex, dec_up_to, all_read}
use Rattle.fab_text.specs.Readings.{◌>>=◌}
use Rattle.fab_model.specs.declared.rows.TerminalRow.{TerminalRow}
use Rattle.fab_model.specs.Topology.{Topology}
use Rattle.fab_mcast.specs.declared.fault.GroupFault.{GroupFault}
use Rattle.fab_mcast.specs.declared.fault.GroupFault.TheVariants.{BadLine, TwiceGroup, UnknownMember, Memory}

-- a group, with its members' terminals, ascending
pub record Group : Type 0 where
  pub number : ℕ
  pub members : List ℕ

-- ---- one line

-- no blank stands at either end of the line
abbrev pub has_bare_ends : List ℕ → Bool
has_bare_ends line = not (is_blank (slice_index line 0)) && not (is_blank (slice_index line (length line - 1)))

-- a number from 0xc000 to 0xfffe in four hexadecimal digits
abbrev pub if_in_range : Option ℕ → Option ℕ
if_in_range None = None
if_in_range (Some n) = if nat_le 0xc000 n && nat_le n 0xfffe then Some n else None

abbrev pub group_number : List ℕ → Option ℕ
group_number word = if length word == 6 then if_in_range (hex 4 word) else None

-- a LID in hexadecimal or decimal digits
abbrev pub lid_of : List ℕ → Option ℕ
lid_of word = option_or (hex 4 word) (dec_up_to 65535 word)

-- a group as a line names it, by its members' LIDs
pub record Named : Type 0 where
  pub number : ℕ
  pub lids : List ℕ

abbrev pub named_by : Option ℕ → Option (List ℕ) → Option Named
named_by (Some number) (Some (lid ∷ lids)) = Some (record { number = number; lids = lid ∷ lids })
named_by _ _ = None

abbrev pub named_in_words : List (List ℕ) → Option Named
named_in_words [] = None
named_in_words (number ∷ members) = named_by (group_number number) (all_read lid_of members)

abbrev pub named_in : List ℕ → Option Named
named_in line = if has_bare_ends line then named_in_words (words_of line) else None

-- ---- members

-- the row has one of the LIDs
abbrev pub is_named : List ℕ → Option TerminalRow → Bool
is_named lids None = false
is_named lids (Some row) = list_any (λ lid. lid == row.lid.0) lids

-- the terminals whose LIDs are named
abbrev pub terminals_named : Topology → List ℕ → List ℕ
terminals_named t lids = filter (λ n. is_named lids (slice_get t.terminals n)) (range_with_len 0 (length t.terminals))

-- some LID isn't a terminal's
abbrev pub has_stranger : Topology → List ℕ → Bool
has_stranger t lids = list_any (λ lid. not (list_any (λ (row : TerminalRow). row.lid.0 == lid) t.terminals)) lids

-- ---- the list

-- what a line of a group says, behind these groups
abbrev pub group_of : Topology → List Group → ℕ → Option Named → Result Group GroupFault
group_of t earlier line None = Err (BadLine line)
group_of t earlier line (Some named) =
    if list_any (λ (g : Group). g.number == named.number) earlier then Err (TwiceGroup line)
    else if has_stranger t named.lids then Err (UnknownMember line)
    else Ok (record { number = named.number; members = terminals_named t named.lids })

-- these groups, and those of the lines behind them, which are numbered from this one on
abbrev pub groups_from : Topology → List Group → ℕ → List (List ℕ) → Result (List Group) GroupFault
groups_from t earlier line [] = Ok earlier
groups_from t earlier line (bytes ∷ others) =
    if is_passed_over bytes then groups_from t earlier (line + 1) others
    else (group_of t earlier line (named_in bytes)) >>= (λ group. groups_from t (earlier ++ group ∷ []) (line + 1) others)

-- the groups of a text, or its first faulty line
abbrev pub groups_in : Topology → List ℕ → Result (List Group) GroupFault
groups_in t text = groups_from t [] 1 (lines text)

-- whether the fault is want of memory
abbrev pub wants_memory : GroupFault → Bool
wants_memory (Memory refused) = true
wants_memory fault = false

abbrev pub members_of : List Group → ℕ → Option (List ℕ)
members_of groups index = option_map (λ g. g.members) (slice_get groups index)

-- what the type `Groups` keeps: numbers in range, of which none is used twice, and members ascending
pub record IsGroup (g : Group) : Type 0 where
  pub number : (0xc000 ≤ g.number) × (g.number ≤ 0xfffe)
  pub ascending : IsStrictlyIncreasing g.members
  pub few : All (λ n. n < 2 ^ 32) g.members

pub record AreGroups (groups : List Group) : Type 0 where
  pub few_groups : length groups < 2 ^ 32
  pub each : All IsGroup groups
  pub differ : AllPairs (λ x y. x.number ≢ y.number) groups

-- No reader meets a line feed within a line.
use Rattle.std.proofs.Common.{◌≡◌, ◌≢◌, ℕ, ◌-◌, Bool, true, false, cond, List, [], ◌∷◌, length, length-take, drop, take, refl, sym, subst, arith, codes}
use Rattle.std.specs.Prelude.{Result, Ok, Err, IfOk, All, ◌==◌, slice_index, slice_range, Some}
use Rattle.std.specs.List.{list_any, before_last, after_last, slice_split, onto_first}
use Rattle.std.specs.Str.Lines.{lines, lines_of_parts}
use Rattle.std.proofs.lemmas.List.Elements.{All-take, All-drop, All-nil, All-cons, All-head, All-tail}
use Rattle.std.proofs.lemmas.Result.{IfOk-at_ok}
use Rattle.fab_text.specs.Bytes.{is_blank, is_quote, is_line_feed}
use Rattle.fab_text.specs.Readings.{◌>>=◌}
use Rattle.fab_text.specs.declared.fronts.Line.{Line}
use Rattle.fab_text.specs.Fronts.{line_at}
use Rattle.fab_text.proofs.LinesMet.{line_first}
use Rattle.fab_model.specs.declared.raw.NodeKind.{NodeKind}
use Rattle.fab_model.specs.Description.{HasNoLineFeed, IsDescription}
use Rattle.fab_netdiscover.specs.declared.fault.BadKind.{BadKind}
use Rattle.fab_netdiscover.specs.Fronts.{Read, past_blanks, blanks, begins_with, exactly, number_at, guid_at, name_kind_at, name_at, name_of, to_last_quote, in_quotes, description_at}
use Rattle.fab_netdiscover.specs.Lines.{LineKind, SwitchHead, AdapterHead, RouterHead, PortLine, PassedOver, line_kind, begins_with_word, node_front, description_or_none}

abbrev IsInLine : ℕ → Type 0
IsInLine byte = byte ≢ 10

-- a value under a test, or a fault
when : {A E : Type 0} (P : A → Type 0) (test : Bool) (x : A) (e : E) → P x → IfOk (cond test (Ok x) (Err e)) P
when P true x e h = h
when P false x e h = tt

-- the bytes that are left have no line feed
abbrev Left : {A : Type 0} → A × List ℕ → Type 0
Left read = HasNoLineFeed read.1

-- one reading after the other
after : {A E : Type 0} (Q : A → Type 0) (first : Result (List ℕ) E) (next : List ℕ → Result A E) → IfOk first HasNoLineFeed → ((rest : List ℕ) → HasNoLineFeed rest → IfOk (next rest) Q) → IfOk (first >>= next) Q
after Q (Ok rest) next h k = k rest h
after Q (Err e) next h k = tt

after_read : {A B E : Type 0} (Q : B → Type 0) (first : Result (A × List ℕ) E) (next : A × List ℕ → Result B E) → IfOk first Left → ((read : A × List ℕ) → HasNoLineFeed read.1 → IfOk (next read) Q) → IfOk (first >>= next) Q
after_read Q (Ok read) next h k = k read h
after_read Q (Err e) next h k = tt

left : (n : ℕ) (bytes : List ℕ) → HasNoLineFeed bytes → HasNoLineFeed (drop n bytes)
left n bytes h = All-drop IsInLine n bytes h

blanks_left : (kind : BadKind) (bytes : List ℕ) → HasNoLineFeed bytes → IfOk (blanks kind bytes) HasNoLineFeed
blanks_left kind bytes h = when HasNoLineFeed (is_blank (slice_index bytes 0)) _ _ (left _ bytes h)

exactly_left : (kind : BadKind) (text bytes : List ℕ) → HasNoLineFeed bytes → IfOk (exactly kind text bytes) HasNoLineFeed
exactly_left kind text bytes h = when HasNoLineFeed (begins_with text bytes) _ _ (left _ bytes h)

number_left : (kind : BadKind) (bytes : List ℕ) → HasNoLineFeed bytes → IfOk (number_at kind bytes) Left
unfolding number_at
number_left kind bytes h = when Left _ _ _ (left _ bytes h)

guid_left : (kind : BadKind) (bytes : List ℕ) → HasNoLineFeed bytes → IfOk (guid_at kind bytes) Left
unfolding guid_at
guid_left kind bytes h = when Left _ _ _ (left _ bytes h)

or_else : {A E : Type 0} (P : A → Type 0) (test : Bool) (x : A) (other : Result A E) → P x → IfOk other P → IfOk (cond test (Ok x) other) P
or_else P true x other h k = h
or_else P false x other h k = k

name_kind_left : (bytes : List ℕ) → HasNoLineFeed bytes → IfOk (name_kind_at bytes) Left
name_kind_left bytes h =
    or_else Left (begins_with (codes "S-") bytes) _ _ (left 2 bytes h)
    (or_else Left (begins_with (codes "H-") bytes) _ _ (left 2 bytes h)
    (when Left (begins_with (codes "R-") bytes) _ _ (left 2 bytes h)))

name_left : (bytes : List ℕ) → HasNoLineFeed bytes → IfOk (name_at bytes) Left
unfolding name_at
name_left bytes h = search (after, after_read, exactly_left, name_kind_left, guid_left)

name_of_left : (kind : NodeKind) (bytes : List ℕ) → HasNoLineFeed bytes → IfOk (name_of kind bytes) Left
unfolding name_of
name_of_left kind bytes h = search (after_read, name_left, when)

front_left : (kind : NodeKind) (bytes : List ℕ) → HasNoLineFeed bytes → IfOk (node_front kind bytes) Left
front_left kind bytes h = search (after, after_read, blanks_left, number_left, name_of_left)

-- what is read of a description
abbrev Described : List ℕ × List ℕ → Type 0
Described read = HasNoLineFeed read.0

before_left : (bytes : List ℕ) → HasNoLineFeed bytes → IfOk (to_last_quote bytes) Described
before_left bytes h = when Described (list_any is_quote bytes) (before_last is_quote bytes, after_last is_quote bytes) _ (All-take IsInLine _ bytes h)

quotes_hold : (bytes : List ℕ) → HasNoLineFeed bytes → IfOk (in_quotes bytes) Described
quotes_hold bytes h = search (after, exactly_left, before_left)

short : (text : List ℕ) → HasNoLineFeed text → IsDescription (take 64 text)
short text h = record { within = omega (arith, length-take 64 text); one_line = All-take IsInLine 64 text h }

cut : {E : Type 0} (text : Result (List ℕ × List ℕ) E) → IfOk text Described → IfOk {T = List ℕ × List ℕ} (text >>= λ text. Ok (take 64 text.0, text.1)) (λ read. IsDescription read.0)
cut (Ok text) h = short text.0 h
cut (Err fault) h = tt

description_holds : (bytes : List ℕ) → HasNoLineFeed bytes → IfOk (description_at bytes) (λ read. IsDescription read.0)
unfolding description_at
description_holds bytes h = search (after, blanks_left, exactly_left, quotes_hold, cut)

-- ---- as the heads meet it

pub front_is_line : (kind : NodeKind) (bytes : List ℕ) {read : _} → HasNoLineFeed bytes → node_front kind bytes ≡ Ok read → HasNoLineFeed read.1
front_is_line kind bytes h e = IfOk-at_ok Left e (front_left kind bytes h)

pub description_is : (bytes : List ℕ) {read : _} → HasNoLineFeed bytes → description_at bytes ≡ Ok read → IsDescription read.0
description_is bytes h e = IfOk-at_ok (λ read. IsDescription read.0) e (description_holds bytes h)

or_none : (read : Read (List ℕ)) → IfOk read (λ read. IsDescription read.0) → IsDescription (description_or_none read)
or_none (Ok read) h = h
or_none (Err fault) h = record { within = omega arith; one_line = All-nil IsInLine }

pub description_or_none_is : (bytes : List ℕ) → HasNoLineFeed bytes → IsDescription (description_or_none (description_at bytes))
description_or_none_is bytes h = or_none (description_at bytes) (description_holds bytes h)

-- ---- as a line meets it

abbrev LeftIn : LineKind → Type 0
LeftIn (SwitchHead rest) = HasNoLineFeed rest
LeftIn (AdapterHead rest) = HasNoLineFeed rest
LeftIn RouterHead = Unit {0}
LeftIn (PortLine whole) = Unit {0}
LeftIn PassedOver = Unit {0}

kind_when : (test : Bool) (one other : LineKind) → LeftIn one → LeftIn other → LeftIn (cond test one other)
kind_when true one other h k = h
kind_when false one other h k = k

kind_left : (bytes : List ℕ) → HasNoLineFeed bytes → LeftIn (line_kind bytes)
unfolding line_kind
kind_left bytes h =
    let front : List ℕ = past_blanks bytes in
    let f : HasNoLineFeed front = left _ bytes h in
    kind_when (begins_with_word (codes "Switch") front) _ _ (left 6 front f)
    (kind_when (begins_with_word (codes "Ca") front) _ _ (left 2 front f)
    (kind_when (begins_with_word (codes "Rt") front) _ _ tt
    (kind_when (begins_with (codes "[") front) _ _ tt tt)))

pub switch_rest_is_line : (bytes : List ℕ) {rest : List ℕ} → HasNoLineFeed bytes → SwitchHead rest ≡ line_kind bytes → HasNoLineFeed rest
switch_rest_is_line bytes h e = subst LeftIn (sym e) (kind_left bytes h)

pub adapter_rest_is_line : (bytes : List ℕ) {rest : List ℕ} → HasNoLineFeed bytes → AdapterHead rest ≡ line_kind bytes → HasNoLineFeed rest
adapter_rest_is_line bytes h e = subst LeftIn (sym e) (kind_left bytes h)

-- ---- the lines of a text

no_feed : (byte : ℕ) → is_line_feed byte ≡ false → IsInLine byte
no_feed byte e same = grind (arith, e, same)

part_step : (test : Bool) (byte : ℕ) (parts : List (List ℕ)) → is_line_feed byte ≡ test → All HasNoLineFeed parts → All HasNoLineFeed (cond test ([] ∷ parts) (onto_first byte parts))
part_step true byte parts e h = All-cons HasNoLineFeed [] parts (All-nil IsInLine) h
part_step false byte [] e h = All-cons HasNoLineFeed (byte ∷ []) [] (All-cons IsInLine byte [] (no_feed byte e) (All-nil IsInLine)) (All-nil HasNoLineFeed)
part_step false byte (part ∷ parts) e h =
    All-cons HasNoLineFeed (byte ∷ part) parts (All-cons IsInLine byte part (no_feed byte e) (All-head HasNoLineFeed part parts h)) (All-tail HasNoLineFeed part parts h)

parts_are_lines : (bytes : List ℕ) → All HasNoLineFeed (slice_split is_line_feed bytes)
parts_are_lines [] = All-cons HasNoLineFeed [] [] (All-nil IsInLine) (All-nil HasNoLineFeed)
parts_are_lines (byte ∷ bytes) = part_step (is_line_feed byte) byte (slice_split is_line_feed bytes) refl (parts_are_lines bytes)

stripped : (test : Bool) (line : List ℕ) → HasNoLineFeed line → HasNoLineFeed (cond test (take (length line - 1) line) line)
stripped true line h = All-take IsInLine _ line h
stripped false line h = h

last_part : (test : Bool) (part : List ℕ) → HasNoLineFeed part → All HasNoLineFeed (cond test [] (part ∷ []))
last_part true part h = All-nil HasNoLineFeed
last_part false part h = All-cons HasNoLineFeed part [] h (All-nil HasNoLineFeed)

of_parts : (parts : List (List ℕ)) → All HasNoLineFeed parts → All HasNoLineFeed (lines_of_parts parts)
of_parts [] h = All-nil HasNoLineFeed
of_parts (part ∷ []) h = last_part (length part == 0) part (All-head HasNoLineFeed part [] h)
of_parts (part ∷ next ∷ parts) h =
    All-cons HasNoLineFeed _ _ (stripped (slice_index part (length part - 1) == 13) part (All-head HasNoLineFeed part (next ∷ parts) h))
    (of_parts (next ∷ parts) (All-tail HasNoLineFeed part (next ∷ parts) h))

pub all_are_lines : (text : List ℕ) → All HasNoLineFeed (lines text)
all_are_lines text = of_parts _ (parts_are_lines text)

first_is_line : (bytes : List ℕ) {line : List ℕ} {others : List (List ℕ)} → lines bytes ≡ line ∷ others → HasNoLineFeed line
first_is_line bytes {line} {others} e = All-head HasNoLineFeed line others (subst (All HasNoLineFeed) e (all_are_lines bytes))

pub line_is_line : (text : List ℕ) (from : ℕ) (line : Line) → line_at text from ≡ Some line → HasNoLineFeed (slice_range text line.start line.end)
line_is_line text from line e = first_is_line (drop from text) (line_first text from line e)

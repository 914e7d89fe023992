-- The last quote of a line, by its place.
use Rattle.std.proofs.Common.{◌≡◌, ◌<◌, ◌≤◌, ◌+◌, ◌-◌, ℕ, Bool, true, false, cond, not, ◌&&◌, ◌||◌, List, [], ◌∷◌, Option, Some, None, length, min, drop, take, refl, sym, subst, ap, ◌∙◌, arith}
use Rattle.std.specs.Prelude.{Ok, Err, nat_eq, slice_range}
use Rattle.std.specs.List.{prefix_len, suffix_len, list_any, before_last, after_last}
use Rattle.std.proofs.lemmas.Grind.{common_steps, reverse_onto}
use Rattle.std.proofs.lemmas.List.{length-reverse, take_min}
use mathlib.Core.List.{reverse}
use Rattle.std.proofs.lemmas.List.Sums.{suffix_len-le-length}
use Rattle.std.proofs.lemmas.List.Folds.{prefix_len-append}
use Rattle.fab_text.specs.Bytes.{is_quote}
use Rattle.fab_text.specs.Readings.{◌>>=◌}
use Rattle.fab_text.specs.Fronts.{desc_at}
use Rattle.fab_text.specs.declared.fronts.Span.{Span}
use Rattle.fab_netdiscover.specs.declared.fault.LineFault.TheVariants.{Bad}
use Rattle.fab_netdiscover.specs.declared.fault.BadKind.TheVariants.{Description}
use Rattle.fab_netdiscover.specs.Fronts.{Read, to_last_quote, in_quotes}

-- how many bytes stand behind the last quote
abbrev pub behind : List ℕ → ℕ
behind bytes = suffix_len (λ byte. not (is_quote byte)) bytes

pub behind-cons : (byte : ℕ) (bytes : List ℕ) → behind (byte ∷ bytes) ≡ cond (nat_eq (behind bytes) (length bytes)) (length bytes + cond (not (is_quote byte)) (1 + 0) 0) (behind bytes)
behind-cons byte bytes =
    ap (λ (all : List ℕ). prefix_len (λ one. not (is_quote one)) all) (reverse_onto bytes byte [])
    ∙ prefix_len-append (λ one. not (is_quote one)) (reverse bytes) (byte ∷ [])
    ∙ ap (λ (size : ℕ). cond (nat_eq (behind bytes) size) (size + cond (not (is_quote byte)) (1 + 0) 0) (behind bytes)) (length-reverse bytes)

-- where a quote stands, it is not behind itself
behind_step : (test : Bool) (size count : ℕ) (others : Bool) → (others ≡ true → count < size) → count ≤ size → (test || others) ≡ true
    → cond (nat_eq count size) (size + cond (not test) (1 + 0) 0) count < size + 1
behind_step true size count others h k e = grind arith
behind_step false size count others h k e = let less : count < size = h e in grind arith

some_behind : (bytes : List ℕ) → list_any is_quote bytes ≡ true → behind bytes < length bytes
some_behind [] e = cc
some_behind (byte ∷ bytes) e =
    let less : _ < length bytes + 1 = behind_step (is_quote byte) (length bytes) (behind bytes) (list_any is_quote bytes) (some_behind bytes) (suffix_len-le-length _ bytes) e in
    omega (arith, behind-cons byte bytes, less)

-- what is read, by the places of what stands in quotes
abbrev read_by : List ℕ → Option Span → Read (List ℕ)
read_by bytes None = Err (Bad Description)
read_by bytes (Some place) = Ok (slice_range bytes place.start place.end, drop (place.end + 1) bytes)

abbrev place_by : Bool → List ℕ → Option Span
place_by test bytes = cond test (Some (record { start = 0 + 1; end = 0 + 1 + length (before_last is_quote bytes) })) None

abbrev read : List ℕ → List ℕ → Read (List ℕ)
read text rest = Ok (text, rest)

both_read : (text given rest left : List ℕ) → given ≡ text → left ≡ rest → read text rest ≡ read given left
both_read text given rest left e h = cc

last_met : (test : Bool) (bytes : List ℕ) → list_any is_quote bytes ≡ test
    → cond test (Ok (before_last is_quote bytes, after_last is_quote bytes)) (Err (Bad Description)) ≡ read_by (34 ∷ bytes) (place_by test bytes)
last_met false bytes e = refl
last_met true bytes e =
    let less : behind bytes < length bytes = some_behind bytes e in
    let size : length (before_last is_quote bytes) ≡ length bytes - behind bytes - 1 = grind (arith, common_steps) in
    let text : take (1 + length (before_last is_quote bytes) - 1) bytes ≡ before_last is_quote bytes = ap (λ (n : ℕ). take n bytes) (omega (arith, size)) in
    let place : 1 + length (before_last is_quote bytes) + 1 ≡ (length bytes - behind bytes) + 1 = omega (arith, size, less) in
    let rest : drop (1 + length (before_last is_quote bytes) + 1) (34 ∷ bytes) ≡ after_last is_quote bytes = ap (λ (n : ℕ). drop n (34 ∷ bytes)) place ∙ grind (arith, common_steps) in
    both_read (before_last is_quote bytes) _ (after_last is_quote bytes) _ text rest

met : (test : Bool) (byte : ℕ) (bytes : List ℕ) → is_quote byte ≡ test → in_quotes (byte ∷ bytes) ≡ read_by (byte ∷ bytes) (desc_at (byte ∷ bytes) 0)
met true byte bytes e =
    let same : byte ≡ 34 = grind (arith, e) in
    subst (λ (one : ℕ). in_quotes (one ∷ bytes) ≡ read_by (one ∷ bytes) (desc_at (one ∷ bytes) 0)) (sym same) (last_met _ bytes refl)
met false byte bytes e =
    let other : nat_eq 34 byte ≡ false = grind (arith, e) in
    ap (λ (same : Bool). cond (same && true) (Ok bytes) (Err (Bad Description)) >>= to_last_quote) other
    ∙ sym (ap (λ (same : Bool). read_by (byte ∷ bytes) (place_by (same && list_any is_quote bytes) bytes)) e)

quotes_met : (bytes : List ℕ) → in_quotes bytes ≡ read_by bytes (desc_at bytes 0)
quotes_met [] = refl
quotes_met (byte ∷ bytes) = met (is_quote byte) byte bytes refl

pub quotes_are : (bytes : List ℕ) (place : Span) → desc_at bytes 0 ≡ Some place → in_quotes bytes ≡ Ok (slice_range bytes place.start place.end, drop (place.end + 1) bytes)
quotes_are bytes place e = quotes_met bytes ∙ ap (read_by bytes) e

-- the front of a text as the code takes it
cut_to : (count : ℕ) (text : List ℕ) → take (min (length text) count) text ≡ take count text
cut_to count text = ap (λ (n : ℕ). take n text) (omega arith) ∙ take_min count text

pub cut : (text : List ℕ) → take (min (length text) 64) text ≡ take 64 text
cut text = cut_to 64 text

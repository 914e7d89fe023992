-- A hop count, or none, in a number of 16 bits.
use Rattle.std.specs.Prelude.{ℕ, List, Option, Some, None, if◌then◌else◌, nat_lt, slice_index_or}

-- the greatest number says that no walk joins two switches, any other is a hop count
abbrev pub count_of_code : ℕ → Option ℕ
count_of_code code = if nat_lt code 65535 then Some code else None

-- the number at a place, and none beyond the last
abbrev pub code_at : List ℕ → ℕ → ℕ
code_at codes place = slice_index_or codes place 65535

-- A service level, or none, in one byte.
use Rattle.std.specs.Prelude.{ℕ, Option, Some, None, if◌then◌else◌, nat_lt}

-- a byte below 16 is a level, any other is none
abbrev pub level_of_byte : ℕ → Option ℕ
level_of_byte byte = if nat_lt byte 16 then Some byte else None

-- Reading a reader to its end, within a limit.
use Rattle.std.specs.Prelude.{◌≡◌, ℕ, ◌<◌, ◌≤◌, Bool, true, false, List, length, ◌++◌, Option, IfSome}
use Rattle.std.specs.Io.KnownBytes.{Consumes, IsAtEnd}

-- a reader lost so many bytes at most, from the front of what it had left
abbrev pub TakesAtMost : Option (List ℕ) → Option (List ℕ) → ℕ → Type 0
TakesAtMost left now most = (bytes : List ℕ) × Consumes left now bytes × (length bytes ≤ most)

-- a read that had so much room appended so many bytes, which the reader lost, and none only at its end
abbrev pub AppendsRead : Option (List ℕ) → Option (List ℕ) → ℕ → List ℕ → List ℕ → ℕ → Type 0
AppendsRead left now room before into count =
    (bytes : List ℕ) × (into ≡ before ++ bytes) × (length bytes ≡ count) × (count ≤ room) × Consumes left now bytes × (count ≡ 0 → 0 < room → IsAtEnd now)

-- Under true the buffer is all that was left, within the limit. Under false more than that was left.
abbrev pub ReadsWhole : Option (List ℕ) → ℕ → List ℕ → Bool → Type 0
ReadsWhole left limit into true = (length into ≤ limit) × IfSome left (λ bytes. into ≡ bytes)
ReadsWhole left limit into false = IfSome left (λ bytes. limit < length bytes)

-- What a writer leaves in a buffer.
use Rattle.std.specs.Prelude.{◌≡◌, ℕ, ◌<◌, ◌≤◌, List, ◌++◌, length, drop}

-- the line of n bytes stands in front, and the rest is as it was
abbrev pub Wrote : List ℕ → List ℕ → ℕ → List ℕ → Type 0
Wrote out line n out' = (n ≡ length line) × (length line ≤ length out) × (out' ≡ line ++ drop (length line) out)

-- the buffer is too short for the line, and as it was
abbrev pub NoRoom : List ℕ → List ℕ → ℕ → List ℕ → Type 0
NoRoom out line place out' = (place ≡ 0) × (length out < length line) × (out' ≡ out)

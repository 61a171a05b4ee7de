-- The lines of a text: byte 10 ends one, and bytes that follow the last byte 10 are one too.
use Rattle.std.specs.Prelude.{ℕ, ◌<◌, cond, List, [], ◌∷◌, ◌==◌, ◌≢◌, slice_index}

-- the byte b in front of the first line
abbrev pub in_front : ℕ → List (List ℕ) → List (List ℕ)
in_front b [] = (b ∷ []) ∷ []
in_front b (line ∷ lines) = (b ∷ line) ∷ lines

unfoldable pub lines_of : List ℕ → List (List ℕ)
lines_of [] = []
lines_of (b ∷ text) = cond (b == 10) ([] ∷ lines_of text) (in_front b (lines_of text))

-- no line ends before place e
abbrev pub Unended : List ℕ → ℕ → Type 0
Unended text e = (k : ℕ) → k < e → slice_index text k ≢ 10

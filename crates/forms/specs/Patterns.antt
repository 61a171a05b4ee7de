-- A pattern is text in which `#` stands for a count and `%` for an amount. A line of it has numbers in their place.
use Rattle.std.specs.Prelude.{◌≡◌, ℕ, suc, ◌+◌, ◌*◌, ◌<◌, ◌≤◌, Bool, true, false, cond, ◌⊎◌, List, [], ◌∷◌, ◌++◌, map, ℤ, pos, negsuc, ◌==◌}
use Rattle.std.specs.Fmt.{signed_decimal}
use Rattle.std.proofs.Common.{refl, ap, inl, inr, arith}
use Rattle.std.specs.Coded.{Unit-prop, ×_prop, le_prop}

-- the largest number of 32 bits
abbrev pub largest_count : ℕ
largest_count = 4294967295

-- an amount has at most so many digits
abbrev pub most_digits : ℕ
most_digits = 18

-- the largest number of so many digits
abbrev pub largest_amount : ℕ
largest_amount = 999999999999999999

-- a pattern has at most so many numbers
abbrev pub most_fields : ℕ
most_fields = 6

-- a pattern has at most so many bytes
abbrev pub longest_pattern : ℕ
longest_pattern = 64

-- a line has at most so many bytes: a number takes the place of one byte, and may have a minus
abbrev pub longest_line : ℕ
longest_line = longest_pattern + most_fields * most_digits

-- one byte of text, or a number up to a limit, which may have a minus or not
pub data Piece : Type 0 where
  text : ℕ → Piece
  number : ℕ → Bool → Piece

-- what a byte of a pattern stands for; `#` is 35 and `%` is 37
abbrev pub piece_of : ℕ → Piece
piece_of b = cond (b == 35) (number largest_count false) (cond (b == 37) (number largest_amount true) (text b))

-- a pattern, byte by byte
abbrev pub pieces : List ℕ → List Piece
pieces pattern = map piece_of pattern

-- how many numbers the pieces have
abbrev pub field_count : List Piece → ℕ
field_count [] = 0
field_count (text b ∷ ps) = field_count ps
field_count (number limit minus ∷ ps) = suc (field_count ps)

-- the value is one that a number up to the limit writes
abbrev pub Suits : ℕ → Bool → ℤ → Type 0
Suits limit minus (pos n) = n ≤ limit
Suits limit true (negsuc n) = suc n ≤ limit
Suits limit false (negsuc n) = ⊥

-- the values are as many as the numbers, and each suits its own
abbrev pub Fits : List Piece → List ℤ → Type 0
Fits [] [] = Unit {0}
Fits [] (v ∷ vs) = ⊥
Fits (text b ∷ ps) vs = Fits ps vs
Fits (number limit minus ∷ ps) [] = ⊥
Fits (number limit minus ∷ ps) (v ∷ vs) = Suits limit minus v × Fits ps vs

-- the line that the pieces write with these values
abbrev pub fill : List Piece → List ℤ → List ℕ
fill [] vs = []
fill (text b ∷ ps) vs = b ∷ fill ps vs
fill (number limit minus ∷ ps) [] = []
fill (number limit minus ∷ ps) (v ∷ vs) = signed_decimal v ++ fill ps vs

-- the lines of a pattern
abbrev pub Lines : List Piece → List ℕ → Type 0
Lines ps line = (vs : List ℤ) × Fits ps vs × (line ≡ fill ps vs)

-- no digit begins what the pieces write
abbrev pub Breaks : List Piece → Type 0
Breaks [] = Unit {0}
Breaks (text b ∷ ps) = (b < 48) ⊎ (58 ≤ b)
Breaks (number limit minus ∷ ps) = ⊥

-- no number runs into another, or into a digit of the text
abbrev pub Sound : List Piece → Type 0
Sound [] = Unit {0}
Sound (text b ∷ ps) = Sound ps
Sound (number limit minus ∷ ps) = Breaks ps × Sound ps

-- either has one proof at most
Breaks-prop : (ps : List Piece) → IsProp (Breaks ps)
Breaks-prop [] x y = refl
Breaks-prop (text b ∷ ps) (inl x) (inl y) = ap inl (le_prop x y)
Breaks-prop (text b ∷ ps) (inl x) (inr y) = absurd (omega arith)
Breaks-prop (text b ∷ ps) (inr x) (inl y) = absurd (omega arith)
Breaks-prop (text b ∷ ps) (inr x) (inr y) = ap inr (le_prop x y)
Breaks-prop (number limit minus ∷ ps) x y = absurd x

pub Sound-prop : (ps : List Piece) → IsProp (Sound ps)
Sound-prop [] = Unit-prop
Sound-prop (text b ∷ ps) = Sound-prop ps
Sound-prop (number limit minus ∷ ps) = ×_prop (Breaks-prop ps) (Sound-prop ps)

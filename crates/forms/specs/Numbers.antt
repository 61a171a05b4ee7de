-- What the reader of one number answers.
use Rattle.std.specs.Prelude.{◌≡◌, ℕ, suc, ◌+◌, ◌-◌, ◌*◌, ◌<◌, ◌≤◌, Bool, ◌⊎◌, List, ◌∷◌, ◌++◌, length, drop, decimal, ℤ, pos, negsuc, slice_index, slice_index_or}
use Rattle.std.specs.Fmt.{signed_decimal}
use Rattle.forms.specs.Faults.{Fault}
use Rattle.forms.specs.Patterns.{Piece, number, Suits, Lines, largest_amount}

-- every digit is within the limit, and the limit is itself an amount
abbrev pub Limit : ℕ → Type 0
Limit limit = (9 ≤ limit) × (limit ≤ largest_amount)

-- the first byte, or 256 where there is none
abbrev pub first : List ℕ → ℕ
first s = slice_index_or s 0 256

-- the byte b stands at a place, and it does not
abbrev pub Stands : List ℕ → ℕ → ℕ → Type 0
Stands line at b = (at < length line) × (slice_index line at ≡ b)

abbrev pub Differs : List ℕ → ℕ → ℕ → Type 0
Differs line at b = first (drop at line) ≡ b → ⊥

-- the byte b is a digit, from 48 to 57, that may follow those of v in a number up to the limit
abbrev pub Goes : ℕ → ℕ → ℕ → Type 0
Goes limit v b = (48 ≤ b) × (b < 58) × (0 < v) × (10 * v + (b - 48) ≤ limit)

-- the same of a number with its sign
abbrev pub GoesOn : ℕ → ℤ → ℕ → Type 0
GoesOn limit (pos n) b = Goes limit n b
GoesOn limit (negsuc n) b = Goes limit (suc n) b

-- z is written in front of s, as the longest number that is there, and s' is left
pub record Took (limit : ℕ) (minus : Bool) (s : List ℕ) (z : ℤ) (s' : List ℕ) : Type 0 where
  pub suits : Suits limit minus z
  pub front : s ≡ signed_decimal z ++ s'
  pub stops : GoesOn limit z (first s') → ⊥

-- the digits of n are in front of s, the first of them `least` or more; they are the longest number that is there, and s' is left
pub record Counted (limit least : ℕ) (s : List ℕ) (n : ℕ) (s' : List ℕ) : Type 0 where
  pub fits : n ≤ limit
  pub front : s ≡ decimal n ++ s'
  pub stops : Goes limit n (first s') → ⊥
  pub leads : 48 < least → 0 < n
  pub least_first : least ≤ first s
  pub digit_first : first s < 58

-- no digit from `least` on is in front of s
abbrev pub NoDigit : ℕ → List ℕ → Type 0
NoDigit least s = (first s < least) ⊎ (58 ≤ first s)

-- no number is in front of s, and the line fails at n whatever is to follow the number
abbrev pub NoNumber : ℕ → Bool → List ℕ → ℕ → Type 0
NoNumber limit minus s n = (ps : List Piece) → Fault (Lines (number limit minus ∷ ps)) s n

-- z is written from `at` to `end`
abbrev pub Found : ℕ → Bool → List ℕ → ℕ → ℕ → ℤ → Type 0
Found limit minus line at end z = (end ≤ length line) × Took limit minus (drop at line) z (drop end line)

-- no number begins at `at`, and the line fails at `place`
abbrev pub Missing : ℕ → Bool → List ℕ → ℕ → ℕ → Type 0
Missing limit minus line at place = (n : ℕ) × (place ≡ at + n) × NoNumber limit minus (drop at line) n

-- What a line reads as, computed: the forms that are legal then are tried in turn, and a fault stands where the one that gets furthest fails.
use Rattle.std.specs.Prelude.{ℕ, ◌+◌, ◌-◌, ◌*◌, max, Bool, cond, ◌&&◌, List, [], ◌∷◌, length, ℤ, pos, negsuc, Ok, Err, Option, Result, ◌==◌, nat_le, nat_lt}
use Rattle.forms.specs.declared.calls.Kind.{Kind}
use Rattle.forms.specs.declared.calls.Call.{Call}
use Rattle.forms.specs.declared.table.Form.{Form}
use Rattle.forms.specs.Patterns.{Piece, text, number, pieces}
use Rattle.forms.specs.Table.{pattern_of, forms_of, call_of}

-- whether the byte is a digit from `least` on
abbrev pub digit : ℕ → ℕ → Bool
digit least b = nat_le least b && nat_lt b 58

-- whether the byte is a digit that may follow those of v, in a number up to the limit
abbrev pub goes : ℕ → ℕ → ℕ → Bool
goes limit v b = digit 48 b && (nat_lt 0 v && nat_le (10 * v + (b - 48)) limit)

-- the number that goes on from v as far as it can, and what is left of s
abbrev pub digits_of : ℕ → ℕ → List ℕ → ℕ × List ℕ
digits_of limit v [] = (v, [])
digits_of limit v (b ∷ s) = cond (goes limit v b) (digits_of limit (10 * v + (b - 48)) s) (v, b ∷ s)

-- a number and what is left, or where it fails: with no minus, and where the minus stands before s
abbrev pub unsigned_of : ℕ → List ℕ → Result (ℤ × List ℕ) ℕ
unsigned_of limit [] = Err 0
unsigned_of limit (b ∷ s) = cond (digit 48 b) (Ok (pos (digits_of limit (b - 48) s).0, (digits_of limit (b - 48) s).1)) (Err 0)

abbrev pub negative_of : ℕ → List ℕ → Result (ℤ × List ℕ) ℕ
negative_of limit [] = Err 1
negative_of limit (b ∷ s) = cond (digit 49 b) (Ok (negsuc ((digits_of limit (b - 48) s).0 - 1), (digits_of limit (b - 48) s).1)) (Err 1)

-- the minus, 45, is read where the number may have one
abbrev pub number_of : ℕ → Bool → List ℕ → Result (ℤ × List ℕ) ℕ
number_of limit minus [] = Err 0
number_of limit minus (b ∷ s) = cond (minus && b == 45) (negative_of limit s) (unsigned_of limit (b ∷ s))

-- what follows a byte of text, and what follows a number z of k bytes
abbrev pub after_text : Result (List ℤ) ℕ → Result (List ℤ) ℕ
after_text (Ok vs) = Ok vs
after_text (Err n) = Err (1 + n)

abbrev pub after_number : ℕ → ℤ → Result (List ℤ) ℕ → Result (List ℤ) ℕ
after_number k z (Ok vs) = Ok (z ∷ vs)
after_number k z (Err n) = Err (k + n)

-- the rest of the line s after its first number
abbrev pub go_on : List ℕ → Result (ℤ × List ℕ) ℕ → (List ℕ → Result (List ℤ) ℕ) → Result (List ℤ) ℕ
go_on s (Ok p) next = after_number (length s - length p.1) p.0 (next p.1)
go_on s (Err n) next = Err n

-- the values of a line of the pieces, or where it fails
abbrev pub scan_of : List Piece → List ℕ → Result (List ℤ) ℕ
scan_of [] [] = Ok []
scan_of [] (b ∷ s) = Err 0
scan_of (text a ∷ ps) [] = Err 0
scan_of (text a ∷ ps) (b ∷ s) = cond (b == a) (after_text (scan_of ps s)) (Err 0)
scan_of (number limit minus ∷ ps) s = go_on s (number_of limit minus s) (scan_of ps)

-- the call that one form makes of the line, or else what comes of the others
abbrev pub try_of : Form → Result (List ℤ) ℕ → (ℕ → Result Call ℕ) → Result Call ℕ
try_of f (Ok vs) others = Ok (call_of f vs)
try_of f (Err n) others = others n

-- the forms one after another, where those before failed at `place` at the furthest
abbrev pub read_from : List Form → ℕ → List ℕ → Result Call ℕ
read_from [] place line = Err place
read_from (f ∷ fs) place line = try_of f (scan_of (pieces (pattern_of f)) line) (λ n. read_from fs (max place n) line)

-- the call that the line makes, or the place of its fault
abbrev pub read_of : Option Kind → List ℕ → Result Call ℕ
read_of opened line = read_from (forms_of opened) 0 line

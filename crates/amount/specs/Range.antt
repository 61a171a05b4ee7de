-- Whole numbers within bounds: what figures mean, what a sum of amounts is, what a made amount means.
--   inside   a number lies between a bound and its opposite
--   figure   what a figure in memory means
--   if_inside  a number where it lies within a bound
--   sum      the sum of two amounts
--   meant    an optional value, by what a value means
--   made     the outcome of making an amount, by what it means
use Rattle.std.specs.Prelude.{ℕ, ◌*◌, Bool, cond, ◌&&◌, ℤ, pos, ◌+ℤ◌, neg_ℤ, Some, None, Ok, Err, Option, Result, int_le}
use Rattle.refusal.specs.declared.Refusal.{Refusal}

-- z lies from -n to n, ends included
abbrev pub inside : ℕ → ℤ → Bool
inside n z = int_le (neg_ℤ (pos n)) z && int_le z (pos n)

-- what a figure means under the limit l: itself from -2l to 2l, and zero outside
abbrev pub figure : ℕ → ℤ → ℤ
figure l z = cond (inside (2 * l) z) z (pos 0)

-- the number z, none where it lies outside -n to n
abbrev pub if_inside : ℕ → ℤ → Option ℤ
if_inside n z = cond (inside n z) (Some z) None

-- the sum of two amounts under the limit l, none where it lies outside -2l to 2l
abbrev pub sum : ℕ → ℤ → ℤ → Option ℤ
sum l a b = if_inside (2 * l) (a +ℤ b)

abbrev pub meant : {X : Type 0} → (X → ℤ) → Option X → Option ℤ
meant f (Some x) = Some (f x)
meant f None = None

abbrev pub made : {X : Type 0} → (X → ℤ) → Result X Refusal → Result ℤ Refusal
made f (Ok x) = Ok (f x)
made f (Err why) = Err why

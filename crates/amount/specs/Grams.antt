-- What grams mean, and which can be made from outside numbers.
use Rattle.std.specs.Prelude.{cond, ℤ, Ok, Err, Result}
use Rattle.refusal.specs.declared.Refusal.{Refusal}
use Rattle.refusal.specs.declared.Refusal.TheVariants.{OverLimit}
use Rattle.amount.specs.Range.{inside, figure}
pub use Rattle.amount.specs.Limits.{gram_limit}
use Rattle.amount.specs.declared.grams.Grams.{Grams}

-- grams mean themselves
abbrev pub grams : Grams → ℤ
grams x = figure gram_limit x.grams

-- the amount made from the number n
abbrev pub grams_made : ℤ → Result ℤ Refusal
grams_made n = cond (inside gram_limit n) (Ok n) (Err OverLimit)

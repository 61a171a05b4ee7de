-- What two different constructors cannot be: equal.
use Rattle.std.proofs.Common.{◌≡◌, ℕ, true, false, arith}

pub no_way : {X : Type 0} → ◌≡◌ {A = ℕ} 0 1 → X
no_way e = absurd (omega arith)

pub true_false : {X : Type 0} → true ≡ false → X
true_false e = no_way cc

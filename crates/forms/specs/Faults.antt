-- Where a line fails: the end of its longest beginning that some legal line shares.
use Rattle.std.specs.Prelude.{ℕ, ◌≤◌, List, ◌++◌, length, take}

-- some line of L begins with p
abbrev pub Begins : (List ℕ → Type 0) → List ℕ → Type 0
Begins L p = (rest : List ℕ) × L (p ++ rest)

-- s is no line of L, and a line of L shares its first n bytes, but none shares more
pub record Fault (L : List ℕ → Type 0) (s : List ℕ) (n : ℕ) : Type 0 where
  pub none : L s → ⊥
  pub within : n ≤ length s
  pub shared : Begins L (take n s)
  pub most : (m : ℕ) → m ≤ length s → Begins L (take m s) → m ≤ n

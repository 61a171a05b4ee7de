-- The words that are handed out with a line.
use Rattle.std.specs.Prelude.{◌≡◌, ℕ, List, map, length, take}
use Rattle.forms.specs.declared.split.Words.{Words}
use Rattle.forms.specs.Words.{cuts, spans}

-- the bytes of each
abbrev pub texts : Words → List (List ℕ)
texts w = map (λ p. p.now) (take w.len w.parts)

-- the words are those of the line, each that part of it
pub record Holds (w : Words) (line : List ℕ) : Type 0 where
  pub many : length (texts w) ≡ length (spans line)
  pub each : texts w ≡ cuts line (spans line)

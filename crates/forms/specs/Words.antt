-- The words of a line: its longest runs of bytes that are neither brackets nor spaces.
use Rattle.std.specs.Prelude.{◌≡◌, ℕ, suc, ◌-◌, ◌<◌, ◌≤◌, Bool, true, false, cond, ◌⊎◌, List, [], ◌∷◌, ◌++◌, map, length, ◌==◌, nat_lt, slice_index}
use Rattle.std.specs.List.{between}

-- a legal line has at most so many words
abbrev pub most_words : ℕ
most_words = 13

-- whether the byte parts two words: a space, 32, or a bracket, 40 or 41
abbrev pub parting : ℕ → Bool
parting b = cond (b == 32) true (cond (b == 40) true (b == 41))

-- where a word begins and ends in its line
pub record Span : Type 0 where
  pub from : ℕ
  pub to : ℕ

-- the word between two places, unless it is empty
abbrev pub closed : ℕ → ℕ → List Span
closed from to = cond (nat_lt from to) (record { from = from; to = to } ∷ []) []

-- the words of a line from the place `at` on, where s is left of it and the word there began at `from`
abbrev pub spans_from : ℕ → ℕ → List ℕ → List Span
spans_from from at [] = closed from at
spans_from from at (b ∷ s) = cond (parting b) (closed from at ++ spans_from (suc at) (suc at) s) (spans_from from (suc at) s)

-- the words of a line, in order
abbrev pub spans : List ℕ → List Span
spans line = spans_from 0 0 line

-- the bytes of the word
abbrev pub cut : List ℕ → Span → List ℕ
cut line w = between w.from w.to line

-- the bytes of each
abbrev pub cuts : List ℕ → List Span → List (List ℕ)
cuts line ws = map (cut line) ws

-- a longest run of bytes that part no words
pub record Word (line : List ℕ) (w : Span) : Type 0 where
  pub some : w.from < w.to
  pub within : w.to ≤ length line
  pub inside : (k : ℕ) → w.from ≤ k → k < w.to → parting (slice_index line k) ≡ false
  pub before : (w.from ≡ 0) ⊎ (parting (slice_index line (w.from - 1)) ≡ true)
  pub after : (w.to ≡ length line) ⊎ (parting (slice_index line w.to) ≡ true)

abbrev pub AllWords : List ℕ → List Span → Type 0
AllWords line [] = Unit {0}
AllWords line (w ∷ ws) = Word line w × AllWords line ws

-- one of the words has the place i
abbrev pub Covers : ℕ → List Span → Type 0
Covers i [] = ⊥
Covers i (w ∷ ws) = ((w.from ≤ i) × (i < w.to)) ⊎ Covers i ws

-- each begins at n or later, and after those before it
abbrev pub Ascends : ℕ → List Span → Type 0
Ascends n [] = Unit {0}
Ascends n (w ∷ ws) = (n ≤ w.from) × Ascends w.to ws

-- the words of a line are its longest runs, in order, and leave out no byte that parts no words
pub record Runs (line : List ℕ) : Type 0 where
  pub words : AllWords line (spans line)
  pub order : Ascends 0 (spans line)
  pub whole : (i : ℕ) → i < length line → parting (slice_index line i) ≡ false → Covers i (spans line)

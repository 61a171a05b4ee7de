-- The parts of a line that are not empty are its words.
use Rattle.std.proofs.Common.{◌≡◌, ℕ, suc, ◌+◌, ◌-◌, ◌<◌, Bool, true, false, cond, not, ltb, eqb, List, [], ◌∷◌, ◌++◌, length, get_or, drop, sym, refl, ap, ◌∙◌, append-nil, arith, eq-eqb, ne_eqb, ltb-true, ltb-false}
use Rattle.std.specs.List.{All, between, filter, slice_split}
use Rattle.std.proofs.lemmas.List.{take-append-drop, drop-drop}
use Rattle.std.proofs.lemmas.List.Edits.{length-between, get_or-between}
use Rattle.std.proofs.lemmas.List.Splits.{slice_split_none, slice_split_at}
use Rattle.std.proofs.lemmas.Grind.{get_or_default_zero}
use Rattle.forms.specs.Words.{Span, parting, closed, cuts, spans_from, spans}
use Rattle.forms.proofs.Runs.{Going, next_at, first, begins, goes_on}

-- whether the part is a word
abbrev pub some : List ℕ → Bool
some part = not (eqb (length part) 0)

module _ (line : List ℕ) where
  plain : (from at : ℕ) → Going line from at → All (λ b. parting b ≡ false) (between from at line)
  plain from at g k d l =
      let n = length-between line from at g.within.1 in
      ap parting (get_or-between line from at k d (omega arith) ∙ get_or_default_zero line (from + k) d (omega (arith, g.within))) ∙ g.inside (from + k) (omega arith) (omega arith)

  -- the line from the word on
  parted : (from at : ℕ) → Going line from at → drop from line ≡ between from at line ++ drop at line
  parted from at g =
      let n : from + (at - from) ≡ at = omega (arith, g.within) in
      sym (take-append-drop (at - from) (drop from line)) ∙ ap (λ s. between from at line ++ s) (drop-drop (at - from) from line ∙ ap (λ k. drop k line) n)

  -- a part, where others follow
  part_more : (from at : ℕ) (parts : List (List ℕ)) (ws : List Span) → Going line from at → filter some parts ≡ cuts line ws → filter some (between from at line ∷ parts) ≡ cuts line (closed from at ++ ws)
  part_more from at parts ws g h = go (ltb from at) refl
    where
      n : length (between from at line) ≡ at - from
      n = length-between line from at g.within.1

      go : (t : Bool) → ltb from at ≡ t → filter some (between from at line ∷ parts) ≡ cuts line (cond t (record { from = from; to = at } ∷ []) [] ++ ws)
      go true e =
          let l = ltb-true from at e in
          ap (λ z. cond (not z) (between from at line ∷ filter some parts) (filter some parts)) (ne_eqb _ 0 (λ z. omega (arith, n))) ∙ ap (λ ps. between from at line ∷ ps) h
      go false e =
          let l = ltb-false from at e in
          ap (λ z. cond (not z) (between from at line ∷ filter some parts) (filter some parts)) (eq-eqb _ 0 (omega (arith, n))) ∙ h

  parts : (s : List ℕ) (from at : ℕ) → drop at line ≡ s → Going line from at → filter some (slice_split parting (drop from line)) ≡ cuts line (spans_from from at s)
  parts [] from at e g =
      ap (λ s. filter some (slice_split parting s)) (parted from at g ∙ ap (λ s. between from at line ++ s) e ∙ append-nil _) ∙ ap (filter some) (slice_split_none parting _ (plain from at g)) ∙ part_more from at [] [] g refl
      ∙ ap (cuts line) (append-nil (closed from at))
  parts (b ∷ s) from at e g = let n = next_at line at b s e in go (parting b) refl n (λ g'. parts s (suc at) (suc at) n.2 g') (λ g'. parts s from (suc at) n.2 g')
    where
      go : (t : Bool) → parting b ≡ t → (at < length line) × (get_or line at 0 ≡ b) × (drop (suc at) line ≡ s)
          → (Going line (suc at) (suc at) → filter some (slice_split parting (drop (suc at) line)) ≡ cuts line (spans_from (suc at) (suc at) s))
          → (Going line from (suc at) → filter some (slice_split parting (drop from line)) ≡ cuts line (spans_from from (suc at) s))
          → filter some (slice_split parting (drop from line)) ≡ cuts line (cond t (closed from at ++ spans_from (suc at) (suc at) s) (spans_from from (suc at) s))
      go true p n fresh same =
          ap (λ s. filter some (slice_split parting s)) (parted from at g ∙ ap (λ s. between from at line ++ s) e) ∙ ap (filter some) (slice_split_at parting (between from at line) b s (plain from at g) p)
          ∙ part_more from at (slice_split parting s) (spans_from (suc at) (suc at) s) g (ap (λ s. filter some (slice_split parting s)) (sym n.2) ∙ fresh (begins line at n.0 (ap parting n.1 ∙ p)))
      go false p n fresh same = same (goes_on line from at n.0 (ap parting n.1 ∙ p) g)

pub all_parts : (line : List ℕ) → filter some (slice_split parting line) ≡ cuts line (spans line)
all_parts line = parts line line 0 0 refl (first line)

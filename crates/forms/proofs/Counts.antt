-- A line has as many words as its pattern, since a number is one word, as its sign is.
use Rattle.std.proofs.Common.{◌≡◌, ℕ, suc, ◌+◌, ◌^◌, ◌<◌, ◌≤◌, Bool, true, false, cond, eqb, ltb, List, [], ◌∷◌, ◌++◌, length, ℤ, pos, negsuc, decimal, sym, refl, ap, ◌∙◌, arith, length-append, le-ltb, lt-ltb, ne_eqb, eqb-true}
use Rattle.std.specs.Fmt.{signed_decimal}
use Rattle.std.proofs.lemmas.Fmt.{decimal_by_steps, decimal_nonempty}
use Rattle.forms.specs.Patterns.{text, number, pieces, Suits, Fits, fill, largest_count, largest_amount}
use Rattle.forms.specs.Words.{Span, parting, closed, spans_from, spans}

-- how many words end in the line, where t says whether one goes on at its start
abbrev pub count : Bool → List ℕ → ℕ
count t [] = cond t 1 0
count t (b ∷ s) = cond (parting b) (cond t 1 0 + count false s) (count true s)

length-closed : (from at : ℕ) → length (closed from at) ≡ cond (ltb from at) 1 0
length-closed from at = go (ltb from at)
  where
    go : (t : Bool) → length {A = Span} (cond t (record { from = from; to = at } ∷ []) []) ≡ cond t 1 0
    go true = refl
    go false = refl

spans_counted : (from at : ℕ) (s : List ℕ) → from ≤ at → length (spans_from from at s) ≡ count (ltb from at) s
spans_counted from at [] h = length-closed from at
spans_counted from at (b ∷ s) h =
    go (parting b)
    (spans_counted (suc at) (suc at) s (omega arith) ∙ ap (λ t. count t s) (le-ltb (suc at) (suc at) (omega arith)))
    (spans_counted from (suc at) s (omega arith) ∙ ap (λ t. count t s) (lt-ltb from (suc at) (omega arith)))
  where
    go : (t : Bool) → length (spans_from (suc at) (suc at) s) ≡ count false s → length (spans_from from (suc at) s) ≡ count true s
        → length (cond t (closed from at ++ spans_from (suc at) (suc at) s) (spans_from from (suc at) s)) ≡ cond t (cond (ltb from at) 1 0 + count false s) (count true s)
    go true p q = length-append (closed from at) (spans_from (suc at) (suc at) s) ∙ (λ i. length-closed from at i + p i)
    go false p q = q

inside : (b : ℕ) → 42 ≤ b → parting b ≡ false
inside b h = (λ i. cond (ne_eqb b 32 (λ e. omega arith) i) true (cond (ne_eqb b 40 (λ e. omega arith) i) true (ne_eqb b 41 (λ e. omega arith) i)))

-- every byte comes after the brackets, as digits and the minus do
abbrev Plain : List ℕ → Type 0
Plain [] = Unit {0}
Plain (b ∷ w) = (42 ≤ b) × Plain w

plain_push : (w : List ℕ) (b : ℕ) → Plain w → 42 ≤ b → Plain (w ++ (b ∷ []))
plain_push [] b h l = (l, tt)
plain_push (c ∷ w) b h l = (h.0, plain_push w b h.1 l)

decimal-plain : (n : ℕ) → n < 2 ^ 64 → Plain (decimal n)
decimal-plain n h = decimal_by_steps (λ n ds. Plain ds) (λ n l. (omega arith, tt)) (λ n ds l ih. plain_push ds _ ih (omega arith)) n h

signed_plain : (limit : ℕ) (minus : Bool) (z : ℤ) → limit ≤ largest_amount → Suits limit minus z → Plain (signed_decimal z) × (0 < length (signed_decimal z))
signed_plain limit minus (pos n) l h = (decimal-plain n (omega arith), decimal_nonempty n (omega arith))
signed_plain limit true (negsuc n) l h = ((omega arith, decimal-plain (suc n) (omega arith)), omega arith)
signed_plain limit false (negsuc n) l h = absurd h

count-plain : (t : Bool) (w s : List ℕ) → Plain w → 0 < length w → count t (w ++ s) ≡ count true s
count-plain t [] s h l = absurd (omega arith)
count-plain t (b ∷ w) s h l = ap (λ p. cond p (cond t 1 0 + count false (w ++ s)) (count true (w ++ s))) (inside b h.0) ∙ go w h.1
  where
    go : (w : List ℕ) → Plain w → count true (w ++ s) ≡ count true s
    go [] h = refl
    go (b ∷ w) h = ap (λ p. cond p (1 + count false (w ++ s)) (count true (w ++ s))) (inside b h.0) ∙ go w h.1

abbrev Same : List ℕ → Type 0
Same pattern = (vs : List ℤ) → Fits (pieces pattern) vs → (t : Bool) → count t (fill (pieces pattern) vs) ≡ count t pattern

number_same : (limit : ℕ) (minus : Bool) (pattern : List ℕ) (vs : List ℤ) (t : Bool) → limit ≤ largest_amount → Same pattern → Fits (number limit minus ∷ pieces pattern) vs
    → count t (fill (number limit minus ∷ pieces pattern) vs) ≡ count true pattern
number_same limit minus pattern [] t l same f = absurd f
number_same limit minus pattern (v ∷ vs) t l same f =
    let p = signed_plain limit minus v l f.0 in
    count-plain t (signed_decimal v) (fill (pieces pattern) vs) p.0 p.1 ∙ same vs f.1 true

same_count : (pattern : List ℕ) → Same pattern
same_count [] vs f t = refl
same_count (b ∷ pattern) vs f t = go (same_count pattern) (eqb b 35) (eqb b 37) refl refl f
  where
    within : (k : ℕ) → eqb b k ≡ true → parting k ≡ false → count true pattern ≡ count t (b ∷ pattern)
    within k e p = ap (λ q. cond q (cond t 1 0 + count false pattern) (count true pattern)) (sym (ap parting (eqb-true b k e) ∙ p))

    go : Same pattern → (s u : Bool) → eqb b 35 ≡ s → eqb b 37 ≡ u → Fits (cond s (number largest_count false) (cond u (number largest_amount true) (text b)) ∷ pieces pattern) vs
        → count t (fill (cond s (number largest_count false) (cond u (number largest_amount true) (text b)) ∷ pieces pattern) vs) ≡ count t (b ∷ pattern)
    go same true u p q f = number_same largest_count false pattern vs t (omega arith) same f ∙ within 35 p refl
    go same false true p q f = number_same largest_amount true pattern vs t (omega arith) same f ∙ within 37 q refl
    go same false false p q f = (λ i. cond (parting b) (cond t 1 0 + same vs f false i) (same vs f true i))

pub words_counted : (pattern : List ℕ) (vs : List ℤ) → Fits (pieces pattern) vs → length (spans (fill (pieces pattern) vs)) ≡ count false pattern
words_counted pattern vs f = spans_counted 0 0 (fill (pieces pattern) vs) (omega arith) ∙ same_count pattern vs f false

-- What each piece of a pattern does to a fault.
use Rattle.std.proofs.Common.{◌≡◌, ℕ, zero, suc, ◌+◌, ◌^◌, ◌<◌, ◌≤◌, Bool, true, false, ◌⊎◌, List, [], ◌∷◌, ◌++◌, length, get_or, take, drop, ℤ, pos, negsuc, decimal, sym, refl, ap, ◌∙◌, subst, inr, ⊎_elim, zero-le, arith}
use Rattle.std.specs.Fmt.{signed_decimal}
use Rattle.std.proofs.lemmas.Fmt.{first_decimal}
use Rattle.std.proofs.lemmas.List.{drop_more}
use Rattle.forms.specs.Faults.{Begins, Fault}
use Rattle.forms.specs.Patterns.{Piece, text, number, Suits, Fits, fill, Lines, Breaks}
use Rattle.forms.proofs.Faults.{onward, stuck}
use Rattle.forms.specs.Numbers.{Limit, first, Stands, GoesOn, NoDigit, Missing}
use Rattle.forms.proofs.Numbers.{first-digit, clash, munch_signed}

pub breaks : (ps : List Piece) (vs : List ℤ) → Breaks ps → (first (fill ps vs) < 48) ⊎ (58 ≤ first (fill ps vs))
breaks [] vs h = inr (omega arith)
breaks (text b ∷ ps) vs h = h
breaks (number limit minus ∷ ps) vs h = absurd h

same_first : (ds u : List ℕ) → first ds < 58 → first (ds ++ u) ≡ first ds
same_first [] u l = absurd (omega arith)
same_first (d ∷ ds) u l = refl

-- a number above 0 begins with a digit above 0
leads : (n : ℕ) → 0 < n → n < 2 ^ 64 → (49 ≤ first (decimal n)) × (first (decimal n) < 58)
leads n h small = (go (decimal n) (first_decimal n h small), (first-digit n small).1)
  where
    go : (ds : List ℕ) → 48 < get_or ds 0 0 → 49 ≤ first ds
    go [] l = absurd (omega arith)
    go (d ∷ ds) l = omega arith

-- every pattern has a line
abbrev pub zeros : List Piece → List ℤ
zeros [] = []
zeros (text b ∷ ps) = zeros ps
zeros (number limit minus ∷ ps) = pos 0 ∷ zeros ps

pub zeros_fit : (ps : List Piece) → Fits ps (zeros ps)
zeros_fit [] = tt
zeros_fit (text b ∷ ps) = zeros_fit ps
zeros_fit (number limit minus ∷ ps) = (zero-le, zeros_fit ps)

pub some_line : (ps : List Piece) → Lines ps (fill ps (zeros ps))
some_line ps = (zeros ps, zeros_fit ps, refl)

pub text_on : (b : ℕ) (ps : List Piece) (s : List ℕ) (n : ℕ) → Fault (Lines ps) s n → Fault (Lines (text b ∷ ps)) (b ∷ s) (1 + n)
text_on b ps s n f = onward (Lines (text b ∷ ps)) (Lines ps) (b ∷ []) s (λ u h. (h.0, h.1, ap (λ x. b ∷ x) h.2)) (λ u e h. (h.0, h.1, tail_of h.2)) n f
  where
    tail_of : {u w : List ℕ} → b ∷ u ≡ b ∷ w → u ≡ w
    tail_of e = cc

pub text_stops : (b : ℕ) (ps : List Piece) (s : List ℕ) → (first s ≡ b → ⊥) → Fault (Lines (text b ∷ ps)) s 0
text_stops b ps s h = stuck (Lines (text b ∷ ps)) [] s (_, some_line (text b ∷ ps)) (λ u e l. h (sym e ∙ ap first l.2))

module _ (limit : ℕ) (minus : Bool) (small : limit < 2 ^ 64) (ps : List Piece) where
  pub number_on : (z : ℤ) (s : List ℕ) (n : ℕ) → Breaks ps → Suits limit minus z → (GoesOn limit z (first s) → ⊥)
      → Fault (Lines ps) s n → Fault (Lines (number limit minus ∷ ps)) (signed_decimal z ++ s) (length (signed_decimal z) + n)
  number_on z s n br hz stops f = onward (Lines (number limit minus ∷ ps)) (Lines ps) (signed_decimal z) s
      (λ u h. (z ∷ h.0, (hz, h.1), ap (λ x. signed_decimal z ++ x) h.2))
      (λ u e h. down u e h.0 h.1 h.2) n f
    where
      down : (u : List ℕ) → first u ≡ first s → (vs : List ℤ) → Fits (number limit minus ∷ ps) vs → signed_decimal z ++ u ≡ fill (number limit minus ∷ ps) vs → Lines ps u
      down u e [] h eq = absurd h
      down u e (y ∷ vs) h eq = (vs, h.1, (munch_signed limit minus z y u (fill ps vs) small hz h.0 (λ g. stops (subst (GoesOn limit z) e g)) (breaks ps vs br) eq).1)

  -- neither a digit nor a minus
  pub number_stops : (s : List ℕ) → (first s < 48) ⊎ (58 ≤ first s) → (minus ≡ true → first s ≡ 45 → ⊥) → Fault (Lines (number limit minus ∷ ps)) s 0
  number_stops s h m = stuck (Lines (number limit minus ∷ ps)) [] s (_, some_line (number limit minus ∷ ps)) (λ u e l. no' minus m l.0 l.1 u e l.2)
    where
      no' : (minus : Bool) → (minus ≡ true → first s ≡ 45 → ⊥) → (vs : List ℤ) → Fits (number limit minus ∷ ps) vs → (u : List ℕ) → first u ≡ first s → u ≡ fill (number limit minus ∷ ps) vs → ⊥
      no' minus m [] f u e eq = f
      no' minus m (pos n ∷ vs) f u e eq =
          let g = first-digit n (omega (arith, f.0)) in
          let k : first (decimal n) ≡ first s = sym (same_first (decimal n) (fill ps vs) g.1) ∙ ap first (sym eq) ∙ e in
          ⊎_elim (λ l. omega (arith, g.0, k)) (λ l. omega (arith, g.1, k)) h
      no' true m (negsuc n ∷ vs) f u e eq = m refl (sym e ∙ ap first eq)
      no' false m (negsuc n ∷ vs) f u e eq = f.0

  -- a minus, and then neither 1 nor another digit above it
  pub minus_stops : (s : List ℕ) → minus ≡ true → 1 ≤ limit → (first s < 49) ⊎ (58 ≤ first s) → Fault (Lines (number limit minus ∷ ps)) (45 ∷ s) 1
  minus_stops s m one h = stuck (Lines (number limit minus ∷ ps)) (45 ∷ []) s (decimal 1 ++ fill ps (zeros ps), (negsuc 0 ∷ zeros ps, (rw m one, zeros_fit ps), refl))
      (λ u e l. no' minus l.0 l.1 u e l.2)
    where
      no' : (minus : Bool) → (vs : List ℤ) → Fits (number limit minus ∷ ps) vs → (u : List ℕ) → first u ≡ first s → 45 ∷ u ≡ fill (number limit minus ∷ ps) vs → ⊥
      no' minus [] f u e eq = f
      no' minus (pos n ∷ vs) f u e eq = clash n (fill ps vs) u (omega (arith, f.0)) (sym eq)
      no' true (negsuc n ∷ vs) f u e eq =
          let g = leads (suc n) (omega arith) (omega (arith, f.0)) in
          let t : u ≡ decimal (suc n) ++ fill ps vs = cc in
          let k : first (decimal (suc n)) ≡ first s = sym (same_first (decimal (suc n)) (fill ps vs) g.1) ∙ ap first (sym t) ∙ e in
          ⊎_elim (λ l. omega (arith, g.0, k)) (λ l. omega (arith, g.1, k)) h
      no' false (negsuc n ∷ vs) f u e eq = f.0

-- no number is at `at`, with no minus and with one
pub missing_plain : (limit : ℕ) (minus : Bool) (xs : List ℕ) (at : ℕ) → limit < 2 ^ 64 → NoDigit 48 (drop at xs) → (minus ≡ true → first (drop at xs) ≡ 45 → ⊥) → Missing limit minus xs at at
missing_plain limit minus xs at small h m = (0, omega arith, λ ps. number_stops limit minus small ps (drop at xs) h m)

pub missing_minus : (limit : ℕ) (xs : List ℕ) (at : ℕ) → Limit limit → Stands xs at 45 → NoDigit 49 (drop (at + 1) xs) → Missing limit true xs at (at + 1)
missing_minus limit xs at l here h =
    (1, refl, λ ps. rw (drop_more xs at 0 here.0, here.1) (minus_stops limit true (omega arith) ps (drop (at + 1) xs) refl (omega arith) h))

-- nothing is left of the pattern
pub end_stops : (b : ℕ) (s : List ℕ) → Fault (Lines []) (b ∷ s) 0
end_stops b s = record { none = λ h. no' h.2; within = zero-le; shared = ([], ([], tt, refl)); most = λ m h g. at m g }
  where
    no' : {x : ℕ} {xs : List ℕ} → x ∷ xs ≡ [] → ⊥
    no' e = cc

    at : (m : ℕ) → Begins (Lines []) (take m (b ∷ s)) → m ≤ 0
    at zero g = zero-le
    at (suc m) g = absurd (no' g.1.2)

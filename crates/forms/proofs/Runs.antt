-- The words of a line are its longest runs.
use Rattle.std.proofs.Common.{◌≡◌, ℕ, suc, ◌+◌, ◌-◌, ◌<◌, ◌≤◌, Bool, true, false, cond, ltb, ◌⊎◌, List, [], ◌∷◌, ◌++◌, length, get_or, drop, sym, refl, ap, ◌∙◌, subst, inl, inr, ⊎_elim, append-nil, zero-le, arith, length-drop, lt-ltb, ltb-true}
use native.Mathlib.Decide.{dec_le}
use Rattle.std.proofs.lemmas.List.{drop_more}
use Rattle.forms.specs.Words.{Span, parting, closed, spans_from, AllWords, Covers, Ascends, Runs}
use Rattle.forms.proofs.Numbers.{both_ways}

all_more : (line : List ℕ) (ws vs : List Span) → AllWords line ws → AllWords line vs → AllWords line (ws ++ vs)
all_more line [] vs h k = k
all_more line (w ∷ ws) vs h k = (h.0, all_more line ws vs h.1 k)

covers_left : (i : ℕ) (ws vs : List Span) → Covers i ws → Covers i (ws ++ vs)
covers_left i [] vs c = absurd c
covers_left i (w ∷ ws) vs c = ⊎_elim (λ h. inl h) (λ h. inr (covers_left i ws vs h)) c

covers_right : (i : ℕ) (ws vs : List Span) → Covers i vs → Covers i (ws ++ vs)
covers_right i [] vs c = c
covers_right i (w ∷ ws) vs c = inr (covers_right i ws vs c)

closed_some : (from to : ℕ) → from < to → closed from to ≡ record { from = from; to = to } ∷ []
closed_some from to h = let e = lt-ltb from to h in ap (λ b. cond b (record { from = from; to = to } ∷ []) []) e

covers_closed : (i from to : ℕ) → from ≤ i → i < to → Covers i (closed from to)
covers_closed i from to l h = subst (Covers i) (sym (closed_some from to (omega arith))) (inl (l, h))

ascends_closed : (n from to : ℕ) (vs : List Span) → n ≤ from → from ≤ to → ((k : ℕ) → k ≤ to → Ascends k vs) → Ascends n (closed from to ++ vs)
ascends_closed n from to vs l h next = go (ltb from to)
  where
    go : (t : Bool) → Ascends n (cond t (record { from = from; to = to } ∷ []) [] ++ vs)
    go true = (l, next to (omega arith))
    go false = next n (omega arith)

-- a word may go on at `at` that began at `from`
pub record Going (line : List ℕ) (from at : ℕ) : Type 0 where
  pub within : (from ≤ at) × (at ≤ length line)
  pub inside : (k : ℕ) → from ≤ k → k < at → parting (get_or line k 0) ≡ false
  pub before : (from ≡ 0) ⊎ (parting (get_or line (from - 1) 0) ≡ true)

module _ (line : List ℕ) where
  closed_word : (from at : ℕ) → Going line from at → (at ≡ length line) ⊎ (parting (get_or line at 0) ≡ true) → AllWords line (closed from at)
  closed_word from at g after = go (ltb from at) refl
    where
      go : (t : Bool) → ltb from at ≡ t → AllWords line (cond t (record { from = from; to = at } ∷ []) [])
      go true e = (record { some = ltb-true from at e; within = g.within.1; inside = g.inside; before = g.before; after = after }, tt)
      go false e = tt

  -- the place of the next byte
  pub next_at : (at b : ℕ) (s : List ℕ) → drop at line ≡ b ∷ s → (at < length line) × (get_or line at 0 ≡ b) × (drop (suc at) line ≡ s)
  next_at at b s e =
      let l : at < length line = omega (arith, ap length e, length-drop at line) in
      let d = drop_more line at 0 l in
      let n : at + 1 ≡ suc at = omega arith in
      let h : get_or line at 0 ≡ b = cc in
      let t : drop (at + 1) line ≡ s = cc in
      (l, h, ap (λ k. drop k line) (sym n) ∙ t)

  -- one begins at the start, and after a byte that parts two, and goes on over any other
  pub first : Going line 0 0
  first = record { within = (omega arith, zero-le); inside = λ k l u. absurd (omega arith); before = inl refl }

  pub begins : (at : ℕ) → at < length line → parting (get_or line at 0) ≡ true → Going line (suc at) (suc at)
  begins at l h =
      let k : suc at - 1 ≡ at = omega arith in
      record { within = (omega arith, omega arith); inside = λ j l u. absurd (omega arith); before = inr (ap (λ j. parting (get_or line j 0)) k ∙ h) }

  pub goes_on : (from at : ℕ) → at < length line → parting (get_or line at 0) ≡ false → Going line from at → Going line from (suc at)
  goes_on from at l p g = record {
    within = (omega (arith, g.within.0), omega arith);
    inside = λ j m u. elim (dec_le (suc j) at) [ yes v ↦ g.inside j m v | no v ↦ (let q : j ≡ at = omega arith in ap (λ x. parting (get_or line x 0)) q ∙ p) ];
    before = g.before;
  }

  runs : (s : List ℕ) (from at : ℕ) → drop at line ≡ s → Going line from at → AllWords line (spans_from from at s)
  runs [] from at e g = closed_word from at g (inl (omega (arith, ap length e, length-drop at line, g.within.1)))
  runs (b ∷ s) from at e g =
      let n = next_at at b s e in
      go (parting b) refl n (λ g'. runs s (suc at) (suc at) n.2 g') (λ g'. runs s from (suc at) n.2 g')
    where
      go : (t : Bool) → parting b ≡ t → (at < length line) × (get_or line at 0 ≡ b) × (drop (suc at) line ≡ s) → (Going line (suc at) (suc at) → AllWords line (spans_from (suc at) (suc at) s)) → (Going line from (suc at) → AllWords line (spans_from from (suc at) s))
          → AllWords line (cond t (closed from at ++ spans_from (suc at) (suc at) s) (spans_from from (suc at) s))
      go true p n fresh same =
          let h : parting (get_or line at 0) ≡ true = ap parting n.1 ∙ p in
          all_more line (closed from at) _ (closed_word from at g (inr h)) (fresh (begins at n.0 h))
      go false p n fresh same = same (goes_on from at n.0 (ap parting n.1 ∙ p) g)

  order : (s : List ℕ) (n from at : ℕ) → n ≤ from → from ≤ at → Ascends n (spans_from from at s)
  order [] n from at l h = subst (Ascends n) (append-nil (closed from at)) (ascends_closed n from at [] l h (λ k u. tt))
  order (b ∷ s) n from at l h = go (parting b) (λ k u. order s k (suc at) (suc at) (omega arith) (omega arith)) (order s n from (suc at) l (omega arith))
    where
      go : (t : Bool) → ((k : ℕ) → k ≤ at → Ascends k (spans_from (suc at) (suc at) s)) → Ascends n (spans_from from (suc at) s) → Ascends n (cond t (closed from at ++ spans_from (suc at) (suc at) s) (spans_from from (suc at) s))
      go true fresh same = ascends_closed n from at _ l h fresh
      go false fresh same = same

  whole : (s : List ℕ) (i from at : ℕ) → drop at line ≡ s → from ≤ i → i < length line → parting (get_or line i 0) ≡ false → Covers i (spans_from from at s)
  whole [] i from at e l h p = covers_closed i from at l (omega (arith, ap length e, length-drop at line))
  whole (b ∷ s) i from at e l h p = let n = next_at at b s e in go (parting b) refl n (λ u. whole s i (suc at) (suc at) n.2 u h p) (whole s i from (suc at) n.2 l h p)
    where
      go : (t : Bool) → parting b ≡ t → (at < length line) × (get_or line at 0 ≡ b) × (drop (suc at) line ≡ s) → (suc at ≤ i → Covers i (spans_from (suc at) (suc at) s)) → Covers i (spans_from from (suc at) s)
          → Covers i (cond t (closed from at ++ spans_from (suc at) (suc at) s) (spans_from from (suc at) s))
      go true q n fresh same = elim (dec_le (suc i) at) [
        | yes u ↦ covers_left i (closed from at) _ (covers_closed i from at l u)
        | no u ↦ elim (dec_le (suc at) i) [
          | yes v ↦ covers_right i (closed from at) _ (fresh v)
          | no v ↦ (let k : i ≡ at = omega arith in absurd (both_ways (parting b) q (sym (ap parting (ap (λ j. get_or line j 0) k ∙ n.1)) ∙ p)))
        ]
      ]
      go false q n fresh same = same

pub all_runs : (line : List ℕ) → Runs line
all_runs line = record {
  words = runs line line 0 0 refl (first line);
  order = order line line 0 0 0 (omega arith) (omega arith);
  whole = λ i l p. whole line line i 0 0 refl zero-le l p;
}

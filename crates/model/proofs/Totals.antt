-- Sums over entries, and lists changed by the entries of a batch.
use Rattle.std.proofs.Common.{◌≡◌, ℕ, ◌<◌, Bool, true, false, cond, ◌&&◌, eqb, ◌≢◌, List, [], ◌∷◌, length, get_or, ℤ, pos, ◌+ℤ◌, ◌≤ℤ◌, sym, refl, ap, ◌∙◌, subst, arith, length-set, get_or-set_other, get_or-set_same}
use lib.IntN.{+ℤ_idr}
use Rattle.std.proofs.lemmas.Int.{ints}
use Rattle.std.proofs.lemmas.Bool.{eqb-true, eqb-false}
use Rattle.model.specs.Journal.{Entry, wipe, each_of, total, only}
use Rattle.model.specs.Ledger.{touch}

pub total_cong : (f g : Entry → ℤ) → ((r : Entry) → f r ≡ g r) → (rs : List Entry) → total f rs ≡ total g rs
total_cong f g h [] = refl
total_cong f g h (r ∷ rs) = let e = h r in let i = total_cong f g h rs in cc

pub total_le : (f g : Entry → ℤ) → ((r : Entry) → f r ≤ℤ g r) → (rs : List Entry) → total f rs ≤ℤ total g rs
total_le f g h [] = omega (arith, ints)
total_le f g h (r ∷ rs) = let x = h r in let i = total_le f g h rs in omega (arith, ints)

-- ---- one element changed

module _ {A : Type 0} (f : A → ℤ → A) (z : A) where
  pub length-touch : (b : ℕ) (d : ℤ) (xs : List A) → length (touch f z b d xs) ≡ length xs
  length-touch b d xs = length-set xs b (f (get_or xs b z) d)

  pub length_each : (n : ℕ) (rs : List Entry) (xs : List A) → length (each_of f z n rs xs) ≡ length xs
  length_each n [] xs = refl
  length_each n (r ∷ rs) xs = go (eqb r.batch n) (length_each n rs xs)
    where
      go : (t : Bool) → length (each_of f z n rs xs) ≡ length xs → length (cond t (touch f z r.bin r.amount (each_of f z n rs xs)) (each_of f z n rs xs)) ≡ length xs
      go true ih = length-touch r.bin r.amount (each_of f z n rs xs) ∙ ih
      go false ih = ih

  module _ (π : A → ℤ) (u : ℤ → ℤ) (π-f : (x : A) (d : ℤ) → π (f x d) ≡ π x +ℤ u d) where
    pub touch-at :
        (b : ℕ) (d : ℤ) (xs : List A) (j : ℕ) → j < length xs → π (get_or (touch f z b d xs) j z) ≡ π (get_or xs j z) +ℤ only (eqb b j) (u d)
    touch-at b d xs j h = go (eqb b j) refl
      where
        go : (t : Bool) → eqb b j ≡ t → π (get_or (touch f z b d xs) j z) ≡ π (get_or xs j z) +ℤ only t (u d)
        go true e =
            let same : b ≡ j = eqb-true b j e in
            let at : get_or (touch f z j d xs) j z ≡ f (get_or xs j z) d = get_or-set_same xs j (f (get_or xs j z) d) z h in
            subst (λ (i : ℕ). π (get_or (touch f z i d xs) j z) ≡ π (get_or xs j z) +ℤ u d) (sym same) (ap π at ∙ π-f (get_or xs j z) d)
        go false e =
            let ne : j ≢ b = λ q. eqb-false b j e (sym q) in
            ap π (get_or-set_other xs b j (f (get_or xs b z) d) z ne) ∙ sym (+ℤ_idr (π (get_or xs j z)))

    pub each_at :
        (n : ℕ) (rs : List Entry) (xs : List A) (j : ℕ) → j < length xs
        → π (get_or (each_of f z n rs xs) j z) ≡ π (get_or xs j z) +ℤ total (λ r. only (eqb r.bin j && eqb r.batch n) (u r.amount)) rs
    each_at n [] xs j h = sym (+ℤ_idr (π (get_or xs j z)))
    each_at n (r ∷ rs) xs j h = go (eqb r.batch n) (eqb r.bin j) refl (each_at n rs xs j h)
      where
        rest : List A
        rest = each_of f z n rs xs

        sum : ℤ
        sum = total (λ r. only (eqb r.bin j && eqb r.batch n) (u r.amount)) rs

        before : ℤ
        before = π (get_or xs j z)

        go : (t q : Bool) → eqb r.bin j ≡ q → π (get_or rest j z) ≡ before +ℤ sum
            → π (get_or (cond t (touch f z r.bin r.amount rest) rest) j z) ≡ before +ℤ (only (q && t) (u r.amount) +ℤ sum)
        go true q e ih =
            let long : j < length rest = subst (λ m. j < m) (sym (length_each n rs xs)) h in
            let there = touch-at r.bin r.amount rest j long in
            let there' : π (get_or (touch f z r.bin r.amount rest) j z) ≡ π (get_or rest j z) +ℤ only q (u r.amount) = subst (λ (t : Bool). π (get_or (touch f z r.bin r.amount rest) j z) ≡ π (get_or rest j z) +ℤ only t (u r.amount)) e there in
            more q there'
          where
            more : (q : Bool) → π (get_or (touch f z r.bin r.amount rest) j z) ≡ π (get_or rest j z) +ℤ only q (u r.amount) → π (get_or (touch f z r.bin r.amount rest) j z) ≡ before +ℤ (only (q && true) (u r.amount) +ℤ sum)
            more true y = omega (arith, ints)
            more false y = omega (arith, ints)
        go false true e ih = omega (arith, ints)
        go false false e ih = omega (arith, ints)

-- ---- the entries of one batch in one bin

abbrev pub of_batch : ℕ → ℕ → (ℤ → ℤ) → Entry → ℤ
of_batch j n u r = only (eqb r.bin j && eqb r.batch n) (u r.amount)

pub of_zero : (j n : ℕ) (rs : List Entry) → total (of_batch j n (λ d. pos 0)) rs ≡ pos 0
of_zero j n [] = refl
of_zero j n (r ∷ rs) = go (eqb r.bin j && eqb r.batch n) (of_zero j n rs)
  where
    go : (t : Bool) → total (of_batch j n (λ d. pos 0)) rs ≡ pos 0 → only t (pos 0) +ℤ total (of_batch j n (λ d. pos 0)) rs ≡ pos 0
    go true ih = omega (arith, ints)
    go false ih = omega (arith, ints)

pub of_split : (j n : ℕ) (u : ℤ → ℤ) (rs : List Entry)
    → total (λ r. only (eqb r.bin j) (u r.amount)) (wipe n rs) +ℤ total (of_batch j n u) rs ≡ total (λ r. only (eqb r.bin j) (u r.amount)) rs
of_split j n u [] = refl
of_split j n u (r ∷ rs) = go (eqb r.bin j) (eqb r.batch n) refl (of_split j n u rs)
  where
    f : Entry → ℤ
    f r = only (eqb r.bin j) (u r.amount)

    go : (t q : Bool) → eqb r.bin j ≡ t → total f (wipe n rs) +ℤ total (of_batch j n u) rs ≡ total f rs
        → total f (cond q (wipe n rs) (r ∷ wipe n rs)) +ℤ (only (t && q) (u r.amount) +ℤ total (of_batch j n u) rs) ≡ only t (u r.amount) +ℤ total f rs
    go true true e ih = omega (arith, ints)
    go true false e ih = rw e (omega (arith, ints))
    go false true e ih = omega (arith, ints)
    go false false e ih = rw e (omega (arith, ints))

pub of_add : (j n : ℕ) (u v x : ℤ → ℤ) → ((d : ℤ) → u d +ℤ v d ≡ x d) → (rs : List Entry)
    → total (of_batch j n u) rs +ℤ total (of_batch j n v) rs ≡ total (of_batch j n x) rs
of_add j n u v x e [] = refl
of_add j n u v x e (r ∷ rs) = go (eqb r.bin j && eqb r.batch n) (e r.amount) (of_add j n u v x e rs)
  where
    go : (t : Bool) → u r.amount +ℤ v r.amount ≡ x r.amount → total (of_batch j n u) rs +ℤ total (of_batch j n v) rs ≡ total (of_batch j n x) rs
        → (only t (u r.amount) +ℤ total (of_batch j n u) rs) +ℤ (only t (v r.amount) +ℤ total (of_batch j n v) rs) ≡ only t (x r.amount) +ℤ total (of_batch j n x) rs
    go true q ih = omega (arith, ints)
    go false q ih = omega (arith, ints)

pub of_pos : (j n : ℕ) (u : ℤ → ℤ) → ((d : ℤ) → pos 0 ≤ℤ u d) → (rs : List Entry) → pos 0 ≤ℤ total (of_batch j n u) rs
of_pos j n u h [] = omega (arith, ints)
of_pos j n u h (r ∷ rs) = go (eqb r.bin j && eqb r.batch n) (h r.amount) (of_pos j n u h rs)
  where
    go : (t : Bool) → pos 0 ≤ℤ u r.amount → pos 0 ≤ℤ total (of_batch j n u) rs → pos 0 ≤ℤ (only t (u r.amount) +ℤ total (of_batch j n u) rs)
    go true q ih = omega (arith, ints)
    go false q ih = omega (arith, ints)

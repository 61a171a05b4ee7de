-- The least and the greatest ending of a bin, and the endings that reach them.
use Rattle.std.proofs.Common.{◌≡◌, ℕ, Bool, true, false, cond, ◌&&◌, eqb, List, [], ◌∷◌, ℤ, pos, ◌+ℤ◌, ◌≤ℤ◌, refl, ap, subst, arith}
use lib.Signed.{lt_z}
use Rattle.std.proofs.lemmas.Int.{ints}
use Rattle.std.proofs.lemmas.Bool.{eqb-true, or_parts, eq-eqb}
use Rattle.model.specs.Journal.{Entry, total, only}
use Rattle.model.specs.Ledger.{low, high}
use Rattle.model.proofs.Listed.{holds}
use Rattle.model.proofs.Totals.{total_le}
use Rattle.model.proofs.Clash.{no_way}

-- an entry's share in bin b
abbrev pub share : ℕ → (ℤ → ℤ) → Entry → ℤ
share b u r = only (eqb r.bin b) (u r.amount)

-- an entry's share in bin b if its batch is kept
abbrev pub kept_share : ℕ → (ℕ → Bool) → Entry → ℤ
kept_share b keeps r = only (eqb r.bin b && keeps r.batch) r.amount

abbrev pub whole : ℤ → ℤ
whole d = d

abbrev pub Apart : List Entry → Type 0
Apart [] = Unit {0}
Apart (r ∷ rs) = (holds r.bin r.batch rs ≡ false) × Apart rs

low_kept : (t k : Bool) (d : ℤ) → only t (low d) ≤ℤ only (t && k) d
low_kept true k d = go (lt_z d (pos 0)) refl k
  where
    go : (s : Bool) → lt_z d (pos 0) ≡ s → (k : Bool) → cond s d (pos 0) ≤ℤ only k d
    go true e true = omega (arith, ints)
    go true e false = omega (arith, ints)
    go false e true = omega (arith, ints)
    go false e false = omega (arith, ints)
low_kept false k d = omega (arith, ints)

kept_high : (t k : Bool) (d : ℤ) → only (t && k) d ≤ℤ only t (high d)
kept_high true k d = go (lt_z d (pos 0)) refl k
  where
    go : (s : Bool) → lt_z d (pos 0) ≡ s → (k : Bool) → only k d ≤ℤ cond s (pos 0) d
    go true e true = omega (arith, ints)
    go true e false = omega (arith, ints)
    go false e true = omega (arith, ints)
    go false e false = omega (arith, ints)
kept_high false k d = omega (arith, ints)

pub least : (b : ℕ) (keeps : ℕ → Bool) (rs : List Entry) → total (share b low) rs ≤ℤ total (kept_share b keeps) rs
least b keeps = total_le (share b low) (kept_share b keeps) (λ r. low_kept (eqb r.bin b) (keeps r.batch) r.amount)

pub greatest : (b : ℕ) (keeps : ℕ → Bool) (rs : List Entry) → total (kept_share b keeps) rs ≤ℤ total (share b high) rs
greatest b keeps = total_le (kept_share b keeps) (share b high) (λ r. kept_high (eqb r.bin b) (keeps r.batch) r.amount)

-- keeps the batches whose entry in bin b passes the test p
abbrev pub pick : (ℤ → Bool) → ℕ → List Entry → ℕ → Bool
pick p b [] k = false
pick p b (r ∷ rs) k = cond (eqb r.bin b && eqb k r.batch) (p r.amount) (pick p b rs k)

-- a batch with no entry in the bin may be kept or not
pub free_choice : (b n : ℕ) (v : Bool) (k : ℕ → Bool) (rs : List Entry) → holds b n rs ≡ false
    → total (kept_share b (λ m. cond (eqb m n) v (k m))) rs ≡ total (kept_share b k) rs
free_choice b n v k [] h = refl
free_choice b n v k (r ∷ rs) h =
    let parts = or_parts (eqb r.bin b && eqb r.batch n) (holds b n rs) h in
    go (eqb r.bin b) (eqb r.batch n) parts.0 (free_choice b n v k rs parts.1)
  where
    go : (s t : Bool) → (s && t) ≡ false → total (kept_share b (λ m. cond (eqb m n) v (k m))) rs ≡ total (kept_share b k) rs
        → only (s && cond t v (k r.batch)) r.amount +ℤ total (kept_share b (λ m. cond (eqb m n) v (k m))) rs ≡ only (s && k r.batch) r.amount +ℤ total (kept_share b k) rs
    go true true e ih = no_way cc
    go true false e ih = ap (λ x. only (k r.batch) r.amount +ℤ x) ih
    go false t e ih = ap (λ x. pos 0 +ℤ x) ih

pub reached : (p : ℤ → Bool) (b : ℕ) (rs : List Entry) → Apart rs
    → total (kept_share b (pick p b rs)) rs ≡ total (share b (λ d. only (p d) d)) rs
reached p b [] a = refl
reached p b (r ∷ rs) a = go (eqb r.bin b) refl (reached p b rs a.1)
  where
    go : (t : Bool) → eqb r.bin b ≡ t → total (kept_share b (pick p b rs)) rs ≡ total (share b (λ d. only (p d) d)) rs
        → only (t && cond (t && eqb r.batch r.batch) (p r.amount) (pick p b rs r.batch)) r.amount
        +ℤ total (kept_share b (λ m. cond (t && eqb m r.batch) (p r.amount) (pick p b rs m))) rs
        ≡ only t (only (p r.amount) r.amount) +ℤ total (share b (λ d. only (p d) d)) rs
    go true e ih =
        let none : holds b r.batch rs ≡ false = subst (λ (x : ℕ). holds x r.batch rs ≡ false) (eqb-true r.bin b e) a.0 in
        let same = free_choice b r.batch (p r.amount) (pick p b rs) rs none in
        let self = eq-eqb r.batch r.batch refl in
        rw (self, same, ih)
    go false e ih = ap (λ x. pos 0 +ℤ x) ih

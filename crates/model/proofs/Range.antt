-- Every figure stays within the limit, and so every sum within twice the limit.
use Rattle.std.proofs.Common.{◌≡◌, ℕ, ◌*◌, ◌<◌, true, false, length, ℤ, pos, ◌+ℤ◌, neg_ℤ, ◌≤ℤ◌, arith}
use lib.Signed.{lt_z, le_z}
use Rattle.std.proofs.lemmas.Int.{ints}
use Rattle.std.proofs.lemmas.Bool.{or_parts, or_from, and_from}
use Rattle.amount.specs.Range.{inside}
use Rattle.shelf.specs.Contents.{Figures}
use Rattle.model.specs.Journal.{Journal, base_at}
use Rattle.model.specs.Ledger.{bin_at, over}
use Rattle.model.proofs.Link.{Link}
use Rattle.model.proofs.Listed.{Listed}
use Rattle.model.proofs.Step.{not_lt}
use Rattle.model.proofs.Verdicts.{le_to, inf_least, sup_greatest, val_is}

pub not_lt_to : (a b : ℤ) → b ≤ℤ a → lt_z a b ≡ false
not_lt_to a b h = grind (arith, ints)

pub between : (lim : ℕ) (m x z : ℤ) → over lim m ≡ false → over lim x ≡ false → m ≤ℤ z → z ≤ℤ x → over lim z ≡ false
between lim m x z o₁ o₂ h k =
    let p = or_parts (lt_z m (neg_ℤ (pos lim))) (lt_z (pos lim) m) o₁ in
    let q = or_parts (lt_z x (neg_ℤ (pos lim))) (lt_z (pos lim) x) o₂ in
    or_from (lt_z z (neg_ℤ (pos lim))) (lt_z (pos lim) z) (not_lt_to z (neg_ℤ (pos lim)) (omega (arith, ints))) (not_lt_to (pos lim) z (omega (arith, ints)))

-- what is not over the limit lies between its opposite and it
pub bounds : (lim : ℕ) (z : ℤ) → over lim z ≡ false → (neg_ℤ (pos lim) ≤ℤ z) × (z ≤ℤ pos lim)
bounds lim z o = let p = or_parts (lt_z z (neg_ℤ (pos lim))) (lt_z (pos lim) z) o in (not_lt p.0, not_lt p.1)

inside_from : (bound : ℕ) (z : ℤ) → neg_ℤ (pos bound) ≤ℤ z → z ≤ℤ pos bound → inside bound z ≡ true
inside_from bound z h k = and_from (le_z (neg_ℤ (pos bound)) z) (le_z z (pos bound)) (le_to h) (le_to k)

-- an amount within the limit is within twice the limit
pub once : (lim : ℕ) (a : ℤ) → over lim a ≡ false → inside (2 * lim) a ≡ true
once lim a o =
    let p = bounds lim a o in
    let h = p.0 in
    let k = p.1 in
    inside_from (2 * lim) a (omega (arith, ints)) (omega (arith, ints))

-- a sum of two amounts within the limit is within twice the limit
pub twice : (lim : ℕ) (a d : ℤ) → over lim a ≡ false → over lim d ≡ false → inside (2 * lim) (a +ℤ d) ≡ true
twice lim a d o₁ o₂ =
    let p = bounds lim a o₁ in
    let q = bounds lim d o₂ in
    let h₁ = p.0 in
    let h₂ = p.1 in
    let k₁ = q.0 in
    let k₂ = q.1 in
    inside_from (2 * lim) (a +ℤ d) (omega (arith, ints)) (omega (arith, ints))

-- the three figures lie within the limit
abbrev pub Fits : ℕ → Figures → Type 0
Fits lim x = (over lim x.inf ≡ false) × (over lim x.val ≡ false) × (over lim x.sup ≡ false)

pub figures_fit : (s : Listed) (w : Journal) → Link s w → (b : ℕ) → b < length w.bases
    → Fits s.house.limit (bin_at s.bins b)
figures_fit s w l b h =
    let f = l.figs b h in
    let wd = l.wide b h in
    let lo = f.above in
    let hi = f.below in
    let v = val_is s w l b h in
    let a₁ = inf_least s w l b h (λ k. true) in
    let a₂ = sup_greatest s w l b h (λ k. true) in
    let le : (base_at w.bases b).floor ≤ℤ (bin_at s.bins b).val = omega (arith, ints) in
    let ge : (bin_at s.bins b).val ≤ℤ (base_at w.bases b).ceiling = omega (arith, ints) in
    let lo' : (bin_at s.bins b).inf ≤ℤ (base_at w.bases b).ceiling = omega (arith, ints) in
    let hi' : (base_at w.bases b).floor ≤ℤ (bin_at s.bins b).sup = omega (arith, ints) in
    (between _ _ _ _ wd.0 wd.1 lo lo', between _ _ _ _ wd.0 wd.1 le ge, between _ _ _ _ wd.0 wd.1 hi' hi)

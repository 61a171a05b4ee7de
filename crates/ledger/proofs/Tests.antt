-- The tests of the code as the reference ledger writes them.
use Rattle.std.proofs.Common.{◌≡◌, ℕ, Bool, true, false, not, ◌&&◌, ◌||◌, ltb, leb, ℤ, pos, negsuc, neg_ℤ, refl, arith}
use lib.Signed.{lt_z, le_z}
use Rattle.amount.specs.Range.{inside}
use Rattle.ledger.specs.Working.{over_limit}

not_leb : (a b : ℕ) → leb a b ≡ not (ltb b a)
not_leb a b = grind arith

le_not : (a b : ℤ) → le_z a b ≡ not (lt_z b a)
le_not (pos a) (pos b) = not_leb a b
le_not (pos a) (negsuc b) = refl
le_not (negsuc a) (pos b) = refl
le_not (negsuc a) (negsuc b) = not_leb b a

neither : (s t : Bool) → not (not s && not t) ≡ (s || t)
neither true t = refl
neither false true = refl
neither false false = refl

-- an amount is over the limit where it is not within
pub over_is : (l : ℕ) (d : ℤ) → not (inside l d) ≡ over_limit l d
unfolding over_limit
over_is l d = rw (le_not (neg_ℤ (pos l)) d, le_not d (pos l)) (neither (lt_z d (neg_ℤ (pos l))) (lt_z (pos l) d))

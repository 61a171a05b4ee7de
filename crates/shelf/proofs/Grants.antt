-- Lists of grants: what one grant more makes of them.
use Rattle.std.proofs.Common.{◌≡◌, ℕ, ◌+◌, Bool, false, cond, not, ◌&&◌, ◌||◌, ltb, List, [], ◌∷◌, ◌++◌, length, ℤ, Some, refl, arith}
use Rattle.std.proofs.lemmas.Bool.Decides.{nat_tests}
use Rattle.std.specs.List.{list_any}
use Rattle.shelf.specs.declared.records.Grant.{Grant}
use Rattle.shelf.specs.Flat.{is_of, granted, apart, placed_in}

module _ {A : Type 0} (g : Grant A) (b : List (Grant A)) where
  length-among : (a : List (Grant A)) → length (a ++ g ∷ b) ≡ length (a ++ b) + 1
  length-among [] = omega arith
  length-among (x ∷ a) = omega (arith, length-among a)

  any-among : (p : Grant A → Bool) (a : List (Grant A)) → list_any p (a ++ g ∷ b) ≡ (p g || list_any p (a ++ b))
  any-among p [] = refl
  any-among p (x ∷ a) = grind (arith, any-among p a)

  placed_in-among : (m : ℕ) (a : List (Grant A)) → placed_in m (a ++ g ∷ b) ≡ (ltb g.bin m && placed_in m (a ++ b))
  placed_in-among m [] = refl
  placed_in-among m (x ∷ a) = grind (arith, placed_in-among m a)

  apart-among : (a : List (Grant A)) → apart (a ++ g ∷ b) ≡ (not (list_any (is_of g.bin g.batch) (a ++ b)) && apart (a ++ b))
  apart-among [] = refl
  apart-among (x ∷ a) = grind (arith, nat_tests, apart-among a, any-among (is_of x.bin x.batch) a)

  granted-among : (f : A → ℤ) (a : List (Grant A)) (c k : ℕ) → list_any (is_of g.bin g.batch) (a ++ b) ≡ false
      → granted f (a ++ g ∷ b) c k ≡ cond (is_of c k g) (Some (f g.amount)) (granted f (a ++ b) c k)
  granted-among f [] c k h = grind arith
  granted-among f (x ∷ a) c k h = grind (arith, nat_tests, granted-among f a c k)

-- the grants of hs are those of gs and g, which stands among them
pub record Adds {A : Type 0} (g : Grant A) (gs hs : List (Grant A)) : Type 0 where
  pub before : List (Grant A)
  pub after : List (Grant A)
  pub without : gs ≡ before ++ after
  pub with_it : hs ≡ before ++ g ∷ after

module _ {A : Type 0} (g : Grant A) (gs hs : List (Grant A)) (w : Adds g gs hs) where
  pub length-adds : length hs ≡ length gs + 1
  length-adds = grind (arith, length-among g w.after w.before)

  pub placed_in-adds : (m : ℕ) → placed_in m hs ≡ (ltb g.bin m && placed_in m gs)
  placed_in-adds m = grind (arith, placed_in-among g w.after m w.before)

  pub apart-adds : apart hs ≡ (not (list_any (is_of g.bin g.batch) gs) && apart gs)
  apart-adds = grind (arith, apart-among g w.after w.before)

  pub granted-adds : (f : A → ℤ) (c k : ℕ) → list_any (is_of g.bin g.batch) gs ≡ false → granted f hs c k ≡ cond (is_of c k g) (Some (f g.amount)) (granted f gs c k)
  granted-adds f c k h = grind (arith, granted-among g w.after f w.before c k)

-- Every flat shelf is sound: it keeps within its capacities, and grants only where it counts grants and has bins.
use Rattle.std.specs.Prelude.{◌≡◌, ℕ, ◌<◌, ◌≤◌, true, List, [], ◌∷◌, length, take, ℤ, is_some, Some, None, Option, refl}
use Rattle.std.proofs.Common.{◌∙◌, arith}
use Rattle.std.proofs.lemmas.Bool.Decides.{nat_tests}
use Rattle.std.proofs.lemmas.List.{length-map, length-take-le}
use Rattle.shelf.specs.declared.records.Grant.{Grant}
use Rattle.shelf.specs.declared.flat.FlatShelf.{FlatShelf}
use Rattle.shelf.specs.Contents.{Sound}
use Rattle.shelf.specs.Bins.{figures}
use Rattle.shelf.specs.Flat.{grants_in, granted, placed_in}
use Rattle.shelf.specs.FlatMeaning.{flat_meaning}

module _ {A : Type 0} where
  pub grants_fit : (xs : List (Option (Grant A))) → length (grants_in xs) ≤ length xs
  grants_fit [] = omega arith
  grants_fit (None ∷ xs) = omega (arith, grants_fit xs)
  grants_fit (Some g ∷ xs) = omega (arith, grants_fit xs)

  none_granted : (f : A → ℤ) (gs : List (Grant A)) (b k : ℕ) → length gs ≡ 0 → granted f gs b k ≡ None
  none_granted f [] b k h = refl
  none_granted f (g ∷ gs) b k h = absurd (omega arith)

  in_place : (f : A → ℤ) (m : ℕ) (gs : List (Grant A)) (b k : ℕ) → placed_in m gs ≡ true → is_some (granted f gs b k) ≡ true → b < m
  in_place f m [] b k p e = absurd (cc)
  in_place f m (g ∷ gs) b k p e = grind (arith, nat_tests, in_place f m gs b k)

  pub flat_sound : (f : A → ℤ) (s : FlatShelf A) → Sound (flat_meaning f s)
  flat_sound f s = record {
    bins_fit = let e = length-map (take s.bins_used s.bins.now) (figures f) ∙ length-take-le s.bins_used s.bins.now s.fits in let h = s.fits in omega (arith, e);
    grants_fit = omega (arith, grants_fit s.grants.now, s.counted);
    none_held = λ h b k. none_granted f (grants_in s.grants.now) b k (s.counted ∙ h);
    in_place = λ b k e. in_place f (length s.bins.now) (grants_in s.grants.now) b k s.placed e;
  }

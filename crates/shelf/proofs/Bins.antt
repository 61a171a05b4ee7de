-- The bins of a flat shelf by the numbers that they mean: the one numbered i, and what a write makes of them.
use Rattle.std.proofs.Common.{◌≡◌, ℕ, zero, suc, ◌≤◌, List, [], ◌∷◌, map, length, take, set, ℤ, Some, None, refl, ap, ◌∙◌, arith}
use Rattle.std.proofs.lemmas.List.{length-map, length-take-le, length-set, take_more_set, map_push}
use Rattle.std.proofs.lemmas.Bool.Decides.{nat_tests}
use Rattle.std.proofs.lemmas.Grind.{common_steps}
use Rattle.std.proofs.lemmas.Option.{gets, slice_get-map}
use Rattle.shelf.specs.declared.records.Bin.{Bin}
use Rattle.shelf.specs.Contents.{Figures, nth, change_at}
use Rattle.shelf.specs.Bins.{figures}

module _ {A : Type 0} (f : A → ℤ) where
  pub length-bins : (bs : List (Bin A)) (n : ℕ) → n ≤ length bs → length (map (figures f) (take n bs)) ≡ n
  length-bins bs n h = length-map (take n bs) (figures f) ∙ length-take-le n bs h

  pub bins-set : (F : Figures → Figures) (o : Figures) (y : Bin A) (bs : List (Bin A)) (n i : ℕ) → nth (map (figures f) (take n bs)) i ≡ Some o → figures f y ≡ F o → map (figures f) (take n (set bs i y)) ≡ change_at F (map (figures f) (take n bs)) i
  bins-set F o y bs zero i h e = absurd (cc)
  bins-set F o y [] (suc n) i h e = absurd (cc)
  bins-set F o y (b ∷ bs) (suc n) zero h e = ap (λ z. z ∷ map (figures f) (take n bs)) (e ∙ ap F (cc))
  bins-set F o y (b ∷ bs) (suc n) (suc i) h e = ap (λ t. figures f b ∷ t) (bins-set F o y bs n i h e)

pub change_at-past : (F : Figures → Figures) (xs : List Figures) (i : ℕ) → nth xs i ≡ None → change_at F xs i ≡ xs
change_at-past F [] i h = refl
change_at-past F (x ∷ xs) zero h = absurd (cc)
change_at-past F (x ∷ xs) (suc i) h = ap (λ t. x ∷ t) (change_at-past F xs i h)

-- ---- what the methods' goals need

pub ruleset bins_used = (length-bins)

pub ruleset bin_read = (common_steps, gets, slice_get-map)

pub ruleset bin_added = (nat_tests, length-bins, length-set, take_more_set, map_push)

pub ruleset bin_set = (nat_tests, gets, length-bins, length-set, bins-set, change_at-past)

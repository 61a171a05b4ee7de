-- Whether another batch holds a grant in a bin of a flat shelf: a grant of another batch is one in the meaning.
use Rattle.std.specs.Prelude.{◌≡◌, ℕ, zero, suc, Bool, true, false, not, List, [], ◌∷◌, ℤ, is_some, Some, None, Option, option_map, Decides, ◌==◌, slice_index_or, find, refl}
use Rattle.std.specs.List.{list_any}
use Rattle.std.proofs.Common.{sym, ◌∙◌, arith}
use Rattle.std.proofs.lemmas.Bool.{and_parts, and_from, eq-eqb, not-true}
use Rattle.std.proofs.lemmas.Bool.Decides.{nat_tests}
use Rattle.std.proofs.lemmas.List.Folds.{Any-from_list_any, list_any-from_Any}
use Rattle.shelf.specs.declared.records.Grant.{Grant}
use Rattle.shelf.specs.declared.flat.FlatShelf.{FlatShelf}
use Rattle.shelf.specs.Contents.{Another}
use Rattle.shelf.specs.Flat.{is_of, is_other, hit, grants_in, granted}
use Rattle.shelf.specs.FlatMeaning.{flat_meaning}

-- a search finds something where some element passes
pub is_some-find : {X Y : Type 0} (h : X → Y) (p : X → Bool) (xs : List X) → is_some (option_map h (find p xs)) ≡ list_any p xs
is_some-find h p [] = refl
is_some-find h p (x ∷ xs) = grind (arith, is_some-find h p xs)

-- what passes p passes q
any_more : {X : Type 0} (p q : X → Bool) (xs : List X) → ((x : X) → p x ≡ true → q x ≡ true) → list_any p xs ≡ true → list_any q xs ≡ true
any_more p q xs more h = let a = Any-from_list_any p xs h in list_any-from_Any q xs (a.0, a.1, a.2, a.3, more a.1 a.4)

module _ {A : Type 0} (f : A → ℤ) (b k : ℕ) (gs : List (Grant A)) where
  other_there : list_any (is_other b k) gs ≡ true → (j : ℕ) × (((j == k) ≡ false) × (is_some (granted f gs b j) ≡ true))
  other_there h =
      let a = Any-from_list_any (is_other b k) gs h in
      let parts = and_parts (a.1.bin == b) (not (a.1.batch == k)) a.4 in
      let own = and_from (a.1.bin == b) (a.1.batch == a.1.batch) parts.0 (eq-eqb _ _ refl) in
      (a.1.batch, (not-true _ parts.1, is_some-find _ (is_of b a.1.batch) gs ∙ list_any-from_Any (is_of b a.1.batch) gs (a.0, a.1, a.2, a.3, own)))

  other_seen : (j : ℕ) → (j == k) ≡ false → is_some (granted f gs b j) ≡ true → list_any (is_other b k) gs ≡ true
  other_seen j e h = any_more (is_of b j) (is_other b k) gs (λ g t. grind (arith, nat_tests)) (sym (is_some-find _ (is_of b j) gs) ∙ h)

  -- among any grants: is some other batch than k granted anything in bin b?
  pub others_decided : Decides (list_any (is_other b k) gs) ((j : ℕ) × (((j == k) ≡ false) × (is_some (granted f gs b j) ≡ true)))
  others_decided = (other_there, λ r. other_seen r.0 r.1.0 r.1.1)

-- what a place holds is granted
pub some_hit : {A : Type 0} (f : A → ℤ) (b k : ℕ) (xs : List (Option (Grant A))) (i : ℕ) → hit b k (slice_index_or xs i None) ≡ true → is_some (granted f (grants_in xs) b k) ≡ true
some_hit {A} f b k xs i h = is_some-find _ (is_of b k) (grants_in xs) ∙ seen xs i h
  where
    seen : (xs : List (Option (Grant A))) (i : ℕ) → hit b k (slice_index_or xs i None) ≡ true → list_any (is_of b k) (grants_in xs) ≡ true
    seen [] i h = absurd (cc)
    seen (None ∷ xs) zero h = absurd (cc)
    seen (None ∷ xs) (suc i) h = seen xs i h
    seen (Some g ∷ xs) zero h = grind (arith, nat_tests)
    seen (Some g ∷ xs) (suc i) h = grind (arith, nat_tests, seen xs i h)

abbrev pub flat_others : {A : Type 0} → FlatShelf A → ℕ → ℕ → Bool
flat_others s b k = list_any (is_other b k) (grants_in s.grants.now)

pub flat_others_decided : {A : Type 0} (f : A → ℤ) (s : FlatShelf A) (b k : ℕ) → Decides (flat_others s b k) (Another (flat_meaning f s) b k)
flat_others_decided f s b k = others_decided f b k (grants_in s.grants.now)

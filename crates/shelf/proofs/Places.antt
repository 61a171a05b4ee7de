-- Places for grants: what a write to one makes of the grants, and what a search among them says.
use Rattle.std.proofs.Common.{◌≡◌, ℕ, zero, suc, ◌+◌, ◌<◌, not, ◌&&◌, ltb, true, false, List, [], ◌∷◌, ◌++◌, length, get_or, take, drop, set, replicate, ℤ, is_some, Some, None, Option, is_none, position, refl, sym, ap, ◌∙◌, arith}
use mathlib.Core.Path.{fun_ext}
use Rattle.std.proofs.lemmas.Bool.Decides.{nat_tests}
use Rattle.std.proofs.lemmas.Bool.{and_parts}
use Rattle.std.proofs.lemmas.List.{length-set, set_split, set-get_or, get_or_default}
use Rattle.std.proofs.lemmas.List.Elements.{filter_map-append}
use Rattle.std.proofs.lemmas.List.Quantifiers.{position-Some}
use Rattle.std.specs.List.{list_any}
use Rattle.shelf.specs.declared.records.Grant.{Grant}
use Rattle.shelf.specs.Contents.{regrant}
use Rattle.shelf.specs.Flat.{is_of, hit, grants_in, granted, apart, placed_in}
use Rattle.shelf.specs.Others.{is_some-find}
use Rattle.shelf.specs.Soundness.{grants_fit}
use Rattle.shelf.proofs.Grants.{Adds, length-adds, placed_in-adds, apart-adds, granted-adds}

-- places that are all free hold no grant
pub grants_in-replicate : (A : Type 0) (n : ℕ) → grants_in {A = A} (replicate n None) ≡ []
grants_in-replicate A zero = refl
grants_in-replicate A (suc n) = grants_in-replicate A n

module _ {A : Type 0} where
  grants_in-set : (xs : List (Option (Grant A))) (i : ℕ) (y : Option (Grant A)) → i < length xs → grants_in (set xs i y) ≡ grants_in (take i xs) ++ grants_in (y ∷ drop (suc i) xs)
  grants_in-set xs i y l = ap grants_in (set_split xs i y l) ∙ filter_map-append _ (take i xs) (y ∷ drop (suc i) xs)

  grants_in-at : (xs : List (Option (Grant A))) (i : ℕ) (y : Option (Grant A)) → i < length xs → get_or xs i None ≡ y → grants_in xs ≡ grants_in (take i xs) ++ grants_in (y ∷ drop (suc i) xs)
  grants_in-at xs i y l e = ap grants_in (sym (set-get_or xs i None)) ∙ grants_in-set xs i (get_or xs i None) l ∙ ap (λ z. grants_in (take i xs) ++ grants_in (z ∷ drop (suc i) xs)) e

  -- a grant put in a free place
  pub put_adds : (xs : List (Option (Grant A))) (i : ℕ) (g : Grant A) → i < length xs → get_or xs i None ≡ None → Adds g (grants_in xs) (grants_in (set xs i (Some g)))
  put_adds xs i g l e = record { before = grants_in (take i xs); after = grants_in (drop (suc i) xs); without = grants_in-at xs i None l e; with_it = grants_in-set xs i (Some g) l }

  -- a grant taken from its place
  pub take_adds : (xs : List (Option (Grant A))) (i : ℕ) (g : Grant A) → i < length xs → get_or xs i None ≡ Some g → Adds g (grants_in (set xs i None)) (grants_in xs)
  take_adds xs i g l e = record { before = grants_in (take i xs); after = grants_in (drop (suc i) xs); without = grants_in-set xs i None l; with_it = grants_in-at xs i (Some g) l e }

  -- a search finds a place exactly where a grant is of the bin and the batch
  pub is_some-position : (b k : ℕ) (xs : List (Option (Grant A))) → is_some (position (hit b k) xs) ≡ list_any (is_of b k) (grants_in xs)
  is_some-position b k [] = refl
  is_some-position b k (None ∷ xs) = grind (arith, nat_tests, is_some-position b k xs)
  is_some-position b k (Some g ∷ xs) = grind (arith, nat_tests, is_some-position b k xs)

  -- so something is granted where a search finds a place
  pub is_some-granted : (f : A → ℤ) (b k : ℕ) (xs : List (Option (Grant A))) → is_some (granted f (grants_in xs) b k) ≡ is_some (position (hit b k) xs)
  is_some-granted f b k xs = is_some-find _ (is_of b k) (grants_in xs) ∙ sym (is_some-position b k xs)

  pub not_found : (f : A → ℤ) (b k : ℕ) (xs : List (Option (Grant A))) → position (hit b k) xs ≡ None → granted f (grants_in xs) b k ≡ None
  not_found f b k xs e = nothing (granted f (grants_in xs) b k) (is_some-granted f b k xs ∙ ap is_some e)
    where
      nothing : (o : Option ℤ) → is_some o ≡ false → o ≡ None
      nothing None h = refl
      nothing (Some z) h = absurd (cc)

  -- the grant of bin b and batch k stands at place i
  pub record Found (b k : ℕ) (xs : List (Option (Grant A))) (i : ℕ) (g : Grant A) : Type 0 where
    pub within : i < length xs
    pub is : get_or xs i None ≡ Some g
    pub bin : g.bin ≡ b
    pub batch : g.batch ≡ k

  hit_some : (b k : ℕ) (x : Option (Grant A)) → hit b k x ≡ true → (is_some x ≡ true) × ((g : Grant A) → x ≡ Some g → (g.bin ≡ b) × (g.batch ≡ k))
  hit_some b k None h = absurd (cc)
  hit_some b k (Some x) h = (refl, λ g e. grind (arith, nat_tests))

  -- what a search found, where x is read there
  pub found : (b k : ℕ) (xs : List (Option (Grant A))) (i : ℕ) (x : Option (Grant A)) → position (hit b k) xs ≡ Some i → x ≡ get_or xs i x → (is_some x ≡ true) × ((g : Grant A) → x ≡ Some g → Found b k xs i g)
  found b k xs i x e r =
      let at = position-Some (hit b k) xs i x e in
      let p = hit_some b k x (ap (hit b k) r ∙ at.1) in
      (p.0, λ g q. record { within = at.0; is = sym (get_or_default xs i x None at.0) ∙ sym r ∙ q; bin = (p.1 g q).0; batch = (p.1 g q).1 })

  -- the free place that a search found
  pub found_free : (xs : List (Option (Grant A))) (i : ℕ) → position is_none xs ≡ Some i → (i < length xs) × (get_or xs i None ≡ None)
  found_free xs i e = let at = position-Some is_none xs i None e in (at.0, free (get_or xs i None) at.1)
    where
      free : (o : Option (Grant A)) → is_none o ≡ true → o ≡ None
      free None h = refl
      free (Some g) h = absurd (cc)

  -- a search finds a free place exactly where fewer grants are held than there are places
  pub is_some-free : (xs : List (Option (Grant A))) → is_some (position is_none xs) ≡ ltb (length (grants_in xs)) (length xs)
  is_some-free [] = refl
  is_some-free (None ∷ xs) = let h = grants_fit xs in grind (arith, nat_tests)
  is_some-free (Some g ∷ xs) = grind (arith, nat_tests, is_some-free xs)

-- a grant put in the free place that a search found
module _ {A : Type 0} (xs : List (Option (Grant A))) (i : ℕ) (g : Grant A) (e : position is_none xs ≡ Some i) where
  put_at : Adds g (grants_in xs) (grants_in (set xs i (Some g)))
  put_at = let at = found_free xs i e in put_adds xs i g at.0 at.1

  pub length-put_grant : length (grants_in (set xs i (Some g))) ≡ length (grants_in xs) + 1
  length-put_grant = length-adds g _ _ put_at

  pub placed_in-put_grant : (m : ℕ) → placed_in m (grants_in (set xs i (Some g))) ≡ (ltb g.bin m && placed_in m (grants_in xs))
  placed_in-put_grant m = placed_in-adds g _ _ put_at m

  pub apart-put_grant : apart (grants_in (set xs i (Some g))) ≡ (not (is_some (position (hit g.bin g.batch) xs)) && apart (grants_in xs))
  apart-put_grant = apart-adds g _ _ put_at ∙ ap (λ t. not t && apart (grants_in xs)) (sym (is_some-position g.bin g.batch xs))

  pub granted-put_grant : (f : A → ℤ) → is_some (position (hit g.bin g.batch) xs) ≡ false → granted f (grants_in (set xs i (Some g))) ≡ regrant (granted f (grants_in xs)) g.bin g.batch (Some (f g.amount))
  granted-put_grant f h = fun_ext (λ c. fun_ext (λ k. granted-adds g _ _ put_at f c k (sym (is_some-position g.bin g.batch xs) ∙ h)))

pub ruleset grant_put = (nat_tests, is_some-granted, is_some-free, length-put_grant, placed_in-put_grant, apart-put_grant, granted-put_grant, length-set)

the_grant : {A : Type 0} (o : Option (Grant A)) → is_some o ≡ true → (g : Grant A) × (o ≡ Some g)
the_grant None h = absurd (cc)
the_grant (Some g) h = (g, refl)

pub at_none : {A : Type 0} (xs : List (Option (Grant A))) (i : ℕ) (d : Option (Grant A)) → i < length xs → get_or xs i d ≡ get_or xs i None
at_none xs i d l = get_or_default xs i d None l

-- a place that held a grant and is freed
module _ {A : Type 0} (xs : List (Option (Grant A))) (i : ℕ) (l : i < length xs) (h : is_some (get_or xs i None) ≡ true) where
  freed : Adds (the_grant (get_or xs i None) h).0 (grants_in (set xs i None)) (grants_in xs)
  freed = take_adds xs i _ l (the_grant (get_or xs i None) h).1

  pub length-freed : length (grants_in (set xs i None)) + 1 ≡ length (grants_in xs)
  length-freed = sym (length-adds _ _ _ freed)

  pub placed_in-freed : (m : ℕ) → placed_in m (grants_in xs) ≡ true → placed_in m (grants_in (set xs i None)) ≡ true
  placed_in-freed m p = (and_parts _ _ (sym (placed_in-adds _ _ _ freed m) ∙ p)).1

  pub apart-freed : apart (grants_in xs) ≡ true → apart (grants_in (set xs i None)) ≡ true
  apart-freed a = (and_parts _ _ (sym (apart-adds _ _ _ freed) ∙ a)).1

pub ruleset grant_taken = (not_found, at_none, length-freed, placed_in-freed, apart-freed)

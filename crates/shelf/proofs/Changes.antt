-- What a change makes of the contents of a flat shelf.
use Rattle.std.proofs.Common.{◌≡◌, ℕ, ◌+◌, ◌-◌, ◌<◌, true, false, cond, ◌&&◌, eqb, List, [], length, get_or, set, ℤ, is_some, Some, None, Option, is_none, position, option_map, refl, sym, ap, ◌∙◌, arith}
use mathlib.Core.Path.{fun_ext}
use Rattle.std.proofs.lemmas.List.{length-set}
use Rattle.std.proofs.lemmas.Bool.{and_parts, not-true}
use Rattle.std.proofs.lemmas.Bool.Decides.{nat_tests}
use Rattle.shelf.specs.declared.records.Grant.{Grant}
use Rattle.shelf.specs.declared.records.Bin.{Bin}
use Rattle.shelf.specs.Contents.{Figures, moved, bin_of, after_set, can_put, after_put, amount_at, after_take, regrant}
use Rattle.shelf.specs.Bins.{figures}
use Rattle.shelf.specs.Others.{is_some-find}
use Rattle.shelf.specs.Flat.{is_of, hit, grants_in, granted, apart, flat_contents}
use Rattle.shelf.proofs.Bins.{bins-set}
use Rattle.shelf.proofs.Grants.{apart-adds, granted-adds}
use Rattle.shelf.proofs.Places.{Found, is_some-granted, is_some-free, granted-put_grant, take_adds, found}

module _ {A : Type 0} (f : A → ℤ) (bs : List (Bin A)) (n : ℕ) (xs : List (Option (Grant A))) (m : ℕ) where
  pub set_done : (i : ℕ) (a v p : A) (o : Figures) (y : Bin A) → bin_of (flat_contents f bs n xs m) i ≡ Some o → figures f y ≡ moved (f a) (f v) (f p) o
      → flat_contents f (set bs i y) n xs m ≡ after_set (flat_contents f bs n xs m) i (f a) (f v) (f p)
  unfolding bin_of after_set
  set_done i a v p o y h e =
      let changed = bins-set f (moved (f a) (f v) (f p)) o y bs n i h e in
      let same = length-set bs i y in
      cc

  pub put_done : (i : ℕ) (g : Grant A) → position is_none xs ≡ Some i → is_some (position (hit g.bin g.batch) xs) ≡ false → g.bin < length bs → length (grants_in xs) ≡ m
      → flat_contents f bs n (set xs i (Some g)) (m + 1) ≡ after_put (flat_contents f bs n xs m) g.bin g.batch (f g.amount)
  unfolding can_put after_put
  put_done i g e h b u =
      let none = is_some-granted f g.bin g.batch xs ∙ h in
      let free = sym (is_some-free xs) ∙ ap is_some e in
      let yes : can_put (flat_contents f bs n xs m) g.bin g.batch ≡ true = grind (arith, nat_tests) in
      let more = granted-put_grant xs i g e f h in
      let same = length-set xs i (Some g) in
      cc

  pub take_done : (b k i : ℕ) (g : Grant A) → Found b k xs i g → apart (grants_in xs) ≡ true
      → (Some (f g.amount) ≡ amount_at (flat_contents f bs n xs m) b k) × (flat_contents f bs n (set xs i None) (m - 1) ≡ after_take (flat_contents f bs n xs m) b k)
  unfolding amount_at after_take
  take_done b k i g at one =
      let gs = grants_in xs in
      let hs = grants_in (set xs i None) in
      let w = take_adds xs i g at.within at.is in
      let none = not-true _ (and_parts _ _ (sym (apart-adds g _ _ w) ∙ one)).0 in
      let gone = is_some-find (λ x. f x.amount) (is_of g.bin g.batch) hs ∙ none in
      let e1 = at.bin in
      let e2 = at.batch in
      let there : granted f gs b k ≡ Some (f g.amount) = granted-adds g _ _ w f b k none ∙ grind (arith, nat_tests) in
      let less : granted f hs ≡ regrant (granted f gs) b k None = fun_ext (λ c. fun_ext (λ j. taken b k c j g (granted f gs c j) (granted f hs) gone e1 e2 (granted-adds g _ _ w f c j none))) in
      let same = length-set xs i None in
      (sym there, cc)
    where
      taken : (b k c j : ℕ) (g : Grant A) (x : Option ℤ) (h : ℕ → ℕ → Option ℤ) → is_some (h g.bin g.batch) ≡ false → g.bin ≡ b → g.batch ≡ k → x ≡ cond (is_of c j g) (Some (f g.amount)) (h c j)
          → h c j ≡ cond (eqb b c && eqb k j) None x
      taken b k c j g x h gone p q e = grind (arith, nat_tests)

-- the amount in the place that a search found
pub found_amount : {A : Type 0} (f : A → ℤ) (b k : ℕ) (xs : List (Option (Grant A))) (i : ℕ) (x : Option (Grant A)) → position (hit b k) xs ≡ Some i → x ≡ get_or xs i x → apart (grants_in xs) ≡ true → option_map (λ y. f y.amount) x ≡ granted f (grants_in xs) b k
unfolding amount_at
found_amount {A} f b k xs i x e r one = let p = found b k xs i x e r in go x p.0 p.1
  where
    go : (o : Option (Grant A)) → is_some o ≡ true → ((g : Grant A) → o ≡ Some g → Found b k xs i g) → option_map (λ y. f y.amount) o ≡ granted f (grants_in xs) b k
    go None h at = absurd (cc)
    go (Some g) h at = (take_done f [] 0 xs 0 b k i g (at g refl) one).0

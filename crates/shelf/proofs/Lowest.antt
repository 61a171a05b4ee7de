-- The least of the bins of a batch is its lowest.
use Rattle.std.proofs.Common.{◌≡◌, ℕ, ◌≤◌, min, true, eqb, List, [], ◌∷◌, map, ℤ, is_some, Option, fold, refl, ◌∙◌, sym, subst, arith}
use Rattle.std.proofs.lemmas.Bool.{both_ways}
use Rattle.std.proofs.lemmas.Bool.Decides.{nat_tests}
use Rattle.std.specs.List.{filter, list_any, reduce}
use Rattle.shelf.specs.declared.records.Grant.{Grant}
use Rattle.shelf.specs.Contents.{Tells}
use Rattle.shelf.specs.Flat.{is_of, granted, lowest_of}
use Rattle.shelf.specs.Others.{is_some-find}

fold_min-le_first : (x : ℕ) (ns : List ℕ) → fold min x ns ≤ x
fold_min-le_first x [] = omega arith
fold_min-le_first x (n ∷ ns) = omega (arith, fold_min-le_first (min x n) ns)

fold_min-le : (x c : ℕ) (ns : List ℕ) → list_any (λ n. eqb n c) (x ∷ ns) ≡ true → fold min x ns ≤ c
fold_min-le x c [] h = grind (arith, nat_tests)
fold_min-le x c (n ∷ ns) h = grind (arith, nat_tests, fold_min-le_first (min x n) ns, fold_min-le (min x n) c ns)

fold_min-among : (x : ℕ) (ns : List ℕ) → list_any (λ n. eqb n (fold min x ns)) (x ∷ ns) ≡ true
fold_min-among x [] = grind (arith, nat_tests)
fold_min-among x (n ∷ ns) = grind (arith, nat_tests, fold_min-among (min x n) ns)

-- of the bins in which k holds a grant, the least is the lowest
Tells-reduce : (f : ℕ → ℕ → Option ℤ) (k : ℕ) (ns : List ℕ) → ((c : ℕ) → is_some (f c k) ≡ list_any (λ n. eqb n c) ns) → Tells f k (reduce min ns)
Tells-reduce f k [] e = λ c h. both_ways _ (e c) h
Tells-reduce f k (n ∷ ns) e = (e (fold min n ns) ∙ fold_min-among n ns, λ c h. fold_min-le n c ns (sym (e c) ∙ h))

any-bins : {A : Type 0} (c k : ℕ) (gs : List (Grant A)) → list_any (is_of c k) gs ≡ list_any (λ n. eqb n c) (map (λ g. g.bin) (filter (λ g. eqb g.batch k) gs))
any-bins c k [] = refl
any-bins c k (g ∷ gs) = grind (arith, any-bins c k gs)

-- an answer that is the least tells the lowest
pub Tells-lowest_of : {A : Type 0} (f : A → ℤ) (k : ℕ) (gs : List (Grant A)) (o : Option ℕ) → o ≡ lowest_of k gs → Tells (granted f gs) k o
Tells-lowest_of f k gs o e = subst (Tells (granted f gs) k) (sym e) (Tells-reduce (granted f gs) k _ (λ c. is_some-find _ (is_of c k) gs ∙ any-bins c k gs))

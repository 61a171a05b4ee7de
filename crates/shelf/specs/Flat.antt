-- What the records of a flat shelf mean: a grant's place holds it, and any other place is free.
--   is_of, is_other         whether a grant is of a bin and a batch; of another batch in the bin
--   hit                     whether a place holds the grant of a bin and a batch
--   grants_in               the grants that places hold
--   granted                 the amount granted to a batch in a bin
--   lowest_of               the lowest bin of a batch
--   apart, placed_in        no two grants alike; every grant in a bin below the capacity
--   flat_contents           the contents that bins and places mean
use Rattle.std.specs.Prelude.{ℕ, min, Bool, true, false, not, ◌&&◌, List, [], ◌∷◌, map, length, take, ℤ, Some, None, Option, option_map, ◌==◌, nat_lt, find, filter_map}
use Rattle.std.specs.List.{filter, list_any, list_all, reduce}
use Rattle.shelf.specs.declared.records.Grant.{Grant}
use Rattle.shelf.specs.declared.records.Bin.{Bin}
use Rattle.shelf.specs.Bins.{figures}
use Rattle.shelf.specs.Contents.{Contents}

-- whether a grant is of bin b and batch k
abbrev pub is_of : {A : Type 0} → ℕ → ℕ → Grant A → Bool
is_of b k g = g.bin == b && g.batch == k

-- whether a grant is of another batch than k in bin b
abbrev pub is_other : {A : Type 0} → ℕ → ℕ → Grant A → Bool
is_other b k g = g.bin == b && not (g.batch == k)

-- whether a place holds the grant of bin b and batch k
abbrev pub hit : {A : Type 0} → ℕ → ℕ → Option (Grant A) → Bool
hit b k None = false
hit b k (Some g) = is_of b k g

-- the grants that places hold, in their order
abbrev pub grants_in : {A : Type 0} → List (Option (Grant A)) → List (Grant A)
grants_in xs = filter_map (λ x. x) xs

-- the amount granted to batch k in bin b
abbrev pub granted : {A : Type 0} → (A → ℤ) → List (Grant A) → ℕ → ℕ → Option ℤ
granted f gs b k = option_map (λ g. f g.amount) (find (is_of b k) gs)

-- the lowest bin in which batch k holds a grant
abbrev pub lowest_of : {A : Type 0} → ℕ → List (Grant A) → Option ℕ
lowest_of k gs = reduce min (map (λ g. g.bin) (filter (λ g. g.batch == k) gs))

-- no grant repeats the bin and batch of another
abbrev pub apart : {A : Type 0} → List (Grant A) → Bool
apart [] = true
apart (g ∷ gs) = not (list_any (is_of g.bin g.batch) gs) && apart gs

-- every grant is in a bin below m
abbrev pub placed_in : {A : Type 0} → ℕ → List (Grant A) → Bool
placed_in m gs = list_all (λ g. nat_lt g.bin m) gs

-- what a flat shelf means, by its bins and their number and its places for grants and how many are used
abbrev pub flat_contents : {A : Type 0} → (A → ℤ) → List (Bin A) → ℕ → List (Option (Grant A)) → ℕ → Contents
flat_contents f bs n xs m = record { bins = map (figures f) (take n bs); grants = granted f (grants_in xs); held = m; bin_capacity = length bs; grant_capacity = length xs }

-- What each call makes of the numbers in a queue, the oldest first.
use Rattle.std.specs.Prelude.{ℕ, Bool, cond, List, [], ◌∷◌, ◌++◌, length, Some, None, Option, ◌==◌, nat_lt}
use Rattle.std.specs.List.{list_any}
use Rattle.queue.specs.Limit.{queue_capacity}

-- a place is left
abbrev pub has_place : List ℕ → Bool
has_place xs = nat_lt (length xs) queue_capacity

abbrev pub after_push : List ℕ → ℕ → List ℕ
after_push xs n = cond (has_place xs) (xs ++ n ∷ []) xs

abbrev pub oldest_of : List ℕ → Option ℕ
oldest_of [] = None
oldest_of (x ∷ xs) = Some x

abbrev pub after_shift : List ℕ → List ℕ
after_shift [] = []
after_shift (x ∷ xs) = xs

abbrev pub is_in : ℕ → List ℕ → Bool
is_in n xs = list_any (λ x. x == n) xs

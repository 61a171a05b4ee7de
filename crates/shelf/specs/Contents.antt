-- What a shelf holds, and what each of its calls makes of that.
--   Figures    a bin: floor, ceiling, and the lowest, expected and highest that it can come to
--   Contents   bins, grants, how many grants, and the two capacities
--   bin_of, amount_at          what a question answers
--   can_add, can_set, can_put  when a change is accepted
--   add_answer, set_answer, put_answer  what a change answers
--   after_add, after_set, after_put, after_take  what a change leaves
--   Tells, Another             the lowest bin of a batch; whether another batch holds a grant in a bin
--   Sound      what holds of every shelf
use Rattle.std.specs.Prelude.{◌≡◌, ℕ, zero, suc, ◌+◌, ◌-◌, ◌<◌, ◌≤◌, Bool, true, false, cond, not, ◌&&◌, List, [], ◌∷◌, ◌++◌, length, ℤ, is_some, Some, None, Option, Ok, Err, Result, ◌==◌, ◌≢◌, nat_lt, slice_get}
use Rattle.shelf.specs.declared.error.ShelfError.{ShelfError}
use Rattle.shelf.specs.declared.error.ShelfError.TheVariants.{BinsFull, NoSuchBin, NoBinPlace, AlreadyGranted, GrantsFull}

-- a bin by the numbers that its amounts mean: MIN, MAX, INF, VAL and SUP
pub record Figures : Type 0 where
  pub floor : ℤ
  pub ceiling : ℤ
  pub inf : ℤ
  pub val : ℤ
  pub sup : ℤ

-- bins are numbered from 0; `grants b k` is what batch k holds in bin b; capacities never change
pub record Contents : Type 0 where
  pub bins : List Figures
  pub grants : ℕ → ℕ → Option ℤ
  pub held : ℕ
  pub bin_capacity : ℕ
  pub grant_capacity : ℕ

-- a shelf that holds nothing
abbrev pub empty_contents : ℕ → ℕ → Contents
empty_contents m n = record { bins = []; grants = λ _ _. None; held = 0; bin_capacity = m; grant_capacity = n }

-- ---- bins

-- the bin numbered i
abbrev pub nth : List Figures → ℕ → Option Figures
nth bs i = slice_get bs i

unfoldable pub bin_of : Contents → ℕ → Option Figures
bin_of s i = nth s.bins i

-- a bin as it is laid: INF, VAL and SUP are its start
abbrev pub fresh : ℤ → ℤ → ℤ → Figures
fresh low high start = record { floor = low; ceiling = high; inf = start; val = start; sup = start }

abbrev pub with_bins : Contents → List Figures → Contents
with_bins s bs = record { bins = bs; grants = s.grants; held = s.held; bin_capacity = s.bin_capacity; grant_capacity = s.grant_capacity }

-- a bin place is free
unfoldable pub can_add : Contents → Bool
can_add s = nat_lt (length s.bins) s.bin_capacity

-- BinsFull: every bin place is used
unfoldable pub add_answer : Contents → Result Unit ShelfError
add_answer s = cond (can_add s) (Ok tt) (Err BinsFull)

-- the bin stands at the end
unfoldable pub after_add : Contents → Figures → Contents
after_add s b = cond (can_add s) (with_bins s (s.bins ++ b ∷ [])) s

-- there is such a bin
unfoldable pub can_set : Contents → ℕ → Bool
can_set s i = nat_lt i (length s.bins)

-- NoSuchBin: no bin has this number
unfoldable pub set_answer : Contents → ℕ → Result Unit ShelfError
set_answer s i = cond (can_set s i) (Ok tt) (Err NoSuchBin)

-- the bin with INF, VAL and SUP set
abbrev pub moved : ℤ → ℤ → ℤ → Figures → Figures
moved i v s b = record { floor = b.floor; ceiling = b.ceiling; inf = i; val = v; sup = s }

-- the list with f applied to the element numbered i
abbrev pub change_at : (Figures → Figures) → List Figures → ℕ → List Figures
change_at f [] i = []
change_at f (x ∷ xs) zero = f x ∷ xs
change_at f (x ∷ xs) (suc i) = x ∷ change_at f xs i

unfoldable pub after_set : Contents → ℕ → ℤ → ℤ → ℤ → Contents
after_set s n i v p = with_bins s (change_at (moved i v p) s.bins n)

-- ---- grants

unfoldable pub amount_at : Contents → ℕ → ℕ → Option ℤ
amount_at s b k = s.grants b k

abbrev pub with_grants : Contents → (ℕ → ℕ → Option ℤ) → ℕ → Contents
with_grants s f n = record { bins = s.bins; grants = f; held = n; bin_capacity = s.bin_capacity; grant_capacity = s.grant_capacity }

-- the grants with that of one bin and batch replaced
abbrev pub regrant : (ℕ → ℕ → Option ℤ) → ℕ → ℕ → Option ℤ → ℕ → ℕ → Option ℤ
regrant f b k o c j = cond (b == c && k == j) o (f c j)

-- the bin number is below the bin capacity, the batch holds nothing in it, and a grant place is free
unfoldable pub can_put : Contents → ℕ → ℕ → Bool
can_put s b k = nat_lt b s.bin_capacity && (not (is_some (s.grants b k)) && nat_lt s.held s.grant_capacity)

-- the first that is wrong of these
--   NoBinPlace      the bin number is at or above the bin capacity
--   AlreadyGranted  the batch holds a grant in the bin
--   GrantsFull      every grant place is used
unfoldable pub put_answer : Contents → ℕ → ℕ → Result Unit ShelfError
put_answer s b k =
    cond (nat_lt b s.bin_capacity)
    (cond (is_some (s.grants b k)) (Err AlreadyGranted) (cond (nat_lt s.held s.grant_capacity) (Ok tt) (Err GrantsFull)))
    (Err NoBinPlace)

unfoldable pub after_put : Contents → ℕ → ℕ → ℤ → Contents
after_put s b k z = cond (can_put s b k) (with_grants s (regrant s.grants b k (Some z)) (s.held + 1)) s

unfoldable pub after_take : Contents → ℕ → ℕ → Contents
after_take s b k = cond (is_some (s.grants b k)) (with_grants s (regrant s.grants b k None) (s.held - 1)) s

-- b is the lowest bin in which batch k holds a grant
abbrev pub Lowest : (ℕ → ℕ → Option ℤ) → ℕ → ℕ → Type 0
Lowest f k b = (is_some (f b k) ≡ true) × ((c : ℕ) → is_some (f c k) ≡ true → b ≤ c)

-- the answer tells the lowest bin of batch k, or that it holds no grant
abbrev pub Tells : (ℕ → ℕ → Option ℤ) → ℕ → Option ℕ → Type 0
Tells f k None = (c : ℕ) → is_some (f c k) ≢ true
Tells f k (Some b) = Lowest f k b

-- a batch other than k holds a grant in bin b
abbrev pub Another : Contents → ℕ → ℕ → Type 0
Another s b k = (j : ℕ) × (((j == k) ≡ false) × (is_some (s.grants b j) ≡ true))

-- ---- every shelf

-- it keeps within its capacities, grants only where it counts grants, and only in bins below its bin capacity
pub record Sound (s : Contents) : Type 0 where
  pub bins_fit : length s.bins ≤ s.bin_capacity
  pub grants_fit : s.held ≤ s.grant_capacity
  pub none_held : s.held ≡ 0 → (b k : ℕ) → s.grants b k ≡ None
  pub in_place : (b k : ℕ) → is_some (s.grants b k) ≡ true → b < s.bin_capacity

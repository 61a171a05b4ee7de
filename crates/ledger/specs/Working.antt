-- What each call does to every ledger, test by test.
use Rattle.std.specs.Prelude.{ℕ, Bool, cond, ◌||◌, length, ℤ, Ok, Err, Result, int_lt, nat_le, nat_lt}
use Rattle.refusal.specs.declared.Refusal.{Refusal}
use Rattle.refusal.specs.declared.Refusal.TheVariants.{UnfitShelf, BadFigures, OverLimit, Trading, BinsFull}
use Rattle.shelf.specs.Contents.{Contents, fresh, after_add}
use Rattle.model.specs.Ledger.{State, over, most_bins, with_shelf}

-- the floor above the ceiling, or the start outside them
unfoldable pub bad_figures : ℤ → ℤ → ℤ → Bool
bad_figures low high start = int_lt high low || int_lt start low || int_lt high start

unfoldable pub over_limit : ℕ → ℤ → Bool
over_limit l z = over l z

-- every bin place is used, of those that a fit shelf can have
abbrev pub bins_full : Contents → Bool
bins_full s = nat_le s.bin_capacity (length s.bins) || nat_le most_bins (length s.bins)

-- lay on a fit shelf
abbrev pub lay_fit : State → ℤ → ℤ → ℤ → Result ℕ Refusal × State
lay_fit s low high start =
    cond (bad_figures low high start) (Err BadFigures, s)
    (cond (over_limit s.limit low || over_limit s.limit high || over_limit s.limit start) (Err OverLimit, s)
    (cond (nat_lt 0 s.last) (Err Trading, s)
    (cond (bins_full s.shelf) (Err BinsFull, s)
    (Ok (length s.shelf.bins), with_shelf s (after_add s.shelf (fresh low high start))))))

abbrev pub lay_of : State → ℤ → ℤ → ℤ → Result ℕ Refusal × State
lay_of s low high start = cond s.fit (lay_fit s low high start) (Err UnfitShelf, s)

-- The sums that the ledger makes for a call.
--   ask_sums     the three figures of a bin with an ask on top
--   settle_sums  the figures after a settled batch, in each bin where it held a grant
--   sums_of      all sums of a call; a refused call makes none
--   EachInside   each of the numbers lies between a bound and its opposite
use Rattle.std.specs.Prelude.{◌≡◌, ℕ, suc, true, List, [], ◌∷◌, ◌++◌, ℤ, ◌+ℤ◌, Some, None, Option}
use Rattle.amount.specs.Range.{inside}
use Rattle.shelf.specs.Contents.{Figures, Contents}
use Rattle.model.specs.Ledger.{State, Active, Call, bin_at, with_kept, with_undone, refusal, vacant, working, asking, looking, spoiled}
use Rattle.model.specs.Ledger.{lay, begin, ask, look, again, close, drop, keep, undo, report}

abbrev pub ask_sums : Figures → ℤ → List ℤ
ask_sums x d = (x.inf +ℤ d) ∷ (x.sup +ℤ d) ∷ (x.val +ℤ d) ∷ []

-- the figures of a bin once the amount that a batch holds in it is settled by f
abbrev pub settled_at : (Figures → ℤ → Figures) → Figures → Option ℤ → List ℤ
settled_at f x None = []
settled_at f x (Some d) = (f x d).inf ∷ (f x d).val ∷ (f x d).sup ∷ []

-- bin by bin, from number i on; `amounts` is what the batch holds
abbrev pub settled_from : ℕ → (Figures → ℤ → Figures) → (ℕ → Option ℤ) → List Figures → List ℤ
settled_from i f amounts [] = []
settled_from i f amounts (x ∷ xs) = settled_at f x (amounts i) ++ settled_from (suc i) f amounts xs

abbrev pub settle_sums : (Figures → ℤ → Figures) → Contents → ℕ → List ℤ
settle_sums f s n = settled_from 0 f (λ b. s.grants b n) s.bins

-- what is held is judged once more
abbrev pub held_sums : Contents → Active → List ℤ
held_sums s vacant = []
held_sums s (working n) = []
held_sums s (asking n b d) = ask_sums (bin_at s.bins b) d
held_sums s (looking n b) = []
held_sums s (spoiled n) = []

abbrev pub accepted_sums : State → Call → List ℤ
accepted_sums m (lay low high start) = []
accepted_sums m (begin n) = []
accepted_sums m (ask p b d) = ask_sums (bin_at m.shelf.bins b) d
accepted_sums m (look p b) = []
accepted_sums m (again p) = held_sums m.shelf m.active
accepted_sums m (close p) = []
accepted_sums m (drop p) = settle_sums with_undone m.shelf p.batch
accepted_sums m (keep n) = settle_sums with_kept m.shelf n
accepted_sums m (undo n) = settle_sums with_undone m.shelf n
accepted_sums m (report b) = []

abbrev pub unless_refused : Option ℕ → List ℤ → List ℤ
unless_refused None sums = sums
unless_refused (Some r) sums = []

abbrev pub sums_of : State → Call → List ℤ
sums_of m c = unless_refused (refusal m c) (accepted_sums m c)

abbrev pub EachInside : ℕ → List ℤ → Type 0
EachInside bound [] = Unit {0}
EachInside bound (z ∷ zs) = (inside bound z ≡ true) × EachInside bound zs

-- The ledger over a list of grants, a device of the proofs: over a list sums can be taken entry by entry.
use Rattle.std.proofs.Common.{ℕ, suc, Bool, true, false, cond, not, ◌&&◌, ◌||◌, eqb, ltb, leb, List, [], ◌∷◌, ◌++◌, length, ℤ, pos, Some, None, Option}
use lib.Signed.{lt_z, le_z}
use Rattle.shelf.specs.Contents.{Figures, fresh}
use Rattle.model.specs.Ledger.{Token, Stage, Active, State, Call, Answer, Verdict, over, no_bin, bin_at, in_queue, oldest, is_vacant, active_at, same_stage, first, verdict, with_grant, with_kept, with_undone, touch, tail, queue_limit, batch_limit}
use Rattle.model.specs.Ledger.{vacant, working, asking, looking, spoiled, opened, waiting, grant, fail, wait}
use Rattle.model.specs.Ledger.{lay, begin, ask, look, again, close, drop, keep, undo, report}
use Rattle.model.specs.Ledger.{laid, begun, closed, dropped, kept, undone, granted, failed, waits, seen, shown, refused}
use Rattle.model.specs.Journal.{Entry, Journal, blank, feed, each_of, wipe}

-- what never changes: house number, limit, capacities, and whether the shelf was fit at opening
pub record House : Type 0 where
  pub number : ℕ
  pub limit : ℕ
  pub bin_capacity : ℕ
  pub grant_capacity : ℕ
  pub fit : Bool

pub record Listed : Type 0 where
  pub house : House
  pub last : ℕ
  pub bins : List Figures
  pub grants : List Entry
  pub queue : List ℕ
  pub active : Active

abbrev pub opened_at : House → Listed
opened_at h = record { house = h; last = 0; bins = []; grants = []; queue = []; active = vacant }

-- ---- questions

-- the amount that batch n holds in bin b
abbrev pub find : ℕ → ℕ → List Entry → Option ℤ
find b n [] = None
find b n (r ∷ rs) = cond (eqb r.bin b && eqb r.batch n) (Some r.amount) (find b n rs)

-- the ledger that the list ledger stands for
abbrev pub as_map : Listed → State
as_map s =
    record {
      house = s.house.number;
      limit = s.house.limit;
      fit = s.house.fit;
      last = s.last;
      shelf = record { bins = s.bins; grants = λ b n. find b n s.grants; held = length s.grants; bin_capacity = s.house.bin_capacity; grant_capacity = s.house.grant_capacity };
      queue = s.queue;
      active = s.active;
    }

-- batch n holds a grant in bin b
abbrev pub holds : ℕ → ℕ → List Entry → Bool
holds b n [] = false
holds b n (r ∷ rs) = (eqb r.bin b && eqb r.batch n) || holds b n rs

-- a batch other than n holds a grant in bin b
abbrev pub others : ℕ → ℕ → List Entry → Bool
others b n [] = false
others b n (r ∷ rs) = (eqb r.bin b && not (eqb r.batch n)) || others b n rs

-- how many grants batch n holds
abbrev pub held : ℕ → List Entry → ℕ
held n [] = 0
held n (r ∷ rs) = cond (eqb r.batch n) (suc (held n rs)) (held n rs)

abbrev pub strange : Listed → Stage → Token → Bool
strange s m p = not (eqb p.house s.house.number && (same_stage p.stage m && active_at p.batch m s.active))

abbrev pub checks : Listed → Call → List (Bool × ℕ)
checks s (lay floor ceiling st) =
    (not s.house.fit, 1)
    ∷ ((lt_z ceiling floor || lt_z st floor || lt_z ceiling st), 2)
    ∷ ((over s.house.limit floor || over s.house.limit ceiling || over s.house.limit st), 3)
    ∷ (ltb 0 s.last, 4)
    ∷ (leb s.house.bin_capacity (length s.bins), 5) ∷ []
checks s (begin n) =
    (not s.house.fit, 1) ∷ (not (is_vacant s.active), 6) ∷ (leb n s.last, 7) ∷ (leb queue_limit (length s.queue), 8) ∷ []
checks s (ask p b d) =
    (not s.house.fit, 1)
    ∷ (over s.house.limit d, 3)
    ∷ (strange s opened p, 9)
    ∷ (leb (length s.bins) b, 10)
    ∷ (le_z d (pos 0) && le_z (pos 0) d, 11)
    ∷ (holds b p.batch s.grants, 12)
    ∷ (leb batch_limit (held p.batch s.grants), 13) ∷ []
checks s (look p b) = (not s.house.fit, 1) ∷ (strange s opened p, 9) ∷ (leb (length s.bins) b, 10) ∷ []
checks s (again p) = (not s.house.fit, 1) ∷ (strange s waiting p, 9) ∷ []
checks s (close p) = (not s.house.fit, 1) ∷ (strange s opened p, 9) ∷ []
checks s (drop p) = (not s.house.fit, 1) ∷ (strange s p.stage p, 9) ∷ []
checks s (keep n) =
    (not s.house.fit, 1) ∷ (in_queue n s.queue && not (oldest n s.queue), 14) ∷ (not (in_queue n s.queue), 15) ∷ []
checks s (undo n) =
    (not s.house.fit, 1) ∷ (in_queue n s.queue && not (oldest n s.queue), 14) ∷ (not (in_queue n s.queue), 15) ∷ []
checks s (report b) = (not s.house.fit, 1) ∷ (leb (length s.bins) b, 10) ∷ []

abbrev pub refusal : Listed → Call → Option ℕ
refusal s c = first (checks s c)

-- ---- what an accepted call does

abbrev pub set_active : Listed → Active → Listed
set_active s t = record { house = s.house; last = s.last; bins = s.bins; grants = s.grants; queue = s.queue; active = t }

abbrev pub decide : Listed → ℕ → ℕ → ℤ → Verdict → Answer × Listed
decide s n b d grant = (
  granted,
  record { house = s.house; last = s.last; bins = touch with_grant no_bin b d s.bins; grants = record { bin = b; batch = n; amount = d } ∷ s.grants; queue = s.queue; active = working n },
)
decide s n b d fail = (failed, set_active s (spoiled n))
decide s n b d wait = (waits, set_active s (asking n b d))

abbrev pub free : Listed → Bool
free s = ltb (length s.grants) s.house.grant_capacity

abbrev pub judge : Listed → ℕ → ℕ → ℤ → Answer × Listed
judge s n b d = decide s n b d (verdict (bin_at s.bins b) (free s) d)

-- a look of batch n, where another batch holds a grant or not
abbrev pub peek : Listed → ℕ → ℕ → Bool → Answer × Listed
peek s n b true = (waits, set_active s (looking n b))
peek s n b false = (seen (bin_at s.bins b).val, set_active s (working n))

abbrev pub rejudge : Listed → Active → Answer × Listed
rejudge s vacant = (refused 9, s)
rejudge s (working n) = (refused 9, s)
rejudge s (asking n b d) = judge s n b d
rejudge s (looking n b) = peek s n b (others b n s.grants)
rejudge s (spoiled n) = (refused 9, s)

-- batch n is settled by f, and the queue and the active batch are then these
abbrev pub settle : (Figures → ℤ → Figures) → Listed → ℕ → List ℕ → Active → Listed
settle f s n queue t = record { house = s.house; last = s.last; bins = each_of f no_bin n s.grants s.bins; grants = wipe n s.grants; queue = queue; active = t }

unfoldable pub act : Listed → Call → Answer × Listed
act s (lay floor ceiling st) = (
  laid (length s.bins),
  record { house = s.house; last = s.last; bins = s.bins ++ (fresh floor ceiling st ∷ []); grants = s.grants; queue = s.queue; active = s.active },
)
act s (begin n) = (begun n, record { house = s.house; last = n; bins = s.bins; grants = s.grants; queue = s.queue; active = working n })
act s (ask p b d) = judge s p.batch b d
act s (look p b) = peek s p.batch b (others b p.batch s.grants)
act s (again p) = rejudge s s.active
act s (close p) =
    (closed p.batch, record { house = s.house; last = s.last; bins = s.bins; grants = s.grants; queue = s.queue ++ (p.batch ∷ []); active = vacant })
act s (drop p) = (dropped p.batch, settle with_undone s p.batch s.queue vacant)
act s (keep n) = (kept n, settle with_kept s n (tail s.queue) s.active)
act s (undo n) = (undone n, settle with_undone s n (tail s.queue) s.active)
act s (report b) = (shown (bin_at s.bins b), s)

abbrev pub serve : Listed → Call → Option ℕ → Answer × Listed
serve s c (Some r) = (refused r, s)
serve s c None = act s c

unfoldable pub step : Listed → Call → Answer × Listed
step s c = serve s c (refusal s c)

-- ---- a list ledger with its journal

pub record Both : Type 0 where
  pub ledger : Listed
  pub journal : Journal

abbrev pub next : Both → Call → Both
next x c = record { ledger = (step x.ledger c).1; journal = feed x.journal c (step x.ledger c).0 }

abbrev pub after : Both → List Call → Both
after x [] = x
after x (c ∷ cs) = after (next x c) cs

abbrev pub start : House → Both
start h = record { ledger = opened_at h; journal = blank }

abbrev pub told : Listed → List Call → List (Call × Answer)
told s [] = []
told s (c ∷ cs) = (c, (step s c).0) ∷ told (step s c).1 cs

-- The reference ledger on whole numbers: its state, its calls, the refusals in their order, and what an accepted call does.
--   Stage, Token, Active, State    a batch's token, the active batch, the ledger
--   Call, Answer                   what is asked, what is answered
--   fit_shelf, opens               a shelf that a ledger can work on; a ledger as it is opened
--   checks                         for each call the tests that refuse it, with their numbers, in order
--   verdict                        how an ask is judged: granted, failed, or in doubt
--   act, step                      what an accepted call does; one call on the ledger
use Rattle.std.specs.Prelude.{ℕ, zero, suc, ◌-◌, Bool, true, false, cond, not, ◌&&◌, ◌||◌, List, [], ◌∷◌, ◌++◌, length, ℤ, pos, ◌+ℤ◌, ◌-ℤ◌, neg_ℤ, is_some, Some, None, Option, ◌==◌, int_le, int_lt, nat_le, nat_lt, slice_index_or, slice_set}
use Rattle.shelf.specs.Contents.{Figures, Contents, fresh, with_bins, regrant}

-- ---- limits

-- a fit shelf has 1 to 512 bin places and 16 to 2,048 grant places
abbrev pub least_bins : ℕ
least_bins = 1

abbrev pub most_bins : ℕ
most_bins = 512

abbrev pub least_grants : ℕ
least_grants = 16

abbrev pub most_grants : ℕ
most_grants = 2048

-- as many closed batches wait in the queue at the most
abbrev pub queue_limit : ℕ
queue_limit = 64

-- as many grants a batch holds at the most
abbrev pub batch_limit : ℕ
batch_limit = 16

-- ---- the state

-- how an active batch stands: it can ask, or waits for a verdict, or an ask of it failed
pub data Stage : Type 0 where
  opened waiting spoilt : Stage

-- what the caller holds of an active batch
pub record Token : Type 0 where
  pub house : ℕ
  pub batch : ℕ
  pub stage : Stage

-- the active batch by its number; one that waits holds an ask (bin, amount) or a look (bin)
pub data Active : Type 0 where
  vacant : Active
  working : ℕ → Active
  asking : ℕ → ℕ → ℤ → Active
  looking : ℕ → ℕ → Active
  spoiled : ℕ → Active

-- house number, the limit L of amounts, whether the shelf was fit at opening, the last batch number,
-- what the shelf holds, the closed batches from the oldest on, the active batch
pub record State : Type 0 where
  pub house : ℕ
  pub limit : ℕ
  pub fit : Bool
  pub last : ℕ
  pub shelf : Contents
  pub queue : List ℕ
  pub active : Active

pub data Call : Type 0 where
  lay : ℤ → ℤ → ℤ → Call
  begin : ℕ → Call
  ask : Token → ℕ → ℤ → Call
  look : Token → ℕ → Call
  again : Token → Call
  close : Token → Call
  drop : Token → Call
  keep : ℕ → Call
  undo : ℕ → Call
  report : ℕ → Call

pub data Answer : Type 0 where
  laid begun closed dropped kept undone : ℕ → Answer
  granted failed waits : Answer
  seen : ℤ → Answer
  shown : Figures → Answer
  refused : ℕ → Answer

-- ---- opening

-- the capacities lie within the limits
unfoldable pub fit_capacities : ℕ → ℕ → Bool
fit_capacities bins grants = nat_le least_bins bins && nat_le bins most_bins && nat_le least_grants grants && nat_le grants most_grants

-- they do, and nothing is held
unfoldable pub fit_shelf : Contents → Bool
fit_shelf s = fit_capacities s.bin_capacity s.grant_capacity && length s.bins == 0 && s.held == 0

abbrev pub opens : ℕ → ℕ → Contents → State
opens house limit s = record { house = house; limit = limit; fit = fit_shelf s; last = 0; shelf = s; queue = []; active = vacant }

-- ---- questions

-- outside -l to l
abbrev pub over : ℕ → ℤ → Bool
over l z = int_lt z (neg_ℤ (pos l)) || int_lt (pos l) z

abbrev pub no_bin : Figures
no_bin = record { floor = pos 0; ceiling = pos 0; inf = pos 0; val = pos 0; sup = pos 0 }

abbrev pub bin_at : List Figures → ℕ → Figures
bin_at xs b = slice_index_or xs b no_bin

-- how many numbers below m pass a test
abbrev pub count_below : ℕ → (ℕ → Bool) → ℕ
count_below zero g = 0
count_below (suc m) g = cond (g m) (suc (count_below m g)) (count_below m g)

abbrev pub holds_in : Contents → ℕ → ℕ → Bool
holds_in s n b = is_some (s.grants b n)

-- how many grants batch n holds
abbrev pub grants_of : Contents → ℕ → ℕ
grants_of s n = count_below (length s.bins) (holds_in s n)

abbrev pub any_of : List ℕ → (ℕ → Bool) → Bool
any_of [] g = false
any_of (k ∷ ks) g = g k || any_of ks g

-- a closed batch holds a grant in bin b
abbrev pub rivals : State → ℕ → Bool
rivals s b = any_of s.queue (λ k. is_some (s.shelf.grants b k))

abbrev pub in_queue : ℕ → List ℕ → Bool
in_queue n [] = false
in_queue n (k ∷ ks) = k == n || in_queue n ks

abbrev pub oldest : ℕ → List ℕ → Bool
oldest n [] = false
oldest n (k ∷ ks) = k == n

abbrev pub is_vacant : Active → Bool
is_vacant vacant = true
is_vacant (working n) = false
is_vacant (asking n b d) = false
is_vacant (looking n b) = false
is_vacant (spoiled n) = false

-- batch n is active at that stage
abbrev pub active_at : ℕ → Stage → Active → Bool
active_at n m vacant = false
active_at n opened (working k) = k == n
active_at n waiting (working k) = false
active_at n spoilt (working k) = false
active_at n opened (asking k b d) = false
active_at n waiting (asking k b d) = k == n
active_at n spoilt (asking k b d) = false
active_at n opened (looking k b) = false
active_at n waiting (looking k b) = k == n
active_at n spoilt (looking k b) = false
active_at n opened (spoiled k) = false
active_at n waiting (spoiled k) = false
active_at n spoilt (spoiled k) = k == n

abbrev pub same_stage : Stage → Stage → Bool
same_stage opened opened = true
same_stage opened waiting = false
same_stage opened spoilt = false
same_stage waiting opened = false
same_stage waiting waiting = true
same_stage waiting spoilt = false
same_stage spoilt opened = false
same_stage spoilt waiting = false
same_stage spoilt spoilt = true

-- the token is of another house, number or stage than the active batch, or of another stage than the call takes
abbrev pub strange : State → Stage → Token → Bool
strange s m p = not (p.house == s.house && (same_stage p.stage m && active_at p.batch m s.active))

-- ---- refusals: the first test that passes refuses with its number

abbrev pub first : List (Bool × ℕ) → Option ℕ
first [] = None
first (x ∷ xs) = cond x.0 (Some x.1) (first xs)

abbrev pub checks : State → Call → List (Bool × ℕ)
checks s (lay low high start) =
    (not s.fit, 1)
    ∷ ((int_lt high low || int_lt start low || int_lt high start), 2)
    ∷ ((over s.limit low || over s.limit high || over s.limit start), 3)
    ∷ (nat_lt 0 s.last, 4)
    ∷ (nat_le s.shelf.bin_capacity (length s.shelf.bins), 5) ∷ []
checks s (begin n) =
    (not s.fit, 1)
    ∷ (not (is_vacant s.active), 6)
    ∷ (nat_le n s.last, 7)
    ∷ (nat_le queue_limit (length s.queue), 8) ∷ []
checks s (ask p b d) =
    (not s.fit, 1)
    ∷ (over s.limit d, 3)
    ∷ (strange s opened p, 9)
    ∷ (nat_le (length s.shelf.bins) b, 10)
    ∷ (int_le d (pos 0) && int_le (pos 0) d, 11)
    ∷ (is_some (s.shelf.grants b p.batch), 12)
    ∷ (nat_le batch_limit (grants_of s.shelf p.batch), 13) ∷ []
checks s (look p b) = (not s.fit, 1) ∷ (strange s opened p, 9) ∷ (nat_le (length s.shelf.bins) b, 10) ∷ []
checks s (again p) = (not s.fit, 1) ∷ (strange s waiting p, 9) ∷ []
checks s (close p) = (not s.fit, 1) ∷ (strange s opened p, 9) ∷ []
checks s (drop p) = (not s.fit, 1) ∷ (strange s p.stage p, 9) ∷ []
checks s (keep n) =
    (not s.fit, 1) ∷ (in_queue n s.queue && not (oldest n s.queue), 14) ∷ (not (in_queue n s.queue), 15) ∷ []
checks s (undo n) =
    (not s.fit, 1) ∷ (in_queue n s.queue && not (oldest n s.queue), 14) ∷ (not (in_queue n s.queue), 15) ∷ []
checks s (report b) = (not s.fit, 1) ∷ (nat_le (length s.shelf.bins) b, 10) ∷ []

abbrev pub refusal : State → Call → Option ℕ
refusal s c = first (checks s c)

-- ---- an ask is judged

pub data Verdict : Type 0 where
  grant fail wait : Verdict

-- e lies from the floor to the ceiling, ends included
abbrev pub inside : Figures → ℤ → Bool
inside x e = int_le x.floor e && int_le e x.ceiling

-- d is tried on INF and on SUP: a grant needs both inside and a free place, and a failure both outside on one side
abbrev pub verdict : Figures → Bool → ℤ → Verdict
verdict x free d =
    cond (inside x (x.inf +ℤ d) && inside x (x.sup +ℤ d) && free) grant
    (cond ((int_lt (x.inf +ℤ d) x.floor && int_lt (x.sup +ℤ d) x.floor) || (int_lt x.ceiling (x.inf +ℤ d) && int_lt x.ceiling (x.sup +ℤ d))) fail wait)

-- ---- a bin's figures

-- what d takes away at the most, and what it adds at the most
abbrev pub low : ℤ → ℤ
low d = cond (int_lt d (pos 0)) d (pos 0)

abbrev pub high : ℤ → ℤ
high d = cond (int_lt d (pos 0)) (pos 0) d

abbrev pub with_grant : Figures → ℤ → Figures
with_grant x d = record { floor = x.floor; ceiling = x.ceiling; inf = x.inf +ℤ low d; val = x.val +ℤ d; sup = x.sup +ℤ high d }

abbrev pub with_kept : Figures → ℤ → Figures
with_kept x d = record { floor = x.floor; ceiling = x.ceiling; inf = x.inf +ℤ high d; val = x.val; sup = x.sup +ℤ low d }

abbrev pub with_undone : Figures → ℤ → Figures
with_undone x d = record { floor = x.floor; ceiling = x.ceiling; inf = x.inf -ℤ low d; val = x.val -ℤ d; sup = x.sup -ℤ high d }

-- ---- what an accepted call does

abbrev pub with_shelf : State → Contents → State
with_shelf s c = record { house = s.house; limit = s.limit; fit = s.fit; last = s.last; shelf = c; queue = s.queue; active = s.active }

abbrev pub with_active : State → Active → State
with_active s t = record { house = s.house; limit = s.limit; fit = s.fit; last = s.last; shelf = s.shelf; queue = s.queue; active = t }

-- entry b of a list changed by f with the amount d
abbrev pub touch : {A : Type 0} → (A → ℤ → A) → A → ℕ → ℤ → List A → List A
touch f z b d xs = slice_set xs b (f (slice_index_or xs b z) d)

-- batch n is granted d in bin b
abbrev pub grant_in : Contents → ℕ → ℕ → ℤ → Contents
grant_in s n b d =
    record {
      bins = touch with_grant no_bin b d s.bins;
      grants = regrant s.grants b n (Some d);
      held = suc s.held;
      bin_capacity = s.bin_capacity;
      grant_capacity = s.grant_capacity;
    }

abbrev pub decide : State → ℕ → ℕ → ℤ → Verdict → Answer × State
decide s n b d grant = (granted, with_active (with_shelf s (grant_in s.shelf n b d)) (working n))
decide s n b d fail = (failed, with_active s (spoiled n))
decide s n b d wait = (waits, with_active s (asking n b d))

abbrev pub judge : State → ℕ → ℕ → ℤ → Answer × State
judge s n b d = decide s n b d (verdict (bin_at s.shelf.bins b) (nat_lt s.shelf.held s.shelf.grant_capacity) d)

-- a look of batch n waits while a closed batch holds a grant in the bin
abbrev pub peek : State → ℕ → ℕ → Bool → Answer × State
peek s n b true = (waits, with_active s (looking n b))
peek s n b false = (seen (bin_at s.shelf.bins b).val, with_active s (working n))

-- the held ask or look is tried anew
abbrev pub rejudge : State → Active → Answer × State
rejudge s vacant = (refused 9, s)
rejudge s (working n) = (refused 9, s)
rejudge s (asking n b d) = judge s n b d
rejudge s (looking n b) = peek s n b (rivals s b)
rejudge s (spoiled n) = (refused 9, s)

-- entry by entry, with its place from i on
abbrev pub map_from : {A : Type 0} → ℕ → (ℕ → A → A) → List A → List A
map_from i f [] = []
map_from i f (x ∷ xs) = f i x ∷ map_from (suc i) f xs

abbrev pub on_some : {A : Type 0} → (A → ℤ → A) → A → Option ℤ → A
on_some f x None = x
on_some f x (Some d) = f x d

-- the grants without those of batch n
abbrev pub take_all : (ℕ → ℕ → Option ℤ) → ℕ → ℕ → ℕ → Option ℤ
take_all g n j k = cond (k == n) None (g j k)

-- each bin in which batch n holds a grant is changed by f, and its grants are taken
abbrev pub settle_in : (Figures → ℤ → Figures) → Contents → ℕ → Contents
settle_in f s n =
    record {
      bins = map_from 0 (λ b x. on_some f x (s.grants b n)) s.bins;
      grants = take_all s.grants n;
      held = s.held - grants_of s n;
      bin_capacity = s.bin_capacity;
      grant_capacity = s.grant_capacity;
    }

abbrev pub tail : List ℕ → List ℕ
tail [] = []
tail (k ∷ ks) = ks

-- batch n is settled by f, and the queue and the active batch are then these
abbrev pub settle : (Figures → ℤ → Figures) → State → ℕ → List ℕ → Active → State
settle f s n queue active =
    record { house = s.house; limit = s.limit; fit = s.fit; last = s.last; shelf = settle_in f s.shelf n; queue = queue; active = active }

unfoldable pub act : State → Call → Answer × State
act s (lay low high start) = (laid (length s.shelf.bins), with_shelf s (with_bins s.shelf (s.shelf.bins ++ (fresh low high start ∷ []))))
act s (begin n) = (begun n, record { house = s.house; limit = s.limit; fit = s.fit; last = n; shelf = s.shelf; queue = s.queue; active = working n })
act s (ask p b d) = judge s p.batch b d
act s (look p b) = peek s p.batch b (rivals s b)
act s (again p) = rejudge s s.active
act s (close p) =
    (closed p.batch, record { house = s.house; limit = s.limit; fit = s.fit; last = s.last; shelf = s.shelf; queue = s.queue ++ (p.batch ∷ []); active = vacant })
act s (drop p) = (dropped p.batch, settle with_undone s p.batch s.queue vacant)
act s (keep n) = (kept n, settle with_kept s n (tail s.queue) s.active)
act s (undo n) = (undone n, settle with_undone s n (tail s.queue) s.active)
act s (report b) = (shown (bin_at s.shelf.bins b), s)

abbrev pub serve : State → Call → Option ℕ → Answer × State
serve s c (Some r) = (refused r, s)
serve s c None = act s c

unfoldable pub step : State → Call → Answer × State
step s c = serve s c (refusal s c)

-- A script of batches, and every way to work it: the schedule, that is when closed batches are settled and when waiting is over, is free.
--   Item, Last, Batch, Rising   what a script has: asks and looks, a batch's last word, numbers that rise
--   Decision, Worker, Progress  what was decided; what is being worked; how far the work has come
--   Does, Works                 one call that moves the work on; a list of calls with their answers
--   Logged, AllSettled          a decision that was made; all batches have had their last word
--   lays                        the bins of the accepted lays among calls with answers
--   Working                     a fit ledger, laid and not begun, that works a script
use Rattle.std.specs.Prelude.{◌≡◌, ℕ, suc, ◌<◌, Bool, true, false, cond, List, [], ◌∷◌, ◌++◌, ℤ}
use Rattle.shelf.specs.Contents.{Figures, Contents}
use Rattle.model.specs.Ledger.{Token, Stage, Call, Answer, opened, waiting, spoilt, opens, fit_shelf}
use Rattle.model.specs.Ledger.{lay, begin, ask, look, again, close, drop, keep, undo, report}
use Rattle.model.specs.Ledger.{laid, begun, closed, dropped, kept, undone, granted, failed, waits, seen, shown, refused}
use Rattle.model.specs.Journal.{Base}
use Rattle.model.specs.Runs.{after, told}

-- ---- a script

-- an ask for an amount in a bin, or a look into a bin
pub data Item : Type 0 where
  asks : ℕ → ℤ → Item
  looks : ℕ → Item

-- what the script says of a batch at last
pub data Last : Type 0 where
  keeps undoes drops : Last

pub record Batch : Type 0 where
  pub number : ℕ
  pub items : List Item
  pub last : Last

-- the numbers rise, the first above m
abbrev pub Rising : ℕ → List Batch → Type 0
Rising m [] = Unit {0}
Rising m (x ∷ xs) = (m < x.number) × Rising x.number xs

-- ---- the work

-- an item of the script that was decided: its batch, its number among the batch's items, and granted, failed or seen
pub record Decision : Type 0 where
  pub batch : ℕ
  pub item : ℕ
  pub said : Answer

-- what is being worked: nothing, a batch with the number of the next item and the items left, one whose next item waits, one with a failed ask
pub data Worker : Type 0 where
  idle : Worker
  doing : Batch → ℕ → List Item → Worker
  stuck : Batch → ℕ → Item → List Item → Worker
  lost : Batch → Worker

-- batches not begun, what is being worked, closed batches that await their last word, what was decided with the newest first
pub data Progress : Type 0 where
  prog : List Batch → Worker → List Batch → List Decision → Progress

abbrev pub token_of : ℕ → Batch → Stage → Token
token_of h x m = record { house = h; batch = x.number; stage = m }

abbrev pub decision : Batch → ℕ → Answer → Decision
decision x i a = record { batch = x.number; item = i; said = a }

-- a batch with this last word is closed first
abbrev pub Closes : Last → Type 0
Closes keeps = Unit {0}
Closes undoes = Unit {0}
Closes drops = ⊥

-- a call with its answer takes the work in house h from one progress to another
pub data Does (h : ℕ) : Progress → Call → Answer → Progress → Type 0 where
  -- refused calls and reports may come anywhere; a begin that is refused is made again later
  noise : {p : Progress} {c : Call} {r : ℕ} → Does h p c (refused r) p
  reports : {p : Progress} {b : ℕ} {x : Figures} → Does h p (report b) (shown x) p
  begins : {x : Batch} {xs queue : List Batch} {log : List Decision}
      → Does h (prog (x ∷ xs) idle queue log) (begin x.number) (begun x.number) (prog xs (doing x 0 x.items) queue log)
  -- an ask; after one that failed the rest of the batch is skipped, and one that is refused is passed over
  ask_granted : {x : Batch} {i b : ℕ} {d : ℤ} {its : List Item} {xs queue : List Batch} {log : List Decision}
      → Does h (prog xs (doing x i (asks b d ∷ its)) queue log) (ask (token_of h x opened) b d) granted (prog xs (doing x (suc i) its) queue (decision x i granted ∷ log))
  ask_failed : {x : Batch} {i b : ℕ} {d : ℤ} {its : List Item} {xs queue : List Batch} {log : List Decision}
      → Does h (prog xs (doing x i (asks b d ∷ its)) queue log) (ask (token_of h x opened) b d) failed (prog xs (lost x) queue (decision x i failed ∷ log))
  ask_waits : {x : Batch} {i b : ℕ} {d : ℤ} {its : List Item} {xs queue : List Batch} {log : List Decision}
      → Does h (prog xs (doing x i (asks b d ∷ its)) queue log) (ask (token_of h x opened) b d) waits (prog xs (stuck x i (asks b d) its) queue log)
  ask_refused : {x : Batch} {i b r : ℕ} {d : ℤ} {its : List Item} {xs queue : List Batch} {log : List Decision}
      → Does h (prog xs (doing x i (asks b d ∷ its)) queue log) (ask (token_of h x opened) b d) (refused r) (prog xs (doing x (suc i) its) queue log)
  -- a look; one that is refused is passed over
  look_seen : {x : Batch} {i b : ℕ} {v : ℤ} {its : List Item} {xs queue : List Batch} {log : List Decision}
      → Does h (prog xs (doing x i (looks b ∷ its)) queue log) (look (token_of h x opened) b) (seen v) (prog xs (doing x (suc i) its) queue (decision x i (seen v) ∷ log))
  look_waits : {x : Batch} {i b : ℕ} {its : List Item} {xs queue : List Batch} {log : List Decision}
      → Does h (prog xs (doing x i (looks b ∷ its)) queue log) (look (token_of h x opened) b) waits (prog xs (stuck x i (looks b) its) queue log)
  look_refused : {x : Batch} {i b r : ℕ} {its : List Item} {xs queue : List Batch} {log : List Decision}
      → Does h (prog xs (doing x i (looks b ∷ its)) queue log) (look (token_of h x opened) b) (refused r) (prog xs (doing x (suc i) its) queue log)
  -- again, as often as it is wanted, while something waits
  again_granted : {x : Batch} {i b : ℕ} {d : ℤ} {its : List Item} {xs queue : List Batch} {log : List Decision}
      → Does h (prog xs (stuck x i (asks b d) its) queue log) (again (token_of h x waiting)) granted (prog xs (doing x (suc i) its) queue (decision x i granted ∷ log))
  again_failed : {x : Batch} {i b : ℕ} {d : ℤ} {its : List Item} {xs queue : List Batch} {log : List Decision}
      → Does h (prog xs (stuck x i (asks b d) its) queue log) (again (token_of h x waiting)) failed (prog xs (lost x) queue (decision x i failed ∷ log))
  again_seen : {x : Batch} {i b : ℕ} {v : ℤ} {its : List Item} {xs queue : List Batch} {log : List Decision}
      → Does h (prog xs (stuck x i (looks b) its) queue log) (again (token_of h x waiting)) (seen v) (prog xs (doing x (suc i) its) queue (decision x i (seen v) ∷ log))
  again_waits : {x : Batch} {i : ℕ} {it : Item} {its : List Item} {xs queue : List Batch} {log : List Decision}
      → Does h (prog xs (stuck x i it its) queue log) (again (token_of h x waiting)) waits (prog xs (stuck x i it its) queue log)
  -- the end of a batch: closed, or dropped where that is its last word or an ask of it failed
  closes : {x : Batch} {i : ℕ} {xs queue : List Batch} {log : List Decision} → Closes x.last
      → Does h (prog xs (doing x i []) queue log) (close (token_of h x opened)) (closed x.number) (prog xs idle (queue ++ (x ∷ [])) log)
  drops_it : {x : Batch} {i : ℕ} {xs queue : List Batch} {log : List Decision} → x.last ≡ drops
      → Does h (prog xs (doing x i []) queue log) (drop (token_of h x opened)) (dropped x.number) (prog xs idle queue log)
  drops_lost : {x : Batch} {xs queue : List Batch} {log : List Decision}
      → Does h (prog xs (lost x) queue log) (drop (token_of h x spoilt)) (dropped x.number) (prog xs idle queue log)
  -- the last word of the oldest closed batch, at any moment between calls
  keeps_it : {x : Batch} {k : Worker} {xs queue : List Batch} {log : List Decision} → x.last ≡ keeps
      → Does h (prog xs k (x ∷ queue) log) (keep x.number) (kept x.number) (prog xs k queue log)
  undoes_it : {x : Batch} {k : Worker} {xs queue : List Batch} {log : List Decision} → x.last ≡ undoes
      → Does h (prog xs k (x ∷ queue) log) (undo x.number) (undone x.number) (prog xs k queue log)

-- calls with their answers that take the work from p to r
abbrev pub Works : ℕ → Progress → List (Call × Answer) → Progress → Type 0
Works h p [] r = p ≡ r
Works h p (x ∷ xs) r = (q : Progress) × (Does h p x.0 x.1 q × Works h q xs r)

abbrev pub log_of : Progress → List Decision
log_of (prog xs k queue log) = log

-- every batch of the script has had its last word
abbrev pub AllSettled : Progress → Type 0
AllSettled (prog xs k queue log) = (xs ≡ []) × (k ≡ idle) × (queue ≡ [])

-- the decision is among them
pub data Logged (e : Decision) : List Decision → Type 0 where
  newest : {xs : List Decision} → Logged e (e ∷ xs)
  older : {x : Decision} {xs : List Decision} → Logged e xs → Logged e (x ∷ xs)

-- ---- laying

abbrev pub is_laid : Answer → Bool
is_laid (laid n) = true
is_laid (begun n) = false
is_laid (closed n) = false
is_laid (dropped n) = false
is_laid (kept n) = false
is_laid (undone n) = false
is_laid granted = false
is_laid failed = false
is_laid waits = false
is_laid (seen v) = false
is_laid (shown x) = false
is_laid (refused r) = false

-- the bin of an accepted lay before those
abbrev pub lay_of : Call → Answer → List Base → List Base
lay_of (lay low high start) a ls = cond (is_laid a) (record { floor = low; ceiling = high; base = start } ∷ ls) ls
lay_of (begin n) a ls = ls
lay_of (ask p b d) a ls = ls
lay_of (look p b) a ls = ls
lay_of (again p) a ls = ls
lay_of (close p) a ls = ls
lay_of (drop p) a ls = ls
lay_of (keep n) a ls = ls
lay_of (undo n) a ls = ls
lay_of (report b) a ls = ls

-- the bins of the accepted lays, in their order
abbrev pub lays : List (Call × Answer) → List Base
lays [] = []
lays (x ∷ xs) = lay_of x.0 x.1 (lays xs)

-- a ledger opened on the fit shelf s and laid by the calls ls, with no begin accepted yet, works a script by the calls cs
pub record Working (house limit : ℕ) (s : Contents) (ls : List Call) (script : List Batch) (cs : List Call) : Type 0 where
  pub fit : fit_shelf s ≡ true
  pub unbegun : (after (opens house limit s) ls).last ≡ 0
  pub end : Progress
  pub works : Works house (prog script idle [] []) (told (after (opens house limit s) ls) cs) end

-- Worked examples, each computed from the definitions.
--   Example, Holds           a claim of one example, and that it holds
--   examples, Worked         the examples; every one of them holds
--   plain, mixed             two scripts, with the calls that settle their batches late and those that settle each at once
--   Finished, TwoSchedules   the calls work a script to its end; both schedules of both scripts do
use Rattle.std.specs.Prelude.{◌≡◌, ℕ, zero, suc, List, [], ◌∷◌, ◌++◌, map, ℤ, pos, negsuc, ◌+ℤ◌, neg_ℤ, Some, Ok, Err, Result}
use Rattle.amount.specs.Range.{sum}
use Rattle.refusal.specs.declared.Refusal.{Refusal}
use Rattle.refusal.specs.declared.Refusal.TheVariants.{OverLimit, UnevenTray}
use Rattle.amount.specs.Grams.{gram_limit, grams_made}
use Rattle.amount.specs.Trays.{tray_limit, in_pieces, full_trays, loose_pieces, trays_made}
use Rattle.shelf.specs.Contents.{Figures, Contents, empty_contents}
use Rattle.model.specs.Ledger.{Token, State, Call, Answer, opened, waiting, spoilt, opens, step, bin_at}
use Rattle.model.specs.Ledger.{lay, begin, ask, look, again, close, drop, keep, undo, report}
use Rattle.model.specs.Ledger.{laid, begun, closed, dropped, kept, undone, granted, failed, waits, seen, shown, refused}
use Rattle.model.specs.Runs.{after, told}
use Rattle.model.specs.Script.{Batch, Decision, asks, looks, keeps, undoes, drops, decision, token_of, log_of, AllSettled, Working}

-- ---- claims

pub data Example : Type 0 where
  -- the call is answered so
  answered : State → Call → Answer → Example
  -- the calls are answered so, one after the other
  listed : State → List Call → List Answer → Example
  -- after the calls bin 0 shows this
  figured : State → List Call → Figures → Example
  -- under the limit the two amounts have this sum
  added : ℕ → ℤ → ℤ → ℤ → Example
  -- the amount has this opposite
  opposed : ℤ → ℤ → Example
  -- so many pieces are so many full trays and so many loose
  split : ℤ → ℤ → ℕ → Example
  -- what making answers
  making : Result ℤ Refusal → Result ℤ Refusal → Example

abbrev pub Holds : Example → Type 0
Holds (answered m c a) = (step m c).0 ≡ a
Holds (listed m cs xs) = map (λ x. x.1) (told m cs) ≡ xs
Holds (figured m cs x) = bin_at (after m cs).shelf.bins 0 ≡ x
Holds (added limit a b c) = sum limit a b ≡ Some c
Holds (opposed a b) = neg_ℤ a ≡ b
Holds (split z t l) = ◌≡◌ {A = ℤ × ℕ} (full_trays z, loose_pieces z) (t, l)
Holds (making r x) = r ≡ x

abbrev pub AllHold : List Example → Type 0
AllHold [] = Unit {0}
AllHold (x ∷ xs) = Holds x × AllHold xs

-- ---- the ledgers

-- house 7, in grams, on an empty shelf with 2 bin places and 64 grant places
abbrev pub opening : State
opening = opens 7 gram_limit (empty_contents 2 64)

abbrev pub open_token : ℕ → Token
open_token n = record { house = 7; batch = n; stage = opened }

abbrev pub wait_token : ℕ → Token
wait_token n = record { house = 7; batch = n; stage = waiting }

abbrev pub spoilt_token : ℕ → Token
spoilt_token n = record { house = 7; batch = n; stage = spoilt }

-- a bin with floor 10, ceiling 100000 and start 1000
abbrev pub laying : Call
laying = lay (pos 10) (pos 100000) (pos 1000)

abbrev pub showing : ℤ → ℤ → ℤ → Figures
showing i v s = record { floor = pos 10; ceiling = pos 100000; inf = i; val = v; sup = s }

-- nothing is unsettled, and batch 1 is active
abbrev pub untouched : State
untouched = after opening (laying ∷ begin 1 ∷ [])

-- -50 of batch 1 and 40 of batch 2 are closed and unsettled, and batch 3 is active
abbrev pub two_pending : State
two_pending =
    after opening
    (laying ∷ begin 1 ∷ ask (open_token 1) 0 (negsuc 49) ∷ close (open_token 1) ∷ begin 2 ∷ ask (open_token 2) 0 (pos 40) ∷ close (open_token 2) ∷ begin 3 ∷ [])

-- an ask of batch n in bin 0
abbrev pub asked : State → ℕ → ℤ → Answer → Example
asked m n d a = answered m (ask (open_token n) 0 d) a

-- batches 1 to n, begun and closed
abbrev pub rounds : ℕ → List Call
rounds zero = []
rounds (suc n) = rounds n ++ (begin (suc n) ∷ close (open_token (suc n)) ∷ [])

abbrev pub lay_all : ℕ → List Call
lay_all zero = []
lay_all (suc n) = laying ∷ lay_all n

-- batch 1 asks for 1 in each of the first n bins
abbrev pub ask_all : ℕ → List Call
ask_all zero = []
ask_all (suc n) = ask_all n ++ (ask (open_token 1) n (pos 1) ∷ [])

-- 17 bins, in n of which batch 1 holds a grant, on a shelf with so many grant places
abbrev pub holding : ℕ → ℕ → State
holding places n = after (opens 7 gram_limit (empty_contents 17 places)) (lay_all 17 ++ begin 1 ∷ ask_all n)

-- opened on an empty shelf with so many bin places and grant places
abbrev pub opened_on : ℕ → ℕ → State
opened_on bins grants = opens 7 gram_limit (empty_contents bins grants)

-- ---- the examples

abbrev pub examples : List Example
examples =
    -- nothing unsettled
    asked untouched 1 (negsuc 989) granted
    ∷ asked untouched 1 (negsuc 990) failed
    ∷ asked untouched 1 (pos 99000) granted
    ∷ asked untouched 1 (pos 99001) failed
    -- -50 and 40 unsettled, each ask taken alone
    ∷ figured two_pending [] (showing (pos 950) (pos 990) (pos 1040))
    ∷ asked two_pending 3 (negsuc 939) granted
    ∷ asked two_pending 3 (negsuc 940) waits
    ∷ asked two_pending 3 (negsuc 1029) waits
    ∷ asked two_pending 3 (negsuc 1030) failed
    ∷ asked two_pending 3 (pos 98960) granted
    ∷ asked two_pending 3 (pos 98961) waits
    ∷ asked two_pending 3 (pos 99050) waits
    ∷ asked two_pending 3 (pos 99051) failed
    ∷ figured two_pending (keep 1 ∷ []) (showing (pos 950) (pos 990) (pos 990))
    ∷ figured two_pending (undo 1 ∷ []) (showing (pos 1000) (pos 1040) (pos 1040))
    -- trays
    ∷ added tray_limit (in_pieces (pos 0) 23) (in_pieces (pos 0) 1) (in_pieces (pos 1) 0)
    ∷ opposed (in_pieces (pos 0) 1) (in_pieces (negsuc 0) 23)
    ∷ split (in_pieces (pos 0) 23 +ℤ in_pieces (pos 0) 1) (pos 1) 0
    ∷ split (neg_ℤ (in_pieces (pos 0) 1)) (negsuc 0) 23
    -- making
    ∷ making (trays_made (pos 0) 24) (Err UnevenTray)
    ∷ making (trays_made (pos 1000000) 24) (Err OverLimit)
    ∷ making (grams_made (pos 1000000000001)) (Err OverLimit)
    ∷ making (grams_made (negsuc 999999999999)) (Ok (negsuc 999999999999))
    -- a shelf that holds something at opening
    ∷ answered (opens 7 gram_limit (after opening (laying ∷ [])).shelf) (report 0) (refused 1)
    -- at most 64 batches are closed, and a batch holds at most 16 grants
    ∷ answered (after opening (rounds 63)) (begin 64) (begun 64)
    ∷ answered (after opening (rounds 64)) (begin 65) (refused 8)
    ∷ answered (holding 64 15) (ask (open_token 1) 15 (pos 1)) granted
    ∷ answered (holding 64 16) (ask (open_token 1) 16 (pos 1)) (refused 13)
    -- a failed ask spoils its batch, which can only be dropped
    ∷ listed untouched
    (ask (open_token 1) 0 (negsuc 990) ∷ close (open_token 1) ∷ close (spoilt_token 1) ∷ ask (open_token 1) 0 (pos 1) ∷ drop (spoilt_token 1) ∷ [])
    (failed ∷ refused 9 ∷ refused 9 ∷ refused 9 ∷ dropped 1 ∷ [])
    -- a look waits while another batch holds a grant in the bin, and sees the batch's own grants
    ∷ listed two_pending
    (look (open_token 3) 0 ∷ keep 1 ∷ again (wait_token 3) ∷ keep 2 ∷ again (wait_token 3) ∷ ask (open_token 3) 0 (pos 10) ∷ look (open_token 3) 0 ∷ [])
    (waits ∷ kept 1 ∷ waits ∷ kept 2 ∷ seen (pos 990) ∷ granted ∷ seen (pos 1000) ∷ [])
    -- with every grant place used an ask waits
    ∷ listed (holding 16 16)
    (close (open_token 1) ∷ begin 2 ∷ ask (open_token 2) 16 (pos 1) ∷ keep 1 ∷ again (wait_token 2) ∷ [])
    (closed 1 ∷ begun 2 ∷ waits ∷ kept 1 ∷ granted ∷ [])
    -- each refusal
    ∷ answered (opened_on 0 64) laying (refused 1)
    ∷ answered (opened_on 513 64) laying (refused 1)
    ∷ answered (opened_on 2 15) laying (refused 1)
    ∷ answered (opened_on 2 2049) laying (refused 1)
    ∷ answered (opened_on 1 16) laying (laid 0)
    ∷ answered (opened_on 512 2048) laying (laid 0)
    ∷ answered opening (lay (pos 10) (pos 9) (pos 10)) (refused 2)
    ∷ answered opening (lay (pos 10) (pos 20) (pos 9)) (refused 2)
    ∷ answered opening (lay (pos 10) (pos 20) (pos 21)) (refused 2)
    ∷ answered opening (lay (pos 0) (pos 1000000000001) (pos 0)) (refused 3)
    ∷ answered untouched (ask (open_token 1) 0 (pos 1000000000001)) (refused 3)
    ∷ answered untouched laying (refused 4)
    ∷ answered (after opening (laying ∷ laying ∷ [])) laying (refused 5)
    ∷ answered untouched (begin 2) (refused 6)
    ∷ answered opening (begin 0) (refused 7)
    ∷ answered untouched (ask (record { house = 8; batch = 1; stage = opened }) 0 (pos 1)) (refused 9)
    ∷ answered untouched (ask (open_token 2) 0 (pos 1)) (refused 9)
    ∷ answered untouched (again (wait_token 1)) (refused 9)
    ∷ answered untouched (ask (open_token 1) 1 (pos 1)) (refused 10)
    ∷ answered untouched (ask (open_token 1) 0 (pos 0)) (refused 11)
    ∷ answered (after untouched (ask (open_token 1) 0 (pos 1) ∷ [])) (ask (open_token 1) 0 (pos 1)) (refused 12)
    ∷ answered two_pending (keep 2) (refused 14)
    ∷ answered two_pending (undo 3) (refused 15)
    -- an ask that waits until the batches before it are settled
    ∷ listed opening
    (laying
    ∷ begin 1 ∷ ask (open_token 1) 0 (negsuc 49) ∷ close (open_token 1)
    ∷ begin 2 ∷ ask (open_token 2) 0 (pos 40) ∷ close (open_token 2)
    ∷ begin 3 ∷ ask (open_token 3) 0 (negsuc 999) ∷ undo 1 ∷ again (wait_token 3) ∷ keep 2 ∷ again (wait_token 3) ∷ close (open_token 3)
    ∷ keep 3 ∷ report 0 ∷ [])
    (laid 0
    ∷ begun 1 ∷ granted ∷ closed 1
    ∷ begun 2 ∷ granted ∷ closed 2
    ∷ begun 3 ∷ waits ∷ undone 1 ∷ waits ∷ kept 2 ∷ granted ∷ closed 3
    ∷ kept 3 ∷ shown (showing (pos 40) (pos 40) (pos 40)) ∷ [])
    ∷ []

unfoldable pub Worked : Type 0
Worked = AllHold examples

-- ---- one script at two schedules

-- the batch's token in house h
abbrev pub open_at : ℕ → Batch → Token
open_at h x = token_of h x opened

abbrev pub wait_at : ℕ → Batch → Token
wait_at h x = token_of h x waiting

abbrev pub spoilt_at : ℕ → Batch → Token
spoilt_at h x = token_of h x spoilt

-- the calls work the whole script, on a ledger of that house and on that shelf, and decide it so
abbrev pub Finished : ℕ → Contents → List Batch → List Decision → List Call → Type 0
Finished house s script decisions cs = (x : Working house gram_limit s (laying ∷ []) script cs) × (AllSettled x.end × (log_of x.end ≡ decisions))

-- three batches; the last of them may have to wait
abbrev pub first : Batch
first = record { number = 1; items = asks 0 (negsuc 49) ∷ []; last = undoes }

abbrev pub second : Batch
second = record { number = 2; items = asks 0 (pos 40) ∷ []; last = keeps }

abbrev pub third : Batch
third = record { number = 3; items = asks 0 (negsuc 999) ∷ []; last = keeps }

abbrev pub plain : List Batch
plain = first ∷ second ∷ third ∷ []

abbrev pub plain_decisions : List Decision
plain_decisions = decision third 0 granted ∷ decision second 0 granted ∷ decision first 0 granted ∷ []

-- the first two are settled while the third waits
abbrev pub plain_late : ℕ → List Call
plain_late h =
    begin 1 ∷ ask (open_at h first) 0 (negsuc 49) ∷ close (open_at h first)
    ∷ begin 2 ∷ ask (open_at h second) 0 (pos 40) ∷ close (open_at h second)
    ∷ begin 3 ∷ ask (open_at h third) 0 (negsuc 999) ∷ undo 1 ∷ again (wait_at h third) ∷ keep 2 ∷ again (wait_at h third) ∷ close (open_at h third)
    ∷ keep 3 ∷ report 0 ∷ []

-- each is settled as soon as it is closed; keep 7 is refused
abbrev pub plain_prompt : ℕ → List Call
plain_prompt h =
    begin 1 ∷ ask (open_at h first) 0 (negsuc 49) ∷ close (open_at h first) ∷ undo 1
    ∷ begin 2 ∷ ask (open_at h second) 0 (pos 40) ∷ close (open_at h second) ∷ keep 7 ∷ keep 2
    ∷ begin 3 ∷ ask (open_at h third) 0 (negsuc 999) ∷ close (open_at h third) ∷ keep 3 ∷ []

-- a look that may have to wait, a refused ask and a refused look, a failed ask with a rest that is skipped, and a batch that is dropped
abbrev pub giver : Batch
giver = record { number = 1; items = asks 0 (pos 40) ∷ []; last = keeps }

abbrev pub failer : Batch
failer = record { number = 2; items = looks 0 ∷ asks 0 (pos 0) ∷ asks 0 (negsuc 1999) ∷ asks 0 (pos 1) ∷ []; last = keeps }

abbrev pub dropper : Batch
dropper = record { number = 3; items = asks 0 (pos 5) ∷ []; last = drops }

abbrev pub looker : Batch
looker = record { number = 4; items = looks 0 ∷ looks 7 ∷ []; last = undoes }

abbrev pub mixed : List Batch
mixed = giver ∷ failer ∷ dropper ∷ looker ∷ []

abbrev pub mixed_decisions : List Decision
mixed_decisions =
    decision looker 0 (seen (pos 1040)) ∷ decision dropper 0 granted ∷ decision failer 2 failed ∷ decision failer 0 (seen (pos 1040)) ∷ decision giver 0 granted ∷ []

-- what both schedules do after the look of the failer was answered
abbrev pub mixed_rest : ℕ → List Call
mixed_rest h =
    ask (open_at h failer) 0 (pos 0) ∷ ask (open_at h failer) 0 (negsuc 1999) ∷ drop (spoilt_at h failer)
    ∷ begin 3 ∷ ask (open_at h dropper) 0 (pos 5) ∷ drop (open_at h dropper)
    ∷ begin 4 ∷ look (open_at h looker) 0 ∷ look (open_at h looker) 7 ∷ close (open_at h looker) ∷ undo 4 ∷ []

abbrev pub mixed_late : ℕ → List Call
mixed_late h =
    begin 1 ∷ ask (open_at h giver) 0 (pos 40) ∷ close (open_at h giver)
    ∷ begin 2 ∷ look (open_at h failer) 0 ∷ again (wait_at h failer) ∷ keep 1 ∷ again (wait_at h failer) ∷ mixed_rest h

abbrev pub mixed_prompt : ℕ → List Call
mixed_prompt h =
    begin 1 ∷ ask (open_at h giver) 0 (pos 40) ∷ close (open_at h giver) ∷ keep 1
    ∷ begin 2 ∷ look (open_at h failer) 0 ∷ mixed_rest h

-- two scripts, each worked at two schedules, on two ledgers
abbrev pub TwoSchedules : Type 0
TwoSchedules =
    Finished 7 (empty_contents 2 64) plain plain_decisions (plain_late 7)
    × Finished 8 (empty_contents 1 16) plain plain_decisions (plain_prompt 8)
    × Finished 7 (empty_contents 2 64) mixed mixed_decisions (mixed_late 7)
    × Finished 8 (empty_contents 1 16) mixed mixed_decisions (mixed_prompt 8)

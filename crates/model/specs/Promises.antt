-- What the ledger promises: each a statement over every house number, limit, sound shelf and list of calls from the opening on.
--   VerdictsExact     an ask is granted, fails or waits as all its outcomes say
--   FiguresExact      INF and SUP are the least and the greatest that any ending leaves, VAL what is left when all are kept
--   SchedulesAlike    one script, worked at two schedules, is decided alike, and leaves equal bins
--   NoIdleWait        with no closed batch left again never answers waits
--   SumsInRange       no sum lies outside twice the limit
--   OthersAreRivals   asking the closed batches is asking every other batch
--   UnfitRefuses      a ledger opened on an unfit shelf refuses every call
use Rattle.std.specs.Prelude.{◌≡◌, ℕ, ◌*◌, ◌<◌, true, false, List, [], length, ℤ, Some, None, Decides, Option, ◌≢◌}
use Rattle.shelf.specs.Contents.{Figures, Contents, Sound, Another}
use Rattle.model.specs.Ledger.{State, Token, Active, Call, Answer, fit_shelf, opens, step, bin_at, rivals, vacant, working, asking, looking, spoiled, ask, again, waits, refused}
use Rattle.model.specs.Journal.{Journal, blank, leaves, Judged, LeastOf, GreatestOf}
use Rattle.model.specs.Runs.{after, told, journal_at}
use Rattle.model.specs.Script.{Batch, Rising, Progress, Logged, log_of, AllSettled, lays, Working}
use Rattle.model.specs.Sums.{sums_of, EachInside}

-- a statement of a ledger and its journal, after every list of calls from every opening
abbrev pub Always : (State → Journal → Type 0) → Type 0
Always P = (house limit : ℕ) (s : Contents) → Sound s → (cs : List Call) → P (after (opens house limit s) cs) (journal_at house limit s cs)

-- ---- verdicts

abbrev pub NotRefused : Answer → Type 0
NotRefused a = (r : ℕ) → a ≢ refused r

-- of an ask that comes next
abbrev pub AskExact : State → Journal → Type 0
AskExact m w = (p : Token) (b : ℕ) (d : ℤ) → NotRefused (step m (ask p b d)).0 → Judged m.shelf.grant_capacity w b d (step m (ask p b d)).0

-- of an again on a held ask
abbrev pub AgainExact : State → Journal → Type 0
AgainExact m w =
    (p : Token) (n b : ℕ) (d : ℤ)
    → m.active ≡ asking n b d → NotRefused (step m (again p)).0 → Judged m.shelf.grant_capacity w b d (step m (again p)).0

-- the held ask is the one that the journal noted
abbrev pub HeldNoted : State → Journal → Type 0
HeldNoted m w = (n b : ℕ) (d : ℤ) → m.active ≡ asking n b d → w.noted ≡ record { bin = b; batch = n; amount = d }

abbrev pub VerdictsAt : State → Journal → Type 0
VerdictsAt m w = AskExact m w × AgainExact m w × HeldNoted m w

abbrev pub VerdictsExact : Type 0
VerdictsExact = Always VerdictsAt

-- ---- figures

-- the figures of a bin that the journal has as its bin b
abbrev pub FiguresOf : Journal → ℕ → Figures → Type 0
FiguresOf w b x = LeastOf w b x.inf × GreatestOf w b x.sup × (leaves w b (λ k. true) ≡ x.val)

-- of every bin of a ledger that was opened on a fit shelf
abbrev pub FiguresAt : State → Journal → Type 0
FiguresAt m w = m.fit ≡ true → (b : ℕ) → b < length m.shelf.bins → FiguresOf w b (bin_at m.shelf.bins b)

abbrev pub FiguresExact : Type 0
FiguresExact = Always FiguresAt

-- ---- schedules

-- an item that stands in both logs stands in them with one answer
abbrev pub DecidedAlike : Progress → Progress → Type 0
DecidedAlike p q =
    (n i : ℕ) (a b : Answer)
    → Logged (record { batch = n; item = i; said = a }) (log_of p) → Logged (record { batch = n; item = i; said = b }) (log_of q) → a ≡ b

-- the bins of a ledger that was laid by ls and then worked by cs
abbrev pub bins_after : ℕ → ℕ → Contents → List Call → List Call → List Figures
bins_after house limit s ls cs = (after (after (opens house limit s) ls) cs).shelf.bins

-- two ledgers of one kind, laid alike, that work one script; houses and capacities may differ
abbrev pub SchedulesAlike : Type 0
SchedulesAlike =
    (limit : ℕ) (house₁ house₂ : ℕ) (s₁ s₂ : Contents) → Sound s₁ → Sound s₂
    → (ls₁ ls₂ : List Call) → lays (told (opens house₁ limit s₁) ls₁) ≡ lays (told (opens house₂ limit s₂) ls₂)
    → (script : List Batch) → Rising 0 script
    → (cs₁ cs₂ : List Call) (x₁ : Working house₁ limit s₁ ls₁ script cs₁) (x₂ : Working house₂ limit s₂ ls₂ script cs₂)
    → DecidedAlike x₁.end x₂.end
    × (AllSettled x₁.end → AllSettled x₂.end → bins_after house₁ limit s₁ ls₁ cs₁ ≡ bins_after house₂ limit s₂ ls₂ cs₂)

-- ---- waiting

abbrev pub NoIdleWait : Type 0
NoIdleWait = Always (λ m w. (p : Token) → m.queue ≡ [] → (step m (again p)).0 ≢ waits)

-- ---- sums

abbrev pub SumsInRange : Type 0
SumsInRange = Always (λ m w. (c : Call) → EachInside (2 * m.limit) (sums_of m c))

-- ---- other batches

abbrev pub batch_of : Active → Option ℕ
batch_of vacant = None
batch_of (working n) = Some n
batch_of (asking n b d) = Some n
batch_of (looking n b) = Some n
batch_of (spoiled n) = Some n

-- while batch n is active, a closed batch holds a grant in bin b exactly when some batch other than n does
abbrev pub RivalsAt : State → Type 0
RivalsAt m = (n b : ℕ) → batch_of m.active ≡ Some n → Decides (rivals m b) (Another m.shelf b n)

abbrev pub OthersAreRivals : Type 0
OthersAreRivals = Always (λ m w. RivalsAt m)

-- ---- an unfit shelf

-- every call is refused, nothing changes, and the journal stays blank
abbrev pub UnfitRefuses : Type 0
UnfitRefuses =
    (house limit : ℕ) (s : Contents) → fit_shelf s ≡ false → (cs : List Call)
    → ((c : Call) → step (after (opens house limit s) cs) c ≡ (refused 1, opens house limit s)) × (journal_at house limit s cs ≡ blank)

-- The journal of a ledger, fed with its calls and their answers alone: what any ending of a bin leaves, and whether an ask lands.
--   Base, Entry, Journal    a bin with its base; a granted ask; bases, entries and the ask that waits
--   mark, feed, fed         what an answer means to the journal; the journal after one call, after a list of them
--   Ending, leaves          which batches are kept; what is then left in a bin
--   outcome, Lands          an ending with an ask on top; between floor and ceiling
--   EveryLands, NoneLands   every outcome lands; none does
--   PlaceFree               fewer entries than the grant capacity
--   Judged                  an ask is answered as its outcomes say
--   LeastOf, GreatestOf     the least and the greatest that any ending leaves
use Rattle.std.specs.Prelude.{◌≡◌, ℕ, ◌<◌, Bool, cond, ◌&&◌, ◌↔◌, List, [], ◌∷◌, ◌++◌, length, ℤ, pos, ◌+ℤ◌, ◌≤ℤ◌, ◌==◌, ◌≢◌, slice_index_or}
use Rattle.model.specs.Ledger.{Call, Answer, touch}
use Rattle.model.specs.Ledger.{lay, begin, ask, look, again, close, drop, keep, undo, report}
use Rattle.model.specs.Ledger.{laid, begun, closed, dropped, kept, undone, granted, failed, waits, seen, shown, refused}

-- a bin as the journal has it: its base is its start, and later what kept batches made of it
pub record Base : Type 0 where
  pub floor : ℤ
  pub ceiling : ℤ
  pub base : ℤ

-- a granted ask of a batch that is not settled
pub record Entry : Type 0 where
  pub bin : ℕ
  pub batch : ℕ
  pub amount : ℤ

-- the bins, the entries with the newest first, and the last ask that was told to wait
pub record Journal : Type 0 where
  pub bases : List Base
  pub entries : List Entry
  pub noted : Entry

abbrev pub no_base : Base
no_base = record { floor = pos 0; ceiling = pos 0; base = pos 0 }

abbrev pub base_at : List Base → ℕ → Base
base_at xs b = slice_index_or xs b no_base

-- the journal of a ledger that was just opened
abbrev pub blank : Journal
blank = record { bases = []; entries = []; noted = record { bin = 0; batch = 0; amount = pos 0 } }

-- ---- what is written

-- each entry of batch n changes, by f, the element of its bin
abbrev pub each_of : {A : Type 0} → (A → ℤ → A) → A → ℕ → List Entry → List A → List A
each_of f z n [] xs = xs
each_of f z n (r ∷ rs) xs = cond (r.batch == n) (touch f z r.bin r.amount (each_of f z n rs xs)) (each_of f z n rs xs)

-- the entries without those of batch n
abbrev pub wipe : ℕ → List Entry → List Entry
wipe n [] = []
wipe n (r ∷ rs) = cond (r.batch == n) (wipe n rs) (r ∷ wipe n rs)

abbrev pub add_base : Base → ℤ → Base
add_base l d = record { floor = l.floor; ceiling = l.ceiling; base = l.base +ℤ d }

-- the entries of batch n added to the bases of their bins
abbrev pub add_bases : ℕ → List Entry → List Base → List Base
add_bases n rs xs = each_of add_base no_base n rs xs

abbrev pub add_bin : Journal → Base → Journal
add_bin w l = record { bases = w.bases ++ (l ∷ []); entries = w.entries; noted = w.noted }

abbrev pub write : Journal → Entry → Journal
write w r = record { bases = w.bases; entries = r ∷ w.entries; noted = w.noted }

abbrev pub note : Journal → Entry → Journal
note w r = record { bases = w.bases; entries = w.entries; noted = r }

abbrev pub wipe_off : Journal → ℕ → Journal
wipe_off w n = record { bases = w.bases; entries = wipe n w.entries; noted = w.noted }

abbrev pub keep_all : Journal → ℕ → Journal
keep_all w n = record { bases = add_bases n w.entries w.bases; entries = wipe n w.entries; noted = w.noted }

-- what an answer means to the journal: the call took effect, or its ask waits, or neither
pub data Mark : Type 0 where
  effective pending neither : Mark

abbrev pub mark : Answer → Mark
mark (laid n) = effective
mark (begun n) = effective
mark (closed n) = effective
mark (dropped n) = effective
mark (kept n) = effective
mark (undone n) = effective
mark granted = effective
mark failed = neither
mark waits = pending
mark (seen v) = neither
mark (shown x) = neither
mark (refused r) = neither

-- the journal w, or y where the call took effect, or h where its ask waits
abbrev pub on_mark : Mark → Journal → Journal → Journal → Journal
on_mark effective w y h = y
on_mark pending w y h = h
on_mark neither w y h = w

-- accepted lays add bins, granted asks add entries, and an ask that waits is remembered;
-- settling removes a batch's entries, which a keep has put into the bases before
unfoldable pub feed : Journal → Call → Answer → Journal
feed w (lay low high start) a = on_mark (mark a) w (add_bin w (record { floor = low; ceiling = high; base = start })) w
feed w (begin n) a = w
feed w (ask p b d) a =
    on_mark (mark a) w (write w (record { bin = b; batch = p.batch; amount = d })) (note w (record { bin = b; batch = p.batch; amount = d }))
feed w (look p b) a = w
feed w (again p) a = on_mark (mark a) w (write w w.noted) w
feed w (close p) a = w
feed w (drop p) a = on_mark (mark a) w (wipe_off w p.batch) w
feed w (keep n) a = on_mark (mark a) w (keep_all w n) w
feed w (undo n) a = on_mark (mark a) w (wipe_off w n) w
feed w (report b) a = w

abbrev pub fed : Journal → List (Call × Answer) → Journal
fed w [] = w
fed w (x ∷ xs) = fed (feed w x.0 x.1) xs

-- ---- endings and outcomes

-- an ending says of each batch whether it is kept; the others are undone
abbrev pub Ending : Type 0
Ending = ℕ → Bool

-- an amount where the test passes, else nothing
abbrev pub only : Bool → ℤ → ℤ
only t d = cond t d (pos 0)

-- the sum over the entries of what f makes of each
abbrev pub total : (Entry → ℤ) → List Entry → ℤ
total f [] = pos 0
total f (r ∷ rs) = f r +ℤ total f rs

-- what an ending leaves in bin b: the base and the kept entries
abbrev pub leaves : Journal → ℕ → Ending → ℤ
leaves w b keeps = (base_at w.bases b).base +ℤ total (λ r. only (r.bin == b && keeps r.batch) r.amount) w.entries

-- an outcome of an ask for d in bin b: what an ending leaves, and d
abbrev pub outcome : Journal → ℕ → ℤ → Ending → ℤ
outcome w b d keeps = leaves w b keeps +ℤ d

-- not below the floor of bin b and not above its ceiling
abbrev pub Lands : Journal → ℕ → ℤ → Type 0
Lands w b e = ((base_at w.bases b).floor ≤ℤ e) × (e ≤ℤ (base_at w.bases b).ceiling)

abbrev pub EveryLands : Journal → ℕ → ℤ → Type 0
EveryLands w b d = (keeps : Ending) → Lands w b (outcome w b d keeps)

abbrev pub NoneLands : Journal → ℕ → ℤ → Type 0
NoneLands w b d = (keeps : Ending) → Lands w b (outcome w b d keeps) → ⊥

-- a grant place is free under that capacity
abbrev pub PlaceFree : ℕ → Journal → Type 0
PlaceFree capacity w = length w.entries < capacity

-- granted exactly when every outcome lands and a grant place is free, failed exactly when none lands, and otherwise it waits
abbrev pub Judged : ℕ → Journal → ℕ → ℤ → Answer → Type 0
Judged capacity w b d a =
    ((a ≡ granted) ↔ (EveryLands w b d × PlaceFree capacity w))
    × ((a ≡ failed) ↔ NoneLands w b d)
    × ((a ≢ granted) → (a ≢ failed) → a ≡ waits)

-- v is the least that any ending leaves in bin b, and some ending leaves it
abbrev pub LeastOf : Journal → ℕ → ℤ → Type 0
LeastOf w b v = ((keeps : Ending) → v ≤ℤ leaves w b keeps) × ((keeps : Ending) × (leaves w b keeps ≡ v))

-- v is the greatest that any ending leaves in bin b, and some ending leaves it
abbrev pub GreatestOf : Journal → ℕ → ℤ → Type 0
GreatestOf w b v = ((keeps : Ending) → leaves w b keeps ≤ℤ v) × ((keeps : Ending) × (leaves w b keeps ≡ v))

-- What a run prints for what it reads.
--   opening_of  the house that a line opens
--   served      what an open house prints for its lines
--   unopened    what is printed while no house is open, and then by the house
--   output      what is printed for a text
use Rattle.std.specs.Prelude.{ℕ, Bool, true, false, cond, ◌&&◌, List, [], ◌∷◌, ◌++◌, length, None, Ok, Err, codes, Result, nat_lt}
use Rattle.refusal.specs.declared.Refusal.{Refusal}
use Rattle.refusal.specs.declared.Refusal.TheVariants.{Unreadable, UnfitShelf}
use Rattle.refusal.specs.Table.{refusal_text}
use Rattle.shelf.specs.Contents.{empty_contents}
use Rattle.model.specs.Ledger.{State, fit_capacities, opens}
use Rattle.forms.specs.declared.calls.Kind.{Kind}
use Rattle.forms.specs.declared.calls.Layout.{Layout}
use Rattle.forms.specs.declared.calls.Layout.TheVariants.{Flat, Chain}
use Rattle.forms.specs.declared.calls.HouseForm.{HouseForm}
use Rattle.forms.specs.declared.calls.Call.{Call}
use Rattle.forms.specs.declared.calls.Call.TheVariants.{House, Lay, Report}
use Rattle.forms.specs.Reading.{read_of}
use Rattle.house.specs.Kinds.{limit_of}
use Rattle.house.specs.Lines.{lines_of}
use Rattle.house.specs.Serving.{serve_line}
use Rattle.house.specs.Text.{numbered}

-- at most so many bytes are read
abbrev pub most_bytes : ℕ
most_bytes = 65536

-- a line as it is printed
abbrev pub printed : List ℕ → List ℕ
printed text = text ++ 10 ∷ []

-- the layouts that are built: a chained shelf has no places yet
abbrev pub built : Layout → Bool
built Flat = true
built Chain = false

-- the house that a line opens, by what was read: one on a fit shelf
abbrev pub opened_by : Result Call ℕ → Result HouseForm Refusal
opened_by (Ok (House h)) = cond (fit_capacities h.bins h.grants && built h.layout) (Ok h) (Err UnfitShelf)
opened_by (Ok (Lay min max start)) = Err (Unreadable 0)
opened_by (Ok (Report bin)) = Err (Unreadable 0)
opened_by (Err place) = Err (Unreadable place)

unfoldable pub opening_of : List ℕ → Result HouseForm Refusal
opening_of line = opened_by (read_of None line)

-- the ledger of a house as it is opened, on an empty shelf
abbrev pub ledger_of : HouseForm → State
ledger_of h = opens h.house (limit_of h.kind) (empty_contents h.bins h.grants)

-- what an open house prints for its lines
abbrev pub served : Kind → State → List (List ℕ) → List ℕ
served k s [] = []
served k s (line ∷ lines) = printed (serve_line k s line).0 ++ served k (serve_line k s line).1 lines

-- a line that opens a house is followed by what that house prints, any other by what comes of the rest
abbrev pub on_opening : Result HouseForm Refusal → List ℕ → List (List ℕ) → List ℕ
on_opening (Ok h) rest lines = printed (numbered (codes "(opened ") h.house) ++ served h.kind (ledger_of h) lines
on_opening (Err why) rest lines = printed (refusal_text why) ++ rest

-- what is printed while no house is open
abbrev pub unopened : List (List ℕ) → List ℕ
unopened [] = []
unopened (line ∷ lines) = on_opening (opening_of line) (unopened lines) lines

-- what is printed for a text
abbrev pub output : List ℕ → List ℕ
output text = cond (nat_lt most_bytes (length text)) (printed (codes "(too long)")) (unopened (lines_of text))

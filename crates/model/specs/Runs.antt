-- A ledger over a list of calls: where they lead it, what it answers, and its journal.
--   after       the ledger after the calls
--   told        the calls with their answers
--   journal_at  the journal from the opening on
--   Reached     the calls have led a ledger, from its opening on some shelf, to where this one stands
use Rattle.std.specs.Prelude.{◌≡◌, ℕ, List, [], ◌∷◌}
use Rattle.shelf.specs.Contents.{Contents, Sound}
use Rattle.model.specs.Ledger.{State, Call, Answer, opens, step}
use Rattle.model.specs.Journal.{Journal, blank, fed}

abbrev pub after : State → List Call → State
after m [] = m
after m (c ∷ cs) = after (step m c).1 cs

abbrev pub told : State → List Call → List (Call × Answer)
told m [] = []
told m (c ∷ cs) = (c, (step m c).0) ∷ told (step m c).1 cs

abbrev pub journal_at : ℕ → ℕ → Contents → List Call → Journal
journal_at house limit s cs = fed blank (told (opens house limit s) cs)

abbrev pub Reached : State → List Call → Type 0
Reached m cs = (s : Contents) × (Sound s × (m ≡ after (opens m.house m.limit s) cs))

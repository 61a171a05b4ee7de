-- What a line is answered: by the reader's definition, the reference ledger and the text of answers.
use Rattle.std.specs.Prelude.{◌≡◌, ℕ, List, ℤ, Some, Ok, Err, Result}
use Rattle.refusal.specs.declared.Refusal.{Refusal}
use Rattle.refusal.specs.declared.Refusal.TheVariants.{Unreadable}
use Rattle.refusal.specs.Table.{refusal_text}
use Rattle.model.specs.Ledger.{State, step, lay, report}
use Rattle.model.specs.Ledger.{Call as Asked}
use Rattle.model.specs.Runs.{Reached}
use Rattle.ledger.specs.declared.requests.Request.{Request}
use Rattle.ledger.specs.Requests.{call_of}
use Rattle.forms.specs.declared.calls.Kind.{Kind}
use Rattle.forms.specs.declared.calls.Call.{Call}
use Rattle.forms.specs.declared.calls.Call.TheVariants.{House, Lay, Report}
use Rattle.forms.specs.Reading.{read_of}
use Rattle.house.specs.declared.answer.Answer.{Answer}
use Rattle.house.specs.Kinds.{makes}
use Rattle.house.specs.Text.{answer_text, said_text}

-- ---- what is asked

-- lay, with its amounts as they were made in written order
abbrev pub lay_with : Result ℤ Refusal → Result ℤ Refusal → Result ℤ Refusal → Result Asked Refusal
lay_with (Err why) y z = Err why
lay_with (Ok low) (Err why) z = Err why
lay_with (Ok low) (Ok high) (Err why) = Err why
lay_with (Ok low) (Ok high) (Ok start) = Ok (lay low high start)

-- the call of the reference ledger that a line's call makes in a house of kind k; a house is not opened twice
abbrev pub request_of : Kind → Call → Result Asked Refusal
request_of k (House h) = Err (Unreadable 0)
request_of k (Lay min max start) = lay_with (makes k min) (makes k max) (makes k start)
request_of k (Report bin) = Ok (report bin)

abbrev pub asked : {K : Type 0} → (K → ℤ) → Result (Request K) Refusal → Result Asked Refusal
asked f (Ok r) = Ok (call_of f r)
asked f (Err why) = Err why

-- the bin that a call names
abbrev pub bin_in : Call → ℕ
bin_in (House h) = 0
bin_in (Lay min max start) = 0
bin_in (Report bin) = bin

-- ---- what is answered

abbrev pub result_text : Result Answer Refusal → List ℕ
result_text (Ok a) = answer_text a
result_text (Err why) = refusal_text why

-- the text and the ledger after a call, by what it asks
abbrev pub serve_call : Kind → State → ℕ → Result Asked Refusal → List ℕ × State
serve_call k s b (Ok c) = (said_text k b (step s c).0, (step s c).1)
serve_call k s b (Err why) = (refusal_text why, s)

-- the same of a line as it was read
abbrev pub serve_read : Kind → State → Result Call ℕ → List ℕ × State
serve_read k s (Ok c) = serve_call k s (bin_in c) (request_of k c)
serve_read k s (Err place) = (refusal_text (Unreadable place), s)

unfoldable pub serve_line : Kind → State → List ℕ → List ℕ × State
serve_line k s line = serve_read k s (read_of (Some k) line)

-- wherever calls have led a ledger to s, the text and the ledger after it are those of x, and calls lead there
abbrev pub Served : State → List ℕ → State → List ℕ × State → Type 0
Served s text s' x = (cs : List Asked) → Reached s cs → ((text, s') ≡ x) × ((ds : List Asked) × Reached s' ds)

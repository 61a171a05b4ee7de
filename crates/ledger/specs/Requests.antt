-- Requests and what is said, as calls and answers of the reference ledger.
use Rattle.std.specs.Prelude.{ℤ, Ok, Err, Result}
use Rattle.refusal.specs.declared.Refusal.{Refusal}
use Rattle.refusal.specs.Table.{number_of}
use Rattle.shelf.specs.Bins.{figures}
use Rattle.model.specs.Ledger.{Call, Answer, lay, report, laid, shown, refused}
use Rattle.ledger.specs.declared.requests.Request.{Request}
use Rattle.ledger.specs.declared.requests.Request.TheVariants.{Lay, Report}
use Rattle.ledger.specs.declared.requests.Said.{Said}
use Rattle.ledger.specs.declared.requests.Said.TheVariants.{Laid, Shown}

abbrev pub call_of : {K : Type 0} → (K → ℤ) → Request K → Call
call_of f (Lay bin) = lay (f bin.min) (f bin.max) (f bin.start)
call_of f (Report bin) = report bin

abbrev pub said_of : {K : Type 0} → (K → ℤ) → Result (Said K) Refusal → Answer
said_of f (Ok (Laid bin)) = laid bin
said_of f (Ok (Shown bin)) = shown (figures f bin)
said_of f (Err why) = refused (number_of why)

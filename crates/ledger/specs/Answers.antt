-- What each call's result answers, with the numbers of its refusals.
use Rattle.std.specs.Prelude.{ℕ, ℤ, Ok, Err, Result}
use Rattle.refusal.specs.declared.Refusal.{Refusal}
use Rattle.refusal.specs.Table.{number_of}
use Rattle.shelf.specs.declared.records.Bin.{Bin}
use Rattle.shelf.specs.Bins.{figures}
use Rattle.model.specs.Ledger.{Answer, laid, shown, refused}

abbrev pub laid_by : Result ℕ Refusal → Answer
laid_by (Ok bin) = laid bin
laid_by (Err why) = refused (number_of why)

abbrev pub shown_by : {K : Type 0} → (K → ℤ) → Result (Bin K) Refusal → Answer
shown_by f (Ok bin) = shown (figures f bin)
shown_by f (Err why) = refused (number_of why)

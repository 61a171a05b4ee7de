-- The reference ledger that a ledger means.
use Rattle.std.specs.Prelude.{ℕ, []}
use Rattle.shelf.specs.Contents.{Contents}
use Rattle.model.specs.Ledger.{State, vacant}
use Rattle.ledger.specs.declared.state.Ledger.{Ledger}

-- by the limit of its kind of amount and by what its shelf holds; no batch can be begun yet
abbrev pub state : {S : Type 0} → ℕ → (S → Contents) → Ledger S → State
state limit contents l =
    record { house = l.house; limit = limit; fit = l.fit; last = l.last; shelf = contents l.shelf; queue = []; active = vacant }

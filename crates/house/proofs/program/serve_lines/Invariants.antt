use Rattle.std.proofs.Common.{◌≡◌, List, ◌++◌, string_bytes}
use Rattle.model.specs.Ledger.{Call}
use Rattle.model.specs.Runs.{Reached}
use Rattle.ledger.specs.Meaning.{state}
use Rattle.house.specs.Run.{served}
use Rattle.house.proofs.program.serve_lines.Given as goal

abbrev pub invariant-loop-line : goal.invariant-loop-line
invariant-loop-line g l =
    (cs : List Call) → Reached (state g.K.Amount.limit g.S.Shelf.contents l.initial.ledger) cs
    → (string_bytes l.out ++ served g.K.Written.KIND (state g.K.Amount.limit g.S.Shelf.contents l.ledger) l.line-iterator
    ≡ string_bytes l.initial.out ++ served g.K.Written.KIND (state g.K.Amount.limit g.S.Shelf.contents l.initial.ledger) l.fn.lines)
    × ((ds : List Call) × Reached (state g.K.Amount.limit g.S.Shelf.contents l.ledger) ds)

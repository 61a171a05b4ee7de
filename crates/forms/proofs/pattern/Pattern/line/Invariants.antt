use Rattle.std.proofs.Common.{drop}
use Rattle.forms.specs.Patterns.{pieces}
use Rattle.forms.proofs.Made.{Made}
use Rattle.forms.proofs.pattern.Pattern.line.Given as goal

abbrev pub invariant-loop-b : goal.invariant-loop-b
invariant-loop-b l = Made (pieces l.self.bytes.now) l.numbers (drop l.b-index (pieces l.self.bytes.now)) l.left l.line.items

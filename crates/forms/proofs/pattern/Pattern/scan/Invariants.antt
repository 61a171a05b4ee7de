use Rattle.std.proofs.Common.{drop}
use Rattle.forms.specs.Patterns.{pieces}
use Rattle.forms.proofs.Sofar.{Sofar}
use Rattle.forms.proofs.pattern.Pattern.scan.Given as goal

abbrev pub invariant-loop-b : goal.invariant-loop-b
invariant-loop-b l = Sofar (pieces l.self.bytes.now) l.line (drop l.b-index (pieces l.self.bytes.now)) l.cursor l.found.items

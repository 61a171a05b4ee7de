use Rattle.std.proofs.Common.{take}
use Rattle.forms.proofs.Tries.{Tried}
use Rattle.forms.proofs.reader.call_in.Given as goal

abbrev pub invariant-loop-form : goal.invariant-loop-form
invariant-loop-form l = Tried (take l.form-index l.form-items) l.line l.fault.place

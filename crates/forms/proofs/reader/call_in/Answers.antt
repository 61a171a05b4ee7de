use Rattle.std.proofs.Common.{◌∙◌, arith, take_all, rules}
use Rattle.forms.proofs.Tries.{tried_at, all_tried, reads_at}
use Rattle.forms.proofs.reader.call_in.Goals as goal

pub loop-form-preserved : goal.loop-form-preserved
loop-form-preserved c = tried_at _ _ _ _ _ _ _ (omega arith) (search rules) c.loop-form.invariant (rw c.pattern.ensures at c.in-Err.ensures)

pub returns : goal.returns
returns c =
    let all = take_all c.loop-form.form-index c.forms-form-items.result.now (omega arith) ∙ c.forms-form-items.ensures in
    let f = all_tried c.args.opened c.args.line.now c.loop-form.fault.place (rw all at c.loop-form.invariant) in
    f

pub returns-in-Ok : goal.returns-in-Ok
returns-in-Ok c = reads_at _ _ _ _ _ _ _ _ (omega arith) c.forms-form-items.ensures c.deref.ensures.0 c.call.ensures (rw c.pattern.ensures at c.in-Ok.ensures)

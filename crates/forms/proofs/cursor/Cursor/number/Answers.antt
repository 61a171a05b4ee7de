use Rattle.std.proofs.Common.{◌≡◌, ◌+◌, true, drop, rules, arith}
use Rattle.std.proofs.lemmas.Result.{err_from_is_err_and}
use Rattle.forms.specs.Numbers.{Stands, first}
use Rattle.forms.proofs.Patterns.{missing_plain, missing_minus}
use Rattle.forms.proofs.cursor.Cursor.number.Goals as goal
use Rattle.forms.proofs.cursor.Cursor.number.Goals.{else-bounds-via-then-bounds+else-is_ok, else-bounds-via-else-bounds}

pub returns-in_err-size-clause-next : goal.returns-in_err-size-clause-next
returns-in_err-size-clause-next c =
    let p = err_from_is_err_and c.from_residual.result c.from_residual.ensures.1 in
    let s = c.args.self.now in
    let t : Stands s.line.now s.at 45 × (c.text.new.self.at ≡ s.at + 1) = search rules in
    let e = c.in_err-size.ensures.next in
    rw (p.1, p.2, e.0, t.1, c.if-bounds.true) (missing_minus c.args.bounds.limit s.line.now s.at c.args.bounds.limited t.0 (rw (t.1, c.text.ensures.line) at e.1))

pub returns-in_err-size-2-clause-next : goal.returns-in_err-size-2-clause-next
returns-in_err-size-2-clause-next c =
    let p = err_from_is_err_and c.from_residual-in_err-size-2.result c.from_residual-in_err-size-2.ensures.1 in
    let s = c.args.self.now in
    let e = c.in_err-size-2.ensures.next in
    let same : (c.else-bounds.self.at ≡ s.at) × (c.else-bounds.self.line.now ≡ s.line.now) = search rules in
    let plain : c.args.bounds.minus ≡ true → first (drop s.at s.line.now) ≡ 45 → ⊥ = search rules in
    rw (p.1, p.2, e.0, same.0) (missing_plain c.args.bounds.limit c.args.bounds.minus s.line.now s.at (omega arith) (rw (same.0, same.1) at e.1) plain)

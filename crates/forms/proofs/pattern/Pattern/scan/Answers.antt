use Rattle.std.proofs.Common.{◌+◌, [], ◌∷◌, ◌++◌, drop, ap, ◌∙◌, arith, w64, SFits, rules}
use Rattle.std.proofs.lemmas.Int.{to_z-of_z}
use Rattle.std.proofs.lemmas.Result.{err_from_is_err_and}
use Rattle.forms.specs.Patterns.{number, pieces}
use Rattle.forms.proofs.Sofar.{Sofar, start, at_piece, text_more, text_fails, number_more, number_fails, end_fails, done}
use Rattle.forms.proofs.pattern.Pattern.scan.Goals as goal
use Rattle.forms.proofs.pattern.Pattern.scan.Goals.{In-Some, In-None, in-Some+in_ok-number-in-Some, in-None+in_ok-text-in-None}

-- a number is next
number_here : (c : In-Some) → Sofar (pieces c.args.self.bytes.now) c.args.line.now (number c.in-Some.bounds.limit c.in-Some.bounds.minus ∷ drop (c.loop-b.b-index + 1) (pieces c.args.self.bytes.now)) c.loop-b.cursor c.loop-b.found.items
number_here c = at_piece c.args.self.bytes.now _ c.loop-b.b-index c.loop-b.invariant _ (omega arith) c.in-Some.ensures

pub loop-b-init : goal.loop-b-init
loop-b-init c = rw c.new-found.ensures (start (pieces c.args.self.bytes.now) c.args.line.now c.new-cursor.result c.args.self.sound c.args.self.few c.new-cursor.ensures)

pub returns-in_err-number-in-Some : goal.returns-in_err-number-in-Some
returns-in_err-number-in-Some c =
    let p = err_from_is_err_and c.from_residual.result c.from_residual.ensures.1 in
    rw (p.1, p.2) (number_fails (number_here (goal.at.returns-in_err-number-in-Some c).In-Some) _ c.in_err-number-in-Some.ensures.next)

pub push-requires : goal.push-requires
push-requires c = let s = number_here (goal.at.push-requires c).In-Some in (omega arith, omega (arith, s.room))

pub returns-in_err-text-in-None : goal.returns-in_err-text-in-None
returns-in_err-text-in-None c =
    let p = err_from_is_err_and c.from_residual-in_err-text-in-None.result c.from_residual-in_err-text-in-None.ensures.1 in
    let n = c.in_err-text-in-None.ensures.next in
    rw (p.1, p.2, n.0) (text_fails (at_piece _ _ c.loop-b.b-index c.loop-b.invariant _ (omega arith) c.in-None.ensures) n.1)

pub loop-b-preserved : goal.loop-b-preserved
loop-b-preserved c = elim c.match-field.branch [
  | in-Some+in_ok-number-in-Some w ↦
      let s = at_piece _ _ c.loop-b.b-index c.loop-b.invariant _ (omega arith) w.in-Some.ensures in
      let n = w.in_ok-number-in-Some.ensures in
      let z = w.in_ok-number-in-Some.field-0 in
      let fits : SFits w64 z = search rules in
      let v = w.push.ensures.items ∙ ap (λ y. c.loop-b.found.items ++ (y ∷ [])) (to_z-of_z w64 _ fits) in
      rw (w.cursor-is, w.found-is) (number_more s _ z _ (omega (arith, w.in-Some.bounds.limited)) n.line n.next v)
  | in-None+in_ok-text-in-None w ↦
      let s = at_piece _ _ c.loop-b.b-index c.loop-b.invariant _ (omega arith) w.in-None.ensures in
      let n = w.in_ok-text-in-None.ensures in
      rw (w.cursor-is, w.found-is) (text_more s _ n.line n.next)
]

pub returns-in_err-end : goal.returns-in_err-end
returns-in_err-end c =
    let p = err_from_is_err_and c.from_residual-in_err-end.result c.from_residual-in_err-end.ensures.1 in
    let n = c.in_err-end.ensures in
    rw (p.1, p.2, n.0) (end_fails _ _ c.loop-b.b-index c.loop-b.invariant (omega arith) n.1)

pub returns : goal.returns
returns c = done _ _ c.loop-b.b-index c.loop-b.invariant (omega arith) c.in_ok-end.ensures

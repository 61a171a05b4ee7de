use Rattle.std.proofs.Common.{◌≡◌, ◌∷◌, length, drop, arith, rules}
use Rattle.std.proofs.lemmas.Slice.{between_to_end}
use Rattle.forms.proofs.Numbers.{counted_at}
use Rattle.forms.proofs.cursor.Cursor.digits.Goals as goal

pub returns-in-Some-clause-next : goal.returns-in-Some-clause-next
returns-in-Some-clause-next c =
    let xs = c.args.self.now.line.now in
    let at = c.args.self.now.at in
    let here : drop at xs ≡ c.in-Some.digit.now ∷ c.in-Some.rest.now = rw (between_to_end xs at (length xs) (omega arith)) at c.in-Some.ensures.cases.0 in
    counted_at _ _ _ _ _ at xs _ (search rules) here c.digits-size.ensures.number

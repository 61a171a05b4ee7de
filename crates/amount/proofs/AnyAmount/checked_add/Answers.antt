use Rattle.std.proofs.Common.{◌*◌, ◌∙◌, ap, arith}
use Rattle.std.proofs.lemmas.Int.{ints}
use Rattle.amount.specs.Range.{if_inside}
use Rattle.amount.proofs.AnyAmount.checked_add.Goals as goal

pub returns : goal.returns
returns g c =
    let p = g.met.N.Counted.bounded c.args.self in
    let q = g.met.N.Counted.bounded c.args.other in
    let s = g.met.N.Counted.small in
    c.of_number.ensures ∙ ap (if_inside (2 * g.N.Counted.LIMIT)) (grind (arith, ints))

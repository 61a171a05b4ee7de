use Rattle.std.proofs.Common.{◌≡◌, ◌+◌, ◌-◌, ◌*◌, ◌<◌, ◌∷◌, slice_index, ap, arith}
use Rattle.std.proofs.lemmas.Fmt.{decimal_digit}
use Rattle.forms.proofs.Numbers.{digits_more}
use Rattle.forms.proofs.number.Bounds.digits.Goals as goal

pub loop-len-init : goal.loop-len-init
loop-len-init c =
    let v = c.from-value.result in
    let small : v < 10 = omega arith in
    record { fits = omega arith; front = rw decimal_digit (ap (λ b. b ∷ c.args.rest.now) (omega arith)); leads = λ h. omega arith }

pub loop-len-preserved : goal.loop-len-preserved
loop-len-preserved c =
    let xs = c.args.rest.now in
    let v = c.loop-len.value in
    let i = c.loop-len.len in
    let g = c.in-Some.ensures in
    let e : c.in-Some.more ≡ 10 * v + (slice_index xs i - 48) = g.1 in
    record {
      fits = omega (arith, g.0.3);
      front = rw e (digits_more _ xs v i g.0.2 (omega arith) g.0.0 g.0.1 (omega (arith, g.0.3)) c.loop-len.invariant.front);
      leads = λ h. omega (arith, g.0.2);
    }

use Rattle.std.proofs.Common.{◌≡◌, ◌<◌, ◌≤◌, ◌∷◌, ◌++◌, drop, decimal}
use Rattle.forms.proofs.number.Bounds.digits.Given as goal

abbrev pub invariant-loop-len : goal.invariant-loop-len
invariant-loop-len l = record {
  fits : l.value ≤ l.self.limit;
  front : l.digit ∷ l.rest ≡ decimal l.value ++ drop l.len l.rest;
  leads : 48 < l.digit → 0 < l.value;
}

use Rattle.std.proofs.Common.{◌≡◌, ◌+◌, ◌∷◌, ◌++◌, length, drop, ap, ◌∙◌, arith, w64, SFits, rules}
use Rattle.std.specs.Fmt.{signed_decimal}
use Rattle.forms.specs.Patterns.{number, pieces, Suits}
use Rattle.forms.proofs.Made.{Made, at_piece, text_made, number_made, number_room, number_none}
use Rattle.forms.proofs.pattern.Pattern.line.Goals as goal
use Rattle.forms.proofs.pattern.Pattern.line.Goals.{In-Some, in-Some+in_ok-z-in-Some+else-not-suits, in-None}

-- a number is next
number_here : (c : In-Some) → Made (pieces c.args.self.bytes.now) c.args.numbers.now (number c.in-Some.bounds.limit c.in-Some.bounds.minus ∷ drop (c.loop-b.b-index + 1) (pieces c.args.self.bytes.now)) c.loop-b.left.now c.loop-b.line.items
number_here c = at_piece c.args.self.bytes.now c.loop-b.b-index (omega arith) c.in-Some.ensures c.loop-b.invariant

pub returns-in_err-z-in-Some : goal.returns-in_err-z-in-Some
returns-in_err-z-in-Some c =
    rw c.from_residual.ensures (number_none _ c.in_err-z-in-Some.ensures.cases (number_here (goal.at.returns-in_err-z-in-Some c).In-Some))

pub returns-then-not-suits : goal.returns-then-not-suits
returns-then-not-suits c =
    let m = rw c.in_ok-z-in-Some.ensures.cases.0 at (number_here (goal.at.returns-then-not-suits c).In-Some) in
    let fits : SFits w64 c.in_ok-z-in-Some.z.now = search rules in
    let no : Suits c.in-Some.bounds.limit c.in-Some.bounds.minus c.in_ok-z-in-Some.z.now → ⊥ = λ h. search rules in
    λ f. no (m.to f).0

pub unwrap-requires : goal.unwrap-requires
unwrap-requires c =
    let m = number_here (goal.at.unwrap-requires c).In-Some in
    let fits : SFits w64 c.in_ok-z-in-Some.z.now = search rules in
    let h : Suits c.in-Some.bounds.limit c.in-Some.bounds.minus c.in_ok-z-in-Some.z.now = search rules in
    let e : c.as_bytes.result.now ≡ signed_decimal c.in_ok-z-in-Some.z.now = search rules in
    c.try_extend_from_slice.ensures.variant.1 (omega (arith, ap length e, number_room _ c.in-Some.bounds.limited.1 h m))

pub loop-b-preserved : goal.loop-b-preserved
loop-b-preserved c = elim c.match-field.branch [
  | in-Some+in_ok-z-in-Some+else-not-suits w ↦
      let fits : SFits w64 w.in_ok-z-in-Some.z.now = search rules in
      let h : Suits w.in-Some.bounds.limit w.in-Some.bounds.minus w.in_ok-z-in-Some.z.now = search rules in
      let e : c.match-field.line.items ≡ c.loop-b.line.items ++ signed_decimal w.in_ok-z-in-Some.z.now = ap (λ v. v.items) w.line-is ∙ (rw w.unwrap.ensures at w.try_extend_from_slice.ensures.ok) ∙ ap (λ u. c.loop-b.line.items ++ u) (search rules) in
      let m = at_piece c.args.self.bytes.now c.loop-b.b-index (omega arith) w.in-Some.ensures c.loop-b.invariant in
      rw (e, w.left-is) (number_made w.in-Some.bounds.limited.1 h (rw w.in_ok-z-in-Some.ensures.cases.0 at m))
  | in-None w ↦ rw (w.line-is, w.push.ensures.items, w.left-is) (text_made (at_piece c.args.self.bytes.now c.loop-b.b-index (omega arith) w.in-None.ensures c.loop-b.invariant))
]

use Rattle.std.proofs.Common.{string_bytes, sym, ◌∙◌}
use Rattle.ledger.specs.Meaning.{state}
use Rattle.house.specs.Serving.{result_text}
use Rattle.house.proofs.Prints.{one-served, all_served}
use Rattle.house.proofs.program.serve_lines.Goals as goal

pub loop-line-preserved : goal.loop-line-preserved
loop-line-preserved g c = λ cs r.
    let before = c.loop-line.invariant cs r in
    let now = c.serve_line.ensures before.1.0 before.1.1 in (
      one-served g.K.Written.KIND (state g.K.Amount.limit g.S.Shelf.contents c.loop-line.ledger) (state g.K.Amount.limit g.S.Shelf.contents c.serve_line.new.ledger)
          c.in-Some.line.now _ _ (string_bytes c.loop-line.out) (string_bytes c.print.new.out) (result_text c.serve_line.result)
          c.in-Some.ensures.steps now.0 c.in_ok-print.ensures
          ∙ before.0,
      now.1,
    )

pub returns : goal.returns
returns g c = λ cs r.
    sym (all_served g.K.Written.KIND (state g.K.Amount.limit g.S.Shelf.contents c.loop-line.ledger) _ (string_bytes c.loop-line.out) c.in-None.ensures.steps.0)
    ∙ (c.loop-line.invariant cs r).0

use Rattle.std.proofs.Common.{[], ◌++◌, string_bytes, ap, ◌∙◌}
use Rattle.std.proofs.lemmas.Result.{IfOk-weaker}
use Rattle.house.specs.Run.{served}
use Rattle.house.proofs.program.work.Goals as goal

pub returns : goal.returns
returns g c =
    IfOk-weaker c.serve_lines.result _ _
    (λ x h. h [] c.open-ledger.ensures.reached
    ∙ ap (λ s. string_bytes c.args.out.now ++ served g.K.Written.KIND s c.args.lines) c.open-ledger.ensures.opened)
    c.serve_lines.ensures

use Rattle.std.proofs.Common.{[], ◌∷◌, ◌++◌, Ok, ap, ◌∙◌}
use Rattle.std.proofs.lemmas.Result.{err_from_is_err_and}
use Rattle.ledger.specs.Meaning.{state}
use Rattle.ledger.specs.Requests.{call_of, said_of}
use Rattle.house.specs.Text.{answer_text, said_text}
use Rattle.house.proofs.Serves.{read_in, call_served, refused_served}
use Rattle.house.proofs.serving.serve_line.Goals as goal

pub returns-in_err-said : goal.returns-in_err-said
returns-in_err-said g c =
    let m = call_of g.K.Amount.means c.in_ok-request.request in
    let p = err_from_is_err_and c.from_residual-in_err-said.result c.from_residual-in_err-said.ensures.1 in
    rw (p.1, p.2)
    (refused_served g.K.Written.KIND (state g.K.Amount.limit g.S.Shelf.contents c.args.ledger.now) c.args.line.now c.in_ok-reading.reading.call
    m c.in_err-said.field-0.0 (state g.K.Amount.limit g.S.Shelf.contents c.serve.new.self)
    (read_in c.args.line.now c.KIND.ensures c.in_ok-reading.ensures.value)
    c.in_ok-request.ensures
    (λ cs r. ((c.in_err-said.ensures.model cs r).0, (cs ++ m ∷ [], (c.in_err-said.ensures.model cs r).1))))

pub returns : goal.returns
returns g c =
    let means = g.K.Amount.means in
    let m = call_of means c.in_ok-request.request in
    call_served g.K.Written.KIND (state g.K.Amount.limit g.S.Shelf.contents c.args.ledger.now) c.args.line.now c.in_ok-reading.reading.call
    m (said_of means (Ok c.in_ok-said.said)) (state g.K.Amount.limit g.S.Shelf.contents c.serve.new.self) (answer_text c.answer_to.result)
    (read_in c.args.line.now c.KIND.ensures c.in_ok-reading.ensures.value)
    c.in_ok-request.ensures
    (λ cs r. ((c.in_ok-said.ensures.model cs r).0, (cs ++ m ∷ [], (c.in_ok-said.ensures.model cs r).1)))
    (c.answer_to.ensures ∙ ap (λ b. said_text g.K.Written.KIND b (said_of means (Ok c.in_ok-said.said))) c.bin_in.ensures)

use Rattle.std.proofs.Common.{◌≡◌, rules}
use Rattle.forms.specs.Calls.{written, Allowed}
use Rattle.forms.proofs.writer.write.Goals as goal

pub returns-clause-cases : goal.returns-clause-cases
returns-clause-cases c =
    let made : Allowed c.args.opened c.args.call.now × (c.in_ok-line.line.items ≡ written c.args.call.now) = search rules in
    search rules

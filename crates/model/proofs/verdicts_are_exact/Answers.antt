use Rattle.model.proofs.Promised.{verdicts_exact}
use Rattle.model.proofs.verdicts_are_exact.Goals as goal

pub returns : goal.returns
returns c = verdicts_exact

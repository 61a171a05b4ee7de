use Rattle.model.proofs.Reached.{others_are_rivals}
use Rattle.model.proofs.others_are_rivals.Goals as goal

pub returns : goal.returns
returns c = others_are_rivals

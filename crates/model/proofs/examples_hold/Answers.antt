use Rattle.model.proofs.Examples.{worked}
use Rattle.model.proofs.examples_hold.Goals as goal

pub returns : goal.returns
returns c = worked

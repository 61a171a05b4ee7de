use Rattle.model.proofs.Promised.{figures_exact}
use Rattle.model.proofs.figures_are_exact.Goals as goal

pub returns : goal.returns
returns c = figures_exact

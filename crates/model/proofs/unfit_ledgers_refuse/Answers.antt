use Rattle.model.proofs.Opening.{unfit_refuses}
use Rattle.model.proofs.unfit_ledgers_refuse.Goals as goal

pub returns : goal.returns
returns c = unfit_refuses

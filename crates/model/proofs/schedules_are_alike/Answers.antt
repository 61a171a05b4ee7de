use Rattle.model.proofs.Schedules.{schedules_alike}
use Rattle.model.proofs.schedules_are_alike.Goals as goal

pub returns : goal.returns
returns c = schedules_alike

use Rattle.model.proofs.Examples.{two_schedules}
use Rattle.model.proofs.scripts_have_two_schedules.Goals as goal

pub returns : goal.returns
returns c = two_schedules

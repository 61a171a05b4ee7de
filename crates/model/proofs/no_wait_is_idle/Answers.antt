use Rattle.model.proofs.Promised.{no_idle_wait}
use Rattle.model.proofs.no_wait_is_idle.Goals as goal

pub returns : goal.returns
returns c = no_idle_wait

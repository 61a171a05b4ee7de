use Rattle.model.proofs.SumsFit.{sums_in_range}
use Rattle.model.proofs.sums_are_in_range.Goals as goal

pub returns : goal.returns
returns c = sums_in_range

use Rattle.shelf.proofs.Lowest.{Tells-lowest_of}
use Rattle.shelf.proofs.flat.methods.FlatShelfShelf.lowest_bin.Goals as goal

pub returns : goal.returns
returns g c = Tells-lowest_of g.A.Amount.means c.args.batch _ _ c.lowest_in.ensures

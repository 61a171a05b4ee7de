use Rattle.std.proofs.Common.{sym, rules}
use Rattle.shelf.specs.Contents.{amount_at}
use Rattle.shelf.proofs.Changes.{found_amount}
use Rattle.shelf.proofs.flat.methods.FlatShelfShelf.find.Goals as goal

pub returns : goal.returns
unfolding amount_at
returns g c =
    let s = c.args.self.now in
    rw (← found_amount g.A.Amount.means c.args.bin c.args.batch s.grants.now c.in_ok-place.place c.index-self-place.result (sym c.in_ok-place.ensures) c.index-self-place.is s.distinct) (search rules)

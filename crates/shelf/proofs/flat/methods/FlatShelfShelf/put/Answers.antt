use Rattle.std.proofs.Common.{◌≡◌, is_some, Some, sym, ap, ◌∙◌, rules}
use Rattle.shelf.specs.declared.records.Grant.{Grant}
use Rattle.shelf.proofs.Changes.{put_done}
use Rattle.shelf.proofs.flat.methods.FlatShelfShelf.put.Goals as goal

pub returns-clause-after : goal.returns-clause-after
returns-clause-after g c =
    let s = c.args.self.now in
    let it : Grant g.row.A.Denot = record { bin = c.args.bin; batch = c.args.batch; amount = c.args.amount } in
    let free : c.free_place.result ≡ Some c.in_ok-place.place = search rules in
    let none = sym (ap is_some c.position.ensures) ∙ sym c.if-is_some.ensures in
    put_done g.A.Amount.means s.bins.now s.bins_used s.grants.now s.grants_used c.in_ok-place.place it (sym c.free_place.ensures ∙ free) none c.if-bin-self.false s.counted

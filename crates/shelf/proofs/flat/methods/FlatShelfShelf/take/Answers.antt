use Rattle.std.proofs.Common.{is_some, sym, ap, arith}
use Rattle.std.proofs.lemmas.Bool.{both_ways}
use Rattle.shelf.proofs.Changes.{take_done}
use Rattle.shelf.proofs.Places.{found, length-freed}
use Rattle.shelf.proofs.flat.methods.FlatShelfShelf.take.Goals as goal

-- the place that was found is not free
pub returns-in_err-grant : goal.returns-in_err-grant
returns-in_err-grant g c =
    let at = found c.args.bin c.args.batch c.args.self.now.grants.now c.in_ok-place.place _ (sym c.in_ok-place.ensures) c.index-places-place.is in
    absurd (both_ways _ (ap is_some c.in_err-grant.was) at.0)

pub overflow_sub-self : goal.overflow_sub-self
overflow_sub-self g c =
    let s = c.args.self.now in
    let at = (found c.args.bin c.args.batch s.grants.now c.in_ok-place.place _ (sym c.in_ok-place.ensures) c.index-places-place.is).1 c.in_ok-grant.grant c.in_ok-grant.was in
    omega (arith, length-freed s.grants.now c.in_ok-place.place at.within (ap is_some at.is), s.counted)

pub returns : goal.returns
returns g c =
    let s = c.args.self.now in
    let at = (found c.args.bin c.args.batch s.grants.now c.in_ok-place.place _ (sym c.in_ok-place.ensures) c.index-places-place.is).1 c.in_ok-grant.grant c.in_ok-grant.was in
    let p = take_done g.A.Amount.means s.bins.now s.bins_used s.grants.now s.grants_used c.args.bin c.args.batch c.in_ok-place.place c.in_ok-grant.grant at s.distinct in
    record { answer = p.0; after = p.1 }

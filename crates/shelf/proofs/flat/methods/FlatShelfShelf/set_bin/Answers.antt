use Rattle.std.proofs.Common.{◌≡◌, Some, sym, ap, ◌∙◌, rules}
use Rattle.shelf.specs.Bins.{figures, figures_in}
use Rattle.shelf.proofs.Changes.{set_done}
use Rattle.shelf.proofs.flat.methods.FlatShelfShelf.set_bin.Goals as goal

pub returns-clause-after : goal.returns-clause-after
returns-clause-after g c =
    let f = g.A.Amount.means in
    let s = c.args.self.now in
    let r = c.args.range in
    let old : c.bin.result ≡ Some c.in_ok-old.old = search rules in
    set_done f s.bins.now s.bins_used s.grants.now s.grants_used c.args.bin r.inf r.val r.sup (figures f c.in_ok-old.old) _ (sym c.bin.ensures ∙ ap (figures_in f) old) c.with_range.ensures

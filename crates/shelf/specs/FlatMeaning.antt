-- The contents that a flat shelf means.
use Rattle.std.specs.Prelude.{ℤ}
use Rattle.shelf.specs.declared.flat.FlatShelf.{FlatShelf}
use Rattle.shelf.specs.Contents.{Contents}
use Rattle.shelf.specs.Flat.{flat_contents}

abbrev pub flat_meaning : {A : Type 0} → (A → ℤ) → FlatShelf A → Contents
flat_meaning f s = flat_contents f s.bins.now s.bins_used s.grants.now s.grants_used

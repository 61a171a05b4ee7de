-- What a shelf's errors say.
use Rattle.std.specs.Prelude.{ℕ, List, codes}
use Rattle.shelf.specs.declared.error.ShelfError.{ShelfError}
use Rattle.shelf.specs.declared.error.ShelfError.TheVariants.{BinsFull, NoSuchBin, NoBinPlace, AlreadyGranted, GrantsFull}

abbrev pub error_text : ShelfError → List ℕ
error_text BinsFull = codes "every bin place is used"
error_text NoSuchBin = codes "there is no such bin"
error_text NoBinPlace = codes "no bin place has this number"
error_text AlreadyGranted = codes "the batch holds a grant in the bin"
error_text GrantsFull = codes "every grant place is used"

-- A bin of amounts by the numbers that they mean.
use Rattle.std.specs.Prelude.{ℤ, Option, option_map}
use Rattle.shelf.specs.declared.records.Bin.{Bin}
use Rattle.shelf.specs.declared.records.NewBin.{NewBin}
use Rattle.shelf.specs.declared.records.Range.{Range}
use Rattle.shelf.specs.Contents.{Figures, fresh, moved}

abbrev pub figures : {A : Type 0} → (A → ℤ) → Bin A → Figures
figures f b = record { floor = f b.min; ceiling = f b.max; inf = f b.inf; val = f b.val; sup = f b.sup }

abbrev pub figures_in : {A : Type 0} → (A → ℤ) → Option (Bin A) → Option Figures
figures_in f o = option_map (figures f) o

-- a bin as it is laid
abbrev pub new_figures : {A : Type 0} → (A → ℤ) → NewBin A → Figures
new_figures f b = fresh (f b.min) (f b.max) (f b.start)

-- a bin with INF, VAL and SUP set to the range
abbrev pub set_figures : {A : Type 0} → (A → ℤ) → Range A → Figures → Figures
set_figures f r b = moved (f r.inf) (f r.val) (f r.sup) b

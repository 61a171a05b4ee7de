-- The text of an amount and of a fault.
use Rattle.std.specs.Prelude.{ℕ, List, ◌++◌, codes, decimal}
use Rattle.std.specs.Fmt.{signed_decimal}
use Rattle.forms.specs.declared.Unreadable.{Unreadable}
use Rattle.forms.specs.declared.calls.Figures.{Figures}
use Rattle.forms.specs.declared.calls.Figures.TheVariants.{Grams, Trays}

abbrev pub figures_text : Figures → List ℕ
figures_text (Grams n) = codes "(g " ++ (signed_decimal n ++ codes ")")
figures_text (Trays t l) = codes "(tl " ++ (signed_decimal t ++ (codes " " ++ (decimal l ++ codes ")")))

abbrev pub fault_text : Unreadable → List ℕ
fault_text fault = codes "unreadable at " ++ decimal fault.place

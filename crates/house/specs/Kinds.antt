-- How amounts of each kind are made from outside numbers and written in them.
use Rattle.std.specs.Prelude.{ℕ, ℤ, Err, Result}
use Rattle.refusal.specs.declared.Refusal.{Refusal}
use Rattle.refusal.specs.declared.Refusal.TheVariants.{Unreadable}
use Rattle.amount.specs.Grams.{gram_limit, grams_made}
use Rattle.amount.specs.Trays.{tray_limit, full_trays, loose_pieces, trays_made}
use Rattle.forms.specs.declared.calls.Kind.{Kind}
use Rattle.forms.specs.declared.calls.Kind.TheVariants as kind
use Rattle.forms.specs.declared.calls.Figures.{Figures}
use Rattle.forms.specs.declared.calls.Figures.TheVariants as figures

-- the limit L of a kind
abbrev pub limit_of : Kind → ℕ
limit_of kind.Grams = gram_limit
limit_of kind.Trays = tray_limit

-- the amount that the figures write; those of another kind write none
abbrev pub makes : Kind → Figures → Result ℤ Refusal
makes kind.Grams (figures.Grams n) = grams_made n
makes kind.Grams (figures.Trays t l) = Err (Unreadable 0)
makes kind.Trays (figures.Grams n) = Err (Unreadable 0)
makes kind.Trays (figures.Trays t l) = trays_made t l

-- the figures of a number
abbrev pub writes : Kind → ℤ → Figures
writes kind.Grams z = figures.Grams z
writes kind.Trays z = figures.Trays (full_trays z) (loose_pieces z)

-- The forms: the pattern of each, when it is legal, and the call that it writes.
use Rattle.std.specs.Prelude.{ℕ, List, [], ◌∷◌, ◌++◌, ℤ, pos, Some, None, codes, Option, slice_index_or, unsigned_abs}
use Rattle.forms.specs.declared.calls.Kind.{Kind}
use Rattle.forms.specs.declared.calls.Kind.TheVariants as kind
use Rattle.forms.specs.declared.calls.Layout.TheVariants as layout
use Rattle.forms.specs.declared.calls.Figures.{Figures}
use Rattle.forms.specs.declared.calls.Figures.TheVariants as figures
use Rattle.forms.specs.declared.calls.Call.{Call}
use Rattle.forms.specs.declared.calls.Call.TheVariants as call
use Rattle.forms.specs.declared.table.Form.{Form}
use Rattle.forms.specs.declared.table.Form.TheVariants as form

-- the text of each form
abbrev pub pattern_of : Form → List ℕ
pattern_of (form.House kind.Grams layout.Flat) = codes "(house # (kind g) (shelf flat # #))"
pattern_of (form.House kind.Grams layout.Chain) = codes "(house # (kind g) (shelf chain # #))"
pattern_of (form.House kind.Trays layout.Flat) = codes "(house # (kind tl) (shelf flat # #))"
pattern_of (form.House kind.Trays layout.Chain) = codes "(house # (kind tl) (shelf chain # #))"
pattern_of (form.Lay kind.Grams) = codes "(lay (min (g %)) (max (g %)) (now (g %)))"
pattern_of (form.Lay kind.Trays) = codes "(lay (min (tl % #)) (max (tl % #)) (now (tl % #)))"
pattern_of form.Report = codes "(report #)"

-- the forms that are legal before the house opens, and then in its kind
abbrev pub forms_of : Option Kind → List Form
forms_of None = form.House kind.Grams layout.Flat ∷ form.House kind.Grams layout.Chain ∷ form.House kind.Trays layout.Flat ∷ form.House kind.Trays layout.Chain ∷ []
forms_of (Some k) = form.Lay k ∷ form.Report ∷ []

-- the kind of an amount
abbrev pub kind_of : Figures → Kind
kind_of (figures.Grams a) = kind.Grams
kind_of (figures.Trays a b) = kind.Trays

-- the form in which a call is written, that of a `lay` by its least amount
abbrev pub form_of : Call → Form
form_of (call.House h) = form.House h.kind h.layout
form_of (call.Lay min max at) = form.Lay (kind_of min)
form_of (call.Report bin) = form.Report

-- the numbers of an amount
abbrev pub figures_of : Figures → List ℤ
figures_of (figures.Grams a) = a ∷ []
figures_of (figures.Trays a b) = a ∷ pos b ∷ []

-- the numbers of a call, in written order
abbrev pub values_of : Call → List ℤ
values_of (call.House h) = pos h.house ∷ pos h.bins ∷ pos h.grants ∷ []
values_of (call.Lay min max at) = figures_of min ++ (figures_of max ++ figures_of at)
values_of (call.Report bin) = pos bin ∷ []

-- the amount, and the count, at a place of the values
abbrev pub amount_at : List ℤ → ℕ → ℤ
amount_at vs k = slice_index_or vs k (pos 0)

abbrev pub count_at : List ℤ → ℕ → ℕ
count_at vs k = unsigned_abs (amount_at vs k)

-- what the values from there on write
abbrev pub trays_at : List ℤ → ℕ → ℕ → Figures
trays_at vs j k = figures.Trays (amount_at vs j) (count_at vs k)

abbrev pub grams_at : List ℤ → ℕ → Figures
grams_at vs k = figures.Grams (amount_at vs k)

-- the call that a form writes with these values
abbrev pub call_of : Form → List ℤ → Call
call_of (form.House k l) vs = call.House (record { house = count_at vs 0; kind = k; layout = l; bins = count_at vs 1; grants = count_at vs 2 })
call_of (form.Lay kind.Grams) vs = call.Lay (grams_at vs 0) (grams_at vs 1) (grams_at vs 2)
call_of (form.Lay kind.Trays) vs = call.Lay (trays_at vs 0 1) (trays_at vs 2 3) (trays_at vs 4 5)
call_of form.Report vs = call.Report (count_at vs 0)

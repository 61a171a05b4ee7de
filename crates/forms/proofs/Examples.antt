-- Examples of lines, and what they read as.
use Rattle.std.proofs.Common.{◌≡◌, [], ◌∷◌, pos, negsuc, Some, None, Ok, Err, codes, refl}
use Rattle.forms.specs.declared.calls.Kind.TheVariants.{Grams, Trays}
use Rattle.forms.specs.declared.calls.Layout.TheVariants as layout
use Rattle.forms.specs.declared.calls.Figures.TheVariants as figures
use Rattle.forms.specs.declared.calls.Call.TheVariants as call
use Rattle.forms.specs.Reading.{read_of}
use Rattle.forms.specs.Words.{cuts, spans}

house : read_of None (codes "(house 7 (kind g) (shelf flat 2 64))") ≡ Ok (call.House (record { house = 7; kind = Grams; layout = layout.Flat; bins = 2; grants = 64 }))
house = refl

lay_grams : read_of (Some Grams) (codes "(lay (min (g -5)) (max (g 10)) (now (g 0)))") ≡ Ok (call.Lay (figures.Grams (negsuc 4)) (figures.Grams (pos 10)) (figures.Grams (pos 0)))
lay_grams = refl

lay_trays : read_of (Some Trays) (codes "(lay (min (tl 0 0)) (max (tl 9 4294967295)) (now (tl -1 3)))") ≡ Ok (call.Lay (figures.Trays (pos 0) 0) (figures.Trays (pos 9) 4294967295) (figures.Trays (negsuc 0) 3))
lay_trays = refl

report : read_of (Some Trays) (codes "(report 4294967295)") ≡ Ok (call.Report 4294967295)
report = refl

-- a leading zero, a count and an amount that are too large, and a minus before 0
leading_zero : read_of None (codes "(house 07 (kind g) (shelf flat 2 64))") ≡ Err 8
leading_zero = refl

large_count : read_of None (codes "(house 4294967296 (kind g) (shelf flat 2 64))") ≡ Err 16
large_count = refl

large_amount : read_of (Some Grams) (codes "(lay (min (g 1000000000000000000)) (max (g 1)) (now (g 1)))") ≡ Err 31
large_amount = refl

minus_zero : read_of (Some Grams) (codes "(lay (min (g -0)) (max (g 1)) (now (g 1)))") ≡ Err 14
minus_zero = refl

-- a form of another kind, and one that is not legal then
wrong_kind : read_of (Some Grams) (codes "(lay (min (tl 1 0)) (max (tl 1 0)) (now (tl 1 0)))") ≡ Err 11
wrong_kind = refl

not_open : read_of None (codes "(report 4)") ≡ Err 1
not_open = refl

-- a line that goes on, one that breaks off, and none
goes_on : read_of (Some Grams) (codes "(report 4) ") ≡ Err 10
goes_on = refl

breaks_off : read_of None (codes "(house 7 (kind t") ≡ Err 16
breaks_off = refl

nothing : read_of None (codes "") ≡ Err 0
nothing = refl

-- the words of a line
words : cuts (codes "(lay (min (g -5))") (spans (codes "(lay (min (g -5))")) ≡ codes "lay" ∷ codes "min" ∷ codes "g" ∷ codes "-5" ∷ []
words = refl

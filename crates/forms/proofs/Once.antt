-- A line is written for one call only.
use Rattle.std.proofs.Common.{◌≡◌, ℕ, zero, suc, ◌^◌, ◌<◌, ◌≤◌, Bool, true, false, not, ◌&&◌, ◌||◌, eqb, ◌⊎◌, List, [], ◌∷◌, ◌++◌, length, get_or, ℤ, pos, negsuc, Some, None, Option, sym, refl, ap, ◌∙◌, subst, ⊎_elim, arith, eqb-true}
use native.Mathlib.Decide.{dec_le}
use Rattle.std.specs.Fmt.{signed_decimal}
use Rattle.std.proofs.lemmas.Bool.{false≢true, not-true, eqb-false, and_parts, or_cases}
use Rattle.std.proofs.lemmas.Bool.Decides.{Decides-by_and}
use Rattle.std.specs.Cmp.{booleans_Decides}
use Rattle.std.specs.Bool.{beq}
use Rattle.std.specs.List.{All}
use Rattle.std.proofs.lemmas.List.{get_or_default}
use Rattle.forms.specs.declared.calls.Kind.{Kind}
use Rattle.forms.specs.declared.calls.Kind.TheVariants.{Grams, Trays}
use Rattle.forms.specs.declared.calls.Call.{Call}
use Rattle.forms.specs.declared.table.Form.{Form}
use Rattle.forms.specs.Calls.{written, Allowed}
use Rattle.forms.specs.Numbers.{GoesOn}
use Rattle.forms.specs.Patterns.{Piece, text, number, pieces, Suits, Fits, fill, Breaks, Sound}
use Rattle.forms.specs.Table.{pattern_of, forms_of, form_of, values_of, call_of}
use Rattle.forms.proofs.Entries.{sound, call_back}
use Rattle.forms.proofs.Numbers.{munch_signed}
use Rattle.forms.proofs.Patterns.{breaks}
use Rattle.forms.proofs.Pieces.{AllSmall, all_small}

stops : (limit : ℕ) (z : ℤ) (e : ℕ) → (e < 48) ⊎ (58 ≤ e) → GoesOn limit z e → ⊥
stops limit (pos n) e h g = grind arith
stops limit (negsuc n) e h g = grind arith

number_same : (limit : ℕ) (minus : Bool) (ps qs : List Piece) (z y : ℤ) (vs ws : List ℤ) → limit < 2 ^ 64 → Breaks ps → Breaks qs → Suits limit minus z → Suits limit minus y
    → signed_decimal z ++ fill ps vs ≡ signed_decimal y ++ fill qs ws → (z ≡ y) × (fill ps vs ≡ fill qs ws)
number_same limit minus ps qs z y vs ws small bp bq hz hy e = munch_signed limit minus z y (fill ps vs) (fill qs ws) small hz hy (stops limit z _ (breaks ps vs bp)) (breaks qs ws bq) e

-- the values of a line
pub values_same : (ps : List Piece) (vs ws : List ℤ) → Sound ps → AllSmall ps → Fits ps vs → Fits ps ws → fill ps vs ≡ fill ps ws → vs ≡ ws
values_same [] [] [] s b f g e = refl
values_same [] [] (w ∷ ws) s b f g e = absurd g
values_same [] (v ∷ vs) ws s b f g e = absurd f
values_same (text c ∷ ps) vs ws s b f g e = values_same ps vs ws s b.1 f g (cc)
values_same (number limit minus ∷ ps) [] ws s b f g e = absurd f
values_same (number limit minus ∷ ps) (v ∷ vs) [] s b f g e = absurd g
values_same (number limit minus ∷ ps) (v ∷ vs) (w ∷ ws) s b f g e =
    let p = number_same limit minus ps ps v w vs ws (omega arith) s.0 s.0 f.0 g.0 e in
    let q = values_same ps vs ws s.1 b.1 f.1 g.1 p.1 in
    (λ i. p.0 i ∷ q i)

-- whether two patterns have no line in common: they part at a byte of text
abbrev apart : List Piece → List Piece → Bool
apart [] [] = false
apart [] (text b ∷ qs) = true
apart [] (number k n ∷ qs) = false
apart (text a ∷ ps) [] = true
apart (text a ∷ ps) (text b ∷ qs) = not (eqb a b) || apart ps qs
apart (text a ∷ ps) (number k n ∷ qs) = false
apart (number l m ∷ ps) [] = false
apart (number l m ∷ ps) (text b ∷ qs) = false
apart (number l m ∷ ps) (number k n ∷ qs) = eqb l k && (beq m n && apart ps qs)

parted : (ps qs : List Piece) (vs ws : List ℤ) → Sound ps → Sound qs → AllSmall ps → apart ps qs ≡ true → Fits ps vs → Fits qs ws → fill ps vs ≡ fill qs ws → ⊥
parted [] [] vs ws s r b h f g e = false≢true h
parted [] (text c ∷ qs) vs ws s r b h f g e = grind arith
parted [] (number k n ∷ qs) vs ws s r b h f g e = false≢true h
parted (text a ∷ ps) [] vs ws s r b h f g e = grind arith
parted (text a ∷ ps) (text c ∷ qs) vs ws s r b h f g e = ⊎_elim
    (λ k. eqb-false a c (not-true _ k) (cc))
    (λ k. parted ps qs vs ws s r b.1 k f g (cc))
    (or_cases _ _ h)
parted (text a ∷ ps) (number k n ∷ qs) vs ws s r b h f g e = false≢true h
parted (number l m ∷ ps) [] vs ws s r b h f g e = false≢true h
parted (number l m ∷ ps) (text c ∷ qs) vs ws s r b h f g e = false≢true h
parted (number l m ∷ ps) (number k n ∷ qs) [] ws s r b h f g e = f
parted (number l m ∷ ps) (number k n ∷ qs) (v ∷ vs) [] s r b h f g e = g
parted (number l m ∷ ps) (number k n ∷ qs) (v ∷ vs) (w ∷ ws) s r b h f g e =
    let p = and_parts (eqb l k) _ h in
    let q = and_parts (beq m n) _ p.1 in
    let same : Suits l m w = rw (eqb-true l k p.0, (booleans_Decides m n).0 q.0) g.0 in
    parted ps qs vs ws s.1 r.1 b.1 q.1 f.1 g.1 (number_same l m ps qs v w vs ws (omega arith) s.0 r.0 f.0 same e).1

-- the table: computed once over all pairs
abbrev apart_from : List Piece → List Form → Bool
apart_from ps [] = true
apart_from ps (f ∷ fs) = apart ps (pieces (pattern_of f)) && apart_from ps fs

abbrev pairwise : List Form → Bool
pairwise [] = true
pairwise (f ∷ fs) = apart_from (pieces (pattern_of f)) fs && pairwise fs

all_apart : (ps : List Piece) (fs : List Form) → apart_from ps fs ≡ true → All (λ g. apart ps (pieces (pattern_of g)) ≡ true) fs
all_apart ps fs h = (Decides-by_and _ (λ g. apart ps (pieces (pattern_of g)) ≡ true) (apart_from ps) (λ g. (λ k. k, λ k. k)) refl (λ _ _. refl) fs).0 h

pairs_at : (fs : List Form) (f g : Form) (i j : ℕ) → i < j → j < length fs → pairwise fs ≡ true → apart (pieces (pattern_of (get_or fs i f))) (pieces (pattern_of (get_or fs j g))) ≡ true
pairs_at [] f g i j l k h = absurd (omega arith)
pairs_at (e ∷ fs) f g i zero l k h = absurd (omega arith)
pairs_at (e ∷ fs) f g zero (suc j) l k h = all_apart (pieces (pattern_of e)) fs (and_parts _ _ h).0 j g (omega arith)
pairs_at (e ∷ fs) f g (suc i) (suc j) l k h = pairs_at fs f g i j (omega arith) (omega arith) (and_parts (apart_from (pieces (pattern_of e)) fs) _ h).1

table : (opened : Option Kind) → pairwise (forms_of opened) ≡ true
table None = refl
table (Some Grams) = refl
table (Some Trays) = refl

apart_places : (opened : Option Kind) (c d : Call) (p : Allowed opened c) (q : Allowed opened d) → p.legal.0 < q.legal.0 → written c ≡ written d → ⊥
apart_places opened c d p q l e =
    let h = rw (p.legal.2, q.legal.2) at (pairs_at (forms_of opened) (form_of c) (form_of d) p.legal.0 q.legal.0 l q.legal.1 (table opened)) in
    parted _ _ (values_of c) (values_of d) (sound (form_of c)) (sound (form_of d)) (all_small (pattern_of (form_of c))) h p.fits q.fits e

pub once : (opened : Option Kind) (c d : Call) → Allowed opened c → Allowed opened d → written c ≡ written d → c ≡ d
once opened c d p q e = elim (dec_le (suc p.legal.0) q.legal.0) [
  | yes l ↦ absurd (apart_places opened c d p q l e)
  | no l ↦ elim (dec_le (suc q.legal.0) p.legal.0) [
    | yes k ↦ absurd (apart_places opened d c q p k (sym e))
    | no k ↦ same (omega arith)
  ]
]
  where
    same : p.legal.0 ≡ q.legal.0 → c ≡ d
    same w =
        let fs = forms_of opened in
        let f : form_of c ≡ form_of d = sym p.legal.2 ∙ get_or_default fs p.legal.0 (form_of c) (form_of d) p.legal.1 ∙ ap (λ k. get_or fs k (form_of d)) w ∙ q.legal.2 in
        let g = subst (λ x. Fits (pieces (pattern_of x)) (values_of d)) (sym f) q.fits in
        let v = values_same (pieces (pattern_of (form_of c))) (values_of c) (values_of d) (sound (form_of c)) (all_small (pattern_of (form_of c))) p.fits g (e ∙ ap (λ x. fill (pieces (pattern_of x)) (values_of d)) (sym f)) in
        sym (call_back c p.fits) ∙ (λ i. call_of (f i) (v i)) ∙ call_back d q.fits

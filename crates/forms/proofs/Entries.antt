-- The table of forms: each pattern can be read, and each form and its values write one call.
use Rattle.std.proofs.Common.{◌≡◌, ℕ, suc, ◌<◌, ◌≤◌, Bool, true, false, List, [], ◌∷◌, length, get_or, drop, ℤ, pos, negsuc, nat_abs, sym, refl, ap, ◌∙◌, subst, arith, length-drop, drop-cons, leb-true, rules}
use Rattle.forms.specs.declared.calls.Kind.TheVariants as kind
use Rattle.forms.specs.declared.calls.Layout.TheVariants as layout
use Rattle.forms.specs.declared.calls.Figures.TheVariants as figures
use Rattle.forms.specs.declared.calls.Call.{Call}
use Rattle.forms.specs.declared.calls.Call.TheVariants as call
use Rattle.forms.specs.declared.table.Form.{Form}
use Rattle.forms.specs.declared.table.Form.TheVariants as form
use Rattle.forms.specs.Patterns.{Piece, text, number, pieces, Suits, Fits, fill, Sound}
use Rattle.forms.specs.Table.{pattern_of, form_of, values_of, call_of}
use Rattle.forms.specs.Words.{spans, most_words}
use Rattle.forms.proofs.Counts.{count, words_counted}

-- the values from k on, as the pieces take them
abbrev canon : List Piece → List ℤ → ℕ → List ℤ
canon [] vs k = []
canon (text b ∷ ps) vs k = canon ps vs k
canon (number limit true ∷ ps) vs k = get_or vs k (pos 0) ∷ canon ps vs (suc k)
canon (number limit false ∷ ps) vs k = pos (nat_abs (get_or vs k (pos 0))) ∷ canon ps vs (suc k)

unsigned : (limit : ℕ) (z : ℤ) → Suits limit false z → z ≡ pos (nat_abs z)
unsigned limit (pos n) h = refl
unsigned limit (negsuc n) h = absurd h

some_left : (limit : ℕ) (minus : Bool) (ps : List Piece) (ws : List ℤ) → Fits (number limit minus ∷ ps) ws → 0 < length ws
some_left limit minus ps [] f = absurd f
some_left limit minus ps (w ∷ ws) f = omega arith

-- the values that fit are those
canon_is : (ps : List Piece) (vs : List ℤ) (k : ℕ) → Fits ps (drop k vs) → drop k vs ≡ canon ps vs k
canon_is [] vs k f = go (drop k vs) f
  where
    go : (ws : List ℤ) → Fits [] ws → ws ≡ []
    go [] f = refl
    go (w ∷ ws) f = absurd f
canon_is (text b ∷ ps) vs k f = canon_is ps vs k f
canon_is (number limit minus ∷ ps) vs k f =
    let l : k < length vs = omega (arith, some_left limit minus ps _ f, length-drop k vs) in
    let e = drop-cons vs k (pos 0) l in
    let g = subst (Fits (number limit minus ∷ ps)) e f in
    e ∙ go minus g.0 (canon_is ps vs (suc k) g.1)
  where
    go : (minus : Bool) → Suits limit minus (get_or vs k (pos 0)) → drop (suc k) vs ≡ canon ps vs (suc k) → get_or vs k (pos 0) ∷ drop (suc k) vs ≡ canon (number limit minus ∷ ps) vs k
    go true h t = ap (λ ws. get_or vs k (pos 0) ∷ ws) t
    go false h t = (λ i. unsigned limit (get_or vs k (pos 0)) h i ∷ t i)

-- each entry of the table: its pattern has few words and can be read, and a call of it has its form and its values
record Entry (f : Form) (vs : List ℤ) : Type 0 where
  few : count false (pattern_of f) ≤ most_words
  sound : Sound (pieces (pattern_of f))
  form : form_of (call_of f vs) ≡ f
  values : values_of (call_of f vs) ≡ canon (pieces (pattern_of f)) vs 0

entry : (f : Form) (vs : List ℤ) → Entry f vs
entry (form.House kind.Grams layout.Flat) vs = record { few = leb-true _ _ refl; sound = search rules; form = refl; values = refl }
entry (form.House kind.Grams layout.Chain) vs = record { few = leb-true _ _ refl; sound = search rules; form = refl; values = refl }
entry (form.House kind.Trays layout.Flat) vs = record { few = leb-true _ _ refl; sound = search rules; form = refl; values = refl }
entry (form.House kind.Trays layout.Chain) vs = record { few = leb-true _ _ refl; sound = search rules; form = refl; values = refl }
entry (form.Lay kind.Grams) vs = record { few = leb-true _ _ refl; sound = search rules; form = refl; values = refl }
entry (form.Lay kind.Trays) vs = record { few = leb-true _ _ refl; sound = search rules; form = refl; values = refl }
entry form.Report vs = record { few = leb-true _ _ refl; sound = search rules; form = refl; values = refl }

pub few_words : (f : Form) (vs : List ℤ) → Fits (pieces (pattern_of f)) vs → length (spans (fill (pieces (pattern_of f)) vs)) ≤ most_words
few_words f vs h = omega (arith, words_counted (pattern_of f) vs h, (entry f vs).few)

pub sound : (f : Form) → Sound (pieces (pattern_of f))
sound f = (entry f []).sound

pub call_form : (f : Form) (vs : List ℤ) → form_of (call_of f vs) ≡ f
call_form f vs = (entry f vs).form

pub call_values : (f : Form) (vs : List ℤ) → Fits (pieces (pattern_of f)) vs → values_of (call_of f vs) ≡ vs
call_values f vs h = (entry f vs).values ∙ sym (canon_is (pieces (pattern_of f)) vs 0 h)

-- and its form and its values by a call; a `lay` of two kinds has too few values, or too many
pub call_back : (c : Call) → Fits (pieces (pattern_of (form_of c))) (values_of c) → call_of (form_of c) (values_of c) ≡ c
call_back (call.House h) f = refl
call_back (call.Lay (figures.Grams a) (figures.Grams b) (figures.Grams c)) f = refl
call_back (call.Lay (figures.Grams a) (figures.Grams b) (figures.Trays c d)) f = absurd f.1.1.1
call_back (call.Lay (figures.Grams a) (figures.Trays b d) (figures.Grams c)) f = absurd f.1.1.1
call_back (call.Lay (figures.Grams a) (figures.Trays b d) (figures.Trays c e)) f = absurd f.1.1.1
call_back (call.Lay (figures.Trays a g) (figures.Grams b) (figures.Grams c)) f = absurd f.1.1.1.1
call_back (call.Lay (figures.Trays a g) (figures.Grams b) (figures.Trays c d)) f = absurd f.1.1.1.1.1
call_back (call.Lay (figures.Trays a g) (figures.Trays b d) (figures.Grams c)) f = absurd f.1.1.1.1.1
call_back (call.Lay (figures.Trays a g) (figures.Trays b d) (figures.Trays c e)) f = refl
call_back (call.Report a) f = refl

-- The forms that are legal are tried one after another.
use Rattle.std.proofs.Common.{◌≡◌, ℕ, ◌+◌, ◌<◌, ◌≤◌, max, ◌⊎◌, List, [], ◌∷◌, ◌++◌, length, get_or, take, ℤ, Some, None, Option, sym, refl, ap, ◌∙◌, subst, inl, inr, ⊎_elim, zero-le, arith}
use native.Mathlib.Decide.{dec_le}
use Rattle.std.specs.List.{All, Contains}
use Rattle.std.proofs.lemmas.List.{take_more}
use Rattle.std.proofs.lemmas.List.Elements.{All-nil, All-push, All-weaker, All-contains, Contains-get_or, Contains-push, Contains-append_left}
use Rattle.forms.specs.declared.calls.Kind.{Kind}
use Rattle.forms.specs.declared.calls.Call.{Call}
use Rattle.forms.specs.declared.table.Form.{Form}
use Rattle.forms.specs.Calls.{Reads, Legal}
use Rattle.forms.specs.Faults.{Begins, Fault}
use Rattle.forms.specs.Patterns.{pieces, Fits, fill, Lines}
use Rattle.forms.specs.Table.{pattern_of, forms_of, form_of, values_of, call_of}
use Rattle.forms.proofs.Entries.{call_form, call_values}
use Rattle.forms.proofs.Patterns.{some_line}

-- the lines of a form
abbrev pub Of : Form → List ℕ → Type 0
Of f = Lines (pieces (pattern_of f))

-- the line is none of the form's, and shares no more than `place` of it with one
abbrev pub Fails : List ℕ → Form → Type 0
Fails line f = Of f line → ⊥

abbrev pub NoFurther : List ℕ → ℕ → Form → Type 0
NoFurther line place f = (m : ℕ) → m ≤ length line → Begins (Of f) (take m line) → m ≤ place

-- these forms have been tried, and place is the longest beginning that a line of one of them shares
pub record Tried (fs : List Form) (line : List ℕ) (place : ℕ) : Type 0 where
  pub none : All (Fails line) fs
  pub most : All (NoFurther line place) fs
  pub within : place ≤ length line
  pub shared : (place ≡ 0) ⊎ ((f : Form) × Contains fs f × Begins (Of f) (take place line))

pub untried : (line : List ℕ) → Tried [] line 0
untried line = record { none = All-nil (Fails line); most = All-nil (NoFurther line 0); within = zero-le; shared = inl refl }

-- one more
pub tried_more : (fs : List Form) (line : List ℕ) (place : ℕ) (f : Form) (n : ℕ) → Tried fs line place → Fault (Of f) line n → Tried (fs ++ f ∷ []) line (max place n)
tried_more fs line place f n t h = record {
  none = All-push (Fails line) fs f t.none h.none;
  most = All-push (NoFurther line (max place n)) fs f (All-weaker (NoFurther line place) (NoFurther line (max place n)) (λ g k m l b. omega (arith, k m l b)) fs t.most) (λ m l b. omega (arith, h.most m l b));
  within = omega (arith, t.within, h.within);
  shared = elim (dec_le place n) [
    | yes l ↦ inr (f, Contains-push fs f, subst (λ k. Begins (Of f) (take k line)) (omega arith) h.shared)
    | no l ↦ ⊎_elim
        (λ e. absurd (omega arith))
        (λ s. inr (s.0, Contains-append_left fs _ s.0 s.1, subst (λ k. Begins (Of s.0) (take k line)) (omega arith) s.2))
        t.shared
  ];
}

-- the same of the form at i
pub tried_at : (fs : List Form) (line : List ℕ) (i place m n : ℕ) (d : Form) → i < length fs → m ≡ max place n → Tried (take i fs) line place → Fault (Of (get_or fs i d)) line n → Tried (take (i + 1) fs) line m
tried_at fs line i place m n d l e t h = rw (e, take_more fs i d l) (tried_more (take i fs) line place (get_or fs i d) n t h)

-- the line of a form's values is that of the call
pub reads : (opened : Option Kind) (f : Form) (vs : List ℤ) (line : List ℕ) → Contains (forms_of opened) f → Fits (pieces (pattern_of f)) vs → line ≡ fill (pieces (pattern_of f)) vs → Reads opened line (call_of f vs)
reads opened f vs line k h e =
    let p = call_form f vs in
    let q = call_values f vs h in
    (record { legal = rw p k; fits = rw (p, q) h }, rw (p, q) e)

-- the same of the form at i
pub reads_at : (opened : Option Kind) (fs : List Form) (line : List ℕ) (i : ℕ) (d : Form) (vs ns : List ℤ) (c : Call) → i < length fs → fs ≡ forms_of opened → ns ≡ vs → c ≡ call_of (get_or fs i d) ns
    → Fits (pieces (pattern_of (get_or fs i d))) vs × (line ≡ fill (pieces (pattern_of (get_or fs i d))) vs) → Reads opened line c
reads_at opened fs line i d vs ns c l e v k h =
    subst (Reads opened line) (sym (k ∙ ap (call_of (get_or fs i d)) v))
    (reads opened (get_or fs i d) vs line (subst (λ xs. Contains xs (get_or fs i d)) e (Contains-get_or fs i d l)) h.0 h.1)

legal_of : (opened : Option Kind) (f : Form) (line : List ℕ) → Contains (forms_of opened) f → Of f line → Legal opened line
legal_of opened f line k h = (_, reads opened f h.0 line k h.1 h.2)

of_legal : (opened : Option Kind) (line : List ℕ) → (h : Legal opened line) → Of (form_of h.0) line
of_legal opened line h = (values_of h.0, h.1.0.fits, h.1.1)

some_form : (opened : Option Kind) → (f : Form) × Contains (forms_of opened) f
some_form None = (_, (0, omega arith, refl))
some_form (Some k) = (_, (0, omega arith, refl))

pub all_tried : (opened : Option Kind) (line : List ℕ) (place : ℕ) → Tried (forms_of opened) line place → Fault (Legal opened) line place
all_tried opened line place t = record {
  none = λ h. All-contains (Fails line) (forms_of opened) (form_of h.0) t.none h.1.0.legal (of_legal opened line h);
  within = t.within;
  shared = ⊎_elim
      (λ e. let s = some_form opened in subst (λ n. Begins (Legal opened) (take n line)) (sym e) (_, legal_of opened s.0 _ s.1 (some_line (pieces (pattern_of s.0)))))
      (λ s. (s.2.0, legal_of opened s.0 _ s.1 s.2.1))
      t.shared;
  most = λ m h b. All-contains (NoFurther line place) (forms_of opened) (form_of b.1.0) t.most b.1.1.0.legal m h (b.0, of_legal opened _ b.1);
}

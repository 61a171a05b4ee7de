-- The computed reading meets what reading is to be.
use Rattle.std.proofs.Common.{◌≡◌, ℕ, ◌+◌, ◌-◌, ◌*◌, ◌<◌, ◌≤◌, max, Bool, true, false, eqb, ◌⊎◌, List, [], ◌∷◌, ◌++◌, length, ℤ, Ok, Err, decimal, Option, Result, sym, refl, ap, ◌∙◌, subst, inr, append_assoc, append-nil, zero-le, arith, length-append, eqb-true}
use Rattle.std.specs.Fmt.{signed_decimal}
use Rattle.std.proofs.lemmas.Bool.{false≢true, both_ways, eqb-false, cond_both}
use Rattle.std.proofs.lemmas.Bool.Decides.{nat_tests}
use Rattle.std.proofs.lemmas.Fmt.{decimal_digit}
use Rattle.std.specs.List.{Contains}
use Rattle.std.proofs.lemmas.List.Elements.{Contains-append_right}
use Rattle.forms.specs.declared.calls.Kind.{Kind}
use Rattle.forms.specs.declared.calls.Call.{Call}
use Rattle.forms.specs.declared.table.Form.{Form}
use Rattle.forms.specs.Calls.{written, Reads, Legal}
use Rattle.forms.specs.Faults.{Fault}
use Rattle.forms.specs.Laws.{ReadsBack, OneLine, FaultPlace}
use Rattle.forms.specs.Numbers.{Limit, first, Goes, Took, NoNumber}
use Rattle.forms.specs.Patterns.{Piece, text, number, pieces, Fits, fill, Lines, Sound, largest_amount}
use Rattle.forms.specs.Reading.{digit, goes, digits_of, unsigned_of, negative_of, number_of, after_text, after_number, go_on, scan_of, try_of, read_from, read_of}
use Rattle.forms.specs.Table.{pattern_of, forms_of}
use Rattle.forms.proofs.Entries.{sound}
use Rattle.forms.proofs.Numbers.{decimal_push, took_minus}
use Rattle.forms.proofs.Once.{once}
use Rattle.forms.proofs.Patterns.{some_line, text_on, text_stops, number_on, number_stops, minus_stops, end_stops}
use Rattle.forms.proofs.Pieces.{AllSmall, all_small}
use Rattle.forms.proofs.Tries.{Tried, untried, tried_more, all_tried, reads}

-- the tests of a digit
digit_true : (least b : ℕ) → digit least b ≡ true → (least ≤ b) × (b < 58)
digit_true least b h = grind (arith, nat_tests)

digit_false : (least b : ℕ) → digit least b ≡ false → (b < least) ⊎ (58 ≤ b)
digit_false least b h = grind (arith, nat_tests)

goes_true : (limit v b : ℕ) → goes limit v b ≡ true → Goes limit v b
goes_true limit v b h = grind (arith, nat_tests)

goes_is : (limit v b : ℕ) → Goes limit v b → goes limit v b ≡ true
goes_is limit v b h = grind (arith, nat_tests)

-- the digits are taken as far as they go
pub record Digits (limit v : ℕ) (s : List ℕ) (p : ℕ × List ℕ) : Type 0 where
  pub front : decimal v ++ s ≡ decimal p.0 ++ p.1
  pub fits : p.0 ≤ limit
  pub from : v ≤ p.0
  pub stops : Goes limit p.0 (first p.1) → ⊥

digits_meet : (limit v : ℕ) (s : List ℕ) → limit ≤ largest_amount → v ≤ limit → Digits limit v s (digits_of limit v s)
digits_meet limit v [] l h = record { front = refl; fits = h; from = omega arith; stops = λ g. omega (arith, g.1) }
digits_meet limit v (b ∷ s) l h = cond_both (goes limit v b) _ _ (Digits limit v (b ∷ s))
    (λ e.
    let g = goes_true limit v b e in
    let d = digits_meet limit (10 * v + (b - 48)) s l g.3 in
    let c : 48 + (b - 48) ≡ b = omega (arith, g.0) in
    let p = decimal_push v (b - 48) g.2 (omega (arith, g.1)) (omega (arith, g.3)) ∙ ap (λ x. decimal v ++ (x ∷ [])) c in
    record { front = sym (append_assoc (decimal v) (b ∷ []) s) ∙ ap (λ x. x ++ s) (sym p) ∙ d.front; fits = d.fits; from = omega (arith, d.from); stops = d.stops })
    (λ e. record { front = refl; fits = h; from = omega arith; stops = λ g. both_ways (goes limit v b) e (goes_is limit v b g) })

-- the first digit
digit_front : (b : ℕ) (s : List ℕ) → 48 ≤ b → b < 58 → b ∷ s ≡ decimal (b - 48) ++ s
digit_front b s lo hi = let c : b ≡ 48 + (b - 48) = omega arith in ap (λ x. x ∷ s) c ∙ ap (λ x. x ++ s) (sym (decimal_digit (b - 48) (omega arith)))

abbrev NumberMeets : ℕ → Bool → List ℕ → Result (ℤ × List ℕ) ℕ → Type 0
NumberMeets limit minus s (Ok p) = Took limit minus s p.0 p.1
NumberMeets limit minus s (Err n) = NoNumber limit minus s n

unsigned_meets : (limit : ℕ) (minus : Bool) (s : List ℕ) → Limit limit → (minus ≡ true → first s ≡ 45 → ⊥) → NumberMeets limit minus s (unsigned_of limit s)
unsigned_meets limit minus [] l plain = λ ps. number_stops limit minus (omega arith) ps [] (inr (omega arith)) plain
unsigned_meets limit minus (b ∷ s) l plain = cond_both (digit 48 b) _ _ (NumberMeets limit minus (b ∷ s))
    (λ e.
    let d = digit_true 48 b e in
    let m = digits_meet limit (b - 48) s l.1 (omega (arith, d.1, l.0)) in
    record { suits = m.fits; front = digit_front b s d.0 d.1 ∙ m.front; stops = m.stops })
    (λ e ps. number_stops limit minus (omega (arith, l.1)) ps (b ∷ s) (digit_false 48 b e) plain)

negative_meets : (limit : ℕ) (s : List ℕ) → Limit limit → NumberMeets limit true (45 ∷ s) (negative_of limit s)
negative_meets limit [] l = λ ps. minus_stops limit true (omega arith) ps [] refl (omega arith) (inr (omega arith))
negative_meets limit (b ∷ s) l = cond_both (digit 49 b) _ _ (NumberMeets limit true (45 ∷ b ∷ s))
    (λ e.
    let d = digit_true 49 b e in
    let m = digits_meet limit (b - 48) s l.1 (omega (arith, d.1, l.0)) in
    took_minus limit _ _ _ _ (omega (arith, m.from, d.0)) m.fits refl (digit_front b s (omega (arith, d.0)) d.1 ∙ m.front) m.stops)
    (λ e ps. minus_stops limit true (omega (arith, l.1)) ps (b ∷ s) refl (omega (arith, l.0)) (digit_false 49 b e))

number_meets : (limit : ℕ) (minus : Bool) (s : List ℕ) → Limit limit → NumberMeets limit minus s (number_of limit minus s)
number_meets limit minus [] l = λ ps. number_stops limit minus (omega arith) ps [] (inr (omega arith)) (λ m e. omega arith)
number_meets limit false (b ∷ s) l = unsigned_meets limit false (b ∷ s) l (λ m e. false≢true m)
number_meets limit true (b ∷ s) l = cond_both (eqb b 45) _ _ (NumberMeets limit true (b ∷ s))
    (λ e. subst (λ x. NumberMeets limit true (x ∷ s) (negative_of limit s)) (sym (eqb-true b 45 e)) (negative_meets limit s l))
    (λ e. unsigned_meets limit true (b ∷ s) l (λ m h. eqb-false b 45 e h))

abbrev ScanMeets : List Piece → List ℕ → Result (List ℤ) ℕ → Type 0
ScanMeets ps s (Ok vs) = Fits ps vs × (s ≡ fill ps vs)
ScanMeets ps s (Err n) = Fault (Lines ps) s n

nil_cons : {b : ℕ} {s : List ℕ} → [] ≡ b ∷ s → ⊥
nil_cons e = grind arith

-- nothing is left of the line
line_ends : (a : ℕ) (ps : List Piece) → Fault (Lines (text a ∷ ps)) [] 0
line_ends a ps = record { none = λ h. nil_cons h.2; within = zero-le; shared = (_, some_line (text a ∷ ps)); most = λ m h b. h }

text_meets : (a : ℕ) (ps : List Piece) (s : List ℕ) (r : Result (List ℤ) ℕ) → ScanMeets ps s r → ScanMeets (text a ∷ ps) (a ∷ s) (after_text r)
text_meets a ps s (Ok vs) m = (m.0, ap (λ x. a ∷ x) m.1)
text_meets a ps s (Err n) m = text_on a ps s n m

after_meets : (limit : ℕ) (minus : Bool) (ps : List Piece) (s s' : List ℕ) (z : ℤ) (r : Result (List ℤ) ℕ) → Limit limit → Sound (number limit minus ∷ ps) → Took limit minus s z s' → ScanMeets ps s' r
    → ScanMeets (number limit minus ∷ ps) s (after_number (length s - length s') z r)
after_meets limit minus ps s s' z (Ok vs) l h t m = ((t.suits, m.0), t.front ∙ ap (λ x. signed_decimal z ++ x) m.1)
after_meets limit minus ps s s' z (Err n) l h t m =
    let k : length (signed_decimal z) ≡ length s - length s' = omega (arith, ap length t.front, length-append (signed_decimal z) s') in
    let f = number_on limit minus (omega (arith, l.1)) ps z s' n h.0 t.suits t.stops m in
    subst (λ j. Fault (Lines (number limit minus ∷ ps)) s (j + n)) k (subst (λ x. Fault (Lines (number limit minus ∷ ps)) x (length (signed_decimal z) + n)) (sym t.front) f)

on_meets : (limit : ℕ) (minus : Bool) (ps : List Piece) (s : List ℕ) (r : Result (ℤ × List ℕ) ℕ) → Limit limit → Sound (number limit minus ∷ ps) → NumberMeets limit minus s r → ((u : List ℕ) → ScanMeets ps u (scan_of ps u))
    → ScanMeets (number limit minus ∷ ps) s (go_on s r (scan_of ps))
on_meets limit minus ps s (Ok p) l h m next = after_meets limit minus ps s p.1 p.0 (scan_of ps p.1) l h m (next p.1)
on_meets limit minus ps s (Err n) l h m next = m ps

scan_meets : (ps : List Piece) → Sound ps → AllSmall ps → (s : List ℕ) → ScanMeets ps s (scan_of ps s)
scan_meets [] h l [] = (tt, refl)
scan_meets [] h l (b ∷ s) = end_stops b s
scan_meets (text a ∷ ps) h l [] = line_ends a ps
scan_meets (text a ∷ ps) h l (b ∷ s) = cond_both (eqb b a) _ _ (ScanMeets (text a ∷ ps) (b ∷ s))
    (λ e. subst (λ x. ScanMeets (text a ∷ ps) (x ∷ s) (after_text (scan_of ps s))) (sym (eqb-true b a e)) (text_meets a ps s (scan_of ps s) (scan_meets ps h l.1 s)))
    (λ e. text_stops a ps (b ∷ s) (eqb-false b a e))
scan_meets (number limit minus ∷ ps) h l s = on_meets limit minus ps s (number_of limit minus s) l.0 h (number_meets limit minus s l.0) (scan_meets ps h.1 l.1)

abbrev ReadMeets : Option Kind → List ℕ → Result Call ℕ → Type 0
ReadMeets opened line (Ok c) = Reads opened line c
ReadMeets opened line (Err n) = Fault (Legal opened) line n

module _ (opened : Option Kind) (line : List ℕ) where
  from_meets : (done fs : List Form) (place : ℕ) → done ++ fs ≡ forms_of opened → Tried done line place → ReadMeets opened line (read_from fs place line)
  from_meets done [] place e t = all_tried opened line place (subst (λ xs. Tried xs line place) (sym (append-nil done) ∙ e) t)
  from_meets done (f ∷ fs) place e t = go (scan_of (pieces (pattern_of f)) line) (scan_meets (pieces (pattern_of f)) (sound f) (all_small (pattern_of f)) line)
      (λ n h. from_meets (done ++ f ∷ []) fs (max place n) (append_assoc done (f ∷ []) fs ∙ e) (tried_more done line place f n t h))
    where
      go : (r : Result (List ℤ) ℕ) → ScanMeets (pieces (pattern_of f)) line r → ((n : ℕ) → Fault (Lines (pieces (pattern_of f))) line n → ReadMeets opened line (read_from fs (max place n) line))
          → ReadMeets opened line (try_of f r (λ n. read_from fs (max place n) line))
      go (Ok vs) m next = reads opened f vs line (subst (λ xs. Contains xs f) e (Contains-append_right done (f ∷ fs) f (0, omega arith, refl))) m.0 m.1
      go (Err n) m next = next n m

  read_meets : ReadMeets opened line (read_of opened line)
  read_meets = from_meets [] (forms_of opened) 0 refl (untried line)

-- a line has one fault
one_fault : (L : List ℕ → Type 0) (s : List ℕ) (m n : ℕ) → Fault L s m → Fault L s n → m ≡ n
one_fault L s m n f g = omega (arith, g.most m f.within f.shared, f.most n g.within g.shared)

-- so what meets the same is the same
pub same_call : (opened : Option Kind) (line : List ℕ) (c : Call) → Reads opened line c → read_of opened line ≡ Ok c
same_call opened line c r = go (read_of opened line) (read_meets opened line)
  where
    go : (q : Result Call ℕ) → ReadMeets opened line q → q ≡ Ok c
    go (Ok d) m = ap Ok (once opened d c m.0 r.0 (sym m.1 ∙ r.1))
    go (Err n) m = absurd (m.none (c, r))

pub same_fault : (opened : Option Kind) (line : List ℕ) (n : ℕ) → Fault (Legal opened) line n → read_of opened line ≡ Err n
same_fault opened line n f = go (read_of opened line) (read_meets opened line)
  where
    go : (q : Result Call ℕ) → ReadMeets opened line q → q ≡ Err n
    go (Ok d) m = absurd (f.none (d, m))
    go (Err k) m = ap Err (one_fault (Legal opened) line k n m f)

pub reads_back : (opened : Option Kind) → ReadsBack opened
reads_back opened c a = same_call opened (written c) c (a, refl)

pub one_line : (opened : Option Kind) → OneLine opened
one_line opened line c e = subst (ReadMeets opened line) e (read_meets opened line)

pub fault_place : (opened : Option Kind) → FaultPlace opened
fault_place opened line n e = subst (ReadMeets opened line) e (read_meets opened line)

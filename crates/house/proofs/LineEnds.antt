-- Where the first line of a text ends.
use Rattle.std.proofs.Common.{◌≡◌, ℕ, zero, suc, ◌+◌, ◌-◌, ◌<◌, Bool, true, false, eqb, List, [], ◌∷◌, length, get_or, take, drop, refl, ap, ◌∙◌, add-one, arith, length-drop}
use Rattle.std.proofs.lemmas.List.{take_all}
use Rattle.std.proofs.lemmas.Bool.{cond-true, cond-false, eqb-true, eq-eqb}
use Rattle.house.specs.Lines.{in_front, lines_of, Unended}

not_ten : (b : ℕ) (t : Bool) → eqb b 10 ≡ t → (b ≡ 10 → ⊥) → t ≡ false
not_ten b true e n = absurd (n (eqb-true b 10 e))
not_ten b false e n = refl

front : (b : ℕ) (text : List ℕ) → (b ≡ 10 → ⊥) → lines_of (b ∷ text) ≡ in_front b (lines_of text)
unfolding lines_of
front b text n = cond-false (eqb b 10) ([] ∷ lines_of text) (in_front b (lines_of text)) (not_ten b (eqb b 10) refl n)

pub ends_at : (text : List ℕ) (e : ℕ) → e < length text → Unended text e → get_or text e 0 ≡ 10 → lines_of text ≡ take e text ∷ lines_of (drop (suc e) text)
unfolding lines_of
ends_at [] e h n s = absurd (omega arith)
ends_at (b ∷ text) zero h n s = cond-true (eqb b 10) ([] ∷ lines_of text) (in_front b (lines_of text)) (eq-eqb b 10 s)
ends_at (b ∷ text) (suc e) h n s =
    front b text (n 0 (omega arith)) ∙ ap (in_front b) (ends_at text e (omega arith) (λ k l. n (suc k) (omega arith)) s)

pub ends_last : (text : List ℕ) → 0 < length text → Unended text (length text) → lines_of text ≡ text ∷ []
unfolding lines_of
ends_last [] h n = absurd (omega arith)
ends_last (b ∷ []) h n = front b [] (n 0 (omega arith))
ends_last (b ∷ (c ∷ text)) h n =
    front b (c ∷ text) (n 0 (omega arith)) ∙ ap (in_front b) (ends_last (c ∷ text) (omega arith) (λ k l. n (suc k) (omega arith)))

pub none_of : (text : List ℕ) → length text ≡ 0 → lines_of text ≡ []
unfolding lines_of
none_of [] e = refl
none_of (b ∷ text) e = absurd (omega arith)

-- what follows the first line, as the code cuts it
pub first_line : (text : List ℕ) (e : ℕ) → e < length text → Unended text e → get_or text e 0 ≡ 10
    → lines_of text ≡ take e text ∷ lines_of (take (length text - (e + 1)) (drop (e + 1) text))
first_line text e h n s =
    rw (take_all (length text - (e + 1)) (drop (e + 1) text) (simp length-drop (omega arith)), add-one) (ends_at text e h n s)

pub only_line : (text : List ℕ) → eqb (length text) 0 ≡ false → Unended text (length text) → lines_of text ≡ text ∷ lines_of []
unfolding lines_of
only_line text f n = ends_last text (grind arith) n

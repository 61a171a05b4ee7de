-- What is printed, line by line.
use Rattle.std.proofs.Common.{◌≡◌, ℕ, List, [], ◌∷◌, ◌++◌, Ok, Result, sym, ap, ◌∙◌, append_assoc, append-nil}
use Rattle.refusal.specs.declared.Refusal.{Refusal}
use Rattle.model.specs.Ledger.{State}
use Rattle.forms.specs.declared.calls.Kind.{Kind}
use Rattle.forms.specs.declared.calls.HouseForm.{HouseForm}
use Rattle.house.specs.declared.answer.Answer.TheVariants.{Opened}
use Rattle.house.specs.Text.{answer_text}
use Rattle.house.specs.Serving.{serve_line}
use Rattle.house.specs.Run.{printed, served, ledger_of, on_opening, opening_of, unopened}

-- a line is served: what is left to print is that of the other lines
pub one-served : (k : Kind) (s s' : State) (line : List ℕ) (lines ls : List (List ℕ)) (out out' text : List ℕ)
    → ls ≡ line ∷ lines → (text, s') ≡ serve_line k s line → out' ≡ out ++ printed text → out' ++ served k s' lines ≡ out ++ served k s ls
one-served k s s' line lines ls out out' text e f g =
    ap (λ (x : List ℕ). x ++ served k s' lines) g ∙ (append_assoc out (printed text) (served k s' lines)
    ∙ (ap (λ (x : List ℕ × State). out ++ (printed x.0 ++ served k x.1 lines)) f ∙ ap (λ (x : List (List ℕ)). out ++ served k s x) (sym e)))

pub all_served : (k : Kind) (s : State) (ls : List (List ℕ)) (out : List ℕ) → ls ≡ [] → out ++ served k s ls ≡ out
all_served k s ls out e = ap (λ (x : List (List ℕ)). out ++ served k s x) e ∙ append-nil out

-- a line opens a house
pub one_opened : (h : HouseForm) (line : List ℕ) (lines ls : List (List ℕ)) (out out' : List ℕ)
    → ls ≡ line ∷ lines → Ok h ≡ opening_of line → out' ≡ out ++ printed (answer_text (Opened h.house))
    → out' ++ served h.kind (ledger_of h) lines ≡ out ++ unopened ls
one_opened h line lines ls out out' e f g =
    ap (λ (x : List ℕ). x ++ served h.kind (ledger_of h) lines) g ∙ (append_assoc out (printed (answer_text (Opened h.house))) (served h.kind (ledger_of h) lines)
    ∙ (ap (λ (x : Result HouseForm Refusal). out ++ on_opening x (unopened lines) lines) f ∙ ap (λ (x : List (List ℕ)). out ++ unopened x) (sym e)))

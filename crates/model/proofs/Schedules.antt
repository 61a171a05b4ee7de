-- Two ledgers laid alike that work one script decide alike: each decides as the serial reading does.
use Rattle.std.proofs.Common.{◌≡◌, ℕ, List, [], ◌∷◌, map, sym, refl, ap, ◌∙◌, subst}
use Rattle.shelf.specs.Contents.{Contents, Sound}
use Rattle.model.specs.Ledger.{State, Call, Answer, opens}
use Rattle.model.specs.Journal.{Base, Journal, blank, feed}
use Rattle.model.specs.Runs as runs
use Rattle.model.specs.Script.{Batch, Decision, Progress, Rising, prog, idle, Works, Logged, log_of, AllSettled, lays, Working}
use Rattle.model.specs.Promises.{bins_after, SchedulesAlike}
use Rattle.model.proofs.Listed.{Listed, Both, as_map, opened_at, step, after, start, told}
use Rattle.model.proofs.Link.{Link}
use Rattle.model.proofs.Step.{link_step, link_after, link_start}
use Rattle.model.proofs.Simulate.{simulates}
use Rattle.model.proofs.Opening.{house_of, opens_list}
use Rattle.model.proofs.Serial.{serial_of, serial_end}
use Rattle.model.proofs.WholeScript.{Came, came, to_bin}

told_same : (cs : List Call) (s : Listed) (w : Journal) → Link s w → runs.told (as_map s) cs ≡ told s cs
told_same [] s w l = refl
told_same (c ∷ cs) s w l =
    ap {B = List (Call × Answer)} (λ (y : Answer × State). (c, y.0) ∷ runs.told y.1 cs) (simulates s w l c)
    ∙ ap {B = List (Call × Answer)} (λ xs. (c, (step s c).0) ∷ xs) (told_same cs (step s c).1 (feed w c (step s c).0) (link_step s w c l))

after_same : (cs : List Call) (s : Listed) (w : Journal) → Link s w → runs.after (as_map s) cs ≡ as_map (after (record { ledger = s; journal = w }) cs).ledger
after_same [] s w l = refl
after_same (c ∷ cs) s w l =
    ap (λ (y : Answer × State). runs.after y.1 cs) (simulates s w l c)
    ∙ after_same cs (step s c).1 (feed w c (step s c).0) (link_step s w c l)

-- the list ledger with its journal, after the laying
abbrev laid_at : ℕ → ℕ → Contents → List Call → Both
laid_at house limit s ls = after (start (house_of house limit s)) ls

-- what a ledger that works a script comes to, by the serial reading of what was laid
pub record Read (house limit : ℕ) (s : Contents) (ls : List Call) (script : List Batch) (cs : List Call) (end : Progress) : Type 0 where
  pub decided : (e : Decision) → Logged e (log_of end) → serial_of limit (lays (runs.told (opens house limit s) ls)) script e.batch e.item ≡ e.said
  pub bins : AllSettled end
      → bins_after house limit s ls cs ≡ map to_bin (serial_end limit (lays (runs.told (opens house limit s) ls)) script)

pub read : (house limit : ℕ) (s : Contents) → Sound s → (ls : List Call) (script : List Batch) → Rising 0 script → (cs : List Call) (x : Working house limit s ls script cs)
    → Read house limit s ls script cs x.end
read house limit s ok ls script up cs x =
    record {
      decided = λ e m. ap (λ (v : List Base). serial_of limit v script e.batch e.item) lays_are ∙ c.decided e m;
      bins = λ a.
          ap (λ (m : State). (runs.after m cs).shelf.bins) laid_is
          ∙ ap (λ (m : State). m.shelf.bins) (after_same cs (laid_at house limit s ls).ledger (laid_at house limit s ls).journal laid_link)
          ∙ c.bins a
          ∙ ap (λ (v : List Base). map to_bin (serial_end limit v script)) (sym lays_are);
    }
  where
    laid_link : Link (laid_at house limit s ls).ledger (laid_at house limit s ls).journal
    laid_link = link_after ls (start (house_of house limit s)) (link_start (house_of house limit s))

    laid_is : runs.after (opens house limit s) ls ≡ as_map (laid_at house limit s ls).ledger
    laid_is = ap (λ (m : State). runs.after m ls) (opens_list house limit s ok x.fit) ∙ after_same ls (opened_at (house_of house limit s)) blank (link_start (house_of house limit s))

    lays_are : lays (runs.told (opens house limit s) ls) ≡ lays (told (opened_at (house_of house limit s)) ls)
    lays_are = ap lays (ap (λ (m : State). runs.told m ls) (opens_list house limit s ok x.fit) ∙ told_same ls (opened_at (house_of house limit s)) blank (link_start (house_of house limit s)))

    c : Came (house_of house limit s) ls script cs x.end
    c = came (house_of house limit s) ls script cs up
        (record {
          fit = refl;
          unbegun = ap (λ (m : State). m.last) (sym laid_is) ∙ x.unbegun;
          end = x.end;
          works = subst (λ (ts : List (Call × Answer)). Works house (prog script idle [] []) ts x.end)
              (ap (λ (m : State). runs.told m cs) laid_is ∙ told_same cs (laid_at house limit s ls).ledger (laid_at house limit s ls).journal laid_link)
              x.works;
        })

pub schedules_alike : SchedulesAlike
schedules_alike limit house₁ house₂ s₁ s₂ ok₁ ok₂ ls₁ ls₂ same script up cs₁ cs₂ x₁ x₂ =
    let r₁ = read house₁ limit s₁ ok₁ ls₁ script up cs₁ x₁ in
    let r₂ = read house₂ limit s₂ ok₂ ls₂ script up cs₂ x₂ in (
      (λ n i a b m₁ m₂.
          sym (r₁.decided (record { batch = n; item = i; said = a }) m₁)
          ∙ ap (λ (v : List Base). serial_of limit v script n i) same
          ∙ r₂.decided (record { batch = n; item = i; said = b }) m₂),
      (λ a₁ a₂. r₁.bins a₁ ∙ ap (λ (v : List Base). map to_bin (serial_end limit v script)) same ∙ sym (r₂.bins a₂)),
    )

-- Wherever calls lead the reference ledger, it is a list ledger linked to its journal, or an unfit one as it was opened.
use Rattle.std.proofs.Common.{◌≡◌, ℕ, ◌≤◌, Bool, true, false, List, [], ◌∷◌, sym, refl, subst}
use Rattle.shelf.specs.Contents.{Contents}
use Rattle.model.specs.Ledger.{State, Call, Answer, fit_shelf, opens, least_grants}
use Rattle.model.specs.Journal.{Journal, blank, feed, fed}
use Rattle.model.specs.Runs as runs
use Rattle.model.specs.Runs.{journal_at, Reached}
use Rattle.model.specs.Promises.{Always}
use Rattle.model.proofs.Listed.{House, Listed, as_map, opened_at, step}
use Rattle.model.proofs.Link.{Link}
use Rattle.model.proofs.Step.{link_step, link_start}
use Rattle.model.proofs.Verdicts.{house_step}
use Rattle.model.proofs.HeldAsk.{HeldFits, step-held}
use Rattle.model.proofs.Simulate.{simulates}
use Rattle.model.proofs.Opening.{fit_room, house_of, opens_list, unfit_after, unfit_journal}

-- what holds of a list ledger and its journal wherever calls lead
pub record Good (s : Listed) (w : Journal) : Type 0 where
  pub link : Link s w
  pub held : HeldFits s.house.limit s.active
  pub room : least_grants ≤ s.house.grant_capacity

pub good_step : (s : Listed) (w : Journal) (c : Call) → Good s w → Good (step s c).1 (feed w c (step s c).0)
good_step s w c g =
    record {
      link = link_step s w c g.link;
      held = step-held s c g.held;
      room = subst (λ (h : House). least_grants ≤ h.grant_capacity) (sym (house_step s c)) g.room;
    }

-- what holds of every good list ledger holds after any calls
follow : (P : State → Journal → Type 0) → ((s : Listed) (w : Journal) → Good s w → P (as_map s) w)
    → (cs : List Call) (s : Listed) (w : Journal) → Good s w → P (runs.after (as_map s) cs) (fed w (runs.told (as_map s) cs))
follow P h [] s w g = h s w g
follow P h (c ∷ cs) s w g =
    subst (λ (y : Answer × State). P (runs.after y.1 cs) (fed (feed w c y.0) (runs.told y.1 cs))) (sym (simulates s w g.link c))
    (follow P h cs (step s c).1 (feed w c (step s c).0) (good_step s w c g))

pub always : (P : State → Journal → Type 0) → ((house limit : ℕ) (s : Contents) → fit_shelf s ≡ false → P (opens house limit s) blank)
    → ((s : Listed) (w : Journal) → Good s w → P (as_map s) w) → Always P
always P unfit good house limit s ok cs = go (fit_shelf s) refl
  where
    go : (t : Bool) → fit_shelf s ≡ t → P (runs.after (opens house limit s) cs) (journal_at house limit s cs)
    go true e =
        subst (λ (m : State). P (runs.after m cs) (fed blank (runs.told m cs))) (sym (opens_list house limit s ok e))
        (follow P good cs (opened_at (house_of house limit s)) blank (record { link = link_start (house_of house limit s); held = tt; room = fit_room s e }))
    go false e =
        subst (λ (m : State). P m (journal_at house limit s cs)) (sym (unfit_after cs (opens house limit s) e))
        (subst (P (opens house limit s)) (sym (unfit_journal cs (opens house limit s) blank e)) (unfit house limit s e))

-- and so it holds where a ledger was reached
pub reached_journal : (P : State → Journal → Type 0) → Always P → (m : State) (cs : List Call) (r : Reached m cs) → P m (journal_at m.house m.limit r.0 cs)
reached_journal P h m cs r =
    subst (λ (y : State). P y (journal_at m.house m.limit r.0 cs)) (sym r.1.1) (h m.house m.limit r.0 r.1.0 cs)

pub reached : (P : State → Type 0) → Always (λ m w. P m) → (m : State) (cs : List Call) → Reached m cs → P m
reached P h = reached_journal (λ m w. P m) h

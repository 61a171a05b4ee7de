-- A ledger opened on a fit shelf starts empty, and one opened on an unfit shelf refuses every call.
use Rattle.std.proofs.Common.{◌≡◌, ℕ, ◌≤◌, true, false, ◌&&◌, eqb, leb, List, [], ◌∷◌, length, Some, refl, ap, ◌∙◌, arith}
use Rattle.std.proofs.lemmas.Bool.{and_parts, eqb-true, leb-true}
use Rattle.shelf.specs.Contents.{Figures, Contents, Sound, empty_contents}
use Rattle.model.specs.Ledger.{State, Call, Answer, fit_capacities, fit_shelf, opens, refusal, serve, step, least_bins, most_bins, least_grants, most_grants, vacant, refused}
use Rattle.model.specs.Ledger.{lay, begin, ask, look, again, close, drop, keep, undo, report}
use Rattle.model.specs.Journal.{Journal, blank, feed, fed}
use Rattle.model.specs.Runs.{after, told}
use Rattle.model.specs.Promises.{UnfitRefuses}
use Rattle.model.proofs.Listed.{House, opened_at, as_map}
use Rattle.model.proofs.Step.{feed_refused}

-- ---- a fit shelf

no_bins : (xs : List Figures) → length xs ≡ 0 → xs ≡ []
no_bins [] e = refl
no_bins (x ∷ xs) e = absurd (omega arith)

pub fit_empty : (s : Contents) → Sound s → fit_shelf s ≡ true → s ≡ empty_contents s.bin_capacity s.grant_capacity
unfolding fit_shelf fit_capacities
fit_empty s ok e =
    let p = and_parts _ (eqb s.held 0) e in
    let q = and_parts _ (eqb (length s.bins) 0) p.0 in
    let none : s.held ≡ 0 = eqb-true s.held 0 p.1 in
    let bins = no_bins s.bins (eqb-true (length s.bins) 0 q.1) in
    λ i. record { bins = bins i; grants = λ b k. ok.none_held none b k i; held = none i; bin_capacity = s.bin_capacity; grant_capacity = s.grant_capacity }

pub fit_room : (s : Contents) → fit_shelf s ≡ true → least_grants ≤ s.grant_capacity
unfolding fit_shelf fit_capacities
fit_room s e =
    let p = and_parts _ (eqb s.held 0) e in
    let q = and_parts _ (eqb (length s.bins) 0) p.0 in
    let r = and_parts _ (leb s.grant_capacity most_grants) q.0 in
    let t = and_parts (leb least_bins s.bin_capacity && leb s.bin_capacity most_bins) (leb least_grants s.grant_capacity) r.0 in
    leb-true least_grants s.grant_capacity t.1

-- the house of the list ledger
abbrev pub house_of : ℕ → ℕ → Contents → House
house_of house limit s = record { number = house; limit = limit; bin_capacity = s.bin_capacity; grant_capacity = s.grant_capacity; fit = true }

pub opens_list : (house limit : ℕ) (s : Contents) → Sound s → fit_shelf s ≡ true → opens house limit s ≡ as_map (opened_at (house_of house limit s))
opens_list house limit s ok e =
    let same = fit_empty s ok e in
    λ i. record { house = house; limit = limit; fit = e i; last = 0; shelf = same i; queue = []; active = vacant }

-- ---- an unfit shelf

pub unfit_refusal : (m : State) → m.fit ≡ false → (c : Call) → refusal m c ≡ Some 1
unfit_refusal m e (lay x y z) = rw e
unfit_refusal m e (begin n) = rw e
unfit_refusal m e (ask p b d) = rw e
unfit_refusal m e (look p b) = rw e
unfit_refusal m e (again p) = rw e
unfit_refusal m e (close p) = rw e
unfit_refusal m e (drop p) = rw e
unfit_refusal m e (keep n) = rw e
unfit_refusal m e (undo n) = rw e
unfit_refusal m e (report b) = rw e

pub unfit_step : (m : State) (c : Call) → m.fit ≡ false → step m c ≡ (refused 1, m)
unfolding step
unfit_step m c e = ap (serve m c) (unfit_refusal m e c)

pub unfit_after : (cs : List Call) (m : State) → m.fit ≡ false → after m cs ≡ m
unfit_after [] m e = refl
unfit_after (c ∷ cs) m e = ap (λ (y : Answer × State). after y.1 cs) (unfit_step m c e) ∙ unfit_after cs m e

pub unfit_journal : (cs : List Call) (m : State) (w : Journal) → m.fit ≡ false → fed w (told m cs) ≡ w
unfit_journal [] m w e = refl
unfit_journal (c ∷ cs) m w e =
    ap (λ (y : Answer × State). fed (feed w c y.0) (told y.1 cs)) (unfit_step m c e)
    ∙ ap (λ (v : Journal). fed v (told m cs)) (feed_refused c w 1)
    ∙ unfit_journal cs m w e

pub unfit_refuses : UnfitRefuses
unfit_refuses house limit s e cs = (
  (λ c. ap (λ (m : State). step m c) (unfit_after cs (opens house limit s) e) ∙ unfit_step (opens house limit s) c e),
  unfit_journal cs (opens house limit s) blank e,
)

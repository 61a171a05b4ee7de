-- The promises, from what holds of a good list ledger.
use Rattle.std.proofs.Common.{◌≡◌, ℕ, ◌<◌, false, not, [], length, ℤ, pos, sym, ap, ◌∙◌, subst, arith}
use lib.Signed.{lt_z}
use Rattle.model.specs.Ledger as ref
use Rattle.model.specs.Ledger.{State, Token, Active, Call, Answer, opens, asking, ask, again, waits, refused}
use Rattle.model.specs.Journal.{Journal, Judged}
use Rattle.model.specs.Promises.{NotRefused, AskExact, AgainExact, VerdictsAt, VerdictsExact, FiguresAt, FiguresExact, NoIdleWait}
use Rattle.model.proofs.Listed.{Listed, as_map, rejudge, act, step}
use Rattle.model.proofs.Link.{Admitted}
use Rattle.model.proofs.Endings.{pick}
use Rattle.model.proofs.Step.{let_through}
use Rattle.model.proofs.Verdicts.{inf_least, inf_reached, sup_greatest, sup_reached, val_is, judged, served-act}
use Rattle.model.proofs.Idle.{no_idle_wait as list-no-idle-wait}
use Rattle.model.proofs.Simulate.{simulates}
use Rattle.model.proofs.Opening.{unfit_step}
use Rattle.model.proofs.Follow.{Good, always}
use Rattle.model.proofs.Clash.{no_way, true_false}

-- the reference ledger's answer is the list ledger's
says : (s : Listed) (w : Journal) → Good s w → (c : Call) → (ref.step (as_map s) c).0 ≡ (step s c).0
says s w g c = ap (λ (y : Answer × State). y.0) (simulates s w g.link c)

-- an unfit ledger refuses every call
unfit_says : (m : State) (c : Call) → m.fit ≡ false → (ref.step m c).0 ≡ refused 1
unfit_says m c e = ap (λ (y : Answer × State). y.0) (unfit_step m c e)

-- ---- verdicts

-- a verdict on the list ledger is one on the reference ledger
carried : (s : Listed) (w : Journal) → Good s w → (c : Call) (b : ℕ) (d : ℤ) → (NotRefused (step s c).0 → Judged s.house.grant_capacity w b d (step s c).0)
    → NotRefused (ref.step (as_map s) c).0 → Judged s.house.grant_capacity w b d (ref.step (as_map s) c).0
carried s w g c b d j ok = subst (Judged s.house.grant_capacity w b d) (sym (says s w g c)) (j (subst NotRefused (says s w g c) ok))

ask_exact : (s : Listed) (w : Journal) → Good s w → AskExact (as_map s) w
unfolding act
ask_exact s w g p b d =
    carried s w g (ask p b d) b d (λ ok.
    let q = served-act s (ask p b d) ok in
    let t = let_through s w p b d g.link q.0 in
    subst (λ (a : Answer × Listed). Judged s.house.grant_capacity w b d a.0) (sym q.1) (judged s w g.link b t.there d p.batch))

-- what is held was let through by the checks
held_admitted : (s : Listed) (w : Journal) → Good s w → (n b : ℕ) (d : ℤ) → s.active ≡ asking n b d → Admitted (asking n b d) w
held_admitted s w g n b d at = subst (λ (t : Active). Admitted t w) at g.link.admitted

again_exact : (s : Listed) (w : Journal) → Good s w → AgainExact (as_map s) w
unfolding act
again_exact s w g p n b d at =
    carried s w g (again p) b d (λ ok.
    let q = served-act s (again p) ok in
    subst (λ (a : Answer × Listed). Judged s.house.grant_capacity w b d a.0) (sym q.1)
    (subst (λ (t : Active). Judged s.house.grant_capacity w b d (rejudge s t).0) (sym at) (judged s w g.link b (held_admitted s w g n b d at).0 d n)))

pub verdicts_exact : VerdictsExact
verdicts_exact =
    always VerdictsAt
    (λ house limit s e. (
      (λ p b d ok. absurd (ok 1 (unfit_says (opens house limit s) (ask p b d) e))),
      (λ p n b d at ok. absurd (ok 1 (unfit_says (opens house limit s) (again p) e))),
      (λ n b d at. no_way cc),
    ))
    (λ s w g. (ask_exact s w g, again_exact s w g, λ n b d at. (held_admitted s w g n b d at).3))

-- ---- figures

pub figures_exact : FiguresExact
figures_exact =
    always FiguresAt
    (λ house limit s e fit. true_false (sym fit ∙ e))
    (λ s w g fit b h.
    let l = g.link in
    let i : b < length w.bases = let e = l.size in omega arith in (
      (inf_least s w l b i, (pick (λ d. lt_z d (pos 0)) b w.entries, inf_reached s w l b i)),
      (sup_greatest s w l b i, (pick (λ d. not (lt_z d (pos 0))) b w.entries, sup_reached s w l b i)),
      val_is s w l b i,
    ))

-- ---- waiting

pub no_idle_wait : NoIdleWait
no_idle_wait =
    always (λ m w. (p : Token) → m.queue ≡ [] → (ref.step m (again p)).0 ≡ waits → ⊥)
    (λ house limit s e p none q. let r = sym q ∙ unfit_says (opens house limit s) (again p) e in no_way cc)
    (λ s w g p none q. list-no-idle-wait s w g.link g.room p none (sym (says s w g (again p)) ∙ q))

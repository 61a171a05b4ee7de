-- With no closed batch left, what is held is decided.
use Rattle.std.proofs.Common.{◌≡◌, ℕ, suc, ◌≤◌, Bool, true, false, ◌&&◌, ◌||◌, eqb, List, [], ◌∷◌, length, ℤ, pos, ◌+ℤ◌, sym, refl, ap, ◌∙◌, subst, arith}
use lib.IntN.{+ℤ_idl, +ℤ_idr}
use Rattle.std.proofs.lemmas.Int.{ints, by_lt_z}
use Rattle.std.proofs.lemmas.Bool.{eqb-true, or_parts, eq-eqb}
use Rattle.model.specs.Journal.{Entry, Journal, total, only, base_at, leaves, EveryLands, NoneLands}
use Rattle.model.specs.Ledger.{Active, Answer, vacant, working, asking, looking, spoiled, again, waits, batch_limit, Token}
use Rattle.model.proofs.Endings.{kept_share}
use Rattle.model.proofs.Link.{Link, Owned, Admitted}
use Rattle.model.proofs.Listed.{Listed, holds, held, others, judge, peek, rejudge, act, step}
use Rattle.model.proofs.Verdicts.{judged, served-act}
use Rattle.model.proofs.Clash.{no_way, true_false}

-- all entries are the active batch's own
all_held : (n : ℕ) (rs : List Entry) → Owned rs [] (working n) → held n rs ≡ length rs
all_held n [] o = refl
all_held n (r ∷ rs) o = rw (eq-eqb r.batch n (sym (eqb-true n r.batch o.0))) (ap suc (all_held n rs o.1))

no_others : (b n : ℕ) (rs : List Entry) → Owned rs [] (working n) → others b n rs ≡ false
no_others b n [] o = refl
no_others b n (r ∷ rs) o = rw (eq-eqb r.batch n (sym (eqb-true n r.batch o.0))) (go (eqb r.bin b) (no_others b n rs o.1))
  where
    go : (t : Bool) → others b n rs ≡ false → ((t && false) || others b n rs) ≡ false
    go true ih = ih
    go false ih = ih

-- and none of them in the bin: every ending leaves the base
one_ending : (b n : ℕ) (keeps : ℕ → Bool) (rs : List Entry) → Owned rs [] (working n) → holds b n rs ≡ false → total (kept_share b keeps) rs ≡ pos 0
one_ending b n keeps [] o h = refl
one_ending b n keeps (r ∷ rs) o h =
    let parts = or_parts (eqb r.bin b && eqb r.batch n) (holds b n rs) h in
    go (eqb r.bin b) (subst (λ (t : Bool). (eqb r.bin b && t) ≡ false) (eq-eqb r.batch n (sym (eqb-true n r.batch o.0))) parts.0) (one_ending b n keeps rs o.1 parts.1)
  where
    go : (t : Bool) → (t && true) ≡ false → total (kept_share b keeps) rs ≡ pos 0 → only (t && keeps r.batch) r.amount +ℤ total (kept_share b keeps) rs ≡ pos 0
    go true e ih = true_false e
    go false e ih = +ℤ_idl _ ∙ ih

idle_ask : (s : Listed) (w : Journal) → Link s w → batch_limit ≤ s.house.grant_capacity → (n b : ℕ) (d : ℤ) → Owned w.entries [] (working n) → Admitted (asking n b d) w
    → (judge s n b d).0 ≡ waits → ⊥
idle_ask s w l capacity n b d o v e =
    by_lt_z (base +ℤ d) floor (λ u. not_failed (λ keeps q. let k = end keeps in let m = q.0 in omega (arith, ints)))
    (λ u. by_lt_z ceiling (base +ℤ d) (λ t. not_failed (λ keeps q. let k = end keeps in let m = q.1 in omega (arith, ints)))
    (λ t. not_granted (λ keeps. (let k = end keeps in omega (arith, ints), let k = end keeps in omega (arith, ints)))))
  where
    base : ℤ
    base = (base_at w.bases b).base

    floor : ℤ
    floor = (base_at w.bases b).floor

    ceiling : ℤ
    ceiling = (base_at w.bases b).ceiling

    end : (keeps : ℕ → Bool) → leaves w b keeps ≡ (base_at w.bases b).base
    end keeps = ap (λ z. (base_at w.bases b).base +ℤ z) (one_ending b n keeps w.entries o v.1) ∙ +ℤ_idr _

    not_failed : NoneLands w b d → ⊥
    not_failed f = let g = (judged s w l b v.0 d n).1.1 f in let q = sym e ∙ g in no_way cc

    not_granted : EveryLands w b d → ⊥
    not_granted f =
        let few = v.2 in
        let all = all_held n w.entries o in
        let g = (judged s w l b v.0 d n).0.1 (f, omega arith) in let q = sym e ∙ g in no_way cc

idle_look : (s : Listed) (w : Journal) → Link s w → (n b : ℕ) → Owned w.entries [] (working n) → (peek s n b (others b n s.grants)).0 ≡ waits → ⊥
idle_look s w l n b o e =
    let q = subst (λ (rs : List Entry). others b n rs ≡ false) l.entries (no_others b n w.entries o) in
    let z = subst (λ (t : Bool). (peek s n b t).0 ≡ waits) q e in
    no_way cc

pub no_idle_wait : (s : Listed) (w : Journal) → Link s w → batch_limit ≤ s.house.grant_capacity → (p : Token) → s.queue ≡ [] → (step s (again p)).0 ≡ waits → ⊥
unfolding act
no_idle_wait s w l room p none e =
    let q = served-act s (again p) (λ r f. let g = sym e ∙ f in no_way cc) in
    go s.active (subst (λ (ks : List ℕ). Owned w.entries ks s.active) none l.owned) l.admitted
    (subst (λ (y : Answer × Listed). y.0 ≡ waits) q.1 e)
  where
    go : (t : Active) → Owned w.entries [] t → Admitted t w → (rejudge s t).0 ≡ waits → ⊥
    go vacant o v f = no_way cc
    go (working n) o v f = no_way cc
    go (asking n b d) o v f = idle_ask s w l room n b d o v f
    go (looking n b) o v f = idle_look s w l n b o f
    go (spoiled n) o v f = no_way cc

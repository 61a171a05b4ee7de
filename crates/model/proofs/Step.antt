-- The link holds after every list of calls.
use Rattle.std.proofs.Common.{◌≡◌, ℕ, ◌<◌, Bool, true, false, cond, not, ◌&&◌, ◌||◌, T, eqb, List, [], ◌∷◌, length, ℤ, ◌+ℤ◌, ◌≤ℤ◌, Some, None, Option, sym, refl, subst, arith}
use lib.Signed.{lt_z, le_z, le_z_yes, lt_z_no}
use Rattle.std.proofs.lemmas.Bool.{eqb-true, leb-false, ltb-false, or_parts, and_parts, not-false}
use Rattle.shelf.specs.Contents.{Figures}
use Rattle.model.specs.Journal.{Entry, Journal, base_at, write, feed}
use Rattle.model.specs.Ledger.{Token, Active, Stage, Call, Verdict, bin_at, vacant, working, asking, looking, spoiled, opened, waiting, spoilt}
use Rattle.model.specs.Ledger.{grant, fail, wait, active_at, same_stage, over, inside, verdict, is_vacant, lay, begin, ask, look, again}
use Rattle.model.specs.Ledger.{close, drop, keep, undo, report, refused, batch_limit}
use Rattle.model.proofs.Clash.{true_false}
use Rattle.model.proofs.Keeps.{link_active, link_wait, link_grant, link_kept, link_undone, link_drop, link_close, link_begin, link_lay}
use Rattle.model.proofs.Link.{Link, Owned, Turn, Admitted, passed, open_token_lem, front}
use Rattle.model.proofs.Listed.{Listed, House, holds, held, others, strange, decide, free, judge, peek, rejudge, checks, refusal, act}
use Rattle.model.proofs.Listed.{serve, step, Both, next, after, start}

-- ---- verdicts

pub le_from : {a b : ℤ} → le_z a b ≡ true → a ≤ℤ b
le_from e = le_z_yes (subst T (sym e) tt)

pub not_lt : {a b : ℤ} → lt_z a b ≡ false → b ≤ℤ a
not_lt e = lt_z_no (subst (λ (t : Bool). T (not t)) (sym e) tt)

-- the three ways of a verdict
pub data Way (c₁ c₂ : Bool) : Verdict → Type 0 where
  is_grant : c₁ ≡ true → Way c₁ c₂ grant
  is_fail : c₁ ≡ false → c₂ ≡ true → Way c₁ c₂ fail
  is_wait : c₁ ≡ false → c₂ ≡ false → Way c₁ c₂ wait

pub way : (c₁ c₂ : Bool) → Way c₁ c₂ (cond c₁ grant (cond c₂ fail wait))
way true c₂ = is_grant refl
way false true = is_fail refl refl
way false false = is_wait refl refl

abbrev pub both_inside : Figures → Bool → ℤ → Bool
both_inside x f d = inside x (x.inf +ℤ d) && inside x (x.sup +ℤ d) && f

abbrev pub both_outside : Figures → ℤ → Bool
both_outside x d =
    (lt_z (x.inf +ℤ d) x.floor && lt_z (x.sup +ℤ d) x.floor) || (lt_z x.ceiling (x.inf +ℤ d) && lt_z x.ceiling (x.sup +ℤ d))

pub verdict_way : (x : Figures) (f : Bool) (d : ℤ) → Way (both_inside x f d) (both_outside x d) (verdict x f d)
verdict_way x f d = way (both_inside x f d) (both_outside x d)

-- ---- what is judged keeps the link

-- an ask that the checks let through
pub record Let (s : Listed) (w : Journal) (n b : ℕ) : Type 0 where
  pub own : Owned w.entries s.queue (working n)
  pub turn : Turn s.queue s.last (working n)
  pub there : b < length w.bases
  pub once : holds b n w.entries ≡ false
  pub few : held n w.entries < batch_limit

pub ends_inside : (s : Listed) (w : Journal) (b : ℕ) (d : ℤ) → Link s w → b < length w.bases → both_inside (bin_at s.bins b) (free s) d ≡ true
    → ((base_at w.bases b).floor ≤ℤ ((bin_at s.bins b).inf +ℤ d)) × (((bin_at s.bins b).sup +ℤ d) ≤ℤ (base_at w.bases b).ceiling)
ends_inside s w b d l h e =
    let x = bin_at s.bins b in
    let p = (and_parts (inside x (x.inf +ℤ d) && inside x (x.sup +ℤ d)) (free s) e).0 in
    let q = and_parts (inside x (x.inf +ℤ d)) (inside x (x.sup +ℤ d)) p in
    let lo = (and_parts (le_z x.floor (x.inf +ℤ d)) (le_z (x.inf +ℤ d) x.ceiling) q.0).0 in
    let hi = (and_parts (le_z x.floor (x.sup +ℤ d)) (le_z (x.sup +ℤ d) x.ceiling) q.1).1 in
    let f = l.figs b h in
    (subst (λ m. m ≤ℤ (x.inf +ℤ d)) f.floor (le_from lo), subst (λ m. (x.sup +ℤ d) ≤ℤ m) f.ceiling (le_from hi))

pub judged_ask : (s : Listed) (w : Journal) (p : Token) (b : ℕ) (d : ℤ) → Link s w → Let s w p.batch b
    → Link (judge s p.batch b d).1 (feed w (ask p b d) (judge s p.batch b d).0)
unfolding feed
judged_ask s w p b d l h = go (verdict (bin_at s.bins b) (free s) d) (verdict_way (bin_at s.bins b) (free s) d)
  where
    n : ℕ
    n = p.batch

    go : (v : Verdict) → Way (both_inside (bin_at s.bins b) (free s) d) (both_outside (bin_at s.bins b) d) v
        → Link (decide s n b d v).1 (feed w (ask p b d) (decide s n b d v).0)
    go grant (is_grant e) =
        let i = ends_inside s w b d l h.there e in
        link_grant s w n b d l h.own h.turn h.there h.once i.0 i.1
    go fail (is_fail e f) = link_active s w (spoiled n) l h.own h.turn tt
    go wait (is_wait e f) = link_wait s w n b d l h.own h.turn h.there h.once h.few

pub judged_again : (s : Listed) (w : Journal) (p : Token) (n b : ℕ) (d : ℤ) → Link s w → Let s w n b → w.noted ≡ record { bin = b; batch = n; amount = d }
    → Link (judge s n b d).1 (feed w (again p) (judge s n b d).0)
unfolding feed
judged_again s w p n b d l h q = go (verdict (bin_at s.bins b) (free s) d) (verdict_way (bin_at s.bins b) (free s) d)
  where
    go : (v : Verdict) → Way (both_inside (bin_at s.bins b) (free s) d) (both_outside (bin_at s.bins b) d) v
        → Link (decide s n b d v).1 (feed w (again p) (decide s n b d v).0)
    go grant (is_grant e) =
        let i = ends_inside s w b d l h.there e in
        subst (λ (r : Entry). Link (decide s n b d grant).1 (write w r)) (sym q) (link_grant s w n b d l h.own h.turn h.there h.once i.0 i.1)
    go fail (is_fail e f) = link_active s w (spoiled n) l h.own h.turn tt
    go wait (is_wait e f) = link_active s w (asking n b d) l h.own h.turn (h.there, h.once, h.few, q)

-- the checks of an ask let it through
pub let_through : (s : Listed) (w : Journal) (p : Token) (b : ℕ) (d : ℤ) → Link s w → refusal s (ask p b d) ≡ None → Let s w p.batch b
let_through s w p b d l e =
    let c = passed (checks s (ask p b d)) e in
    let at = open_token_lem s p c.1.1.0 in
    let size = l.size in
    let bin = leb-false _ _ c.1.1.1.0 in
    let few = leb-false _ _ c.1.1.1.1.1.1.0 in
    record {
      own = subst (Owned w.entries s.queue) at l.owned;
      turn = subst (Turn s.queue s.last) at l.turn;
      there = omega arith;
      once = subst (λ (rs : List Entry). holds b p.batch rs ≡ false) (sym l.entries) c.1.1.1.1.1.0;
      few = subst (λ (rs : List Entry). held p.batch rs < batch_limit) (sym l.entries) few;
    }

peeked : (s : Listed) (w : Journal) (n b : ℕ) (t : Bool) → Link s w → Owned w.entries s.queue (working n) → Turn s.queue s.last (working n)
    → b < length w.bases → Link (peek s n b t).1 w
peeked s w n b true l o u h = link_active s w (looking n b) l o u h
peeked s w n b false l o u h = link_active s w (working n) l o u tt

-- a token of any stage, as if it were open
pub any_token : (s : Listed) (w : Journal) (p : Token) (m : Stage) → Link s w → strange s m p ≡ false
    → Owned w.entries s.queue (working p.batch) × Turn s.queue s.last (working p.batch)
any_token s w p m l e =
    let yes₁ = not-false _ e in
    let yes₂ = (and_parts (eqb p.house s.house.number) _ yes₁).1 in
    let yes₃ = (and_parts (same_stage p.stage m) _ yes₂).1 in
    go m s.active yes₃ l.owned l.turn
  where
    Goal : Type 0
    Goal = Owned w.entries s.queue (working p.batch) × Turn s.queue s.last (working p.batch)

    move : (k : ℕ) → eqb k p.batch ≡ true → Owned w.entries s.queue (working k) → Turn s.queue s.last (working k) → Goal
    move k e o u = (subst (λ (i : ℕ). Owned w.entries s.queue (working i)) (eqb-true k p.batch e) o, subst (λ (i : ℕ). Turn s.queue s.last (working i)) (eqb-true k p.batch e) u)

    go : (m : Stage) (t : Active) → active_at p.batch m t ≡ true → Owned w.entries s.queue t → Turn s.queue s.last t → Goal
    go m vacant e o u = true_false (sym e)
    go opened (working k) e o u = move k e o u
    go waiting (working k) e o u = true_false (sym e)
    go spoilt (working k) e o u = true_false (sym e)
    go opened (asking k b d) e o u = true_false (sym e)
    go waiting (asking k b d) e o u = move k e o u
    go spoilt (asking k b d) e o u = true_false (sym e)
    go opened (looking k b) e o u = true_false (sym e)
    go waiting (looking k b) e o u = move k e o u
    go spoilt (looking k b) e o u = true_false (sym e)
    go opened (spoiled k) e o u = true_false (sym e)
    go waiting (spoiled k) e o u = true_false (sym e)
    go spoilt (spoiled k) e o u = move k e o u

rejudged : (s : Listed) (w : Journal) (p : Token) → Link s w → Link (rejudge s s.active).1 (feed w (again p) (rejudge s s.active).0)
unfolding feed
rejudged s w p l = go s.active l.owned l.turn l.admitted
  where
    go : (t : Active) → Owned w.entries s.queue t → Turn s.queue s.last t → Admitted t w → Link (rejudge s t).1 (feed w (again p) (rejudge s t).0)
    go vacant o u v = l
    go (working n) o u v = l
    go (asking n b d) o u v = judged_again s w p n b d l (record { own = o; turn = u; there = v.0; once = v.1; few = v.2 }) v.3
    go (looking n b) o u v = go' (others b n s.grants)
      where
        go' : (t : Bool) → Link (peek s n b t).1 (feed w (again p) (peek s n b t).0)
        go' true = peeked s w n b true l o u v
        go' false = peeked s w n b false l o u v
    go (spoiled n) o u v = l

pub turn_early : (queue : List ℕ) (t : Active) → Turn queue 0 t → t ≡ vacant
turn_early queue vacant u = refl
turn_early queue (working n) u = let x = u.0 in let y = u.1 in absurd (omega arith)
turn_early queue (asking n b d) u = let x = u.0 in let y = u.1 in absurd (omega arith)
turn_early queue (looking n b) u = let x = u.0 in let y = u.1 in absurd (omega arith)
turn_early queue (spoiled n) u = let x = u.0 in let y = u.1 in absurd (omega arith)

vacant_from : (t : Active) → not (is_vacant t) ≡ false → t ≡ vacant
vacant_from vacant e = refl
vacant_from (working n) e = true_false e
vacant_from (asking n b d) e = true_false e
vacant_from (looking n b) e = true_false e
vacant_from (spoiled n) e = true_false e

pub link_act : (c : Call) (s : Listed) (w : Journal) → Link s w → refusal s c ≡ None → Link (act s c).1 (feed w c (act s c).0)
unfolding act feed
link_act (lay floor ceiling st) s w l e =
    let c = passed (checks s (lay floor ceiling st)) e in
    let a = or_parts (lt_z ceiling floor || lt_z st floor) (lt_z ceiling st) c.1.0 in
    let b = or_parts (lt_z ceiling floor) (lt_z st floor) a.0 in
    let z : s.last ≡ 0 = let k = ltb-false 0 s.last c.1.1.1.0 in omega arith in
    let o = or_parts (over s.house.limit floor || over s.house.limit ceiling) (over s.house.limit st) c.1.1.0 in
    let q = or_parts (over s.house.limit floor) (over s.house.limit ceiling) o.0 in
    link_lay s w floor ceiling st l z (not_lt b.1) (not_lt a.1) (turn_early s.queue s.active (subst (λ (k : ℕ). Turn s.queue k s.active) z l.turn)) q.0 q.1
link_act (begin n) s w l e =
    let c = passed (checks s (begin n)) e in
    link_begin s w n l (vacant_from s.active c.1.0) (leb-false n s.last c.1.1.0)
link_act (ask p b d) s w l e = judged_ask s w p b d l (let_through s w p b d l e)
link_act (look p b) s w l e =
    let c = passed (checks s (look p b)) e in
    let at = any_token s w p opened l c.1.0 in
    let size = l.size in
    let bin = leb-false _ _ c.1.1.0 in
    peeked s w p.batch b (others b p.batch s.grants) l at.0 at.1 (omega arith)
link_act (again p) s w l e = rejudged s w p l
link_act (close p) s w l e =
    let c = passed (checks s (close p)) e in
    let at = any_token s w p opened l c.1.0 in
    link_close s w p.batch l at.0 at.1
link_act (drop p) s w l e =
    let c = passed (checks s (drop p)) e in
    let at = any_token s w p p.stage l c.1.0 in
    link_drop s w p.batch l at.0 at.1
link_act (keep n) s w l e =
    let c = passed (checks s (keep n)) e in
    link_kept s w n l (front n s.queue c.1.0 c.1.1.0)
link_act (undo n) s w l e =
    let c = passed (checks s (undo n)) e in
    link_undone s w n l (front n s.queue c.1.0 c.1.1.0)
link_act (report b) s w l e = l

pub feed_refused : (c : Call) (w : Journal) (r : ℕ) → feed w c (refused r) ≡ w
unfolding feed
feed_refused (lay floor ceiling st) w r = refl
feed_refused (begin n) w r = refl
feed_refused (ask p b d) w r = refl
feed_refused (look p b) w r = refl
feed_refused (again p) w r = refl
feed_refused (close p) w r = refl
feed_refused (drop p) w r = refl
feed_refused (keep n) w r = refl
feed_refused (undo n) w r = refl
feed_refused (report b) w r = refl

pub link_step : (s : Listed) (w : Journal) (c : Call) → Link s w → Link (step s c).1 (feed w c (step s c).0)
unfolding step
link_step s w c l = go (refusal s c) refl
  where
    go : (o : Option ℕ) → refusal s c ≡ o → Link (serve s c o).1 (feed w c (serve s c o).0)
    go None e = link_act c s w l e
    go (Some r) e = subst (Link s) (sym (feed_refused c w r)) l

pub link_after : (cs : List Call) (x : Both) → Link x.ledger x.journal → Link (after x cs).ledger (after x cs).journal
link_after [] x l = l
link_after (c ∷ cs) x l = link_after cs (next x c) (link_step x.ledger x.journal c l)

pub link_start : (h : House) → Link (start h).ledger (start h).journal
link_start h =
    record { entries = refl; size = refl; figs = λ b k. absurd (omega arith); apart = tt; owned = tt; turn = tt; early = λ e. refl; clear = λ e. refl; within = tt; wide = λ b k. absurd (omega arith); admitted = tt }

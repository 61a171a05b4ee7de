-- Each call that moves a script on keeps the ledger tied to the serial reading.
use Rattle.std.proofs.Common.{◌≡◌, ℕ, suc, ◌<◌, Bool, true, false, not, ◌&&◌, ◌||◌, eqb, leb, List, [], ◌∷◌, ◌++◌, length, ℤ, pos, Some, None, Option, sym, refl, ap, ◌∙◌, subst, arith}
use lib.Signed.{le_z}
use Rattle.std.proofs.lemmas.Bool.{leb-false, or_from, eq-eqb, lt-leb}
use Rattle.model.specs.Journal.{Entry, Journal, Base, write, note, feed}
use Rattle.model.specs.Ledger.{Token, Active, Call, Answer, Verdict, over, bin_at, vacant, working, asking, looking, spoiled, opened, waiting}
use Rattle.model.specs.Ledger.{spoilt, grant, fail, wait, first, verdict, lay, begin, ask, look, again, close, drop, keep}
use Rattle.model.specs.Ledger.{undo, report, begun, closed, dropped, kept, undone, granted, failed, waits, seen, shown, refused, batch_limit}
use Rattle.model.specs.Promises.{NotRefused}
use Rattle.model.specs.Script.{Item, Batch, asks, looks, Decision, Worker, idle, doing, stuck, lost, Progress, prog, token_of, Does}
use Rattle.model.specs.Script.{noise, reports, begins, ask_granted, ask_failed, ask_waits, ask_refused, look_seen, look_waits, look_refused, again_granted, again_failed, again_seen, again_waits}
use Rattle.model.specs.Script.{closes, drops_it, drops_lost, keeps_it, undoes_it, decision}
use Rattle.model.proofs.Clash.{no_way, true_false}
use Rattle.model.proofs.Link.{Link, Turn, AllBelow, Admitted, passed}
use Rattle.model.proofs.Listed.{Listed, House, holds, held, others, strange, decide, free, judge, peek, rejudge, checks, refusal, act}
use Rattle.model.proofs.Listed.{serve, step}
use Rattle.model.proofs.Moves.{blocked_same, say-granted, say_failed, say_refused, say_seen, say_blind, tie_begin, tie_pass, tie_grant, tie_fail, tie_seen, tie_wait, tie_active, tie_close}
use Rattle.model.proofs.Moves.{tie_drop, as_lost, tie_keep, tie_undo}
use Rattle.model.proofs.SerialTie.{active_of, Tie, as_stuck}
use Rattle.model.proofs.Serial.{mine, blocked_by, say, numbers, holds-mine, held-mine, wants_none}
use Rattle.model.proofs.Step.{let_through, link_step, feed_refused}
use Rattle.model.proofs.Verdicts.{judged, served-act, house_step}

-- ---- refused calls change nothing

decide_refused : {X : Type 0} (s : Listed) (n b : ℕ) (d : ℤ) (v : Verdict) (r : ℕ) → (decide s n b d v).0 ≡ refused r → X
decide_refused s n b d grant r e = no_way cc
decide_refused s n b d fail r e = no_way cc
decide_refused s n b d wait r e = no_way cc

peek_refused : {X : Type 0} (s : Listed) (n b : ℕ) (t : Bool) (r : ℕ) → (peek s n b t).0 ≡ refused r → X
peek_refused s n b true r e = no_way cc
peek_refused s n b false r e = no_way cc

rejudge_refused : (s : Listed) (t : Active) (r : ℕ) → (rejudge s t).0 ≡ refused r → (rejudge s t).1 ≡ s
rejudge_refused s vacant r e = refl
rejudge_refused s (working n) r e = refl
rejudge_refused s (asking n b d) r e = decide_refused s n b d (verdict (bin_at s.bins b) (free s) d) r e
rejudge_refused s (looking n b) r e = peek_refused s n b (others b n s.grants) r e
rejudge_refused s (spoiled n) r e = refl

act_refused : (c : Call) (s : Listed) (r : ℕ) → (act s c).0 ≡ refused r → (act s c).1 ≡ s
unfolding act
act_refused (lay floor ceiling st) s r e = no_way cc
act_refused (begin n) s r e = no_way cc
act_refused (ask p b d) s r e = decide_refused s p.batch b d (verdict (bin_at s.bins b) (free s) d) r e
act_refused (look p b) s r e = peek_refused s p.batch b (others b p.batch s.grants) r e
act_refused (again p) s r e = rejudge_refused s s.active r e
act_refused (close p) s r e = no_way cc
act_refused (drop p) s r e = no_way cc
act_refused (keep n) s r e = no_way cc
act_refused (undo n) s r e = no_way cc
act_refused (report b) s r e = no_way cc

pub refused_stays : (s : Listed) (c : Call) (r : ℕ) → (step s c).0 ≡ refused r → (step s c).1 ≡ s
unfolding step
refused_stays s c r e = go (refusal s c) e
  where
    go : (o : Option ℕ) → (serve s c o).0 ≡ refused r → (serve s c o).1 ≡ s
    go None e = act_refused c s r e
    go (Some q) e = refl

-- a call that is refused, and would not be if it were accepted, did not pass its checks
struck : (s : Listed) (c : Call) (r : ℕ) → ((act s c).0 ≡ refused r → ⊥) → (step s c).0 ≡ refused r → (q : ℕ) × (refusal s c ≡ Some q)
unfolding step
struck s c r never e = go (refusal s c) refl e
  where
    go : (o : Option ℕ) → refusal s c ≡ o → (serve s c o).0 ≡ refused r → (q : ℕ) × (refusal s c ≡ Some q)
    go None f e = absurd (never e)
    go (Some q) f e = (q, f)

ask_struck : (s : Listed) (p : Token) (b : ℕ) (d : ℤ) (r : ℕ) → (step s (ask p b d)).0 ≡ refused r → (q : ℕ) × (refusal s (ask p b d) ≡ Some q)
unfolding act
ask_struck s p b d r = struck s (ask p b d) r (decide_refused s p.batch b d (verdict (bin_at s.bins b) (free s) d) r)

look_struck : (s : Listed) (p : Token) (b r : ℕ) → (step s (look p b)).0 ≡ refused r → (q : ℕ) × (refusal s (look p b) ≡ Some q)
unfolding act
look_struck s p b r = struck s (look p b) r (peek_refused s p.batch b (others b p.batch s.grants) r)

struck_five : (f s t₁ t₂ t₃ t₄ t₅ : Bool) (q : ℕ) → f ≡ false → s ≡ false
    → first ((f, 1) ∷ (t₁, 3) ∷ (s, 9) ∷ (t₂, 10) ∷ (t₃, 11) ∷ (t₄, 12) ∷ (t₅, 13) ∷ []) ≡ Some q → (t₁ || (t₂ || (t₃ || (t₄ || t₅)))) ≡ true
struck_five true s t₁ t₂ t₃ t₄ t₅ q e₁ e₂ e = true_false e₁
struck_five false true t₁ t₂ t₃ t₄ t₅ q e₁ e₂ e = true_false e₂
struck_five false false true t₂ t₃ t₄ t₅ q e₁ e₂ e = refl
struck_five false false false true t₃ t₄ t₅ q e₁ e₂ e = refl
struck_five false false false false true t₄ t₅ q e₁ e₂ e = refl
struck_five false false false false false true t₅ q e₁ e₂ e = refl
struck_five false false false false false false true q e₁ e₂ e = refl
struck_five false false false false false false false q e₁ e₂ e = no_way cc

struck_one : (f s t : Bool) (q : ℕ) → f ≡ false → s ≡ false → first ((f, 1) ∷ (s, 9) ∷ (t, 10) ∷ []) ≡ Some q → t ≡ true
struck_one true s t q e₁ e₂ e = true_false e₁
struck_one false true t q e₁ e₂ e = true_false e₂
struck_one false false true q e₁ e₂ e = refl
struck_one false false false q e₁ e₂ e = no_way cc

-- a batch's own token is not strange
own_token : (s : Listed) (h : ℕ) (x : Batch) → s.house.number ≡ h → s.active ≡ working x.number → strange s opened (token_of h x opened) ≡ false
own_token s h x e at =
    let same : eqb h s.house.number ≡ true = eq-eqb h s.house.number (sym e) in
    let self = eq-eqb x.number x.number refl in
    rw (same, at, self)

unfit_not : (t : Bool) → t ≡ true → not t ≡ false
unfit_not true e = refl
unfit_not false e = sym e

-- ---- the tie, with how far the work has come

module _ (h₀ : House) (fit : h₀.fit ≡ true) (v₀ : List Base) (script : List Batch) where
  -- a waiting ask had an amount that is neither over the limit nor zero
  abbrev pub Through : Worker → Type 0
  Through idle = Unit {0}
  Through (doing x i its) = Unit {0}
  Through (stuck x i (asks b d) its) = (over h₀.limit d ≡ false) × ((le_z d (pos 0) && le_z (pos 0) d) ≡ false)
  Through (stuck x i (looks b) its) = Unit {0}
  Through (lost x) = Unit {0}

  abbrev pub Tied : Progress → Listed → Journal → Type 0
  Tied (prog left worker queue log) s w = (s.house ≡ h₀) × Link s w × (s.active ≡ active_of worker) × Tie h₀.limit v₀ script left worker queue log s w × Through worker

  -- from what the accepted call does
  conclude : (s : Listed) (w : Journal) (c : Call) (a : Answer) (left : List Batch) (worker : Worker) (queue : List Batch) (log : List Decision)
      → (step s c).0 ≡ a → s.house ≡ h₀ → Link s w → step s c ≡ act s c → (act s c).1.active ≡ active_of worker
      → Tie h₀.limit v₀ script left worker queue log (act s c).1 (feed w c a) → Through worker → Tied (prog left worker queue log) (step s c).1 (feed w c a)
  conclude s w c a left worker queue log e home l q t k y = (
    house_step s c ∙ home,
    subst (λ (y : Answer). Link (step s c).1 (feed w c y)) e (link_step s w c l),
    subst (λ (y : Answer × Listed). y.1.active ≡ active_of worker) (sym q) t,
    subst (λ (y : Answer × Listed). Tie h₀.limit v₀ script left worker queue log y.1 (feed w c a)) (sym q) k,
    y,
  )

  -- where nothing changed
  unchanged : (p : Progress) (s : Listed) (w : Journal) (c : Call) (r : ℕ) → (step s c).0 ≡ refused r → Tied p s w → Tied p (step s c).1 (feed w c (refused r))
  unchanged p s w c r e j =
      subst (λ (y : Listed). Tied p y (feed w c (refused r))) (sym (refused_stays s c r e)) (subst (Tied p s) (sym (feed_refused c w r)) j)

  -- the active batch came after those in the queue
  below_from : (s : Listed) (w : Journal) (n : ℕ) (queue : List Batch) → Turn s.queue s.last (working n) → numbers queue ≡ s.queue → AllBelow n (numbers queue)
  below_from s w n queue u e = subst (AllBelow n) (sym e) u.2

  not_blocked : (s : Listed) (w : Journal) (p : Token) (b : ℕ) (d : ℤ) (v : List Base) → s.house ≡ h₀ → Link s w → length v ≡ length w.bases
      → refusal s (ask p b d) ≡ None → blocked_by h₀.limit (length v) d b p.batch (mine p.batch w.entries) ≡ false
  not_blocked s w p b d v home l size e =
      let c = passed (checks s (ask p b d)) e in
      blocked_same h₀ s w v p.batch b d home l size
      ∙ or_from _ _ c.1.0 (or_from _ _ c.1.1.1.0 (or_from _ _ c.1.1.1.1.0 (or_from _ _ c.1.1.1.1.1.0 c.1.1.1.1.1.1.0)))

  is_blocked : (s : Listed) (w : Journal) (x : Batch) (b : ℕ) (d : ℤ) (v : List Base) (q : ℕ) → s.house ≡ h₀ → Link s w → length v ≡ length w.bases → s.active ≡ working x.number
      → refusal s (ask (token_of h₀.number x opened) b d) ≡ Some q → blocked_by h₀.limit (length v) d b x.number (mine x.number w.entries) ≡ true
  is_blocked s w x b d v q home l size at e =
      blocked_same h₀ s w v x.number b d home l size
      ∙ struck_five (not s.house.fit) (strange s opened (token_of h₀.number x opened)) (over s.house.limit d) (leb (length s.bins) b) (le_z d (pos 0) && le_z (pos 0) d) (holds b x.number s.grants) (leb batch_limit (held x.number s.grants)) q
      (unfit_not s.house.fit (ap (λ (y : House). y.fit) home ∙ fit)) (own_token s h₀.number x (ap (λ (y : House). y.number) home) at) e

  is_blind : (s : Listed) (w : Journal) (x : Batch) (b : ℕ) (v : List Base) (q : ℕ) → s.house ≡ h₀ → Link s w → length v ≡ length w.bases → s.active ≡ working x.number
      → refusal s (look (token_of h₀.number x opened) b) ≡ Some q → leb (length v) b ≡ true
  is_blind s w x b v q home l size at e =
      ap (λ (m : ℕ). leb m b) (size ∙ sym l.size)
      ∙ struck_one (not s.house.fit) (strange s opened (token_of h₀.number x opened)) (leb (length s.bins) b) q
      (unfit_not s.house.fit (ap (λ (y : House). y.fit) home ∙ fit)) (own_token s h₀.number x (ap (λ (y : House). y.number) home) at) e

  module _ (left : List Batch) (x : Batch) (i : ℕ) (its : List Item) (queue : List Batch) (log : List Decision) (s : Listed) (w : Journal)
      (l : Link s w) (below : AllBelow x.number (numbers queue)) where
    ask_is_granted : (b : ℕ) (d : ℤ) (k : Tie h₀.limit v₀ script left (stuck x i (asks b d) its) queue log s w) → b < length w.bases
        → blocked_by h₀.limit (length k.v) d b x.number (mine x.number w.entries) ≡ false → (judge s x.number b d).0 ≡ granted
        → ((judge s x.number b d).1.active ≡ working x.number)
        × Tie h₀.limit v₀ script left (doing x (suc i) its) queue (decision x i granted ∷ log) (judge s x.number b d).1 (write w (record { bin = b; batch = x.number; amount = d }))
    ask_is_granted b d k h f e =
        let every = ((judged s w l b h d x.number).0.0 e).0 in
        go (say-granted h₀.limit k.v w queue x.number b d (mine x.number w.entries) (k.same b h) f every) (verdict (bin_at s.bins b) (free s) d) e
      where
        go : say h₀.limit k.v x.number (mine x.number w.entries) (asks b d) ≡ granted → (v : Verdict) → (decide s x.number b d v).0 ≡ granted
            → ((decide s x.number b d v).1.active ≡ working x.number)
            × Tie h₀.limit v₀ script left (doing x (suc i) its) queue (decision x i granted ∷ log) (decide s x.number b d v).1 (write w (record { bin = b; batch = x.number; amount = d }))
        go y grant e = (refl, tie_grant h₀.limit v₀ script left x i b d its queue log s w (wants_none x.number queue below) k y)
        go y fail e = no_way cc
        go y wait e = no_way cc

    ask_is_failed : (b : ℕ) (d : ℤ) (k : Tie h₀.limit v₀ script left (stuck x i (asks b d) its) queue log s w) → b < length w.bases
        → blocked_by h₀.limit (length k.v) d b x.number (mine x.number w.entries) ≡ false → (judge s x.number b d).0 ≡ failed
        → ((judge s x.number b d).1.active ≡ spoiled x.number)
        × Tie h₀.limit v₀ script left (lost x) queue (decision x i failed ∷ log) (judge s x.number b d).1 w
    ask_is_failed b d k h f e =
        let never = (judged s w l b h d x.number).1.0 e in
        go (say_failed h₀.limit k.v w queue x.number b d (mine x.number w.entries) (k.same b h) f never) (verdict (bin_at s.bins b) (free s) d) e
      where
        go : say h₀.limit k.v x.number (mine x.number w.entries) (asks b d) ≡ failed → (v : Verdict) → (decide s x.number b d v).0 ≡ failed
            → ((decide s x.number b d v).1.active ≡ spoiled x.number)
            × Tie h₀.limit v₀ script left (lost x) queue (decision x i failed ∷ log) (decide s x.number b d v).1 w
        go y grant e = no_way cc
        go y fail e = (refl, tie_fail h₀.limit v₀ script left x i b d its queue log s w (spoiled x.number) k y)
        go y wait e = no_way cc

    ask_is_waiting : (b : ℕ) (d : ℤ) (r : Entry) (k : Tie h₀.limit v₀ script left (stuck x i (asks b d) its) queue log s w) → (judge s x.number b d).0 ≡ waits
        → ((judge s x.number b d).1.active ≡ asking x.number b d)
        × Tie h₀.limit v₀ script left (stuck x i (asks b d) its) queue log (judge s x.number b d).1 (note w r)
    ask_is_waiting b d r k e = go (verdict (bin_at s.bins b) (free s) d) e
      where
        go : (v : Verdict) → (decide s x.number b d v).0 ≡ waits
            → ((decide s x.number b d v).1.active ≡ asking x.number b d)
            × Tie h₀.limit v₀ script left (stuck x i (asks b d) its) queue log (decide s x.number b d v).1 (note w r)
        go grant e = no_way cc
        go fail e = no_way cc
        go wait e = (refl, tie_wait h₀.limit v₀ script left x i (asks b d) its queue log s w (asking x.number b d) r k)

    look_is_seen : (b : ℕ) (u : ℤ) (k : Tie h₀.limit v₀ script left (stuck x i (looks b) its) queue log s w) → b < length w.bases
        → (peek s x.number b (others b x.number s.grants)).0 ≡ seen u
        → ((peek s x.number b (others b x.number s.grants)).1.active ≡ working x.number)
        × Tie h₀.limit v₀ script left (doing x (suc i) its) queue (decision x i (seen u) ∷ log) (peek s x.number b (others b x.number s.grants)).1 w
    look_is_seen b u k h e = go (others b x.number s.grants) refl e
      where
        go : (t : Bool) → others b x.number s.grants ≡ t → (peek s x.number b t).0 ≡ seen u
            → ((peek s x.number b t).1.active ≡ working x.number)
            × Tie h₀.limit v₀ script left (doing x (suc i) its) queue (decision x i (seen u) ∷ log) (peek s x.number b t).1 w
        go true f e = no_way cc
        go false f e =
            let o : others b x.number w.entries ≡ false = subst (λ (rs : List Entry). others b x.number rs ≡ false) (sym l.entries) f in
            let y = say_seen h₀.limit s w k.v queue x.number b l h k.size (k.same b h) (wants_none x.number queue below) o in
            (refl, tie_seen h₀.limit v₀ script left x i b u its queue log s w (working x.number) k (y ∙ e))

    look_is_waiting : (b : ℕ) (k : Tie h₀.limit v₀ script left (stuck x i (looks b) its) queue log s w)
        → (peek s x.number b (others b x.number s.grants)).0 ≡ waits
        → ((peek s x.number b (others b x.number s.grants)).1.active ≡ looking x.number b)
        × Tie h₀.limit v₀ script left (stuck x i (looks b) its) queue log (peek s x.number b (others b x.number s.grants)).1 w
    look_is_waiting b k e = go (others b x.number s.grants) e
      where
        go : (t : Bool) → (peek s x.number b t).0 ≡ waits
            → ((peek s x.number b t).1.active ≡ looking x.number b)
            × Tie h₀.limit v₀ script left (stuck x i (looks b) its) queue log (peek s x.number b t).1 w
        go true e = (refl, tie_active h₀.limit v₀ script left (stuck x i (looks b) its) queue log s w (looking x.number b) k)
        go false e = no_way cc

  -- an answer that is no refusal: the call was accepted
  ok : (s : Listed) (c : Call) (a : Answer) → (step s c).0 ≡ a → NotRefused a → (refusal s c ≡ None) × (step s c ≡ act s c) × ((act s c).0 ≡ a)
  ok s c a e f =
      let q = served-act s c (λ r g. f r (sym e ∙ g)) in
      (q.0, q.1, subst (λ (y : Answer × Listed). y.0 ≡ a) q.1 e)

  turn_at : (s : Listed) (w : Journal) (t : Active) → Link s w → s.active ≡ t → Turn s.queue s.last t
  turn_at s w t l at = subst (Turn s.queue s.last) at l.turn

  admitted_at : (s : Listed) (w : Journal) (t : Active) → Link s w → s.active ≡ t → Admitted t w
  admitted_at s w t l at = subst (λ (y : Active). Admitted y w) at l.admitted

  there : (s : Listed) (w : Journal) (b : ℕ) → Link s w → leb (length s.bins) b ≡ false → b < length w.bases
  there s w b l e = let k = leb-false _ _ e in let q = l.size in omega arith

  -- a held ask was let through
  not_blocked_held : (s : Listed) (w : Journal) (n b : ℕ) (d : ℤ) (v : List Base) → length v ≡ length w.bases → Admitted (asking n b d) w
      → (over h₀.limit d ≡ false) × ((le_z d (pos 0) && le_z (pos 0) d) ≡ false)
      → blocked_by h₀.limit (length v) d b n (mine n w.entries) ≡ false
  not_blocked_held s w n b d v size admit y =
      let h = admit.0 in
      let h₂ = admit.2 in
      or_from _ _ y.0 (or_from _ _ (lt-leb (length v) b (omega arith)) (or_from _ _ y.1
      (or_from _ _ (holds-mine b n w.entries ∙ admit.1) (ap (leb batch_limit) (held-mine n w.entries) ∙ lt-leb batch_limit (held n w.entries) h₂))))

  -- what is held still waits
  still : (it : Item) (s : Listed) (w : Journal) (left : List Batch) (x : Batch) (i : ℕ) (its : List Item) (queue : List Batch) (log : List Decision)
      → Link s w → s.active ≡ active_of (stuck x i it its) → Tie h₀.limit v₀ script left (stuck x i it its) queue log s w → (rejudge s s.active).0 ≡ waits
      → ((rejudge s s.active).1.active ≡ active_of (stuck x i it its)) × Tie h₀.limit v₀ script left (stuck x i it its) queue log (rejudge s s.active).1 w
  still (asks b d) s w left x i its queue log l at k e =
      subst (λ (t : Active). ((rejudge s t).1.active ≡ asking x.number b d) × Tie h₀.limit v₀ script left (stuck x i (asks b d) its) queue log (rejudge s t).1 w) (sym at)
      (go (verdict (bin_at s.bins b) (free s) d) (subst (λ (t : Active). (rejudge s t).0 ≡ waits) at e))
    where
      go : (v : Verdict) → (decide s x.number b d v).0 ≡ waits
          → ((decide s x.number b d v).1.active ≡ asking x.number b d) × Tie h₀.limit v₀ script left (stuck x i (asks b d) its) queue log (decide s x.number b d v).1 w
      go grant e = no_way cc
      go fail e = no_way cc
      go wait e = (refl, tie_active h₀.limit v₀ script left (stuck x i (asks b d) its) queue log s w (asking x.number b d) k)
  still (looks b) s w left x i its queue log l at k e =
      subst (λ (t : Active). ((rejudge s t).1.active ≡ looking x.number b) × Tie h₀.limit v₀ script left (stuck x i (looks b) its) queue log (rejudge s t).1 w) (sym at)
      (go (others b x.number s.grants) (subst (λ (t : Active). (rejudge s t).0 ≡ waits) at e))
    where
      go : (t : Bool) → (peek s x.number b t).0 ≡ waits
          → ((peek s x.number b t).1.active ≡ looking x.number b) × Tie h₀.limit v₀ script left (stuck x i (looks b) its) queue log (peek s x.number b t).1 w
      go true e = (refl, tie_active h₀.limit v₀ script left (stuck x i (looks b) its) queue log s w (looking x.number b) k)
      go false e = no_way cc

  pub advance : {p q : Progress} {c : Call} {a : Answer} → Does h₀.number p c a q → (s : Listed) (w : Journal) → (step s c).0 ≡ a → Tied p s w → Tied q (step s c).1 (feed w c a)
  unfolding act feed
  advance (noise {p} {c} {r}) s w e j = unchanged p s w c r e j
  advance (reports {p} {b} {x}) s w e j =
      let o = ok s (report b) (shown x) e (λ r f. no_way cc) in
      subst (λ (y : Answer × Listed). Tied p y.1 w) (sym o.1) j
  advance (begins {x} {xs} {queue} {log}) s w e j =
      let o = ok s (begin x.number) (begun x.number) e (λ r f. no_way cc) in
      conclude s w (begin x.number) (begun x.number) xs (doing x 0 x.items) queue log e j.0 j.1 o.1 refl
      (tie_begin h₀.limit v₀ script x xs queue log s w j.1 j.2 j.3) tt
  advance (ask_granted {x} {i} {b} {d} {its} {xs} {queue} {log}) s w e j =
      let p = token_of h₀.number x opened in
      let o = ok s (ask p b d) granted e (λ r f. no_way cc) in
      let k = as_stuck h₀.limit v₀ script j.3 in
      let m = let_through s w p b d j.1 o.0 in
      let z = ask_is_granted xs x i its queue log s w j.1 (below_from s w x.number queue m.turn k.queued) b d k m.there (not_blocked s w p b d k.v j.0 j.1 k.size o.0) o.2 in
      conclude s w (ask p b d) granted xs (doing x (suc i) its) queue (decision x i granted ∷ log) e j.0 j.1 o.1 z.0 z.1 tt
  advance (ask_failed {x} {i} {b} {d} {its} {xs} {queue} {log}) s w e j =
      let p = token_of h₀.number x opened in
      let o = ok s (ask p b d) failed e (λ r f. no_way cc) in
      let k = as_stuck h₀.limit v₀ script j.3 in
      let m = let_through s w p b d j.1 o.0 in
      let z = ask_is_failed xs x i its queue log s w j.1 (below_from s w x.number queue m.turn k.queued) b d k m.there (not_blocked s w p b d k.v j.0 j.1 k.size o.0) o.2 in
      conclude s w (ask p b d) failed xs (lost x) queue (decision x i failed ∷ log) e j.0 j.1 o.1 z.0 z.1 tt
  advance (ask_waits {x} {i} {b} {d} {its} {xs} {queue} {log}) s w e j =
      let p = token_of h₀.number x opened in
      let o = ok s (ask p b d) waits e (λ r f. no_way cc) in
      let k = as_stuck h₀.limit v₀ script j.3 in
      let m = let_through s w p b d j.1 o.0 in
      let z = ask_is_waiting xs x i its queue log s w j.1 (below_from s w x.number queue m.turn k.queued) b d (record { bin = b; batch = x.number; amount = d }) k o.2 in
      let c = passed (checks s (ask p b d)) o.0 in
      conclude s w (ask p b d) waits xs (stuck x i (asks b d) its) queue log e j.0 j.1 o.1 z.0 z.1
      (ap (λ (y : House). over y.limit d) (sym j.0) ∙ c.1.0, c.1.1.1.1.0)
  advance (ask_refused {x} {i} {b} {r} {d} {its} {xs} {queue} {log}) s w e j =
      let p = token_of h₀.number x opened in
      let q = ask_struck s p b d r e in
      let k = as_stuck h₀.limit v₀ script j.3 in
      let y = say_refused h₀.limit k.v x.number b d (mine x.number w.entries) (is_blocked s w x b d k.v q.0 j.0 j.1 k.size j.2 q.1) in
      unchanged (prog xs (doing x (suc i) its) queue log) s w (ask p b d) r e
      (j.0, j.1, j.2, tie_pass h₀.limit v₀ script xs x i (asks b d) its queue log s w k y refl, tt)
  advance (look_seen {x} {i} {b} {v} {its} {xs} {queue} {log}) s w e j =
      let p = token_of h₀.number x opened in
      let o = ok s (look p b) (seen v) e (λ r f. no_way cc) in
      let k = as_stuck h₀.limit v₀ script j.3 in
      let c = passed (checks s (look p b)) o.0 in
      let z = look_is_seen xs x i its queue log s w j.1 (below_from s w x.number queue (turn_at s w (working x.number) j.1 j.2) k.queued) b v k (there s w b j.1 c.1.1.0) o.2 in
      conclude s w (look p b) (seen v) xs (doing x (suc i) its) queue (decision x i (seen v) ∷ log) e j.0 j.1 o.1 z.0 z.1 tt
  advance (look_waits {x} {i} {b} {its} {xs} {queue} {log}) s w e j =
      let p = token_of h₀.number x opened in
      let o = ok s (look p b) waits e (λ r f. no_way cc) in
      let k = as_stuck h₀.limit v₀ script j.3 in
      let z = look_is_waiting xs x i its queue log s w j.1 (below_from s w x.number queue (turn_at s w (working x.number) j.1 j.2) k.queued) b k o.2 in
      conclude s w (look p b) waits xs (stuck x i (looks b) its) queue log e j.0 j.1 o.1 z.0 z.1 tt
  advance (look_refused {x} {i} {b} {r} {its} {xs} {queue} {log}) s w e j =
      let p = token_of h₀.number x opened in
      let q = look_struck s p b r e in
      let k = as_stuck h₀.limit v₀ script j.3 in
      let y = say_blind h₀.limit k.v x.number b (mine x.number w.entries) (is_blind s w x b k.v q.0 j.0 j.1 k.size j.2 q.1) in
      unchanged (prog xs (doing x (suc i) its) queue log) s w (look p b) r e
      (j.0, j.1, j.2, tie_pass h₀.limit v₀ script xs x i (looks b) its queue log s w k y refl, tt)
  advance (again_granted {x} {i} {b} {d} {its} {xs} {queue} {log}) s w e j =
      let p = token_of h₀.number x waiting in
      let o = ok s (again p) granted e (λ r f. no_way cc) in
      let v = admitted_at s w (asking x.number b d) j.1 j.2 in
      let k = j.3 in
      let f : (judge s x.number b d).0 ≡ granted = subst (λ (t : Active). (rejudge s t).0 ≡ granted) j.2 o.2 in
      let z = ask_is_granted xs x i its queue log s w j.1 (below_from s w x.number queue (turn_at s w (asking x.number b d) j.1 j.2) k.queued) b d k v.0 (not_blocked_held s w x.number b d k.v k.size v j.4) f in
      conclude s w (again p) granted xs (doing x (suc i) its) queue (decision x i granted ∷ log) e j.0 j.1 o.1
      (subst (λ (t : Active). (rejudge s t).1.active ≡ working x.number) (sym j.2) z.0)
      (subst (λ (t : Active). Tie h₀.limit v₀ script xs (doing x (suc i) its) queue (decision x i granted ∷ log) (rejudge s t).1 (write w w.noted)) (sym j.2)
      (subst (λ (r : Entry). Tie h₀.limit v₀ script xs (doing x (suc i) its) queue (decision x i granted ∷ log) (judge s x.number b d).1 (write w r)) (sym v.3) z.1))
      tt
  advance (again_failed {x} {i} {b} {d} {its} {xs} {queue} {log}) s w e j =
      let p = token_of h₀.number x waiting in
      let o = ok s (again p) failed e (λ r f. no_way cc) in
      let v = admitted_at s w (asking x.number b d) j.1 j.2 in
      let k = j.3 in
      let f : (judge s x.number b d).0 ≡ failed = subst (λ (t : Active). (rejudge s t).0 ≡ failed) j.2 o.2 in
      let z = ask_is_failed xs x i its queue log s w j.1 (below_from s w x.number queue (turn_at s w (asking x.number b d) j.1 j.2) k.queued) b d k v.0 (not_blocked_held s w x.number b d k.v k.size v j.4) f in
      conclude s w (again p) failed xs (lost x) queue (decision x i failed ∷ log) e j.0 j.1 o.1
      (subst (λ (t : Active). (rejudge s t).1.active ≡ spoiled x.number) (sym j.2) z.0)
      (subst (λ (t : Active). Tie h₀.limit v₀ script xs (lost x) queue (decision x i failed ∷ log) (rejudge s t).1 w) (sym j.2) z.1)
      tt
  advance (again_seen {x} {i} {b} {v} {its} {xs} {queue} {log}) s w e j =
      let p = token_of h₀.number x waiting in
      let o = ok s (again p) (seen v) e (λ r f. no_way cc) in
      let k = j.3 in
      let h = admitted_at s w (looking x.number b) j.1 j.2 in
      let f : (peek s x.number b (others b x.number s.grants)).0 ≡ seen v = subst (λ (t : Active). (rejudge s t).0 ≡ seen v) j.2 o.2 in
      let z = look_is_seen xs x i its queue log s w j.1 (below_from s w x.number queue (turn_at s w (looking x.number b) j.1 j.2) k.queued) b v k h f in
      conclude s w (again p) (seen v) xs (doing x (suc i) its) queue (decision x i (seen v) ∷ log) e j.0 j.1 o.1
      (subst (λ (t : Active). (rejudge s t).1.active ≡ working x.number) (sym j.2) z.0)
      (subst (λ (t : Active). Tie h₀.limit v₀ script xs (doing x (suc i) its) queue (decision x i (seen v) ∷ log) (rejudge s t).1 w) (sym j.2) z.1)
      tt
  advance (again_waits {x} {i} {it} {its} {xs} {queue} {log}) s w e j =
      let p = token_of h₀.number x waiting in
      let o = ok s (again p) waits e (λ r f. no_way cc) in
      let z = still it s w xs x i its queue log j.1 j.2 j.3 o.2 in
      conclude s w (again p) waits xs (stuck x i it its) queue log e j.0 j.1 o.1 z.0 z.1 j.4
  advance (closes {x} {i} {xs} {queue} {log} y) s w e j =
      let p = token_of h₀.number x opened in
      let o = ok s (close p) (closed x.number) e (λ r f. no_way cc) in
      conclude s w (close p) (closed x.number) xs idle (queue ++ (x ∷ [])) log e j.0 j.1 o.1 refl
      (tie_close h₀.limit v₀ script xs x i queue log s w (below_from s w x.number queue (turn_at s w (working x.number) j.1 j.2) j.3.queued) j.3) tt
  advance (drops_it {x} {i} {xs} {queue} {log} y) s w e j =
      let p = token_of h₀.number x opened in
      let o = ok s (drop p) (dropped x.number) e (λ r f. no_way cc) in
      conclude s w (drop p) (dropped x.number) xs idle queue log e j.0 j.1 o.1 refl
      (tie_drop h₀.limit v₀ script xs x queue log s w
      (wants_none x.number queue (below_from s w x.number queue (turn_at s w (working x.number) j.1 j.2) j.3.queued))
      (as_lost h₀.limit v₀ script xs x i queue log s w y j.3)) tt
  advance (drops_lost {x} {xs} {queue} {log}) s w e j =
      let p = token_of h₀.number x spoilt in
      let o = ok s (drop p) (dropped x.number) e (λ r f. no_way cc) in
      conclude s w (drop p) (dropped x.number) xs idle queue log e j.0 j.1 o.1 refl
      (tie_drop h₀.limit v₀ script xs x queue log s w
      (wants_none x.number queue (below_from s w x.number queue (turn_at s w (spoiled x.number) j.1 j.2) j.3.queued))
      j.3) tt
  advance (keeps_it {x} {k} {xs} {queue} {log} y) s w e j =
      let o = ok s (keep x.number) (kept x.number) e (λ r f. no_way cc) in
      conclude s w (keep x.number) (kept x.number) xs k queue log e j.0 j.1 o.1 j.2
      (tie_keep h₀.limit v₀ script xs k x queue log s w j.1 j.2 y j.3) j.4
  advance (undoes_it {x} {k} {xs} {queue} {log} y) s w e j =
      let o = ok s (undo x.number) (undone x.number) e (λ r f. no_way cc) in
      conclude s w (undo x.number) (undone x.number) xs k queue log e j.0 j.1 o.1 j.2
      (tie_undo h₀.limit v₀ script xs k x queue log s w j.1 j.2 y j.3) j.4

-- An ask that is held lies within the limit.
use Rattle.std.proofs.Common.{◌≡◌, ℕ, Bool, true, false, ℤ, Some, None, Option, sym, refl, subst}
use Rattle.model.specs.Ledger.{Call, Active, Verdict, over, verdict, bin_at, vacant, working, asking, looking, spoiled, grant, fail, wait}
use Rattle.model.specs.Ledger.{lay, begin, ask, look, again, close, drop, keep, undo, report}
use Rattle.model.proofs.Link.{passed}
use Rattle.model.proofs.Listed.{Listed, House, others, free, checks, refusal, decide, peek, rejudge, act, serve, step}
use Rattle.model.proofs.Verdicts.{house_step}

-- an ask that is held lies within the limit l
abbrev pub HeldFits : ℕ → Active → Type 0
HeldFits l vacant = Unit {0}
HeldFits l (working n) = Unit {0}
HeldFits l (asking n b d) = over l d ≡ false
HeldFits l (looking n b) = Unit {0}
HeldFits l (spoiled n) = Unit {0}

decide-held : (s : Listed) (n b : ℕ) (d : ℤ) (v : Verdict) → over s.house.limit d ≡ false → HeldFits s.house.limit (decide s n b d v).1.active
decide-held s n b d grant o = tt
decide-held s n b d fail o = tt
decide-held s n b d wait o = o

peek-held : (s : Listed) (n b : ℕ) (t : Bool) → HeldFits s.house.limit (peek s n b t).1.active
peek-held s n b true = tt
peek-held s n b false = tt

rejudge-held : (s : Listed) (t : Active) → HeldFits s.house.limit t → HeldFits s.house.limit s.active → HeldFits s.house.limit (rejudge s t).1.active
rejudge-held s vacant h k = k
rejudge-held s (working n) h k = k
rejudge-held s (asking n b d) h k = decide-held s n b d (verdict (bin_at s.bins b) (free s) d) h
rejudge-held s (looking n b) h k = peek-held s n b (others b n s.grants)
rejudge-held s (spoiled n) h k = k

act-held : (s : Listed) (c : Call) → refusal s c ≡ None → HeldFits s.house.limit s.active → HeldFits s.house.limit (act s c).1.active
unfolding act
act-held s (lay x y z) e k = k
act-held s (begin n) e k = tt
act-held s (ask p b d) e k = decide-held s p.batch b d (verdict (bin_at s.bins b) (free s) d) (passed (checks s (ask p b d)) e).1.0
act-held s (look p b) e k = peek-held s p.batch b (others b p.batch s.grants)
act-held s (again p) e k = rejudge-held s s.active k k
act-held s (close p) e k = tt
act-held s (drop p) e k = tt
act-held s (keep n) e k = k
act-held s (undo n) e k = k
act-held s (report b) e k = k

pub step-held : (s : Listed) (c : Call) → HeldFits s.house.limit s.active → HeldFits (step s c).1.house.limit (step s c).1.active
unfolding step
step-held s c k = subst (λ (h : House). HeldFits h.limit (step s c).1.active) (sym (house_step s c)) (go (refusal s c) refl)
  where
    go : (o : Option ℕ) → refusal s c ≡ o → HeldFits s.house.limit (serve s c o).1.active
    go None e = act-held s c e k
    go (Some r) e = k

-- Lists of calls: one call more, and what no call changes.
use Rattle.std.proofs.Common.{◌≡◌, ℕ, Bool, true, false, ltb, List, [], ◌∷◌, ◌++◌, ℤ, Some, None, Option, sym, refl, ap, ◌∙◌}
use Rattle.shelf.specs.Contents.{Contents, Sound}
use Rattle.model.specs.Ledger.{State, Active, Call, Verdict, bin_at, verdict, rivals, refusal, decide, peek, rejudge, act, serve, step, opens}
use Rattle.model.specs.Ledger.{vacant, working, asking, looking, spoiled, grant, fail, wait}
use Rattle.model.specs.Ledger.{lay, begin, ask, look, again, close, drop, keep, undo, report}
use Rattle.model.specs.Journal.{Journal, feed, fed}
use Rattle.model.specs.Runs.{after, told, Reached}

-- ---- one call more

pub after_on : (m : State) (cs : List Call) (c : Call) → after m (cs ++ c ∷ []) ≡ (step (after m cs) c).1
after_on m [] c = refl
after_on m (x ∷ xs) c = after_on (step m x).1 xs c

pub after_both : (m : State) (cs ds : List Call) → after m (cs ++ ds) ≡ after (after m cs) ds
after_both m [] ds = refl
after_both m (x ∷ xs) ds = after_both (step m x).1 xs ds

pub journal_on : (m : State) (w : Journal) (cs : List Call) (c : Call) → fed w (told m (cs ++ c ∷ [])) ≡ feed (fed w (told m cs)) c (step (after m cs) c).0
journal_on m w [] c = refl
journal_on m w (x ∷ xs) c = journal_on (step m x).1 (feed w x (step m x).0) xs c

-- ---- what no call changes

-- house number, limit, fitness and the two capacities
pub record Fixed : Type 0 where
  pub house : ℕ
  pub limit : ℕ
  pub fit : Bool
  pub bin_capacity : ℕ
  pub grant_capacity : ℕ

abbrev pub fixed : State → Fixed
fixed m = record { house = m.house; limit = m.limit; fit = m.fit; bin_capacity = m.shelf.bin_capacity; grant_capacity = m.shelf.grant_capacity }

fixed-decide : (m : State) (n b : ℕ) (d : ℤ) (v : Verdict) → fixed (decide m n b d v).1 ≡ fixed m
fixed-decide m n b d grant = refl
fixed-decide m n b d fail = refl
fixed-decide m n b d wait = refl

fixed-peek : (m : State) (n b : ℕ) (t : Bool) → fixed (peek m n b t).1 ≡ fixed m
fixed-peek m n b true = refl
fixed-peek m n b false = refl

fixed-judge : (m : State) (n b : ℕ) (d : ℤ) → fixed (decide m n b d (verdict (bin_at m.shelf.bins b) (ltb m.shelf.held m.shelf.grant_capacity) d)).1 ≡ fixed m
fixed-judge m n b d = fixed-decide m n b d (verdict (bin_at m.shelf.bins b) (ltb m.shelf.held m.shelf.grant_capacity) d)

fixed-rejudge : (m : State) (t : Active) → fixed (rejudge m t).1 ≡ fixed m
fixed-rejudge m vacant = refl
fixed-rejudge m (working n) = refl
fixed-rejudge m (asking n b d) = fixed-judge m n b d
fixed-rejudge m (looking n b) = fixed-peek m n b (rivals m b)
fixed-rejudge m (spoiled n) = refl

fixed-act : (m : State) (c : Call) → fixed (act m c).1 ≡ fixed m
unfolding act
fixed-act m (lay x y z) = refl
fixed-act m (begin n) = refl
fixed-act m (ask p b d) = fixed-judge m p.batch b d
fixed-act m (look p b) = fixed-peek m p.batch b (rivals m b)
fixed-act m (again p) = fixed-rejudge m m.active
fixed-act m (close p) = refl
fixed-act m (drop p) = refl
fixed-act m (keep n) = refl
fixed-act m (undo n) = refl
fixed-act m (report b) = refl

pub fixed-step : (m : State) (c : Call) → fixed (step m c).1 ≡ fixed m
unfolding step
fixed-step m c = go (refusal m c)
  where
    go : (o : Option ℕ) → fixed (serve m c o).1 ≡ fixed m
    go None = fixed-act m c
    go (Some r) = refl

pub fixed-after : (cs : List Call) (m : State) → fixed (after m cs) ≡ fixed m
fixed-after [] m = refl
fixed-after (c ∷ cs) m = fixed-after cs (step m c).1 ∙ fixed-step m c

-- where calls have led from an opening is reached
pub is_reached : (house limit : ℕ) (s : Contents) → Sound s → (cs : List Call) → Reached (after (opens house limit s) cs) cs
is_reached house limit s ok cs = (s, (ok, ap (λ (k : Fixed). after (opens k.house k.limit s) cs) (sym (fixed-after cs (opens house limit s)))))

-- a call leads a reached ledger to a reached ledger
pub reached_on : (m : State) (cs : List Call) (c : Call) → Reached m cs → Reached (step m c).1 (cs ++ c ∷ [])
reached_on m cs c r =
    let s = r.0 in
    let same = fixed-step m c in (
      s,
      (
        r.1.0,
        ap (λ (y : State). (step y c).1) r.1.1
            ∙ sym (after_on (opens m.house m.limit s) cs c)
            ∙ ap (λ (k : Fixed). after (opens k.house k.limit s) (cs ++ c ∷ [])) (sym same),
      ),
    )

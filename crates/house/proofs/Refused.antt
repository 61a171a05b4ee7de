-- What the reference ledger refuses has no place: its text is that of the refusal.
use Rattle.std.proofs.Common.{◌≡◌, ℕ, ◌<◌, Bool, true, false, cond, List, [], ◌∷◌, ℤ, Some, Option, codes, sym, refl, subst, arith, lit<}
use Rattle.refusal.specs.declared.Refusal.{Refusal}
use Rattle.refusal.specs.declared.Refusal.TheVariants as why
use Rattle.refusal.specs.Table.{number_of, place_text, refusal_text}
use Rattle.model.specs.Ledger.{State, Call, Answer, Verdict, grant, fail, wait, Active, vacant, working, asking, looking, spoiled}
use Rattle.model.specs.Ledger.{lay, begin, ask, look, again, close, drop, keep, undo, report}
use Rattle.model.specs.Ledger.{laid, begun, granted, failed, waits, seen, closed, dropped, kept, undone, shown, refused}
use Rattle.model.specs.Ledger.{first, checks, decide, peek, rejudge, act, serve, step}
use Rattle.forms.specs.declared.calls.Kind.{Kind}
use Rattle.house.specs.Text.{said_text}

-- the number of a refusal, and 0 of any other answer
abbrev number_in : Answer → ℕ
number_in (refused r) = r
number_in (laid n) = 0
number_in (begun n) = 0
number_in granted = 0
number_in failed = 0
number_in waits = 0
number_in (seen v) = 0
number_in (closed n) = 0
number_in (dropped n) = 0
number_in (kept n) = 0
number_in (undone n) = 0
number_in (shown x) = 0

abbrev Below : Answer × State → Type 0
Below x = number_in x.0 < 17

abbrev AllBelow : List (Bool × ℕ) → Type 0
AllBelow [] = Unit {0}
AllBelow (x ∷ xs) = (x.1 < 17) × AllBelow xs

checks_below : (s : State) (c : Call) → AllBelow (checks s c)
checks_below s (lay low high start) = (lit< tt, (lit< tt, (lit< tt, (lit< tt, (lit< tt, tt)))))
checks_below s (begin n) = (lit< tt, (lit< tt, (lit< tt, (lit< tt, tt))))
checks_below s (ask p b d) = (lit< tt, (lit< tt, (lit< tt, (lit< tt, (lit< tt, (lit< tt, (lit< tt, tt)))))))
checks_below s (look p b) = (lit< tt, (lit< tt, (lit< tt, tt)))
checks_below s (again p) = (lit< tt, (lit< tt, tt))
checks_below s (close p) = (lit< tt, (lit< tt, tt))
checks_below s (drop p) = (lit< tt, (lit< tt, tt))
checks_below s (keep n) = (lit< tt, (lit< tt, (lit< tt, tt)))
checks_below s (undo n) = (lit< tt, (lit< tt, (lit< tt, tt)))
checks_below s (report b) = (lit< tt, (lit< tt, tt))

judged_below : (s : State) (n b : ℕ) (d : ℤ) (v : Verdict) → Below (decide s n b d v)
judged_below s n b d grant = lit< tt
judged_below s n b d fail = lit< tt
judged_below s n b d wait = lit< tt

peeked_below : (s : State) (n b : ℕ) (t : Bool) → Below (peek s n b t)
peeked_below s n b true = lit< tt
peeked_below s n b false = lit< tt

rejudged_below : (s : State) (a : Active) → Below (rejudge s a)
rejudged_below s vacant = lit< tt
rejudged_below s (working n) = lit< tt
rejudged_below s (asking n b d) = judged_below s n b d _
rejudged_below s (looking n b) = peeked_below s n b _
rejudged_below s (spoiled n) = lit< tt

act_below : (s : State) (c : Call) → Below (act s c)
unfolding act
act_below s (lay low high start) = lit< tt
act_below s (begin n) = lit< tt
act_below s (ask p b d) = judged_below s p.batch b d _
act_below s (look p b) = peeked_below s p.batch b _
act_below s (again p) = rejudged_below s s.active
act_below s (close p) = lit< tt
act_below s (drop p) = lit< tt
act_below s (keep n) = lit< tt
act_below s (undo n) = lit< tt
act_below s (report b) = lit< tt

module _ (s : State) (c : Call) where
  either : (t : Bool) (r : ℕ) (o : Option ℕ) → r < 17 → Below (serve s c o) → Below (serve s c (cond t (Some r) o))
  either true r o h k = h
  either false r o h k = k

  first_below : (xs : List (Bool × ℕ)) → AllBelow xs → Below (serve s c (first xs))
  first_below [] h = act_below s c
  first_below (x ∷ xs) h = either x.0 x.1 (first xs) h.0 (first_below xs h.1)

  -- the reference ledger refuses by a number below that of unreadable lines
  pub step_below : (s' : State) (n : ℕ) → (refused n, s') ≡ step s c → n < 17
  unfolding step
  step_below s' n e = subst Below (sym e) (first_below (checks s c) (checks_below s c))

place_below : (r : Refusal) → number_of r < 17 → place_text r ≡ codes ")"
place_below why.UnfitShelf h = refl
place_below why.BadFigures h = refl
place_below why.OverLimit h = refl
place_below why.Trading h = refl
place_below why.BinsFull h = refl
place_below why.BatchActive h = refl
place_below why.OldNumber h = refl
place_below why.QueueFull h = refl
place_below why.StrangeToken h = refl
place_below why.NoSuchBin h = refl
place_below why.NothingAsked h = refl
place_below why.AskedAlready h = refl
place_below why.BatchFull h = refl
place_below why.NotItsTurn h = refl
place_below why.UnknownBatch h = refl
place_below why.UnevenTray h = refl
place_below (why.Unreadable place) h = absurd (omega arith)

pub refused_text : (k : Kind) (b : ℕ) (r : Refusal) → number_of r < 17 → refusal_text r ≡ said_text k b (refused (number_of r))
refused_text k b r h = rw (place_below r h) refl

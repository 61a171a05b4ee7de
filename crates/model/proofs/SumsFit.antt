-- No sum that the ledger makes lies outside twice the limit: after a settling the sums are figures of the ledger.
use Rattle.std.proofs.Common.{◌≡◌, ℕ, suc, ◌+◌, ◌*◌, ◌<◌, Bool, true, false, List, [], ◌∷◌, ◌++◌, length, get_or, ℤ, Some, None, Option, sym, refl, ap, ◌∙◌, subst, add-zero, add-suc, suc-add, zero-add, arith}
use Rattle.std.proofs.lemmas.Bool.{leb-false}
use Rattle.shelf.specs.Contents.{Figures, Contents}
use Rattle.model.specs.Ledger.{State, Token, Active, Call, Answer, no_bin, bin_at, over, on_some, map_from, settle_in, with_kept, with_undone, checks, refusal, act, serve, step, opens}
use Rattle.model.specs.Ledger.{vacant, working, asking, looking, spoiled}
use Rattle.model.specs.Ledger.{lay, begin, ask, look, again, close, drop, keep, undo, report}
use Rattle.model.specs.Runs.{after, Reached}
use Rattle.model.specs.Sums.{ask_sums, settled_at, settled_from, settle_sums, held_sums, accepted_sums, unless_refused, sums_of, EachInside}
use Rattle.model.specs.Promises.{SumsInRange}
use Rattle.model.proofs.Link.{passed}
use Rattle.model.proofs.Range.{Fits, once, twice}
use Rattle.model.proofs.Simulate.{length-map_from, get_or-map_from}
use Rattle.model.proofs.Opening.{unfit_refusal}
use Rattle.model.proofs.Runs.{Fixed, fixed-step, is_reached, reached_on}
use Rattle.model.proofs.Reached.{figures_at, held_ask_at}
use Rattle.model.proofs.Clash.{no_way}

-- ---- an accepted call

pub accepted : (m : State) (c : Call) → refusal m c ≡ None → step m c ≡ act m c
unfolding step
accepted m c e = ap (serve m c) e

pub accepted_fit : (m : State) (c : Call) → refusal m c ≡ None → m.fit ≡ true
accepted_fit m c e = go m.fit refl
  where
    go : (t : Bool) → m.fit ≡ t → m.fit ≡ true
    go true q = q
    go false q = let r = sym e ∙ unfit_refusal m q c in no_way cc

-- ---- the figures of each bin after a settling

settled-figures : (f : Figures → ℤ → Figures) (m : State) (cs : List Call) (c : Call) (n : ℕ) → Reached m cs → refusal m c ≡ None
    → (act m c).1.shelf ≡ settle_in f m.shelf n → (b : ℕ) → b < length m.shelf.bins → Fits m.limit (on_some f (bin_at m.shelf.bins b) (m.shelf.grants b n))
settled-figures f m cs c n r e same b h =
    let bins : (step m c).1.shelf.bins ≡ map_from 0 change m.shelf.bins = ap (λ (y : Answer × State). y.1.shelf.bins) (accepted m c e) ∙ ap (λ (y : Contents). y.bins) same in
    let k : b < length (step m c).1.shelf.bins = subst (λ (xs : List Figures). b < length xs) (sym bins) (subst (λ (j : ℕ). b < j) (sym (length-map_from 0 change m.shelf.bins)) h) in
    let fit : (step m c).1.fit ≡ true = ap (λ (y : Fixed). y.fit) (fixed-step m c) ∙ accepted_fit m c e in
    let at : bin_at (step m c).1.shelf.bins b ≡ on_some f (bin_at m.shelf.bins b) (m.shelf.grants b n)
    = ap (λ (xs : List Figures). bin_at xs b) bins ∙ get_or-map_from 0 change m.shelf.bins b no_bin h ∙ ap (λ (j : ℕ). change j (bin_at m.shelf.bins b)) (zero-add b) in
    subst (λ (y : Fixed). Fits y.limit (on_some f (bin_at m.shelf.bins b) (m.shelf.grants b n))) (fixed-step m c)
    (subst (Fits (step m c).1.limit) at (figures_at (step m c).1 (cs ++ c ∷ []) (reached_on m cs c r) fit b k))
  where
    change : ℕ → Figures → Figures
    change j x = on_some f x (m.shelf.grants j n)

module _ (m : State) (cs : List Call) (r : Reached m cs) where
  pub kept_fits : (n : ℕ) → refusal m (keep n) ≡ None → (b : ℕ) → b < length m.shelf.bins → Fits m.limit (on_some with_kept (bin_at m.shelf.bins b) (m.shelf.grants b n))
  unfolding act
  kept_fits n e = settled-figures with_kept m cs (keep n) n r e refl

  pub undone_fits : (n : ℕ) → refusal m (undo n) ≡ None → (b : ℕ) → b < length m.shelf.bins → Fits m.limit (on_some with_undone (bin_at m.shelf.bins b) (m.shelf.grants b n))
  unfolding act
  undone_fits n e = settled-figures with_undone m cs (undo n) n r e refl

  pub dropped_fits : (p : Token) → refusal m (drop p) ≡ None → (b : ℕ) → b < length m.shelf.bins → Fits m.limit (on_some with_undone (bin_at m.shelf.bins b) (m.shelf.grants b p.batch))
  unfolding act
  dropped_fits p e = settled-figures with_undone m cs (drop p) p.batch r e refl

-- ---- the sums

each_both : (bound : ℕ) (xs ys : List ℤ) → EachInside bound xs → EachInside bound ys → EachInside bound (xs ++ ys)
each_both bound [] ys p q = q
each_both bound (x ∷ xs) ys p q = (p.0, each_both bound xs ys p.1 q)

settled-one : (f : Figures → ℤ → Figures) (lim : ℕ) (x : Figures) (o : Option ℤ) → Fits lim (on_some f x o) → EachInside (2 * lim) (settled_at f x o)
settled-one f lim x None p = tt
settled-one f lim x (Some d) p = (once lim (f x d).inf p.0, (once lim (f x d).val p.1, (once lim (f x d).sup p.2, tt)))

settled_from_lem : (f : Figures → ℤ → Figures) (lim : ℕ) (amounts : ℕ → Option ℤ) (i : ℕ) (xs : List Figures)
    → ((b : ℕ) → b < length xs → Fits lim (on_some f (get_or xs b no_bin) (amounts (i + b)))) → EachInside (2 * lim) (settled_from i f amounts xs)
settled_from_lem f lim amounts i [] h = tt
settled_from_lem f lim amounts i (x ∷ xs) h =
    each_both (2 * lim) (settled_at f x (amounts i)) (settled_from (suc i) f amounts xs)
    (settled-one f lim x (amounts i) (subst (λ (k : ℕ). Fits lim (on_some f x (amounts k))) (add-zero i) (h 0 (omega arith))))
    (settled_from_lem f lim amounts (suc i) xs (λ b k. subst (λ (j : ℕ). Fits lim (on_some f (get_or xs b no_bin) (amounts j))) (add-suc i b ∙ sym (suc-add i b)) (h (suc b) (omega arith))))

settle_sums_lem : (f : Figures → ℤ → Figures) (lim : ℕ) (s : Contents) (n : ℕ) → ((b : ℕ) → b < length s.bins → Fits lim (on_some f (bin_at s.bins b) (s.grants b n)))
    → EachInside (2 * lim) (settle_sums f s n)
settle_sums_lem f lim s n h =
    settled_from_lem f lim (λ b. s.grants b n) 0 s.bins (λ b k. subst (λ (j : ℕ). Fits lim (on_some f (bin_at s.bins b) (s.grants j n))) (sym (zero-add b)) (h b k))

ask_sums_lem : (lim : ℕ) (x : Figures) (d : ℤ) → Fits lim x → over lim d ≡ false → EachInside (2 * lim) (ask_sums x d)
ask_sums_lem lim x d p o = (twice lim x.inf d p.0 o, (twice lim x.sup d p.2 o, (twice lim x.val d p.1 o, tt)))

module _ (m : State) (cs : List Call) (r : Reached m cs) where
  held_sums_lem : m.fit ≡ true → (t : Active) → m.active ≡ t → EachInside (2 * m.limit) (held_sums m.shelf t)
  held_sums_lem fit vacant at = tt
  held_sums_lem fit (working n) at = tt
  held_sums_lem fit (asking n b d) at = let v = held_ask_at m cs r n b d at in ask_sums_lem m.limit (bin_at m.shelf.bins b) d (figures_at m cs r fit b v.0) v.2
  held_sums_lem fit (looking n b) at = tt
  held_sums_lem fit (spoiled n) at = tt

  accepted_sums_lem : (c : Call) → refusal m c ≡ None → EachInside (2 * m.limit) (accepted_sums m c)
  accepted_sums_lem (lay x y z) e = tt
  accepted_sums_lem (begin n) e = tt
  accepted_sums_lem (ask p b d) e =
      let k = passed (checks m (ask p b d)) e in
      ask_sums_lem m.limit (bin_at m.shelf.bins b) d (figures_at m cs r (accepted_fit m (ask p b d) e) b (leb-false _ _ k.1.1.1.0)) k.1.0
  accepted_sums_lem (look p b) e = tt
  accepted_sums_lem (again p) e = held_sums_lem (accepted_fit m (again p) e) m.active refl
  accepted_sums_lem (close p) e = tt
  accepted_sums_lem (drop p) e = settle_sums_lem with_undone m.limit m.shelf p.batch (dropped_fits m cs r p e)
  accepted_sums_lem (keep n) e = settle_sums_lem with_kept m.limit m.shelf n (kept_fits m cs r n e)
  accepted_sums_lem (undo n) e = settle_sums_lem with_undone m.limit m.shelf n (undone_fits m cs r n e)
  accepted_sums_lem (report b) e = tt

  pub sums_at : (c : Call) → EachInside (2 * m.limit) (sums_of m c)
  sums_at c = go (refusal m c) refl
    where
      go : (o : Option ℕ) → refusal m c ≡ o → EachInside (2 * m.limit) (unless_refused o (accepted_sums m c))
      go None e = accepted_sums_lem c e
      go (Some q) e = tt

pub sums_in_range : SumsInRange
sums_in_range house limit s ok cs c = sums_at (after (opens house limit s) cs) cs (is_reached house limit s ok cs) c

-- The reference ledger does what the ledger over the list does.
use Rattle.std.proofs.Common.{◌≡◌, ℕ, zero, suc, ◌+◌, ◌-◌, ◌<◌, Bool, true, false, not, ◌&&◌, eqb, leb, List, [], ◌∷◌, length, get_or, ℤ, pos, is_some, Some, None, Option, sym, refl, ap, ◌∙◌, subst, add-zero, add-suc, suc-add, zero-add, arith, ext_get_or}
use lib.Signed.{le_z}
use Rattle.std.proofs.lemmas.Bool.{ne_eqb}
use Rattle.shelf.specs.Contents.{Figures}
use Rattle.model.specs.Ledger as ref
use Rattle.model.specs.Ledger.{State, Active, Call, Answer, Verdict, no_bin, bin_at, in_queue, tail, over, first, verdict, with_kept, with_undone, rivals, grants_of, any_of, map_from, on_some, batch_limit}
use Rattle.model.specs.Ledger.{vacant, working, asking, looking, spoiled, opened, grant, fail, wait}
use Rattle.model.specs.Ledger.{lay, begin, ask, look, again, close, drop, keep, undo, report}
use Rattle.model.specs.Journal.{Entry, Journal, each_of, wipe}
use Rattle.model.proofs.Listed.{Listed, as_map, find, holds, held, others, strange, checks, refusal, decide, free, peek, rejudge, settle, act, serve, step}
use Rattle.model.proofs.Endings.{Apart}
use Rattle.model.proofs.Link.{Link, Owned, OwnedBy, Turn, AllBelow, Within, passed}
use Rattle.model.proofs.Totals.{length_each}
use Rattle.model.proofs.Step.{any_token}
use Rattle.model.proofs.Grants.{holds-find, find-wipe, length-wipe, each_find, others_any, count_same, held-count}

abbrev pub Told : Answer × Listed → Answer × State
Told y = (y.0, as_map y.1)

pub length-map_from : {A : Type 0} (i : ℕ) (f : ℕ → A → A) (xs : List A) → length (map_from i f xs) ≡ length xs
length-map_from i f [] = refl
length-map_from i f (x ∷ xs) = ap suc (length-map_from (suc i) f xs)

pub get_or-map_from : {A : Type 0} (i : ℕ) (f : ℕ → A → A) (xs : List A) (b : ℕ) (z : A) → b < length xs → get_or (map_from i f xs) b z ≡ f (i + b) (get_or xs b z)
get_or-map_from i f [] b z h = absurd (omega arith)
get_or-map_from i f (x ∷ xs) zero z h = ap (λ (k : ℕ). f k x) (sym (add-zero i))
get_or-map_from i f (x ∷ xs) (suc b) z h = get_or-map_from (suc i) f xs b z (omega arith) ∙ ap (λ (k : ℕ). f k (get_or xs b z)) (suc-add i b ∙ sym (add-suc i b))

module _ (s : Listed) (w : Journal) (l : Link s w) where
  apart : Apart s.grants
  apart = subst Apart l.entries l.apart

  pub within : Within (length s.bins) s.grants
  within = subst (λ (m : ℕ). Within m s.grants) (sym l.size) (subst (Within (length w.bases)) l.entries l.within)

  grants_of_is : (n : ℕ) → grants_of (as_map s).shelf n ≡ held n s.grants
  grants_of_is n =
      sym (held-count (length s.bins) n s.grants apart within
      ∙ count_same (length s.bins) (λ b. holds b n s.grants) (λ b. is_some (find b n s.grants)) (λ b h. holds-find b n s.grants))

  any_same : (ks : List ℕ) (f g : ℕ → Bool) → ((k : ℕ) → f k ≡ g k) → any_of ks f ≡ any_of ks g
  any_same [] f g h = refl
  any_same (k ∷ ks) f g h = rw (h k, any_same ks f g h)

  pub rivals_are : (b n : ℕ) → Owned w.entries s.queue (working n) → AllBelow n s.queue → rivals (as_map s) b ≡ others b n s.grants
  rivals_are b n o a =
      sym (others_any b n s.grants s.queue (subst (λ (rs : List Entry). OwnedBy rs s.queue (λ k. eqb n k)) l.entries o) (not_in s.queue a)
      ∙ any_same s.queue (λ k. holds b k s.grants) (λ k. is_some (find b k s.grants)) (λ k. holds-find b k s.grants))
    where
      not_in : (ks : List ℕ) → AllBelow n ks → in_queue n ks ≡ false
      not_in [] a = refl
      not_in (k ∷ ks) a = rw (ne_eqb k n (let x = a.0 in omega arith), not_in ks a.1)

  settles : (f : Figures → ℤ → Figures) (n : ℕ) (queue : List ℕ) (t : Active) → ref.settle f (as_map s) n queue t ≡ as_map (settle f s n queue t)
  settles f n queue t =
      λ i. record {
        house = s.house.number;
        limit = s.house.limit;
        fit = s.house.fit;
        last = s.last;
        shelf = record { bins = bins i; grants = λ b k. sym (find-wipe n s.grants b k) i; held = count i; bin_capacity = s.house.bin_capacity; grant_capacity = s.house.grant_capacity };
        queue = queue;
        active = t;
      }
    where
      bins : map_from 0 (λ b x. on_some f x (find b n s.grants)) s.bins ≡ each_of f no_bin n s.grants s.bins
      bins =
          ext_get_or no_bin _ _ (length-map_from 0 (λ b x. on_some f x (find b n s.grants)) s.bins ∙ sym (length_each f no_bin n s.grants s.bins))
          (λ b h.
          let h' : b < length s.bins = subst (λ (m : ℕ). b < m) (length-map_from 0 (λ b x. on_some f x (find b n s.grants)) s.bins) h in
          get_or-map_from 0 (λ b x. on_some f x (find b n s.grants)) s.bins b no_bin h'
          ∙ ap (λ (k : ℕ). on_some f (get_or s.bins b no_bin) (find k n s.grants)) (zero-add b)
          ∙ sym (each_find f no_bin n s.grants s.bins b apart h'))

      count : length s.grants - grants_of (as_map s).shelf n ≡ length (wipe n s.grants)
      count = let e = grants_of_is n in let k = length-wipe n s.grants in omega arith

  decides : (n b : ℕ) (d : ℤ) (v : Verdict) → ref.decide (as_map s) n b d v ≡ Told (decide s n b d v)
  decides n b d grant = refl
  decides n b d fail = refl
  decides n b d wait = refl

  peeks : (n b : ℕ) (t : Bool) → ref.peek (as_map s) n b t ≡ Told (peek s n b t)
  peeks n b true = refl
  peeks n b false = refl

  pub checks_same : (c : Call) → ref.checks (as_map s) c ≡ checks s c
  checks_same (lay floor ceiling st) = refl
  checks_same (begin n) = refl
  checks_same (ask p b d) =
      let e₁ = holds-find b p.batch s.grants in
      let e₂ = grants_of_is p.batch in
      λ i. (not s.house.fit, 1) ∷ (over s.house.limit d, 3) ∷ (strange s opened p, 9) ∷ (leb (length s.bins) b, 10) ∷ (le_z d (pos 0) && le_z (pos 0) d, 11) ∷ (sym e₁ i, 12) ∷ (leb batch_limit (e₂ i), 13) ∷ []
  checks_same (look p b) = refl
  checks_same (again p) = refl
  checks_same (close p) = refl
  checks_same (drop p) = refl
  checks_same (keep n) = refl
  checks_same (undo n) = refl
  checks_same (report b) = refl

  rejudges : (t : Active) → Owned w.entries s.queue t → Turn s.queue s.last t → ref.rejudge (as_map s) t ≡ Told (rejudge s t)
  rejudges vacant o u = refl
  rejudges (working n) o u = refl
  rejudges (asking n b d) o u = decides n b d (verdict (bin_at s.bins b) (free s) d)
  rejudges (looking n b) o u = ap (ref.peek (as_map s) n b) (rivals_are b n o u.2) ∙ peeks n b (others b n s.grants)
  rejudges (spoiled n) o u = refl

  acts : (c : Call) → refusal s c ≡ None → ref.act (as_map s) c ≡ Told (act s c)
  unfolding ref.act act
  acts (lay floor ceiling st) e = refl
  acts (begin n) e = refl
  acts (ask p b d) e = decides p.batch b d (verdict (bin_at s.bins b) (free s) d)
  acts (look p b) e =
      let c = passed (checks s (look p b)) e in
      let at = any_token s w p opened l c.1.0 in
      ap (ref.peek (as_map s) p.batch b) (rivals_are b p.batch at.0 at.1.2) ∙ peeks p.batch b (others b p.batch s.grants)
  acts (again p) e = rejudges s.active l.owned l.turn
  acts (close p) e = refl
  acts (drop p) e = λ i. ((act s (drop p)).0, settles with_undone p.batch s.queue vacant i)
  acts (keep n) e = λ i. ((act s (keep n)).0, settles with_kept n (tail s.queue) s.active i)
  acts (undo n) e = λ i. ((act s (undo n)).0, settles with_undone n (tail s.queue) s.active i)
  acts (report b) e = refl

  pub simulates : (c : Call) → ref.step (as_map s) c ≡ Told (step s c)
  unfolding ref.step step
  simulates c = ap (λ (xs : List (Bool × ℕ)). ref.serve (as_map s) c (first xs)) (checks_same c) ∙ go (refusal s c) refl
    where
      go : (o : Option ℕ) → refusal s c ≡ o → ref.serve (as_map s) c o ≡ Told (serve s c o)
      go None e = acts c e
      go (Some r) e = refl

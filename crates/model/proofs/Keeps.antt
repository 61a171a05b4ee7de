-- What each accepted call does to the link between state and journal.
use Rattle.std.proofs.Common.{◌≡◌, ℕ, suc, ◌+◌, ◌<◌, ◌≤◌, Bool, true, false, cond, ◌&&◌, ◌||◌, eqb, ◌⊎◌, List, [], ◌∷◌, ◌++◌, length, get_or, ℤ, ◌+ℤ◌, ◌≤ℤ◌, sym, refl, ap, ◌∙◌, subst, inl, inr, arith, length-append}
use lib.ListN.{get_or-append}
use Rattle.std.proofs.lemmas.Bool.{eqb-true, eqb-false, or_parts, eq-eqb, or_left, or_right, or_cases}
use Rattle.shelf.specs.Contents.{Figures, fresh}
use Rattle.model.specs.Journal.{Entry, wipe, each_of, Journal, Base, base_at, no_base, add_base, add_bases, write, note, wipe_off, keep_all}
use Rattle.model.specs.Ledger.{Active, no_bin, bin_at, with_grant, with_kept, with_undone, vacant, working, asking, looking, spoiled, grant, tail, in_queue}
use Rattle.model.specs.Ledger.{over, batch_limit}
use Rattle.model.proofs.Clash.{true_false}
use Rattle.model.proofs.Endings.{Apart}
use Rattle.model.proofs.Link.{Link, Figured, Owned, is_active, Turn, AllBelow, Admitted, Within, figs_grant, figs_kept, figs_undone, fig_new, floor_kept, ceiling_kept}
use Rattle.model.proofs.Listed.{Listed, holds, held, set_active, decide, settle}
use Rattle.model.proofs.Totals.{length-touch, length_each}

pub holds-wipe : (b m n : ℕ) (rs : List Entry) → holds b m rs ≡ false → holds b m (wipe n rs) ≡ false
holds-wipe b m n [] h = refl
holds-wipe b m n (r ∷ rs) h =
    let parts = or_parts (eqb r.bin b && eqb r.batch m) (holds b m rs) h in
    go (eqb r.batch n) parts.0 (holds-wipe b m n rs parts.1)
  where
    go : (t : Bool) → (eqb r.bin b && eqb r.batch m) ≡ false → holds b m (wipe n rs) ≡ false → holds b m (cond t (wipe n rs) (r ∷ wipe n rs)) ≡ false
    go true e ih = ih
    go false e ih = rw (e, ih)

pub held-wipe : (m n : ℕ) (rs : List Entry) → held m (wipe n rs) ≤ held m rs
held-wipe m n [] = omega arith
held-wipe m n (r ∷ rs) = go (eqb r.batch n) (eqb r.batch m) refl (held-wipe m n rs)
  where
    go : (t q : Bool) → eqb r.batch m ≡ q → held m (wipe n rs) ≤ held m rs → held m (cond t (wipe n rs) (r ∷ wipe n rs)) ≤ cond q (suc (held m rs)) (held m rs)
    go true true e ih = omega arith
    go true false e ih = ih
    go false true e ih = rw e (omega arith)
    go false false e ih = rw e ih

pub apart-wipe : (n : ℕ) (rs : List Entry) → Apart rs → Apart (wipe n rs)
apart-wipe n [] a = tt
apart-wipe n (r ∷ rs) a = go (eqb r.batch n) (apart-wipe n rs a.1)
  where
    go : (t : Bool) → Apart (wipe n rs) → Apart (cond t (wipe n rs) (r ∷ wipe n rs))
    go true ih = ih
    go false ih = (holds-wipe r.bin r.batch n rs a.0, ih)

-- ---- whose entries they are

pub owned_begin : (n : ℕ) (rs : List Entry) (queue : List ℕ) → Owned rs queue vacant → Owned rs queue (working n)
owned_begin n [] queue o = tt
owned_begin n (r ∷ rs) queue o = (go (in_queue r.batch queue) o.0, owned_begin n rs queue o.1)
  where
    go : (t : Bool) → (t || false) ≡ true → (t || eqb n r.batch) ≡ true
    go true e = refl
    go false e = true_false (sym e)

queue_end : (k n : ℕ) (queue : List ℕ) → (in_queue k queue || eqb n k) ≡ true → in_queue k (queue ++ (n ∷ [])) ≡ true
queue_end k n [] e = or_left (eqb n k) false e
queue_end k n (j ∷ js) e = go (eqb j k) e (queue_end k n js)
  where
    go : (t : Bool) → ((t || in_queue k js) || eqb n k) ≡ true → ((in_queue k js || eqb n k) ≡ true → in_queue k (js ++ (n ∷ [])) ≡ true) → (t || in_queue k (js ++ (n ∷ []))) ≡ true
    go true e ih = refl
    go false e ih = ih e

pub owned_close : (n : ℕ) (rs : List Entry) (queue : List ℕ) → Owned rs queue (working n) → Owned rs (queue ++ (n ∷ [])) vacant
owned_close n [] queue o = tt
owned_close n (r ∷ rs) queue o = (or_left _ false (queue_end r.batch n queue o.0), owned_close n rs queue o.1)

pub owned_drop : (n : ℕ) (rs : List Entry) (queue : List ℕ) → Owned rs queue (working n) → Owned (wipe n rs) queue vacant
owned_drop n [] queue o = tt
owned_drop n (r ∷ rs) queue o = go (eqb r.batch n) refl (owned_drop n rs queue o.1)
  where
    go : (t : Bool) → eqb r.batch n ≡ t → Owned (wipe n rs) queue vacant → Owned (cond t (wipe n rs) (r ∷ wipe n rs)) queue vacant
    go true e ih = ih
    go false e ih =
        (or_left _ false (elim (or_cases (in_queue r.batch queue) (eqb n r.batch) o.0) [ inl y ↦ y | inr y ↦ absurd (eqb-false r.batch n e (sym (eqb-true n r.batch y))) ]), ih)

pub owned_settle : (n : ℕ) (rs : List Entry) (ks : List ℕ) (t : Active) → Owned rs (n ∷ ks) t → Owned (wipe n rs) ks t
owned_settle n [] ks t o = tt
owned_settle n (r ∷ rs) ks t o = go (eqb r.batch n) refl (owned_settle n rs ks t o.1)
  where
    other : eqb r.batch n ≡ false → (q : Bool) → eqb n r.batch ≡ q → ((q || in_queue r.batch ks) || is_active t r.batch) ≡ true → (in_queue r.batch ks || is_active t r.batch) ≡ true
    other e true f g = absurd (eqb-false r.batch n e (sym (eqb-true n r.batch f)))
    other e false f g = g

    go : (q : Bool) → eqb r.batch n ≡ q → Owned (wipe n rs) ks t → Owned (cond q (wipe n rs) (r ∷ wipe n rs)) ks t
    go true e ih = ih
    go false e ih = (other e (eqb n r.batch) refl o.0, ih)

-- ---- whose turn it is

below_more : (m k : ℕ) (ks : List ℕ) → m ≤ k → AllBelow m ks → AllBelow k ks
below_more m k [] h a = tt
below_more m k (j ∷ js) h a = (let x = a.0 in omega arith, below_more m k js h a.1)

below_end : (m n : ℕ) (ks : List ℕ) → AllBelow m ks → n < m → AllBelow m (ks ++ (n ∷ []))
below_end m n [] a h = (h, tt)
below_end m n (j ∷ js) a h = (a.0, below_end m n js a.1 h)

pub turn_begin : (queue : List ℕ) (last n : ℕ) → Turn queue last vacant → last < n → Turn queue n (working n)
turn_begin queue last n a h = (refl, omega arith, below_more (suc last) n queue h a)

pub turn_close : (queue : List ℕ) (last n : ℕ) → Turn queue last (working n) → Turn (queue ++ (n ∷ [])) last vacant
turn_close queue last n a =
    let e = a.0 in
    below_end (suc last) n queue (below_more n (suc last) queue (omega arith) a.2) (omega arith)

pub turn_drop : (queue : List ℕ) (last n : ℕ) → Turn queue last (working n) → Turn queue last vacant
turn_drop queue last n a = let e = a.0 in below_more n (suc last) queue (omega arith) a.2

pub turn_settle : (n : ℕ) (ks : List ℕ) (last : ℕ) (t : Active) → Turn (n ∷ ks) last t → Turn ks last t
turn_settle n ks last vacant a = a.1
turn_settle n ks last (working m) a = (a.0, a.1, a.2.1)
turn_settle n ks last (asking m b d) a = (a.0, a.1, a.2.1)
turn_settle n ks last (looking m b) a = (a.0, a.1, a.2.1)
turn_settle n ks last (spoiled m) a = (a.0, a.1, a.2.1)

wipe_none : (n : ℕ) (rs : List Entry) → rs ≡ [] → wipe n rs ≡ []
wipe_none n rs e = ap (wipe n) e

pub within_wipe : (m n : ℕ) (rs : List Entry) → Within m rs → Within m (wipe n rs)
within_wipe m n [] a = tt
within_wipe m n (r ∷ rs) a = go (eqb r.batch n) (within_wipe m n rs a.1)
  where
    go : (t : Bool) → Within m (wipe n rs) → Within m (cond t (wipe n rs) (r ∷ wipe n rs))
    go true ih = ih
    go false ih = (a.0, ih)

-- ---- each call

-- the active batch at another stage
pub link_active : (s : Listed) (w : Journal) (t : Active) → Link s w → Owned w.entries s.queue t → Turn s.queue s.last t → Admitted t w → Link (set_active s t) w
link_active s w t l o u v =
    record { entries = l.entries; size = l.size; figs = l.figs; apart = l.apart; owned = o; turn = u; early = l.early; clear = l.clear; within = l.within; wide = l.wide; admitted = v }

-- the ask is noted, and waits
pub link_wait : (s : Listed) (w : Journal) (n b : ℕ) (d : ℤ) → Link s w → Owned w.entries s.queue (working n) → Turn s.queue s.last (working n)
    → b < length w.bases → holds b n w.entries ≡ false → held n w.entries < batch_limit
    → Link (set_active s (asking n b d)) (note w (record { bin = b; batch = n; amount = d }))
link_wait s w n b d l o u h₁ h₂ h₃ =
    record { entries = l.entries; size = l.size; figs = l.figs; apart = l.apart; owned = o; turn = u; early = l.early; clear = l.clear; within = l.within; wide = l.wide; admitted = (h₁, h₂, h₃, refl) }

pub link_grant : (s : Listed) (w : Journal) (n b : ℕ) (d : ℤ) → Link s w → Owned w.entries s.queue (working n) → Turn s.queue s.last (working n)
    → b < length w.bases → holds b n w.entries ≡ false
    → (base_at w.bases b).floor ≤ℤ ((bin_at s.bins b).inf +ℤ d) → ((bin_at s.bins b).sup +ℤ d) ≤ℤ (base_at w.bases b).ceiling
    → Link (decide s n b d grant).1 (write w (record { bin = b; batch = n; amount = d }))
link_grant s w n b d l o u h₁ h₂ lo hi =
    record {
      entries = ap {B = List Entry} (λ rs. record { bin = b; batch = n; amount = d } ∷ rs) l.entries;
      size = length-touch with_grant no_bin b d s.bins ∙ l.size;
      figs = figs_grant s.bins w.bases w.entries l.size l.figs n b d lo hi;
      apart = (h₂, l.apart);
      owned = (or_right (in_queue n s.queue) (eqb n n) (eq-eqb n n refl), o);
      turn = u;
      early = λ e. let x = u.0 in let y = u.1 in absurd (omega arith);
      clear = l.clear;
      within = (h₁, l.within);
      wide = l.wide;
      admitted = tt;
    }

pub admitted_wipe : (t : Active) (n : ℕ) (w w' : Journal) → length w.bases ≡ length w'.bases → wipe n w.entries ≡ w'.entries → w.noted ≡ w'.noted → Admitted t w → Admitted t w'
admitted_wipe vacant n w w' e r q v = tt
admitted_wipe (working m) n w w' e r q v = tt
admitted_wipe (asking m b d) n w w' e r q v = (
  subst (λ (k : ℕ). b < k) e v.0,
  subst (λ rs. holds b m rs ≡ false) r (holds-wipe b m n w.entries v.1),
  subst (λ rs. held m rs < batch_limit) r (let h = v.2 in let k = held-wipe m n w.entries in omega arith),
  sym q ∙ v.3,
)
admitted_wipe (looking m b) n w w' e r q v = subst (λ (k : ℕ). b < k) e v
admitted_wipe (spoiled m) n w w' e r q v = tt

-- the oldest batch is settled: the rest of the queue and the active batch own what is left, and came in their turn
rest_owned : (s : Listed) (w : Journal) (n : ℕ) → Link s w → s.queue ≡ (n ∷ tail s.queue) → Owned (wipe n w.entries) (tail s.queue) s.active
rest_owned s w n l e = owned_settle n w.entries (tail s.queue) s.active (subst (λ (r : List ℕ). Owned w.entries r s.active) e l.owned)

rest_turn : (s : Listed) (w : Journal) (n : ℕ) → Link s w → s.queue ≡ (n ∷ tail s.queue) → Turn (tail s.queue) s.last s.active
rest_turn s w n l e = turn_settle n (tail s.queue) s.last s.active (subst (λ (r : List ℕ). Turn r s.last s.active) e l.turn)

-- batch n, the oldest, is kept
pub link_kept : (s : Listed) (w : Journal) (n : ℕ) → Link s w → s.queue ≡ (n ∷ tail s.queue) → Link (settle with_kept s n (tail s.queue) s.active) (keep_all w n)
link_kept s w n l e =
    record {
      entries = ap (wipe n) l.entries;
      size = length_each with_kept no_bin n s.grants s.bins ∙ l.size ∙ sym long;
      figs = λ b h. subst (λ (rs : List Entry). Figured b (bin_at (each_of with_kept no_bin n rs s.bins) b) (base_at (add_bases n w.entries w.bases) b) (wipe n w.entries)) l.entries
          (figs_kept s.bins w.bases w.entries l.size l.figs n b (before b h));
      apart = apart-wipe n w.entries l.apart;
      owned = rest_owned s w n l e;
      turn = rest_turn s w n l e;
      early = λ q. wipe_none n w.entries (l.early q);
      clear = λ q. ap tail (l.clear q);
      within = subst (λ (m : ℕ). Within m (wipe n w.entries)) (sym long) (within_wipe (length w.bases) n w.entries l.within);
      wide = λ b h. (
        ap (over s.house.limit) (floor_kept n w.entries w.bases b (before b h)) ∙ (l.wide b (before b h)).0,
        ap (over s.house.limit) (ceiling_kept n w.entries w.bases b (before b h)) ∙ (l.wide b (before b h)).1,
      );
      admitted = admitted_wipe s.active n w (keep_all w n) (sym long) refl refl l.admitted;
    }
  where
    long : length (add_bases n w.entries w.bases) ≡ length w.bases
    long = length_each add_base no_base n w.entries w.bases

    before : (b : ℕ) → b < length (add_bases n w.entries w.bases) → b < length w.bases
    before b h = subst (λ (k : ℕ). b < k) long h

-- batch n is undone or dropped
link_wiped : (s : Listed) (w : Journal) (n : ℕ) (queue : List ℕ) (t : Active) → Link s w → Owned (wipe n w.entries) queue t → Turn queue s.last t
    → (s.last ≡ 0 → queue ≡ []) → Admitted t (wipe_off w n) → Link (settle with_undone s n queue t) (wipe_off w n)
link_wiped s w n queue t l o u z v =
    record {
      entries = ap (wipe n) l.entries;
      size = length_each with_undone no_bin n s.grants s.bins ∙ l.size;
      figs = λ b h. subst (λ (rs : List Entry). Figured b (bin_at (each_of with_undone no_bin n rs s.bins) b) (base_at w.bases b) (wipe n w.entries)) l.entries
          (figs_undone s.bins w.bases w.entries l.size l.figs n b h);
      apart = apart-wipe n w.entries l.apart;
      owned = o;
      turn = u;
      early = λ q. wipe_none n w.entries (l.early q);
      clear = z;
      within = within_wipe (length w.bases) n w.entries l.within;
      wide = l.wide;
      admitted = v;
    }

pub link_undone : (s : Listed) (w : Journal) (n : ℕ) → Link s w → s.queue ≡ (n ∷ tail s.queue) → Link (settle with_undone s n (tail s.queue) s.active) (wipe_off w n)
link_undone s w n l e =
    link_wiped s w n (tail s.queue) s.active l (rest_owned s w n l e) (rest_turn s w n l e) (λ q. ap tail (l.clear q))
    (admitted_wipe s.active n w (wipe_off w n) refl refl refl l.admitted)

pub link_drop : (s : Listed) (w : Journal) (n : ℕ) → Link s w → Owned w.entries s.queue (working n) → Turn s.queue s.last (working n)
    → Link (settle with_undone s n s.queue vacant) (wipe_off w n)
link_drop s w n l o u = link_wiped s w n s.queue vacant l (owned_drop n w.entries s.queue o) (turn_drop s.queue s.last n u) l.clear tt

pub link_close : (s : Listed) (w : Journal) (n : ℕ) → Link s w → Owned w.entries s.queue (working n) → Turn s.queue s.last (working n)
    → Link (record { house = s.house; last = s.last; bins = s.bins; grants = s.grants; queue = s.queue ++ (n ∷ []); active = vacant }) w
link_close s w n l o u =
    record { entries = l.entries; size = l.size; figs = l.figs; apart = l.apart; owned = owned_close n w.entries s.queue o; turn = turn_close s.queue s.last n u; early = l.early; clear = λ q. let x = u.0 in let y = u.1 in absurd (omega arith); within = l.within; wide = l.wide; admitted = tt }

pub link_begin : (s : Listed) (w : Journal) (n : ℕ) → Link s w → s.active ≡ vacant → s.last < n
    → Link (record { house = s.house; last = n; bins = s.bins; grants = s.grants; queue = s.queue; active = working n }) w
link_begin s w n l e h =
    record {
      entries = l.entries;
      size = l.size;
      figs = l.figs;
      apart = l.apart;
      owned = owned_begin n w.entries s.queue (subst (Owned w.entries s.queue) e l.owned);
      turn = turn_begin s.queue s.last n (subst (Turn s.queue s.last) e l.turn) h;
      early = λ q. absurd (omega arith);
      clear = λ q. absurd (omega arith);
      within = l.within;
      wide = l.wide;
      admitted = tt;
    }

get_or_end : {A : Type 0} (xs : List A) (y z : A) → get_or (xs ++ (y ∷ [])) (length xs) z ≡ y
get_or_end [] y z = refl
get_or_end (x ∷ xs) y z = get_or_end xs y z

pub link_lay : (s : Listed) (w : Journal) (floor ceiling st : ℤ) → Link s w → s.last ≡ 0 → floor ≤ℤ st → st ≤ℤ ceiling → s.active ≡ vacant → over s.house.limit floor ≡ false → over s.house.limit ceiling ≡ false
    → Link (record { house = s.house; last = s.last; bins = s.bins ++ (fresh floor ceiling st ∷ []); grants = s.grants; queue = s.queue; active = s.active })
    (record { bases = w.bases ++ (record { floor = floor; ceiling = ceiling; base = st } ∷ []); entries = w.entries; noted = w.noted })
link_lay s w floor ceiling st l e p q te o₁ o₂ =
    record {
      entries = l.entries;
      size = length-append s.bins _ ∙ ap (λ (k : ℕ). k + 1) l.size ∙ sym (length-append w.bases _);
      figs = λ b h. go b (let k = length-append w.bases (record { floor = floor; ceiling = ceiling; base = st } ∷ []) in cases_le b (length w.bases) (omega arith));
      apart = l.apart;
      owned = l.owned;
      turn = l.turn;
      early = l.early;
      clear = l.clear;
      within = subst (λ (rs : List Entry). Within (length (w.bases ++ (record { floor = floor; ceiling = ceiling; base = st } ∷ []))) rs) (sym (l.early e)) tt;
      wide = λ b h. far b (let k = length-append w.bases (record { floor = floor; ceiling = ceiling; base = st } ∷ []) in cases_le b (length w.bases) (omega arith));
      admitted = subst (λ (t : Active). Admitted t (record { bases = w.bases ++ (record { floor = floor; ceiling = ceiling; base = st } ∷ []); entries = w.entries; noted = w.noted })) (sym te) tt;
    }
  where
    x : Figures
    x = fresh floor ceiling st

    y : Base
    y = record { floor = floor; ceiling = ceiling; base = st }

    cases_le : (b n : ℕ) → b < n + 1 → (b < n) ⊎ (b ≡ n)
    cases_le b n h = grind arith

    far : (b : ℕ) → (b < length w.bases) ⊎ (b ≡ length w.bases)
        → (over s.house.limit (base_at (w.bases ++ (y ∷ [])) b).floor ≡ false) × (over s.house.limit (base_at (w.bases ++ (y ∷ [])) b).ceiling ≡ false)
    far b (inl h) = rw (get_or-append w.bases (y ∷ []) no_base b h) (l.wide b h)
    far b (inr h) = let e₂ : base_at (w.bases ++ (y ∷ [])) b ≡ y = rw h (get_or_end w.bases y no_base) in rw e₂ (o₁, o₂)

    go : (b : ℕ) → (b < length w.bases) ⊎ (b ≡ length w.bases) → Figured b (bin_at (s.bins ++ (x ∷ [])) b) (base_at (w.bases ++ (y ∷ [])) b) w.entries
    go b (inl h) =
        let h' : b < length s.bins = let k = l.size in omega arith in
        rw (get_or-append s.bins (x ∷ []) no_bin b h', get_or-append w.bases (y ∷ []) no_base b h) (l.figs b h)
    go b (inr h) =
        let e₁ : bin_at (s.bins ++ (x ∷ [])) b ≡ x = rw (h, ← l.size) (get_or_end s.bins x no_bin) in
        let e₂ : base_at (w.bases ++ (y ∷ [])) b ≡ y = rw h (get_or_end w.bases y no_base) in
        rw (e₁, e₂, l.early e) (fig_new b floor ceiling st p q)

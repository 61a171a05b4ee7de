-- What each step of the work does to the tie between the ledger and the serial reading.
use Rattle.std.proofs.Common.{◌≡◌, ℕ, suc, ◌<◌, ◌≤◌, Bool, true, false, cond, ◌&&◌, T, eqb, leb, List, [], ◌∷◌, ◌++◌, length, ℤ, pos, ◌+ℤ◌, ◌≤ℤ◌, sym, refl, ap, ◌∙◌, subst, arith}
use lib.IntN.{+ℤ_idl, +ℤ_idr}
use lib.Signed.{le_z}
use Rattle.std.proofs.lemmas.Int.{ints}
use Rattle.std.proofs.lemmas.Bool.{and_parts, and_from, eq-eqb}
use Rattle.shelf.specs.Contents.{Figures}
use Rattle.model.specs.Journal.{Entry, wipe, Journal, Base, total, only, base_at, no_base, add_base, write, note, wipe_off, keep_all, EveryLands}
use Rattle.model.specs.Journal.{NoneLands, add_bases}
use Rattle.model.specs.Ledger.{Active, bin_at, vacant, working, grant, tail, granted, failed, seen, refused, with_kept, with_undone}
use Rattle.model.specs.Script.{Item, Last, Batch, asks, looks, keeps, undoes, drops, Decision, Worker, idle, doing, stuck, lost}
use Rattle.model.specs.Script.{decision}
use Rattle.model.proofs.Endings.{kept_share, whole}
use Rattle.model.proofs.Link.{Link, Owned, Turn, AllBelow, floor_kept, ceiling_kept, base_kept}
use Rattle.model.proofs.Listed.{Listed, House, holds, held, others, set_active, decide, settle}
use Rattle.model.proofs.SerialTie.{active_of, own_of, Same, Reads, Tie, reads_on, reads_lost, reads_now, reads_begin}
use Rattle.model.proofs.Serial.{settled, mine, blocked_by, lands, say, own, serial_of, serial_end, is_keeps, wants, numbers, holds-mine, held-mine, of_mine}
use Rattle.model.proofs.Serial.{mine-wipe, mine-fresh, alone, alone_kept, kept_wipe, kept_yes, kept_no, wants_none, wants_end}
use Rattle.model.proofs.Totals.{total_cong, of_batch, length_each}
use Rattle.model.proofs.Verdicts.{le_to}

-- ---- what the serial reading says

-- the checks on an ask read alike
pub blocked_same : (h₀ : House) (s : Listed) (w : Journal) (v : List Base) (n b : ℕ) (d : ℤ) → s.house ≡ h₀ → Link s w → length v ≡ length w.bases
    → blocked_by h₀.limit (length v) d b n (mine n w.entries) ≡ blocked_by s.house.limit (length s.bins) d b n s.grants
blocked_same h₀ s w v n b d home l size =
    let e₁ : length v ≡ length s.bins = size ∙ sym l.size in
    let e₂ : holds b n (mine n w.entries) ≡ holds b n s.grants = holds-mine b n w.entries ∙ ap (holds b n) l.entries in
    let e₃ : held n (mine n w.entries) ≡ held n s.grants = held-mine n w.entries ∙ ap (held n) l.entries in
    let e₄ : h₀.limit ≡ s.house.limit = ap (λ (x : House). x.limit) (sym home) in
    rw (e₁, e₂, e₃, e₄)

pub say-granted : (lim : ℕ) (v : List Base) (w : Journal) (queue : List Batch) (n b : ℕ) (d : ℤ) (g : List Entry) → Same v w queue b
    → blocked_by lim (length v) d b n g ≡ false → EveryLands w b d → say lim v n g (asks b d) ≡ granted
unfolding say
say-granted lim v w queue n b d g same e every =
    let in_both = every (wants queue) in
    let f : lands (base_at v b) d ≡ true = and_from _ _
    (le_to (subst (λ m. m ≤ℤ ((base_at v b).base +ℤ d)) (sym same.0) (subst (λ z. (base_at w.bases b).floor ≤ℤ (z +ℤ d)) (sym same.2) in_both.0)))
    (le_to (subst (λ m. ((base_at v b).base +ℤ d) ≤ℤ m) (sym same.1) (subst (λ z. (z +ℤ d) ≤ℤ (base_at w.bases b).ceiling) (sym same.2) in_both.1))) in
    rw (e, f)

pub say_failed : (lim : ℕ) (v : List Base) (w : Journal) (queue : List Batch) (n b : ℕ) (d : ℤ) (g : List Entry) → Same v w queue b
    → blocked_by lim (length v) d b n g ≡ false → NoneLands w b d → say lim v n g (asks b d) ≡ failed
unfolding say
say_failed lim v w queue n b d g same e never = rw e (go (lands (base_at v b) d) refl)
  where
    go : (t : Bool) → lands (base_at v b) d ≡ t → cond t granted failed ≡ failed
    go true f =
        let p = and_parts (le_z (base_at v b).floor ((base_at v b).base +ℤ d)) (le_z ((base_at v b).base +ℤ d) (base_at v b).ceiling) f in
        let e₁ = same.0 in
        let e₂ = same.1 in
        let e₃ = same.2 in
        let q₀ : (base_at v b).floor ≤ℤ ((base_at v b).base +ℤ d) = le_from' p.0 in
        let q₁ : ((base_at v b).base +ℤ d) ≤ℤ (base_at v b).ceiling = le_from' p.1 in
        absurd (never (wants queue) (
          subst (λ z. (base_at w.bases b).floor ≤ℤ (z +ℤ d)) e₃ (subst (λ m. m ≤ℤ ((base_at v b).base +ℤ d)) e₁ q₀),
          subst (λ z. (z +ℤ d) ≤ℤ (base_at w.bases b).ceiling) e₃ (subst (λ m. ((base_at v b).base +ℤ d) ≤ℤ m) e₂ q₁),
        ))
      where
        le_from' : {a c : ℤ} → le_z a c ≡ true → a ≤ℤ c
        le_from' q = record { le = subst T (sym q) tt }
    go false f = refl

pub say_refused : (lim : ℕ) (v : List Base) (n b : ℕ) (d : ℤ) (g : List Entry) → blocked_by lim (length v) d b n g ≡ true → say lim v n g (asks b d) ≡ refused 0
unfolding say
say_refused lim v n b d g e = rw e

pub say_seen : (lim : ℕ) (s : Listed) (w : Journal) (v : List Base) (queue : List Batch) (n b : ℕ) → Link s w → b < length w.bases → length v ≡ length w.bases
    → Same v w queue b → wants queue n ≡ false → others b n w.entries ≡ false → say lim v n (mine n w.entries) (looks b) ≡ seen (bin_at s.bins b).val
unfolding say
say_seen lim s w v queue n b l h size same z o =
    let f : leb (length v) b ≡ false = over' b (length v) (omega arith) in
    let e₁ = same.2 in
    let e₂ = alone_kept b n (wants queue) w.entries o z in
    let e₃ = alone b n w.entries o in
    let e₄ = (l.figs b h).expected in
    rw f (ap seen (sums _ _ _ _ _ _ e₁ e₂ e₃ e₄))
  where
    over' : (b n : ℕ) → b < n → leb n b ≡ false
    over' b n h = Rattle.std.proofs.lemmas.Bool.lt-leb n b h

    sums : (vb base k t m val : ℤ) → vb ≡ base +ℤ k → k ≡ pos 0 → t ≡ m → val ≡ base +ℤ t → vb +ℤ m ≡ val
    sums vb base k t m val e₁ e₂ e₃ e₄ = omega (arith, ints)

pub say_blind : (lim : ℕ) (v : List Base) (n b : ℕ) (g : List Entry) → leb (length v) b ≡ true → say lim v n g (looks b) ≡ refused 0
unfolding say
say_blind lim v n b g e = rw e

-- ---- the moves

module _ (lim : ℕ) (v₀ : List Base) (script : List Batch) where
  pub tie_begin : (x : Batch) (left queue : List Batch) (log : List Decision) (s : Listed) (w : Journal) → Link s w → s.active ≡ vacant
      → Tie lim v₀ script (x ∷ left) idle queue log s w
      → Tie lim v₀ script left (doing x 0 x.items) queue log (record { house = s.house; last = x.number; bins = s.bins; grants = s.grants; queue = s.queue; active = working x.number }) w
  tie_begin x left queue log s w l at k =
      let none : mine x.number w.entries ≡ [] = mine-fresh x.number w.entries s.queue (subst (Owned w.entries s.queue) at l.owned) below in
      record {
        v = k.v;
        size = k.size;
        same = k.same;
        queued = k.queued;
        reads = subst (λ (g : List Entry). Reads lim v₀ script left (doing x 0 x.items) x.number k.v g) (sym none)
            (reads_begin lim v₀ script x left s.last k.v k.rising.0 k.reads);
        rising = k.rising.1;
        logged = k.logged;
      }
    where
      more : (ks : List ℕ) (m n : ℕ) → m ≤ n → AllBelow m ks → AllBelow n ks
      more [] m n h a = tt
      more (j ∷ js) m n h a = (let y = a.0 in omega arith, more js m n h a.1)

      below : AllBelow x.number s.queue
      below = more s.queue (suc s.last) x.number k.rising.0 (subst (Turn s.queue s.last) at l.turn)

  -- an item is passed over
  pub tie_pass : (left : List Batch) (x : Batch) (i : ℕ) (it : Item) (its : List Item) (queue : List Batch) (log : List Decision) (s : Listed) (w : Journal)
      → (k : Tie lim v₀ script left (stuck x i it its) queue log s w) → say lim k.v x.number (mine x.number w.entries) it ≡ refused 0
      → own x.number (mine x.number w.entries) it (refused 0) ≡ mine x.number w.entries
      → Tie lim v₀ script left (doing x (suc i) its) queue log s w
  tie_pass left x i it its queue log s w k e o =
      record {
        v = k.v;
        size = k.size;
        same = k.same;
        queued = k.queued;
        reads = subst (λ (g : List Entry). Reads lim v₀ script left (doing x (suc i) its) s.last k.v g) o
            (reads_on lim v₀ script left x i it its s.last k.v (mine x.number w.entries) (refused 0) e refl k.reads);
        rising = k.rising;
        logged = k.logged;
      }

  pub tie_grant : (left : List Batch) (x : Batch) (i b : ℕ) (d : ℤ) (its : List Item) (queue : List Batch) (log : List Decision) (s : Listed) (w : Journal)
      → wants queue x.number ≡ false → (k : Tie lim v₀ script left (stuck x i (asks b d) its) queue log s w) → say lim k.v x.number (mine x.number w.entries) (asks b d) ≡ granted
      → Tie lim v₀ script left (doing x (suc i) its) queue (decision x i granted ∷ log) (decide s x.number b d grant).1 (write w (record { bin = b; batch = x.number; amount = d }))
  tie_grant left x i b d its queue log s w z k e =
      let self = eq-eqb x.number x.number refl in
      let entry : mine x.number (record { bin = b; batch = x.number; amount = d } ∷ w.entries) ≡ (record { bin = b; batch = x.number; amount = d } ∷ mine x.number w.entries) = rw self in
      record {
        v = k.v;
        size = k.size;
        same = λ j h. ((k.same j h).0, (k.same j h).1, (k.same j h).2 ∙ ap (λ t. (base_at w.bases j).base +ℤ t) (sym (unmoved j)));
        queued = k.queued;
        reads = subst (λ (g : List Entry). Reads lim v₀ script left (doing x (suc i) its) s.last k.v g) (sym entry)
            (reads_on lim v₀ script left x i (asks b d) its s.last k.v (mine x.number w.entries) granted e refl k.reads);
        rising = k.rising;
        logged = (reads_now lim v₀ script left x i (asks b d) its s.last k.v (mine x.number w.entries) k.reads ∙ e, k.logged);
      }
    where
      off : (q : Bool) → only (q && false) d ≡ pos 0
      off true = refl
      off false = refl

      unmoved : (j : ℕ) → total (kept_share j (wants queue)) (record { bin = b; batch = x.number; amount = d } ∷ w.entries) ≡ total (kept_share j (wants queue)) w.entries
      unmoved j = rw z (ap (λ t. t +ℤ total (kept_share j (wants queue)) w.entries) (off (eqb b j)) ∙ +ℤ_idl _)

  pub tie_fail : (left : List Batch) (x : Batch) (i b : ℕ) (d : ℤ) (its : List Item) (queue : List Batch) (log : List Decision) (s : Listed) (w : Journal) (t : Active)
      → (k : Tie lim v₀ script left (stuck x i (asks b d) its) queue log s w) → say lim k.v x.number (mine x.number w.entries) (asks b d) ≡ failed
      → Tie lim v₀ script left (lost x) queue (decision x i failed ∷ log) (set_active s t) w
  tie_fail left x i b d its queue log s w t k e =
      record {
        v = k.v;
        size = k.size;
        same = k.same;
        queued = k.queued;
        reads = reads_lost lim v₀ script left x i (asks b d) its s.last k.v (mine x.number w.entries) e k.reads;
        rising = k.rising;
        logged = (reads_now lim v₀ script left x i (asks b d) its s.last k.v (mine x.number w.entries) k.reads ∙ e, k.logged);
      }

  pub tie_seen : (left : List Batch) (x : Batch) (i b : ℕ) (u : ℤ) (its : List Item) (queue : List Batch) (log : List Decision) (s : Listed) (w : Journal) (t : Active)
      → (k : Tie lim v₀ script left (stuck x i (looks b) its) queue log s w) → say lim k.v x.number (mine x.number w.entries) (looks b) ≡ seen u
      → Tie lim v₀ script left (doing x (suc i) its) queue (decision x i (seen u) ∷ log) (set_active s t) w
  tie_seen left x i b u its queue log s w t k e =
      record {
        v = k.v;
        size = k.size;
        same = k.same;
        queued = k.queued;
        reads = reads_on lim v₀ script left x i (looks b) its s.last k.v (mine x.number w.entries) (seen u) e refl k.reads;
        rising = k.rising;
        logged = (reads_now lim v₀ script left x i (looks b) its s.last k.v (mine x.number w.entries) k.reads ∙ e, k.logged);
      }

  -- a waiting item, with the active batch at another stage and another note in the journal
  pub tie_wait : (left : List Batch) (x : Batch) (i : ℕ) (it : Item) (its : List Item) (queue : List Batch) (log : List Decision) (s : Listed) (w : Journal) (t : Active) (r : Entry)
      → Tie lim v₀ script left (stuck x i it its) queue log s w → Tie lim v₀ script left (stuck x i it its) queue log (set_active s t) (note w r)
  tie_wait left x i it its queue log s w t r k =
      record { v = k.v; size = k.size; same = k.same; queued = k.queued; reads = k.reads; rising = k.rising; logged = k.logged }

  pub tie_active : (left : List Batch) (k : Worker) (queue : List Batch) (log : List Decision) (s : Listed) (w : Journal) (t : Active)
      → Tie lim v₀ script left k queue log s w → Tie lim v₀ script left k queue log (set_active s t) w
  tie_active left worker queue log s w t k =
      record { v = k.v; size = k.size; same = k.same; queued = k.queued; reads = k.reads; rising = k.rising; logged = k.logged }

  -- ---- the end of a batch, and its last word

  pub tie_close : (left : List Batch) (x : Batch) (i : ℕ) (queue : List Batch) (log : List Decision) (s : Listed) (w : Journal)
      → AllBelow x.number (numbers queue) → Tie lim v₀ script left (doing x i []) queue log s w
      → Tie lim v₀ script left idle (queue ++ (x ∷ [])) log (record { house = s.house; last = s.last; bins = s.bins; grants = s.grants; queue = s.queue ++ (x.number ∷ []); active = vacant }) w
  tie_close left x i queue log s w below k =
      record {
        v = settled x.last k.v n g;
        size = long x.last ∙ k.size;
        same = λ b h.
            let h' : b < length k.v = let e = k.size in omega arith in (
              floor x.last b h' ∙ (k.same b h).0,
              ceiling x.last b h' ∙ (k.same b h).1,
              base x.last b h' ∙ ends _ _ _ _ _ _ (k.same b h).2 (ap (only (is_keeps x.last)) (of_mine b n w.entries)) (closing b),
            );
        queued = numbers_end queue ∙ ap (λ (ks : List ℕ). ks ++ (n ∷ [])) k.queued;
        reads = record { rest = k.reads.rest; cur = tt; fin = k.reads.fin };
        rising = k.rising;
        logged = k.logged;
      }
    where
      n : ℕ
      n = x.number

      g : List Entry
      g = mine n w.entries

      numbers_end : (ys : List Batch) → numbers (ys ++ (x ∷ [])) ≡ numbers ys ++ (n ∷ [])
      numbers_end [] = refl
      numbers_end (y ∷ ys) = ap {B = List ℕ} (λ ks. y.number ∷ ks) (numbers_end ys)

      long : (z : Last) → length (settled z k.v n g) ≡ length k.v
      long keeps = length_each add_base no_base n g k.v
      long undoes = refl
      long drops = refl

      floor : (z : Last) (b : ℕ) → b < length k.v → (base_at (settled z k.v n g) b).floor ≡ (base_at k.v b).floor
      floor keeps b h = floor_kept n g k.v b h
      floor undoes b h = refl
      floor drops b h = refl

      ceiling : (z : Last) (b : ℕ) → b < length k.v → (base_at (settled z k.v n g) b).ceiling ≡ (base_at k.v b).ceiling
      ceiling keeps b h = ceiling_kept n g k.v b h
      ceiling undoes b h = refl
      ceiling drops b h = refl

      base : (z : Last) (b : ℕ) → b < length k.v → (base_at (settled z k.v n g) b).base ≡ (base_at k.v b).base +ℤ only (is_keeps z) (total (of_batch b n whole) g)
      base keeps b h = base_kept n g k.v b h
      base undoes b h = sym (+ℤ_idr _)
      base drops b h = sym (+ℤ_idr _)

      z : wants queue n ≡ false
      z = wants_none n queue below

      closing : (b : ℕ) → total (kept_share b (wants (queue ++ (x ∷ [])))) w.entries ≡ only (is_keeps x.last) (total (of_batch b n whole) w.entries) +ℤ total (kept_share b (wants queue)) w.entries
      closing b =
          total_cong (kept_share b (wants (queue ++ (x ∷ [])))) (kept_share b (λ m. cond (eqb m n) (is_keeps x.last) (wants queue m)))
          (λ r. ap (λ (t : Bool). only (eqb r.bin b && t) r.amount) (wants_end x queue below r.batch)) w.entries
          ∙ go (is_keeps x.last)
        where
          go : (t : Bool) → total (kept_share b (λ m. cond (eqb m n) t (wants queue m))) w.entries ≡ only t (total (of_batch b n whole) w.entries) +ℤ total (kept_share b (wants queue)) w.entries
          go true = sym (kept_yes b n (wants queue) w.entries) ∙ ap (λ y. total (of_batch b n whole) w.entries +ℤ y) (kept_wipe b n (wants queue) w.entries z)
          go false = sym (kept_no b n (wants queue) w.entries) ∙ kept_wipe b n (wants queue) w.entries z ∙ sym (+ℤ_idl _)

      ends : (vb base k o₁ o₂ t : ℤ) → vb ≡ base +ℤ k → o₁ ≡ o₂ → t ≡ o₂ +ℤ k → vb +ℤ o₁ ≡ base +ℤ t
      ends vb base k o₁ o₂ t e₁ e₂ e₃ = omega (arith, ints)

  pub tie_drop : (left : List Batch) (x : Batch) (queue : List Batch) (log : List Decision) (s : Listed) (w : Journal)
      → wants queue x.number ≡ false → Tie lim v₀ script left (lost x) queue log s w
      → Tie lim v₀ script left idle queue log (settle with_undone s x.number s.queue vacant) (wipe_off w x.number)
  tie_drop left x queue log s w z k =
      record {
        v = k.v;
        size = k.size;
        same = λ b h. ((k.same b h).0, (k.same b h).1, (k.same b h).2 ∙ ap (λ t. (base_at w.bases b).base +ℤ t) (sym (kept_wipe b x.number (wants queue) w.entries z)));
        queued = k.queued;
        reads = record { rest = k.reads.rest; cur = tt; fin = k.reads.fin };
        rising = k.rising;
        logged = k.logged;
      }

  -- a batch whose last word is drop is as good as lost
  pub as_lost : (left : List Batch) (x : Batch) (i : ℕ) (queue : List Batch) (log : List Decision) (s : Listed) (w : Journal) → x.last ≡ drops
      → Tie lim v₀ script left (doing x i []) queue log s w → Tie lim v₀ script left (lost x) queue log s w
  as_lost left x i queue log s w e k =
      record {
        v = k.v;
        size = k.size;
        same = k.same;
        queued = k.queued;
        reads = record {
          rest = λ n j h. k.reads.rest n j h ∙ ap (λ (z : List Base). serial_of lim z left n j) same;
          cur = tt;
          fin = k.reads.fin ∙ ap (λ (z : List Base). serial_end lim z left) same;
        };
        rising = k.rising;
        logged = k.logged;
      }
    where
      same : settled x.last k.v x.number (mine x.number w.entries) ≡ k.v
      same = ap (λ (z : Last). settled z k.v x.number (mine x.number w.entries)) e

  own-wipe : (n : ℕ) (ks : List ℕ) (last : ℕ) (worker : Worker) (rs : List Entry) → Turn (n ∷ ks) last (active_of worker) → own_of worker (wipe n rs) ≡ own_of worker rs
  own-wipe n ks last idle rs u = refl
  own-wipe n ks last (doing x i its) rs u = mine-wipe n x.number rs (let h = u.2.0 in omega arith)
  own-wipe n ks last (stuck x i (asks b d) its) rs u = mine-wipe n x.number rs (let h = u.2.0 in omega arith)
  own-wipe n ks last (stuck x i (looks b) its) rs u = mine-wipe n x.number rs (let h = u.2.0 in omega arith)
  own-wipe n ks last (lost x) rs u = refl

  -- the oldest closed batch is settled by f, and the journal's bases are then these
  tie_settle : (f : Figures → ℤ → Figures) (left : List Batch) (worker : Worker) (x : Batch) (queue : List Batch) (log : List Decision) (s : Listed) (w : Journal) (bases : List Base)
      → Link s w → s.active ≡ active_of worker → length bases ≡ length w.bases → (k : Tie lim v₀ script left worker (x ∷ queue) log s w)
      → ((b : ℕ) → b < length w.bases → Same k.v (record { bases = bases; entries = wipe x.number w.entries; noted = w.noted }) queue b)
      → Tie lim v₀ script left worker queue log (settle f s x.number (tail s.queue) s.active) (record { bases = bases; entries = wipe x.number w.entries; noted = w.noted })
  tie_settle f left worker x queue log s w bases l at long k same =
      record {
        v = k.v;
        size = k.size ∙ sym long;
        same = λ b h. same b (subst (λ (m : ℕ). b < m) long h);
        queued = ap tail k.queued;
        reads = subst (Reads lim v₀ script left worker s.last k.v) (sym unmoved) k.reads;
        rising = k.rising;
        logged = k.logged;
      }
    where
      unmoved : own_of worker (wipe x.number w.entries) ≡ own_of worker w.entries
      unmoved =
          own-wipe x.number (numbers queue) s.last worker w.entries
          (subst (λ (ks : List ℕ). Turn ks s.last (active_of worker)) (sym k.queued) (subst (Turn s.queue s.last) at l.turn))

  pub tie_keep : (left : List Batch) (worker : Worker) (x : Batch) (queue : List Batch) (log : List Decision) (s : Listed) (w : Journal)
      → Link s w → s.active ≡ active_of worker → x.last ≡ keeps → Tie lim v₀ script left worker (x ∷ queue) log s w
      → Tie lim v₀ script left worker queue log (settle with_kept s x.number (tail s.queue) s.active) (keep_all w x.number)
  tie_keep left worker x queue log s w l at word k =
      tie_settle with_kept left worker x queue log s w (add_bases n w.entries w.bases) l at (length_each add_base no_base n w.entries w.bases) k (λ b h.
      let old = k.same b h in (
        old.0 ∙ sym (floor_kept n w.entries w.bases b h),
        old.1 ∙ sym (ceiling_kept n w.entries w.bases b h),
        sums _ _ _ _ _ _ old.2 (base_kept n w.entries w.bases b h)
            (kept_yes b n (wants queue) w.entries ∙ ap (λ (z : Last). total (kept_share b (λ m. cond (eqb m n) (is_keeps z) (wants queue m))) w.entries) (sym word)),
      ))
    where
      n : ℕ
      n = x.number

      sums : (vb base base' o t u : ℤ) → vb ≡ base +ℤ u → base' ≡ base +ℤ o → o +ℤ t ≡ u → vb ≡ base' +ℤ t
      sums vb base base' o t u e₁ e₂ e₃ = omega (arith, ints)

  pub tie_undo : (left : List Batch) (worker : Worker) (x : Batch) (queue : List Batch) (log : List Decision) (s : Listed) (w : Journal)
      → Link s w → s.active ≡ active_of worker → x.last ≡ undoes → Tie lim v₀ script left worker (x ∷ queue) log s w
      → Tie lim v₀ script left worker queue log (settle with_undone s x.number (tail s.queue) s.active) (wipe_off w x.number)
  tie_undo left worker x queue log s w l at word k =
      tie_settle with_undone left worker x queue log s w w.bases l at refl k (λ b h. (
        (k.same b h).0,
        (k.same b h).1,
        (k.same b h).2 ∙ ap (λ t. (base_at w.bases b).base +ℤ t)
            (sym (kept_no b x.number (wants queue) w.entries ∙ ap (λ (z : Last). total (kept_share b (λ m. cond (eqb m x.number) (is_keeps z) (wants queue m))) w.entries) (sym word))),
      ))

-- The serial reading of a script: each batch is worked and settled at once, one after the other.
use Rattle.std.proofs.Common.{◌≡◌, ℕ, zero, suc, Bool, true, false, cond, not, ◌&&◌, ◌||◌, eqb, leb, ◌≢◌, List, [], ◌∷◌, ◌++◌, length, ℤ, pos, ◌+ℤ◌, sym, refl, ap, ◌∙◌, arith}
use lib.IntN.{+ℤ_idl}
use lib.Signed.{le_z}
use Rattle.std.proofs.lemmas.Int.{ints}
use Rattle.std.proofs.lemmas.Bool.{eqb-true, or_parts, ne_eqb}
use Rattle.model.specs.Journal.{Entry, wipe, Base, total, only, base_at, add_bases}
use Rattle.model.specs.Ledger.{Answer, over, in_queue, laid, begun, closed, dropped, kept, undone, granted, failed, waits, seen, shown}
use Rattle.model.specs.Ledger.{refused, batch_limit}
use Rattle.model.specs.Script.{Item, Last, Batch, asks, looks, keeps, undoes, drops}
use Rattle.model.proofs.Endings.{share, kept_share, whole}
use Rattle.model.proofs.Link.{OwnedBy, AllBelow}
use Rattle.model.proofs.Listed.{holds, held, others}
use Rattle.model.proofs.Totals.{of_batch}
use Rattle.model.proofs.Clash.{true_false}

-- the entries of batch n
abbrev pub mine : ℕ → List Entry → List Entry
mine n [] = []
mine n (r ∷ rs) = cond (eqb r.batch n) (r ∷ mine n rs) (mine n rs)

abbrev pub blocked_by : ℕ → ℕ → ℤ → ℕ → ℕ → List Entry → Bool
blocked_by lim size d b n g = over lim d || (leb size b || ((le_z d (pos 0) && le_z (pos 0) d) || (holds b n g || leb batch_limit (held n g))))

abbrev pub lands : Base → ℤ → Bool
lands l d = le_z l.floor (l.base +ℤ d) && le_z (l.base +ℤ d) l.ceiling

-- what an item is answered where everything before is settled, and g are the batch's own grants
unfoldable pub say : ℕ → List Base → ℕ → List Entry → Item → Answer
say lim v n g (asks b d) = cond (blocked_by lim (length v) d b n g) (refused 0) (cond (lands (base_at v b) d) granted failed)
say lim v n g (looks b) = cond (leb (length v) b) (refused 0) (seen ((base_at v b).base +ℤ total (share b whole) g))

abbrev pub is_granted : Answer → Bool
is_granted (laid n) = false
is_granted (begun n) = false
is_granted (closed n) = false
is_granted (dropped n) = false
is_granted (kept n) = false
is_granted (undone n) = false
is_granted granted = true
is_granted failed = false
is_granted waits = false
is_granted (seen v) = false
is_granted (shown x) = false
is_granted (refused r) = false

abbrev pub is_failed : Answer → Bool
is_failed (laid n) = false
is_failed (begun n) = false
is_failed (closed n) = false
is_failed (dropped n) = false
is_failed (kept n) = false
is_failed (undone n) = false
is_failed granted = false
is_failed failed = true
is_failed waits = false
is_failed (seen v) = false
is_failed (shown x) = false
is_failed (refused r) = false

abbrev pub own : ℕ → List Entry → Item → Answer → List Entry
own n g (asks b d) a = cond (is_granted a) (record { bin = b; batch = n; amount = d } ∷ g) g
own n g (looks b) a = g

abbrev pub serial_at : ℕ → List Base → ℕ → List Entry → List Item → ℕ → Answer
serial_at lim v n g [] j = refused 0
serial_at lim v n g (it ∷ its) zero = say lim v n g it
serial_at lim v n g (it ∷ its) (suc j) = serial_at lim v n (own n g it (say lim v n g it)) its j

abbrev pub settled : Last → List Base → ℕ → List Entry → List Base
settled keeps v n g = add_bases n g v
settled undoes v n g = v
settled drops v n g = v

abbrev pub finish : ℕ → List Base → ℕ → List Entry → List Item → Last → List Base
finish lim v n g [] z = settled z v n g
finish lim v n g (it ∷ its) z = cond (is_failed (say lim v n g it)) v (finish lim v n (own n g it (say lim v n g it)) its z)

abbrev pub worked : ℕ → List Base → Batch → List Base
worked lim v x = finish lim v x.number [] x.items x.last

abbrev pub serial_of : ℕ → List Base → List Batch → ℕ → ℕ → Answer
serial_of lim v [] n j = refused 0
serial_of lim v (x ∷ xs) n j = cond (eqb x.number n) (serial_at lim v x.number [] x.items j) (serial_of lim (worked lim v x) xs n j)

abbrev pub serial_end : ℕ → List Base → List Batch → List Base
serial_end lim v [] = v
serial_end lim v (x ∷ xs) = serial_end lim (worked lim v x) xs

abbrev pub is_keeps : Last → Bool
is_keeps keeps = true
is_keeps undoes = false
is_keeps drops = false

-- the closed batches that their last word will keep
abbrev pub wants : List Batch → ℕ → Bool
wants [] k = false
wants (x ∷ xs) k = cond (eqb k x.number) (is_keeps x.last) (wants xs k)

abbrev pub numbers : List Batch → List ℕ
numbers [] = []
numbers (x ∷ xs) = x.number ∷ numbers xs

-- ---- entries of one batch

pub holds-mine : (b n : ℕ) (rs : List Entry) → holds b n (mine n rs) ≡ holds b n rs
holds-mine b n [] = refl
holds-mine b n (r ∷ rs) = go (eqb r.batch n) refl (eqb r.bin b) (holds-mine b n rs)
  where
    go : (t : Bool) → eqb r.batch n ≡ t → (q : Bool) → holds b n (mine n rs) ≡ holds b n rs → holds b n (cond t (r ∷ mine n rs) (mine n rs)) ≡ ((eqb r.bin b && t) || holds b n rs)
    go true e q ih = rw (e, ih)
    go false e q ih = go' (eqb r.bin b)
      where
        go' : (q : Bool) → holds b n (mine n rs) ≡ ((q && false) || holds b n rs)
        go' true = ih
        go' false = ih

pub held-mine : (n : ℕ) (rs : List Entry) → held n (mine n rs) ≡ held n rs
held-mine n [] = refl
held-mine n (r ∷ rs) = go (eqb r.batch n) refl (held-mine n rs)
  where
    go : (t : Bool) → eqb r.batch n ≡ t → held n (mine n rs) ≡ held n rs → held n (cond t (r ∷ mine n rs) (mine n rs)) ≡ cond t (suc (held n rs)) (held n rs)
    go true e ih = rw (e, ih)
    go false e ih = ih

pub of_mine : (b n : ℕ) (rs : List Entry) → total (of_batch b n whole) (mine n rs) ≡ total (of_batch b n whole) rs
of_mine b n [] = refl
of_mine b n (r ∷ rs) = go (eqb r.batch n) refl (of_mine b n rs)
  where
    go : (t : Bool) → eqb r.batch n ≡ t → total (of_batch b n whole) (mine n rs) ≡ total (of_batch b n whole) rs
        → total (of_batch b n whole) (cond t (r ∷ mine n rs) (mine n rs)) ≡ only (eqb r.bin b && t) r.amount +ℤ total (of_batch b n whole) rs
    go true e ih = rw (e, ih)
    go false e ih = go' (eqb r.bin b)
      where
        go' : (q : Bool) → total (of_batch b n whole) (mine n rs) ≡ only (q && false) r.amount +ℤ total (of_batch b n whole) rs
        go' true = ih ∙ sym (+ℤ_idl _)
        go' false = ih ∙ sym (+ℤ_idl _)

pub mine-wipe : (m n : ℕ) (rs : List Entry) → m ≢ n → mine n (wipe m rs) ≡ mine n rs
mine-wipe m n [] h = refl
mine-wipe m n (r ∷ rs) h = go (eqb r.batch m) refl (eqb r.batch n) refl (mine-wipe m n rs h)
  where
    go : (t : Bool) → eqb r.batch m ≡ t → (q : Bool) → eqb r.batch n ≡ q → mine n (wipe m rs) ≡ mine n rs
        → mine n (cond t (wipe m rs) (r ∷ wipe m rs)) ≡ cond q (r ∷ mine n rs) (mine n rs)
    go true e true f ih = absurd (h (sym (eqb-true r.batch m e) ∙ eqb-true r.batch n f))
    go true e false f ih = ih
    go false e true f ih = rw (f, ih)
    go false e false f ih = rw (f, ih)

not_below : (n : ℕ) (ks : List ℕ) → AllBelow n ks → in_queue n ks ≡ false
not_below n [] a = refl
not_below n (k ∷ ks) a = rw (ne_eqb k n (let x = a.0 in omega arith), not_below n ks a.1)

pub mine-fresh : (n : ℕ) (rs : List Entry) (ks : List ℕ) → OwnedBy rs ks (λ k. false) → AllBelow n ks → mine n rs ≡ []
mine-fresh n [] ks o a = refl
mine-fresh n (r ∷ rs) ks o a = go (eqb r.batch n) refl (mine-fresh n rs ks o.1 a)
  where
    or_false : (t : Bool) → (t || false) ≡ true → t ≡ true
    or_false true e = refl
    or_false false e = e

    go : (t : Bool) → eqb r.batch n ≡ t → mine n rs ≡ [] → cond t (r ∷ mine n rs) (mine n rs) ≡ []
    go true e ih =
        true_false (sym (or_false (in_queue r.batch ks) o.0) ∙ ap (λ (k : ℕ). in_queue k ks) (eqb-true r.batch n e) ∙ not_below n ks a)
    go false e ih = ih

-- only batch n has entries in the bin
pub alone : (b n : ℕ) (rs : List Entry) → others b n rs ≡ false → total (share b whole) rs ≡ total (share b whole) (mine n rs)
alone b n [] h = refl
alone b n (r ∷ rs) h =
    let parts = or_parts (eqb r.bin b && not (eqb r.batch n)) (others b n rs) h in
    go (eqb r.batch n) (eqb r.bin b) refl parts.0 (alone b n rs parts.1)
  where
    go : (t q : Bool) → eqb r.bin b ≡ q → (q && not t) ≡ false → total (share b whole) rs ≡ total (share b whole) (mine n rs)
        → only q r.amount +ℤ total (share b whole) rs ≡ total (share b whole) (cond t (r ∷ mine n rs) (mine n rs))
    go true q f e ih = rw (f, ih)
    go false true f e ih = true_false e
    go false false f e ih = +ℤ_idl _ ∙ ih

pub alone_kept : (b n : ℕ) (k : ℕ → Bool) (rs : List Entry) → others b n rs ≡ false → k n ≡ false → total (kept_share b k) rs ≡ pos 0
alone_kept b n k [] h z = refl
alone_kept b n k (r ∷ rs) h z =
    let parts = or_parts (eqb r.bin b && not (eqb r.batch n)) (others b n rs) h in
    go (eqb r.batch n) refl (eqb r.bin b) parts.0 (alone_kept b n k rs parts.1 z)
  where
    go : (t : Bool) → eqb r.batch n ≡ t → (q : Bool) → (q && not t) ≡ false → total (kept_share b k) rs ≡ pos 0
        → only (q && k r.batch) r.amount +ℤ total (kept_share b k) rs ≡ pos 0
    go t f false e ih = +ℤ_idl _ ∙ ih
    go true f true e ih = rw (ap k (eqb-true r.batch n f) ∙ z) (+ℤ_idl _ ∙ ih)
    go false f true e ih = true_false e

-- ---- settling a batch of which the choice is known

pub kept_wipe : (b n : ℕ) (k : ℕ → Bool) (rs : List Entry) → k n ≡ false → total (kept_share b k) (wipe n rs) ≡ total (kept_share b k) rs
kept_wipe b n k [] z = refl
kept_wipe b n k (r ∷ rs) z = go (eqb r.batch n) refl (kept_wipe b n k rs z)
  where
    off : (q : Bool) → only (q && false) r.amount ≡ pos 0
    off true = refl
    off false = refl

    go : (t : Bool) → eqb r.batch n ≡ t → total (kept_share b k) (wipe n rs) ≡ total (kept_share b k) rs
        → total (kept_share b k) (cond t (wipe n rs) (r ∷ wipe n rs)) ≡ only (eqb r.bin b && k r.batch) r.amount +ℤ total (kept_share b k) rs
    go true e ih = rw (ap k (eqb-true r.batch n e) ∙ z) (ih ∙ sym (ap (λ x. x +ℤ total (kept_share b k) rs) (off (eqb r.bin b)) ∙ +ℤ_idl _))
    go false e ih = ap (λ x. only (eqb r.bin b && k r.batch) r.amount +ℤ x) ih

pub kept_yes : (b n : ℕ) (k : ℕ → Bool) (rs : List Entry)
    → total (of_batch b n whole) rs +ℤ total (kept_share b k) (wipe n rs) ≡ total (kept_share b (λ m. cond (eqb m n) true (k m))) rs
kept_yes b n k [] = refl
kept_yes b n k (r ∷ rs) = go (eqb r.bin b) refl (eqb r.batch n) (kept_yes b n k rs)
  where
    new : ℕ → Bool
    new m = cond (eqb m n) true (k m)

    go : (q : Bool) → eqb r.bin b ≡ q → (t : Bool) → total (of_batch b n whole) rs +ℤ total (kept_share b k) (wipe n rs) ≡ total (kept_share b new) rs
        → (only (q && t) r.amount +ℤ total (of_batch b n whole) rs) +ℤ total (kept_share b k) (cond t (wipe n rs) (r ∷ wipe n rs)) ≡ only (q && cond t true (k r.batch)) r.amount +ℤ total (kept_share b new) rs
    go true f true ih = omega (arith, ints)
    go true f false ih = rw f (omega (arith, ints))
    go false f true ih = omega (arith, ints)
    go false f false ih = rw f (omega (arith, ints))

pub kept_no : (b n : ℕ) (k : ℕ → Bool) (rs : List Entry)
    → total (kept_share b k) (wipe n rs) ≡ total (kept_share b (λ m. cond (eqb m n) false (k m))) rs
kept_no b n k [] = refl
kept_no b n k (r ∷ rs) = go (eqb r.bin b) refl (eqb r.batch n) (kept_no b n k rs)
  where
    new : ℕ → Bool
    new m = cond (eqb m n) false (k m)

    go : (q : Bool) → eqb r.bin b ≡ q → (t : Bool) → total (kept_share b k) (wipe n rs) ≡ total (kept_share b new) rs
        → total (kept_share b k) (cond t (wipe n rs) (r ∷ wipe n rs)) ≡ only (q && cond t false (k r.batch)) r.amount +ℤ total (kept_share b new) rs
    go true f true ih = ih ∙ sym (+ℤ_idl _)
    go true f false ih = rw f (ap (λ x. only (k r.batch) r.amount +ℤ x) ih)
    go false f true ih = ih ∙ sym (+ℤ_idl _)
    go false f false ih = rw f (ap (λ x. pos 0 +ℤ x) ih)

pub wants_none : (n : ℕ) (xs : List Batch) → AllBelow n (numbers xs) → wants xs n ≡ false
wants_none n [] a = refl
wants_none n (x ∷ xs) a = rw (ne_eqb n x.number (let y = a.0 in omega arith), wants_none n xs a.1)

pub wants_end : (x : Batch) (xs : List Batch) → AllBelow x.number (numbers xs) → (k : ℕ)
    → wants (xs ++ (x ∷ [])) k ≡ cond (eqb k x.number) (is_keeps x.last) (wants xs k)
wants_end x [] a k = refl
wants_end x (y ∷ ys) a k = go (eqb k y.number) refl (eqb k x.number) refl (wants_end x ys a.1 k)
  where
    go : (t : Bool) → eqb k y.number ≡ t → (q : Bool) → eqb k x.number ≡ q → wants (ys ++ (x ∷ [])) k ≡ cond (eqb k x.number) (is_keeps x.last) (wants ys k)
        → cond t (is_keeps y.last) (wants (ys ++ (x ∷ [])) k) ≡ cond q (is_keeps x.last) (cond t (is_keeps y.last) (wants ys k))
    go true e true f ih = absurd (let p = eqb-true k y.number e in let r = eqb-true k x.number f in let z = a.0 in omega arith)
    go true e false f ih = refl
    go false e true f ih = rw f at ih
    go false e false f ih = rw f at ih

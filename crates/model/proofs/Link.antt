-- What links the state of a list ledger to its journal.
use Rattle.std.proofs.Common.{◌≡◌, ℕ, suc, ◌<◌, Bool, true, false, cond, not, ◌&&◌, ◌||◌, eqb, List, [], ◌∷◌, length, ℤ, pos, ◌+ℤ◌, neg_ℤ, ◌≤ℤ◌, Some, None, sym, refl, ap, ◌∙◌, subst, arith}
use lib.IntN.{+ℤ_idl, +ℤ_idr, +ℤ_invr}
use lib.Signed.{lt_z}
use Rattle.std.proofs.lemmas.Int.{ints}
use Rattle.std.proofs.lemmas.Bool.{eqb-true, and_parts, not-false}
use Rattle.shelf.specs.Contents.{Figures, fresh}
use Rattle.model.specs.Journal.{Entry, wipe, each_of, Journal, Base, total, only, base_at, no_base, add_base, add_bases}
use Rattle.model.specs.Ledger.{Token, Active, touch, low, high, no_bin, bin_at, with_grant, with_kept, with_undone, vacant, working, asking, looking}
use Rattle.model.specs.Ledger.{spoiled, opened, tail, in_queue, oldest, active_at, same_stage, first, over, batch_limit}
use Rattle.model.proofs.Clash.{no_way}
use Rattle.model.proofs.Endings.{share, whole, Apart}
use Rattle.model.proofs.Listed.{Listed, holds, held, strange}
use Rattle.model.proofs.Totals.{touch-at, each_at, of_batch, of_zero, of_split, of_add, of_pos}

pub record Figured (b : ℕ) (x : Figures) (l : Base) (rs : List Entry) : Type 0 where
  pub floor : x.floor ≡ l.floor
  pub ceiling : x.ceiling ≡ l.ceiling
  pub lowest : x.inf ≡ l.base +ℤ total (share b low) rs
  pub expected : x.val ≡ l.base +ℤ total (share b whole) rs
  pub highest : x.sup ≡ l.base +ℤ total (share b high) rs
  pub above : l.floor ≤ℤ x.inf
  pub below : x.sup ≤ℤ l.ceiling

abbrev pub is_active : Active → ℕ → Bool
is_active vacant = λ k. false
is_active (working n) = λ k. eqb n k
is_active (asking n b d) = λ k. eqb n k
is_active (looking n b) = λ k. eqb n k
is_active (spoiled n) = λ k. eqb n k

-- each entry is of a batch in the queue or of the active one
abbrev pub OwnedBy : List Entry → List ℕ → (ℕ → Bool) → Type 0
OwnedBy [] queue f = Unit {0}
OwnedBy (r ∷ rs) queue f = ((in_queue r.batch queue || f r.batch) ≡ true) × OwnedBy rs queue f

abbrev pub Owned : List Entry → List ℕ → Active → Type 0
Owned rs queue t = OwnedBy rs queue (is_active t)

abbrev pub AllBelow : ℕ → List ℕ → Type 0
AllBelow m [] = Unit {0}
AllBelow m (k ∷ ks) = (k < m) × AllBelow m ks

-- the active batch is the last, and those in the queue came before it
abbrev pub Turn : List ℕ → ℕ → Active → Type 0
Turn queue last vacant = AllBelow (suc last) queue
Turn queue last (working n) = (n ≡ last) × (0 < n) × AllBelow n queue
Turn queue last (asking n b d) = (n ≡ last) × (0 < n) × AllBelow n queue
Turn queue last (looking n b) = (n ≡ last) × (0 < n) × AllBelow n queue
Turn queue last (spoiled n) = (n ≡ last) × (0 < n) × AllBelow n queue

-- what is held was let through by the checks
abbrev pub Admitted : Active → Journal → Type 0
Admitted vacant w = Unit {0}
Admitted (working n) w = Unit {0}
Admitted (asking n b d) w = (b < length w.bases) × (holds b n w.entries ≡ false) × (held n w.entries < batch_limit) × (w.noted ≡ record { bin = b; batch = n; amount = d })
Admitted (looking n b) w = b < length w.bases
Admitted (spoiled n) w = Unit {0}

-- each entry is in a bin that is there
abbrev pub Within : ℕ → List Entry → Type 0
Within m [] = Unit {0}
Within m (r ∷ rs) = (r.bin < m) × Within m rs

pub record Link (s : Listed) (w : Journal) : Type 0 where
  pub entries : w.entries ≡ s.grants
  pub size : length s.bins ≡ length w.bases
  pub figs : (b : ℕ) → b < length w.bases → Figured b (bin_at s.bins b) (base_at w.bases b) w.entries
  pub apart : Apart w.entries
  pub owned : Owned w.entries s.queue s.active
  pub turn : Turn s.queue s.last s.active
  pub early : s.last ≡ 0 → w.entries ≡ []
  pub clear : s.last ≡ 0 → s.queue ≡ []
  pub within : Within (length w.bases) w.entries
  pub wide : (b : ℕ) → b < length w.bases → (over s.house.limit (base_at w.bases b).floor ≡ false) × (over s.house.limit (base_at w.bases b).ceiling ≡ false)
  pub admitted : Admitted s.active w

-- ---- checks

abbrev pub Passed : List (Bool × ℕ) → Type 0
Passed [] = Unit {0}
Passed (x ∷ xs) = (x.0 ≡ false) × Passed xs

pub passed : (xs : List (Bool × ℕ)) → first xs ≡ None → Passed xs
passed [] e = tt
passed (x ∷ xs) e = go x.0 e (λ h. passed xs h)
  where
    go : (t : Bool) → cond t (Some x.1) (first xs) ≡ None → (first xs ≡ None → Passed xs) → (t ≡ false) × Passed xs
    go true e k = no_way cc
    go false e k = (refl, k e)

-- the token is the active batch's
pub open_token_lem : (s : Listed) (p : Token) → strange s opened p ≡ false → s.active ≡ working p.batch
open_token_lem s p e =
    let yes₁ = not-false _ e in
    let yes₂ = (and_parts (eqb p.house s.house.number) _ yes₁).1 in
    let yes₃ = (and_parts (same_stage p.stage opened) _ yes₂).1 in
    go s.active yes₃
  where
    go : (t : Active) → active_at p.batch opened t ≡ true → t ≡ working p.batch
    go vacant e = no_way cc
    go (working k) e = ap working (eqb-true k p.batch e)
    go (asking k b d) e = no_way cc
    go (looking k b) e = no_way cc
    go (spoiled k) e = no_way cc

-- the batch stands at the front of the queue
pub front : (n : ℕ) (queue : List ℕ) → (in_queue n queue && not (oldest n queue)) ≡ false → not (in_queue n queue) ≡ false → queue ≡ (n ∷ tail queue)
front n [] e f = no_way cc
front n (k ∷ ks) e f = go (eqb k n) (in_queue n ks) refl e f
  where
    go : (t q : Bool) → eqb k n ≡ t → ((t || q) && not t) ≡ false → not (t || q) ≡ false → (k ∷ ks) ≡ (n ∷ ks)
    go true q g e f = ap {B = List ℕ} (λ m. m ∷ ks) (eqb-true k n g)
    go false true g e f = no_way cc
    go false false g e f = no_way cc

-- ---- the figures

pub fig_new : (b : ℕ) (floor ceiling st : ℤ) → floor ≤ℤ st → st ≤ℤ ceiling
    → Figured b (fresh floor ceiling st) (record { floor = floor; ceiling = ceiling; base = st }) []
fig_new b floor ceiling st p q =
    record { floor = refl; ceiling = refl; lowest = sym (+ℤ_idr st); expected = sym (+ℤ_idr st); highest = sym (+ℤ_idr st); above = p; below = q }

low-high : (d : ℤ) → low d +ℤ high d ≡ d
low-high d = go (lt_z d (pos 0))
  where
    go : (t : Bool) → cond t d (pos 0) +ℤ cond t (pos 0) d ≡ d
    go true = +ℤ_idr d
    go false = +ℤ_idl d

high-low : (d : ℤ) → high d +ℤ low d ≡ d
high-low d = go (lt_z d (pos 0))
  where
    go : (t : Bool) → cond t (pos 0) d +ℤ cond t d (pos 0) ≡ d
    go true = +ℤ_idl d
    go false = +ℤ_idr d

low_neg : (d : ℤ) → low d ≤ℤ pos 0
low_neg d = go (lt_z d (pos 0)) refl
  where
    go : (t : Bool) → lt_z d (pos 0) ≡ t → cond t d (pos 0) ≤ℤ pos 0
    go true e = omega (arith, ints)
    go false e = omega (arith, ints)

high_pos : (d : ℤ) → pos 0 ≤ℤ high d
high_pos d = go (lt_z d (pos 0)) refl
  where
    go : (t : Bool) → lt_z d (pos 0) ≡ t → pos 0 ≤ℤ cond t (pos 0) d
    go true e = omega (arith, ints)
    go false e = omega (arith, ints)

only_zero : (t : Bool) → only t (pos 0) ≡ pos 0
only_zero true = refl
only_zero false = refl

-- a grant moves neither end past what was checked
low_stays : (m i d : ℤ) → m ≤ℤ i → m ≤ℤ (i +ℤ d) → m ≤ℤ (i +ℤ low d)
low_stays m i d p q = go (lt_z d (pos 0))
  where
    go : (t : Bool) → m ≤ℤ (i +ℤ cond t d (pos 0))
    go true = q
    go false = omega (arith, ints)

high_stays : (m i d : ℤ) → i ≤ℤ m → (i +ℤ d) ≤ℤ m → (i +ℤ high d) ≤ℤ m
high_stays m i d p q = go (lt_z d (pos 0))
  where
    go : (t : Bool) → (i +ℤ cond t (pos 0) d) ≤ℤ m
    go true = omega (arith, ints)
    go false = q

-- the arithmetic of a settling, over plain integers
pub nothing : (y x z : ℤ) → y ≡ x +ℤ z → z ≡ pos 0 → y ≡ x
nothing y x z e q = omega (arith, ints)

keep_end : (y x b c w o h k l : ℤ) → y ≡ x +ℤ h → x ≡ b +ℤ l → c ≡ b +ℤ w → o +ℤ h ≡ w → k +ℤ o ≡ l → y ≡ c +ℤ k
keep_end y x b c w o h k l e₁ e₂ e₃ e₄ e₅ = omega (arith, ints)

undo_end : (y x b m o z k l : ℤ) → y ≡ x +ℤ m → x ≡ b +ℤ l → o +ℤ m ≡ z → z ≡ pos 0 → k +ℤ o ≡ l → y ≡ b +ℤ k
undo_end y x b m o z k l e₁ e₂ e₃ e₄ e₅ = omega (arith, ints)

rises : (m x y o : ℤ) → m ≤ℤ x → y ≡ x +ℤ o → pos 0 ≤ℤ o → m ≤ℤ y
rises m x y o h e p = omega (arith, ints)

falls : (m x y o : ℤ) → x ≤ℤ m → y ≡ x +ℤ o → o ≤ℤ pos 0 → y ≤ℤ m
falls m x y o h e p = omega (arith, ints)

opposite : (o m z : ℤ) → o +ℤ m ≡ z → z ≡ pos 0 → pos 0 ≤ℤ m → o ≤ℤ pos 0
opposite o m z e q h = omega (arith, ints)

opposite' : (o m z : ℤ) → o +ℤ m ≡ z → z ≡ pos 0 → pos 0 ≤ℤ o → m ≤ℤ pos 0
opposite' o m z e q h = omega (arith, ints)

neg_low : (d : ℤ) → pos 0 ≤ℤ neg_ℤ (low d)
neg_low d = let q = low_neg d in omega (arith, ints)

-- a keep moves no floor and no ceiling, and adds the batch's entries to the base
pub floor_kept : (n : ℕ) (rs : List Entry) (ls : List Base) (b : ℕ) → b < length ls → (base_at (add_bases n rs ls) b).floor ≡ (base_at ls b).floor
floor_kept n rs ls b h = nothing _ _ _ (each_at add_base no_base (λ y. y.floor) (λ d. pos 0) (λ y d. sym (+ℤ_idr y.floor)) n rs ls b h) (of_zero b n rs)

pub ceiling_kept : (n : ℕ) (rs : List Entry) (ls : List Base) (b : ℕ) → b < length ls → (base_at (add_bases n rs ls) b).ceiling ≡ (base_at ls b).ceiling
ceiling_kept n rs ls b h = nothing _ _ _ (each_at add_base no_base (λ y. y.ceiling) (λ d. pos 0) (λ y d. sym (+ℤ_idr y.ceiling)) n rs ls b h) (of_zero b n rs)

pub base_kept : (n : ℕ) (rs : List Entry) (ls : List Base) (b : ℕ) → b < length ls → (base_at (add_bases n rs ls) b).base ≡ (base_at ls b).base +ℤ total (of_batch b n whole) rs
base_kept n rs ls b h = each_at add_base no_base (λ y. y.base) whole (λ y d. refl) n rs ls b h

module _ (xs : List Figures) (ls : List Base) (rs : List Entry) (same : length xs ≡ length ls)
    (figs : (b : ℕ) → b < length ls → Figured b (bin_at xs b) (base_at ls b) rs) where
  -- a grant d of batch n in bin b, whose two ends stay inside
  pub figs_grant : (n b : ℕ) (d : ℤ) → (base_at ls b).floor ≤ℤ ((bin_at xs b).inf +ℤ d) → ((bin_at xs b).sup +ℤ d) ≤ℤ (base_at ls b).ceiling
      → (j : ℕ) → j < length ls → Figured j (bin_at (touch with_grant no_bin b d xs) j) (base_at ls j) (record { bin = b; batch = n; amount = d } ∷ rs)
  figs_grant n b d lo hi j h =
      let f = figs j h in
      let k : j < length xs = omega arith in
      let e₁ = touch-at with_grant no_bin (λ x. x.floor) (λ d. pos 0) (λ x d. sym (+ℤ_idr x.floor)) b d xs j k in
      let e₂ = touch-at with_grant no_bin (λ x. x.ceiling) (λ d. pos 0) (λ x d. sym (+ℤ_idr x.ceiling)) b d xs j k in
      let e₃ = touch-at with_grant no_bin (λ x. x.inf) low (λ x d. refl) b d xs j k in
      let e₄ = touch-at with_grant no_bin (λ x. x.val) whole (λ x d. refl) b d xs j k in
      let e₅ = touch-at with_grant no_bin (λ x. x.sup) high (λ x d. refl) b d xs j k in
      record {
        floor = e₁ ∙ ap (λ z. (bin_at xs j).floor +ℤ z) (only_zero (eqb b j)) ∙ +ℤ_idr (bin_at xs j).floor ∙ f.floor;
        ceiling = e₂ ∙ ap (λ z. (bin_at xs j).ceiling +ℤ z) (only_zero (eqb b j)) ∙ +ℤ_idr (bin_at xs j).ceiling ∙ f.ceiling;
        lowest = let g = f.lowest in omega (arith, ints);
        expected = let g = f.expected in omega (arith, ints);
        highest = let g = f.highest in omega (arith, ints);
        above = subst (λ z. (base_at ls j).floor ≤ℤ z) (sym e₃) (up (eqb b j) refl);
        below = subst (λ z. z ≤ℤ (base_at ls j).ceiling) (sym e₅) (down (eqb b j) refl);
      }
    where
      up : (t : Bool) → eqb b j ≡ t → (base_at ls j).floor ≤ℤ ((bin_at xs j).inf +ℤ only t (low d))
      up true e =
          low_stays (base_at ls j).floor (bin_at xs j).inf d (figs j h).above
          (subst (λ (i : ℕ). (base_at ls i).floor ≤ℤ ((bin_at xs i).inf +ℤ d)) (eqb-true b j e) lo)
      up false e = let g = (figs j h).above in omega (arith, ints)

      down : (t : Bool) → eqb b j ≡ t → ((bin_at xs j).sup +ℤ only t (high d)) ≤ℤ (base_at ls j).ceiling
      down true e =
          high_stays (base_at ls j).ceiling (bin_at xs j).sup d (figs j h).below
          (subst (λ (i : ℕ). ((bin_at xs i).sup +ℤ d) ≤ℤ (base_at ls i).ceiling) (eqb-true b j e) hi)
      down false e = let g = (figs j h).below in omega (arith, ints)

  -- all grants of batch n are kept
  pub figs_kept : (n j : ℕ) → j < length ls
      → Figured j (bin_at (each_of with_kept no_bin n rs xs) j) (base_at (add_bases n rs ls) j) (wipe n rs)
  figs_kept n j h =
      let f = figs j h in
      let k : j < length xs = omega arith in
      let z = of_zero j n rs in
      let e₁ = each_at with_kept no_bin (λ x. x.floor) (λ d. pos 0) (λ x d. sym (+ℤ_idr x.floor)) n rs xs j k in
      let e₂ = each_at with_kept no_bin (λ x. x.ceiling) (λ d. pos 0) (λ x d. sym (+ℤ_idr x.ceiling)) n rs xs j k in
      let e₃ = each_at with_kept no_bin (λ x. x.inf) high (λ x d. refl) n rs xs j k in
      let e₄ = each_at with_kept no_bin (λ x. x.val) (λ d. pos 0) (λ x d. sym (+ℤ_idr x.val)) n rs xs j k in
      let e₅ = each_at with_kept no_bin (λ x. x.sup) low (λ x d. refl) n rs xs j k in
      let l₃ = base_kept n rs ls j h in
      let up = of_pos j n high high_pos rs in
      let dn = of_add j n low (λ d. neg_ℤ (low d)) (λ d. pos 0) (λ d. +ℤ_invr (low d)) rs in
      let neg = of_pos j n (λ d. neg_ℤ (low d)) neg_low rs in
      let floor-is = floor_kept n rs ls j h in
      let ceiling-is = ceiling_kept n rs ls j h in
      record {
        floor = nothing _ _ _ e₁ z ∙ f.floor ∙ sym floor-is;
        ceiling = nothing _ _ _ e₂ z ∙ f.ceiling ∙ sym ceiling-is;
        lowest = keep_end _ _ _ _ _ _ _ _ _ e₃ f.lowest l₃ (of_add j n low high whole low-high rs) (of_split j n low rs);
        expected = keep_end _ _ _ _ _ _ _ _ _ e₄ f.expected l₃ (of_add j n whole (λ d. pos 0) whole +ℤ_idr rs) (of_split j n whole rs);
        highest = keep_end _ _ _ _ _ _ _ _ _ e₅ f.highest l₃ (of_add j n high low whole high-low rs) (of_split j n high rs);
        above = subst (λ m. m ≤ℤ (bin_at (each_of with_kept no_bin n rs xs) j).inf) (sym floor-is) (rises _ _ _ _ f.above e₃ up);
        below = subst (λ m. (bin_at (each_of with_kept no_bin n rs xs) j).sup ≤ℤ m) (sym ceiling-is) (falls _ _ _ _ f.below e₅ (opposite _ _ _ dn z neg));
      }

  -- all grants of batch n are undone
  pub figs_undone : (n j : ℕ) → j < length ls
      → Figured j (bin_at (each_of with_undone no_bin n rs xs) j) (base_at ls j) (wipe n rs)
  figs_undone n j h =
      let f = figs j h in
      let k : j < length xs = omega arith in
      let z = of_zero j n rs in
      let e₁ = each_at with_undone no_bin (λ x. x.floor) (λ d. pos 0) (λ x d. sym (+ℤ_idr x.floor)) n rs xs j k in
      let e₂ = each_at with_undone no_bin (λ x. x.ceiling) (λ d. pos 0) (λ x d. sym (+ℤ_idr x.ceiling)) n rs xs j k in
      let e₃ = each_at with_undone no_bin (λ x. x.inf) (λ d. neg_ℤ (low d)) (λ x d. refl) n rs xs j k in
      let e₄ = each_at with_undone no_bin (λ x. x.val) (λ d. neg_ℤ d) (λ x d. refl) n rs xs j k in
      let e₅ = each_at with_undone no_bin (λ x. x.sup) (λ d. neg_ℤ (high d)) (λ x d. refl) n rs xs j k in
      let m₁ = of_add j n low (λ d. neg_ℤ (low d)) (λ d. pos 0) (λ d. +ℤ_invr (low d)) rs in
      let m₂ = of_add j n whole (λ d. neg_ℤ d) (λ d. pos 0) (λ d. +ℤ_invr d) rs in
      let m₃ = of_add j n high (λ d. neg_ℤ (high d)) (λ d. pos 0) (λ d. +ℤ_invr (high d)) rs in
      let up = of_pos j n high high_pos rs in
      let neg = of_pos j n (λ d. neg_ℤ (low d)) neg_low rs in
      record {
        floor = nothing _ _ _ e₁ z ∙ f.floor;
        ceiling = nothing _ _ _ e₂ z ∙ f.ceiling;
        lowest = undo_end _ _ _ _ _ _ _ _ e₃ f.lowest m₁ z (of_split j n low rs);
        expected = undo_end _ _ _ _ _ _ _ _ e₄ f.expected m₂ z (of_split j n whole rs);
        highest = undo_end _ _ _ _ _ _ _ _ e₅ f.highest m₃ z (of_split j n high rs);
        above = rises _ _ _ _ f.above e₃ neg;
        below = falls _ _ _ _ f.below e₅ (opposite' _ _ _ m₃ z up);
      }

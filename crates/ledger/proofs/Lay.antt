-- Laying and reporting are what the reference ledger does.
use Rattle.std.proofs.Common.{◌≡◌, ℕ, zero, suc, Bool, true, false, cond, not, ◌||◌, ltb, leb, List, [], ◌∷◌, ◌++◌, length, ℤ, Some, None, Ok, Err, Option, Result, sym, refl, ap, ◌∙◌, subst, arith}
use Rattle.std.specs.Option.{ok_or}
use Rattle.refusal.specs.declared.Refusal.{Refusal}
use Rattle.refusal.specs.declared.Refusal.TheVariants.{UnfitShelf, BadFigures, OverLimit, Trading, BinsFull, NoSuchBin}
use Rattle.shelf.specs.declared.records.Bin.{Bin}
use Rattle.shelf.specs.Bins.{figures_in}
use Rattle.shelf.specs.Contents.{Figures, nth, bin_of, fresh, with_bins, can_add, after_add}
use Rattle.model.specs.Ledger.{State, Call, Answer, lay, report, refused, shown, bin_at, fit_capacities, fit_shelf, most_bins, opens, with_shelf, act, serve, first, step}
use Rattle.model.specs.Runs.{Reached}
use Rattle.ledger.specs.Answers.{laid_by, shown_by}
use Rattle.ledger.specs.Owed.{Owed}
use Rattle.ledger.specs.Working.{bad_figures, over_limit, bins_full, lay_fit, lay_of}
use Rattle.model.proofs.Runs.{Fixed, fixed, fixed-after, reached_on}

never : {A : Type 0} → true ≡ false → A
never e = absurd (let z : ◌≡◌ {A = ℕ} 0 1 = cc in omega arith)

-- a fit ledger that calls have led somewhere has few bin places
pub few_bins : (m : State) (cs : List Call) → Reached m cs → m.fit ≡ true → leb m.shelf.bin_capacity most_bins ≡ true
unfolding fit_shelf fit_capacities
few_bins m cs r f =
    let s = r.0 in
    let same : fixed m ≡ fixed (opens m.house m.limit s) = ap fixed r.1.1 ∙ fixed-after cs (opens m.house m.limit s) in
    let cap : m.shelf.bin_capacity ≡ s.bin_capacity = ap (λ (t : Fixed). t.bin_capacity) same in
    let fits : fit_shelf s ≡ true = sym (ap (λ (t : Fixed). t.fit) same) ∙ f in
    ap (λ (n : ℕ). leb n most_bins) cap ∙ grind arith

-- ---- what is owed, by the equation with the reference ledger

pub owed : (m m' : State) (c : Call) (a : Answer) → ((cs : List Call) → Reached m cs → (a, m') ≡ step m c)
    → (m.fit ≡ false → a ≡ refused 1) → ((r : ℕ) → a ≡ refused r → m' ≡ m) → Owed m c a m'
owed m m' c a e u k =
    record {
      model = λ cs r. (e cs r, subst (λ (x : State). Reached x (cs ++ c ∷ [])) (sym (ap (λ (y : Answer × State). y.1) (e cs r))) (reached_on m cs c r));
      unfit = u;
      unmoved = k;
    }

-- ---- lay

-- the answer and the state of a working call
abbrev pub answered : Result ℕ Refusal × State → Answer × State
answered x = (laid_by x.0, x.1)

module _ (s : State) (low high start : ℤ) where
  abbrev added : Bool → State
  added w = with_shelf s (cond w (with_bins s.shelf (s.shelf.bins ++ fresh low high start ∷ [])) s.shelf)

  by_tests : (f b o t u v w : Bool) → (f ≡ true → u ≡ false → v ≡ false) → (u ≡ false → w ≡ true)
      → answered (cond f (cond b (Err BadFigures, s) (cond o (Err OverLimit, s) (cond t (Err Trading, s) (cond (u || v) (Err BinsFull, s) (Ok (length s.shelf.bins), added w))))) (Err UnfitShelf, s))
      ≡ serve s (lay low high start) (first ((not f, 1) ∷ (b, 2) ∷ (o, 3) ∷ (t, 4) ∷ (u, 5) ∷ []))
  unfolding act
  by_tests false b o t u v w h k = refl
  by_tests true true o t u v w h k = refl
  by_tests true false true t u v w h k = refl
  by_tests true false false true u v w h k = refl
  by_tests true false false false true v w h k = refl
  by_tests true false false false false true w h k = never (h refl refl)
  by_tests true false false false false false false h k = never (sym (k refl))
  by_tests true false false false false false true h k = refl

  pub lay_is : (s.fit ≡ true → leb s.shelf.bin_capacity most_bins ≡ true) → answered (lay_of s low high start) ≡ step s (lay low high start)
  unfolding step bad_figures over_limit after_add can_add
  lay_is h =
      by_tests s.fit (bad_figures low high start) (over_limit s.limit low || over_limit s.limit high || over_limit s.limit start) (ltb 0 s.last)
      (leb s.shelf.bin_capacity (length s.shelf.bins)) (leb most_bins (length s.shelf.bins)) (ltb (length s.shelf.bins) s.shelf.bin_capacity)
      (λ f u. let few = h f in grind arith) (λ u. grind arith)

  unfit_by : (f : Bool) (x : Result ℕ Refusal × State) → f ≡ false → laid_by (cond f x (Err UnfitShelf, s)).0 ≡ refused 1
  unfit_by false x e = refl
  unfit_by true x e = never e

  abbrev Unmoved : Result ℕ Refusal × State → Type 0
  Unmoved x = (r : ℕ) → laid_by x.0 ≡ refused r → x.1 ≡ s

  either : (t : Bool) (x y : Result ℕ Refusal × State) → Unmoved x → Unmoved y → Unmoved (cond t x y)
  either true x y p q = p
  either false x y p q = q

  lay_unmoved : Unmoved (lay_of s low high start)
  lay_unmoved =
      either s.fit _ _
      (either (bad_figures low high start) _ _ (λ r e. refl)
      (either (over_limit s.limit low || over_limit s.limit high || over_limit s.limit start) _ _ (λ r e. refl)
      (either (ltb 0 s.last) _ _ (λ r e. refl)
      (either (bins_full s.shelf) _ _ (λ r e. refl) (λ r e. absurd (let z : ◌≡◌ {A = ℕ} 0 1 = cc in omega arith))))))
      (λ r e. refl)

  pub lay_owed : (s' : State) (r : Result ℕ Refusal) → (r, s') ≡ lay_of s low high start → Owed s (lay low high start) (laid_by r) s'
  lay_owed s' r e =
      owed s s' (lay low high start) (laid_by r)
      (λ cs h. ap answered e ∙ lay_is (few_bins s cs h))
      (λ f. ap (λ (x : Result ℕ Refusal × State). laid_by x.0) e ∙ unfit_by s.fit (lay_fit s low high start) f)
      (λ n q. ap (λ (x : Result ℕ Refusal × State). x.1) e ∙ lay_unmoved n (sym (ap (λ (x : Result ℕ Refusal × State). laid_by x.0) e) ∙ q))

-- ---- report

-- what a report of a bin answers, where there is one or not
abbrev pub reported : Option Figures → Answer
reported None = refused 10
reported (Some x) = shown x

-- a report's result, made of the bin that the shelf gave
pub shown_by_lem : {K : Type 0} (f : K → ℤ) (o : Option (Bin K)) → shown_by f (ok_or o NoSuchBin) ≡ reported (figures_in f o)
shown_by_lem f None = refl
shown_by_lem f (Some b) = refl

read_at : (xs : List Figures) (b : ℕ) (x : Figures) → Some x ≡ nth xs b → x ≡ bin_at xs b
read_at [] b x e = absurd (let z : ◌≡◌ {A = ℕ} 0 1 = cc in omega arith)
read_at (y ∷ ys) zero x e = cc
read_at (y ∷ ys) (suc b) x e = read_at ys b x e

some_at : (xs : List Figures) (b : ℕ) (x : Figures) → Some x ≡ nth xs b → leb (length xs) b ≡ false
some_at [] b x e = absurd (let z : ◌≡◌ {A = ℕ} 0 1 = cc in omega arith)
some_at (y ∷ ys) zero x e = grind arith
some_at (y ∷ ys) (suc b) x e = let h = some_at ys b x e in grind arith

none_at : (xs : List Figures) (b : ℕ) → None ≡ nth xs b → leb (length xs) b ≡ true
none_at [] b e = grind arith
none_at (y ∷ ys) zero e = absurd (let z : ◌≡◌ {A = ℕ} 0 1 = cc in omega arith)
none_at (y ∷ ys) (suc b) e = let h = none_at ys b e in grind arith

module _ (s : State) (b : ℕ) where
  by_bin : (o : Option Figures) (f t : Bool) → f ≡ true → o ≡ nth s.shelf.bins b → t ≡ leb (length s.shelf.bins) b
      → (reported o, s) ≡ serve s (report b) (first ((not f, 1) ∷ (t, 10) ∷ []))
  unfolding act
  by_bin o false t f e h = never (sym f)
  by_bin None true true f e h = refl
  by_bin None true false f e h = never (sym (h ∙ none_at s.shelf.bins b e))
  by_bin (Some x) true true f e h = never (h ∙ some_at s.shelf.bins b x e)
  by_bin (Some x) true false f e h = ap (λ (y : Figures). (shown y, s)) (read_at s.shelf.bins b x e)

  report_is : (o : Option Figures) → s.fit ≡ true → o ≡ bin_of s.shelf b → (reported o, s) ≡ step s (report b)
  unfolding step bin_of
  report_is o f e = by_bin o s.fit (leb (length s.shelf.bins) b) f e refl

  by_fit : (f : Bool) (o : Option ℕ) → f ≡ false → (refused 1, s) ≡ serve s (report b) (cond (not f) (Some 1) o)
  by_fit false o e = refl
  by_fit true o e = never e

  report_unfit : s.fit ≡ false → (refused 1, s) ≡ step s (report b)
  unfolding step
  report_unfit f = by_fit s.fit (first ((leb (length s.shelf.bins) b, 10) ∷ [])) f

  pub report_owed : (o : Option Figures) (a : Answer) → s.fit ≡ true → o ≡ bin_of s.shelf b → a ≡ reported o → Owed s (report b) a s
  report_owed o a f e h =
      owed s s (report b) a (λ cs r. ap (λ (x : Answer). (x, s)) h ∙ report_is o f e) (λ u. never (sym f ∙ u)) (λ n q. refl)

  pub report_refused : s.fit ≡ false → Owed s (report b) (refused 1) s
  report_refused f = owed s s (report b) (refused 1) (λ cs r. report_unfit f) (λ u. refl) (λ n q. refl)

-- Where a written number ends.
use Rattle.std.proofs.Common.{◌≡◌, ℕ, suc, ◌+◌, ◌-◌, ◌*◌, ◌/◌, ◌%◌, ◌^◌, ◌<◌, ◌≤◌, Bool, true, false, ◌⊎◌, List, [], ◌∷◌, ◌++◌, length, get_or, drop, ℤ, pos, negsuc, decimal, sym, refl, ap, ◌∙◌, subst, ⊎_elim, append_assoc, arith, length-append, drop-drop}
use Rattle.std.proofs.Math.Numerals.{one-add}
use Rattle.std.specs.Fmt.{signed_decimal}
use Rattle.std.proofs.lemmas.Fmt.{decimal_by_steps, decimal_step, decimal_nonempty, decimal_injective}
use Rattle.std.proofs.lemmas.List.{same_from_push, drop_more}
use Rattle.forms.specs.Patterns.{Suits}
use Rattle.forms.specs.Numbers.{first, Goes, GoesOn, Took, Counted}

-- one of two ends of a list is a front of the other
pub data Cut (a u b u' : List ℕ) : Type 0 where
  longer : (e : ℕ) (more : List ℕ) → b ≡ a ++ (e ∷ more) → u ≡ e ∷ (more ++ u') → Cut a u b u'
  same : a ≡ b → u ≡ u' → Cut a u b u'
  shorter : (e : ℕ) (more : List ℕ) → a ≡ b ++ (e ∷ more) → u' ≡ e ∷ (more ++ u) → Cut a u b u'

cut_more : (x y : ℕ) (a u b u' : List ℕ) → x ≡ y → Cut a u b u' → Cut (x ∷ a) u (y ∷ b) u'
cut_more x y a u b u' p (longer e more h k) = longer e more (cc) k
cut_more x y a u b u' p (same h k) = same (cc) k
cut_more x y a u b u' p (shorter e more h k) = shorter e more (cc) k

pub cut : (a u b u' : List ℕ) → a ++ u ≡ b ++ u' → Cut a u b u'
cut [] u [] u' h = same refl h
cut [] u (y ∷ b) u' h = longer y b refl h
cut (x ∷ a) u [] u' h = shorter x a refl (sym h)
cut (x ∷ a) u (y ∷ b) u' h = cut_more x y a u b u' (cc) (cut a u b u' (cc))

-- the last of a list that is not empty
pub data Last : List ℕ → Type 0 where
  none : Last []
  push : (xs : List ℕ) (x : ℕ) → Last (xs ++ (x ∷ []))

last_more : (x : ℕ) (xs : List ℕ) → Last xs → Last (x ∷ xs)
last_more x xs none = push [] x
last_more x xs (push ys y) = push (x ∷ ys) y

pub last : (xs : List ℕ) → Last xs
last [] = none
last (x ∷ xs) = last_more x xs (last xs)

-- digits that go on the digits of v
abbrev After : ℕ → List ℕ → Type 0
After n ds = (v e : ℕ) (more : List ℕ) → v < 2 ^ 64 → ds ≡ decimal v ++ (e ∷ more) → Goes n v e

after_one : (n : ℕ) → n < 10 → After n ((48 + n) ∷ [])
after_one n h v e more small eq = absurd (omega (arith, ap length eq, length-append (decimal v) (e ∷ more), decimal_nonempty v small))

after_more : (n : ℕ) → n < 2 ^ 64 → (ds : List ℕ) → 10 ≤ n → ds ≡ decimal (n / 10) → After (n / 10) ds → After n (ds ++ ((48 + n % 10) ∷ []))
after_more n big ds h is a v e more small eq = go (last more) eq
  where
    go : {more : List ℕ} → Last more → ds ++ ((48 + n % 10) ∷ []) ≡ decimal v ++ (e ∷ more) → Goes n v e
    go none eq =
        let p = same_from_push ds (decimal v) (48 + n % 10) e eq in
        let q : n / 10 ≡ v = decimal_injective (n / 10) v (omega arith) small (sym is ∙ p.0) in
        (omega (arith, p.1), omega (arith, p.1), omega (arith, q), omega (arith, p.1, q))
    go (push xs x) eq =
        let p = same_from_push ds (decimal v ++ (e ∷ xs)) (48 + n % 10) x (eq ∙ sym (append_assoc (decimal v) (e ∷ xs) (x ∷ []))) in
        let g = a v e xs small p.0 in
        (g.0, g.1, g.2, omega (arith, g.3))

pub digits_after : (n : ℕ) → n < 2 ^ 64 → After n (decimal n)
digits_after n h = decimal_by_steps (λ n ds. n < 2 ^ 64 → ds ≡ decimal n → After n ds) (λ n l big is. after_one n l)
    (λ n ds l ih big is.
    let same-front : ds ≡ decimal (n / 10) = (same_from_push ds (decimal (n / 10)) _ _ (is ∙ decimal_step n l big)).0 in
    after_more n big ds l same-front (ih (omega arith) same-front))
    n h h refl

-- a number begins with a digit, and a longer one not with 0
pub first-digit : (n : ℕ) → n < 2 ^ 64 → (48 ≤ first (decimal n)) × (first (decimal n) < 58)
first-digit n h = decimal_by_steps (λ n ds. (48 ≤ first ds) × (first ds < 58)) (λ n l. (omega arith, omega arith)) (λ n ds l ih. front ds (48 + n % 10) ih) n h
  where
    front : (ds : List ℕ) (d : ℕ) → (48 ≤ first ds) × (first ds < 58) → (48 ≤ first (ds ++ (d ∷ []))) × (first (ds ++ (d ∷ [])) < 58)
    front [] d h = absurd (omega arith)
    front (x ∷ ds) d h = h

-- no digits begin with a minus
pub clash : (n : ℕ) (u u' : List ℕ) → n < 2 ^ 64 → decimal n ++ u ≡ 45 ∷ u' → ⊥
clash n u u' h eq = go (decimal n) (first-digit n h) eq
  where
    go : (ds : List ℕ) → (48 ≤ first ds) × (first ds < 58) → ds ++ u ≡ 45 ∷ u' → ⊥
    go [] l eq = omega arith
    go (d ∷ ds) l eq = let e : d ≡ 45 = cc in omega arith

-- neither number goes on: they are the same
pub munch : (limit v w : ℕ) (u u' : List ℕ) → limit < 2 ^ 64 → v ≤ limit → w ≤ limit → (Goes limit v (first u) → ⊥) → (first u' < 48) ⊎ (58 ≤ first u')
    → decimal v ++ u ≡ decimal w ++ u' → (v ≡ w) × (u ≡ u')
munch limit v w u u' small hv hw stops breaks eq = go (cut (decimal v) u (decimal w) u' eq)
  where
    go : Cut (decimal v) u (decimal w) u' → (v ≡ w) × (u ≡ u')
    go (same p q) = (decimal_injective v w (omega arith) (omega arith) p, q)
    go (longer e more p q) =
        let g = digits_after w (omega arith) v e more (omega arith) p in
        let f : first u ≡ e = ap first q in
        absurd (stops (omega arith, omega arith, g.2, omega (arith, g.3)))
    go (shorter e more p q) =
        let g = digits_after v (omega arith) w e more (omega arith) p in
        let f : first u' ≡ e = ap first q in
        absurd (⊎_elim (λ l. omega (arith, g.0)) (λ l. omega (arith, g.1)) breaks)

pub munch_signed : (limit : ℕ) (minus : Bool) (z y : ℤ) (u u' : List ℕ) → limit < 2 ^ 64 → Suits limit minus z → Suits limit minus y → (GoesOn limit z (first u) → ⊥) → (first u' < 48) ⊎ (58 ≤ first u')
    → signed_decimal z ++ u ≡ signed_decimal y ++ u' → (z ≡ y) × (u ≡ u')
munch_signed limit minus (pos n) (pos m) u u' small hz hy stops breaks eq =
    let p = munch limit n m u u' small hz hy stops breaks eq in (ap pos p.0, p.1)
munch_signed limit minus (pos n) (negsuc m) u u' small hz hy stops breaks eq = absurd (clash n _ _ (omega arith) eq)
munch_signed limit minus (negsuc n) (pos m) u u' small hz hy stops breaks eq = absurd (clash m _ _ (omega arith) (sym eq))
munch_signed limit true (negsuc n) (negsuc m) u u' small hz hy stops breaks eq =
    let p = munch limit (suc n) (suc m) u u' small hz hy stops breaks (cc) in
    let q : n ≡ m = omega (arith, p.0) in
    (ap negsuc q, p.1)
munch_signed limit false (negsuc n) (negsuc m) u u' small hz hy stops breaks eq = absurd hz

-- one digit more
pub decimal_push : (v d : ℕ) → 0 < v → d < 10 → 10 * v + d < 2 ^ 64 → decimal (10 * v + d) ≡ decimal v ++ ((48 + d) ∷ [])
decimal_push v d h k small =
    let q : (10 * v + d) / 10 ≡ v = omega arith in
    let r : (10 * v + d) % 10 ≡ d = omega arith in
    decimal_step (10 * v + d) (omega arith) small ∙ (λ i. decimal (q i) ++ ((48 + r i) ∷ []))

-- the same, where the digit stands at i
pub digits_more : (s xs : List ℕ) (v i : ℕ) → 0 < v → i < length xs → 48 ≤ get_or xs i 0 → get_or xs i 0 < 58 → 10 * v + (get_or xs i 0 - 48) < 2 ^ 64
    → s ≡ decimal v ++ drop i xs → s ≡ decimal (10 * v + (get_or xs i 0 - 48)) ++ drop (i + 1) xs
digits_more s xs v i pv l lo hi small h =
    let b : 48 + (get_or xs i 0 - 48) ≡ get_or xs i 0 = omega arith in
    let e = decimal_push v (get_or xs i 0 - 48) pv (omega arith) small in
    let t = append_assoc (decimal v) (get_or xs i 0 ∷ []) (drop (i + 1) xs) in
    h ∙ ap (λ x. decimal v ++ x) (drop_more xs i 0 l) ∙ sym t ∙ ap (λ x. x ++ drop (i + 1) xs) (ap (λ x. decimal v ++ (x ∷ [])) (sym b) ∙ sym e)

-- the digits that begin with d, where d stands at `at`
pub counted_at : (limit least d n len at : ℕ) (xs rest : List ℕ) → least ≤ d → drop at xs ≡ d ∷ rest → Counted limit d (d ∷ rest) n (drop len rest)
    → Counted limit least (drop at xs) n (drop (at + (1 + len)) xs)
counted_at limit least d n len at xs rest l here k =
    let left : drop (at + (1 + len)) xs ≡ drop len rest = sym (drop-drop (1 + len) at xs) ∙ rw (here, one-add) in
    rw (left, here) (record { fits = k.fits; front = k.front; stops = k.stops; leads = λ h. k.leads (omega arith); least_first = l; digit_first = k.digit_first })

pub took_minus : (limit n : ℕ) (s t s' : List ℕ) → 0 < n → n ≤ limit → s ≡ 45 ∷ t → t ≡ decimal n ++ s' → (Goes limit n (first s') → ⊥) → Took limit true s (negsuc (n - 1)) s'
took_minus limit n s t s' h l e f stops =
    let p : n ≡ suc (n - 1) = omega arith in
    record {
      suits = omega arith;
      front = e ∙ ap (λ x. 45 ∷ x) (f ∙ ap (λ x. decimal x ++ s') p);
      stops = λ g. stops (subst (λ x. Goes limit x (first s')) (sym p) g);
    }

pub both_ways : (b : Bool) → b ≡ true → b ≡ false → ⊥
both_ways b p q = let z : ◌≡◌ {A = ℕ} 0 1 = cc in omega arith

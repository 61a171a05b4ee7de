-- What the ledger asks of its list of grants, asked of the map that a shelf shows.
use Rattle.std.proofs.Common.{◌≡◌, ℕ, zero, suc, ◌+◌, ◌<◌, Bool, true, false, cond, not, ◌&&◌, ◌||◌, eqb, ◌≢◌, ◌⊎◌, List, [], ◌∷◌, length, get_or, ℤ, is_some, Some, None, Option, sym, refl, ap, ◌∙◌, subst, inl, inr, arith, get_or-set_other, get_or-set_same}
use Rattle.std.proofs.lemmas.Bool.{eqb-true, eqb-false, eq-eqb, ne_eqb, or_cases}
use Rattle.model.specs.Journal.{Entry, wipe, each_of}
use Rattle.model.specs.Ledger.{touch, in_queue, take_all, count_below, any_of, on_some}
use Rattle.model.proofs.Endings.{Apart}
use Rattle.model.proofs.Link.{OwnedBy, Within}
use Rattle.model.proofs.Listed.{holds, held, others, find}
use Rattle.model.proofs.Totals.{length_each}
use Rattle.model.proofs.Clash.{true_false}

pub eqb_sym : (a b : ℕ) → eqb a b ≡ eqb b a
eqb_sym a b = go (eqb a b) refl
  where
    go : (t : Bool) → eqb a b ≡ t → t ≡ eqb b a
    go true e = sym (eq-eqb b a (sym (eqb-true a b e)))
    go false e = sym (ne_eqb b a (λ q. eqb-false a b e (sym q)))

pub holds-find : (b n : ℕ) (rs : List Entry) → holds b n rs ≡ is_some (find b n rs)
holds-find b n [] = refl
holds-find b n (r ∷ rs) = go (eqb r.bin b && eqb r.batch n) (holds-find b n rs)
  where
    go : (t : Bool) → holds b n rs ≡ is_some (find b n rs) → (t || holds b n rs) ≡ is_some (cond t (Some r.amount) (find b n rs))
    go true ih = refl
    go false ih = ih

pub find_none : (b n : ℕ) (rs : List Entry) → holds b n rs ≡ false → find b n rs ≡ None
find_none b n rs h = go (find b n rs) (sym (holds-find b n rs) ∙ h)
  where
    go : (o : Option ℤ) → is_some o ≡ false → o ≡ None
    go None e = refl
    go (Some d) e = true_false e

-- all grants of a batch taken
pub find-wipe : (n : ℕ) (rs : List Entry) (j k : ℕ) → find j k (wipe n rs) ≡ take_all (λ x y. find x y rs) n j k
find-wipe n [] j k = go (eqb k n)
  where
    go : (t : Bool) → ◌≡◌ {A = Option ℤ} None (cond t None None)
    go true = refl
    go false = refl
find-wipe n (r ∷ rs) j k = go (eqb r.batch n) refl (eqb r.bin j) (eqb r.batch k) refl (eqb k n) refl (find-wipe n rs j k)
  where
    rest : Option ℤ
    rest = find j k rs

    go : (t : Bool) → eqb r.batch n ≡ t → (q u : Bool) → eqb r.batch k ≡ u → (v : Bool) → eqb k n ≡ v → find j k (wipe n rs) ≡ cond (eqb k n) None (find j k rs)
        → find j k (cond t (wipe n rs) (r ∷ wipe n rs)) ≡ cond v None (cond (eqb r.bin j && u) (Some r.amount) (find j k rs))
    go true e q true f true g ih = ih ∙ rw g
    go true e q true f false g ih = absurd (eqb-false k n g (sym (eqb-true r.batch k f) ∙ eqb-true r.batch n e))
    go true e q false f true g ih = ih ∙ rw g
    go true e q false f false g ih = ih ∙ rw g (go' (eqb r.bin j))
      where
        go' : (x : Bool) → find j k rs ≡ cond (x && false) (Some r.amount) (find j k rs)
        go' true = refl
        go' false = refl
    go false e q true f true g ih = absurd (eqb-false r.batch n e (eqb-true r.batch k f ∙ eqb-true k n g))
    go false e q true f false g ih = rw (f, ih, g)
    go false e q false f true g ih = rw (f, ih, g) (go' (eqb r.bin j))
      where
        go' : (x : Bool) → cond (x && false) (Some r.amount) None ≡ None
        go' true = refl
        go' false = refl
    go false e q false f false g ih = rw (f, ih, g)

pub length-wipe : (n : ℕ) (rs : List Entry) → length (wipe n rs) + held n rs ≡ length rs
length-wipe n [] = refl
length-wipe n (r ∷ rs) = go (eqb r.batch n) (length-wipe n rs)
  where
    go : (t : Bool) → length (wipe n rs) + held n rs ≡ length rs → length (cond t (wipe n rs) (r ∷ wipe n rs)) + cond t (suc (held n rs)) (held n rs) ≡ suc (length rs)
    go true ih = omega arith
    go false ih = omega arith

-- the bins after a settling: each by its own grant, if any
pub each_find : {A : Type 0} (f : A → ℤ → A) (z : A) (n : ℕ) (rs : List Entry) (xs : List A) (b : ℕ) → Apart rs → b < length xs
    → get_or (each_of f z n rs xs) b z ≡ on_some f (get_or xs b z) (find b n rs)
each_find f z n [] xs b a h = refl
each_find {A} f z n (r ∷ rs) xs b a h = go (eqb r.batch n) refl (eqb r.bin b) refl (each_find f z n rs xs b a.1 h)
  where
    rest : List A
    rest = each_of f z n rs xs

    go : (t : Bool) → eqb r.batch n ≡ t → (q : Bool) → eqb r.bin b ≡ q → get_or (each_of f z n rs xs) b z ≡ on_some f (get_or xs b z) (find b n rs)
        → get_or (cond t (touch f z r.bin r.amount (each_of f z n rs xs)) (each_of f z n rs xs)) b z ≡ on_some f (get_or xs b z) (cond (q && t) (Some r.amount) (find b n rs))
    go true e true g ih =
        let same = eqb-true r.bin b g in
        let none_left : holds b n rs ≡ false = subst (λ (m : ℕ). holds m n rs ≡ false) same (subst (λ (m : ℕ). holds r.bin m rs ≡ false) (eqb-true r.batch n e) a.0) in
        let ih' : get_or (each_of f z n rs xs) b z ≡ get_or xs b z = ih ∙ ap (on_some f (get_or xs b z)) (find_none b n rs none_left) in
        let long : b < length (each_of f z n rs xs) = subst (λ (m : ℕ). b < m) (sym (length_each f z n rs xs)) h in
        subst (λ (i : ℕ). get_or (touch f z i r.amount (each_of f z n rs xs)) b z ≡ f (get_or xs b z) r.amount) (sym same)
        (get_or-set_same (each_of f z n rs xs) b (f (get_or (each_of f z n rs xs) b z) r.amount) z long ∙ ap (λ (x : A). f x r.amount) ih')
    go true e false g ih =
        let ne : b ≢ r.bin = λ q. eqb-false r.bin b g (sym q) in
        get_or-set_other (each_of f z n rs xs) r.bin b (f (get_or (each_of f z n rs xs) r.bin z) r.amount) z ne ∙ ih
    go false e true g ih = ih
    go false e false g ih = ih

-- another batch in the bin: they all stand in the queue
any_more : (b : ℕ) (r : Entry) (rs : List Entry) (ks : List ℕ)
    → any_of ks (λ k. holds b k (r ∷ rs)) ≡ ((eqb r.bin b && in_queue r.batch ks) || any_of ks (λ k. holds b k rs))
any_more b r rs [] = go (eqb r.bin b)
  where
    go : (t : Bool) → false ≡ ((t && false) || false)
    go true = refl
    go false = refl
any_more b r rs (k ∷ ks) = rw (any_more b r rs ks, eqb_sym r.batch k) (go (eqb r.bin b) (eqb k r.batch) (holds b k rs) (in_queue r.batch ks))
  where
    y : Bool
    y = any_of ks (λ k. holds b k rs)

    go : (t e h i : Bool) → (((t && e) || h) || ((t && i) || any_of ks (λ k. holds b k rs))) ≡ ((t && (e || i)) || (h || any_of ks (λ k. holds b k rs)))
    go true true h i = refl
    go true false true true = refl
    go true false true false = refl
    go true false false i = refl
    go false e h i = refl

pub others_any : (b n : ℕ) (rs : List Entry) (ks : List ℕ) → OwnedBy rs ks (λ k. eqb n k) → in_queue n ks ≡ false → others b n rs ≡ any_of ks (λ k. holds b k rs)
others_any b n [] ks o z = go ks
  where
    go : (js : List ℕ) → false ≡ any_of js (λ k. false)
    go [] = refl
    go (j ∷ js) = go js
others_any b n (r ∷ rs) ks o z = rw (any_more b r rs ks, others_any b n rs ks o.1 z, same) refl
  where
    same : not (eqb r.batch n) ≡ in_queue r.batch ks
    same = go (eqb r.batch n) refl (or_cases (in_queue r.batch ks) (eqb n r.batch) o.0)
      where
        go : (t : Bool) → eqb r.batch n ≡ t → (in_queue r.batch ks ≡ true) ⊎ (eqb n r.batch ≡ true) → not t ≡ in_queue r.batch ks
        go true e w = sym (ap (λ (k : ℕ). in_queue k ks) (eqb-true r.batch n e) ∙ z)
        go false e (inl y) = sym y
        go false e (inr y) = absurd (eqb-false r.batch n e (sym (eqb-true n r.batch y)))

-- how many grants a batch holds
pub count_same : (m : ℕ) (f g : ℕ → Bool) → ((b : ℕ) → b < m → f b ≡ g b) → count_below m f ≡ count_below m g
count_same zero f g h = refl
count_same (suc m) f g h = rw (h m (omega arith), count_same m f g (λ b k. h b (omega arith)))

count-one : (m c : ℕ) (g : ℕ → Bool) → c < m → g c ≡ false → count_below m (λ b. eqb c b || g b) ≡ suc (count_below m g)
count-one zero c g h z = absurd (omega arith)
count-one (suc m) c g h z = go (eqb c m) refl (λ k. count-one m c g k z)
  where
    go : (t : Bool) → eqb c m ≡ t → (c < m → count_below m (λ b. eqb c b || g b) ≡ suc (count_below m g))
        → cond (t || g m) (suc (count_below m (λ b. eqb c b || g b))) (count_below m (λ b. eqb c b || g b)) ≡ suc (cond (g m) (suc (count_below m g)) (count_below m g))
    go true e ih =
        let same = eqb-true c m e in
        let off : g m ≡ false = subst (λ (k : ℕ). g k ≡ false) same z in
        rw off (ap suc (count_same m (λ b. eqb c b || g b) g (λ b k. ap (λ (t : Bool). t || g b) (ne_eqb c b (omega arith)))))
    go false e ih = rw (ih (let k = eqb-false c m e in lower c m h k)) (go' (g m))
      where
        lower : (c m : ℕ) → c < suc m → (c ≡ m → ⊥) → c < m
        lower c m h k = grind arith

        go' : (t : Bool) → cond t (suc (suc (count_below m g))) (suc (count_below m g)) ≡ suc (cond t (suc (count_below m g)) (count_below m g))
        go' true = refl
        go' false = refl

pub held-count : (m n : ℕ) (rs : List Entry) → Apart rs → Within m rs → held n rs ≡ count_below m (λ b. holds b n rs)
held-count m n [] a w = go m
  where
    go : (k : ℕ) → 0 ≡ count_below k (λ b. false)
    go zero = refl
    go (suc k) = go k
held-count m n (r ∷ rs) a w = go (eqb r.batch n) refl (held-count m n rs a.1 w.1)
  where
    go : (t : Bool) → eqb r.batch n ≡ t → held n rs ≡ count_below m (λ b. holds b n rs)
        → cond t (suc (held n rs)) (held n rs) ≡ count_below m (λ b. (eqb r.bin b && t) || holds b n rs)
    go true e ih =
        ap suc ih
        ∙ sym (count-one m r.bin (λ b. holds b n rs) w.0 (subst (λ (k : ℕ). holds r.bin k rs ≡ false) (eqb-true r.batch n e) a.0))
        ∙ count_same m (λ b. eqb r.bin b || holds b n rs) (λ b. (eqb r.bin b && true) || holds b n rs) (λ b k. go' (eqb r.bin b) (holds b n rs))
      where
        go' : (x y : Bool) → (x || y) ≡ ((x && true) || y)
        go' true y = refl
        go' false y = refl
    go false e ih = ih ∙ count_same m (λ b. holds b n rs) (λ b. (eqb r.bin b && false) || holds b n rs) (λ b k. go' (eqb r.bin b) (holds b n rs))
      where
        go' : (x y : Bool) → y ≡ ((x && false) || y)
        go' true y = refl
        go' false y = refl

-- The verdicts and the figures, from the link between state and journal.
use Rattle.std.proofs.Common.{◌≡◌, ℕ, ◌<◌, Bool, true, false, cond, not, ◌&&◌, ◌||◌, T, eqb, ◌⊎◌, List, [], ◌∷◌, length, ℤ, pos, ◌+ℤ◌, ◌≤ℤ◌, ◌<ℤ◌, Some, None, Option, sym, refl, ap, ◌∙◌, subst, inl, inr, arith}
use lib.Signed.{lt_z, le_z, lt_z_yes}
use Rattle.std.proofs.lemmas.Int.{ints, by_lt_z}
use Rattle.std.proofs.lemmas.Bool.{ltb-true, lt-ltb, and_parts, and_from, or_left, or_right, or_cases}
use Rattle.model.specs.Journal.{Entry, Journal, only, base_at, leaves, Lands, EveryLands, NoneLands, PlaceFree, Judged}
use Rattle.model.specs.Ledger.{Active, Call, Answer, Verdict, high, bin_at, vacant, working, asking, looking, spoiled, grant, fail, wait}
use Rattle.model.specs.Ledger.{inside, verdict, lay, begin, ask, look, again, close, drop, keep, undo, report, granted, failed}
use Rattle.model.specs.Ledger.{waits}
use Rattle.model.specs.Promises.{NotRefused}
use Rattle.model.proofs.Clash.{true_false}
use Rattle.model.proofs.Endings.{share, kept_share, whole, least, greatest, pick, reached}
use Rattle.model.proofs.Link.{Link}
use Rattle.model.proofs.Listed.{Listed, House, others, decide, free, judge, peek, rejudge, refusal, act, serve, step, Both, next}
use Rattle.model.proofs.Listed.{after}
use Rattle.model.proofs.Step.{ends_inside, Way, is_grant, is_fail, is_wait, both_inside, both_outside, verdict_way}
use Rattle.model.proofs.Totals.{total_cong}

T_true : (t : Bool) → T t → t ≡ true
T_true true h = refl
T_true false h = absurd h

pub le_to : {a b : ℤ} → a ≤ℤ b → le_z a b ≡ true
le_to {a} {b} h = T_true (le_z a b) h.le

pub lt_to : {a b : ℤ} → a <ℤ b → lt_z a b ≡ true
lt_to {a} {b} h = T_true (lt_z a b) h.lt

pub lt_from : {a b : ℤ} → lt_z a b ≡ true → a <ℤ b
lt_from e = lt_z_yes (subst T (sym e) tt)

high-only : (d : ℤ) → only (not (lt_z d (pos 0))) d ≡ high d
high-only d = go (lt_z d (pos 0))
  where
    go : (t : Bool) → only (not t) d ≡ cond t (pos 0) d
    go true = refl
    go false = refl

-- ---- the figures

module _ (s : Listed) (w : Journal) (l : Link s w) (b : ℕ) (h : b < length w.bases) where
  pub inf_least : (keeps : ℕ → Bool) → (bin_at s.bins b).inf ≤ℤ leaves w b keeps
  inf_least keeps = let e = (l.figs b h).lowest in let m = least b keeps w.entries in omega (arith, ints)

  pub sup_greatest : (keeps : ℕ → Bool) → leaves w b keeps ≤ℤ (bin_at s.bins b).sup
  sup_greatest keeps = let e = (l.figs b h).highest in let m = greatest b keeps w.entries in omega (arith, ints)

  pub inf_reached : leaves w b (pick (λ d. lt_z d (pos 0)) b w.entries) ≡ (bin_at s.bins b).inf
  inf_reached =
      ap (λ z. (base_at w.bases b).base +ℤ z) (reached (λ d. lt_z d (pos 0)) b w.entries l.apart) ∙ sym (l.figs b h).lowest

  pub sup_reached : leaves w b (pick (λ d. not (lt_z d (pos 0))) b w.entries) ≡ (bin_at s.bins b).sup
  sup_reached =
      ap (λ z. (base_at w.bases b).base +ℤ z)
      (reached (λ d. not (lt_z d (pos 0))) b w.entries l.apart
      ∙ total_cong (share b (λ d. only (not (lt_z d (pos 0))) d)) (share b high) (λ r. ap (only (eqb r.bin b)) (high-only r.amount)) w.entries)
      ∙ sym (l.figs b h).highest

  pub val_is : leaves w b (λ k. true) ≡ (bin_at s.bins b).val
  val_is =
      ap (λ z. (base_at w.bases b).base +ℤ z)
      (total_cong (kept_share b (λ k. true)) (share b whole) (λ r. and_one (eqb r.bin b) r.amount) w.entries)
      ∙ sym (l.figs b h).expected
    where
      and_one : (t : Bool) (d : ℤ) → only (t && true) d ≡ only t d
      and_one true d = refl
      and_one false d = refl

-- ---- the verdicts

free_is : (s : Listed) (w : Journal) (l : Link s w) → free s ≡ true → PlaceFree s.house.grant_capacity w
free_is s w l e = subst (λ (rs : List Entry). length rs < s.house.grant_capacity) (sym l.entries) (ltb-true _ _ e)

free_from : (s : Listed) (w : Journal) (l : Link s w) → PlaceFree s.house.grant_capacity w → free s ≡ true
free_from s w l e = lt-ltb _ _ (subst (λ (rs : List Entry). length rs < s.house.grant_capacity) l.entries e)

-- neither end lands: both are out on one side
both_out : (m x i s d : ℤ) → m ≤ℤ i → i ≤ℤ s → s ≤ℤ x
    → ((m ≤ℤ (i +ℤ d)) × ((i +ℤ d) ≤ℤ x) → ⊥) → ((m ≤ℤ (s +ℤ d)) × ((s +ℤ d) ≤ℤ x) → ⊥)
    → ((lt_z (i +ℤ d) m && lt_z (s +ℤ d) m) || (lt_z x (i +ℤ d) && lt_z x (s +ℤ d))) ≡ true
both_out m x i s d p q r f g =
    by_lt_z (i +ℤ d) m
    (λ u. by_lt_z (s +ℤ d) m
    (λ v. or_left _ _ (and_from _ _ (lt_to u) (lt_to v)))
    (λ v. absurd (g (v, omega (arith, ints)))))
    (λ u. by_lt_z x (i +ℤ d)
    (λ v. or_right _ _ (and_from _ _ (lt_to v) (lt_to (let k : x <ℤ (s +ℤ d) = omega (arith, ints) in k))))
    (λ v. absurd (f (u, v))))

module _ (s : Listed) (w : Journal) (l : Link s w) (b : ℕ) (h : b < length w.bases) (d : ℤ) where
  every_from_inside : both_inside (bin_at s.bins b) (free s) d ≡ true → EveryLands w b d × PlaceFree s.house.grant_capacity w
  every_from_inside e =
      let x = bin_at s.bins b in
      let i = ends_inside s w b d l h e in
      let lo = i.0 in
      let hi = i.1 in (
        (λ keeps.
            let a = inf_least s w l b h keeps in
            let c = sup_greatest s w l b h keeps in
            (omega (arith, ints), omega (arith, ints))),
        free_is s w l (and_parts (inside x (x.inf +ℤ d) && inside x (x.sup +ℤ d)) (free s) e).1,
      )

  low-lands : EveryLands w b d → Lands w b ((bin_at s.bins b).inf +ℤ d)
  low-lands e = subst (λ v. Lands w b (v +ℤ d)) (inf_reached s w l b h) (e (pick (λ d. lt_z d (pos 0)) b w.entries))

  high-lands : EveryLands w b d → Lands w b ((bin_at s.bins b).sup +ℤ d)
  high-lands e = subst (λ v. Lands w b (v +ℤ d)) (sup_reached s w l b h) (e (pick (λ d. not (lt_z d (pos 0))) b w.entries))

  inside_from : (e : ℤ) → Lands w b e → inside (bin_at s.bins b) e ≡ true
  inside_from e p =
      let f = l.figs b h in
      and_from _ _ (le_to (subst (λ m. m ≤ℤ e) (sym f.floor) p.0)) (le_to (subst (λ m. e ≤ℤ m) (sym f.ceiling) p.1))

  inside_from_every : EveryLands w b d × PlaceFree s.house.grant_capacity w → both_inside (bin_at s.bins b) (free s) d ≡ true
  inside_from_every e = and_from _ _ (and_from _ _ (inside_from _ (low-lands e.0)) (inside_from _ (high-lands e.0))) (free_from s w l e.1)

  none_from_out : both_outside (bin_at s.bins b) d ≡ true → NoneLands w b d
  none_from_out e keeps p = go (or_cases _ _ e)
    where
      a : (bin_at s.bins b).inf ≤ℤ leaves w b keeps
      a = inf_least s w l b h keeps

      c : leaves w b keeps ≤ℤ (bin_at s.bins b).sup
      c = sup_greatest s w l b h keeps

      go : ((lt_z ((bin_at s.bins b).inf +ℤ d) (bin_at s.bins b).floor && lt_z ((bin_at s.bins b).sup +ℤ d) (bin_at s.bins b).floor) ≡ true)
          ⊎ ((lt_z (bin_at s.bins b).ceiling ((bin_at s.bins b).inf +ℤ d) && lt_z (bin_at s.bins b).ceiling ((bin_at s.bins b).sup +ℤ d)) ≡ true) → ⊥
      go (inl q) =
          let u : ((bin_at s.bins b).sup +ℤ d) <ℤ (bin_at s.bins b).floor = lt_from (and_parts (lt_z ((bin_at s.bins b).inf +ℤ d) (bin_at s.bins b).floor) _ q).1 in
          let k = (l.figs b h).floor in
          let m = p.0 in
          let c' = c in
          omega (arith, ints)
      go (inr q) =
          let u : (bin_at s.bins b).ceiling <ℤ ((bin_at s.bins b).inf +ℤ d) = lt_from (and_parts (lt_z (bin_at s.bins b).ceiling ((bin_at s.bins b).inf +ℤ d)) _ q).0 in
          let k = (l.figs b h).ceiling in
          let m = p.1 in
          let a' = a in
          omega (arith, ints)

  out_from_none : NoneLands w b d → both_outside (bin_at s.bins b) d ≡ true
  out_from_none e =
      let f = l.figs b h in
      let fl = f.floor in
      let ro = f.ceiling in
      let ab = f.above in
      let be = f.below in
      both_out (bin_at s.bins b).floor (bin_at s.bins b).ceiling (bin_at s.bins b).inf (bin_at s.bins b).sup d
      (omega (arith, ints)) (let a = inf_least s w l b h (λ k. true) in let c = sup_greatest s w l b h (λ k. true) in omega (arith, ints)) (omega (arith, ints))
      (λ q. e (pick (λ d. lt_z d (pos 0)) b w.entries) (subst (λ v. Lands w b (v +ℤ d)) (sym (inf_reached s w l b h)) (subst (λ m. m ≤ℤ ((bin_at s.bins b).inf +ℤ d)) fl q.0, subst (λ m. ((bin_at s.bins b).inf +ℤ d) ≤ℤ m) ro q.1)))
      (λ q. e (pick (λ d. not (lt_z d (pos 0))) b w.entries) (subst (λ v. Lands w b (v +ℤ d)) (sym (sup_reached s w l b h)) (subst (λ m. m ≤ℤ ((bin_at s.bins b).sup +ℤ d)) fl q.0, subst (λ m. ((bin_at s.bins b).sup +ℤ d) ≤ℤ m) ro q.1)))

  pub judged : (n : ℕ) → Judged s.house.grant_capacity w b d (judge s n b d).0
  judged n = go (verdict (bin_at s.bins b) (free s) d) (verdict_way (bin_at s.bins b) (free s) d)
    where
      clash : {X : Type 0} {a c : Answer} → (a ≡ c → ◌≡◌ {A = ℕ} 0 1) → a ≡ c → X
      clash f e = let z = f e in absurd (omega arith)

      go : (v : Verdict) → Way (both_inside (bin_at s.bins b) (free s) d) (both_outside (bin_at s.bins b) d) v → Judged s.house.grant_capacity w b d (decide s n b d v).0
      go grant (is_grant e) = (
        (λ q. every_from_inside e, λ q. refl),
        (λ q. clash (λ (q : granted ≡ failed). cc) q, λ q. absurd (q (λ k. true) ((every_from_inside e).0 (λ k. true)))),
        λ f g. absurd (f refl),
      )
      go fail (is_fail e f) = (
        (λ q. clash (λ (q : failed ≡ granted). cc) q, λ q. absurd (none_from_out f (λ k. true) (q.0 (λ k. true)))),
        (λ q. none_from_out f, λ q. refl),
        λ g k. absurd (k refl),
      )
      go wait (is_wait e f) = (
        (λ q. clash (λ (q : waits ≡ granted). cc) q, λ q. true_false (sym (inside_from_every q) ∙ e)),
        (λ q. clash (λ (q : waits ≡ failed). cc) q, λ q. true_false (sym (out_from_none q) ∙ f)),
        λ g k. refl,
      )

-- ---- what a call leaves alone

-- the house and the last batch number, which a judging leaves alone
abbrev pub fixed : Listed → House × ℕ
fixed s = (s.house, s.last)

pub fixed-decide : (s : Listed) (n b : ℕ) (d : ℤ) (v : Verdict) → fixed (decide s n b d v).1 ≡ fixed s
fixed-decide s n b d grant = refl
fixed-decide s n b d fail = refl
fixed-decide s n b d wait = refl

pub fixed-peek : (s : Listed) (n b : ℕ) (t : Bool) → fixed (peek s n b t).1 ≡ fixed s
fixed-peek s n b true = refl
fixed-peek s n b false = refl

pub fixed-rejudge : (s : Listed) (t : Active) → fixed (rejudge s t).1 ≡ fixed s
fixed-rejudge s vacant = refl
fixed-rejudge s (working n) = refl
fixed-rejudge s (asking n b d) = fixed-decide s n b d (verdict (bin_at s.bins b) (free s) d)
fixed-rejudge s (looking n b) = fixed-peek s n b (others b n s.grants)
fixed-rejudge s (spoiled n) = refl

house_act : (c : Call) (s : Listed) → (act s c).1.house ≡ s.house
unfolding act
house_act (lay floor ceiling st) s = refl
house_act (begin n) s = refl
house_act (ask p b d) s = ap (λ (y : House × ℕ). y.0) (fixed-decide s p.batch b d (verdict (bin_at s.bins b) (free s) d))
house_act (look p b) s = ap (λ (y : House × ℕ). y.0) (fixed-peek s p.batch b (others b p.batch s.grants))
house_act (again p) s = ap (λ (y : House × ℕ). y.0) (fixed-rejudge s s.active)
house_act (close p) s = refl
house_act (drop p) s = refl
house_act (keep n) s = refl
house_act (undo n) s = refl
house_act (report b) s = refl

pub house_step : (s : Listed) (c : Call) → (step s c).1.house ≡ s.house
unfolding step
house_step s c = go (refusal s c)
  where
    go : (o : Option ℕ) → (serve s c o).1.house ≡ s.house
    go None = house_act c s
    go (Some r) = refl

pub house_after : (cs : List Call) (x : Both) → (after x cs).ledger.house ≡ x.ledger.house
house_after [] x = refl
house_after (c ∷ cs) x = house_after cs (next x c) ∙ house_step x.ledger c

-- a call that is not refused passed its checks
pub served-act : (s : Listed) (c : Call) → NotRefused (step s c).0 → (refusal s c ≡ None) × (step s c ≡ act s c)
unfolding step
served-act s c h = go (refusal s c) refl h
  where
    go : (o : Option ℕ) → refusal s c ≡ o → NotRefused (serve s c o).0 → (refusal s c ≡ None) × (serve s c o ≡ act s c)
    go None e h = (e, refl)
    go (Some r) e h = absurd (h r refl)

-- How a fault of what is left of a line is one of the line.
use Rattle.std.proofs.Common.{◌≡◌, ℕ, zero, suc, ◌+◌, ◌-◌, ◌≤◌, List, [], ◌∷◌, ◌++◌, length, take, sym, refl, ap, ◌∙◌, subst, append_assoc, zero-le, add-zero, arith, length-append}
use native.Mathlib.Decide.{dec_le}
use lib.Seq.{take-append-add}
use Rattle.forms.specs.Faults.{Begins, Fault}
use Rattle.forms.specs.Numbers.{first}

-- w stands before both
pub onward : (M L : List ℕ → Type 0) (w s : List ℕ) (up : (u : List ℕ) → L u → M (w ++ u)) (down : (u : List ℕ) → first u ≡ first s → M (w ++ u) → L u)
    (n : ℕ) → Fault L s n → Fault M (w ++ s) (length w + n)
onward M L w s up down n f = record {
  none = λ h. f.none (down s refl h);
  within = rw length-append (omega (arith, f.within));
  shared = (f.shared.0, subst M (sym (ap (λ x. x ++ f.shared.0) (take-append-add w s n) ∙ append_assoc w (take n s) f.shared.0)) (up _ f.shared.1));
  most = λ m h b. elim (dec_le m (length w)) [
    | yes l ↦ omega arith
    | no l ↦
        over s down (λ k. f.most k) m h b (m - suc (length w)) (omega arith)
  ];
}
  where
    over : (s : List ℕ) (down : (u : List ℕ) → first u ≡ first s → M (w ++ u) → L u) → ((m : ℕ) → m ≤ length s → Begins L (take m s) → m ≤ n)
        → (m : ℕ) → m ≤ length (w ++ s) → Begins M (take m (w ++ s)) → (k : ℕ) → m ≡ length w + suc k → m ≤ length w + n
    over [] down most m h b k e = absurd (omega (arith, length-append w [], h, e))
    over (c ∷ s) down most m h b k e =
        let g = subst (λ (x : ℕ). Begins M (take x (w ++ (c ∷ s)))) e b in
        let eq = ap (λ x. x ++ g.0) (take-append-add w (c ∷ s) (suc k)) ∙ append_assoc w (take (suc k) (c ∷ s)) g.0 in
        let i : suc k ≤ n = most (suc k) (omega (arith, length-append w (c ∷ s))) (g.0, down _ refl (subst M eq g.1)) in
        omega arith

-- nothing goes on after w as s does
pub stuck : (M : List ℕ → Type 0) (w s : List ℕ) → Begins M w → ((u : List ℕ) → first u ≡ first s → M (w ++ u) → ⊥) → Fault M (w ++ s) (length w)
stuck M w s b no' = subst (λ n. Fault M (w ++ s) n) (add-zero (length w))
    (onward M (λ u. M (w ++ u)) w s (λ u h. h) (λ u e h. h) 0 (record {
      none = no' s refl;
      within = zero-le;
      shared = b;
      most = λ m h g. at m s no' h g;
    }))
  where
    at : (m : ℕ) (s : List ℕ) → ((u : List ℕ) → first u ≡ first s → M (w ++ u) → ⊥) → m ≤ length s → Begins (λ u. M (w ++ u)) (take m s) → m ≤ 0
    at zero s no' h g = zero-le
    at (suc m) [] no' h g = absurd (omega arith)
    at (suc m) (c ∷ s) no' h g = absurd (no' _ refl g.1)

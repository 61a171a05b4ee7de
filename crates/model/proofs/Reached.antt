-- What holds of the reference ledger wherever calls lead it.
use Rattle.std.proofs.Common.{◌≡◌, ℕ, ◌<◌, Bool, true, false, cond, not, ◌&&◌, ◌||◌, eqb, List, [], ◌∷◌, length, ℤ, is_some, Some, sym, refl, ap, ◌∙◌, subst}
use Rattle.std.proofs.lemmas.Bool.{eqb-true, and_parts, eq-eqb}
use Rattle.model.specs.Ledger.{State, Active, Call, bin_at, over, vacant, working, asking, looking, spoiled}
use Rattle.model.specs.Journal.{Entry}
use Rattle.model.specs.Runs.{Reached}
use Rattle.model.specs.Promises.{batch_of, RivalsAt, OthersAreRivals}
use Rattle.model.proofs.Listed.{find, holds, others}
use Rattle.model.proofs.Link.{Within, Owned, Turn, Admitted}
use Rattle.model.proofs.Range.{Fits, figures_fit}
use Rattle.model.proofs.HeldAsk.{HeldFits}
use Rattle.model.proofs.Grants.{holds-find}
use Rattle.model.proofs.Simulate.{within, rivals_are}
use Rattle.model.proofs.Follow.{always, reached}
use Rattle.model.proofs.Clash.{no_way, true_false}

-- ---- the figures lie within the limit

abbrev pub FiguresFit : State → Type 0
FiguresFit m = m.fit ≡ true → (b : ℕ) → b < length m.shelf.bins → Fits m.limit (bin_at m.shelf.bins b)

pub figures_at : (m : State) (cs : List Call) → Reached m cs → FiguresFit m
figures_at =
    reached FiguresFit (always (λ m w. FiguresFit m)
    (λ house limit s e fit. true_false (sym fit ∙ e))
    (λ s w g fit b h. figures_fit s w g.link b (subst (λ (k : ℕ). b < k) g.link.size h)))

-- ---- grants are in bins that are there

abbrev pub GrantsPlaced : State → Type 0
GrantsPlaced m = m.fit ≡ true → (b n : ℕ) → is_some (m.shelf.grants b n) ≡ true → b < length m.shelf.bins

found_within : (m b n : ℕ) (rs : List Entry) → Within m rs → is_some (find b n rs) ≡ true → b < m
found_within m b n [] w e = no_way cc
found_within m b n (r ∷ rs) w e = go (eqb r.bin b && eqb r.batch n) refl e (λ k. found_within m b n rs w.1 k)
  where
    go : (t : Bool) → (eqb r.bin b && eqb r.batch n) ≡ t → is_some (cond t (Some r.amount) (find b n rs)) ≡ true → (is_some (find b n rs) ≡ true → b < m) → b < m
    go true q e ih = subst (λ (k : ℕ). k < m) (eqb-true r.bin b (and_parts (eqb r.bin b) (eqb r.batch n) q).0) w.0
    go false q e ih = ih e

pub grants_at : (m : State) (cs : List Call) → Reached m cs → GrantsPlaced m
grants_at =
    reached GrantsPlaced (always (λ m w. GrantsPlaced m)
    (λ house limit s e fit. true_false (sym fit ∙ e))
    (λ s w g fit b n e. found_within (length s.bins) b n s.grants (within s w g.link) e))

-- ---- an ask that is held: its bin is there, its batch holds nothing in it, and its amount lies within the limit

abbrev pub HeldAskRight : State → Type 0
HeldAskRight m = (n b : ℕ) (d : ℤ) → m.active ≡ asking n b d → (b < length m.shelf.bins) × (is_some (m.shelf.grants b n) ≡ false) × (over m.limit d ≡ false)

pub held_ask_at : (m : State) (cs : List Call) → Reached m cs → HeldAskRight m
held_ask_at =
    reached HeldAskRight (always (λ m w. HeldAskRight m)
    (λ house limit s e n b d at. no_way cc)
    (λ s w g n b d at.
    let l = g.link in
    let v : Admitted (asking n b d) w = subst (λ (t : Active). Admitted t w) at l.admitted in (
      subst (λ (k : ℕ). b < k) (sym l.size) v.0,
      sym (holds-find b n s.grants) ∙ subst (λ (rs : List Entry). holds b n rs ≡ false) l.entries v.1,
      subst (HeldFits s.house.limit) at g.held,
    )))

-- ---- another batch in the bin

other_found : (b n : ℕ) (rs : List Entry) → others b n rs ≡ true → (j : ℕ) × ((eqb j n ≡ false) × (is_some (find b j rs) ≡ true))
other_found b n [] e = no_way cc
other_found b n (r ∷ rs) e = go (eqb r.bin b) refl (eqb r.batch n) refl e (λ k. other_found b n rs k)
  where
    there : (j : ℕ) (t : Bool) → is_some (find b j rs) ≡ true → is_some (cond t (Some r.amount) (find b j rs)) ≡ true
    there j true y = refl
    there j false y = y

    go : (t : Bool) → eqb r.bin b ≡ t → (u : Bool) → eqb r.batch n ≡ u → ((t && not u) || others b n rs) ≡ true
        → (others b n rs ≡ true → (j : ℕ) × ((eqb j n ≡ false) × (is_some (find b j rs) ≡ true))) → (j : ℕ) × ((eqb j n ≡ false) × (is_some (find b j (r ∷ rs)) ≡ true))
    go true p false q e ih = (r.batch, (q, rw (p, eq-eqb r.batch r.batch refl)))
    go true p true q e ih = let x = ih e in (x.0, (x.1.0, there x.0 (eqb r.bin b && eqb r.batch x.0) x.1.1))
    go false p u q e ih = let x = ih e in (x.0, (x.1.0, there x.0 (eqb r.bin b && eqb r.batch x.0) x.1.1))

found_other : (b n : ℕ) (rs : List Entry) (j : ℕ) → eqb j n ≡ false → is_some (find b j rs) ≡ true → others b n rs ≡ true
found_other b n [] j f y = y
found_other b n (r ∷ rs) j f y = go (eqb r.bin b) (eqb r.batch j) refl y (λ k. found_other b n rs j f k)
  where
    right : (t : Bool) → others b n rs ≡ true → (t || others b n rs) ≡ true
    right true k = refl
    right false k = k

    go : (t u : Bool) → eqb r.batch j ≡ u → is_some (cond (t && u) (Some r.amount) (find b j rs)) ≡ true → (is_some (find b j rs) ≡ true → others b n rs ≡ true) → ((t && not (eqb r.batch n)) || others b n rs) ≡ true
    go true true q y ih = let e : eqb r.batch n ≡ false = ap (λ (k : ℕ). eqb k n) (eqb-true r.batch j q) ∙ f in rw e
    go true false q y ih = right (not (eqb r.batch n)) (ih y)
    go false u q y ih = ih y

-- whatever its stage, the active batch owns the rest and came after the closed ones
as_working : (n : ℕ) (rs : List Entry) (queue : List ℕ) (last : ℕ) (t : Active) → batch_of t ≡ Some n → Owned rs queue t → Turn queue last t
    → Owned rs queue (working n) × Turn queue last (working n)
as_working n rs queue last t e o u = go t e o u
  where
    Goal : Type 0
    Goal = Owned rs queue (working n) × Turn queue last (working n)

    at : (k : ℕ) → k ≡ n → Owned rs queue (working k) → Turn queue last (working k) → Goal
    at k e o u = (subst (λ (i : ℕ). Owned rs queue (working i)) e o, subst (λ (i : ℕ). Turn queue last (working i)) e u)

    go : (t : Active) → batch_of t ≡ Some n → Owned rs queue t → Turn queue last t → Goal
    go vacant e o u = no_way cc
    go (working k) e o u = at k (cc) o u
    go (asking k b d) e o u = at k (cc) o u
    go (looking k b) e o u = at k (cc) o u
    go (spoiled k) e o u = at k (cc) o u

pub others_are_rivals : OthersAreRivals
others_are_rivals =
    always (λ m w. RivalsAt m)
    (λ house limit s e n b at. no_way cc)
    (λ s w g n b at.
    let l = g.link in
    let a = as_working n w.entries s.queue s.last s.active at l.owned l.turn in
    let e = rivals_are s w l b n a.0 a.1.2 in
    (λ y. other_found b n s.grants (sym e ∙ y), λ x. e ∙ found_other b n s.grants x.0 x.1.0 x.1.1))

pub rivals_at : (m : State) (cs : List Call) → Reached m cs → RivalsAt m
rivals_at = reached RivalsAt others_are_rivals

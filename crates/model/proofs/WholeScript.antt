-- A script worked as far as it has come is decided as the serial reading says, and leaves the bins that it leaves.
use Rattle.std.proofs.Common.{◌≡◌, ℕ, ◌<◌, ◌≤◌, true, false, ◌||◌, List, [], ◌∷◌, ◌++◌, map, length, get_or, ℤ, ◌+ℤ◌, Some, None, Option, sym, refl, ap, ◌∙◌, subst, append_assoc, append-nil, arith, ext_get_or}
use lib.ListN.{length-map, get_or-map}
use lib.IntN.{+ℤ_idr}
use Rattle.std.proofs.lemmas.Bool.{leb-false}
use Rattle.shelf.specs.Contents.{Figures}
use Rattle.model.specs.Journal.{Entry, Journal, Base, total, base_at, no_base, add_bases, write, wipe_off, keep_all, feed, mark, Mark, on_mark}
use Rattle.model.specs.Journal.{effective, pending, neither}
use Rattle.model.specs.Ledger.{Call, low, high, no_bin, bin_at, vacant, in_queue, verdict, lay, begin, ask, look, again, close}
use Rattle.model.specs.Ledger.{drop, keep, undo, report}
use Rattle.model.specs.Script.{Batch, Rising, Decision, Worker, idle, Progress, prog, Works, log_of, AllSettled, Logged, newest, older}
use Rattle.model.specs.Script.{lay_of, lays}
use Rattle.model.proofs.Clash.{true_false}
use Rattle.model.proofs.Endings.{share, kept_share, whole}
use Rattle.model.proofs.Link.{Link, Owned, Turn, passed}
use Rattle.model.proofs.Listed.{Listed, House, others, free, checks, refusal, act, serve, step, Both, next, after, start, told}
use Rattle.model.proofs.Listed.{opened_at}
use Rattle.model.proofs.SerialTie.{active_of, LogRight, Tie}
use Rattle.model.proofs.Serial.{serial_of, serial_end, wants}
use Rattle.model.proofs.Step.{link_step, link_after, link_start, turn_early}
use Rattle.model.proofs.Verdicts.{fixed-decide, fixed-peek, fixed-rejudge, house_after}
use Rattle.model.proofs.Work.{Tied, advance}

-- ---- a whole run

module _ (h₀ : House) (fit : h₀.fit ≡ true) (v₀ : List Base) (script : List Batch) where
  pub works_keep : (cs : List Call) (s : Listed) (p q : Progress) → Works h₀.number p (told s cs) q → (w : Journal) → Tied h₀ fit v₀ script p s w
      → Tied h₀ fit v₀ script q (after (record { ledger = s; journal = w }) cs).ledger (after (record { ledger = s; journal = w }) cs).journal
  works_keep [] s p q e w j = subst (λ (y : Progress). Tied h₀ fit v₀ script y s w) e j
  works_keep (c ∷ cs) s p q m w j = works_keep cs (step s c).1 m.0 q m.1.1 (feed w c (step s c).0) (advance h₀ fit v₀ script m.1.0 s w refl j)

  pub log_in : {e : Decision} {log : List Decision} → Logged e log → LogRight h₀.limit v₀ script log → serial_of h₀.limit v₀ script e.batch e.item ≡ e.said
  log_in newest o = o.0
  log_in (older m) o = log_in m o.1

pub begin_tied : (h₀ : House) (fit : h₀.fit ≡ true) (script : List Batch) (s : Listed) (w : Journal) → Link s w → s.house ≡ h₀ → s.last ≡ 0 → Rising 0 script
    → Tied h₀ fit w.bases script (prog script idle [] []) s w
begin_tied h₀ fit script s w l home z up = (
  home,
  l,
  turn_early s.queue s.active (subst (λ (k : ℕ). Turn s.queue k s.active) z l.turn),
  record {
    v = w.bases;
    size = refl;
    same = λ b h. (refl, refl, sym (ap (λ (rs : List Entry). (base_at w.bases b).base +ℤ total (kept_share b (wants [])) rs) (l.early z) ∙ +ℤ_idr _));
    queued = sym (l.clear z);
    reads = record { rest = λ n j h. refl; cur = tt; fin = refl };
    rising = subst (λ (k : ℕ). Rising k script) (sym z) up;
    logged = tt;
  },
  tt,
)

-- ---- the bins with everything settled

abbrev pub to_bin : Base → Figures
to_bin l = record { floor = l.floor; ceiling = l.ceiling; inf = l.base; val = l.base; sup = l.base }

none_owned : (rs : List Entry) (ks : List ℕ) → ks ≡ [] → Owned rs ks vacant → rs ≡ []
none_owned [] ks e o = refl
none_owned (r ∷ rs) ks e o = true_false (sym (subst (λ (y : List ℕ). (in_queue r.batch y || false) ≡ true) e o.0))

bin_is : (x : Figures) (l : Base) → x.floor ≡ l.floor → x.ceiling ≡ l.ceiling → x.inf ≡ l.base → x.val ≡ l.base → x.sup ≡ l.base → x ≡ to_bin l
bin_is x l p₁ p₂ p₃ p₄ p₅ = λ i. record { floor = p₁ i; ceiling = p₂ i; inf = p₃ i; val = p₄ i; sup = p₅ i }

bins_settled : (lim : ℕ) (v₀ : List Base) (script : List Batch) (log : List Decision) (s : Listed) (w : Journal) → Link s w → s.active ≡ vacant
    → (k : Tie lim v₀ script [] idle [] log s w) → s.bins ≡ map to_bin (serial_end lim v₀ script)
bins_settled lim v₀ script log s w l at k =
    ext_get_or no_bin s.bins (map to_bin k.v) (l.size ∙ sym k.size ∙ sym (length-map k.v to_bin)) each
    ∙ ap (map to_bin) (sym k.reads.fin)
  where
    none : w.entries ≡ []
    none = none_owned w.entries s.queue (sym k.queued) (subst (Owned w.entries s.queue) at l.owned)

    sum_none : (f : Entry → ℤ) (z : ℤ) → z +ℤ total f w.entries ≡ z
    sum_none f z = ap (λ (rs : List Entry). z +ℤ total f rs) none ∙ +ℤ_idr z

    each : (b : ℕ) → b < length s.bins → bin_at s.bins b ≡ get_or (map to_bin k.v) b no_bin
    each b h =
        let h' : b < length w.bases = let e = l.size in omega arith in
        let f = l.figs b h' in
        let y = k.same b h' in
        let base : (base_at w.bases b).base ≡ (base_at k.v b).base = sym (y.2 ∙ sum_none (kept_share b (wants [])) (base_at w.bases b).base) in
        bin_is (bin_at s.bins b) (base_at k.v b) (f.floor ∙ sym y.0) (f.ceiling ∙ sym y.1)
        (f.lowest ∙ sum_none (share b low) _ ∙ base) (f.expected ∙ sum_none (share b whole) _ ∙ base) (f.highest ∙ sum_none (share b high) _ ∙ base)
        ∙ sym (get_or-map to_bin k.v b no_base)

-- ---- what the accepted lays wrote

last_act : (c : Call) (s : Listed) → refusal s c ≡ None → s.last ≤ (act s c).1.last
unfolding act
last_act (lay floor ceiling st) s e = omega arith
last_act (begin n) s e = let c = passed (checks s (begin n)) e in let h = leb-false n s.last c.1.1.0 in omega arith
last_act (ask p b d) s e = let q = ap (λ (y : House × ℕ). y.1) (fixed-decide s p.batch b d (verdict (bin_at s.bins b) (free s) d)) in omega arith
last_act (look p b) s e = let q = ap (λ (y : House × ℕ). y.1) (fixed-peek s p.batch b (others b p.batch s.grants)) in omega arith
last_act (again p) s e = let q = ap (λ (y : House × ℕ). y.1) (fixed-rejudge s s.active) in omega arith
last_act (close p) s e = omega arith
last_act (drop p) s e = omega arith
last_act (keep n) s e = omega arith
last_act (undo n) s e = omega arith
last_act (report b) s e = omega arith

last_step : (s : Listed) (c : Call) → s.last ≤ (step s c).1.last
unfolding step
last_step s c = go (refusal s c) refl
  where
    go : (o : Option ℕ) → refusal s c ≡ o → s.last ≤ (serve s c o).1.last
    go None e = last_act c s e
    go (Some r) e = omega arith

last_after : (cs : List Call) (x : Both) → x.ledger.last ≤ (after x cs).ledger.last
last_after [] x = omega arith
last_after (c ∷ cs) x = let a = last_step x.ledger c in let b = last_after cs (next x c) in omega arith

bases_on : (q : Mark) (w y h : Journal) → y.bases ≡ w.bases → h.bases ≡ w.bases → (on_mark q w y h).bases ≡ w.bases
bases_on effective w y h e f = e
bases_on pending w y h e f = f
bases_on neither w y h e f = refl

bases_fed : (c : Call) (s : Listed) (w : Journal) (ls : List Base) → Link s w → s.last ≡ 0
    → (feed w c (step s c).0).bases ++ ls ≡ w.bases ++ (lay_of c (step s c).0 ls)
unfolding step act feed
bases_fed (lay floor ceiling st) s w ls l z = go (refusal s (lay floor ceiling st))
  where
    go : (o : Option ℕ) → (feed w (lay floor ceiling st) (serve s (lay floor ceiling st) o).0).bases ++ ls ≡ w.bases ++ (lay_of (lay floor ceiling st) (serve s (lay floor ceiling st) o).0 ls)
    go None = append_assoc w.bases (record { floor = floor; ceiling = ceiling; base = st } ∷ []) (ls)
    go (Some r) = refl
bases_fed (begin n) s w ls l z = refl
bases_fed (ask p b d) s w ls l z = ap (λ (y : List Base). y ++ ls) (bases_on (mark (step s (ask p b d)).0) w _ _ refl refl)
bases_fed (look p b) s w ls l z = refl
bases_fed (again p) s w ls l z = ap (λ (y : List Base). y ++ ls) (bases_on (mark (step s (again p)).0) w (write w w.noted) w refl refl)
bases_fed (close p) s w ls l z = refl
bases_fed (drop p) s w ls l z = ap (λ (y : List Base). y ++ ls) (bases_on (mark (step s (drop p)).0) w (wipe_off w p.batch) w refl refl)
bases_fed (keep n) s w ls l z =
    ap (λ (y : List Base). y ++ ls) (bases_on (mark (step s (keep n)).0) w (keep_all w n) w (ap (λ (rs : List Entry). add_bases n rs w.bases) (l.early z)) refl)
bases_fed (undo n) s w ls l z = ap (λ (y : List Base). y ++ ls) (bases_on (mark (step s (undo n)).0) w (wipe_off w n) w refl refl)
bases_fed (report b) s w ls l z = refl

bases_laid : (cs : List Call) (x : Both) → Link x.ledger x.journal → (after x cs).ledger.last ≡ 0
    → (after x cs).journal.bases ≡ x.journal.bases ++ lays (told x.ledger cs)
bases_laid [] x l z = sym (append-nil x.journal.bases)
bases_laid (c ∷ cs) x l z =
    let a = last_step x.ledger c in
    let b = last_after cs (next x c) in
    bases_laid cs (next x c) (link_step x.ledger x.journal c l) z
    ∙ bases_fed c x.ledger x.journal (lays (told (step x.ledger c).1 cs)) l (omega arith)

-- ---- one ledger and one script

-- the bins that accepted lays made, and the ledger after laying and working
abbrev pub laid_bases : House → List Call → List Base
laid_bases h ls = lays (told (opened_at h) ls)

abbrev pub worked_to : House → List Call → List Call → Both
worked_to h ls cs = after (after (start h) ls) cs

-- a list ledger in a fit house, laid by ls with no begin accepted, works a script by cs
pub record Worked (h : House) (ls : List Call) (script : List Batch) (cs : List Call) : Type 0 where
  pub fit : h.fit ≡ true
  pub unbegun : (after (start h) ls).ledger.last ≡ 0
  pub end : Progress
  pub works : Works h.number (prog script idle [] []) (told (after (start h) ls).ledger cs) end

-- what one ledger comes to, by the serial reading
pub record Came (h : House) (ls : List Call) (script : List Batch) (cs : List Call) (end : Progress) : Type 0 where
  pub decided : (e : Decision) → Logged e (log_of end) → serial_of h.limit (laid_bases h ls) script e.batch e.item ≡ e.said
  pub bins : AllSettled end → (worked_to h ls cs).ledger.bins ≡ map to_bin (serial_end h.limit (laid_bases h ls) script)

pub came : (h : House) (ls : List Call) (script : List Batch) (cs : List Call) → Rising 0 script → (x : Worked h ls script cs) → Came h ls script cs x.end
came h ls script cs up x = go x.end tied
  where
    laid_tied : Tied h x.fit (after (start h) ls).journal.bases script (prog script idle [] []) (after (start h) ls).ledger (after (start h) ls).journal
    laid_tied = begin_tied h x.fit script (after (start h) ls).ledger (after (start h) ls).journal (link_after ls (start h) (link_start h)) (house_after ls (start h)) x.unbegun up

    tied : Tied h x.fit (laid_bases h ls) script x.end (worked_to h ls cs).ledger (worked_to h ls cs).journal
    tied =
        works_keep h x.fit (laid_bases h ls) script cs (after (start h) ls).ledger (prog script idle [] []) x.end x.works (after (start h) ls).journal
        (subst (λ (v : List Base). Tied h x.fit v script (prog script idle [] []) (after (start h) ls).ledger (after (start h) ls).journal) (bases_laid ls (start h) (link_start h) x.unbegun) laid_tied)

    go : (p : Progress) → Tied h x.fit (laid_bases h ls) script p (worked_to h ls cs).ledger (worked_to h ls cs).journal → Came h ls script cs p
    go (prog left worker queue log) j =
        record {
          decided = λ e m. log_in h x.fit (laid_bases h ls) script m j.3.logged;
          bins = λ a.
              bins_settled h.limit (laid_bases h ls) script log (worked_to h ls cs).ledger (worked_to h ls cs).journal j.1 (j.2 ∙ ap active_of a.1)
              (subst (λ (q : List Batch). Tie h.limit (laid_bases h ls) script [] idle q log (worked_to h ls cs).ledger (worked_to h ls cs).journal) a.2
              (subst (λ (q : Worker). Tie h.limit (laid_bases h ls) script [] q queue log (worked_to h ls cs).ledger (worked_to h ls cs).journal) a.1
              (subst (λ (q : List Batch). Tie h.limit (laid_bases h ls) script q worker queue log (worked_to h ls cs).ledger (worked_to h ls cs).journal) a.0 j.3)));
        }

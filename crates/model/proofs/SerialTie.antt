-- What ties a ledger that works a script, at whatever schedule, to the serial reading.
use Rattle.std.proofs.Common.{◌≡◌, ℕ, suc, ◌+◌, ◌<◌, Bool, false, cond, List, [], ◌∷◌, length, sym, refl, ap, ◌∙◌, subst, add-zero, add-suc, suc-add, zero-add, arith}
use Rattle.std.proofs.lemmas.Bool.{eq-eqb, ne_eqb}
use Rattle.model.specs.Journal.{Entry, Journal, Base, base_at, leaves}
use Rattle.model.specs.Ledger.{Active, Answer, vacant, working, asking, looking, spoiled, failed}
use Rattle.model.specs.Script.{Item, Batch, asks, looks, Rising, Decision, Worker, idle, doing, stuck, lost}
use Rattle.model.proofs.Listed.{Listed}
use Rattle.model.proofs.Serial.{mine, say, is_failed, own, serial_at, finish, worked, serial_of, serial_end, wants, numbers}

abbrev pub active_of : Worker → Active
active_of idle = vacant
active_of (doing x i its) = working x.number
active_of (stuck x i (asks b d) its) = asking x.number b d
active_of (stuck x i (looks b) its) = looking x.number b
active_of (lost x) = spoiled x.number

abbrev pub own_of : Worker → List Entry → List Entry
own_of idle rs = []
own_of (doing x i its) rs = mine x.number rs
own_of (stuck x i it its) rs = mine x.number rs
own_of (lost x) rs = []

-- the bins once the batch that is being worked is settled
abbrev pub then_bases : ℕ → List Base → List Entry → Worker → List Base
then_bases lim v g idle = v
then_bases lim v g (doing x i its) = finish lim v x.number g its x.last
then_bases lim v g (stuck x i it its) = finish lim v x.number g (it ∷ its) x.last
then_bases lim v g (lost x) = v

module _ (lim : ℕ) (v₀ : List Base) (script : List Batch) where
  abbrev pub Current : List Base → List Entry → Worker → Type 0
  Current v g idle = Unit {0}
  Current v g (doing x i its) = (j : ℕ) → serial_of lim v₀ script x.number (i + j) ≡ serial_at lim v x.number g its j
  Current v g (stuck x i it its) = (j : ℕ) → serial_of lim v₀ script x.number (i + j) ≡ serial_at lim v x.number g (it ∷ its) j
  Current v g (lost x) = Unit {0}

  abbrev pub LogRight : List Decision → Type 0
  LogRight [] = Unit {0}
  LogRight (e ∷ es) = (serial_of lim v₀ script e.batch e.item ≡ e.said) × LogRight es

-- the bins with their serial values
abbrev pub Same : List Base → Journal → List Batch → ℕ → Type 0
Same v w queue b = ((base_at v b).floor ≡ (base_at w.bases b).floor) × ((base_at v b).ceiling ≡ (base_at w.bases b).ceiling) × ((base_at v b).base ≡ leaves w b (wants queue))

-- what the rest of the script reads from here
pub record Reads (lim : ℕ) (v₀ : List Base) (script : List Batch) (left : List Batch) (worker : Worker) (last : ℕ) (v : List Base) (g : List Entry) : Type 0 where
  pub rest : (n j : ℕ) → last < n → serial_of lim v₀ script n j ≡ serial_of lim (then_bases lim v g worker) left n j
  pub cur : Current lim v₀ script v g worker
  pub fin : serial_end lim v₀ script ≡ serial_end lim (then_bases lim v g worker) left

pub record Tie (lim : ℕ) (v₀ : List Base) (script : List Batch) (left : List Batch) (worker : Worker) (queue : List Batch) (log : List Decision) (s : Listed) (w : Journal) : Type 0 where
  pub v : List Base
  pub size : length v ≡ length w.bases
  pub same : (b : ℕ) → b < length w.bases → Same v w queue b
  pub queued : numbers queue ≡ s.queue
  pub reads : Reads lim v₀ script left worker s.last v (own_of worker w.entries)
  pub rising : Rising s.last left
  pub logged : LogRight lim v₀ script log

module _ (lim : ℕ) (v₀ : List Base) (script : List Batch) where
  -- an item that is not failed is behind: what is left reads on
  pub reads_on : (left : List Batch) (x : Batch) (i : ℕ) (it : Item) (its : List Item) (last : ℕ) (v : List Base) (g : List Entry) (a : Answer)
      → say lim v x.number g it ≡ a → is_failed a ≡ false → Reads lim v₀ script left (stuck x i it its) last v g
      → Reads lim v₀ script left (doing x (suc i) its) last v (own x.number g it a)
  reads_on left x i it its last v g a e f r =
      record {
        rest = λ n j h. subst (λ (z : List Base). serial_of lim v₀ script n j ≡ serial_of lim z left n j) same (r.rest n j h);
        cur = λ j. ap (serial_of lim v₀ script x.number) (suc-add i j ∙ sym (add-suc i j)) ∙ r.cur (suc j) ∙ ap (λ (c : Answer). serial_at lim v x.number (own x.number g it c) its j) e;
        fin = r.fin ∙ ap (λ (z : List Base). serial_end lim z left) same;
      }
    where
      same : finish lim v x.number g (it ∷ its) x.last ≡ finish lim v x.number (own x.number g it a) its x.last
      same = ap (λ (c : Answer). cond (is_failed c) v (finish lim v x.number (own x.number g it c) its x.last)) e
          ∙ ap (λ (t : Bool). cond t v (finish lim v x.number (own x.number g it a) its x.last)) f

  pub reads_lost : (left : List Batch) (x : Batch) (i : ℕ) (it : Item) (its : List Item) (last : ℕ) (v : List Base) (g : List Entry)
      → say lim v x.number g it ≡ failed → Reads lim v₀ script left (stuck x i it its) last v g
      → Reads lim v₀ script left (lost x) last v []
  reads_lost left x i it its last v g e r =
      record {
        rest = λ n j h. subst (λ (z : List Base). serial_of lim v₀ script n j ≡ serial_of lim z left n j) same (r.rest n j h);
        cur = tt;
        fin = r.fin ∙ ap (λ (z : List Base). serial_end lim z left) same;
      }
    where
      same : finish lim v x.number g (it ∷ its) x.last ≡ v
      same = ap (λ (c : Answer). cond (is_failed c) v (finish lim v x.number (own x.number g it c) its x.last)) e

  -- the item stands in the log as it is read
  pub reads_now : (left : List Batch) (x : Batch) (i : ℕ) (it : Item) (its : List Item) (last : ℕ) (v : List Base) (g : List Entry)
      → Reads lim v₀ script left (stuck x i it its) last v g → serial_of lim v₀ script x.number i ≡ say lim v x.number g it
  reads_now left x i it its last v g r = ap (serial_of lim v₀ script x.number) (sym (add-zero i)) ∙ r.cur 0

  pub reads_begin : (x : Batch) (left : List Batch) (last : ℕ) (v : List Base) → last < x.number
      → Reads lim v₀ script (x ∷ left) idle last v [] → Reads lim v₀ script left (doing x 0 x.items) x.number v []
  reads_begin x left last v h r =
      record {
        rest = λ n j k. r.rest n j (omega arith) ∙ ap (λ (t : Bool). cond t (serial_at lim v x.number [] x.items j) (serial_of lim (worked lim v x) left n j)) (ne_eqb x.number n (omega arith));
        cur = λ j. ap (serial_of lim v₀ script x.number) (zero-add j) ∙ r.rest x.number j h ∙ ap (λ (t : Bool). cond t (serial_at lim v x.number [] x.items j) (serial_of lim (worked lim v x) left x.number j)) (eq-eqb x.number x.number refl);
        fin = r.fin;
      }

  -- the doing of an item, as if it waited
  pub as_stuck : {left : List Batch} {x : Batch} {i : ℕ} {it : Item} {its : List Item} {queue : List Batch} {log : List Decision} {s : Listed} {w : Journal}
      → Tie lim v₀ script left (doing x i (it ∷ its)) queue log s w → Tie lim v₀ script left (stuck x i it its) queue log s w
  as_stuck k =
      record {
        v = k.v;
        size = k.size;
        same = k.same;
        queued = k.queued;
        reads = record { rest = k.reads.rest; cur = k.reads.cur; fin = k.reads.fin };
        rising = k.rising;
        logged = k.logged;
      }

-- What a line is answered, by how it is read.
use Rattle.std.proofs.Common.{◌≡◌, ℕ, List, Some, Ok, Result, sym, ap, ◌∙◌}
use Rattle.refusal.specs.declared.Refusal.{Refusal}
use Rattle.refusal.specs.Table.{number_of, refusal_text}
use Rattle.model.specs.Ledger.{State, Answer, refused, step}
use Rattle.model.specs.Ledger.{Call as Asked}
use Rattle.model.specs.Runs.{Reached}
use Rattle.forms.specs.declared.calls.Kind.{Kind}
use Rattle.forms.specs.declared.calls.Call.{Call}
use Rattle.forms.specs.Reading.{read_of}
use Rattle.house.specs.Serving.{request_of, bin_in, serve_call, serve_read, serve_line, Served}
use Rattle.house.specs.Text.{said_text}
use Rattle.house.proofs.Refused.{refused_text, step_below}

-- what is read in a house of one kind, under another name of the kind
pub read_in : {j k : Kind} (line : List ℕ) {r : Result Call ℕ} → j ≡ k → read_of (Some j) line ≡ r → read_of (Some k) line ≡ r
read_in line e f = ap (λ (i : Kind). read_of (Some i) line) (sym e) ∙ f

module _ (k : Kind) (s : State) (line : List ℕ) where
  pub call_served : (c : Call) (m : Asked) (a : Answer) (s' : State) (text : List ℕ) → read_of (Some k) line ≡ Ok c → Ok m ≡ request_of k c
      → ((cs : List Asked) → Reached s cs → ((a, s') ≡ step s m) × ((ds : List Asked) × Reached s' ds)) → text ≡ said_text k (bin_in c) a
      → Served s text s' (serve_line k s line)
  unfolding serve_line
  call_served c m a s' text e q f t = λ cs r. (
    ap (λ (x : List ℕ). (x, s')) t
        ∙ (ap (λ (x : Answer × State). (said_text k (bin_in c) x.0, x.1)) (f cs r).0
        ∙ (ap (serve_call k s (bin_in c)) q ∙ ap (serve_read k s) (sym e))),
    (f cs r).1,
  )

  -- what the reference ledger refuses
  pub refused_served : (c : Call) (m : Asked) (why : Refusal) (s' : State) → read_of (Some k) line ≡ Ok c → Ok m ≡ request_of k c
      → ((cs : List Asked) → Reached s cs → ((refused (number_of why), s') ≡ step s m) × ((ds : List Asked) × Reached s' ds))
      → Served s (refusal_text why) s' (serve_line k s line)
  refused_served c m why s' e q f = λ cs r.
      call_served c m (refused (number_of why)) s' (refusal_text why) e q f (refused_text k (bin_in c) why (step_below s m s' (number_of why) (f cs r).0)) cs r

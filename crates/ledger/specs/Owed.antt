-- What each call owes.
use Rattle.std.specs.Prelude.{◌≡◌, ℕ, false, List, [], ◌∷◌, ◌++◌}
use Rattle.model.specs.Ledger.{State, Call, Answer, refused, step}
use Rattle.model.specs.Runs.{Reached}

-- the call c on the ledger m is answered a and leaves it at m'
pub record Owed (m : State) (c : Call) (a : Answer) (m' : State) : Type 0 where
  -- wherever calls have led the ledger, answer and state are the reference ledger's, and one more call leads to it
  pub model : (cs : List Call) → Reached m cs → ((a, m') ≡ step m c) × Reached m' (cs ++ c ∷ [])
  -- on an unfit shelf every call is refused
  pub unfit : m.fit ≡ false → a ≡ refused 1
  -- a refusal changes nothing
  pub unmoved : (r : ℕ) → a ≡ refused r → m' ≡ m

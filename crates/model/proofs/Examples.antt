-- The worked examples, by computation.
use Rattle.std.proofs.Common.{ℕ, [], refl}
use Rattle.model.specs.Ledger.{Call, Answer, fit_capacities, fit_shelf, act, step}
use Rattle.model.specs.Script.{Progress, Does, prog, idle, noise, reports, begins, ask_granted, ask_failed, ask_waits, ask_refused, look_seen, look_waits, look_refused, again_granted, again_seen, again_waits, closes, drops_it, drops_lost, keeps_it, undoes_it}
use Rattle.model.specs.Examples.{Worked, TwoSchedules, plain_decisions, mixed_decisions}

-- one example, and the others
infixr 4 ◌also◌
◌also◌ : {A B : Type 0} → A → B → A × B
◌also◌ x y = (x, y)

-- one call, and the rest of the work from where it leads
infixr 4 ◌then◌
◌then◌ : {h : ℕ} {p q : Progress} {c : Call} {a : Answer} {Rest : Progress → Type 0} → Does h p c a q → Rest q → (x : Progress) × (Does h p c a x × Rest x)
◌then◌ {q = q} x y = (q, (x, y))

pub worked : Worked
unfolding Worked fit_capacities fit_shelf act step
worked =
    refl also refl also refl also refl also refl also refl also refl also refl also refl also refl also refl also refl
    also refl also refl also refl also refl also refl also refl also refl
    also refl also refl also refl also refl also refl also refl also refl also refl also refl also refl also refl also refl
    also refl also refl also refl also refl also refl also refl also refl also refl also refl also refl also refl also refl
    also refl also refl also refl also refl also refl also refl also refl also refl also refl also refl also refl also refl also tt

pub two_schedules : TwoSchedules
unfolding fit_capacities fit_shelf act step
two_schedules = (
  (
    record {
      fit = refl;
      unbegun = refl;
      end = prog [] idle [] plain_decisions;
      works =
          begins then ask_granted then closes tt then begins then ask_granted then closes tt then begins then ask_waits
          then undoes_it refl then again_waits then keeps_it refl then again_granted then closes tt then keeps_it refl then reports then refl;
    },
    ((refl, refl, refl), refl),
  ),
  (
    record {
      fit = refl;
      unbegun = refl;
      end = prog [] idle [] plain_decisions;
      works =
          begins then ask_granted then closes tt then undoes_it refl then begins then ask_granted then closes tt then noise
          then keeps_it refl then begins then ask_granted then closes tt then keeps_it refl then refl;
    },
    ((refl, refl, refl), refl),
  ),
  (
    record {
      fit = refl;
      unbegun = refl;
      end = prog [] idle [] mixed_decisions;
      works =
          begins then ask_granted then closes tt then begins then look_waits then again_waits then keeps_it refl then again_seen
          then ask_refused then ask_failed then drops_lost then begins then ask_granted then drops_it refl then begins then look_seen
          then look_refused then closes tt then undoes_it refl then refl;
    },
    ((refl, refl, refl), refl),
  ),
  (
    record {
      fit = refl;
      unbegun = refl;
      end = prog [] idle [] mixed_decisions;
      works =
          begins then ask_granted then closes tt then keeps_it refl then begins then look_seen then ask_refused then ask_failed
          then drops_lost then begins then ask_granted then drops_it refl then begins then look_seen then look_refused then closes tt
          then undoes_it refl then refl;
    },
    ((refl, refl, refl), refl),
  ),
)

-- What trays and loose pieces mean, and which can be made from outside numbers.
use Rattle.std.specs.Prelude.{ℕ, cond, ℤ, pos, Ok, Err, Result, nat_le, unsigned_abs}
use Rattle.std.specs.Int.{int_div_euclid, int_rem_euclid}
use Rattle.refusal.specs.declared.Refusal.{Refusal}
use Rattle.refusal.specs.declared.Refusal.TheVariants.{OverLimit, UnevenTray}
use Rattle.amount.specs.Range.{inside, figure}
pub use Rattle.amount.specs.Limits.{tray_limit, in_pieces}
use Rattle.amount.specs.declared.trays.Trays.{Trays}

-- trays mean their pieces; with more than 23 loose they mean zero
abbrev pub pieces : Trays → ℤ
pieces t = cond (nat_le t.loose 23) (figure tray_limit (in_pieces t.trays t.loose)) (pos 0)

-- the full trays and the loose pieces of a number of pieces, divided downwards
abbrev pub full_trays : ℤ → ℤ
full_trays z = int_div_euclid z (pos 24)

abbrev pub loose_pieces : ℤ → ℕ
loose_pieces z = unsigned_abs (int_rem_euclid z (pos 24))

-- the amount made from t trays and l loose pieces
abbrev pub trays_made : ℤ → ℕ → Result ℤ Refusal
trays_made t l = cond (inside tray_limit (in_pieces t l)) (cond (nat_le l 23) (Ok (in_pieces t l)) (Err UnevenTray)) (Err OverLimit)

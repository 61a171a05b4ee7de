-- The limit L of each kind, and trays in pieces.
use Rattle.std.specs.Prelude.{ℕ, ℤ, pos, ◌+ℤ◌, ◌*ℤ◌}

abbrev pub gram_limit : ℕ
gram_limit = 1000000000000

-- in pieces
abbrev pub tray_limit : ℕ
tray_limit = 24000000

-- t trays of 24 and l loose pieces
abbrev pub in_pieces : ℤ → ℕ → ℤ
in_pieces t l = t *ℤ pos 24 +ℤ pos l

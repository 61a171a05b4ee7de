-- How far a line has been made of numbers.
use Rattle.std.proofs.Common.{◌≡◌, ℕ, suc, ◌+◌, ◌*◌, ◌<◌, ◌≤◌, Bool, true, false, List, [], ◌∷◌, ◌++◌, length, get_or, drop, ℤ, pos, negsuc, ◌∙◌, subst, append_assoc, arith, length-append}
use Rattle.std.specs.Fmt.{signed_decimal}
use Rattle.std.proofs.lemmas.Fmt.{length-decimal-le}
use Rattle.forms.specs.Patterns.{Piece, text, number, piece_of, pieces, Suits, Fits, fill, field_count, most_digits, longest_line, largest_amount}
use Rattle.forms.proofs.Pieces.{piece_at}

-- a line of the pieces `all` with the numbers vs goes on with the pieces `rest` and the numbers ws
pub record Made (all : List Piece) (vs : List ℤ) (rest : List Piece) (ws : List ℤ) (line : List ℕ) : Type 0 where
  pub to : Fits all vs → Fits rest ws
  pub from : Fits rest ws → Fits all vs
  pub left : line ++ fill rest ws ≡ fill all vs
  pub room : length line + length rest + most_digits * field_count rest ≤ longest_line

length_signed : (limit : ℕ) (minus : Bool) (z : ℤ) → limit ≤ largest_amount → Suits limit minus z → length (signed_decimal z) ≤ 1 + most_digits
length_signed limit minus (pos n) l h = omega (arith, length-decimal-le 18 n (omega arith) (omega arith) (omega arith))
length_signed limit true (negsuc n) l h = omega (arith, length-decimal-le 18 (suc n) (omega arith) (omega arith) (omega arith))
length_signed limit false (negsuc n) l h = absurd h

module _ {all : List Piece} {vs : List ℤ} {rest : List Piece} {ws : List ℤ} {line : List ℕ} where
  pub text_made : {b : ℕ} → Made all vs (text b ∷ rest) ws line → Made all vs rest ws (line ++ (b ∷ []))
  text_made {b} m = record {
    to = m.to;
    from = m.from;
    left = append_assoc line (b ∷ []) (fill rest ws) ∙ m.left;
    room = omega (arith, length-append line (b ∷ []), m.room);
  }

  pub number_made : {limit : ℕ} {minus : Bool} {z : ℤ} → limit ≤ largest_amount → Suits limit minus z → Made all vs (number limit minus ∷ rest) (z ∷ ws) line → Made all vs rest ws (line ++ signed_decimal z)
  number_made {limit} {minus} {z} small h m = record {
    to = λ f. (m.to f).1;
    from = λ f. m.from (h, f);
    left = append_assoc line (signed_decimal z) (fill rest ws) ∙ m.left;
    room = omega (arith, length-append line (signed_decimal z), length_signed limit minus z small h, m.room);
  }

  -- there is room for the number
  pub number_room : {limit : ℕ} {minus : Bool} (z : ℤ) → limit ≤ largest_amount → Suits limit minus z → Made all vs (number limit minus ∷ rest) ws line → length line + length (signed_decimal z) ≤ longest_line
  number_room {limit} {minus} z small h m = omega (arith, length_signed limit minus z small h, m.room)

-- there is no number left for the piece
pub number_none : {all : List Piece} {vs : List ℤ} {rest : List Piece} {line : List ℕ} {limit : ℕ} {minus : Bool} (ws : List ℤ) → length ws ≡ 0 → Made all vs (number limit minus ∷ rest) ws line → Fits all vs → ⊥
number_none [] e m f = m.to f
number_none (z ∷ ws) e m f = omega arith

pub at_piece : (pattern : List ℕ) (i : ℕ) {q : Piece} {vs ws : List ℤ} {line : List ℕ} → i < length pattern → piece_of (get_or pattern i 0) ≡ q
    → Made (pieces pattern) vs (drop i (pieces pattern)) ws line → Made (pieces pattern) vs (q ∷ drop (i + 1) (pieces pattern)) ws line
at_piece pattern i {q} {vs} {ws} {line} l e m = subst (λ ps. Made (pieces pattern) vs ps ws line) (piece_at pattern i q l e) m

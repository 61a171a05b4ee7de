-- The pieces of a pattern, one after another.
use Rattle.std.proofs.Common.{◌≡◌, ℕ, ◌+◌, ◌<◌, ◌≤◌, Bool, true, false, cond, eqb, List, [], ◌∷◌, length, get_or, drop, sym, ap, ◌∙◌, arith}
use Rattle.std.proofs.lemmas.List.{drop_more, drop_all, drop-map}
use Rattle.forms.specs.Numbers.{Limit}
use Rattle.forms.specs.Patterns.{Piece, text, number, piece_of, pieces, largest_count, largest_amount}

pub piece_at : (pattern : List ℕ) (i : ℕ) (q : Piece) → i < length pattern → piece_of (get_or pattern i 0) ≡ q → drop i (pieces pattern) ≡ q ∷ drop (i + 1) (pieces pattern)
piece_at pattern i q l e =
    drop-map piece_of i pattern ∙ ap pieces (drop_more pattern i 0 l) ∙ ap (λ t. piece_of (get_or pattern i 0) ∷ t) (sym (drop-map piece_of (i + 1) pattern)) ∙ ap (λ p. p ∷ drop (i + 1) (pieces pattern)) e

pub pieces_end : (pattern : List ℕ) (i : ℕ) → length pattern ≤ i → drop i (pieces pattern) ≡ []
pieces_end pattern i l = drop-map piece_of i pattern ∙ ap pieces (drop_all i pattern l)

-- a number takes every digit, and no more than 18 of them
abbrev pub Small : Piece → Type 0
Small (text b) = Unit {0}
Small (number limit minus) = Limit limit

pub small_piece : (b : ℕ) → Small (piece_of b)
small_piece b = go (eqb b 35) (eqb b 37)
  where
    go : (s t : Bool) → Small (cond s (number largest_count false) (cond t (number largest_amount true) (text b)))
    go true t = (omega arith, omega arith)
    go false true = (omega arith, omega arith)
    go false false = tt

abbrev pub AllSmall : List Piece → Type 0
AllSmall [] = Unit {0}
AllSmall (p ∷ ps) = Small p × AllSmall ps

pub all_small : (pattern : List ℕ) → AllSmall (pieces pattern)
all_small [] = tt
all_small (b ∷ pattern) = (small_piece b, all_small pattern)

-- How far a line has been read by a pattern.
use Rattle.std.proofs.Common.{◌≡◌, ℕ, ◌+◌, ◌^◌, ◌<◌, ◌≤◌, Bool, List, [], ◌∷◌, ◌++◌, length, get_or, drop, ℤ, ap, ◌∙◌, subst, append_assoc, append-nil, arith, length-append, length-drop}
use Rattle.std.specs.Fmt.{signed_decimal}
use Rattle.std.proofs.lemmas.List.{drop_all, drop_more, length_push}
use Rattle.forms.specs.declared.cursor.Cursor.{Cursor}
use Rattle.forms.specs.Faults.{Fault}
use Rattle.forms.specs.Patterns.{Piece, text, number, piece_of, pieces, Fits, fill, Lines, Sound, field_count, most_fields}
use Rattle.forms.specs.Numbers.{Stands, Differs, Found, Missing}
use Rattle.forms.proofs.Pieces.{piece_at, pieces_end}
use Rattle.forms.proofs.Patterns.{text_on, text_stops, number_on, end_stops}

-- the pieces `all` of the line xs have been read as far as the cursor is, with the values vs, and `rest` is left
pub record Sofar (all : List Piece) (xs : List ℕ) (rest : List Piece) (r : Cursor) (vs : List ℤ) : Type 0 where
  pub line : r.line.now ≡ xs
  pub sound : Sound rest
  pub room : length vs + field_count rest ≤ most_fields
  pub lifts : (n : ℕ) → Fault (Lines rest) (drop r.at xs) n → Fault (Lines all) xs (r.at + n)
  pub joins : (ws : List ℤ) → Fits rest ws → drop r.at xs ≡ fill rest ws → Fits all (vs ++ ws) × (xs ≡ fill all (vs ++ ws))

pub start : (all : List Piece) (xs : List ℕ) (r : Cursor) → Sound all → field_count all ≤ most_fields → (r.line.now ≡ xs) × (r.at ≡ 0) → Sofar all xs all r []
start all xs r sound few new = record {
  line = new.0;
  sound = sound;
  room = omega arith;
  lifts = λ n f. subst (λ m. Fault (Lines all) xs m) (omega arith) (rw new.1 at f);
  joins = λ ws f h. (f, rw new.1 at h);
}

module _ {all : List Piece} {xs : List ℕ} {rest : List Piece} {r : Cursor} {vs : List ℤ} where
  pub text_more : {b : ℕ} → Sofar all xs (text b ∷ rest) r vs → (r' : Cursor) → r'.line.now ≡ r.line.now → Stands r.line.now r.at b × (r'.at ≡ r.at + 1) → Sofar all xs rest r' vs
  text_more {b} s r' same next =
      let here = rw s.line at next.0 in
      let e = drop_more xs r.at 0 here.0 ∙ ap (λ c. c ∷ drop (r.at + 1) xs) here.1 in
      record {
        line = same ∙ s.line;
        sound = s.sound;
        room = s.room;
        lifts = λ n f. subst (λ m. Fault (Lines all) xs m) (omega (arith, next.1)) (s.lifts (1 + n) (rw e (text_on b rest (drop (r.at + 1) xs) n (rw next.1 at f))));
        joins = λ ws f h. s.joins ws f (e ∙ ap (λ t. b ∷ t) (rw next.1 at h));
      }

  pub text_fails : {b : ℕ} → Sofar all xs (text b ∷ rest) r vs → Differs r.line.now r.at b → Fault (Lines all) xs r.at
  text_fails {b} s h = subst (λ m. Fault (Lines all) xs m) (omega arith) (s.lifts 0 (text_stops b rest (drop r.at xs) (rw s.line at h)))

  pub number_more : {limit : ℕ} {minus : Bool} → Sofar all xs (number limit minus ∷ rest) r vs → (r' : Cursor) (z : ℤ) (vs' : List ℤ) → limit < 2 ^ 64 → r'.line.now ≡ r.line.now
      → Found limit minus r.line.now r.at r'.at z → vs' ≡ vs ++ (z ∷ []) → Sofar all xs rest r' vs'
  number_more {limit} {minus} s r' z vs' small same found values =
      let found' = rw s.line at found in
      let t = found'.1 in
      let n = length (signed_decimal z) in
      let long : r.at + n ≡ r'.at = omega (arith, ap length t.front, length-append (signed_decimal z) (drop r'.at xs), length-drop r.at xs, length-drop r'.at xs, found'.0, ap length s.line, r.within) in
      record {
        line = same ∙ s.line;
        sound = s.sound.1;
        room = omega (arith, ap length values, length_push vs z, s.room);
        lifts = λ m f. subst (λ k. Fault (Lines all) xs k) (omega arith)
            (s.lifts (n + m) (rw t.front (number_on limit minus small rest z (drop r'.at xs) m s.sound.0 t.suits t.stops f)));
        joins = λ ws f h. rw (values, append_assoc vs (z ∷ []) ws) (s.joins (z ∷ ws) (t.suits, f) (t.front ∙ ap (λ u. signed_decimal z ++ u) h));
      }

  pub number_fails : {limit : ℕ} {minus : Bool} → Sofar all xs (number limit minus ∷ rest) r vs → (place : ℕ) → Missing limit minus r.line.now r.at place → Fault (Lines all) xs place
  number_fails s place m = let m' = rw s.line at m in rw m'.1 (s.lifts m'.0 (m'.2 rest))

module _ (pattern xs : List ℕ) (i : ℕ) {r : Cursor} {vs : List ℤ} (s : Sofar (pieces pattern) xs (drop i (pieces pattern)) r vs) where
  pub at_piece : (q : Piece) → i < length pattern → piece_of (get_or pattern i 0) ≡ q → Sofar (pieces pattern) xs (q ∷ drop (i + 1) (pieces pattern)) r vs
  at_piece q l e = subst (λ ps. Sofar (pieces pattern) xs ps r vs) (piece_at pattern i q l e) s

  at_end : length pattern ≤ i → Sofar (pieces pattern) xs [] r vs
  at_end l = subst (λ ps. Sofar (pieces pattern) xs ps r vs) (pieces_end pattern i l) s

  pub end_fails : length pattern ≤ i → r.at < length r.line.now → Fault (Lines (pieces pattern)) xs r.at
  end_fails l h =
      let h' = rw s.line at h in
      subst (λ m. Fault (Lines (pieces pattern)) xs m) (omega arith) ((at_end l).lifts 0 (rw (drop_more xs r.at 0 h') (end_stops _ _)))

  pub done : length pattern ≤ i → length r.line.now ≤ r.at → Fits (pieces pattern) vs × (xs ≡ fill (pieces pattern) vs)
  done l h = let e = at_end l in rw (append-nil vs) at (e.joins [] tt (drop_all r.at xs (omega (arith, ap length s.line))))

-- On the lines of a text.
use Rattle.std.proofs.Common.{◌≡◌, ◌∙◌, ap, sym, refl, ℕ, List, [], ◌∷◌, ◌++◌, Bool, true, false, ◌||◌, inl, inr, append_assoc}
use Rattle.std.proofs.lemmas.Bool.{cases_Bool, eqb-true}
use Rattle.std.proofs.lemmas.List.{append-nil}
use Rattle.std.proofs.lemmas.List.Folds.{list_any-append}
use Rattle.std.specs.List.{list_any, AllByRecursion}
use Rattle.journal.specs.Text.{is_line_feed, lines_text}
use Rattle.journal.specs.Reading.{onto_whole, whole_lines, last_piece}

-- no byte of the text is a line feed
abbrev pub HasNoFeed : List ℕ → Type 0
HasNoFeed line = list_any is_line_feed line ≡ false

abbrev pub AreWhole : List (List ℕ) → Type 0
AreWhole lines = AllByRecursion HasNoFeed lines

-- if an "or" is false, both its parts are
pub or_false : (a b : Bool) → (a || b) ≡ false → (a ≡ false) × (b ≡ false)
or_false true b e = (e, cc)
or_false false b e = (refl, e)

-- two texts without a line feed, one after the other, have none
pub none_of_both : (a b : List ℕ) → HasNoFeed a → HasNoFeed b → HasNoFeed (a ++ b)
none_of_both a b e f = list_any-append is_line_feed a b ∙ rw (e, f) refl

-- the first line, and what follows its line feed
pub whole_lines-line : (line rest : List ℕ) → HasNoFeed line
    → whole_lines (line ++ 10 ∷ rest) ≡ line ∷ whole_lines rest
whole_lines-line [] rest e = refl
whole_lines-line (b ∷ line) rest e =
    let both = or_false (is_line_feed b) (list_any is_line_feed line) e in
    rw (both.0, whole_lines-line line rest both.1) refl

pub some_feed : (line rest : List ℕ) → list_any is_line_feed (line ++ 10 ∷ rest) ≡ true
some_feed [] rest = refl
some_feed (b ∷ line) rest = elim (cases_Bool (is_line_feed b)) [
  | inl is ↦ rw is refl
  | inr other ↦ rw (other, some_feed line rest) refl
]

-- the last piece of a text is the same if a line with its line feed stands before the text
pub last_piece-line : (line rest : List ℕ) → last_piece (line ++ 10 ∷ rest) ≡ last_piece rest
last_piece-line [] rest = refl
last_piece-line (b ∷ line) rest = elim (cases_Bool (is_line_feed b)) [
  | inl is ↦ rw is (last_piece-line line rest)
  | inr other ↦ rw (other, some_feed line rest) (last_piece-line line rest)
]

-- what no line feed ends is no line
pub whole_lines-none : (bytes : List ℕ) → HasNoFeed bytes → whole_lines bytes ≡ []
whole_lines-none [] e = refl
whole_lines-none (b ∷ bytes) e =
    let both = or_false (is_line_feed b) (list_any is_line_feed bytes) e in
    rw (both.0, whole_lines-none bytes both.1) refl

-- a text without a line feed is its own last piece
pub last_piece-none : (bytes : List ℕ) → HasNoFeed bytes → last_piece bytes ≡ bytes
last_piece-none [] e = refl
last_piece-none (b ∷ bytes) e =
    let both = or_false (is_line_feed b) (list_any is_line_feed bytes) e in
    rw (both.0, both.1) refl

-- the lines, and then those of the rest
pub whole_lines-lines : (lines : List (List ℕ)) (rest : List ℕ) → AreWhole lines
    → whole_lines (lines_text lines ++ rest) ≡ lines ++ whole_lines rest
whole_lines-lines [] rest all = refl
whole_lines-lines (line ∷ lines) rest all =
    ap whole_lines (append_assoc line (10 ∷ lines_text lines) rest)
    ∙ whole_lines-line line (lines_text lines ++ rest) all.0
    ∙ ap (λ (ls : List (List ℕ)). line ∷ ls) (whole_lines-lines lines rest all.1)

-- the last piece of a text is the same if lines with their line feeds stand before the text
pub last_piece-lines : (lines : List (List ℕ)) (rest : List ℕ)
    → last_piece (lines_text lines ++ rest) ≡ last_piece rest
last_piece-lines [] rest = refl
last_piece-lines (line ∷ lines) rest =
    ap last_piece (append_assoc line (10 ∷ lines_text lines) rest)
    ∙ last_piece-line line (lines_text lines ++ rest)
    ∙ last_piece-lines lines rest

-- the whole lines of a text that was made of whole lines are these lines
pub whole_lines-text : (lines : List (List ℕ)) → AreWhole lines
    → whole_lines (lines_text lines) ≡ lines
whole_lines-text lines all =
    ap whole_lines (sym (append-nil (lines_text lines))) ∙ whole_lines-lines lines [] all
    ∙ append-nil lines

-- the text of lines and more lines is the text of the first, then that of the others
pub lines_text-append : (lines more : List (List ℕ))
    → lines_text (lines ++ more) ≡ lines_text lines ++ lines_text more
lines_text-append [] more = refl
lines_text-append (line ∷ lines) more =
    ap (λ (text : List ℕ). line ++ 10 ∷ text) (lines_text-append lines more)
    ∙ sym (append_assoc line (10 ∷ lines_text lines) (lines_text more))

-- ---- each text is whole lines and a last piece

onto_text : (byte : ℕ) (lines : List (List ℕ)) (rest : List ℕ) → (lines ≡ [] → ⊥)
    → lines_text (onto_whole byte lines) ++ rest ≡ byte ∷ (lines_text lines ++ rest)
onto_text byte [] rest some = absurd (some refl)
onto_text byte (line ∷ lines) rest some = refl

onto_none : (byte : ℕ) (lines : List (List ℕ)) → onto_whole byte lines ≡ [] → lines ≡ []
onto_none byte [] e = refl
onto_none byte (line ∷ lines) e = cc e

pub some_lines : (bytes : List ℕ) → list_any is_line_feed bytes ≡ true → whole_lines bytes ≡ [] → ⊥
some_lines [] has none = cc has
some_lines (b ∷ bytes) has none = elim (cases_Bool (is_line_feed b)) [
  | inl is ↦ cc (rw is at none)
  | inr other ↦ some_lines bytes (rw other at has)
      (onto_none b (whole_lines bytes) (rw other at none))
]

feed_is : (b : ℕ) → is_line_feed b ≡ true → b ≡ 10
feed_is b is = eqb-true b 10 is

-- a text is its whole lines with their line feeds, then its last piece
pub parts : (text : List ℕ) → text ≡ lines_text (whole_lines text) ++ last_piece text
parts [] = refl
parts (b ∷ bytes) = elim (cases_Bool (is_line_feed b)) [
  | inl is ↦ rw is (let ten : b ≡ 10 = feed_is b is in (λ i. ten i ∷ bytes)
      ∙ ap (λ (t : List ℕ). 10 ∷ t) (parts bytes))
  | inr other ↦ elim (cases_Bool (list_any is_line_feed bytes)) [
    | inl some ↦ rw (other, some)
        (ap (λ (t : List ℕ). b ∷ t) (parts bytes)
        ∙ sym (onto_text b (whole_lines bytes) (last_piece bytes) (some_lines bytes some)))
    | inr none ↦ rw (other, none, whole_lines-none bytes none) refl
  ]
]

onto_are_whole : (byte : ℕ) (lines : List (List ℕ)) → is_line_feed byte ≡ false → AreWhole lines
    → AreWhole (onto_whole byte lines)
onto_are_whole byte [] other all = tt
onto_are_whole byte (line ∷ lines) other all = (rw other all.0, all.1)

-- no whole line of a text has a line feed in it
pub each_whole : (text : List ℕ) → AreWhole (whole_lines text)
each_whole [] = tt
each_whole (b ∷ bytes) = elim (cases_Bool (is_line_feed b)) [
  | inl is ↦ rw is (refl, each_whole bytes)
  | inr other ↦ rw other (onto_are_whole b (whole_lines bytes) other (each_whole bytes))
]

-- the last piece of a text has no line feed
pub piece_has_none : (text : List ℕ) → HasNoFeed (last_piece text)
piece_has_none [] = refl
piece_has_none (b ∷ bytes) = elim (cases_Bool (is_line_feed b)) [
  | inl is ↦ rw is (piece_has_none bytes)
  | inr other ↦ elim (cases_Bool (list_any is_line_feed bytes)) [
    | inl some ↦ rw (other, some) (piece_has_none bytes)
    | inr none ↦ rw (other, none) (rw (other, none) refl)
  ]
]

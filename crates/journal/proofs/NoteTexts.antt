-- The parts of a note's text.
use Rattle.std.proofs.Common.{◌≡◌, ◌∙◌, ap, sym, refl, ℕ, suc, ◌+◌, ◌^◌, ◌<◌, ◌≤◌, List, [], ◌∷◌, ◌++◌, length, take, drop, false, arith, append_assoc, length-append}
use Rattle.std.proofs.lemmas.List.{take_at, drop_at, take_all, length-take, drop-drop}
use Rattle.std.proofs.lemmas.List.Folds.{list_any-append}
use Rattle.journal.specs.Text.{is_zero, is_torn, sum_of, place_text}
use Rattle.journal.specs.Notes.{note_body, note_text, IsNote}
use Rattle.journal.specs.declared.page.note.Note.{Note}
use Rattle.journal.proofs.Fronts.{slice_within}
use Rattle.journal.proofs.TextLines.{or_false}
use Rattle.journal.proofs.Sums.{length-sum_of, length-place_text, place_blank, place_is_marked, sum_is_marked}

nothing : (n : ℕ) → take {A = ℕ} n [] ≡ []
nothing n = take_all n [] (omega arith)

behind_one : (k : ℕ) (t : List ℕ) → take k (drop 1 t) ≡ drop 1 (take (k + 1) t)
behind_one k [] = nothing k ∙ sym (ap (drop 1) (nothing (k + 1)))
behind_one k (b ∷ t) =
    let one : suc k ≡ k + 1 = omega arith in ap (λ (n : ℕ). drop 1 (take n (b ∷ t))) one

-- a part of a text that stands at the front of others
part_of : (bytes a b c : List ℕ) (n at k : ℕ) → take n bytes ≡ a ++ (b ++ c) → length a ≡ at
    → length b ≡ k → at + k ≤ n → take k (drop at bytes) ≡ b
part_of bytes a b c n at k is front size le =
    sym (slice_within n at k bytes le) ∙ ap (λ (t : List ℕ). take k (drop at t)) is
    ∙ ap (take k) (drop_at a (b ++ c) at front) ∙ take_at b c k size

module _ (note : Note) where
  abbrev id : List ℕ
  id = note.identity

  abbrev generation : List ℕ
  generation = place_text note.generation

  abbrev end : List ℕ
  end = place_text note.end

  abbrev sum : List ℕ
  sum = 32 ∷ note.sum

  abbrev check : List ℕ
  check = 32 ∷ (sum_of (note_body note) ++ 10 ∷ [])

  in_order : note_text note ≡ id ++ (generation ++ (end ++ (sum ++ check)))
  in_order = append_assoc id (generation ++ (end ++ sum)) check
      ∙ ap (λ (t : List ℕ). id ++ t) (append_assoc generation (end ++ sum) check)
      ∙ ap (λ (t : List ℕ). id ++ (generation ++ t)) (append_assoc end sum check)

  behind_id : note_text note ≡ (id ++ generation) ++ (end ++ (sum ++ check))
  behind_id = in_order ∙ sym (append_assoc id generation (end ++ (sum ++ check)))

  behind_end : note_text note ≡ ((id ++ generation) ++ end) ++ (sum ++ check)
  behind_end = behind_id ∙ sym (append_assoc (id ++ generation) end (sum ++ check))

  none_in : (xs ys : List ℕ) → is_torn (xs ++ ys) ≡ false
      → (is_torn xs ≡ false) × (is_torn ys ≡ false)
  none_in xs ys none = or_false (is_torn xs) (is_torn ys)
      (sym (list_any-append is_zero xs ys) ∙ none)

  -- what stands as a note, without a zero, is one
  pub is_note : length note.identity ≡ 32 → length note.sum ≡ 64 → note.generation < 2 ^ 64
      → note.end < 2 ^ 64 → is_torn (note_text note) ≡ false → IsNote note
  is_note count digits lt le marked =
      let one = none_in id (generation ++ (end ++ (sum ++ check)))
      (ap is_torn (sym in_order) ∙ marked) in
      let two = none_in generation (end ++ (sum ++ check)) one.1 in
      let three = none_in end (sum ++ check) two.1 in
      let four = none_in note.sum check three.1 in
      record {
        identity = count;
        marked = one.0;
        generation = lt;
        end = le;
        sum = digits;
        there = four.0;
      }

  module _ (is : IsNote note) where
    front_long : length (id ++ generation) ≡ 49
    front_long =
        let both = length-append id generation in
        let one = is.identity in
        let other = length-place_text note.generation in
        omega (arith, both, one, other)

    more_long : length ((id ++ generation) ++ end) ≡ 66
    more_long =
        let both = length-append (id ++ generation) end in
        let front = front_long in
        let other = length-place_text note.end in
        omega (arith, both, front, other)

    -- a note takes 197 bytes
    pub length-note_text : length (note_text note) ≡ 197
    length-note_text =
        let parts = ap length behind_end in
        let all = length-append ((id ++ generation) ++ end) (sum ++ check) in
        let back = length-append sum check in
        let last = length-append (sum_of (note_body note)) (10 ∷ []) in
        let front = more_long in
        let digits = is.sum in
        let other = length-sum_of (note_body note) in
        omega (arith, parts, all, back, last, front, digits, other)

    -- no byte of it is 0
    pub note_is_marked : is_torn (note_text note) ≡ false
    note_is_marked =
        ap is_torn in_order
        ∙ list_any-append is_zero id (generation ++ (end ++ (sum ++ check)))
        ∙ rw (
          is.marked,
          list_any-append is_zero generation (end ++ (sum ++ check)),
          place_is_marked note.generation,
          list_any-append is_zero end (sum ++ check),
          place_is_marked note.end,
          list_any-append is_zero note.sum check,
          is.there,
          list_any-append is_zero (sum_of (note_body note)) (10 ∷ []),
          sum_is_marked (note_body note),
        ) refl

    module _ (bytes : List ℕ) (stands : take 197 bytes ≡ note_text note) where
      -- bytes in which a note stands are no shorter than it
      pub long_enough : 197 ≤ length bytes
      long_enough =
          let size = ap length stands in
          let whole = length-note_text in
          let most = length-take 197 bytes in
          omega (arith, size, whole, most)

      pub identity_read : take 32 bytes ≡ id
      identity_read = part_of bytes [] id (generation ++ (end ++ (sum ++ check))) 197 0 32
          (stands ∙ in_order) refl is.identity (omega arith)

      generation_is : take 17 (drop 32 bytes) ≡ generation
      generation_is = part_of bytes id generation (end ++ (sum ++ check)) 197 32 17
          (stands ∙ in_order) is.identity (length-place_text note.generation) (omega arith)

      end_is : take 17 (drop 49 bytes) ≡ end
      end_is = part_of bytes (id ++ generation) end (sum ++ check) 197 49 17
          (stands ∙ behind_id) front_long (length-place_text note.end) (omega arith)

      sum_is : take 65 (drop 66 bytes) ≡ sum
      sum_is = part_of bytes ((id ++ generation) ++ end) sum check 197 66 65
          (stands ∙ behind_end) more_long (let size = is.sum in omega (arith, size)) (omega arith)

      -- what stands behind a blank
      digits_in : (at k : ℕ) → take k (drop (at + 1) bytes) ≡ drop 1 (take (k + 1) (drop at bytes))
      digits_in at k = ap (take k) (sym (drop-drop 1 at bytes)) ∙ behind_one k (drop at bytes)

      pub generation_read : 32 ∷ take 16 (drop 33 bytes) ≡ generation
      generation_read = ap (λ (t : List ℕ). 32 ∷ t) (digits_in 32 16
          ∙ ap (drop 1) generation_is) ∙ place_blank note.generation

      -- the digits of where the groups end
      pub end_read : 32 ∷ take 16 (drop 50 bytes) ≡ end
      end_read = ap (λ (t : List ℕ). 32 ∷ t) (digits_in 49 16
          ∙ ap (drop 1) end_is) ∙ place_blank note.end

      -- the last sum of the groups
      pub sum_read : take 64 (drop 67 bytes) ≡ note.sum
      sum_read = digits_in 66 64 ∙ ap (drop 1) sum_is

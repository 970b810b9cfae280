-- No byte of a note is 0, so a note that can be read lost none. (As in journal's proofs.)
use Rattle.std.proofs.Common.{◌≡◌, ◌⊎◌, ◌∙◌, ap, sym, refl, ℕ, zero, suc, ◌/◌, ◌%◌, ◌<◌, List, [], ◌∷◌, ◌++◌, take, drop, slice_index, true, false, inl, inr, arith, append_assoc}
use Rattle.std.proofs.lemmas.Bool.{cases_Bool, false≢true}
use Rattle.std.proofs.lemmas.List.Folds.{list_any-append}
use Rattle.std.specs.Int.{to_be_bytes, bytes_high_first, byte_at, w32, w64}
use Rattle.std.specs.List.{AllByRecursion}
use Rattle.sha2.specs.Sha256.{sha256, digest_bytes}
use Rattle.hex.specs.Hex.{encode_with, lower_digits}
use Rattle.journal.specs.Text.{is_zero, is_torn, sum_of, place_text}
use Rattle.journal.specs.Crashes.{Holes}
use Rattle.journal.specs.Notes.{note_body, note_text, IsNote, StandsAt}
use Rattle.journal.specs.declared.page.note.Note.{Note}

digit_is_marked : (k : ℕ) → k < 16 → is_zero (slice_index lower_digits k) ≡ false
digit_is_marked zero lt = refl
digit_is_marked (suc zero) lt = refl
digit_is_marked (suc (suc zero)) lt = refl
digit_is_marked (suc (suc (suc zero))) lt = refl
digit_is_marked (suc (suc (suc (suc zero)))) lt = refl
digit_is_marked (suc (suc (suc (suc (suc zero))))) lt = refl
digit_is_marked (suc (suc (suc (suc (suc (suc zero)))))) lt = refl
digit_is_marked (suc (suc (suc (suc (suc (suc (suc zero))))))) lt = refl
digit_is_marked (suc (suc (suc (suc (suc (suc (suc (suc zero)))))))) lt = refl
digit_is_marked (suc (suc (suc (suc (suc (suc (suc (suc (suc zero))))))))) lt = refl
digit_is_marked (suc (suc (suc (suc (suc (suc (suc (suc (suc (suc zero)))))))))) lt = refl
digit_is_marked (suc (suc (suc (suc (suc (suc (suc (suc (suc (suc (suc zero))))))))))) lt = refl
digit_is_marked (suc (suc (suc (suc (suc (suc (suc (suc (suc (suc (suc (suc zero)))))))))))) lt =
    refl
digit_is_marked (suc
    (suc (suc (suc (suc (suc (suc (suc (suc (suc (suc (suc (suc zero))))))))))))) lt = refl
digit_is_marked (suc
    (suc (suc (suc (suc (suc (suc (suc (suc (suc (suc (suc (suc (suc zero)))))))))))))) lt = refl
digit_is_marked (suc
    (suc (suc (suc (suc (suc (suc (suc (suc (suc (suc (suc (suc (suc (suc zero))))))))))))))) lt =
    refl
digit_is_marked (suc
    (suc (suc (suc (suc (suc (suc (suc (suc (suc (suc (suc (suc (suc (suc (suc more))))))))))))))))
    lt = absurd (omega (arith, lt))

abbrev AreBytes : List ℕ → Type 0
AreBytes bytes = AllByRecursion (λ b. b < 256) bytes

both_bytes : (xs ys : List ℕ) → AreBytes xs → AreBytes ys → AreBytes (xs ++ ys)
both_bytes [] ys all each = each
both_bytes (x ∷ xs) ys all each = (all.0, both_bytes xs ys all.1 each)

-- digits of bytes have no zero
digits_are_marked : (bytes : List ℕ) → AreBytes bytes
    → is_torn (encode_with lower_digits bytes) ≡ false
unfolding encode_with
digits_are_marked [] all = refl
digits_are_marked (b ∷ bytes) all =
    let small : b < 256 = all.0 in
    let high : b / 16 < 16 = omega (arith, small) in
    let low : b % 16 < 16 = omega arith in
    rw (
      digit_is_marked (b / 16) high,
      digit_is_marked
          (b % 16) low,
      digits_are_marked bytes all.1,
    ) refl

byte_is_one : (i n : ℕ) → byte_at i n < 256
byte_is_one zero n = omega arith
byte_is_one (suc i) n = omega arith

high_first_are_bytes : (k n : ℕ) → AreBytes (bytes_high_first k n)
high_first_are_bytes zero n = tt
high_first_are_bytes (suc k) n = (byte_is_one k n, high_first_are_bytes k n)

digest_are_bytes : (h : List ℕ) (n : ℕ) → AreBytes (digest_bytes h n)
unfolding digest_bytes
digest_are_bytes h zero = tt
digest_are_bytes h (suc n) =
    both_bytes (digest_bytes h n) (to_be_bytes w32 (slice_index h n)) (digest_are_bytes h n)
    (high_first_are_bytes 4 (slice_index h n))

sha_are_bytes : (text : List ℕ) → AreBytes (sha256 text)
unfolding sha256
sha_are_bytes text = digest_are_bytes _ 8

pub sum_is_marked : (text : List ℕ) → is_torn (sum_of text) ≡ false
unfolding sum_of
sum_is_marked text = digits_are_marked (sha256 text) (sha_are_bytes text)

place_are_bytes : (place : ℕ) → AreBytes (to_be_bytes w64 place)
place_are_bytes place = high_first_are_bytes 8 place

pub place_is_marked : (place : ℕ) → is_torn (place_text place) ≡ false
unfolding place_text
place_is_marked place = digits_are_marked (to_be_bytes w64 place) (place_are_bytes place)

-- ---- notes

module _ (note : Note) where
  abbrev id : List ℕ
  id = note.identity

  abbrev generation : List ℕ
  generation = place_text note.generation

  abbrev end : List ℕ
  end = place_text note.end

  abbrev sum : List ℕ
  sum = 32 ∷ note.sum

  abbrev check : List ℕ
  check = 32 ∷ (sum_of (note_body note) ++ 10 ∷ [])

  in_order : note_text note ≡ id ++ (generation ++ (end ++ (sum ++ check)))
  in_order = append_assoc id (generation ++ (end ++ sum)) check
      ∙ ap (λ (t : List ℕ). id ++ t) (append_assoc generation (end ++ sum) check)
      ∙ ap (λ (t : List ℕ). id ++ (generation ++ t)) (append_assoc end sum check)

  module _ (is : IsNote note) where
    -- no byte of it is 0
    pub note_is_marked : is_torn (note_text note) ≡ false
    note_is_marked =
        ap is_torn in_order
        ∙ list_any-append is_zero id (generation ++ (end ++ (sum ++ check)))
        ∙ rw (
          is.marked,
          list_any-append is_zero generation (end ++ (sum ++ check)),
          place_is_marked note.generation,
          list_any-append is_zero end (sum ++ check),
          place_is_marked note.end,
          list_any-append is_zero note.sum check,
          is.there,
          list_any-append is_zero (sum_of (note_body note)) (10 ∷ []),
          sum_is_marked (note_body note),
        ) refl

-- ---- lost bytes

pub whole_or_torn : (text left : List ℕ) → Holes text left → (left ≡ text) ⊎ (is_torn left ≡ true)
whole_or_torn [] [] holes = inl refl
whole_or_torn [] (c ∷ left) holes = absurd holes
whole_or_torn (b ∷ text) [] holes = absurd holes
whole_or_torn (b ∷ text) (c ∷ left) holes = elim holes.0 [
  | inl lost ↦ inr (rw lost refl)
  | inr same ↦ elim (whole_or_torn text left holes.1) [
    | inl all ↦ inl ((λ i. same i ∷ left) ∙ ap (λ (t : List ℕ). b ∷ t) all)
    | inr torn ↦ elim (cases_Bool (is_zero c)) [
      | inl gone ↦ inr (rw gone refl)
      | inr other ↦ inr (rw (other, torn) refl)
    ]
  ]
]

holes_behind : (n : ℕ) (old left : List ℕ) → Holes old left → Holes (drop n old) (drop n left)
holes_behind zero old left holes = holes
holes_behind (suc n) [] [] holes = holes
holes_behind (suc n) [] (c ∷ left) holes = absurd holes
holes_behind (suc n) (b ∷ old) [] holes = absurd holes
holes_behind (suc n) (b ∷ old) (c ∷ left) holes = holes_behind n old left holes.1

holes_before : (n : ℕ) (old left : List ℕ) → Holes old left → Holes (take n old) (take n left)
holes_before zero old left holes = tt
holes_before (suc n) [] [] holes = holes
holes_before (suc n) [] (c ∷ left) holes = absurd holes
holes_before (suc n) (b ∷ old) [] holes = absurd holes
holes_before (suc n) (b ∷ old) (c ∷ left) holes = (holes.0, holes_before n old left holes.1)

-- a note that can be read lost none
pub still_stands : (at : ℕ) (old left : List ℕ) (note : Note) → IsNote note → Holes old left
    → StandsAt at left note → StandsAt at old note
still_stands at old left note is holes stands =
    elim (whole_or_torn (take 197 (drop at old)) (take 197 (drop at left))
    (holes_before 197 (drop at old) (drop at left) (holes_behind at old left holes))) [
      | inl whole ↦ sym whole ∙ stands
      | inr torn ↦ absurd (false≢true (sym (note_is_marked note is) ∙ ap is_torn (sym stands)
          ∙ torn))
    ]

-- On sums and places: digits, none of them a line feed or a zero.
use Rattle.std.proofs.Common.{◌≡◌, ◌∙◌, ap, sym, refl, ℕ, zero, suc, ◌*◌, ◌/◌, ◌%◌, ◌^◌, ◌<◌, List, [], ◌∷◌, ◌++◌, length, take, drop, slice_index, false, Ok, arith, length-append}
use Rattle.std.proofs.lemmas.List.{take_at, drop_at}
use Rattle.std.proofs.lemmas.List.Folds.{list_any-append}
use Rattle.std.proofs.lemmas.Nat.{from_be_bytes-to_be_bytes_8}
use Rattle.std.specs.Int.{to_be_bytes, from_be_bytes, bytes_high_first, byte_at, w32, w64}
use Rattle.std.specs.List.{AllByRecursion}
use Rattle.sha2.specs.Sha256.{sha256, digest_bytes}
use Rattle.sha2.proofs.Facts256.{length-sha256}
use Rattle.hex.specs.Hex.{IsBytes, encode_with, encode_lower, decode_of, decode_sized, lower_digits}
use Rattle.hex.proofs.HexLemmas.{length-encode_with, decode_of-encode_lower, decode_of-same, decode_sized-encode_lower}
use Rattle.journal.specs.Text.{is_line_feed, is_zero, is_torn, sum_of, place_text, commit_of}
use Rattle.journal.proofs.TextLines.{HasNoFeed, none_of_both}

digit_is_none : (k : ℕ) → is_line_feed (slice_index lower_digits k) ≡ false
digit_is_none zero = refl
digit_is_none (suc zero) = refl
digit_is_none (suc (suc zero)) = refl
digit_is_none (suc (suc (suc zero))) = refl
digit_is_none (suc (suc (suc (suc zero)))) = refl
digit_is_none (suc (suc (suc (suc (suc zero))))) = refl
digit_is_none (suc (suc (suc (suc (suc (suc zero)))))) = refl
digit_is_none (suc (suc (suc (suc (suc (suc (suc zero))))))) = refl
digit_is_none (suc (suc (suc (suc (suc (suc (suc (suc zero)))))))) = refl
digit_is_none (suc (suc (suc (suc (suc (suc (suc (suc (suc zero))))))))) = refl
digit_is_none (suc (suc (suc (suc (suc (suc (suc (suc (suc (suc zero)))))))))) = refl
digit_is_none (suc (suc (suc (suc (suc (suc (suc (suc (suc (suc (suc zero))))))))))) = refl
digit_is_none (suc (suc (suc (suc (suc (suc (suc (suc (suc (suc (suc (suc zero)))))))))))) = refl
digit_is_none (suc (suc (suc (suc (suc (suc (suc (suc (suc (suc (suc (suc (suc zero))))))))))))) =
    refl
digit_is_none (suc (suc
    (suc (suc (suc (suc (suc (suc (suc (suc (suc (suc (suc (suc zero)))))))))))))) = refl
digit_is_none (suc (suc
    (suc (suc (suc (suc (suc (suc (suc (suc (suc (suc (suc (suc (suc zero))))))))))))))) = refl
digit_is_none (suc (suc
    (suc (suc (suc (suc (suc (suc (suc (suc (suc (suc (suc (suc (suc (suc more)))))))))))))))) =
    refl

digits_have_none : (bytes : List ℕ) → HasNoFeed (encode_with lower_digits bytes)
unfolding encode_with
digits_have_none [] = refl
digits_have_none (b ∷ bytes) =
    rw (digit_is_none (b / 16), digit_is_none (b % 16), digits_have_none bytes) refl

pub sum_has_none : (text : List ℕ) → HasNoFeed (sum_of text)
unfolding sum_of
sum_has_none text = digits_have_none (sha256 text)

-- a sum has 64 digits
pub length-sum_of : (text : List ℕ) → length (sum_of text) ≡ 64
unfolding sum_of
length-sum_of text = length-encode_with lower_digits (sha256 text)
    ∙ ap (λ (n : ℕ). 2 * n) (length-sha256 text)

digit_is_marked : (k : ℕ) → k < 16 → is_zero (slice_index lower_digits k) ≡ false
digit_is_marked zero lt = refl
digit_is_marked (suc zero) lt = refl
digit_is_marked (suc (suc zero)) lt = refl
digit_is_marked (suc (suc (suc zero))) lt = refl
digit_is_marked (suc (suc (suc (suc zero)))) lt = refl
digit_is_marked (suc (suc (suc (suc (suc zero))))) lt = refl
digit_is_marked (suc (suc (suc (suc (suc (suc zero)))))) lt = refl
digit_is_marked (suc (suc (suc (suc (suc (suc (suc zero))))))) lt = refl
digit_is_marked (suc (suc (suc (suc (suc (suc (suc (suc zero)))))))) lt = refl
digit_is_marked (suc (suc (suc (suc (suc (suc (suc (suc (suc zero))))))))) lt = refl
digit_is_marked (suc (suc (suc (suc (suc (suc (suc (suc (suc (suc zero)))))))))) lt = refl
digit_is_marked (suc (suc (suc (suc (suc (suc (suc (suc (suc (suc (suc zero))))))))))) lt = refl
digit_is_marked (suc (suc (suc (suc (suc (suc (suc (suc (suc (suc (suc (suc zero)))))))))))) lt =
    refl
digit_is_marked (suc
    (suc (suc (suc (suc (suc (suc (suc (suc (suc (suc (suc (suc zero))))))))))))) lt = refl
digit_is_marked (suc
    (suc (suc (suc (suc (suc (suc (suc (suc (suc (suc (suc (suc (suc zero)))))))))))))) lt = refl
digit_is_marked (suc
    (suc (suc (suc (suc (suc (suc (suc (suc (suc (suc (suc (suc (suc (suc zero))))))))))))))) lt =
    refl
digit_is_marked (suc
    (suc (suc (suc (suc (suc (suc (suc (suc (suc (suc (suc (suc (suc (suc (suc more))))))))))))))))
    lt = absurd (omega (arith, lt))

abbrev AreBytes : List ℕ → Type 0
AreBytes bytes = AllByRecursion (λ b. b < 256) bytes

both_bytes : (xs ys : List ℕ) → AreBytes xs → AreBytes ys → AreBytes (xs ++ ys)
both_bytes [] ys all each = each
both_bytes (x ∷ xs) ys all each = (all.0, both_bytes xs ys all.1 each)

each_byte : (xs : List ℕ) → AreBytes xs → IsBytes xs
each_byte [] all i = omega arith
each_byte (x ∷ xs) all zero = all.0
each_byte (x ∷ xs) all (suc i) = each_byte xs all.1 i

-- digits of bytes have no zero
digits_are_marked : (bytes : List ℕ) → AreBytes bytes
    → is_torn (encode_with lower_digits bytes) ≡ false
unfolding encode_with
digits_are_marked [] all = refl
digits_are_marked (b ∷ bytes) all =
    let small : b < 256 = all.0 in
    let high : b / 16 < 16 = omega (arith, small) in
    let low : b % 16 < 16 = omega arith in
    rw (
      digit_is_marked (b / 16) high,
      digit_is_marked
          (b % 16) low,
      digits_are_marked bytes all.1,
    ) refl

byte_is_one : (i n : ℕ) → byte_at i n < 256
byte_is_one zero n = omega arith
byte_is_one (suc i) n = omega arith

high_first_are_bytes : (k n : ℕ) → AreBytes (bytes_high_first k n)
high_first_are_bytes zero n = tt
high_first_are_bytes (suc k) n = (byte_is_one k n, high_first_are_bytes k n)

length-high_first : (k n : ℕ) → length (bytes_high_first k n) ≡ k
length-high_first zero n = refl
length-high_first (suc k) n = ap suc (length-high_first k n)

digest_are_bytes : (h : List ℕ) (n : ℕ) → AreBytes (digest_bytes h n)
unfolding digest_bytes
digest_are_bytes h zero = tt
digest_are_bytes h (suc n) =
    both_bytes (digest_bytes h n) (to_be_bytes w32 (slice_index h n)) (digest_are_bytes h n)
    (high_first_are_bytes 4 (slice_index h n))

sha_are_bytes : (text : List ℕ) → AreBytes (sha256 text)
unfolding sha256
sha_are_bytes text = digest_are_bytes _ 8

-- no byte of a sum is 0
pub sum_is_marked : (text : List ℕ) → is_torn (sum_of text) ≡ false
unfolding sum_of
sum_is_marked text = digits_are_marked (sha256 text) (sha_are_bytes text)

-- ---- places

place_are_bytes : (place : ℕ) → AreBytes (to_be_bytes w64 place)
place_are_bytes place = high_first_are_bytes 8 place

pub place_has_none : (place : ℕ) → HasNoFeed (place_text place)
unfolding place_text
place_has_none place = digits_have_none (to_be_bytes w64 place)

pub place_is_marked : (place : ℕ) → is_torn (place_text place) ≡ false
unfolding place_text
place_is_marked place = digits_are_marked (to_be_bytes w64 place) (place_are_bytes place)

pub length-place_text : (place : ℕ) → length (place_text place) ≡ 17
unfolding place_text
length-place_text place =
    let digits = length-encode_with lower_digits (to_be_bytes w64 place) in
    let eight : length (to_be_bytes w64 place) ≡ 8 = length-high_first 8 place in
    omega (arith, digits, eight)

-- the digits of a place are read as its bytes
pub place_decodes : (digits : List ℕ) (place : ℕ) → 32 ∷ digits ≡ place_text place
    → decode_sized digits 8 ≡ Ok (to_be_bytes w64 place)
unfolding place_text
place_decodes digits place is =
    ap (λ (t : List ℕ). decode_sized (drop 1 t) 8) is
    ∙ decode_sized-encode_lower (to_be_bytes w64 place) 8 (length-high_first 8 place)
    (each_byte (to_be_bytes w64 place) (place_are_bytes place))

-- a blank, and its digits
pub place_blank : (place : ℕ) → 32 ∷ drop 1 (place_text place) ≡ place_text place
unfolding place_text
place_blank place = refl

-- two places with one text are one
pub one_place : (a b : ℕ) → a < 2 ^ 64 → b < 2 ^ 64 → place_text a ≡ place_text b → a ≡ b
unfolding place_text
one_place a b fits fit same =
    let digits : encode_lower (to_be_bytes w64 a) ≡ encode_lower (to_be_bytes w64 b) =
    ap (drop 1) same in
    let bytes : to_be_bytes w64 a ≡ to_be_bytes w64 b =
    decode_of-same (encode_lower (to_be_bytes w64 a)) (to_be_bytes w64 a) (to_be_bytes w64 b)
    (decode_of-encode_lower (to_be_bytes w64 a) (each_byte (to_be_bytes w64 a) (place_are_bytes a)))
    (ap decode_of digits
    ∙ decode_of-encode_lower (to_be_bytes w64 b)
    (each_byte (to_be_bytes w64 b) (place_are_bytes b))) in
    sym (from_be_bytes-to_be_bytes_8 a fits) ∙ ap (from_be_bytes w64) bytes
    ∙ from_be_bytes-to_be_bytes_8 b fit

-- ---- commit lines

pub commit_has_none : (text : List ℕ) (start : ℕ) → HasNoFeed (commit_of (sum_of text) start)
commit_has_none text start =
    none_of_both (sum_of text) (place_text start) (sum_has_none text) (place_has_none start)

pub commit_is_marked : (text : List ℕ) (start : ℕ) → is_torn (commit_of (sum_of text) start) ≡ false
commit_is_marked text start = list_any-append is_zero (sum_of text) (place_text start)
    ∙ rw (sum_is_marked text, place_is_marked start) refl

pub length-commit : (text : List ℕ) (start : ℕ) → length (commit_of (sum_of text) start) ≡ 82
length-commit text start =
    let sum = length-sum_of text in
    let place = length-place_text start in
    let both = length-append (sum_of text) (place_text start) in
    omega (arith, sum, place, both)

-- the place in a commit line
pub commit_place : (text : List ℕ) (start : ℕ)
    → drop 65 (commit_of (sum_of text) start) ≡ place_text start
commit_place text start =
    drop_at (35 ∷ sum_of text) (place_text start) 65 (ap suc (length-sum_of text))

pub same_place : (text other : List ℕ) (start elsewhere : ℕ) → start < 2 ^ 64 → elsewhere < 2 ^ 64
    → commit_of (sum_of text) start ≡ commit_of (sum_of other) elsewhere → start ≡ elsewhere
same_place text other start elsewhere fits fit same =
    one_place start elsewhere fits fit
    (sym (commit_place text start) ∙ ap (drop 65) same ∙ commit_place other elsewhere)

-- the sum in it
pub same_sum : (text other : List ℕ) (start elsewhere : ℕ)
    → commit_of (sum_of text) start ≡ commit_of (sum_of other) elsewhere
    → sum_of text ≡ sum_of other
same_sum text other start elsewhere same =
    sym (take_at (sum_of text) (place_text start) 64 (length-sum_of text))
    ∙ ap (λ (line : List ℕ). take 64 (drop 1 line)) same
    ∙ take_at (sum_of other) (place_text elsewhere) 64 (length-sum_of other)

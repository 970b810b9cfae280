-- Lower-case hexadecimal digits stand as their bytes stand.
use Rattle.std.proofs.Common.{◌++◌, ◌≡◌, ℕ, zero, suc, ◌+◌, ◌*◌, ◌/◌, ◌%◌, ◌<◌, ◌==◌, Bool, true, ◌&&◌, inl, inr, take, drop, slice_set, ◌≤◌, List, [], ◌∷◌, slice_index, Option, Some, None, Result, Ok, Err, refl, sym, ap, ◌∙◌, arith, if◌then◌else◌}
use Rattle.std.specs.Prelude.{nat_lt, nat_eq, bytes_eq, length}
use Rattle.std.proofs.lemmas.List.{append_assoc, append-nil, drop_all, take_all, take_more}
use Rattle.hex.proofs.HexLemmas.{IsAscii-encode_with, decode_of-encode_lower, decode_pairs-ok}
use Rattle.std.proofs.lemmas.Str.{IsAscii-append}
use Rattle.std.proofs.lemmas.Str.Ascii.{IsAscii-nil, IsAscii-cons}
use Rattle.std.specs.Str.{IsAscii}
use Rattle.hex.proofs.Pairs.{encode_with-drop, take-two_writes}
use Rattle.std.specs.List.{list_all}
use Rattle.std.specs.Ordering.{nat_cmp, ordering_then}
use Rattle.std.specs.Cmp.Lexicographic.{slice_cmp}
use Rattle.std.specs.declared.cmp.Ordering.{Ordering}
use Rattle.std.proofs.lemmas.Cmp.{ranked, by_ranked, tied_itself, nat_cmp_total}
use Rattle.std.proofs.lemmas.Bool.{and_parts, cases_lt, eqb-true}
use Rattle.std.proofs.lemmas.Bool.Decides.{nat_tests}
use Rattle.std.specs.Result.{result_unwrap_or}
use Rattle.hex.specs.declared.error.FromHexError.{FromHexError}
use Rattle.hex.specs.Hex.{
  IsBytes,
  decode_of,
  decode_pairs,
  digit_or_error,
  encode_lower,
  encode_with,
  lower_digits,
  hex_digit_value,
  pair_value,
  value_at,
  ◌>>=◌,
}
use Rattle.meta_types.specs.Text.{is_hexadecimal}
use Rattle.meta_types.specs.Digits.{value_of}

-- a text is ASCII where a test of each byte, which computes, says so
pub all_ascii : (s : List ℕ) → list_all (λ c. nat_lt c 128) s ≡ true → IsAscii s
all_ascii [] h = IsAscii-nil
all_ascii (c ∷ s) h =
    let parts = and_parts (nat_lt c 128) (list_all (λ d. nat_lt d 128) s) h in
    let below = parts.0 in
    IsAscii-cons c s (grind (arith, nat_tests)) (all_ascii s parts.1)

-- the code of a digit
abbrev code_of : ℕ → ℕ
code_of d = if nat_lt d 10 then d + 48 else d + 87

-- the test of the first n places of the table, which computes
abbrev all_codes : ℕ → Bool
all_codes zero = true
all_codes (suc n) = (slice_index lower_digits n == code_of n) && all_codes n

codes_at : (n k : ℕ) → all_codes n ≡ true → k < n → (slice_index lower_digits k == code_of k) ≡ true
codes_at zero k h lt = absurd (omega arith)
codes_at (suc n) k h lt =
    let parts = and_parts (slice_index lower_digits n == code_of n) (all_codes n) h in
    elim (cases_lt k n) [
      | inl below ↦ codes_at n k parts.1 below
      | inr top ↦
          let e : k ≡ n = omega arith in
          rw e parts.0
    ]

digit_is : (d : ℕ) → d < 16 → slice_index lower_digits d ≡ code_of d
digit_is d lt = eqb-true (slice_index lower_digits d) (code_of d) (codes_at 16 d refl lt)

-- two numbers and two others that stand alike compare alike
cmp_alike : (a b c d : ℕ) → (a < b → c < d) → (a ≡ b → c ≡ d) → (b < a → d < c) → nat_cmp c d ≡
    nat_cmp a b
cmp_alike a b c d less same more =
    by_ranked (a < b) (a ≡ b) (b < a) (nat_cmp a b) (ranked a b (nat_cmp a b) refl)
    (λ e h. let lt = less h in grind (arith, nat_tests))
    (λ e h. let eq = same h in grind (arith, nat_tests))
    (λ e h. let gt = more h in grind (arith, nat_tests))

-- digits stand as their values
digits_alike : (a b : ℕ) → a < 16 → b < 16 → nat_cmp (slice_index lower_digits a) (slice_index
    lower_digits b) ≡ nat_cmp a b
digits_alike a b la lb =
    let ca = digit_is a la in
    let cb = digit_is b lb in
    cmp_alike a b (slice_index lower_digits a) (slice_index lower_digits b) (λ h. grind (
      arith,
      nat_tests,
    )) (λ h. ap (slice_index lower_digits) h) (λ h. grind (arith, nat_tests))

-- two digits stand as their byte
byte_alike : (x y : ℕ) (r : Ordering) → ordering_then (nat_cmp (x / 16) (y / 16)) (ordering_then
    (nat_cmp (x % 16) (y % 16)) r) ≡ ordering_then (nat_cmp x y) r
byte_alike x y r = grind (arith, nat_tests)

-- texts stand as their bytes
pub order_kept : (xs ys : List ℕ) → IsBytes xs → IsBytes ys → slice_cmp nat_cmp (encode_lower xs)
    (encode_lower ys) ≡ slice_cmp nat_cmp xs ys
unfolding encode_with
order_kept [] [] h k = refl
order_kept [] (y ∷ ys) h k = refl
order_kept (x ∷ xs) [] h k = refl
order_kept (x ∷ xs) (y ∷ ys) h k =
    let fx : x < 256 = h 0 in
    let fy : y < 256 = k 0 in
    let high = digits_alike (x / 16) (y / 16) (omega arith) (omega arith) in
    let low = digits_alike (x % 16) (y % 16) (omega arith) (omega arith) in
    let ih = order_kept xs ys (λ i. h (suc i)) (λ i. k (suc i)) in
    rw (high, low, ih) (byte_alike x y (slice_cmp nat_cmp xs ys))

-- ---- equal texts

eq_alike : (a b c d : ℕ) → (a ≡ b → c ≡ d) → (c ≡ d → a ≡ b) → nat_eq c d ≡ nat_eq a b
eq_alike a b c d same back = grind (arith, nat_tests)

-- ---- reading

-- a lower-case digit is that of its value
digit_back : (c v : ℕ) → is_hexadecimal c ≡ true → hex_digit_value c ≡ Some v → slice_index
    lower_digits v ≡ c
digit_back c v h e =
    let small : v < 16 = grind (arith, nat_tests) in
    let is = digit_is v small in
    grind (arith, nat_tests)

bind_ok : {A B : Type 0} (r : Result A FromHexError) (f : A → Result B FromHexError) (y : B)
    → (r >>= f) ≡ Ok y → (x : A) × (r ≡ Ok x) × (f x ≡ Ok y)
bind_ok (Ok x) f y h = (x, refl, h)
bind_ok (Err e) f y h = cc h

digit_read : (c i : ℕ) (o : Option ℕ) (v : ℕ) → digit_or_error c i o ≡ Ok v → o ≡ Some v
digit_read c i (Some w) v h = ap Some (ap (λ (r : Result ℕ FromHexError). result_unwrap_or r 0) h)
digit_read c i None v h = cc h

hexadecimal_small : (c v : ℕ) → hex_digit_value c ≡ Some v → v < 16
hexadecimal_small c v h = grind (arith)

-- lower-case digits are those of the bytes that they read as
pub text_kept : (i : ℕ) (s bytes : List ℕ) → list_all is_hexadecimal s ≡ true → decode_pairs i s ≡
    Ok bytes → encode_lower bytes ≡ s
unfolding decode_pairs encode_with
text_kept i [] bytes p h =
    let e : [] ≡ bytes = ap (λ (r : Result (List ℕ) FromHexError). result_unwrap_or r []) h in
    rw (← e) refl
text_kept i (a ∷ []) bytes p h = cc h
text_kept i (a ∷ b ∷ rest) bytes p h =
    let all = and_parts (is_hexadecimal a) (is_hexadecimal b && list_all is_hexadecimal rest) p in
    let more = and_parts (is_hexadecimal b) (list_all is_hexadecimal rest) all.1 in
    let p0 = bind_ok (pair_value a b i) _ bytes h in
    let p1 = bind_ok (value_at a i) _ p0.0 p0.1 in
    let p2 = bind_ok (value_at b (i + 1)) _ p0.0 p1.2 in
    let p3 = bind_ok (decode_pairs (i + 2) rest) _ bytes p0.2 in
    let ih = text_kept (i + 2) rest p3.0 more.1 p3.1 in
    let e : p0.0 ∷ p3.0 ≡ bytes = ap (λ (r : Result (List ℕ) FromHexError). result_unwrap_or r [])
    p3.2 in
    let va = digit_read a i (hex_digit_value a) p1.0 p1.1 in
    let vb = digit_read b (i + 1) (hex_digit_value b) p2.0 p2.1 in
    let sa = hexadecimal_small a p1.0 va in
    let sb = hexadecimal_small b p2.0 vb in
    let byte : p1.0 * 16 + p2.0 ≡ p0.0 = ap (λ (r : Result ℕ FromHexError). result_unwrap_or r 0)
    p2.2 in
    let high : p0.0 / 16 ≡ p1.0 = omega (arith, byte, sa, sb) in
    let low : p0.0 % 16 ≡ p2.0 = omega (arith, byte, sa, sb) in
    let da : slice_index lower_digits (p0.0 / 16) ≡ a = ap (slice_index lower_digits) high ∙
    digit_back a p1.0 all.0 va in
    let db : slice_index lower_digits (p0.0 % 16) ≡ b = ap (slice_index lower_digits) low ∙
    digit_back b p2.0 more.0 vb in
    rw (← e) (rw (da, db, ih) refl)

-- a digit's value is what the decoder finds
value_read : (c : ℕ) → is_hexadecimal c ≡ true → hex_digit_value c ≡ Some (value_of c)
value_read c h = grind (arith, nat_tests)

-- two digits are read as their byte
pub pair_read : (a b i : ℕ) → is_hexadecimal a ≡ true → is_hexadecimal b ≡ true → pair_value a b i ≡
    Ok (value_of a * 16 + value_of b)
pair_read a b i ha hb =
    ap (λ (o : Option ℕ). digit_or_error a i o >>= (λ (high : ℕ). value_at b (i + 1) >>= (λ (low :
    ℕ). Ok (high * 16 + low)))) (value_read a ha)
    ∙ ap (λ (o : Option ℕ). digit_or_error b (i + 1) o >>= (λ (low : ℕ). Ok (value_of a * 16 +
    low))) (value_read b hb)

-- each of the digits is one
pub digit_there : (s : List ℕ) (i : ℕ) → list_all is_hexadecimal s ≡ true → i < length s →
    is_hexadecimal (slice_index s i) ≡ true
digit_there [] i h lt = absurd (omega (arith, lt))
digit_there (c ∷ s) zero h lt = (and_parts (is_hexadecimal c) (list_all is_hexadecimal s) h).0
digit_there (c ∷ s) (suc i) h lt = digit_there s i (and_parts (is_hexadecimal c) (list_all
    is_hexadecimal s) h).1 (omega (arith, lt))

-- what was read has the digits as its text, and is bytes
pub read_kept : (s out : List ℕ) → list_all is_hexadecimal s ≡ true → decode_pairs 0 s ≡ Ok out →
    (encode_lower out ≡ s) × IsBytes out
read_kept s out digits read = (text_kept 0 s out digits read, (decode_pairs-ok 0 s out read).2)

-- what was written is read back
pub read_back : (bytes : List ℕ) → IsBytes bytes → result_unwrap_or (decode_of (encode_lower bytes))
    [] ≡ bytes
read_back bytes fit = ap (λ (r : Result (List ℕ) FromHexError). result_unwrap_or r [])
    (decode_of-encode_lower bytes fit)

-- ---- whether all are digits

-- a test of one more
pub list_all-push : (p : ℕ → Bool) (xs : List ℕ) (x : ℕ) → list_all p (xs ++ x ∷ []) ≡ (list_all p
    xs && p x)
list_all-push p [] x = grind (arith, nat_tests)
list_all-push p (y ∷ xs) x =
    let ih = list_all-push p xs x in
    grind (arith, nat_tests)

-- the greatest value is small as long as each is that of a digit
pub greatest_more : (s : List ℕ) (i g next : ℕ) → i < length s → nat_lt next 16 ≡ (nat_lt g 16 &&
    nat_lt (value_of (slice_index s i)) 16)
    → nat_lt g 16 ≡ list_all is_hexadecimal (take i s) → nat_lt next 16 ≡ list_all is_hexadecimal
    (take (i + 1) s)
greatest_more s i g next lt both inv =
    let x = slice_index s i in
    let one : nat_lt (value_of x) 16 ≡ is_hexadecimal x = grind (arith, nat_tests) in
    both ∙ (λ k. inv k && one k) ∙ sym (list_all-push is_hexadecimal (take i s) x)
    ∙ sym (ap (list_all is_hexadecimal) (take_more s i 0 lt))

-- ---- writing

-- two digits more are written
pub write_step : (bytes out whole : List ℕ) (o i x y : ℕ) → i < length bytes → o + 1 < length out
    → x ≡ slice_index lower_digits (slice_index bytes i / 16) → y ≡ slice_index lower_digits
    (slice_index bytes i % 16)
    → take o out ++ encode_lower (drop i bytes) ≡ whole
    → take (o + 2) (slice_set (slice_set out o x) (o + 1) y) ++ encode_lower (drop (i + 1) bytes) ≡
    whole
write_step bytes out whole o i x y lt fits ex ey inv =
    let front = take-two_writes out o x y fits in
    let rest = encode_with-drop lower_digits bytes i lt in
    rw (front, append_assoc, ex, ey) (rw rest at inv)

-- all are written
pub write_done : (bytes out whole : List ℕ) (o i : ℕ) → length bytes ≤ i → length out ≤ o
    → take o out ++ encode_lower (drop i bytes) ≡ whole → out ≡ whole
unfolding encode_with
write_done bytes out whole o i lt fits inv =
    let d = drop_all i bytes lt in
    let a = take_all o out fits in
    rw (d, a, append-nil) at inv

-- digits behind a front are ASCII, as the front is
pub written_ascii : (front xs : List ℕ) → IsAscii front → IsAscii (front ++ encode_lower xs)
written_ascii front xs h = IsAscii-append front (encode_lower xs) h (IsAscii-encode_with
    lower_digits xs (all_ascii lower_digits refl))

-- ---- behind the same front

front_cmp : (front xs ys : List ℕ) → slice_cmp nat_cmp (front ++ xs) (front ++ ys) ≡ slice_cmp
    nat_cmp xs ys
front_cmp [] xs ys = refl
front_cmp (c ∷ front) xs ys = rw (tied_itself nat_cmp_total c) (front_cmp front xs ys)

-- texts of one algorithm stand as their bytes
pub texts_stand : (front xs ys : List ℕ) → IsBytes xs → IsBytes ys → slice_cmp nat_cmp xs ys ≡
    slice_cmp nat_cmp (front ++ encode_lower xs) (front ++ encode_lower ys)
texts_stand front xs ys h k = sym (order_kept xs ys h k) ∙ sym (front_cmp front (encode_lower xs)
    (encode_lower ys))

digits_equal : (a b : ℕ) → a < 16 → b < 16 → nat_eq (slice_index lower_digits a) (slice_index
    lower_digits b) ≡ nat_eq a b
digits_equal a b la lb =
    let ca = digit_is a la in
    let cb = digit_is b lb in
    grind (arith, nat_tests)

byte_equal : (x y : ℕ) (r : Bool) → (nat_eq (x / 16) (y / 16) && (nat_eq (x % 16) (y % 16) && r)) ≡
    (nat_eq x y && r)
byte_equal x y r = grind (arith, nat_tests)

equal_kept : (xs ys : List ℕ) → IsBytes xs → IsBytes ys → bytes_eq (encode_lower xs) (encode_lower
    ys) ≡ bytes_eq xs ys
unfolding encode_with
equal_kept [] [] h k = refl
equal_kept [] (y ∷ ys) h k = refl
equal_kept (x ∷ xs) [] h k = refl
equal_kept (x ∷ xs) (y ∷ ys) h k =
    let fx : x < 256 = h 0 in
    let fy : y < 256 = k 0 in
    let high = digits_equal (x / 16) (y / 16) (omega arith) (omega arith) in
    let low = digits_equal (x % 16) (y % 16) (omega arith) (omega arith) in
    let ih = equal_kept xs ys (λ i. h (suc i)) (λ i. k (suc i)) in
    rw (high, low, ih) (byte_equal x y (bytes_eq xs ys))

front_equal : (front xs ys : List ℕ) → bytes_eq (front ++ xs) (front ++ ys) ≡ bytes_eq xs ys
front_equal [] xs ys = refl
front_equal (c ∷ front) xs ys =
    let one : nat_eq c c ≡ true = grind (arith, nat_tests) in
    rw one (front_equal front xs ys)

-- texts of one algorithm are equal as their bytes are
pub texts_equal : (front xs ys : List ℕ) → IsBytes xs → IsBytes ys → bytes_eq xs ys ≡ bytes_eq
    (front ++ encode_lower xs) (front ++ encode_lower ys)
texts_equal front xs ys h k = sym (equal_kept xs ys h k) ∙ sym (front_equal front (encode_lower xs)
    (encode_lower ys))

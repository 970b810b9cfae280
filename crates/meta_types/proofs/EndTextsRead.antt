-- The text of an end reads as that end.
use Rattle.std.proofs.Common.{◌≡◌, ℕ, zero, suc, ◌+◌, ◌-◌, ◌*◌, ◌/◌, ◌%◌, ◌<◌, ◌≤◌, ◌^◌, ◌==◌, Bool, true, false, [], ◌∷◌, ◌++◌, length, take, drop, refl, sym, ap, subst, ◌∙◌, arith, nat_lt, take_while, pos, negsuc, ◌+ℤ◌, ◌-ℤ◌, ◌*ℤ◌, Some, None}
use Rattle.std.specs.Prelude.{nat_le, if◌then◌else◌, codes, ◌&&◌, option_map, int_le, neg_ℤ}
use Rattle.std.specs.List.{list_all, prefix_len}
use mathlib.Core.Logic.{dite}
use Rattle.std.proofs.Math.Decide.{dec_le}
use Rattle.std.proofs.Math.Nat.{pow-suc, mul_assoc}
use Rattle.std.proofs.lemmas.Bool.{and_parts, and_from, le-leb}
use Rattle.std.proofs.lemmas.Bool.Decides.{nat_tests}
use Rattle.std.proofs.lemmas.Int.{ints}
use Rattle.std.proofs.lemmas.List.{length-append}
use Rattle.meta_types.specs.Text.{Text, is_digit}
use Rattle.meta_types.specs.Time.{days_in, days_before, days_to_year, day_of, number_from, number_at, has_form, fraction_of, fraction_in, zone_in, offset_of, has_fraction, is_real, instant_of}
use Rattle.meta_types.specs.EndTexts.{digits_of, digits_to, year_of, month_of, date_of, clock_of, fraction_text, end_text}
use Rattle.meta_types.specs.Worked.Times.{EndsAreRead}

-- ---- years

at_least : (a b : ℕ) → nat_le a b ≡ true → a ≤ b
at_least a b h = grind (arith, nat_tests)

less : (a b : ℕ) → nat_le a b ≡ false → b < a
less a b h = grind (arith, nat_tests)

below : (a b : ℕ) → nat_lt a b ≡ true → a < b
below a b h = grind (arith, nat_tests)

not_below : (a b : ℕ) → nat_lt a b ≡ false → b ≤ a
not_below a b h = grind (arith, nat_tests)

-- the day is of the year
abbrev IsOf : ℕ → ℕ → Type 0
IsOf day year = (days_to_year year ≤ day) × (day < days_to_year (year + 1))

pub day_of_year : (day : ℕ) → IsOf day (year_of day)
day_of_year day =
    go (nat_le (days_to_year (guess + 1)) day) (nat_lt day (days_to_year guess)) refl refl
  where
    guess : ℕ
    guess = day * 400 / 146097

    go : (later earlier : Bool) → nat_le (days_to_year (guess + 1)) day ≡ later
        → nat_lt day (days_to_year guess) ≡ earlier
        → IsOf day (if later then guess + 1 else (if earlier then guess - 1 else guess))
    go true earlier h k = let l = at_least (days_to_year (guess + 1)) day h in (l, omega arith)
    go false true h k =
        let l = below day (days_to_year guess) k in (omega (arith, l), omega (arith, l))
    go false false h k =
        (not_below day (days_to_year guess) k, less (days_to_year (guess + 1)) day h)

-- a year has the days of its twelve months
pub year_long : (year : ℕ) → days_to_year (year + 1) ≡ days_to_year year + days_before year 13
year_long year = grind (arith, nat_tests)

-- ---- months

-- the day is of the month
abbrev IsOfMonth : ℕ → ℕ → ℕ → Type 0
IsOfMonth year day month =
    (1 ≤ month) × (days_before year month ≤ day) × (day < days_before year (suc month))

pub day_of_month : (year day count : ℕ) → day < days_before year (count + 2)
    → IsOfMonth year day (month_of year day count) × (month_of year day count ≤ count + 1)
day_of_month year day zero h = ((omega arith, omega arith, h), omega arith)
day_of_month year day (suc count) h =
    go (nat_le (days_before year (count + 2)) day) refl
    (λ before. day_of_month year day count before)
  where
    next : suc count + 2 ≡ suc (count + 2)
    next = omega arith

    Before : Type 0
    Before =
        day < days_before year (count + 2) → IsOfMonth year day (month_of year day count)
        × (month_of year day count ≤ count + 1)

    go : (begun : Bool) → nat_le (days_before year (count + 2)) day ≡ begun → Before
        → IsOfMonth year day (if begun then count + 2 else month_of year day count)
        × ((if begun then count + 2 else month_of year day count) ≤ suc count + 1)
    go true e before = (
      (
        omega arith,
        at_least (days_before year (count + 2)) day e,
        subst
            (λ (k : ℕ). day < days_before year k) next h,
      ),
      omega arith,
    )
    go false e before =
        let rest = before (less (days_before year (count + 2)) day e) in
        (rest.0, let l = rest.1 in omega (arith, l))

-- ---- digits

pub number-push : (before : ℕ) (text : Text) (digit : ℕ)
    → number_from before (text ++ digit ∷ []) ≡ number_from before text * 10 + (digit - 48)
number-push before [] digit = refl
number-push before (first ∷ text) digit = number-push (before * 10 + (first - 48)) text digit

pub length_digits : (count n : ℕ) → length (digits_of count n) ≡ count
length_digits zero n = refl
length_digits (suc count) n =
    let l = length-append (digits_of count (n / 10)) ((48 + n % 10) ∷ []) in
    let rest = length_digits count (n / 10) in
    omega (arith, l, rest)

tens : (count : ℕ) → 10 ^ suc count ≡ 10 * 10 ^ count
tens count = omega (arith, pow-suc 10 count)

-- the digits of a number that has no more write it
pub number_of_digits : (count n : ℕ) → n < 10 ^ count → number_from 0 (digits_of count n) ≡ n
number_of_digits zero n small = omega (arith, small)
number_of_digits (suc count) n small =
    let ten = tens count in
    let rest = number_of_digits count (n / 10) (omega (arith, small, ten)) in
    number-push 0 (digits_of count (n / 10)) (48 + n % 10)
    ∙ ap (λ (k : ℕ). k * 10 + (48 + n % 10 - 48)) rest ∙ omega arith

-- ---- a fraction

digit_is : (n : ℕ) → is_digit (48 + n % 10) ≡ true
digit_is n = grind (arith, nat_tests)

one_more : (n : ℕ) → 1 + n ≡ suc n
one_more n = omega arith

take_digits : (text rest : Text) → list_all is_digit text ≡ true
    → take_while is_digit (text ++ 90 ∷ rest) ≡ text
take_digits [] rest h = refl
take_digits (digit ∷ text) rest h =
    let both = and_parts (is_digit digit) (list_all is_digit text) h in
    rw both.0 (ap (λ (n : ℕ). take n (digit ∷ (text ++ 90 ∷ rest)))
    (one_more (prefix_len is_digit (text ++ 90 ∷ rest)))
    ∙ ap (λ l. digit ∷ l) (take_digits text rest both.1))

drop_digits : (text rest : Text) → drop (length text) (text ++ rest) ≡ rest
drop_digits [] rest = refl
drop_digits (digit ∷ text) rest = drop_digits text rest

all_push : (text : Text) (digit : ℕ) → list_all is_digit text ≡ true → is_digit digit ≡ true
    → list_all is_digit (text ++ digit ∷ []) ≡ true
all_push [] digit h k = and_from (is_digit digit) true k refl
all_push (first ∷ text) digit h k =
    let both = and_parts (is_digit first) (list_all is_digit text) h in
    and_from (is_digit first) (list_all is_digit (text ++ digit ∷ [])) both.0
    (all_push text digit both.1 k)

digits_all : (count n : ℕ) → list_all is_digit (digits_of count n) ≡ true
digits_all zero n = refl
digits_all (suc count) n =
    all_push (digits_of count (n / 10)) (48 + n % 10) (digits_all count (n / 10)) (digit_is n)

-- digits that, filled with zeros to the count, write the number
pub record Writes (count n : ℕ) (text : Text) : Type 0 where
  pub long : length text ≤ count
  pub some : 0 < n → 1 ≤ length text
  pub digits : list_all is_digit text ≡ true
  pub number : number_from 0 text * 10 ^ (count - length text) ≡ n

digits_write : (count n : ℕ) → n < 10 ^ count → Writes count n (digits_to count n)
digits_write zero n small =
    record {
      long = omega arith;
      some = λ p. omega (arith, p, small);
      digits = refl;
      number = omega (arith, small);
    }
digits_write (suc count) n small =
    go (n % 10 == 0) refl (λ below. digits_write count (n / 10) below)
  where
    ten : 10 ^ suc count ≡ 10 * 10 ^ count
    ten = tens count

    none_left : (k : ℕ) → (k == 0) ≡ true → k ≡ 0
    none_left k e = grind (arith, nat_tests)

    go : (ends : Bool) → (n % 10 == 0) ≡ ends
        → (n / 10 < 10 ^ count → Writes count (n / 10) (digits_to count (n / 10)))
        → Writes (suc count) n (if ends then digits_to count (n / 10) else digits_of (suc count) n)
    go true e before =
        let rest = before (omega (arith, small, ten)) in
        let left = count - length (digits_to count (n / 10)) in
        let short : suc count - length (digits_to count (n / 10)) ≡ suc left =
        (let l = rest.long in omega (arith, l)) in
        let zero_there = none_left (n % 10) e in
        record {
          long = (let l = rest.long in omega (arith, l));
          some = λ p. rest.some (omega (arith, p, zero_there));
          digits = rest.digits;
          number = ap (λ (k : ℕ). number_from 0 (digits_to count (n / 10)) * 10 ^ k) short
              ∙ ap (λ (k : ℕ). number_from 0 (digits_to count (n / 10)) * k)
              (tens left)
              ∙ moved (number_from 0 (digits_to count (n / 10))) (10 ^ left)
              ∙ ap (λ (k : ℕ). 10 * k) rest.number ∙ omega (arith, zero_there);
        }
      where
        moved : (a b : ℕ) → a * (10 * b) ≡ 10 * (a * b)
        moved a b = sym (mul_assoc a 10 b) ∙ ap (λ (k : ℕ). k * b) (ten_times a) ∙ mul_assoc 10 a b
          where
            ten_times : (k : ℕ) → k * 10 ≡ 10 * k
            ten_times k = omega arith
    go false e before =
        let l = length_digits (suc count) n in
        let none : suc count - length (digits_of (suc count) n) ≡ 0 = omega (arith, l) in
        record {
          long = omega (arith, l);
          some = λ p. omega (arith, l);
          digits = digits_all (suc count) n;
          number =
              ap (λ (k : ℕ). number_from 0 (digits_of (suc count) n) * 10 ^ k) none
              ∙ (let k = number_of_digits (suc count) n small in omega (arith, k));
        }

-- a fraction and `Z` are read as they were written
pub record Reads (nanosecond : ℕ) (rest : Text) : Type 0 where
  pub has : has_fraction rest ≡ true
  pub fraction : fraction_of (fraction_in rest) ≡ nanosecond
  pub zone : offset_of (zone_in rest) ≡ Some (pos 0)

fraction_reads : (nanosecond : ℕ) → nanosecond < 1000000000
    → Reads nanosecond (fraction_text nanosecond ++ codes "Z")
fraction_reads nanosecond small = go (nanosecond == 0) refl
  where
    none_left : (k : ℕ) → (k == 0) ≡ true → 0 ≡ k
    none_left k e = grind (arith, nat_tests)

    some_left : (k : ℕ) → (k == 0) ≡ false → 0 < k
    some_left k e = grind (arith, nat_tests)

    go : (none : Bool) → (nanosecond == 0) ≡ none
        → Reads nanosecond ((if none then [] else 46 ∷ digits_to 9 nanosecond) ++ codes "Z")
    go true e = record { has = refl; fraction = none_left nanosecond e; zone = refl }
    go false e =
        let text = digits_to 9 nanosecond in
        let writes : Writes 9 nanosecond text = digits_write 9 nanosecond small in
        let taken : take_while is_digit (text ++ 90 ∷ []) ≡ text =
        take_digits text [] writes.digits in
        record {
          has = (λ i. nat_le 1 (length (taken i)) && nat_le (length (taken i)) 9)
              ∙ and_from (nat_le 1 (length text)) (nat_le (length text) 9)
              (le-leb 1 (length text) (writes.some (some_left nanosecond e)))
              (le-leb (length text) 9 writes.long);
          fraction = ap fraction_of taken ∙ writes.number;
          zone = ap (λ (l : Text). offset_of (drop (1 + length l) (46 ∷ (text ++ 90 ∷ [])))) taken
              ∙ ap (λ (k : ℕ). offset_of (drop k (46 ∷ (text ++ 90 ∷ [])))) (one_more (length text))
              ∙ ap offset_of (drop_digits text (90 ∷ []));
        }

-- ---- a whole text

module _ (year month day hour minute second : ℕ) (rest : Text) where
  abbrev whole : Text
  whole =
      digits_of 4 year ++ 45 ∷ digits_of 2 month ++ 45 ∷ digits_of 2 day ++ 84 ∷ digits_of 2 hour
      ++ 58 ∷ digits_of 2 minute ++ 58 ∷ digits_of 2 second ++ rest

  form : has_form (codes "0000-00-00T00:00:00") (take 19 whole) ≡ true
  form =
      rw (
        digit_is (year / 10 / 10 / 10),
        digit_is (year / 10 / 10),
        digit_is (year / 10),
        digit_is year,
        digit_is (month / 10),
        digit_is month,
        digit_is (day / 10),
        digit_is day,
        digit_is (hour / 10),
        digit_is hour,
        digit_is (minute / 10),
        digit_is minute,
        digit_is (second / 10),
        digit_is second,
      ) refl

  module _ (small : year < 10000) (a : month < 100) (b : day < 100) (c : hour < 100)
      (d : minute < 100) (e : second < 100) where
    year_is : number_at whole 0 4 ≡ year
    year_is = number_of_digits 4 year small

    month_is : number_at whole 5 2 ≡ month
    month_is = number_of_digits 2 month a

    day_is : number_at whole 8 2 ≡ day
    day_is = number_of_digits 2 day b

    hour_is : number_at whole 11 2 ≡ hour
    hour_is = number_of_digits 2 hour c

    minute_is : number_at whole 14 2 ≡ minute
    minute_is = number_of_digits 2 minute d

    second_is : number_at whole 17 2 ≡ second
    second_is = number_of_digits 2 second e

  module _ (y : year ≤ 9998) (m : 1 ≤ month) (n : month ≤ 12) (d : 1 ≤ day)
      (long : day ≤ days_in year month) (h : hour ≤ 23) (k : minute ≤ 59) (s : second ≤ 59) where
    days : days_in year month ≤ 31
    days = grind (arith, nat_tests)

    low : day < 100
    low = omega (arith, long, days)

    abbrev year_at : number_at whole 0 4 ≡ year
    year_at =
        year_is (omega (arith, y)) (omega (arith, n)) low (omega (arith, h)) (omega (arith, k))
        (omega (arith, s))

    abbrev month_at : number_at whole 5 2 ≡ month
    month_at =
        month_is (omega (arith, y)) (omega (arith, n)) low (omega (arith, h)) (omega (arith, k))
        (omega (arith, s))

    abbrev day_at : number_at whole 8 2 ≡ day
    day_at =
        day_is (omega (arith, y)) (omega (arith, n)) low (omega (arith, h)) (omega (arith, k))
        (omega (arith, s))

    abbrev hour_at : number_at whole 11 2 ≡ hour
    hour_at =
        hour_is (omega (arith, y)) (omega (arith, n)) low (omega (arith, h)) (omega (arith, k))
        (omega (arith, s))

    abbrev minute_at : number_at whole 14 2 ≡ minute
    minute_at =
        minute_is (omega (arith, y)) (omega (arith, n)) low (omega (arith, h)) (omega (arith, k))
        (omega (arith, s))

    abbrev second_at : number_at whole 17 2 ≡ second
    second_at =
        second_is (omega (arith, y)) (omega (arith, n)) low (omega (arith, h)) (omega (arith, k))
        (omega (arith, s))

    real : is_real whole ≡ true
    real =
        (λ i. form i && nat_le (year_at i) 9998 && nat_le 1 (month_at i) && nat_le (month_at i) 12
        && nat_le 1 (day_at i) && nat_le (day_at i) (days_in (year_at i) (month_at i))
        && nat_le (hour_at i) 23 && nat_le (minute_at i) 59 && nat_le (second_at i) 59)
        ∙ rw (
          le-leb year 9998 y,
          le-leb 1 month m,
          le-leb month 12 n,
          le-leb 1 day d,
          le-leb day (days_in year month) long,
          le-leb hour 23 h,
          le-leb minute 59 k,
          le-leb second 59 s,
        ) refl

    pub read : (nanosecond : ℕ) → Reads nanosecond rest
        → instant_of whole
        ≡ Some (((day_of year month day *ℤ pos 86400000000000)
        +ℤ pos ((hour * 3600 + minute * 60 + second) * 1000000000 + nanosecond)) -ℤ pos 0)
    read nanosecond r =
        (λ i. if real i && r.has i
        then option_map
        (λ offset. ((day_of (year_at i) (month_at i) (day_at i) *ℤ pos 86400000000000)
        +ℤ pos ((hour_at i * 3600 + minute_at i * 60 + second_at i) * 1000000000 + r.fraction i))
        -ℤ offset) (r.zone i)
        else None)

-- ---- the moment

after_1970 : (day x k : ℕ) → day * 86400000000000 + x ≡ 62167219200000000000 + k
    → (((pos day -ℤ pos 719528) *ℤ pos 86400000000000) +ℤ pos x) -ℤ pos 0 ≡ pos k
after_1970 day x k e = omega (arith, ints, e)

before_1970 : (day x k : ℕ) → day * 86400000000000 + x + suc k ≡ 62167219200000000000
    → (((pos day -ℤ pos 719528) *ℤ pos 86400000000000) +ℤ pos x) -ℤ pos 0 ≡ negsuc k
before_1970 day x k e = omega (arith, ints, e)

module _ (n : ℕ) (small : n < 315537984000000000000) where
  abbrev day : ℕ
  day = n / 86400000000000

  abbrev year : ℕ
  year = year_of day

  abbrev rest : ℕ
  rest = day - days_to_year year

  abbrev month : ℕ
  month = month_of year rest 11

  of_year : IsOf day year
  of_year = day_of_year day

  year_low : year ≤ 9998
  year_low = dite (dec_le year 9998) (λ (yes : year ≤ 9998). yes)
      (λ (no : year ≤ 9998 → ⊥). absurd
      (let first = of_year.0 in let e = small in omega (arith, no, first, e)))

  in_year : rest < days_before year 13
  in_year =
      (let a = of_year.0 in let b = of_year.1 in let l = year_long year in omega (arith, a, b, l))

  of_month : IsOfMonth year rest month × (month ≤ 12)
  of_month = day_of_month year rest 11 in_year

  month_more : (y m : ℕ) → 1 ≤ m → days_before y (suc m) ≡ days_before y m + days_in y m
  month_more y m h = grind (arith, nat_tests)

  abbrev date : ℕ
  date = rest - days_before year month + 1

  date_long : date ≤ days_in year month
  date_long =
      (let a = of_month.0.1 in let b = of_month.0.2 in let more = month_more year month
      of_month.0.0 in omega (arith, a, b, more))

  day_same : days_to_year year + days_before year month + (date - 1) ≡ day
  day_same = (let a = of_month.0.1 in let b = of_year.0 in omega (arith, a, b))

  abbrev second : ℕ
  second = n / 1000000000 % 86400

  pub text_reads : (text : Text)
      → text ≡ date_of day ++ 84 ∷ clock_of second ++ fraction_text (n % 1000000000) ++ codes "Z"
      → instant_of text ≡ Some
      ((((pos day -ℤ pos 719528) *ℤ pos 86400000000000) +ℤ pos
      (second * 1000000000 + n % 1000000000)) -ℤ pos 0)
  text_reads text is =
      ap instant_of is
      ∙ read year month date (second / 3600) (second / 60 % 60) (second % 60)
      (fraction_text (n % 1000000000) ++ codes "Z")
      year_low of_month.0.0 of_month.1 (omega arith) date_long (omega arith) (omega arith)
      (omega arith) (n % 1000000000) (fraction_reads (n % 1000000000) (omega arith))
      ∙ (λ i. Some ((((pos (day_same i) -ℤ pos 719528) *ℤ pos 86400000000000) +ℤ pos
      (same_second i * 1000000000 + n % 1000000000)) -ℤ pos 0))
    where
      same_second : second / 3600 * 3600 + second / 60 % 60 * 60 + second % 60 ≡ second
      same_second = omega arith

whole_number : (n : ℕ)
    → n / 86400000000000 * 86400000000000 + (n / 1000000000 % 86400 * 1000000000 + n % 1000000000)
    ≡ n
whole_number n = omega arith

-- the text of an end in the years 0000 to 9998 is read as that end
pub ends_are_read : EndsAreRead
ends_are_read (pos k) low high =
    let n : ℕ = 62167219200000000000 + k in
    let small : k < 253370764800000000000 = below k 253370764800000000000 high in
    text_reads n (omega (arith, small)) (end_text (pos k)) refl
    ∙ ap Some (after_1970 (n / 86400000000000)
    (n / 1000000000 % 86400 * 1000000000 + n % 1000000000) k (whole_number n))
ends_are_read (negsuc k) low high =
    let n : ℕ = 62167219200000000000 - suc k in
    let late : suc k ≤ 62167219200000000000 = at_least_negative k low in
    text_reads n (omega arith) (end_text (negsuc k)) refl
    ∙ ap Some (before_1970 (n / 86400000000000)
    (n / 1000000000 % 86400 * 1000000000 + n % 1000000000) k
    (let all = whole_number n in omega (arith, all, late)))
  where
    at_least_negative : (j : ℕ) → int_le (neg_ℤ (pos 62167219200000000000)) (negsuc j) ≡ true
        → suc j ≤ 62167219200000000000
    at_least_negative j h = grind (arith, nat_tests)

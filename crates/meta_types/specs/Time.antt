-- Moments as texts: `YYYY-MM-DDThh:mm:ss`, perhaps a fraction, and a zone. They are of RFC 3339,
-- 5.6; upper case letters, no leap seconds and years to 9998 are limits of ours. Ours, unless a
-- source stands beside.
use Rattle.std.specs.Prelude.{ℕ, zero, suc, ◌+◌, ◌-◌, ◌*◌, ◌/◌, ◌%◌, ◌^◌, Bool, true, false, not, ◌&&◌, ◌||◌, nat_le, ◌==◌, [], ◌∷◌, length, take, drop, Option, Some, None, bytes_eq, slice_index, codes, if◌then◌else◌, ℤ, pos, ◌+ℤ◌, ◌-ℤ◌, ◌*ℤ◌, neg_ℤ, option_map}
use Rattle.std.specs.List.{take_while}
use Rattle.meta_types.specs.Text.{Text, is_digit}

-- the number that some digits write, behind what is read already
abbrev pub number_from : ℕ → Text → ℕ
number_from before [] = before
number_from before (digit ∷ digits) = number_from (before * 10 + (digit - 48)) digits

-- the number in `count` digits from place `at` on (RFC 3339, 5.6:
-- date-fullyear, date-month and so on)
abbrev pub number_at : Text → ℕ → ℕ → ℕ
number_at text at count = number_from 0 (take count (drop at text))

-- a text has a form where it is as long, and has a digit for each `0` of it and
-- otherwise its bytes (RFC 3339, 5.6)
abbrev pub has_form : Text → Text → Bool
has_form [] [] = true
has_form [] (byte ∷ text) = false
has_form (sign ∷ form) [] = false
has_form (sign ∷ form) (byte ∷ text) = (if sign == 48 then is_digit byte else byte == sign) && has_form form text

-- a leap year of the Gregorian calendar (RFC 3339, appendix C)
abbrev pub is_leap : ℕ → Bool
is_leap year = year % 4 == 0 && (not (year % 100 == 0) || year % 400 == 0)

-- the days of a month (RFC 3339, 5.7)
abbrev pub days_in : ℕ → ℕ → ℕ
days_in year month =
    if month == 2 then (if is_leap year then 29 else 28)
    else (if month == 4 || month == 6 || month == 9 || month == 11 then 30 else 31)

-- the days of the months of a year before a month (Gregorian calendar)
abbrev pub days_before : ℕ → ℕ → ℕ
days_before year zero = 0
days_before year (suc month) = if month == 0 then 0 else days_before year month + days_in year month

-- the days from 0000-01-01 to the first day of a year (Gregorian calendar)
abbrev pub days_to_year : ℕ → ℕ
days_to_year year = 365 * year + (year + 3) / 4 - (year + 99) / 100 + (year + 399) / 400

-- the day of a date (Gregorian calendar), where 1970-01-01 is day 0
abbrev pub day_of : ℕ → ℕ → ℕ → ℤ
day_of year month day = pos (days_to_year year + days_before year month + (day - 1)) -ℤ pos 719528

-- nanoseconds of a fraction: its digits, filled with zeros to nine (RFC 3339, 5.6:
-- time-secfrac; nine digits: Go)
abbrev pub fraction_of : Text → ℕ
fraction_of digits = number_from 0 digits * 10 ^ (9 - length digits)

-- a size behind `+` or `-` (RFC 3339, 5.6: time-numoffset)
abbrev pub signed : ℕ → ℕ → ℤ
signed sign size = if sign == 43 then pos size else neg_ℤ (pos size)

-- the offset that a zone names, in nanoseconds: `Z`, or up to 23:59 before or behind (RFC 3339,
-- 5.6: time-offset)
abbrev pub offset_of : Text → Option ℤ
offset_of zone =
    if bytes_eq zone (codes "Z") then Some (pos 0)
    else (if (has_form (codes "+00:00") zone || has_form (codes "-00:00") zone) && nat_le (number_at zone 1 2) 23 && nat_le (number_at zone 4 2) 59
    then Some (signed (slice_index zone 0) ((number_at zone 1 2 * 3600 + number_at zone 4 2 * 60) * 1000000000))
    else None)

-- the digits of a fraction, behind the seconds (RFC 3339, 5.6: time-secfrac)
abbrev pub fraction_in : Text → Text
fraction_in rest = if slice_index rest 0 == 46 then take_while is_digit (drop 1 rest) else []

-- what stands behind the fraction (RFC 3339, 5.6: time-offset)
abbrev pub zone_in : Text → Text
zone_in rest = if slice_index rest 0 == 46 then drop (1 + length (fraction_in rest)) rest else rest

-- a date and a time of day that there are (RFC 3339, 5.7), of a year up to
-- 9998 and without a second 60
abbrev pub is_real : Text → Bool
is_real text =
    let year = number_at text 0 4 in
    let month = number_at text 5 2 in
    let day = number_at text 8 2 in
    has_form (codes "0000-00-00T00:00:00") (take 19 text)
    && nat_le year 9998 && nat_le 1 month && nat_le month 12 && nat_le 1 day && nat_le day (days_in year month)
    && nat_le (number_at text 11 2) 23 && nat_le (number_at text 14 2) 59 && nat_le (number_at text 17 2) 59

-- a fraction has 1 to 9 digits (RFC 3339, 5.6: 1 or more)
abbrev pub has_fraction : Text → Bool
has_fraction rest = not (slice_index rest 0 == 46) || (nat_le 1 (length (fraction_in rest)) && nat_le (length (fraction_in rest)) 9)

-- the moment of a date and a time of day, before the offset, in nanoseconds since
-- 1970-01-01T00:00:00Z
abbrev pub moment_of : Text → ℤ
moment_of text =
    let seconds = number_at text 11 2 * 3600 + number_at text 14 2 * 60 + number_at text 17 2 in
    (day_of (number_at text 0 4) (number_at text 5 2) (number_at text 8 2) *ℤ pos 86400000000000) +ℤ pos (seconds * 1000000000 + fraction_of (fraction_in (drop 19 text)))

-- the moment of a text, where it is a time: its own clock less its offset (RFC 3339, 4.2)
abbrev pub instant_of : Text → Option ℤ
instant_of text =
    if is_real text && has_fraction (drop 19 text) then option_map (λ offset. moment_of text -ℤ offset) (offset_of (zone_in (drop 19 text)))
    else None

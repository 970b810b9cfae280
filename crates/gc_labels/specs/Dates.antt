-- Which dates and times of day exist. Ours, unless a source stands beside.
use Rattle.std.specs.Prelude.{ℕ, Bool, ◌&&◌, ◌+◌, ◌*◌, drop, nat_le, if◌then◌else◌, Option, Some, None, ℤ}
use Rattle.meta_types.specs.Text.{Text}
use Rattle.meta_types.specs.Time.{days_in, day_of, number_at, is_real, has_fraction, fraction_of, fraction_in}

-- a date of the Gregorian calendar (RFC 3339, 5.7), in the years that a time may have
abbrev pub is_date : ℕ → ℕ → ℕ → Bool
is_date year month day = nat_le year 9998 && nat_le 1 month && nat_le month 12 && nat_le 1 day && nat_le day (days_in year month)

-- the day of a date, where there is one
abbrev pub day_in : ℕ → ℕ → ℕ → Option ℤ
day_in year month day = if is_date year month day then Some (day_of year month day) else None

-- a time of day (RFC 3339, 5.7; without its leap second)
abbrev pub is_clock : ℕ → ℕ → ℕ → Bool
is_clock hour minute second = nat_le hour 23 && nat_le minute 59 && nat_le second 59

-- the second of the day, where there is one
abbrev pub second_in : ℕ → ℕ → ℕ → Option ℕ
second_in hour minute second = if is_clock hour minute second then Some (hour * 3600 + minute * 60 + second) else None

-- the day that a text begins with, and the nanosecond of that day, before the offset
abbrev pub place_at : Text → ℤ × ℕ
place_at text =
    let seconds = number_at text 11 2 * 3600 + number_at text 14 2 * 60 + number_at text 17 2 in
    (day_of (number_at text 0 4) (number_at text 5 2) (number_at text 8 2), seconds * 1000000000 + fraction_of (fraction_in (drop 19 text)))

-- the same, where the text has them
abbrev pub place_in : Text → Option (ℤ × ℕ)
place_in text = if is_real text && has_fraction (drop 19 text) then Some (place_at text) else None

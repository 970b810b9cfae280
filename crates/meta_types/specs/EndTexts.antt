-- Ends as texts in UTC (RFC 3339, 5.6). Ours, unless a source stands beside.
use Rattle.std.specs.Prelude.{ℕ, zero, suc, ◌+◌, ◌-◌, ◌*◌, ◌/◌, ◌%◌, ◌==◌, nat_le, nat_lt, [], ◌∷◌, ◌++◌, codes, if◌then◌else◌, ℤ, pos, negsuc}
use Rattle.meta_types.specs.Text.{Text}
use Rattle.meta_types.specs.Time.{days_before, days_to_year}

-- the last digits of a number
abbrev pub digits_of : ℕ → ℕ → Text
digits_of zero n = []
digits_of (suc count) n = digits_of count (n / 10) ++ (48 + n % 10) ∷ []

-- the same, without zeros at the end
abbrev pub digits_to : ℕ → ℕ → Text
digits_to zero n = []
digits_to (suc count) n = if n % 10 == 0 then digits_to count (n / 10) else digits_of (suc count) n

-- the year of a day, where day 0 is 0000-01-01
abbrev pub year_of : ℕ → ℕ
year_of day =
    let year = day * 400 / 146097 in
    if nat_le (days_to_year (year + 1)) day then year + 1 else
    (if nat_lt day (days_to_year year) then year - 1 else year)

-- of the first months behind January the last that has begun on a day of the year
abbrev pub month_of : ℕ → ℕ → ℕ → ℕ
month_of year day zero = 1
month_of year day (suc count) =
    if nat_le (days_before year (count + 2)) day then count + 2 else month_of year day count

abbrev pub date_of : ℕ → Text
date_of day =
    let year = year_of day in
    let rest = day - days_to_year year in
    let month = month_of year rest 11 in
    digits_of 4 year ++ 45 ∷ digits_of 2 month
    ++ 45 ∷ digits_of 2 (rest - days_before year month + 1)

abbrev pub clock_of : ℕ → Text
clock_of second =
    digits_of 2 (second / 3600) ++ 58 ∷ digits_of 2 (second / 60 % 60)
    ++ 58 ∷ digits_of 2 (second % 60)

abbrev pub fraction_text : ℕ → Text
fraction_text nanosecond = if nanosecond == 0 then [] else 46 ∷ digits_to 9 nanosecond

-- nanoseconds since 0000-01-01T00:00:00Z, and none for a moment before
abbrev pub since_year_0 : ℤ → ℕ
since_year_0 (pos n) = 62167219200000000000 + n
since_year_0 (negsuc n) = 62167219200000000000 - suc n

-- `YYYY-MM-DDThh:mm:ss`, a fraction where it isn't 0, and `Z`
abbrev pub end_text : ℤ → Text
end_text end =
    let n = since_year_0 end in
    date_of (n / 86400000000000) ++ 84 ∷ clock_of (n / 1000000000 % 86400)
    ++ fraction_text (n % 1000000000) ++ codes "Z"

-- The day number of a date is that of the calendar.
use Rattle.gc_labels.specs.Dates.{day_in}
use Rattle.std.proofs.lemmas.Bool.{le-leb}
use Rattle.std.proofs.Common.{◌≡◌, ◌≤◌, ℕ, zero, suc, Some, ◌+◌, ◌-◌, refl, sym, ap, ◌∙◌, arith, pos, ◌-ℤ◌}
use Rattle.std.proofs.lemmas.Bool.Decides.{nat_tests}
use Rattle.jiff_core.specs.Calendar.{days_in_month, days_of_years, days_of_months, day_count, days_from_civil}
use Rattle.jiff_core.proofs.CalendarLemmas.{day_count-epoch}
use Rattle.jiff_core.specs.March.{march_days}
use Rattle.jiff_core.proofs.MarchLemmas.{days_of_years-march_days, leap_day}
use Rattle.jiff_core.proofs.SignedLemmas.{signed_arith}
use Rattle.meta_types.specs.Time.{days_in, days_before, days_to_year, day_of}

-- a month more
month_more : (year month : ℕ) → 1 ≤ month → days_before year (suc month) ≡ days_before year month + days_in year month
month_more year month h = grind (arith, nat_tests)

-- the months before a month
months : (year month : ℕ) → days_before year (suc month) ≡ days_of_months (pos year) month
unfolding days_of_months
months year zero = refl
months year (suc month) = month_more year (suc month) (omega arith) ∙ ap (λ days. days + days_in year (suc month)) (months year month)

-- 400 years are one round of the calendar, so the years from -10000 on count as those from 0 on
rounds : (year : ℕ) → march_days (year + 10000) + 1 ≡ 3652425 + days_to_year year + leap_day (pos (year + 10000))
rounds year = grind (arith, nat_tests)

-- the years before a year
years : (year : ℕ) → days_of_years (year + 10000) ≡ 3652425 + days_to_year year
years year = omega (arith, rounds year, days_of_years-march_days (year + 10000))

-- the day of a date, as the calendar counts it from the year -10000 on
counted : (year month day : ℕ) → 1 ≤ day → day_count (pos year) (suc month) day ≡ 3652425 + (days_to_year year + days_before year (suc month) + (day - 1))
unfolding day_count
counted year month day d =
    let before : suc month - 1 ≡ month = omega arith in
    let in_year = ap (λ (n : ℕ). days_of_months (pos year) n + day) before in
    omega (arith, in_year, years year, months year month)

-- day 0 is 1970-01-01, not 0000-01-01 or -10000-01-01
shifted : (days : ℕ) → pos days -ℤ pos 719528 ≡ pos (3652425 + days) -ℤ pos 4371953
shifted days = omega (arith, signed_arith)

pub day_of-civil : (year month day : ℕ) → 1 ≤ day → day_of year (suc month) day ≡ days_from_civil (pos year) (suc month) day
unfolding days_from_civil
day_of-civil year month day d =
    shifted (days_to_year year + days_before year (suc month) + (day - 1))
    ∙ ap (λ (n : ℕ). pos n -ℤ pos 4371953) (sym (counted year month day d))
    ∙ ap (λ (n : ℕ). pos (day_count (pos year) (suc month) day) -ℤ pos n) (sym day_count-epoch)

-- a real date of these years has that day
pub day_in-date : (y m d : ℕ) → y ≤ 9998 → 1 ≤ m → m ≤ 12 → 1 ≤ d → d ≤ days_in_month (pos y) m → day_in y m d ≡ Some (days_from_civil (pos y) m d)
day_in-date y zero d h1 h2 h3 h4 h5 = absurd (omega arith)
day_in-date y (suc m) d h1 h2 h3 h4 h5 =
    let e1 = le-leb y 9998 h1 in
    let e2 = le-leb 1 (suc m) h2 in
    let e3 = le-leb (suc m) 12 h3 in
    let e4 = le-leb 1 d h4 in
    let e5 = le-leb d (days_in_month (pos y) (suc m)) h5 in
    rw (e1, e2, e3, e4, e5) (ap Some (day_of-civil y m d h4))

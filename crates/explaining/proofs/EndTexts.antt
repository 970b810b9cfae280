-- The text of an end, part by part.
use Rattle.std.proofs.Common.{◌≡◌, ℕ, zero, suc, ◌+◌, ◌-◌, ◌/◌, ◌%◌, ◌<◌, ◌≤◌, ◌==◌, true, false, [], ◌∷◌, ◌++◌, refl, sym, ap, subst, ◌∙◌, arith, append_assoc, ℤ, pos, negsuc, unsigned_abs}
use Rattle.std.specs.Prelude.{nat_le, nat_lt, int_lt}
use Rattle.std.proofs.lemmas.Bool.{false≢true}
use Rattle.std.proofs.lemmas.Bool.Decides.{nat_tests}
use Rattle.meta_types.specs.Text.{Text}
use Rattle.meta_types.specs.Time.{days_in, days_before, days_to_year}
use Rattle.meta_types.specs.EndTexts.{digits_of, digits_to, year_of, month_of, date_of, since_year_0}

-- what is added twice is added at once
pub added : (old middle new first second : Text) → middle ≡ old ++ first → new ≡ middle ++ second
    → new ≡ old ++ (first ++ second)
added old middle new first second e f =
    f ∙ ap (λ (l : Text). l ++ second) e ∙ append_assoc old first second

one_less : (n : ℕ) → suc n - 1 ≡ n
one_less n = omega arith

pub no_digits : (count n : ℕ) → count ≡ 0 → digits_of count n ≡ []
no_digits zero n h = refl
no_digits (suc count) n h = absurd (omega (arith, h))

pub more_digits : (count n : ℕ) → 0 < count
    → digits_of (count - 1) (n / 10) ++ (48 + n % 10) ∷ [] ≡ digits_of count n
more_digits zero n h = absurd (omega (arith, h))
more_digits (suc count) n h =
    ap (λ (k : ℕ). digits_of k (n / 10) ++ (48 + n % 10) ∷ []) (one_less count)

pub no_digits_to : (count n : ℕ) → count ≡ 0 → digits_to count n ≡ []
no_digits_to zero n h = refl
no_digits_to (suc count) n h = absurd (omega (arith, h))

is_zero : (n : ℕ) → n ≡ 0 → (n == 0) ≡ true
is_zero n h = grind (arith, nat_tests)

is_more : (n : ℕ) → 0 < n → (n == 0) ≡ false
is_more n h = grind (arith, nat_tests)

pub without_zero : (count n : ℕ) → 0 < count → n % 10 ≡ 0
    → digits_to (count - 1) (n / 10) ≡ digits_to count n
without_zero zero n h k = absurd (omega (arith, h))
without_zero (suc count) n h k =
    rw (is_zero (n % 10) k) (ap (λ (j : ℕ). digits_to j (n / 10)) (one_less count))

pub with_last : (count n : ℕ) → 0 < count → 0 < n % 10
    → digits_of count n ≡ digits_to count n
with_last zero n h k = absurd (omega (arith, h))
with_last (suc count) n h k = rw (is_more (n % 10) k) refl

-- ---- days and months

pub no_days : (year month : ℕ) → month ≤ 1 → 0 ≡ days_before year month
no_days year month h = grind (arith, nat_tests)

pub more_days : (year month : ℕ) → 1 < month
    → days_before year (month - 1) + days_in year (month - 1) ≡ days_before year month
more_days year month h = grind (arith, nat_tests)

pub january : (year day count : ℕ) → count ≡ 0 → 1 ≡ month_of year day count
january year day zero h = refl
january year day (suc count) h = absurd (omega (arith, h))

module _ (year day : ℕ) where
  next : (count : ℕ) → suc count + 1 ≡ count + 2
  next count = omega arith

  pub begun : (count : ℕ) → 0 < count → days_before year (count + 1) ≤ day
      → count + 1 ≡ month_of year day count
  begun zero h k = absurd (omega (arith, h))
  begun (suc count) h k =
      let test : nat_le (days_before year (count + 2)) day ≡ true =
      tells (days_before year (count + 2)) day
      (subst (λ (j : ℕ). days_before year j ≤ day) (next count) k) in
      rw test (next count)
    where
      tells : (a b : ℕ) → a ≤ b → nat_le a b ≡ true
      tells a b le = grind (arith, nat_tests)

  pub not_begun : (count : ℕ) → 0 < count → day < days_before year (count + 1)
      → month_of year day (count - 1) ≡ month_of year day count
  not_begun zero h k = absurd (omega (arith, h))
  not_begun (suc count) h k =
      let test : nat_le (days_before year (count + 2)) day ≡ false =
      tells (days_before year (count + 2)) day
      (subst (λ (j : ℕ). day < days_before year j) (next count) k) in
      rw test (ap (month_of year day) (one_less count))
    where
      tells : (a b : ℕ) → b < a → nat_le a b ≡ false
      tells a b lt = grind (arith, nat_tests)

-- ---- nanoseconds

pub before_1970 : (end : ℤ) → int_lt end (pos 0) ≡ true
    → 62167219200000000000 - unsigned_abs end ≡ since_year_0 end
before_1970 (pos n) h = absurd (never n h)
  where
    never : (k : ℕ) → nat_lt k 0 ≡ true → ⊥
    never k e = grind (arith, nat_tests)
before_1970 (negsuc n) h = refl

pub from_1970 : (end : ℤ) → int_lt end (pos 0) ≡ false
    → 62167219200000000000 + unsigned_abs end ≡ since_year_0 end
from_1970 (pos n) h = refl
from_1970 (negsuc n) h = absurd (false≢true (sym h))

-- ---- parts in turn

module _ (old : Text) (a b d : Text) (s t u : Text) (e : s ≡ old ++ a) (f : t ≡ s ++ b)
    (g : u ≡ t ++ d) where
  pub three_added : u ≡ old ++ ((a ++ b) ++ d)
  three_added = added old t u (a ++ b) d (added old s t a b e f) g

  module _ (h k : Text) (v w : Text) (i : v ≡ u ++ h) (j : w ≡ v ++ k) where
    pub five_added : w ≡ old ++ ((((a ++ b) ++ d) ++ h) ++ k)
    five_added =
        added old v w (((a ++ b) ++ d) ++ h) k (added old u v ((a ++ b) ++ d) h three_added i) j

pub date_is : (day year month rest before : ℕ) → year ≡ year_of day
    → rest ≡ day - days_to_year year → month ≡ month_of year rest 11
    → before ≡ days_before year month
    → (((digits_of 4 year ++ 45 ∷ []) ++ digits_of 2 month) ++ 45 ∷ [])
    ++ digits_of 2 (rest - before + 1) ≡ date_of day
date_is day year month rest before e f g h = rw (h, g, f, e) refl

unit_right : (text : Text) → text ≡ text ++ []
unit_right [] = refl
unit_right (byte ∷ text) = ap (λ (l : Text). byte ∷ l) (unit_right text)

-- nothing is added
pub none_added : (old text : Text) → text ≡ [] → old ≡ old ++ text
none_added old text e = unit_right old ∙ ap (λ (l : Text). old ++ l) (sym e)

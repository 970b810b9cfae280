-- What a text says of a day and of a time of day.
use Rattle.std.proofs.Common.{◌≡◌, ◌<◌, ℕ, suc, ◌+◌, ◌*◌, Bool, true, false, [], ◌∷◌, length, take, drop, cond, Option, Some, None, refl, sym, ap, ◌∙◌, arith, inl, inr, ℤ, length-take}
use Rattle.std.specs.Prelude.{codes, ◌&&◌, nat_le, option_map, ◌-ℤ◌, ◌+ℤ◌, ◌*ℤ◌, pos}
use Rattle.std.proofs.Math.Bool.{and-false}
use Rattle.std.proofs.lemmas.Bool.{cases_Bool, and_parts, and_from}
use Rattle.meta_types.specs.Text.{Text}
use Rattle.meta_types.specs.Time.{has_form, number_at, has_fraction, fraction_in, fraction_of, is_real, days_in, zone_in, offset_of, moment_of, instant_of}
use Rattle.gc_labels.specs.Dates.{is_date, day_in, is_clock, second_in, place_at, place_in}

-- a text has a form only where it is as long
pub long_as_form : (form text : Text) → has_form form text ≡ true → length form ≡ length text
long_as_form [] [] h = refl
long_as_form [] (byte ∷ text) h = absurd cc
long_as_form (sign ∷ form) [] h = absurd cc
long_as_form (sign ∷ form) (byte ∷ text) h = ap suc (long_as_form form text (and_parts _ (has_form form text) h).1)

three : (x a b c : Bool) → (x && a && b && c) ≡ (x && (a && b && c))
three true a b c = refl
three false a b c = refl

regroup : (f a b c d e h m s : Bool) → (f && a && b && c && d && e && h && m && s) ≡ (f && ((a && b && c && d && e) && (h && m && s)))
regroup true a b c d e h m s = three (a && b && c && d && e) h m s
regroup false a b c d e h m s = refl

some_where : {X : Type 0} (b : Bool) (x y : X) → cond b (Some x) None ≡ Some y → (b ≡ true) × (x ≡ y)
some_where true x y h = (refl, cc)
some_where false x y h = absurd cc

abbrev form_of : Text → Bool
form_of text = has_form (codes "0000-00-00T00:00:00") (take 19 text)

abbrev date_of : Text → Bool
date_of text = is_date (number_at text 0 4) (number_at text 5 2) (number_at text 8 2)

abbrev clock_of : Text → Bool
clock_of text = is_clock (number_at text 11 2) (number_at text 14 2) (number_at text 17 2)

-- the tests of a date and of a time of day are those of the whole text
real_parts : (text : Text) → is_real text ≡ (form_of text && (date_of text && clock_of text))
real_parts text =
    let year = number_at text 0 4 in
    let month = number_at text 5 2 in
    let day = number_at text 8 2 in
    regroup (form_of text) (nat_le year 9998) (nat_le 1 month) (nat_le month 12) (nat_le 1 day) (nat_le day (days_in year month)) (nat_le (number_at text 11 2) 23) (nat_le (number_at text 14 2) 59) (nat_le (number_at text 17 2) 59)

-- a text of another form has no place
pub unformed : (text : Text) → form_of text ≡ false → place_in text ≡ None
unformed text h =
    ap (λ (real : Bool). cond (real && has_fraction (drop 19 text)) (Some (place_at text)) None) (real_parts text ∙ ap (λ (form : Bool). form && (date_of text && clock_of text)) h)

-- a text that is too short has another form
pub short_unformed : (text : Text) → length text < 19 → form_of text ≡ false
short_unformed text h = elim (cases_Bool (form_of text)) [
  | inl t ↦ absurd (omega (arith, long_as_form (codes "0000-00-00T00:00:00") (take 19 text) t, length-take 19 text))
  | inr f ↦ f
]

-- a text with no digit, or too many, behind its `.` has no place
pub unfractioned : (text : Text) → has_fraction (drop 19 text) ≡ false → place_in text ≡ None
unfractioned text h = ap (λ (both : Bool). cond both (Some (place_at text)) None) (ap (λ (b : Bool). is_real text && b) h ∙ and-false (is_real text))

-- the parts make the place
pub placed : (text : Text) (day : ℤ) (second fraction : ℕ) → form_of text ≡ true
    → day_in (number_at text 0 4) (number_at text 5 2) (number_at text 8 2) ≡ Some day
    → second_in (number_at text 11 2) (number_at text 14 2) (number_at text 17 2) ≡ Some second
    → has_fraction (drop 19 text) ≡ true → fraction ≡ fraction_of (fraction_in (drop 19 text))
    → Some (day, second * 1000000000 + fraction) ≡ place_in text
placed text day second fraction form d s f n =
    let date = some_where (date_of text) _ day d in
    let clock = some_where (clock_of text) _ second s in
    let real = real_parts text ∙ and_from (form_of text) (date_of text && clock_of text) form (and_from (date_of text) (clock_of text) date.0 clock.0) in
    let made : Some (day, second * 1000000000 + fraction) ≡ Some (place_at text) = (λ i. Some (sym date.1 i, sym clock.1 i * 1000000000 + n i)) in
    made ∙ sym (ap (λ (both : Bool). cond both (Some (place_at text)) None) (and_from (is_real text) (has_fraction (drop 19 text)) real f))

-- ---- with the offset

unplaced : (text : Text) (b : Bool) → cond b (Some (place_at text)) None ≡ None → (o : Option ℤ) → cond b o None ≡ None
unplaced text true h o = absurd cc
unplaced text false h o = refl

-- no place, no instant
pub no_place : (text : Text) → place_in text ≡ None → instant_of text ≡ None
no_place text h = unplaced text (is_real text && has_fraction (drop 19 text)) h (option_map (λ offset. moment_of text -ℤ offset) (offset_of (zone_in (drop 19 text))))

-- no offset, no instant
pub no_offset : (text : Text) → offset_of (zone_in (drop 19 text)) ≡ None → instant_of text ≡ None
no_offset text h =
    ap (λ (o : Option ℤ). cond (is_real text && has_fraction (drop 19 text)) (option_map (λ offset. moment_of text -ℤ offset) o) None) h
    ∙ either (is_real text && has_fraction (drop 19 text))
  where
    either : (b : Bool) → cond {A = Option ℤ} b None None ≡ None
    either true = refl
    either false = refl

-- the instant is the place less the offset
pub instant_at : (text : Text) (day : ℤ) (nanosecond : ℕ) (offset : ℤ) → place_in text ≡ Some (day, nanosecond) → offset_of (zone_in (drop 19 text)) ≡ Some offset
    → instant_of text ≡ Some ((day *ℤ pos 86400000000000) +ℤ pos nanosecond -ℤ offset)
instant_at text day nanosecond offset p o =
    let place = some_where (is_real text && has_fraction (drop 19 text)) (place_at text) (day, nanosecond) p in
    ap (λ (b : Bool). cond b (option_map (λ offset. moment_of text -ℤ offset) (offset_of (zone_in (drop 19 text)))) None) place.0
    ∙ ap (option_map (λ offset. moment_of text -ℤ offset)) o
    ∙ ap (λ (at : ℤ × ℕ). Some ((at.0 *ℤ pos 86400000000000) +ℤ pos at.1 -ℤ offset)) place.1

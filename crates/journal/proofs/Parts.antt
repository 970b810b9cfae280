-- A line is compared part by part.
use Rattle.std.proofs.Common.{◌≡◌, ◌∙◌, ap, refl, ℕ, zero, suc, ◌==◌, ◌<◌, ◌≤◌, List, [], ◌∷◌, ◌++◌, length, take, drop, Bool, true, false, ◌&&◌, not, inl, inr, bytes_eq, arith, length-append}
use Rattle.std.proofs.lemmas.Bool.{cases_Bool}
use Rattle.std.proofs.lemmas.List.{drop_all}
use Rattle.std.proofs.lemmas.Slice.Eq.{bytes_eq-Decides}
use Rattle.journal.specs.Text.{is_zero, is_torn, place_text}
use Rattle.journal.specs.Reading.{stands}

and_assoc : (a b c : Bool) → (a && (b && c)) ≡ ((a && b) && c)
and_assoc true b c = refl
and_assoc false b c = refl

pub both_parts : (text a b : List ℕ)
    → bytes_eq text (a ++ b)
    ≡ (bytes_eq (take (length a) text) a && bytes_eq (drop (length a) text) b)
both_parts text [] b = refl
both_parts [] (y ∷ a) b = refl
both_parts (x ∷ text) (y ∷ a) b = ap (λ (t : Bool). (x == y) && t) (both_parts text a b)
    ∙ and_assoc (x == y) (bytes_eq (take (length a) text) a) (bytes_eq (drop (length a) text) b)

pub too_short : (text a b : List ℕ) → length text < length a → bytes_eq text (a ++ b) ≡ false
too_short text a b lt = elim (cases_Bool (bytes_eq text (a ++ b))) [
  | inl same ↦ absurd (omega
      (arith, lt, ap length ((bytes_eq-Decides text (a ++ b)).0 same), length-append a b))
  | inr other ↦ other
]

pub names_none : (line : List ℕ) (place : ℕ) → length line < 65
    → bytes_eq (drop 65 line) (place_text place) ≡ false
unfolding place_text
names_none line place lt =
    ap (λ (t : List ℕ). bytes_eq t (place_text place)) (drop_all 65 line (omega (arith, lt)))

pub stands_short : (n : ℕ) (piece : List ℕ) → length piece < n → stands n piece ≡ false
stands_short zero piece lt = absurd (omega (arith, lt))
stands_short (suc n) [] lt = refl
stands_short (suc n) (b ∷ piece) lt = elim (cases_Bool (is_zero b)) [
  | inl gone ↦ rw gone refl
  | inr other ↦ rw (other, stands_short n piece (omega (arith, lt))) refl
]

pub stands_long : (n : ℕ) (piece : List ℕ) → n ≤ length piece
    → not (is_torn (take n piece)) ≡ stands n piece
stands_long zero piece le = refl
stands_long (suc n) [] le = absurd (omega (arith, le))
stands_long (suc n) (b ∷ piece) le = elim (cases_Bool (is_zero b)) [
  | inl gone ↦ rw gone refl
  | inr other ↦ rw (other) (stands_long n piece (omega (arith, le)))
]

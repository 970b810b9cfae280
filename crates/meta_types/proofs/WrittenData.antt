-- How many bytes JSON writes for those of a text.
use Rattle.std.proofs.Common.{◌≡◌, ℕ, ◌≤◌, ◌+◌, Bool, true, false, List, [], ◌∷◌, length, refl, sym, ap, ◌∙◌, arith}
use Rattle.std.specs.Prelude.{sum_by, nat_le, nat_lt, slice_index, if◌then◌else◌, ◌==◌, ◌||◌}
use Rattle.std.proofs.lemmas.Bool.Decides.{nat_tests}
use Rattle.std.proofs.lemmas.List.Sums.{sum_by-cons}
use Rattle.meta_types.specs.Text.{Text, is_between}
use Rattle.meta_types.specs.Data.{written_bytes}

bounds : (a b : Bool) → (1 ≤ (if a then 2 else (if b then 6 else 1)))
    × ((if a then 2 else (if b then 6 else 1)) ≤ 6)
bounds true b = (omega arith, omega arith)
bounds false true = (omega arith, omega arith)
bounds false false = (omega arith, omega arith)

-- at least one, and at most six
pub one_to_six : (byte : ℕ) → (1 ≤ written_bytes byte) × (written_bytes byte ≤ 6)
one_to_six byte = bounds (byte == 34 || byte == 92 || is_between 8 10 byte || byte == 12 || byte ==
    13) (nat_lt byte 32)

pub few_bytes : (text : Text) (i : ℕ) → written_bytes (slice_index text i) ≤ 6
few_bytes text i = (one_to_six (slice_index text i)).1

-- a text is no longer than what is written of it
pub no_longer : (text : Text) → length text ≤ sum_by written_bytes text
no_longer [] = omega arith
no_longer (byte ∷ text) = omega (
  arith,
  sum_by-cons written_bytes byte text,
  (one_to_six byte).0,
  no_longer text,
)

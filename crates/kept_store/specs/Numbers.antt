-- Lines `number N` of a checkpoint: the next backend number is at least N. Ours.
use Rattle.std.specs.Prelude.{ℕ, ◌+◌, ◌-◌, ◌*◌, ◌^◌, ◌&&◌, List, [], ◌∷◌, length, take, drop, Bool, nat_lt, nat_le, if◌then◌else◌, bytes_eq, codes, Option, Some, None}
use Rattle.std.specs.List.{list_all}
use Rattle.std.specs.Char.{is_ascii_digit}

-- "number ", by which no request begins
abbrev pub is_marked : List ℕ → Bool
is_marked line = bytes_eq (take 7 line) (codes "number ")

-- the number that digits write behind those of another
abbrev pub number_after : ℕ → List ℕ → ℕ
number_after number [] = number
number_after number (digit ∷ digits) = number_after (number * 10 + (digit - 48)) digits

-- 1 to 20 decimal digits
abbrev pub are_digits : List ℕ → Bool
are_digits text =
    nat_lt 0 (length text) && (nat_le (length text) 20 && list_all is_ascii_digit text)

-- the number that a text writes, if it is a number below 2^64
abbrev pub number_of : List ℕ → Option ℕ
number_of text =
    if are_digits text && nat_lt (number_after 0 text) (2 ^ 64) then Some (number_after 0 text)
    else None

-- the number in a line `number N`
abbrev pub number_in : List ℕ → Option ℕ
number_in line = if is_marked line then number_of (drop 7 line) else None

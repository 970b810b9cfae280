-- The values of hexadecimal digits. Ours.
use Rattle.std.specs.Prelude.{ℕ, ◌-◌, if◌then◌else◌}
use Rattle.meta_types.specs.Text.{is_digit, is_between}

-- the value of a digit, and 255 of what is none
abbrev pub value_of : ℕ → ℕ
value_of digit = if is_digit digit then digit - 48 else if is_between 97 102 digit then digit - 87 else 255

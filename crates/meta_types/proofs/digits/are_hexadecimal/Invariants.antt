use Rattle.std.proofs.Common.{◌≡◌, take}
use Rattle.std.specs.Prelude.{nat_lt}
use Rattle.std.specs.List.{list_all}
use Rattle.meta_types.specs.Text.{is_hexadecimal}
use Rattle.meta_types.proofs.digits.are_hexadecimal.Given as goal

-- the greatest value so far is small as long as each is a digit's
abbrev pub invariant-loop-byte : goal.invariant-loop-byte
invariant-loop-byte l = nat_lt l.greatest 16 ≡ list_all is_hexadecimal (take l.byte-index l.bytes)

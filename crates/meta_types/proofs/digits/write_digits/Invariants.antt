use Rattle.std.proofs.Common.{◌≡◌, ◌+◌, ◌*◌, ◌++◌, take, drop}
use Rattle.hex.specs.Hex.{encode_lower}
use Rattle.meta_types.proofs.digits.write_digits.Given as goal

-- what is written, and the digits of what is left
abbrev pub invariant-loop-i : goal.invariant-loop-i
invariant-loop-i l = take (l.from + 2 * l.i) l.out ++ encode_lower (drop l.i l.bytes) ≡ take l.from
    l.fn.out ++ encode_lower l.bytes

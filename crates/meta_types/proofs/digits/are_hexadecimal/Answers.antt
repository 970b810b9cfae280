use Rattle.std.proofs.Common.{◌∙◌, ap, ◌&&◌, ℕ}
use Rattle.std.specs.Prelude.{nat_lt}
use Rattle.std.specs.List.{list_all}
use Rattle.std.proofs.lemmas.List.{take_all}
use Rattle.meta_types.specs.Text.{is_hexadecimal}
use Rattle.meta_types.proofs.HexDigits.{greatest_more}
use Rattle.meta_types.proofs.digits.are_hexadecimal.Goals as goal

-- one byte more
pub loop-byte-preserved : goal.loop-byte-preserved
loop-byte-preserved c =
    greatest_more c.args.bytes.now c.loop-byte.byte-index c.loop-byte.greatest
    c.greater-greatest.result c.loop-byte-test.true
    (c.greater-greatest.ensures ∙ ap (λ (v : ℕ). nat_lt c.loop-byte.greatest 16 && nat_lt v 16)
    c.value.ensures) c.loop-byte.invariant

-- all bytes
pub returns : goal.returns
returns c = c.loop-byte.invariant ∙ ap (list_all is_hexadecimal) (take_all c.loop-byte.byte-index
    c.args.bytes.now c.loop-byte-test.false)

use Rattle.std.proofs.Common.{codes, sym, subst, refl, IsAscii}
use Rattle.meta_types.proofs.HexDigits.{all_ascii, written_ascii}
use Rattle.meta_types.proofs.digest_text.DigestText.short.Goals as goal

-- the front and the digits are ASCII
pub invariant_of-result : goal.invariant_of-result
invariant_of-result c = subst IsAscii (sym c.write_digits.ensures) (written_ascii (codes "sha256:")
    c.args.bytes.now (all_ascii (codes "sha256:") refl))

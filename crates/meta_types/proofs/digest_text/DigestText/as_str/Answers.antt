use Rattle.std.proofs.Common.{IsAscii, subst}
use Rattle.std.proofs.lemmas.Str.{IsUtf8-from_ascii}
use Rattle.meta_types.specs.Digests.{written_text}
use Rattle.meta_types.specs.declared.digest_text.Written.{Written}
use Rattle.meta_types.proofs.digest_text.DigestText.as_str.Goals as goal

-- letters and digits are ASCII
pub from_utf8_unchecked-requires : goal.from_utf8_unchecked-requires
from_utf8_unchecked-requires c = IsUtf8-from_ascii c.in-Short.text (subst (λ (w : Written). IsAscii
    (written_text w)) c.in-Short.is c.self.invariant)

pub from_utf8_unchecked-requires-in-Long : goal.from_utf8_unchecked-requires-in-Long
from_utf8_unchecked-requires-in-Long c = IsUtf8-from_ascii c.in-Long.text (subst (λ (w : Written).
    IsAscii (written_text w)) c.in-Long.is c.self.invariant)

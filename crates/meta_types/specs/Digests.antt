-- How a digest is kept. Ours.
use Rattle.std.specs.Prelude.{ℕ, List, [], ◌++◌, ◌≡◌, length, codes, drop}
use Rattle.std.specs.Result.{result_unwrap_or}
use Rattle.std.specs.Arc.{arc_value}
use Rattle.hex.specs.Hex.{encode_lower, decode_of, IsBytes}
use Rattle.meta_types.specs.Text.{Text, IsDigest}
use Rattle.meta_types.specs.declared.kept.Kept.{Kept}
use Rattle.meta_types.specs.declared.kept.Kept.TheVariants as K
use Rattle.meta_types.specs.declared.digest_text.Written.{Written}
use Rattle.meta_types.specs.declared.digest_text.Written.TheVariants as W

-- the algorithm, and the bytes as lower-case hexadecimal digits
abbrev pub text_of : Kept → Text
text_of (K.Short bytes) = codes "sha256:" ++ encode_lower bytes
text_of (K.Long bytes) = codes "sha512:" ++ encode_lower (arc_value bytes)

-- their number is that of the algorithm, and each is below 256
abbrev pub AreBytes : Kept → Type 0
AreBytes (K.Short bytes) = IsBytes bytes × (length bytes ≡ 32)
AreBytes (K.Long bytes) = IsBytes (arc_value bytes) × (length (arc_value bytes) ≡ 64)

-- they are those of a digest
abbrev pub IsKept : Kept → Type 0
IsKept kept = AreBytes kept × IsDigest (text_of kept)

-- the bytes that a digest's text names
abbrev pub bytes_in : Text → List ℕ
bytes_in text = result_unwrap_or (decode_of (drop 7 text)) []

-- a text that was written out
abbrev pub written_text : Written → Text
written_text (W.Short text) = text
written_text (W.Long text) = text

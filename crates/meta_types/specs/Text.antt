-- Texts: how they compare, and which are names and digests. Ours, unless a source stands beside.
use Rattle.std.specs.Prelude.{ℕ, Bool, false, not, ◌&&◌, ◌||◌, nat_le, ◌==◌, List, [], ◌∷◌, map, length, take, drop, String, string_bytes, codes, bytes_eq, IsTrue, nat_eq}
use Rattle.std.specs.List.{list_all, starts_with}
use Rattle.std.specs.Cmp.Lexicographic.{slice_cmp}
use Rattle.std.specs.Ordering.{nat_cmp}
use Rattle.std.specs.declared.cmp.Ordering.{Ordering}

-- a text is the list of its bytes
abbrev pub Text : Type 0
Text = List ℕ

-- texts are ordered by their bytes
abbrev pub text_cmp : Text → Text → Ordering
text_cmp = slice_cmp nat_cmp

-- pairs of texts, as the program stores them
abbrev pub texts_of : {A : Type 0} → List (String A × String A) → List (Text × Text)
texts_of entries = map (λ e. (string_bytes e.0, string_bytes e.1)) entries

abbrev pub begins_with : Text → Text → Bool
begins_with prefix text = starts_with nat_eq text prefix

-- ---- names

-- a byte from `low` to `high`, both included
abbrev pub is_between : ℕ → ℕ → ℕ → Bool
is_between low high byte = nat_le low byte && nat_le byte high

-- `0` to `9` (ASCII)
abbrev pub is_digit : ℕ → Bool
is_digit = is_between 48 57

-- `0` to `9`, `a` to `z` and `A` to `Z` (ASCII)
abbrev pub is_letter_or_digit : ℕ → Bool
is_letter_or_digit byte = is_digit byte || is_between 97 122 byte || is_between 65 90 byte

-- a letter, a digit, `.`, `_` or `-` (containerd namespaces.md: identifiers)
abbrev pub is_short_name_byte : ℕ → Bool
is_short_name_byte byte = is_letter_or_digit byte || byte == 46 || byte == 95 || byte == 45

-- a namespace or a snapshotter has 1 to 76 such bytes, and begins with a letter or a digit (the
-- length: containerd's identifiers)
abbrev pub is_short_name : Text → Bool
is_short_name [] = false
is_short_name (first ∷ rest) = is_letter_or_digit first && list_all is_short_name_byte rest && nat_le (length rest) 75

-- neither a control character below 0x20 nor 0x7F
abbrev pub is_printed : ℕ → Bool
is_printed byte = nat_le 32 byte && not (byte == 127)

-- every other name is UTF-8 text of 1 to 1,024 printed bytes; that a text is
-- UTF-8 is known of every text
abbrev pub is_name : Text → Bool
is_name text = nat_le 1 (length text) && nat_le (length text) 1024 && list_all is_printed text

-- ---- digests

-- "the encoded portion MUST match /[a-f0-9]{64}/" (OCI image specification, descriptor.md, SHA-256;
-- SHA-512 likewise)
abbrev pub is_hexadecimal : ℕ → Bool
is_hexadecimal byte = is_digit byte || is_between 97 102 byte

-- the algorithm, then the given number of lower-case hexadecimal digits (OCI image specification,
-- descriptor.md, digests)
abbrev pub is_hash : Text → ℕ → Text → Bool
is_hash prefix digits text = bytes_eq (take (length prefix) text) prefix
    && length (drop (length prefix) text) == digits
    && list_all is_hexadecimal (drop (length prefix) text)

-- the two registered algorithms (OCI image specification, descriptor.md), and no other
abbrev pub is_digest : Text → Bool
is_digest text = is_hash (codes "sha256:") 64 text || is_hash (codes "sha512:") 128 text

-- ---- as facts

abbrev pub IsShortName : Text → Type 0
IsShortName text = IsTrue (is_short_name text)

abbrev pub IsName : Text → Type 0
IsName text = IsTrue (is_name text)

abbrev pub IsDigest : Text → Type 0
IsDigest text = IsTrue (is_digest text)

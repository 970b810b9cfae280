-- Data of objects, which no collection reads. Ours, unless a source stands beside.
use Rattle.std.specs.Prelude.{ℕ, nat_le, nat_lt, ◌==◌, ◌||◌, sum_by, Bool, [], Option, unwrap_or, if◌then◌else◌}
use Rattle.meta_types.specs.Text.{Text, is_between}

-- the bytes in which JSON writes a byte of a text: two for a quote, a backslash and the control
-- characters that have a letter, six for the other control characters (RFC 8259, 7)
abbrev pub written_bytes : ℕ → ℕ
written_bytes byte =
    if byte == 34 || byte == 92 || is_between 8 10 byte || byte == 12 || byte == 13 then 2
    else (if nat_lt byte 32 then 6 else 1)

-- a text of at most 49,152 bytes as JSON writes them
abbrev pub is_data : Text → Bool
is_data text = nat_le (sum_by written_bytes text) 49152

-- data that may be left out: then it is empty
abbrev pub data_of : Option Text → Text
data_of text = unwrap_or text []

-- Texts, and the moments that they name. Ours, unless a source stands beside.
use Rattle.std.specs.Prelude.{◌≡◌, List, [], ◌∷◌, map, Some, None, codes, IsTrue, ℤ, pos, neg_ℤ, int_le, int_lt}
use Rattle.meta_types.specs.Text.{Text}
use Rattle.meta_types.specs.Time.{instant_of}
use Rattle.meta_types.specs.EndTexts.{end_text}

-- times, in nanoseconds since 1970-01-01T00:00:00Z (RFC 3339, 5.6 and 5.8)
abbrev pub times : List (Text × ℤ)
times = (codes "1970-01-01T00:00:00Z", pos 0)
    ∷ (codes "1969-12-31T23:59:59.5Z", neg_ℤ (pos 500000000))
    ∷ (codes "2024-03-01T00:00:00Z", pos 1709251200000000000)
    ∷ (codes "2024-03-01T00:30:00+01:00", pos 1709249400000000000)
    ∷ (codes "2024-02-29T23:30:00Z", pos 1709249400000000000)
    ∷ (codes "2024-03-01T00:00:00-00:00", pos 1709251200000000000)
    ∷ (codes "0000-01-01T00:00:00+23:59", neg_ℤ (pos 62167305540000000000))
    ∷ []

-- texts that are no time, or none of a year up to 9998 (RFC 3339, 5.6; the years, upper case and no
-- leap seconds: ours)
abbrev pub no_times : List Text
no_times = codes ""
    ∷ codes "tomorrow"
    ∷ codes "2023-02-29T00:00:00Z"
    ∷ codes "2024-03-01T24:00:00Z"
    ∷ codes "2024-03-01T00:00:60Z"
    ∷ codes "2024-03-01t00:00:00Z"
    ∷ codes "2024-03-01 00:00:00Z"
    ∷ codes "2024-03-01T00:00:00"
    ∷ codes "2024-03-01T00:00:00.Z"
    ∷ codes "2024-03-01T00:00:00.0000000001Z"
    ∷ codes "2024-03-01T00:00:00+24:00"
    ∷ codes "2024-03-01T00:00:00+01"
    ∷ codes "9999-01-01T00:00:00Z"
    ∷ []

-- each of the times is read as its moment
abbrev pub TimesAreRead : Type 0
TimesAreRead = map (λ (row : Text × ℤ). instant_of row.0) times ≡ map (λ (row : Text × ℤ). Some row.1) times

-- none of the other texts is read as a moment
abbrev pub OthersAreNoTimes : Type 0
OthersAreNoTimes = map instant_of no_times ≡ map (λ (text : Text). None) no_times

-- the text of an end in the years 0000 to 9998 reads as that end
abbrev pub EndsAreRead : Type 0
EndsAreRead =
    (end : ℤ) → IsTrue (int_le (neg_ℤ (pos 62167219200000000000)) end)
    → IsTrue (int_lt end (pos 253370764800000000000)) → instant_of (end_text end) ≡ Some end

-- The head of a journal's file, and how much behind it is believed.
use Rattle.std.specs.Prelude.{◌≡◌, ◌⊎◌, ◌≤◌, ◌+◌, ◌-◌, ◌*◌, ℕ, suc, ◌==◌, ◌||◌, ◌&&◌, not, List, [], ◌∷◌, length, take, drop, replicate, slice_index, Bool, true, false, bytes_eq, if◌then◌else◌}
use Rattle.std.specs.List.{list_any}

-- "#metad journal ", a digit, and a line feed
abbrev pub line_of : ℕ → List ℕ
line_of digit =
    35 ∷ 109 ∷ 101 ∷ 116 ∷ 97 ∷ 100 ∷ 32
    ∷ 106 ∷ 111 ∷ 117 ∷ 114 ∷ 110 ∷ 97 ∷ 108 ∷ 32 ∷ digit ∷ 10 ∷ []

-- the first line of a file of format 1, whose text begins behind its head
abbrev pub old_line : List ℕ
old_line = line_of 49

-- the first line of a file of format 2, in which a page of notes stands before the text
abbrev pub first_line : List ℕ
first_line = line_of 50

-- a line by which a journal begins
abbrev pub is_first_line : List ℕ → Bool
is_first_line line = bytes_eq line first_line || bytes_eq line old_line

-- a file has a page of notes
abbrev pub has_page : List ℕ → Bool
has_page file = bytes_eq (take 17 file) first_line

-- the marks: 2,037 pairs of '+' or 0, behind the first line
abbrev pub marks_of : List ℕ → List ℕ
marks_of file = take 4074 (drop 17 file)

-- the selector: three bytes of '+' or 0, behind the marks
abbrev pub selector_of : List ℕ → List ℕ
selector_of file = take 3 (drop 4091 file)

-- a byte that is no mark
abbrev pub is_other : ℕ → Bool
is_other byte = not (byte == 0) && not (byte == 43)

-- a byte that is there
abbrev pub is_there : ℕ → Bool
is_there byte = not (byte == 0)

-- a pair counts if one of both is there
abbrev pub is_pair : ℕ → ℕ → Bool
is_pair one other = (one == 43) || (other == 43)

-- how many pairs count from the front on
abbrev pub pairs : List ℕ → ℕ
pairs [] = 0
pairs (one ∷ []) = 0
pairs (one ∷ other ∷ marks) = if is_pair one other then suc (pairs marks) else 0

-- the bytes that are believed: behind a head of 4,096 bytes 1 MiB for each pair
abbrev pub believed : List ℕ → List ℕ
believed file = take (1048576 * pairs (marks_of file)) (drop 4096 file)

-- the files that a crash may leave, as what is believed of them
abbrev pub Texts : (List ℕ → Type 0) → List ℕ → Type 0
Texts outcomes text = (file : List ℕ) × outcomes file × (text ≡ believed file)

-- The head, of 4,096 bytes, of a file of this size. It has this number of pairs of marks, and zeros
-- behind these; a selector, a zero and a line feed. What is believed stands in the file.
pub record IsHead (head : List ℕ) (size steps : ℕ) : Type 0 where
  pub line : is_first_line (take 17 head) ≡ true
  pub marks : list_any is_other (marks_of head) ≡ false
  pub count : pairs (marks_of head) ≡ steps
  pub later : drop (2 * steps) (marks_of head) ≡ replicate (4074 - 2 * steps) 0
  pub selector : list_any is_other (selector_of head) ≡ false
  pub gap : take 1 (drop 4094 head) ≡ 0 ∷ []
  pub feed : take 1 (drop 4095 head) ≡ 10 ∷ []
  pub fits : 4096 + 1048576 * steps ≤ size

-- a file with such a head
abbrev pub IsHeaded : List ℕ → ℕ → Type 0
IsHeaded file steps = IsHead file (length file) steps

-- the bytes of a new head
abbrev pub head_byte : ℕ → ℕ
head_byte at = if at == 4095 then 10 else slice_index first_line at

-- a byte of a new head, or the digit of format 1
abbrev pub is_head_byte : ℕ → ℕ → Bool
is_head_byte at byte = (byte == head_byte at) || ((at == 15) && (byte == 49))

-- each byte of a file, from this place on, is that of a new head, of either format, or 0
abbrev pub is_blank_from : ℕ → List ℕ → Bool
is_blank_from at [] = true
is_blank_from at (byte ∷ bytes) =
    ((byte == 0) || is_head_byte at byte) && is_blank_from (suc at) bytes

-- no head was ever whole in this file, and no byte stands behind it
abbrev pub is_blank : List ℕ → Bool
is_blank file = is_blank_from 0 file

-- a file that is neither blank nor begins with a first line
abbrev pub IsUnknown : List ℕ → Type 0
IsUnknown file = (is_blank file ≡ false) × (is_first_line (take 17 file) ≡ false)

-- a file that begins with a first line, and whose head can't be read
abbrev pub HasLostHead : List ℕ → Type 0
HasLostHead file = (is_first_line (take 17 file) ≡ true)
    × ((steps : ℕ) → IsHeaded file steps → ⊥)

-- a file is as it was, or was blank
abbrev pub IsSameOrBlank : List ℕ → List ℕ → Type 0
IsSameOrBlank old new = (new ≡ old) ⊎ (is_blank old ≡ true)

-- The text of a journal. Lines stand in groups; a group was accepted at once, and ends by a commit
-- line, twice, which has the sum of all that stands before it and the place where its group begins.
use Rattle.std.specs.Prelude.{◌≡◌, ℕ, ◌+◌, ◌==◌, nat_lt, List, [], ◌∷◌, ◌++◌, length, Bool, false}
use Rattle.std.specs.List.{list_any, AllByRecursion}
use Rattle.std.specs.Int.{to_be_bytes, w64}
use Rattle.sha2.specs.Sha256.{sha256}
use Rattle.hex.specs.Hex.{encode_lower}

-- the byte that ends a line
abbrev pub is_line_feed : ℕ → Bool
is_line_feed byte = byte == 10

-- a byte that isn't there
abbrev pub is_zero : ℕ → Bool
is_zero byte = byte == 0

-- a byte of this line isn't there
abbrev pub is_torn : List ℕ → Bool
is_torn line = list_any is_zero line

-- a byte that no UTF-8 text has
abbrev pub is_noise : ℕ → Bool
is_noise byte = nat_lt 244 byte

-- such a byte is in a text
abbrev pub has_noise : List ℕ → Bool
has_noise text = list_any is_noise text

-- a commit line begins with '#', and no request does
abbrev pub is_commit : List ℕ → Bool
is_commit [] = false
is_commit (byte ∷ line) = byte == 35

-- lines as bytes: each ends by a line feed
abbrev pub lines_text : List (List ℕ) → List ℕ
lines_text [] = []
lines_text (line ∷ lines) = line ++ 10 ∷ lines_text lines

-- the SHA-256 of a text, as 64 digits
unfoldable pub sum_of : List ℕ → List ℕ
sum_of text = encode_lower (sha256 text)

-- a place in the file, as a blank and 16 digits
unfoldable pub place_text : ℕ → List ℕ
place_text place = 32 ∷ encode_lower (to_be_bytes w64 place)

-- the sum of a group: it goes over the sum before it, and so over all that stands before
abbrev pub group_sum : List ℕ → List (List ℕ) → List ℕ
group_sum before lines = sum_of (before ++ lines_text lines)

-- a commit line with this sum and place, without its line feed
abbrev pub commit_of : List ℕ → ℕ → List ℕ
commit_of sum start = 35 ∷ sum ++ place_text start

-- the line that commits these lines behind a sum
abbrev pub commit_line : List ℕ → ℕ → List (List ℕ) → List ℕ
commit_line before start lines = commit_of (group_sum before lines) start

-- what is written for one group
abbrev pub group_lines : List ℕ → ℕ → List (List ℕ) → List (List ℕ)
group_lines before start group =
    group ++ commit_line before start group ∷ commit_line before start group ∷ []

-- the same as bytes
abbrev pub group_text : List ℕ → ℕ → List (List ℕ) → List ℕ
group_text before start group = lines_text (group_lines before start group)

-- where it ends
abbrev pub group_end : List ℕ → ℕ → List (List ℕ) → ℕ
group_end before start group = start + length (group_text before start group)

-- the last sum of a journal, from a first one on
abbrev pub sum_after : List ℕ → List (List (List ℕ)) → List ℕ
sum_after before [] = before
sum_after before (group ∷ groups) = sum_after (group_sum before group) groups

-- all lines of a journal that begins at a place
abbrev pub lines_from : List ℕ → ℕ → List (List (List ℕ)) → List (List ℕ)
lines_from before start [] = []
lines_from before start (group ∷ groups) =
    group_lines before start group ++ lines_from (group_sum before group)
    (group_end before start group) groups

-- all lines of a journal from the front of its file
abbrev pub journal_lines : List ℕ → List (List (List ℕ)) → List (List ℕ)
journal_lines first groups = lines_from first 0 groups

-- the same as bytes
abbrev pub journal_text : List ℕ → List (List (List ℕ)) → List ℕ
journal_text first groups = lines_text (journal_lines first groups)

-- where it ends
abbrev pub journal_end : List ℕ → List (List (List ℕ)) → ℕ
journal_end first groups = length (journal_text first groups)

-- what can stand in a group: a line without a line feed, a zero and a byte that no UTF-8 text has,
-- and that is no commit line
pub record IsLine (line : List ℕ) : Type 0 where
  pub whole : list_any is_line_feed line ≡ false
  pub marked : is_torn line ≡ false
  pub plain : is_commit line ≡ false
  pub clear : has_noise line ≡ false

-- each can stand in a group
abbrev pub AreLines : List (List ℕ) → Type 0
AreLines lines = AllByRecursion IsLine lines

-- groups of such lines
abbrev pub AreGroups : List (List (List ℕ)) → Type 0
AreGroups groups = AllByRecursion AreLines groups

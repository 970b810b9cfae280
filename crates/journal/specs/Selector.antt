-- Which of two files counts, as the head of the first one says.
use Rattle.std.specs.Prelude.{◌≡◌, ◌⊎◌, ℕ, ◌==◌, ◌&&◌, ◌||◌, List, [], ◌∷◌, take, drop, slice_index, Bool, true, false}
use Rattle.journal.specs.Head.{believed, IsHeaded, IsSameOrBlank}

-- the end of a head: three bytes of selector, a zero and a line feed
abbrev pub tail_of : List ℕ → List ℕ
tail_of file = take 5 (drop 4091 file)

-- a byte of selector as it is put: '+' where the other file counts
abbrev pub selector_byte : Bool → ℕ
selector_byte true = 43
selector_byte false = 0

-- the three bytes as they are put
abbrev pub selector_bytes : Bool → List ℕ
selector_bytes is_standby =
    selector_byte is_standby ∷ selector_byte is_standby ∷ selector_byte is_standby ∷ []

-- at least two of three
abbrev pub most : Bool → Bool → Bool → Bool
most true two three = two || three
most false two three = two && three

-- at least two of three bytes are '+'
abbrev pub is_most : ℕ → ℕ → ℕ → Bool
is_most one two three = most (one == 43) (two == 43) (three == 43)

-- what the end of a head says; where its last byte isn't there, the other file never counts
abbrev pub tail_counts : List ℕ → Bool
tail_counts tail =
    (slice_index tail 4 == 10)
    && is_most (slice_index tail 0) (slice_index tail 1) (slice_index tail 2)

-- the other file counts
abbrev pub other_counts : List ℕ → Bool
other_counts file = tail_counts (tail_of file)

-- a file whose head's last byte is there, and that has this selector
pub record HasSelector (is_standby : Bool) (file : List ℕ) : Type 0 where
  pub feed : slice_index (tail_of file) 4 ≡ 10
  pub selector : other_counts file ≡ is_standby

-- each file that a crash may leave has this selector
abbrev pub AllSelect : Bool → (List ℕ → Type 0) → Type 0
AllSelect is_standby outcomes = (file : List ℕ) → outcomes file → HasSelector is_standby file

-- what is left where a selector is put, whole or not: the text and the head as they were, and the
-- selector that was there or the new one
pub record SelectorLeft (is_standby : Bool) (old left : List ℕ) : Type 0 where
  pub text : believed left ≡ believed old
  pub head : (steps : ℕ) → IsHeaded old steps → IsHeaded left steps
  pub selector : (was : Bool) → HasSelector was old
      → HasSelector was left ⊎ HasSelector is_standby left

-- what is left where the digit of format 2 is put: the text, the head and the selector as they were
pub record FormatLeft (old left : List ℕ) : Type 0 where
  pub text : believed left ≡ believed old
  pub head : (steps : ℕ) → IsHeaded old steps → IsHeaded left steps
  pub selector : (was : Bool) → HasSelector was old → HasSelector was left

-- the same text, and the same file counts
pub record SameSelector (old new : List ℕ) : Type 0 where
  pub text : believed new ≡ believed old
  pub selector : other_counts new ≡ other_counts old

-- what a crash may leave now it might have left before, or it has the old file's text and selector
abbrev pub LeavesSelector : List ℕ → (List ℕ → Type 0) → (List ℕ → Type 0) → Type 0
LeavesSelector old before now = (c : List ℕ) → now c → before c ⊎ SameSelector old c

-- What reading a head leaves: the text and the selector as they were. Only a file that was blank is
-- changed.
pub record ReadsHead (old new : List ℕ) (before now : List ℕ → Type 0) : Type 0 where
  pub same : SameSelector old new
  pub changed : IsSameOrBlank old new
  pub crash : LeavesSelector old before now

-- nothing is believed of a file, and the other one doesn't count
pub record IsUnused (file : List ℕ) : Type 0 where
  pub text : believed file ≡ []
  pub selector : other_counts file ≡ false

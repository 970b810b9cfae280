-- Small files and what is found in them, byte for byte: so the definitions of lines, groups, sums,
-- notes and damage are run, and a definition by which nothing is ever found would be refused. Each
-- sum that stands here was computed by `sha256sum`.
use Rattle.std.specs.Prelude.{◌≡◌, ℕ, List, [], ◌∷◌, ◌++◌, replicate, codes, true, false, Some, None}
use Rattle.journal.specs.Text.{sum_after, journal_end}
use Rattle.journal.specs.Reading.{Found, found, sound}
use Rattle.journal.specs.Crashes.{PutCrash}
use Rattle.journal.specs.Groups.{HasGroups}
use Rattle.journal.specs.Notes.{first_sum, is_found, Reads}
use Rattle.journal.specs.declared.page.note.Note.{Note}

-- a text, and zeros behind it
abbrev pub in_room : List ℕ → List ℕ
in_room text = text ++ replicate 8 0

-- a line and its line feed, twice
abbrev pub twice : List ℕ → List ℕ
twice line = line ++ 10 ∷ (line ++ 10 ∷ [])

-- these groups, and damage behind them
abbrev pub damaged_behind : List (List (List ℕ)) → Found
damaged_behind groups = record { groups = groups; is_damaged = true }

-- ---- three groups in a file of format 1; the first two are those of docs/JOURNAL.md

-- the first sum of such a file
abbrev pub zero_digits : List ℕ
zero_digits = replicate 64 48

-- the sum of the first group
abbrev pub digits_one : List ℕ
digits_one = codes "e686ccb17d545eeea681378e3668fa51b3507ec4bd5f6ed9cba9ba189422d597"

-- the sum of the second group
abbrev pub digits_two : List ℕ
digits_two = codes "2058a33515a6b37d9649d16b50fb4471db6ff04d3153349815aecc2c31db3709"

-- the sum of the third group
abbrev pub digits_three : List ℕ
digits_three = codes "36b460d328bf47cd6b4ae8dae26f4cde83928e64e7b1b137f503cdd4e9644ac8"

-- the commit line of the first group
abbrev pub commit_one : List ℕ
commit_one = 35 ∷ digits_one ++ codes " 0000000000000000"

-- the commit line of the second group, which begins at 171
abbrev pub commit_two : List ℕ
commit_two = 35 ∷ digits_two ++ codes " 00000000000000ab"

-- the commit line of the third group, which begins at 339
abbrev pub commit_three : List ℕ
commit_three = 35 ∷ digits_three ++ codes " 0000000000000153"

-- the bytes of the first group
abbrev pub text_one : List ℕ
text_one = codes "a\nbc\n" ++ twice commit_one

-- the bytes of the second group
abbrev pub text_two : List ℕ
text_two = codes "d\n" ++ twice commit_two

-- the bytes of the third group
abbrev pub text_three : List ℕ
text_three = codes "ef\n" ++ twice commit_three

-- the bytes of the first two groups
abbrev pub two_texts : List ℕ
two_texts = text_one ++ text_two

-- the lines of the first group
abbrev pub group_one : List (List ℕ)
group_one = codes "a" ∷ codes "bc" ∷ []

-- the line of the second group
abbrev pub group_two : List (List ℕ)
group_two = codes "d" ∷ []

-- the line of the third group
abbrev pub group_three : List (List ℕ)
group_three = codes "ef" ∷ []

-- the first two groups
abbrev pub two_groups : List (List (List ℕ))
two_groups = group_one ∷ group_two ∷ []

-- The file has these two groups. The sum of the second one is the last sum, and they end at 339.
abbrev pub AFileHasItsGroups : Type 0
AFileHasItsGroups =
    HasGroups (in_room two_texts) (λ left. left ≡ in_room two_texts) digits_two 339 zero_digits
    two_groups

-- ---- a torn group

-- the third group, of which the `f` is lost
abbrev pub torn_line : List ℕ
torn_line = codes "e" ++ 0 ∷ 10 ∷ twice commit_three

-- the third group, of which the line feed behind the `f` is lost
abbrev pub torn_feed : List ℕ
torn_feed = codes "ef" ++ 0 ∷ twice commit_three

-- the third group, of which the last digit of the second commit line is lost
abbrev pub torn_commit : List ℕ
torn_commit =
    codes "ef\n" ++ (commit_three
    ++ 10 ∷ (35 ∷ digits_three ++ (codes " 000000000000015" ++ 0 ∷ 10 ∷ [])))

-- The two groups are found, and so is a third group behind them. If the third group is torn, only
-- the two are found, without damage.
pub record TornGroupsAreLeftOut : Type 0 where
  pub two : found zero_digits (in_room two_texts) ≡ sound two_groups
  pub three : found zero_digits (in_room (two_texts ++ text_three))
      ≡ sound (group_one ∷ group_two ∷ group_three ∷ [])
  pub line : found zero_digits (in_room (two_texts ++ torn_line)) ≡ sound two_groups
  pub feed : found zero_digits (in_room (two_texts ++ torn_feed)) ≡ sound two_groups
  pub commit : found zero_digits (in_room (two_texts ++ torn_commit)) ≡ sound two_groups

-- If a crash cuts the write of the third group, it may leave the first of these torn groups.
abbrev pub ACrashTearsAGroup : Type 0
ACrashTearsAGroup =
    PutCrash (two_texts ++ replicate 177 0) 339 text_three
    (λ left. left ≡ in_room (two_texts ++ torn_line))

-- ---- a changed byte

-- the first group, in which the `c` became a `d`
abbrev pub changed_line : List ℕ
changed_line = codes "a\nbd\n" ++ twice commit_one

-- the first group, in which the last digit of the second commit line became a 1
abbrev pub changed_place : List ℕ
changed_place =
    codes "a\nbc\n" ++ (commit_one ++ 10 ∷ (35 ∷ digits_one ++ codes " 0000000000000001\n"))

-- the first group, of which the `c` is lost
abbrev pub lost_byte : List ℕ
lost_byte = codes "a\nb" ++ 0 ∷ 10 ∷ twice commit_one

-- the second group, in which the last digit of the first commit line became an a
abbrev pub changed_commit : List ℕ
changed_commit =
    codes "d\n" ++ (35 ∷ digits_two ++ (codes " 00000000000000aa\n" ++ (commit_two ++ 10 ∷ [])))

-- the second group, in which the `d` became a byte that no UTF-8 text has
abbrev pub noisy_line : List ℕ
noisy_line = 255 ∷ 10 ∷ twice commit_two

-- Each of these changes is found as damage. The groups before it are found, and none behind it.
pub record ChangedBytesAreDamage : Type 0 where
  pub line : found zero_digits (in_room (changed_line ++ text_two)) ≡ damaged_behind []
  pub place : found zero_digits (in_room (changed_place ++ text_two)) ≡ damaged_behind []
  pub lost : found zero_digits (in_room (lost_byte ++ text_two)) ≡ damaged_behind []
  pub commit : found zero_digits (in_room (text_one ++ changed_commit))
      ≡ damaged_behind (group_one ∷ [])
  pub noise : found zero_digits (in_room (text_one ++ noisy_line))
      ≡ damaged_behind (group_one ∷ [])

-- The file with the first of these changes has no groups: not those that were written, and no
-- others.
abbrev pub AChangedFileHasNoGroups : Type 0
AChangedFileHasNoGroups =
    (last : List ℕ) (end : ℕ) (groups : List (List (List ℕ)))
    → HasGroups (in_room (changed_line ++ text_two))
    (λ left. left ≡ in_room (changed_line ++ text_two)) last end zero_digits groups → ⊥

-- ---- a checkpoint, and a group behind it, in a file of format 2

-- the sum of the checkpoint's group
abbrev pub digits_checkpoint : List ℕ
digits_checkpoint = codes "8c93b68dac75004957c97036a101064b200c77930846e8664fa42e95f40107fe"

-- the sum of the group behind it
abbrev pub digits_later : List ℕ
digits_later = codes "8e6507dc8116ed9cbe089e1585272fa13c4e4a3dce15c7f326cc0ffbf43508dd"

-- the card of the file: its checkpoint ends at 177
abbrev pub worked_card : Note
worked_card = record {
  identity = codes "0123456789abcdef0123456789abcdef";
  generation = 1;
  end = 177;
  sum = digits_checkpoint;
}

-- the page of the file: the card, and no witness
abbrev pub worked_page : List ℕ
worked_page =
    codes "0123456789abcdef0123456789abcdef 0000000000000001 00000000000000b1 "
    ++ (digits_checkpoint
    ++ (codes " 687bb5ad69dd9cacafac473567479dc35ecb200ae16ea6fa5cf70b2eb07f2688\n"
    ++ replicate 3899 0))

-- the commit line of the checkpoint's group
abbrev pub commit_checkpoint : List ℕ
commit_checkpoint = 35 ∷ digits_checkpoint ++ codes " 0000000000000000"

-- the commit line of the group behind it
abbrev pub commit_later : List ℕ
commit_later = 35 ∷ digits_later ++ codes " 00000000000000b1"

-- the bytes behind the page
abbrev pub checkpoint_text : List ℕ
checkpoint_text =
    codes "number 1\na\n" ++ (twice commit_checkpoint ++ (codes "bc\n" ++ twice commit_later))

-- the same up to the checkpoint's end, where the `a` is lost
abbrev pub torn_checkpoint : List ℕ
torn_checkpoint = codes "number 1\n" ++ 0 ∷ 10 ∷ twice commit_checkpoint

-- the lines of the checkpoint
abbrev pub group_checkpoint : List (List ℕ)
group_checkpoint = codes "number 1" ∷ codes "a" ∷ []

-- the line of the group behind it
abbrev pub group_later : List (List ℕ)
group_later = codes "bc" ∷ []

-- The card is read, and no witness. The checkpoint's group and the group behind it are found. The
-- checkpoint ends where the card says, and its last sum is the one that the card has. If the
-- checkpoint is torn, no group is found, and neither is what the card says.
pub record ACheckpointIsRead : Type 0 where
  pub card : Reads 0 worked_page (Some worked_card)
  pub witness : Reads 512 worked_page None
  pub groups : found (first_sum worked_card) (in_room checkpoint_text)
      ≡ sound (group_checkpoint ∷ group_later ∷ [])
  pub end : worked_card.end ≡ journal_end (first_sum worked_card) (group_checkpoint ∷ [])
  pub sum : worked_card.sum ≡ sum_after (first_sum worked_card) (group_checkpoint ∷ [])
  pub whole : is_found worked_card (in_room checkpoint_text) 346 ≡ true
  pub torn : found (first_sum worked_card) (in_room torn_checkpoint) ≡ sound []
  pub lacking : is_found worked_card (in_room torn_checkpoint) 0 ≡ false

-- What a checkpoint leaves in the file that doesn't count, until that one is selected.
use Rattle.std.specs.Prelude.{◌≡◌, ◌⊎◌, ◌+◌, ◌^◌, ◌<◌, ℕ, List, [], length, take, drop, replicate, Bool, IsTrue, if◌then◌else◌}
use Rattle.journal.specs.Crashes.{Only}
use Rattle.journal.specs.Growth.{Behind}
use Rattle.journal.specs.Groups.{HasGroups}
use Rattle.journal.specs.Head.{believed}
use Rattle.journal.specs.Notes.{first_sum, IsNote, StandsAt, NoteLeft}
use Rattle.journal.specs.Bonds.{IsNext}
use Rattle.journal.specs.declared.page.note.Note.{Note}
use Rattle.line_loop.specs.JournalLines.{lines_of}

-- Behind its page a file has groups of these lines, and the page says so by a card of the file that
-- comes next. All of it is on the disk. No read has answered what isn't there.
pub record HasCheckpoint (card next : Note) (clean : Bool) (text : List ℕ)
    (outcomes : List ℕ → Type 0) (lines : List (List ℕ)) : Type 0 where
  pub reads : IsTrue clean
  pub is : IsNote next
  pub store : next.identity ≡ card.identity
  pub comes : next.generation ≡ card.generation + 1
  pub stands : StandsAt 0 text next
  pub durable : Only text outcomes
  pub groups : List (List (List ℕ))
  pub has : HasGroups (drop 4096 text) (Behind 4096 outcomes) next.sum next.end (first_sum next)
      groups
  pub are : lines_of groups ≡ lines

-- the card of the file that comes next, but for where its groups end
abbrev pub next_of : Note → Note
next_of card = record {
  identity = card.identity;
  generation = card.generation + 1;
  end = card.end;
  sum = card.sum;
}

-- a card can stand in a page, and the one of the file that comes next too, which is this
pub record Comes (card next : Note) : Type 0 where
  pub is : IsNote card
  pub fits : card.generation + 1 < 2 ^ 64
  pub next_one : next ≡ next_of card

-- The card of the next file is put over this front of a file, whole or not.
pub record CardPut (card : Note) (page left : List ℕ) : Type 0 where
  pub put : Note
  pub is : IsNote put
  pub next : IsNext card.identity card.generation put
  pub before : List ℕ
  pub same : take 4096 before ≡ page
  pub note : NoteLeft 0 put before left

-- what may be left of a file's page until the card of a checkpoint is there: the page, or so
abbrev pub CardLeft : Note → List ℕ → List ℕ → Type 0
CardLeft card page left = (take 4096 left ≡ page) ⊎ CardPut card page left

-- the page of a text; none where a read of it answered what isn't there
abbrev pub page_if : Bool → List ℕ → List ℕ
page_if clean text = if clean then take 4096 text else []

-- So of each file that a crash may leave, under the card of the file that comes next, if no read
-- has answered what isn't there.
abbrev pub LeavesCard : Note → Note → List ℕ → Bool → (List ℕ → Type 0) → Type 0
LeavesCard card next page clean leaves =
    Comes card next → IsTrue clean → (c : List ℕ) → leaves c → CardLeft card page (believed c)

-- a text is zeros, and all of it is on the disk
pub record IsZeros (text : List ℕ) (outcomes : List ℕ → Type 0) : Type 0 where
  pub zeros : text ≡ replicate (length text) 0
  pub durable : Only text outcomes

-- A text has groups behind a first sum, of lines that make something.
pub record HasWritten (makes : List (List ℕ) → Type 0) (first text : List ℕ)
    (outcomes : List ℕ → Type 0) (last : List ℕ) (end : ℕ) : Type 0 where
  pub groups : List (List (List ℕ))
  pub has : HasGroups text outcomes last end first groups
  pub made : makes (lines_of groups)

-- The two files of a folder, as their bytes, and the lines that a start finds there.
use Rattle.std.specs.Prelude.{◌≡◌, ◌⊎◌, ℕ, List, take, drop, Bool, true, false, if◌then◌else◌, Option, Some, None}
use Rattle.journal.specs.Text.{journal_text, journal_end}
use Rattle.journal.specs.Reading.{found, sound}
use Rattle.journal.specs.Head.{believed}
use Rattle.journal.specs.Selector.{other_counts}
use Rattle.journal.specs.Notes.{first_sum, is_found, IsNote, StandsAt}
use Rattle.journal.specs.Bonds.{AreOne}
use Rattle.journal.specs.declared.page.note.Note.{Note}
use Rattle.line_loop.specs.JournalLines.{lines_of}

-- what is believed of the file that counts, as the head of the first one says
abbrev pub counting : List ℕ → List ℕ → List ℕ
counting first second = believed (if other_counts first then second else first)

-- what is believed of the other file
abbrev pub standby : List ℕ → List ℕ → List ℕ
standby first second = believed (if other_counts first then first else second)

-- a note that a start reads: the card of the file that counts, or a witness in one of both pages
abbrev pub IsRead : List ℕ → List ℕ → Note → Type 0
IsRead page other note =
    IsNote note × (StandsAt 0 page note ⊎ (StandsAt 512 page note ⊎ StandsAt 512 other note))

-- what a note of this generation says is found among the groups of the file that counts
abbrev pub IsKept : Note → List (List (List ℕ)) → Note → Type 0
IsKept card groups note = note.generation ≡ card.generation
    → is_found note (journal_text (first_sum card) groups) (journal_end (first_sum card) groups)
    ≡ true

-- The page of the file that counts has this card. Both files are of one store, whatever can be read
-- of their pages, and no note says more than these groups have.
pub record Belongs (page other : List ℕ) (card : Note)
    (groups : List (List (List ℕ))) : Type 0 where
  pub is : IsNote card
  pub stands : StandsAt 0 page card
  pub one : AreOne card.identity card.generation page other
  pub kept : (note : Note) → IsRead page other note → IsKept card groups note

-- A start finds these lines in the text behind a page, without damage, and refuses nothing.
pub record FindsIn (page text other : List ℕ) (lines : List (List ℕ)) : Type 0 where
  pub card : Note
  pub groups : List (List (List ℕ))
  pub belongs : Belongs page other card groups
  pub sound : found (first_sum card) text ≡ sound groups
  pub has : lines_of groups ≡ lines

-- a start finds these lines in what is believed of the file that counts, and of the other one
abbrev pub FindsOf : List ℕ → List ℕ → List (List ℕ) → Type 0
FindsOf counts other lines = FindsIn (take 4096 counts) (drop 4096 counts) other lines

-- a start finds these lines in two files
abbrev pub Finds : List ℕ → List ℕ → List (List ℕ) → Type 0
Finds first second lines = FindsOf (counting first second) (standby first second) lines

-- what a start finds in two files: lines, or none, and then it refuses them
abbrev pub Tells : List ℕ → List ℕ → Option (List (List ℕ)) → Type 0
Tells first second (Some lines) = Finds first second lines
Tells first second None = (lines : List (List ℕ)) → Finds first second lines → ⊥

-- the first and the second file are left so, of which the second counts or the first
abbrev pub Left : Bool → (List ℕ → Type 0) → (List ℕ → Type 0) → List ℕ → List ℕ → Type 0
Left true counts other first second = other first × counts second
Left false counts other first second = counts first × other second

-- what a start may find in the two files that a crash leaves
abbrev pub MayTell : Bool → (List ℕ → Type 0) → (List ℕ → Type 0) → Option (List (List ℕ)) → Type 0
MayTell is_second counts other told = (first : List ℕ) × (second : List ℕ)
    × Left is_second counts other first second × Tells first second told

-- What holds of the two files of a folder. Each statement is the contract of a function of the
-- module `laws`.
use Rattle.std.specs.Prelude.{◌≡◌, ◌⊎◌, ℕ, ◌+◌, List, drop, Bool, not, Option, Some}
use Rattle.journal.specs.Reading.{found, sound}
use Rattle.journal.specs.Crashes.{Holes}
use Rattle.journal.specs.Selector.{HasSelector, SelectorLeft}
use Rattle.journal.specs.Notes.{first_sum, note_text, IsNote, StandsAt, NoteLeft}
use Rattle.journal.specs.Bonds.{IsUpTo, IsNext}
use Rattle.journal.specs.declared.page.note.Note.{Note}
use Rattle.line_loop.specs.JournalLines.{lines_of}
use Rattle.store_folder.specs.Folders.{standby, IsKept, FindsOf, Finds, Tells}

-- Two files tell one thing: what a start finds there is all that it may find.
abbrev pub FilesTellOneThing : Type 0
FilesTellOneThing = (first second : List ℕ) (lines : List (List ℕ)) (told : Option (List (List ℕ)))
    → Finds first second lines → Tells first second told → told ≡ Some lines

-- each note with this text says what is found of the file that counts
abbrev pub IsTrueOf : Note → List (List (List ℕ)) → Note → Type 0
IsTrueOf card groups put = (note : Note) → IsNote note → note_text note ≡ note_text put
    → IsKept card groups note

-- A witness that is put into the other file, whole or not, leaves the lines.
abbrev pub AWitnessLeavesTheLines : Type 0
AWitnessLeavesTheLines = (counts other left : List ℕ) (lines : List (List ℕ)) (put : Note)
    → (finds : FindsOf counts other lines) → IsNote put
    → IsUpTo finds.card.identity finds.card.generation put
    → IsTrueOf finds.card finds.groups put
    → NoteLeft 512 put other left → FindsOf counts left lines

-- So does one in the file that counts.
abbrev pub AnOwnWitnessLeavesTheLines : Type 0
AnOwnWitnessLeavesTheLines = (counts other left : List ℕ) (lines : List (List ℕ)) (put : Note)
    → (finds : FindsOf counts other lines) → IsNote put
    → IsUpTo finds.card.identity finds.card.generation put
    → IsTrueOf finds.card finds.groups put
    → NoteLeft 512 put counts left → FindsOf left other lines

-- So do bytes of the other file that are lost, as where it is blanked.
abbrev pub LostBytesLeaveTheLines : Type 0
LostBytesLeaveTheLines = (counts other left : List ℕ) (lines : List (List ℕ))
    → FindsOf counts other lines → Holes other left → FindsOf counts left lines

-- So does the card of a checkpoint.
abbrev pub ACardLeavesTheLines : Type 0
ACardLeavesTheLines = (counts other left : List ℕ) (lines : List (List ℕ)) (put : Note)
    → (finds : FindsOf counts other lines) → IsNote put
    → IsNext finds.card.identity finds.card.generation put
    → NoteLeft 0 put other left → FindsOf counts left lines

-- A file has a checkpoint of these lines, under the card of the file that comes next.
pub record IsCheckpoint (identity : List ℕ) (generation : ℕ) (file : List ℕ)
    (lines : List (List ℕ)) : Type 0 where
  pub card : Note
  pub is : IsNote card
  pub store : card.identity ≡ identity
  pub next : card.generation ≡ generation + 1
  pub stands : StandsAt 0 file card
  pub groups : List (List (List ℕ))
  pub sound : found (first_sum card) (drop 4096 file) ≡ sound groups
  pub has : lines_of groups ≡ lines
  pub kept : (note : Note) → IsNote note → StandsAt 0 file note → IsKept card groups note

-- A selector that is put, whole or not, leaves the lines, or those of the checkpoint in the other
-- file, which counts then.
abbrev pub ASelectorLeavesEither : Type 0
ASelectorLeavesEither = (to : Bool) (first second left : List ℕ) (lines more : List (List ℕ))
    → HasSelector (not to) first → (finds : Finds first second lines)
    → IsCheckpoint finds.card.identity finds.card.generation (standby first second) more
    → SelectorLeft to first left → Finds left second lines ⊎ Finds left second more

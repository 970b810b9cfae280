-- What a crash leaves of the file that doesn't count, while it is made ready for a checkpoint.
use Rattle.std.specs.Prelude.{◌≡◌, ℕ, List}
use Rattle.journal.specs.Crashes.{Holes}
use Rattle.journal.specs.Growth.{Longer}
use Rattle.journal.specs.Head.{believed}
use Rattle.journal.specs.Selector.{other_counts}
use Rattle.journal.specs.Notes.{NoteLeft}
use Rattle.journal.specs.declared.page.note.Note.{Note}

-- What is left of a text that is blanked, whole or not, and gets a witness then. One without a page
-- gets zeros first.
abbrev pub BlankLeft : Note → List ℕ → List ℕ → Type 0
BlankLeft put old left = (text : List ℕ) × Longer old text
    × (blank : List ℕ) × Holes text blank × NoteLeft 512 put blank left

-- so of a file, which selects the same one as before
pub record BlankIn (put : Note) (old left : List ℕ) : Type 0 where
  pub text : BlankLeft put (believed old) (believed left)
  pub selector : other_counts left ≡ other_counts old

-- A file whose first line names format 1, and that has a page of notes: the digit of format 2 was
-- changed.
use Rattle.std.specs.Prelude.{◌≡◌, ◌⊎◌, ◌||◌, List, ℕ, Bool, true, false, Option, Some, None}
use Rattle.journal.specs.Head.{has_page, believed}
use Rattle.journal.specs.Notes.{IsNote, StandsAt}
use Rattle.journal.specs.declared.page.note.Note.{Note}
use Rattle.journal.specs.declared.page.Notes.{Notes}

-- a note stands where a page has its card or its witness
abbrev pub HasNote : List ℕ → Type 0
HasNote page = (note : Note) × IsNote note × ((StandsAt 0 page note) ⊎ (StandsAt 512 page note))

-- a file of format 1 in which a note stands where its text begins
abbrev pub IsMisnamed : List ℕ → Type 0
IsMisnamed file = (has_page file ≡ false) × HasNote (believed file)

-- a note was read
abbrev pub is_read : Option Note → Bool
is_read (Some note) = true
is_read None = false

-- one of both notes was read
abbrev pub has_any : Notes → Bool
has_any notes = is_read notes.card || is_read notes.witness

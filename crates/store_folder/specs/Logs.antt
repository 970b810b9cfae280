-- The log of a folder: the journal of the file that counts, and the other file.
use Rattle.std.specs.Prelude.{◌≡◌, ℕ, List, take, drop, Bool, true}
use Rattle.journal.specs.Text.{lines_text}
use Rattle.journal.specs.Growth.{Behind}
use Rattle.journal.specs.Head.{believed}
use Rattle.journal.specs.Selector.{AllSelect}
use Rattle.journal.specs.Notes.{first_sum}
use Rattle.journal.specs.declared.page.note.Note.{Note}
use Rattle.line_loop.specs.Runs.{FindsOnly}
use Rattle.line_loop.specs.JournalLines.{HasLines}
use Rattle.store_folder.specs.Folders.{Belongs, MayTell}

-- The file that counts has these lines behind its page, and others wait. Each other file that a
-- crash may leave belongs to it, and if it is the first one, says that the second one counts. A
-- start finds the kept lines alone.
pub record HasFolder (page : List ℕ) (card : Note) (is_second : Bool) (first : List ℕ)
    (clean : Bool) (text : List ℕ) (outcomes counts other : List ℕ → Type 0) (last : List ℕ)
    (end : ℕ) (pending : List ℕ) (kept waiting : List (List ℕ)) : Type 0 where
  pub has : HasLines first clean text outcomes last end pending kept waiting
  pub begins : first ≡ first_sum card
  pub chosen : is_second ≡ true → AllSelect true other
  pub belongs : (file : List ℕ) → other file → Belongs page (believed file) card has.groups
  pub only : FindsOnly kept (MayTell is_second counts other)

-- So without a log that is open: each file that a crash may leave in place of the one that counts
-- has one page, and these lines behind it.
pub record HoldsFolder (card : Note) (is_second : Bool) (first : List ℕ) (clean : Bool)
    (text : List ℕ) (outcomes counts other : List ℕ → Type 0) (last : List ℕ) (end : ℕ)
    (kept waiting : List (List ℕ)) : Type 0 where
  pub page : List ℕ
  pub paged : (file : List ℕ) → outcomes file → take 4096 file ≡ page
  pub log : HasFolder page card is_second first clean (drop 4096 text) (Behind 4096 outcomes) counts
      other last end (lines_text waiting) kept waiting

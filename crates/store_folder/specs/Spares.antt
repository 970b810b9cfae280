-- What a crash leaves of the file that doesn't count, while notes are put into its page.
use Rattle.std.specs.Prelude.{◌≡◌, ℕ, List}
use Rattle.journal.specs.Growth.{Longer}
use Rattle.journal.specs.Head.{believed}
use Rattle.journal.specs.Selector.{other_counts}
use Rattle.journal.specs.Notes.{NoteLeft}
use Rattle.journal.specs.declared.page.note.Note.{Note}

-- the witness of a file that counts: its store, its generation, where its groups end, and their sum
abbrev pub witness_of : Note → ℕ → List ℕ → Note
witness_of card end last = record {
  identity = card.identity;
  generation = card.generation;
  end = end;
  sum = last;
}

-- What is left of a text where a witness is put, whole or not. A text without a page gets zeros
-- first, in which no note stands.
abbrev pub WitnessLeft : Note → List ℕ → List ℕ → Type 0
WitnessLeft put old left = (text : List ℕ) × Longer old text × NoteLeft 512 put text left

-- so of a file, which selects the same one as before
pub record WitnessIn (put : Note) (old left : List ℕ) : Type 0 where
  pub text : WitnessLeft put (believed old) (believed left)
  pub selector : other_counts left ≡ other_counts old

-- a file that was made longer by zeros, or not, which selects the same one as before
pub record LongerIn (old left : List ℕ) : Type 0 where
  pub text : Longer (believed old) (believed left)
  pub selector : other_counts left ≡ other_counts old

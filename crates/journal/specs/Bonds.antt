-- When two files belong together. Of a store's two files one counts, and its generation is that of
-- its card. A checkpoint goes into the other file under the next one. So the other file is of the
-- generation before or of the next one, and no note is of a later file that counted.
use Rattle.std.specs.Prelude.{◌≡◌, ◌⊎◌, ◌≤◌, ◌+◌, ◌++◌, ◌==◌, ◌&&◌, ◌||◌, not, nat_lt, ℕ, List, Bool, true, false, if◌then◌else◌, bytes_eq, Option}
use Rattle.std.specs.Option.{option_map_or}
use Rattle.journal.specs.Text.{sum_after, journal_text, journal_end}
use Rattle.journal.specs.Crashes.{Holes}
use Rattle.journal.specs.Notes.{is_found, IsNote, StandsAt, Reads, NoteLeft}
use Rattle.journal.specs.declared.page.note.Note.{Note}
use Rattle.journal.specs.declared.page.Notes.{Notes}
use Rattle.journal.specs.declared.page.bond.Bond.{Bond}
use Rattle.journal.specs.declared.page.bond.Bond.TheVariants.{Fits, OtherStore, OtherMoment, Stale}

-- a note of another store
abbrev pub is_strange : List ℕ → Note → Bool
is_strange identity note = not (bytes_eq note.identity identity)

-- a note of a file that came after this generation
abbrev pub is_later : ℕ → Note → Bool
is_later generation note = nat_lt generation note.generation

-- a note of a file that is neither just before nor just after this generation
abbrev pub is_far : ℕ → Note → Bool
is_far generation note =
    not (note.generation + 1 == generation) && not (generation + 1 == note.generation)

-- where a note can be read, whether it is so
abbrev pub is_told : (Note → Bool) → Option Note → Bool
is_told test found = option_map_or test found false

-- one of the notes beside the card of the file that counts is of another store
abbrev pub has_strange : Note → Option Note → Notes → Bool
has_strange card own other =
    is_told (is_strange card.identity) own
    || (is_told (is_strange card.identity) other.card
    || is_told (is_strange card.identity) other.witness)

-- one of both witnesses is of a later file that counted
abbrev pub has_later : Note → Option Note → Notes → Bool
has_later card own other =
    is_told (is_later card.generation) own || is_told (is_later card.generation) other.witness

-- what the notes say of a file that counts, with this card and this witness, and of the other one
abbrev pub bond_of : Note → Option Note → Notes → Bond
bond_of card own other =
    if has_strange card own other then OtherStore
    else if has_later card own other then Stale
    else if is_told (is_far card.generation) other.card then OtherMoment
    else Fits

-- a note of this store, of a file up to this generation
pub record IsUpTo (identity : List ℕ) (generation : ℕ) (note : Note) : Type 0 where
  pub store : note.identity ≡ identity
  pub before : note.generation ≤ generation

-- a note of this store, of the file before or the next one
pub record IsNext (identity : List ℕ) (generation : ℕ) (note : Note) : Type 0 where
  pub store : note.identity ≡ identity
  pub near : (note.generation + 1 ≡ generation) ⊎ (generation + 1 ≡ note.generation)

-- Two files of a store, the first of which counts, as the texts of their pages: what can be read
-- there, whatever a crash left.
pub record AreOne (identity : List ℕ) (generation : ℕ) (counting other : List ℕ) : Type 0 where
  pub counts : (note : Note) → IsNote note → StandsAt 0 counting note
      → (note.identity ≡ identity) × (note.generation ≡ generation)
  pub own : (note : Note) → IsNote note → StandsAt 512 counting note
      → IsUpTo identity generation note
  pub card : (note : Note) → IsNote note → StandsAt 0 other note → IsNext identity generation note
  pub witness : (note : Note) → IsNote note → StandsAt 512 other note
      → IsUpTo identity generation note

-- The notes that are read of such files say that they fit, whatever a crash left.
abbrev pub WhatACrashLeavesFits : Type 0
WhatACrashLeavesFits = (identity : List ℕ) (generation : ℕ) (counting other : List ℕ) (card : Note)
    (own : Option Note) (notes : Notes)
    → AreOne identity generation counting other → IsNote card
    → StandsAt 0 counting card → Reads 512 counting own → Reads 0 other notes.card
    → Reads 512 other notes.witness
    → bond_of card own notes ≡ Fits

-- A witness that is put into the file that doesn't count leaves such files, be it cut short; and
-- so does one in the file that counts.
abbrev pub AWitnessLeavesThemOne : Type 0
AWitnessLeavesThemOne = (identity : List ℕ) (generation : ℕ) (counting other left : List ℕ)
    (put : Note) → IsNote put → IsUpTo identity generation put
    → AreOne identity generation counting other
    → (NoteLeft 512 put other left → AreOne identity generation counting left)
    × (NoteLeft 512 put counting left → AreOne identity generation left other)

-- A card of the next file that is put into the one that doesn't count does, be it cut short.
abbrev pub ACardLeavesThemOne : Type 0
ACardLeavesThemOne = (identity : List ℕ) (generation : ℕ) (counting other left : List ℕ)
    (put : Note) → IsNote put → IsNext identity generation put
    → AreOne identity generation counting other → NoteLeft 0 put other left
    → AreOne identity generation counting left

-- So does the other file with bytes lost, as where it is blanked.
abbrev pub LostNotesLeaveThemOne : Type 0
LostNotesLeaveThemOne = (identity : List ℕ) (generation : ℕ) (counting other left : List ℕ)
    → AreOne identity generation counting other → Holes other left
    → AreOne identity generation counting left

-- Once the other file has the next card, it may count in place of the first.
abbrev pub AChoiceTurnsThem : Type 0
AChoiceTurnsThem = (identity : List ℕ) (generation : ℕ) (counting other : List ℕ) (card : Note)
    → IsNote card → card.identity ≡ identity → card.generation ≡ generation + 1
    → StandsAt 0 other card → AreOne identity generation counting other
    → AreOne identity (generation + 1) other counting

-- What a witness says is found in each file to which groups were added since.
abbrev pub WhatIsWitnessedIsFound : Type 0
WhatIsWitnessedIsFound = (first rest : List ℕ) (groups more : List (List (List ℕ))) (note : Note)
    → note.end ≡ journal_end first groups → note.sum ≡ sum_after first groups
    → is_found note (journal_text first (groups ++ more) ++ rest)
    (journal_end first (groups ++ more)) ≡ true

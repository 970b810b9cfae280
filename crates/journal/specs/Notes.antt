-- What a page of notes says. It stands before the text of a file of format 2: two notes, the card
-- of the file itself, and the witness of the file that counts.
use Rattle.std.specs.Prelude.{◌≡◌, ◌⊎◌, ℕ, ◌+◌, ◌-◌, ◌^◌, ◌<◌, ◌==◌, ◌&&◌, nat_le, List, [], ◌∷◌, ◌++◌, length, take, drop, Bool, true, false, if◌then◌else◌, bytes_eq, Option, Some, None}
use Rattle.journal.specs.Text.{is_torn, sum_of, place_text}
use Rattle.journal.specs.declared.page.note.Note.{Note}

-- a store's identity, a file's generation in it, where groups end there, and their last sum
abbrev pub note_body : Note → List ℕ
note_body note =
    note.identity
    ++ (place_text note.generation ++ (place_text note.end ++ 32 ∷ note.sum))

-- the same with the sum of all that, and a line feed
abbrev pub note_text : Note → List ℕ
note_text note = note_body note ++ 32 ∷ (sum_of (note_body note) ++ 10 ∷ [])

-- the sum before the first group of a file: that of its store's identity and of its generation
abbrev pub first_sum : Note → List ℕ
first_sum card = sum_of (card.identity ++ place_text card.generation)

-- what can stand in a note: no byte of it is 0
pub record IsNote (note : Note) : Type 0 where
  pub identity : length note.identity ≡ 32
  pub marked : is_torn note.identity ≡ false
  pub generation : note.generation < 2 ^ 64
  pub end : note.end < 2 ^ 64
  pub sum : length note.sum ≡ 64
  pub there : is_torn note.sum ≡ false

-- the note stands at a place
abbrev pub StandsAt : ℕ → List ℕ → Note → Type 0
StandsAt at page note = take 197 (drop at page) ≡ note_text note

-- the note that stands there, or none does
abbrev pub Reads : ℕ → List ℕ → Option Note → Type 0
Reads at page (Some note) = IsNote note × StandsAt at page note
Reads at page None = (note : Note) → IsNote note → StandsAt at page note → ⊥

-- What is left where a note is put, whole or not: nothing else is changed, and a note that can be
-- read there is the one that was, or the new one.
pub record NoteLeft (at : ℕ) (put : Note) (old left : List ℕ) : Type 0 where
  pub before : take at left ≡ take at old
  pub behind : drop (at + 197) left ≡ drop (at + 197) old
  pub size : length left ≡ length old
  pub note : (note : Note) → IsNote note → StandsAt at left note
      → (StandsAt at old note) ⊎ (note_text note ≡ note_text put)

-- The groups before this place end by this sum: so says the commit line that ends there.
abbrev pub ends_by : List ℕ → ℕ → List ℕ → Bool
ends_by text end sum = bytes_eq (take 65 (drop (end - 83) text)) (35 ∷ sum)

-- what a note says is found in a text whose groups go up to a place
abbrev pub is_found : Note → List ℕ → ℕ → Bool
is_found note text till =
    if note.end == 0 then true else nat_le note.end till && ends_by text note.end note.sum

-- What a run over whatever log is in the words of scripts. `lines_of`, `whole_lines` and
-- `AnswersLines` are those of the crate scripts, but for the relation that answers a line.
use Rattle.std.specs.Prelude.{◌≡◌, ℕ, List, [], ◌∷◌, ◌++◌, Bool, true, false, if◌then◌else◌, Option}
use Rattle.std.specs.List.{list_any}
use Rattle.std.specs.Io.KnownBytes.{Appends, Consumes}
use Rattle.journal.specs.Text.{is_line_feed}
use Rattle.line_loop.specs.Reads.{cut_long}
use Rattle.line_loop.specs.Runs.{Start, Kept, Answers}

-- the lines, with one byte more at the front of the first
abbrev pub onto_first : ℕ → List (List ℕ) → List (List ℕ)
onto_first byte [] = (byte ∷ []) ∷ []
onto_first byte (line ∷ lines) = (byte ∷ line) ∷ lines

-- each line ends by a line feed, the last one also without
abbrev pub lines_of : List ℕ → List (List ℕ)
lines_of [] = []
lines_of (byte ∷ bytes) =
    if is_line_feed byte then [] ∷ lines_of bytes else onto_first byte (lines_of bytes)

-- the bytes up to the last line feed, with it
abbrev pub up_to_last : List ℕ → List ℕ
up_to_last [] = []
up_to_last (byte ∷ bytes) =
    if list_any is_line_feed (byte ∷ bytes) then byte ∷ up_to_last bytes else []

-- from this state on the lines are answered with these bytes, one after the other
abbrev pub AnswersLines : {S : Type 0} → (S → List ℕ → List ℕ → S → Type 0) → S → List (List ℕ)
    → List ℕ → Type 0
AnswersLines {S} answers state [] written = written ≡ []
AnswersLines {S} answers state (line ∷ lines) written =
    (reply : List ℕ) × (new : S) × answers state line reply new
    × (rest : List ℕ) × (written ≡ reply ++ rest) × AnswersLines answers new lines rest

-- what a run read and wrote is so related
pub record Exchanged (related : List ℕ → List ℕ → Type 0) (unread left held contents : Option
    (List ℕ))
    : Type 0 where
  pub read : List ℕ
  pub written : List ℕ
  pub consumes : Consumes unread left read
  pub appends : Appends held contents written
  pub is : related read written

-- a line is answered by a step over as much of it as is heard
abbrev pub answers_by : {S : Type 0} → (S → List ℕ → List ℕ → Bool → S → Type 0)
    → S → List ℕ → List ℕ → S → Type 0
answers_by {S} steps state line reply new =
    (changes : Bool) × steps state (cut_long line) reply changes new

-- each line may be refused, and then nothing is done
abbrev pub MayRefuse : {S : Type 0} → (S → List ℕ → List ℕ → Bool → S → Type 0) → Type 0
MayRefuse {S} steps = (state : S) (line : List ℕ)
    → (reply : List ℕ) × answers_by steps state line reply state

-- Of a run that began with nothing: at the end what was written answers what was read; where the
-- reader failed, its whole lines; and whatever failed, it begins what answers it.
pub record AnswersScripts {S L : Type 0} (steps : S → List ℕ → List ℕ → Bool → S → Type 0)
    (holds : L → List (List ℕ) → List (List ℕ) → Type 0)
    (may_find : L → Option (List (List ℕ)) → Type 0) : Type 0 where
  pub all : (start : Start S) (to : S) (contents : Option (List ℕ)) (piece : List ℕ)
      (left : Option (List ℕ)) (log : L)
      → start.begun ≡ [] → Answers steps start true to contents piece left (holds log)
      → Exchanged (λ read written.
      AnswersLines (answers_by steps) start.service (lines_of read) written)
      start.unread left start.held contents
  pub wholes : (start : Start S) (to : S) (contents : Option (List ℕ)) (piece : List ℕ)
      (left : Option (List ℕ)) (log : L)
      → start.begun ≡ [] → Answers steps start false to contents piece left (holds log)
      → Exchanged (λ read written.
      AnswersLines (answers_by steps) start.service (lines_of (up_to_last read)) written)
      start.unread left start.held contents
  pub begins : MayRefuse steps → (start : Start S) (contents left : Option (List ℕ)) (log : L)
      → start.begun ≡ [] → Kept steps start contents left (may_find log)
      → Exchanged (λ read written. (rest : List ℕ)
      × AnswersLines (answers_by steps) start.service (lines_of read) (written ++ rest))
      start.unread left start.held contents

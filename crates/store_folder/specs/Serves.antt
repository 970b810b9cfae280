-- What a service over a folder promises, from one run to the next.
use Rattle.std.specs.Prelude.{◌≡◌, ℕ, List, [], ◌++◌, take, Bool, true, Option, Some, Result, IfErr, OnOk}
use Rattle.std.specs.Io.KnownBytes.{Appends, Consumes, IsAtEnd}
use Rattle.line_loop.specs.declared.ending.RunError.{RunError}
use Rattle.line_loop.specs.Reads.{heard, heard_till, piece_till}
use Rattle.line_loop.specs.Runs.{Entry, if_changed, asked, replies, Trace, Start, EndsRun, FindsOnly, Answers}

-- lines that make a service make it after a step too, with the line of the step where it was
-- accepted
abbrev pub MakesStep : {S : Type 0} → (S → List ℕ → List ℕ → Bool → S → Type 0)
    → (S → List (List ℕ) → Type 0) → Type 0
MakesStep {S} steps makes = (old new : S) (lines : List (List ℕ)) (line reply : List ℕ)
    (changes : Bool) → steps old line reply changes new → makes old lines
    → makes new (lines ++ if_changed changes line)

-- Lines are found, and no damage. They make the service after the first lines of what was begun and
-- read, in order. Whatever was written are replies to these.
pub record Restores {S : Type 0} (steps : S → List ℕ → List ℕ → Bool → S → Type 0)
    (makes : S → List (List ℕ) → Type 0) (start : Start S) (contents left : Option (List ℕ))
    (found : Option (List (List ℕ))) : Type 0 where
  pub lines : List (List ℕ)
  pub sound : found ≡ Some lines
  pub front : List Entry
  pub middle : S
  pub goes : Trace steps start.service front middle
  pub finds : makes middle lines
  pub read : List ℕ
  pub consumes : Consumes start.unread left read
  pub later : List (List ℕ)
  pub asks : heard (start.begun ++ read) ≡ asked front ++ later
  pub written : List ℕ
  pub wrote : Appends start.held contents written
  pub bytes : ℕ
  pub answers : written ≡ take bytes (replies front)

-- Between two runs: some lines of what was begun and read were answered, the first ones, and all
-- their replies are written. Whatever is read then, its lines go on from the piece that is kept.
pub record Goes {S : Type 0} (steps : S → List ℕ → List ℕ → Bool → S → Type 0) (start : Start S)
    (to : S) (contents : Option (List ℕ)) (piece : List ℕ) (left : Option (List ℕ)) : Type 0 where
  pub trace : List Entry
  pub goes : Trace steps start.service trace to
  pub read : List ℕ
  pub consumes : Consumes start.unread left read
  pub hears : (at_end : Bool) (more : List ℕ)
      → heard_till at_end (start.begun ++ (read ++ more))
      ≡ asked trace ++ heard_till at_end (piece ++ more)
  pub next : (at_end : Bool) (more : List ℕ)
      → piece_till at_end (start.begun ++ (read ++ more)) ≡ piece_till at_end (piece ++ more)
  pub wrote : Appends start.held contents (replies trace)

-- lines that make something are kept, and none waits
abbrev pub Stands : (List (List ℕ) → Type 0) → (List (List ℕ) → List (List ℕ) → Type 0) → Type 0
Stands makes holds = (lines : List (List ℕ)) × makes lines × holds lines []

-- One folder stands for another: if no read of it answered what isn't there, so no read of the
-- other. It keeps the same lines then, and all of it is on the disk as before.
pub record Stays {F : Type 0} (read_of rest_of : F → Type 0)
    (hold_of : F → List (List ℕ) → List (List ℕ) → Type 0) (old new : F) : Type 0 where
  pub reads : read_of new → read_of old
  pub holds : read_of new → (kept : List (List ℕ)) → hold_of old kept [] → hold_of new kept []
  pub rests : rest_of old → rest_of new

-- So of one that keeps lines which make the same as those of the other.
pub record Passes {F : Type 0} (read_of rest_of : F → Type 0)
    (hold_of : F → List (List ℕ) → List (List ℕ) → Type 0) (makes : List (List ℕ) → Type 0)
    (old new : F) : Type 0 where
  pub reads : read_of new → read_of old
  pub stands : read_of new → Stands makes (hold_of old) → Stands makes (hold_of new)
  pub rests : rest_of old → rest_of new

-- a start finds lines that make something
abbrev pub TellsWhatMakes : (List (List ℕ) → Type 0) → Option (List (List ℕ)) → Type 0
TellsWhatMakes makes told = (lines : List (List ℕ)) × makes lines × (told ≡ Some lines)

-- A folder was closed: if no read of its files answered what isn't there, so no read of it. Where
-- it kept lines that make something, a start finds such lines in its files.
pub record Closes {F G : Type 0} (read_of : F → Type 0)
    (hold_of : F → List (List ℕ) → List (List ℕ) → Type 0) (makes : List (List ℕ) → Type 0)
    (read_at : G → Type 0) (find_at : G → Option (List (List ℕ)) → Type 0) (old : F)
    (new : G) : Type 0 where
  pub reads : read_at new → read_of old
  pub tells : read_at new → Stands makes (hold_of old) → (told : Option (List (List ℕ)))
      → find_at new told → TellsWhatMakes makes told

-- A service went on from one folder to another: if no read of the other answered what isn't there,
-- and lines stood in the first that made the service, what was read was answered, and lines stand
-- in the other that make the service as it is then.
pub record Advances {S F : Type 0} (steps : S → List ℕ → List ℕ → Bool → S → Type 0)
    (makes : S → List (List ℕ) → Type 0) (read_of : F → Type 0)
    (hold_of : F → List (List ℕ) → List (List ℕ) → Type 0) (start : Start S) (old : F) (to : S)
    (contents : Option (List ℕ)) (piece : List ℕ) (left : Option (List ℕ)) (new : F) : Type 0 where
  pub reads : read_of new → read_of old
  pub goes : read_of new → Stands (makes start.service) (hold_of old)
      → Goes steps start to contents piece left
  pub stands : read_of new → Stands (makes start.service) (hold_of old)
      → Stands (makes to) (hold_of new)

-- A service went on from a folder until it ended. If no read of its files answered what isn't
-- there, and lines stood there that made the service, a start finds it again. Where nothing failed,
-- all that there was to read was answered, and lines stand there that make the service as it is.
pub record Finishes {S F G U : Type 0} (steps : S → List ℕ → List ℕ → Bool → S → Type 0)
    (makes : S → List (List ℕ) → Type 0) (read_of : F → Type 0)
    (hold_of : F → List (List ℕ) → List (List ℕ) → Type 0) (read_at : G → Type 0)
    (find_at : G → Option (List (List ℕ)) → Type 0) (start : Start S) (old : F)
    (ended : Result U RunError) (to : S) (contents : Option (List ℕ)) (piece : List ℕ)
    (left : Option (List ℕ)) (new : G) : Type 0 where
  pub reads : read_at new → read_of old
  pub restores : read_at new → Stands (makes start.service) (hold_of old)
      → (found : Option (List (List ℕ))) → find_at new found
      → Restores steps makes start contents left found
  pub answers : OnOk ended (read_at new → Stands (makes start.service) (hold_of old)
      → Answers steps start true to contents piece left (λ ls ws. Stands (makes to)
      (λ lines waiting. FindsOnly lines (find_at new))))
  pub end : OnOk ended (IsAtEnd left)
  pub error : IfErr ended (EndsRun true)

-- What a run of a service over a log has done.
use Rattle.std.specs.Prelude.{⊤, ◌≡◌, ◌⊎◌, ℕ, List, [], ◌∷◌, ◌++◌, take, Bool, true, false, IsTrue, Option, Some, None, Result, Ok, Err}
use Rattle.std.specs.Option.{option_map_or}
use Rattle.std.specs.Io.KnownBytes.{Appends, Consumes}
use Rattle.line_loop.specs.declared.ending.RunError.{RunError}
use Rattle.line_loop.specs.declared.ending.RunError.TheVariants.{OutOfMemory, LogFailed, ReadFailed, WriteFailed}
use Rattle.line_loop.specs.declared.ending.Stop.{Stop}
use Rattle.line_loop.specs.declared.ending.Stop.TheVariants.{End, CheckpointDue}
use Rattle.line_loop.specs.Reads.{heard, heard_till, piece_till}

-- a writer took the bytes but for the rest
abbrev pub WritesFront : Option (List ℕ) → Option (List ℕ) → List ℕ → List ℕ → Type 0
WritesFront before contents rest bytes = (front : List ℕ) × (front ++ rest ≡ bytes)
    × Appends before contents front

-- the bytes of a reply, if there is one
abbrev pub reply_bytes : {P : Type 0} → (P → List ℕ) → Option P → List ℕ
reply_bytes bytes reply = option_map_or bytes reply []

-- what ends a run but the reader; a log that keeps nothing ends none
abbrev pub EndsAnswering : Bool → RunError → Type 0
EndsAnswering keeps OutOfMemory = ⊤
EndsAnswering keeps LogFailed = IsTrue keeps
EndsAnswering keeps ReadFailed = ⊥
EndsAnswering keeps WriteFailed = ⊤

-- what ends a run
abbrev pub EndsRun : Bool → RunError → Type 0
EndsRun keeps ReadFailed = ⊤
EndsRun keeps error = EndsAnswering keeps error

-- Where a run stopped that nothing failed but the reader: at the end of what there is to read, or
-- between two reads.
abbrev pub stopped_at_end : Result Stop RunError → Option Bool
stopped_at_end (Ok End) = Some true
stopped_at_end (Ok CheckpointDue) = Some false
stopped_at_end (Err ReadFailed) = Some false
stopped_at_end (Err error) = None

-- ---- what a start finds

-- whatever comes, these lines are found
abbrev pub FindsOnly : List (List ℕ) → (Option (List (List ℕ)) → Type 0) → Type 0
FindsOnly kept finds = (found : Option (List (List ℕ))) → finds found → found ≡ Some kept

-- whatever comes, these lines are found or those
abbrev pub FindsEither : List (List ℕ) → List (List ℕ) → (Option (List (List ℕ)) → Type 0) → Type 0
FindsEither kept more finds = (found : Option (List (List ℕ))) → finds found
    → (found ≡ Some kept) ⊎ (found ≡ Some more)

-- ---- what was answered

-- a line that was answered, what was replied, and whether it may have changed the service
pub record Entry : Type 0 where
  pub line : List ℕ
  pub reply : List ℕ
  pub changes : Bool

-- the lines that were answered
abbrev pub asked : List Entry → List (List ℕ)
asked [] = []
asked (entry ∷ entries) = entry.line ∷ asked entries

-- their replies, one behind the other
abbrev pub replies : List Entry → List ℕ
replies [] = []
replies (entry ∷ entries) = entry.reply ++ replies entries

-- the line, where it may have changed the service
abbrev pub if_changed : Bool → List ℕ → List (List ℕ)
if_changed true line = line ∷ []
if_changed false line = []

-- the lines that are kept
abbrev pub accepted : List Entry → List (List ℕ)
accepted [] = []
accepted (entry ∷ entries) = if_changed entry.changes entry.line ++ accepted entries

-- from one state the entries lead to the other
abbrev pub Trace : {S : Type 0} → (S → List ℕ → List ℕ → Bool → S → Type 0) → S → List Entry → S
    → Type 0
Trace {S} steps from [] to = from ≡ to
Trace {S} steps from (entry ∷ entries) to = (next : S)
    × steps from entry.line entry.reply entry.changes next × Trace steps next entries to

-- ---- what a run promises

-- where a run began: the service, the lines that the log had kept, what the writer held, the piece
-- of a line that was begun, and what the reader had left
pub record Start (S : Type 0) : Type 0 where
  pub service : S
  pub kept : List (List ℕ)
  pub held : Option (List ℕ)
  pub begun : List ℕ
  pub unread : Option (List ℕ)

abbrev pub from : {S : Type 0} → S → List (List ℕ) → Option (List ℕ) → List ℕ → Option (List ℕ)
    → Start S
from service kept held begun unread = record {
  service = service;
  kept = kept;
  held = held;
  begun = begun;
  unread = unread;
}

-- A start finds the lines that were kept, and those accepted among the first entries of the run.
-- Whatever was written are replies to these.
pub record Survives (kept : List (List ℕ)) (trace : List Entry) (written : List ℕ)
    (found : Option (List (List ℕ))) : Type 0 where
  pub front : List Entry
  pub rest : List Entry
  pub is : trace ≡ front ++ rest
  pub lines : found ≡ Some (kept ++ accepted front)
  pub bytes : ℕ
  pub answers : written ≡ take bytes (replies front)

-- Some lines of what was begun and read were answered, the first ones, in order. Whatever was
-- written are the first bytes of their replies. And what a start may find after a crash survives
-- so.
pub record Kept {S : Type 0} (steps : S → List ℕ → List ℕ → Bool → S → Type 0) (start : Start S)
    (contents left : Option (List ℕ)) (finds : Option (List (List ℕ)) → Type 0) : Type 0 where
  pub trace : List Entry
  pub to : S
  pub goes : Trace steps start.service trace to
  pub read : List ℕ
  pub consumes : Consumes start.unread left read
  pub later : List (List ℕ)
  pub asks : heard (start.begun ++ read) ≡ asked trace ++ later
  pub written : List ℕ
  pub wrote : Appends start.held contents written
  pub bytes : ℕ
  pub answers : written ≡ take bytes (replies trace)
  pub crash : (found : Option (List (List ℕ))) → finds found
      → Survives start.kept trace written found

-- Each line of what was begun and read was answered, in order; but one that isn't whole goes on,
-- where the reader has more. All that was accepted is kept, and all replies are written.
pub record Answers {S : Type 0} (steps : S → List ℕ → List ℕ → Bool → S → Type 0) (start : Start S)
    (at_end : Bool) (to : S) (contents : Option (List ℕ)) (piece : List ℕ) (left : Option (List ℕ))
    (holds : List (List ℕ) → List (List ℕ) → Type 0) : Type 0 where
  pub trace : List Entry
  pub goes : Trace steps start.service trace to
  pub read : List ℕ
  pub consumes : Consumes start.unread left read
  pub asks : asked trace ≡ heard_till at_end (start.begun ++ read)
  pub next : piece ≡ piece_till at_end (start.begun ++ read)
  pub has : holds (start.kept ++ accepted trace) []
  pub wrote : Appends start.held contents (replies trace)

-- How far a run has come: what its functions keep between themselves.
use Rattle.std.specs.Prelude.{◌≡◌, ℕ, List, ◌++◌, take, Bool, Option}
use Rattle.std.specs.Io.KnownBytes.{Appends}
use Rattle.line_loop.specs.Reads.{Reads}
use Rattle.line_loop.specs.Runs.{Entry, asked, replies, accepted, Trace, Start, Survives}

-- These lines were answered. What the first of them left is kept, and their replies are written;
-- the others wait.
pub record Serves {S : Type 0} (steps : S → List ℕ → List ℕ → Bool → S → Type 0) (start : Start S)
    (holds : List (List ℕ) → List (List ℕ) → Type 0) (to : S) (out : List ℕ)
    (contents : Option (List ℕ)) (lines : List (List ℕ)) : Type 0 where
  pub settled : List Entry
  pub waiting : List Entry
  pub middle : S
  pub goes : Trace steps start.service settled middle
  pub more : Trace steps middle waiting to
  pub asks : asked settled ++ asked waiting ≡ lines
  pub has : holds (start.kept ++ accepted settled) (accepted waiting)
  pub wrote : Appends start.held contents (replies settled)
  pub replied : out ≡ replies waiting

-- These lines were answered, and what a start may find survives so.
pub record Breaks {S : Type 0} (steps : S → List ℕ → List ℕ → Bool → S → Type 0) (start : Start S)
    (finds : Option (List (List ℕ)) → Type 0) (contents : Option (List ℕ)) (lines : List (List ℕ))
    : Type 0 where
  pub trace : List Entry
  pub to : S
  pub goes : Trace steps start.service trace to
  pub asks : asked trace ≡ lines
  pub written : List ℕ
  pub wrote : Appends start.held contents written
  pub bytes : ℕ
  pub answers : written ≡ take bytes (replies trace)
  pub crash : (found : Option (List (List ℕ))) → finds found
      → Survives start.kept trace written found

-- The lines that were answered are those that were read, but for a piece and the rest of the bytes.
pub record Runs {S : Type 0} (steps : S → List ℕ → List ℕ → Bool → S → Type 0) (start : Start S)
    (holds : List (List ℕ) → List (List ℕ) → Type 0) (to : S) (out : List ℕ)
    (contents left : Option (List ℕ)) (line rest : List ℕ) : Type 0 where
  pub lines : List (List ℕ)
  pub serves : Serves steps start holds to out contents lines
  pub reads : Reads start.begun start.unread left lines line rest

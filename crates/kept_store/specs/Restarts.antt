-- What a next start finds.
use Rattle.std.specs.Prelude.{◌≡◌, ℕ, List, ◌++◌, take, Option, Some}
use Rattle.std.specs.Io.KnownBytes.{Appends, Consumes}
use Rattle.meta_types.specs.Rows.{State, empty_store}
use Rattle.line_loop.specs.Reads.{heard}
use Rattle.line_loop.specs.Runs.{Entry, asked, replies, Trace, Start, Kept}
use Rattle.kept_store.specs.Replays.{store_after, StepsOf}

-- Lines are found, and no damage. They give the store after the first lines of what was begun and
-- read, in order. Whatever was written are replies to these.
pub record FindsAgain {S : Type 0} (steps : StepsOf S) (store_of : S → State) (start : Start S)
    (contents left : Option (List ℕ)) (found : Option (List (List ℕ))) : Type 0 where
  pub lines : List (List ℕ)
  pub sound : found ≡ Some lines
  pub front : List Entry
  pub middle : S
  pub goes : Trace steps start.service front middle
  pub finds : store_after empty_store lines ≡ store_of middle
  pub read : List ℕ
  pub consumes : Consumes start.unread left read
  pub later : List (List ℕ)
  pub asks : heard (start.begun ++ read) ≡ asked front ++ later
  pub written : List ℕ
  pub wrote : Appends start.held contents written
  pub bytes : ℕ
  pub answers : written ≡ take bytes (replies front)

-- The lines of the log survive, and those logged among the first lines of the run; and where the
-- store was the one of its log's lines, each next start finds it again.
abbrev pub KeepsStore : {S : Type 0} → StepsOf S → (S → State) → Start S → Option (List ℕ)
    → Option (List ℕ) → (Option (List (List ℕ)) → Type 0) → Type 0
KeepsStore steps store_of start contents left finds = Kept steps start contents left finds
    × (store_of start.service ≡ store_after empty_store start.kept
    → (found : Option (List (List ℕ))) → finds found
    → FindsAgain steps store_of start contents left found)

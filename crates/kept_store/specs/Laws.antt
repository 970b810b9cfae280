-- What holds of journals and stores. Each statement is the contract of a function of the module
-- `laws`.
use Rattle.std.specs.Prelude.{◌≡◌, ℕ, List, ◌++◌, false, codes, Option, None}
use Rattle.meta_types.specs.Rows.{State}
use Rattle.journal.specs.Text.{AreGroups, journal_text}
use Rattle.request_line.specs.Lines.{command_in}
use Rattle.line_loop.specs.Runs.{Entry, accepted, Trace, Start, Answers}
use Rattle.line_loop.specs.JournalLines.{lines_of}
use Rattle.line_loop.specs.Laws.{goes_on}
use Rattle.kept_store.specs.Replays.{store_after, requests_in, StepsOf}
use Rattle.kept_store.specs.Restarts.{FindsAgain}

-- The lines of a journal's text are those of its groups.
abbrev pub JournalsReplay : Type 0
JournalsReplay = (first : List ℕ) (groups : List (List (List ℕ))) → AreGroups groups
    → requests_in (journal_text first groups) ≡ lines_of groups

-- The store after a run is the one after its logged lines.
abbrev pub RunsReplay : {S : Type 0} → StepsOf S → (S → State) → Type 0
RunsReplay {S} steps store_of = (from to : S) (entries : List Entry)
    → Trace steps from entries to → store_of to ≡ store_after (store_of from) (accepted entries)

-- A line that begins by "number " asks for nothing, so each run refuses it.
abbrev pub NumbersAskNothing : Type 0
NumbersAskNothing = (rest : List ℕ) → command_in (codes "number " ++ rest) ≡ None

-- Of a call that stopped, and of one that goes on from there, over whatever log: what a next start
-- finds of the second, it finds of both as of one call.
abbrev pub RestartsJoin : {S L : Type 0} → StepsOf S → (S → State)
    → (L → List (List ℕ) → List (List ℕ) → Type 0) → Type 0
RestartsJoin {S} {L} steps store_of holds = (start : Start S) (mid : S)
    (contents contents2 : Option (List ℕ)) (piece : List ℕ) (left left2 : Option (List ℕ)) (log : L)
    (found : Option (List (List ℕ)))
    → (one : Answers steps start false mid contents piece left (holds log))
    → FindsAgain steps store_of (goes_on start mid contents piece left one.trace) contents2 left2
    found
    → FindsAgain steps store_of start contents2 left2 found

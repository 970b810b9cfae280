-- What a question beside the lock tells, and what refuses its copies. Ours, unless a source stands
-- beside.
use Rattle.std.specs.Prelude.{List}
use Rattle.meta_types.specs.Rows.{State}
use Rattle.meta_types.specs.Histories.{Entry, IsLegal}
use Rattle.meta_types.specs.declared.fault.Fault.{Fault}
use Rattle.store_front.specs.SessionEntries.{Seat}
use Rattle.store_front.specs.Parts.{part}
use Rattle.store_front.specs.Finish.{CutFails}

-- this holds of the state that the history in hand leads to
abbrev pub AnswersOf : State → List Entry → (State → Type 0) → Type 0
AnswersOf base log Holds = (state : State) × IsLegal base log state × Holds state

-- memory ran out, or the session's part of the log and its list differ
abbrev pub CopyFails : Fault → Seat → Type 0
CopyFails fault session = (log : List Entry) × CutFails fault (part session.number log) session.list

-- The answers that a session got, and a history of the store. Ours, unless a source stands beside.
use Rattle.std.specs.Prelude.{ℕ, List}
use Rattle.meta_types.specs.Rows.{State}
use Rattle.meta_types.specs.Steps.{Answer, Event}
use Rattle.meta_types.specs.Histories.{Entry}

-- an event with its answer
pub record SessionEntry : Type 0 where
  pub event : Event
  pub answer : Answer

-- a session: its number, and its events with their answers, in order
pub record Seat : Type 0 where
  pub number : ℕ
  pub list : List SessionEntry

-- a history: the store at the opening, and the entries since
pub record Course : Type 0 where
  pub base : State
  pub log : List Entry
